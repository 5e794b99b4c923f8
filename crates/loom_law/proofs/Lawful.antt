-- The laws of lawful journals.
use Rattle.std.proofs.Common.{◌≡◌, List, [], ◌∷◌, ◌++◌, sym, ap, subst, ◌∙◌}
use Rattle.loom_trace.specs.declared.entry.Entry.{Entry}
use Rattle.loom_lang.specs.Trace.{made}
use Rattle.loom_event.specs.TargetEvent.{TargetEvent, entry_of}
use Rattle.loom_event.specs.Replay.{start, replay, IsAllowed}
use Rattle.loom_law.specs.Walk.{goes, makes, entry_of_operation}
use Rattle.loom_law.specs.Lawful.{Setting, front_of, front_at, MayFollow, IsObeyed, IsLawful}
use Rattle.loom_law.specs.Laws.{Balances, MayTurn, HasBalance, IsAlwaysBalanced, HasNewInstalls, HasExclusion, IsAlwaysObeyed, HasNewest, HasOwedInstalled, HasRightLeaves, HasFronts, HasBeginning, HasEventTurns, HasOperationTurns, HasControlTurns}
use Rattle.loom_law.specs.OneRegion.{IsAlwaysInOneRegion, HasOneRegionUnderScript}
use Rattle.loom_law.proofs.Strict.{IsStrict, lawful, balances}
use Rattle.loom_law.proofs.Enough.{strict}
use Rattle.loom_law.proofs.Anew.{anew}
use Rattle.loom_law.proofs.Earlier as earlier
use Rattle.loom_law.proofs.Obedience as obeyed
use Rattle.loom_law.proofs.Newest as newest
use Rattle.loom_law.proofs.ActiveFilters as named
use Rattle.loom_law.proofs.Leaves as leaving
use Rattle.loom_law.proofs.SafeCrossings as crossings
use Rattle.loom_law.proofs.ScriptRegions as regions
use Rattle.loom_law.proofs.Turns as turns
use Rattle.loom_law.proofs.Longer as more

pub balance : HasBalance
balance s front rest h = obeyed.balance s front rest (strict s (front ++ rest) h).0

pub always_balanced : IsAlwaysBalanced
always_balanced s es h front x rest is =
    let k = strict s es h in
    subst (λ zs. Balances (front_at s zs front) x) k.1 (balances s es k.0 front x rest is)

pub new_installs : HasNewInstalls
new_installs s es h front k v row rest is = anew s es (strict s es h).0 front k v row rest is

pub exclusion : HasExclusion
exclusion s front rest h = obeyed.exclusion s front rest (strict s (front ++ rest) h).0

pub always_obeyed : IsAlwaysObeyed
always_obeyed s es h front x rest is =
    let k = strict s es h in
    subst (λ zs. IsObeyed s (front_at s zs front) x) k.1 (obeyed.always_obeyed s es k.0 front x rest is)

pub newest_version : HasNewest
newest_version s front rest h = newest.newest s front rest (strict s (front ++ rest) h).0

pub owed_installed : HasOwedInstalled
owed_installed s front rest h = named.owed_installed s front rest (strict s (front ++ rest) h).0

pub right_leaves : HasRightLeaves
right_leaves s front rest h = leaving.right_leaves s front rest (strict s (front ++ rest) h).0

pub always_in_one_region : IsAlwaysInOneRegion
always_in_one_region s front rest h = crossings.in_one_region s front rest (strict s (front ++ rest) h).0

pub one_region_under_script : HasOneRegionUnderScript
one_region_under_script s front rest h = regions.under_script s front rest (strict s (front ++ rest) h).0

pub fronts : HasFronts
fronts s front rest h = (lawful s front (earlier.fronts s front rest (strict s (front ++ rest) h).0)).0

-- One more entry

pub beginning : HasBeginning
beginning s =
    let b = more.beginning s in
    let n = lawful s [] b.0 in
    (n.0, n.1 ∙ b.1)

-- a longer journal of which more is known is lawful
longer : (s : Setting) (es : List Entry) (xs ys : List TargetEvent) → xs ≡ ys → (h : IsStrict s es) × (h.events ≡ xs) → (h' : IsLawful s es) × (h'.events ≡ ys)
longer s es xs ys same h = let n = lawful s es h.0 in (n.0, n.1 ∙ (h.1 ∙ same))

pub event_turns : HasEventTurns
event_turns s es h open_ y m ok =
    let k = strict s es h in
    longer s (es ++ entry_of y ∷ []) _ _ (ap (λ zs. zs ++ y ∷ []) k.1)
    (turns.event_turns s es k.0 open_ y (subst (λ zs. MayTurn s es zs y.thread (entry_of y) (goes (made y.line y.act))) (sym k.1) m)
    (subst (λ zs. IsAllowed (replay (start s.program s.threads) zs) y) (sym k.1) ok))

pub operation_turns : HasOperationTurns
operation_turns s es h open_ t l o m =
    let k = strict s es h in
    longer s (es ++ entry_of_operation t l o ∷ []) _ _ k.1
    (turns.operation_turns s es k.0 open_ t l o (subst (λ zs. MayTurn s es zs t (entry_of_operation t l o) (makes l o)) (sym k.1) m))

pub control_turns : HasControlTurns
control_turns s es h open_ x none follows =
    let k = strict s es h in
    longer s (es ++ x ∷ []) _ _ k.1
    (more.control_turns s es k.0 open_ x none (subst (λ zs. MayFollow s (front_of s es zs) x []) (sym k.1) follows))
