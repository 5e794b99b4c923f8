-- The laws.
use Rattle.std.proofs.Common.{◌≡◌, ℕ, zero, suc, ◌<◌, ◌≤◌, true, true≢false, List, [], ◌∷◌, sym, refl, ap, ◌∙◌, subst, inl, inr, ⊎_elim, arith, All}
use mathlib.Core.Logic.{dite}
use native.Mathlib.Decide.{ℕ_discrete}
use Rattle.loom_trace.specs.Places.{has_bit, has_place}
use Rattle.loom_gate.specs.declared.view.Stage.{Stage}
use Rattle.loom_gate.specs.declared.view.Stage.TheVariants.{Stands, Tries, Clear, Inside}
use Rattle.loom_gate.specs.declared.log.PassRow.{PassRow}
use Rattle.loom_gate.specs.declared.log.SwitchRow.{SwitchRow}
use Rattle.loom_gate.specs.declared.view.PassView.{PassView}
use Rattle.loom_gate.specs.View.{place_of, pass_of, entered}
use Rattle.loom_gate.specs.GateMachine.{GateMachine, StageFits, RowsFit, SwitchFits}
use Rattle.loom_gate.specs.Laws.{InsideHasVersion, FoundIsAt, RaisedKeepsOut, SwitchMeetsNobody, IsAt, GateStep, AreSteps, StaysOut, ToldIsStep, IsBeforeEntering, WaitsWhereFound}
use Rattle.loom_gate.specs.Laws.PassStep.{try, check, back, read, poll, leave}
use Rattle.loom_gate.specs.Laws.GateStep.{pass, flag, look, switch}
use Rattle.loom_gate.proofs.Rows.{all_map, from_none, version_none}
use Rattle.loom_gate.proofs.Machines.{found_there, nobody_inside, clear_not_found}
use Rattle.loom_gate.proofs.CallFacts.{checked_set}

pub inside_has_version : InsideHasVersion
inside_has_version n t v m l is at =
    let f : StageFits m.key.places m.key.version (m.passes t).tries (m.passes t).fresh (Inside v) = subst (λ (s : Stage). StageFits m.key.places m.key.version (m.passes t).tries (m.passes t).fresh s) at (l.stages t is) in
    sym f.0

pub found_is_at : FoundIsAt
found_is_at n t place m l is at on = found_there n m t place is at on l

-- the place where it is
at_place : (place : ℕ) (p : PassView) → IsAt place p → place_of p.stage ≡ place
at_place place p h = ⊎_elim (λ (e : p.stage ≡ Stands place). ap place_of e) (λ (e : p.stage ≡ Tries place). ap place_of e) h

pub raised_keeps_out : RaisedKeepsOut
raised_keeps_out up version t place p q on at (try x e d) =
    inr (ap (λ (r : PassView). r.stage) d ∙ ap Tries (at_place place p at))
raised_keeps_out up version t place p q on at (check x i word e bits d) =
    let same : x ≡ place = ap place_of (sym e) ∙ at_place place p at in
    let set : has_bit word place ≡ true = subst (λ (y : ℕ). has_bit word y ≡ has_place up y) same bits ∙ on in
    inr (ap (λ (r : PassView). r.stage) d ∙ checked_set i word place p (e ∙ ap Tries same) set)
raised_keeps_out up version t place p q on at (back x e d) =
    let same : x ≡ place = ap place_of (sym e) ∙ at_place place p at in
    inl (ap (λ (r : PassView). r.stage) d ∙ ap Stands same)
raised_keeps_out up version t place p q on at (read x e d) = absurd (clear_not_found p.stage 0 place (inr (x, e)) at)
raised_keeps_out up version t place p q on at (poll v i word e d) = absurd (clear_not_found p.stage v place (inl e) at)
raised_keeps_out up version t place p q on at (leave v x e d) = absurd (clear_not_found p.stage v place (inl e) at)

-- it is at the place behind any step that begins where the place is up
still : (n t place : ℕ) (m a : GateMachine) → IsAt place (m.passes t) → has_place m.key.up place ≡ true → GateStep n m a → IsAt place (a.passes t)
still n t place m a at on (pass s step others key) = dite (ℕ_discrete t s)
    (λ e. subst (λ (x : ℕ). IsAt place (a.passes x)) (sym e) (raised_keeps_out m.key.up m.key.version s place (m.passes s) (a.passes s) on (subst (λ (x : ℕ). IsAt place (m.passes x)) e at) step))
    (λ other. subst (λ (p : PassView). IsAt place p) (sym (others t other)) at)
still n t place m a at on (flag i word same key) = subst (λ (f : ℕ → PassView). IsAt place (f t)) (sym same) at
still n t place m a at on (look s is same key) = subst (λ (f : ℕ → PassView). IsAt place (f t)) (sym same) at
still n t place m a at on (switch all same key) = subst (λ (f : ℕ → PassView). IsAt place (f t)) (sym same) at

all_cons : {A : Type 0} (P : A → Type 0) (x : A) (xs : List A) → P x → All P xs → All P (x ∷ xs)
all_cons P x xs p h zero d l = p
all_cons P x xs p h (suc k) d l = h k d (omega arith)

stays : (n t place : ℕ) (m : GateMachine) (later : List GateMachine) → IsAt place (m.passes t) → has_place m.key.up place ≡ true → AreSteps n m later → All (λ (a : GateMachine). has_place a.key.up place ≡ true) later
    → All (λ (a : GateMachine). IsAt place (a.passes t)) later
stays n t place m [] at on steps ups = λ k d l. absurd (omega arith)
stays n t place m (a ∷ more) at on steps ups =
    let here = still n t place m a at on steps.0 in
    all_cons (λ (x : GateMachine). IsAt place (x.passes t)) a more here (stays n t place a more here (ups 0 a (omega arith)) steps.1 (λ k d l. ups (suc k) d (omega arith)))

pub stays_out : StaysOut
stays_out n t place m later l is at on steps ups = stays n t place m later (found_there n m t place is at on l) on steps ups

-- a pass with no row since a version isn't inside with it or a later one
where_at : (t place since places version : ℕ) (p : PassView) (st : Stage) → p.stage ≡ st → place_of st ≡ place → since ≤ version → StageFits places version p.tries p.fresh st
    → RowsFit t version p → All (λ (r : PassRow). r.version < since) p.rows → IsBeforeEntering place p
where_at t place since places version p (Stands q) at is low fits rows old = inl (at ∙ ap Stands is)
where_at t place since places version p (Tries q) at is low fits rows old = inr (inl (at ∙ ap Tries is))
where_at t place since places version p (Clear q) at is low fits rows old = inr (inr (at ∙ ap Clear is))
where_at t place since places version p (Inside v) at is low fits rows old =
    let same : v ≡ version = fits.0 in
    absurd (true≢false (sym (rows.newest v fits.2) ∙ version_none v p.rows (all_map (λ (r : PassRow). r.version < since) (λ (r : PassRow). r.version < v) p.rows (λ r h. omega arith) old)))

pub waits_where_found : WaitsWhereFound
waits_where_found n m l =
    all_map (SwitchFits n m) (λ (w : SwitchRow). All (λ (r : PassRow). r.version < w.version) (m.passes w.thread).rows → IsBeforeEntering w.place (m.passes w.thread)) m.key.switches
    (λ w h old.
    let p : PassView = m.passes w.thread in
    let rows = l.rows w.thread h.0 in
    let both : All (λ (r : PassRow). (r.thread ≡ w.thread) × (r.version < w.version)) p.rows = λ k d g. ((rows.below k d g).0, old k d g) in
    where_at w.thread w.place w.version m.key.places m.key.version p p.stage refl
    (sym (from_none w.thread w.version (place_of p.stage) p.rows both) ∙ h.2) h.1 (l.stages w.thread h.0) rows old)
    l.switches

pub told_is_step : ToldIsStep
told_is_step st t n p q c = (
  λ place at h. let d = ap (λ m. pass_of m.0) h.0 in let a = h.1 in
      (a.0, a.1, a.2, a.3, a.4, check place st.word n at (subst (λ (s : Stage). has_bit n (place_of s) ≡ has_place a.1.key.up (place_of s)) at a.5) d),
  λ place at h. let d = ap (λ m. pass_of m.0) h.0 in let a = h.1 in
      (a.0, a.1, a.2, a.3, a.4, read place at (d ∙ ap (λ (v : ℕ). entered t v p) a.5)),
  λ v at h. let d = ap (λ m. pass_of m.0) h.0 in let a = h.1 in (a.0, a.1, a.2, a.3, a.4, poll v st.word n at d),
  λ v at h. let d = ap (λ m. pass_of m.0) h.0 in let a = h.1 in (a.0, a.1, a.2, a.3, a.4, leave v st.first at d),
  λ at h. let d = ap (λ m. pass_of m.0) h.0 in let a = h.1 in (a.0, a.1, a.2, a.3, a.4, back st.first at d),
)

pub switch_meets_nobody : SwitchMeetsNobody
switch_meets_nobody n m l all = nobody_inside n m all l
