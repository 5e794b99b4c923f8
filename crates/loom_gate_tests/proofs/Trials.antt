-- Gates of one thread.
use Rattle.std.proofs.Common.{◌≡◌, ℕ, ◌<◌, ◌==◌, ne_eqb, Bool, true, false, true≢false, if◌then◌else◌, List, [], ◌∷◌, ◌++◌, length, get_or, set, sym, refl, ap, ◌∙◌, subst, arith, get_or-set_same, All, Option, Some, None}
use Rattle.std.specs.Prelude.{IfSome, option_to_list}
use mathlib.Core.Logic.{dite}
use native.Mathlib.Decide.{ℕ_discrete}
use Rattle.atomic_table.specs.Seated.{TableId}
use Rattle.loom_trace.specs.Places.{has_place}
use Rattle.loom_gate.specs.declared.pass.Pass as pass
use Rattle.loom_gate.specs.declared.view.Look.{Look}
use Rattle.loom_gate.specs.declared.view.Look.TheVariants.{Unknown, SawPlace}
use Rattle.loom_gate.specs.declared.view.KeyView.{KeyView}
use Rattle.loom_gate.specs.GateMachine.{AllStood}
use Rattle.loom_gate.specs.Seats.{IsPassAt, ArePassesFrom, IsStanding}
use Rattle.loom_gate.proofs.Rows.{length_snoc}

pub the_only : (id : TableId) (n places : ℕ) (ps new : List pass.Pass) (p : pass.Pass) → ps ≡ new ++ p ∷ [] → length ps ≡ 1 → ArePassesFrom id n places 1 ps → All IsStanding ps
    → (new ≡ []) × IsPassAt id n places p × IsStanding p × (p.thread ≡ 1)
the_only id n places ps [] p e one are stand =
    let a = subst (λ (xs : List pass.Pass). ArePassesFrom id n places 1 xs) e are in
    let s = subst (λ (xs : List pass.Pass). All IsStanding xs) e stand in
    (refl, a.1, s 0 p (omega arith), a.0)
the_only id n places ps (x ∷ xs) p e one are stand = absurd (let l = ap (λ (ys : List pass.Pass). length ys) e in let s = length_snoc xs p in omega arith)

pub only_pass : (id : TableId) (n places : ℕ) (ps new : List pass.Pass) (o : Option pass.Pass) → ps ≡ new ++ option_to_list o → length ps ≡ 1 → ArePassesFrom id n places 1 ps → All IsStanding ps
    → IfSome o (λ (p : pass.Pass). IsPassAt id n places p × IsStanding p × (p.thread ≡ 1))
only_pass id n places ps new None e one are stand = tt
only_pass id n places ps new (Some p) e one are stand = let h = the_only id n places ps new p e one are stand in (h.1, h.2, h.3)

pub only_rest : (id : TableId) (n places : ℕ) (ps new : List pass.Pass) (o : Option pass.Pass) → ps ≡ new ++ option_to_list o → length ps ≡ 1 → ArePassesFrom id n places 1 ps → All IsStanding ps
    → IfSome o (λ (p : pass.Pass). new ≡ [])
only_rest id n places ps new None e one are stand = tt
only_rest id n places ps new (Some p) e one are stand = (the_only id n places ps new p e one are stand).0

pub two_below : (places : List ℕ) (a b limit p : ℕ) → a < limit → b < limit → has_place places p ≡ (if p == b then true else (if p == a then true else false)) → has_place places p ≡ true → p < limit
two_below places a b limit p low_a low_b is on = dite (ℕ_discrete p b)
    (λ e. omega arith)
    (λ far. dite (ℕ_discrete p a)
    (λ e. omega arith)
    (λ other. absurd (true≢false (sym on ∙ (is ∙ (ap (λ (x : Bool). if x then true else (if p == a then true else false)) (ne_eqb p b far) ∙ ap (λ (x : Bool). if x then true else false) (ne_eqb p a other)))))))

-- the one thread was found at a raised place
pub all_of_one : (k : KeyView) (n p : ℕ) (old : List Look) → n ≡ 1 → k.looks ≡ set old 1 (SawPlace p) → 1 < length old → has_place k.up p ≡ true → AllStood n k
all_of_one k n p old one e wide on t is =
    let a = is.0 in let b = is.1 in
    let here : t ≡ 1 = omega arith in
    (p, ap (λ (ls : List Look). get_or ls t Unknown) e ∙ (ap (λ (x : ℕ). get_or (set old 1 (SawPlace p)) x Unknown) here ∙ get_or-set_same old 1 (SawPlace p) Unknown wide), on)
