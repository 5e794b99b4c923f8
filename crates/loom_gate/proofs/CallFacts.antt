-- What calls tell, from what their steps told.
use Rattle.std.proofs.Common.{◌≡◌, ℕ, ◌+◌, ◌<◌, ◌≤◌, eq-eqb, ne_eqb, Bool, true, false, if◌then◌else◌, List, [], ◌∷◌, ◌++◌, length, sym, ap, ◌∙◌, subst, arith}
use mathlib.Core.Logic.{dite}
use native.Mathlib.Decide.{ℕ_discrete}
use Rattle.atomic_table.specs.Table.{Me}
use Rattle.loom_trace.specs.Places.{has_bit}
use Rattle.loom_gate.specs.declared.log.PassRow.{PassRow}
use Rattle.loom_gate.specs.declared.view.Stage.{Stage}
use Rattle.loom_gate.specs.declared.view.Stage.TheVariants.{Stands, Tries, Clear, Inside}
use Rattle.loom_gate.specs.declared.view.PassView.{PassView}
use Rattle.loom_gate.specs.declared.view.View.{View}
use Rattle.loom_gate.specs.declared.view.View.TheVariants.{Pass}
use Rattle.loom_gate.specs.View.{place_of, tried, checked, with_row, thread_of, pass_of}
use Rattle.loom_gate.specs.Record.{has_version}
use Rattle.loom_gate.specs.GateMachine.{StageFits, RowsFit, Amid}
use Rattle.loom_gate.specs.Tells.{passed}
use Rattle.loom_gate.proofs.Rows.{all_map, version_none}

module _ {S : Type 0} where
  pub after_pass : (m m' : Me S View) (t : ℕ) (p : PassView) (g : PassView → PassView) → m ≡ (Pass t p, []) → m' ≡ passed m g → m' ≡ (Pass t (g p), [])
  after_pass m m' t p g e d = d ∙ ap (λ (x : Me S View). passed x g) e

  pub read_then : (t v : ℕ) (q : PassView) (m : Me S View) → m ≡ (Pass t q, []) → Amid (thread_of m.0) (pass_of m.0) (λ a. v ≡ a.key.version) → Amid t q (λ a. v ≡ a.key.version)
  read_then t v q m e a = subst (λ (x : Me S View). Amid (thread_of x.0) (pass_of x.0) (λ a. v ≡ a.key.version)) e a

pub tried_place : (p : PassView) (place : ℕ) → p.stage ≡ Stands place → (tried p).stage ≡ Tries place
tried_place p place at = ap (λ (s : Stage). Tries (place_of s)) at

pub checked_set : (i word place : ℕ) (q : PassView) → q.stage ≡ Tries place → has_bit word place ≡ true → (checked i word q).stage ≡ Tries place
checked_set i word place q at on = ap (λ (s : Stage). if has_bit word (place_of s) then Tries (place_of s) else Clear (place_of s)) at ∙ ap (λ (b : Bool). if b then Tries place else Clear place) on

pub checked_clear : (i word place : ℕ) (q : PassView) → q.stage ≡ Tries place → has_bit word place ≡ false → (checked i word q).stage ≡ Clear place
checked_clear i word place q at on = ap (λ (s : Stage). if has_bit word (place_of s) then Tries (place_of s) else Clear (place_of s)) at ∙ ap (λ (b : Bool). if b then Tries place else Clear place) on

-- inside, the version stays the one that was read
pub same_version : (t v : ℕ) (p : PassView) → p.stage ≡ Inside v → Amid t p (λ a. Unit {0}) → Amid t p (λ a. a.key.version ≡ v)
same_version t v p at a =
    let h : StageFits a.1.key.places a.1.key.version p.tries p.fresh p.stage = subst (λ (x : PassView). StageFits a.1.key.places a.1.key.version x.tries x.fresh x.stage) a.4 (a.2.stages t a.3) in
    let f : StageFits a.1.key.places a.1.key.version p.tries p.fresh (Inside v) = subst (λ (s : Stage). StageFits a.1.key.places a.1.key.version p.tries p.fresh s) at h in
    (a.0, a.1, a.2, a.3, a.4, sym f.0)

-- the rows of a pass that read this version
rows_then : (t v : ℕ) (p : PassView) → Amid t p (λ a. v ≡ a.key.version) → RowsFit t v p
rows_then t v p a = subst (λ (w : ℕ). RowsFit t w p) (sym a.5) (subst (λ (x : PassView). RowsFit t a.1.key.version x) a.4 (a.2.rows t a.3))

pub room_then : (t v : ℕ) (p : PassView) → Amid t p (λ a. v ≡ a.key.version) → (length p.rows ≤ p.fresh) × (p.fresh ≤ v + 1) × (v ≤ 128)
room_then t v p a = let r = rows_then t v p a in let most = a.2.most in let e = a.5 in (r.count, r.fresh, omega arith)

-- a row comes where none has the version
pub row_told : (t v place : ℕ) (p : PassView) → Amid t p (λ a. v ≡ a.key.version)
    → with_row p.fresh t v place p.rows ≡ (if has_version v p.rows then p.rows else p.rows ++ record { thread = t; version = v; place = place } ∷ [])
row_told t v place p a =
    let r = rows_then t v p a in
    let more : List PassRow = p.rows ++ record { thread = t; version = v; place = place } ∷ [] in
    dite (ℕ_discrete p.fresh (v + 1))
    (λ e. ap (λ (b : Bool). if b then p.rows else more) (eq-eqb p.fresh (v + 1) e) ∙ sym (ap (λ (b : Bool). if b then p.rows else more) (r.newest v e)))
    (λ other. let low = r.fresh in
    ap (λ (b : Bool). if b then p.rows else more) (ne_eqb p.fresh (v + 1) other)
    ∙ sym (ap (λ (b : Bool). if b then p.rows else more)
    (version_none v p.rows (all_map (λ (x : PassRow). (x.thread ≡ t) × (x.version < p.fresh)) (λ (x : PassRow). x.version < v) p.rows (λ x h. let b = h.1 in omega arith) r.below))))
