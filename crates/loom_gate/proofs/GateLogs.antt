-- The record at the end.
use Rattle.std.proofs.Common.{◌≡◌, ◌≢◌, ℕ, zero, suc, ◌+◌, ◌-◌, ◌<◌, ◌≤◌, ◌&&◌, ne_eqb, Bool, if◌then◌else◌, List, [], ◌∷◌, ◌++◌, map, length, get_or, leb, sym, refl, ap, ◌∙◌, subst, inl, arith, All}
use mathlib.Core.Logic.{dite}
use native.Mathlib.Decide.{ℕ_discrete}
use Rattle.loom_gate.specs.declared.log.PassRow.{PassRow}
use Rattle.loom_gate.specs.declared.log.SwitchRow.{SwitchRow}
use Rattle.loom_gate.specs.declared.pass.Pass as pass
use Rattle.loom_gate.specs.declared.view.PassView.{PassView}
use Rattle.atomic_table.specs.Seated.{TableId}
use Rattle.loom_gate.specs.View.{start, place_of}
use Rattle.loom_gate.specs.Record.{is_from, place_from, IsBefore, AreInOrder}
use Rattle.loom_gate.specs.GateMachine.{IsThread, GateMachine, Lawful, SwitchFits}
use Rattle.loom_gate.specs.Seats.{view_of_pass, IsStanding, ArePassesFrom, rows_of, ends_of}
use Rattle.loom_gate.proofs.Rows.{all_map, all_append, order_append}

-- rows of another thread are passed over
from_other : (t s v end : ℕ) (rs : List PassRow) → s ≢ t → All (λ (r : PassRow). r.thread ≡ s) rs → place_from t v end rs ≡ end
from_other t s v end [] ne h = refl
from_other t s v end (r ∷ rs) ne h =
    ap (λ (b : Bool). if b && leb v r.version then r.place else place_from t v end rs) (ne_eqb r.thread t (λ e. ne (sym (h 0 r (omega arith)) ∙ e)))
    ∙ from_other t s v end rs ne (λ k d l. h (suc k) d (omega arith))

from_append : (t v end : ℕ) (rs qs : List PassRow) → place_from t v end (rs ++ qs) ≡ place_from t v (place_from t v end qs) rs
from_append t v end [] qs = refl
from_append t v end (r ∷ rs) qs = ap (λ (x : ℕ). if is_from t v r then r.place else x) (from_append t v end rs qs)

-- the rows of each pass are of its thread
RowsFrom : ℕ → List pass.Pass → Type 0
RowsFrom s [] = Unit {0}
RowsFrom s (p ∷ ps) = All (λ (r : PassRow). r.thread ≡ s) p.rows.items × RowsFrom (s + 1) ps

later_none : (s t v end : ℕ) (ps : List pass.Pass) → t < s → RowsFrom s ps → place_from t v end (rows_of ps) ≡ end
unfolding RowsFrom
later_none s t v end [] low h = refl
later_none s t v end (p ∷ ps) low h =
    from_append t v end p.rows.items (rows_of ps)
    ∙ (from_other t s v (place_from t v end (rows_of ps)) p.rows.items (λ e. omega arith) h.0
    ∙ later_none (s + 1) t v end ps (omega arith) h.1)

-- of all rows, those of thread t count
own_rows : (s t v end : ℕ) (ps : List pass.Pass) (d : pass.Pass) → s ≤ t → t < s + length ps → RowsFrom s ps → place_from t v end (rows_of ps) ≡ place_from t v end (get_or ps (t - s) d).rows.items
unfolding RowsFrom
own_rows s t v end [] d low high h = absurd (omega arith)
own_rows s t v end (p ∷ ps) d low high h = dite (ℕ_discrete s t)
    (λ e. let zero_is : t - s ≡ 0 = omega arith in
    from_append t v end p.rows.items (rows_of ps)
    ∙ (ap (λ (x : ℕ). place_from t v x p.rows.items) (later_none (s + 1) t v end ps (omega arith) h.1)
    ∙ ap (λ (i : ℕ). place_from t v end (get_or (p ∷ ps) i d).rows.items) (sym zero_is)))
    (λ ne. let next : t - s ≡ suc (t - (s + 1)) = omega arith in
    from_append t v end p.rows.items (rows_of ps)
    ∙ (from_other t s v (place_from t v end (rows_of ps)) p.rows.items ne h.0
    ∙ (own_rows (s + 1) t v end ps d (omega arith) (omega arith) h.1
    ∙ ap (λ (i : ℕ). place_from t v end (get_or (p ∷ ps) i d).rows.items) (sym next))))

module _ (id : TableId) (n places : ℕ) (m : GateMachine) (l : Lawful n m) where
  rows_from : (s : ℕ) (ps : List pass.Pass) → ArePassesFrom id n places s ps → ((i : ℕ) → i < length ps → m.passes (s + i) ≡ get_or (map view_of_pass ps) i start) → RowsFrom s ps
  unfolding RowsFrom
  rows_from s [] are is = tt
  rows_from s (p ∷ ps) are is =
      let this : m.passes s ≡ view_of_pass p = ap (λ (x : ℕ). m.passes x) (omega arith) ∙ is 0 (omega arith) in
      let thread : IsThread n s = subst (λ (x : ℕ). IsThread n x) are.0 are.1.1 in
      let below = (l.rows s thread).below in (
        subst (λ (rs : List PassRow). All (λ (r : PassRow). r.thread ≡ s) rs) (ap (λ (x : PassView). x.rows) this ∙ sym are.1.5)
            (all_map (λ (r : PassRow). (r.thread ≡ s) × (r.version < (m.passes s).fresh)) (λ (r : PassRow). r.thread ≡ s) (m.passes s).rows (λ r h. h.0) below),
        rows_from (s + 1) ps are.2 (λ i h. ap (λ (x : ℕ). m.passes x) (omega arith) ∙ is (suc i) (omega arith)),
      )

  -- the record's rows are in order, from thread s on
  pub rows_order : (s : ℕ) (ps : List pass.Pass) → ArePassesFrom id n places s ps → ((i : ℕ) → i < length ps → m.passes (s + i) ≡ get_or (map view_of_pass ps) i start)
      → AreInOrder (rows_of ps) × All (λ (r : PassRow). s ≤ r.thread) (rows_of ps)
  rows_order s [] are is = (tt, λ k d l. absurd (omega arith))
  rows_order s (p ∷ ps) are is =
      let this : m.passes s ≡ view_of_pass p = ap (λ (x : ℕ). m.passes x) (omega arith) ∙ is 0 (omega arith) in
      let thread : IsThread n s = subst (λ (x : ℕ). IsThread n x) are.0 are.1.1 in
      let fit = l.rows s thread in
      let same : (m.passes s).rows ≡ p.rows.items = ap (λ (x : PassView). x.rows) this ∙ sym are.1.5 in
      let rest = rows_order (s + 1) ps are.2 (λ i h. ap (λ (x : ℕ). m.passes x) (omega arith) ∙ is (suc i) (omega arith)) in
      let own : All (λ (r : PassRow). r.thread ≡ s) p.rows.items = subst (λ (rs : List PassRow). All (λ (r : PassRow). r.thread ≡ s) rs) same
      (all_map (λ (r : PassRow). (r.thread ≡ s) × (r.version < (m.passes s).fresh)) (λ (r : PassRow). r.thread ≡ s) (m.passes s).rows (λ r h. h.0) fit.below) in (
        order_append p.rows.items (rows_of ps) (subst AreInOrder same fit.order) rest.0
            (all_map (λ (r : PassRow). r.thread ≡ s) (λ (x : PassRow). All (IsBefore x) (rows_of ps)) p.rows.items
            (λ x e. all_map (λ (r : PassRow). s + 1 ≤ r.thread) (IsBefore x) (rows_of ps) (λ r h. inl (omega arith)) rest.1) own),
        all_append (λ (r : PassRow). s ≤ r.thread) p.rows.items (rows_of ps)
            (all_map (λ (r : PassRow). r.thread ≡ s) (λ (r : PassRow). s ≤ r.thread) p.rows.items (λ r h. omega arith) own)
            (all_map (λ (r : PassRow). s + 1 ≤ r.thread) (λ (r : PassRow). s ≤ r.thread) (rows_of ps) (λ r h. omega arith) rest.1),
      )

  ends_at : (ps : List pass.Pass) (i : ℕ) (d : pass.Pass) → i < length ps → get_or (ends_of ps) i 0 ≡ (get_or ps i d).place
  ends_at [] i d h = absurd (omega arith)
  ends_at (p ∷ ps) zero d h = refl
  ends_at (p ∷ ps) (suc i) d h = ends_at ps i d (omega arith)

  views_at : (ps : List pass.Pass) (i : ℕ) (d : pass.Pass) → i < length ps → get_or (map view_of_pass ps) i start ≡ view_of_pass (get_or ps i d)
  views_at [] i d h = absurd (omega arith)
  views_at (p ∷ ps) zero d h = refl
  views_at (p ∷ ps) (suc i) d h = views_at ps i d (omega arith)

  rows_at : (s : ℕ) (ps : List pass.Pass) (i : ℕ) (d : pass.Pass) → i < length ps → ArePassesFrom id n places s ps → (get_or ps i d).rows.items ≡ (view_of_pass (get_or ps i d)).rows
  rows_at s [] i d h are = absurd (omega arith)
  rows_at s (p ∷ ps) zero d h are = are.1.5
  rows_at s (p ∷ ps) (suc i) d h are = rows_at (s + 1) ps i d (omega arith) are.2

  -- the record of all passes, which stand, is sound
  pub sound : (ps : List pass.Pass) → ArePassesFrom id n places 1 ps → length ps ≡ n → All IsStanding ps
      → ((t : ℕ) → t < length ps → m.passes (t + 1) ≡ get_or (map view_of_pass ps) t start)
      → All (λ (w : SwitchRow). place_from w.thread w.version (get_or (ends_of ps) (w.thread - 1) 0) (rows_of ps) ≡ w.place) m.key.switches
  sound [] are all stand is = all_map (SwitchFits n m) (λ (w : SwitchRow). place_from w.thread w.version (get_or (ends_of []) (w.thread - 1) 0) (rows_of []) ≡ w.place) m.key.switches
      (λ w h. let a = h.0.0 in let b = h.0.1 in absurd (omega arith)) l.switches
  sound (p0 ∷ ps0) are all stand is =
      let ps : List pass.Pass = p0 ∷ ps0 in
      all_map (SwitchFits n m) (λ (w : SwitchRow). place_from w.thread w.version (get_or (ends_of ps) (w.thread - 1) 0) (rows_of ps) ≡ w.place) m.key.switches
      (λ w h.
      let a = h.0.0 in let b = h.0.1 in
      let i : ℕ = w.thread - 1 in
      let low : i < length ps = omega arith in
      let p : pass.Pass = get_or ps i p0 in
      let view : m.passes w.thread ≡ view_of_pass p = ap (λ (x : ℕ). m.passes x) (omega arith) ∙ (is i low ∙ views_at ps i p0 low) in
      let end : get_or (ends_of ps) i 0 ≡ place_of (m.passes w.thread).stage = ends_at ps i p0 low ∙ sym (ap (λ (x : PassView). place_of x.stage) view ∙ ap place_of (stand i p0 low)) in
      let rows : p.rows.items ≡ (m.passes w.thread).rows = rows_at 1 ps i p0 low are ∙ sym (ap (λ (x : PassView). x.rows) view) in
      own_rows 1 w.thread w.version (get_or (ends_of ps) i 0) ps p0 (omega arith) (omega arith) (rows_from 1 ps are (λ j g. ap (λ (x : ℕ). m.passes x) (omega arith) ∙ is j g))
      ∙ (ap (λ (x : ℕ). place_from w.thread w.version x p.rows.items) end
      ∙ (ap (λ (rs : List PassRow). place_from w.thread w.version (place_of (m.passes w.thread).stage) rs) rows
      ∙ h.2)))
      l.switches
