-- Lists of seats, one more or one less.
use Rattle.std.proofs.Common.{◌≡◌, ℕ, zero, suc, ◌+◌, ◌-◌, ◌<◌, List, [], ◌∷◌, ◌++◌, sym, ap, ◌∙◌, subst, arith, Option, Some, All}
use Rattle.std.specs.Prelude.{sum_by}
use Rattle.std.proofs.lemmas.List.Sums.{sum_by_push}
use mathlib.Core.Option as maybe
use mathlib.Core.Option.{some, some-injective}
use lib.ListN.{get_elem?}
use Rattle.atomic_table.specs.Table.{Final, Seen}
use Rattle.atomic_table.specs.Seated.{TableId}
use Rattle.loom_turn.specs.declared.view.SeatView.{SeatView}
use Rattle.loom_turn.specs.declared.view.SeatStage.TheVariants.{Idle}
use Rattle.loom_turn.specs.Lock.{seat_view}
use Rattle.loom_turn.specs.TicketRule.{TicketRule}
use Rattle.loom_turn.specs.Seat.{Seat, IsSeatAt, IsIdle, IsSameSeat, parts_of}
use Rattle.loom_turn.proofs.Tables.{ends}

module _ {A : Type 0} (P : A → Type 0) where
  all_front : (xs ys : List A) → All P (xs ++ ys) → All P xs
  all_front [] ys h k d l = absurd (omega arith)
  all_front (x ∷ xs) ys h zero d l = h 0 d (omega arith)
  all_front (x ∷ xs) ys h (suc k) d l = all_front xs ys (λ k d l. h (suc k) d (omega arith)) k d (omega arith)

  all_last : (xs : List A) (x : A) → All P (xs ++ x ∷ []) → P x
  all_last [] x h = h 0 x (omega arith)
  all_last (y ∷ ys) x h = all_last ys x (λ k d l. h (suc k) d (omega arith))

  all_more : (xs : List A) (x : A) → All P xs → P x → All P (xs ++ x ∷ [])
  all_more [] x h p zero d l = p
  all_more [] x h p (suc k) d l = absurd (omega arith)
  all_more (y ∷ ys) x h p zero d l = h 0 d (omega arith)
  all_more (y ∷ ys) x h p (suc k) d l = all_more ys x (λ k d l. h (suc k) d (omega arith)) p k d (omega arith)

module _ {T L : Type 0} where
  pub fewer_parts : (xs ys : List (Seat T L)) (x : Seat T L) (n : ℕ) → xs ≡ ys ++ x ∷ [] → sum_by parts_of xs + n ≡ 256 → sum_by parts_of ys + (n + x.me.0.parts) ≡ 256
  fewer_parts xs ys x n e h = let a = ap (sum_by parts_of) e in let b = sum_by_push parts_of ys x in omega arith

module _ {T L : Type 0} (id : TableId) (l : L) where
  abbrev pub Good : Seat T L → Type 0
  Good s = IsSeatAt id l s × IsIdle s

  pub pops : (xs ys : List (Seat T L)) (x : Seat T L) → xs ≡ ys ++ x ∷ [] → All Good xs → All Good ys × IsSeatAt id l x × IsIdle x
  pops xs ys x e h = let a = subst (All Good) e h in let b = all_last Good ys x a in (all_front Good ys (x ∷ []) a, b.0, b.1)

  pub pushes : (xs : List (Seat T L)) (x : Seat T L) → All Good xs → IsSeatAt id l x → IsIdle x → All Good (xs ++ x ∷ [])
  pushes xs x h p q = all_more Good xs x h (p, q)

  -- seat `a` takes in the parts of seat `x`
  pub joined : (a x b : Seat T L) → IsSeatAt id l a → IsIdle a → b.table_id ≡ a.table_id → b.me ≡ (seat_view (a.me.0.parts + x.me.0.parts) Idle a.me.0.label, a.me.1)
      → IsSeatAt id l b × IsIdle b × (b.me.0.parts ≡ a.me.0.parts + x.me.0.parts)
  joined a x b h i t e = let p = ap (λ m. m.0.parts) e in let q = h.1 in
      ((t ∙ h.0, omega arith, ap (λ m. m.0.label) e ∙ h.2), (ap (λ m. m.0.stage) e, ap (λ m. m.1) e ∙ i.1), p)

  -- seat `a` is split
  pub parted : (a b c : Seat T L) → IsSeatAt id l a → IsIdle a → 1 < a.me.0.parts → b.table_id ≡ a.table_id → b.me ≡ (seat_view (a.me.0.parts - 1) Idle a.me.0.label, a.me.1)
      → c.table_id ≡ a.table_id → c.me ≡ (seat_view 1 Idle a.me.0.label, [])
      → IsSeatAt id l b × IsIdle b × (b.me.0.parts + 1 ≡ a.me.0.parts) × Good c × (c.me.0.parts ≡ 1)
  parted a b c h i more t e t' e' = let p = ap (λ m. m.0.parts) e in let p' = ap (λ m. m.0.parts) e' in (
    (t ∙ h.0, omega arith, ap (λ m. m.0.label) e ∙ h.2),
    (ap (λ m. m.0.stage) e, ap (λ m. m.1) e ∙ i.1),
    omega arith,
    ((t' ∙ h.0, omega arith, ap (λ m. m.0.label) e' ∙ h.2), (ap (λ m. m.0.stage) e', ap (λ m. m.1) e')),
    p',
  )

  pub still_good : (s s' : Seat T L) → IsSeatAt id l s → IsIdle s' → IsSameSeat s s' → Good s'
  still_good s s' h i k = let p = h.1 in let q = k.1 in ((k.0 ∙ h.0, omega arith, k.2 ∙ h.2), i)

module _ {T L : Type 0} (label : T → L) (l : L) where
  -- what is found in the slot when the table is closed with all parts
  pub closes : (id : ℕ) (v : SeatView L) (ws : List ℕ) (xs : List (Option T)) (r : Option T) → v.stage ≡ Idle → v.parts ≡ 256
      → Final (Seen (TicketRule label l) id v) ws xs → get_elem? xs 0 ≡ some r → (x : T) × (r ≡ Some x) × (label x ≡ l)
  closes id v ws xs r idle all f at =
      let e = ends label l f.0 f.1.0 id v f.1.1 idle all in
      let there = f.4 0 (Some e.0) (ap (λ (hs : List (maybe.Option (Option T))). get_elem? hs 0) e.1) in
      (e.0, some-injective r (Some e.0) (sym at ∙ there), e.2)
