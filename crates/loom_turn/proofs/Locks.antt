-- The lock's steps keep its rule. No table here.
use Rattle.std.proofs.Common.{◌≡◌, ◌≢◌, ℕ, suc, ◌+◌, ◌<◌, ◌≤◌, lt_of_not-le, sym, refl, ap, ◌∙◌, subst, arith, Option, Some, None}
use mathlib.Core.Logic.{dite}
use native.Mathlib.Decide.{dec_le}
use Rattle.atomic_table.proofs.Lists.{one_turn}
use Rattle.std.proofs.lemmas.Option.{same_Some, none-some}
use Rattle.loom_turn.specs.declared.view.SeatView.{SeatView}
use Rattle.loom_turn.specs.declared.view.SeatStage.{SeatStage}
use Rattle.loom_turn.specs.declared.view.SeatStage.TheVariants.{Idle, Waits, AtTurn}
use Rattle.loom_turn.specs.Lock.{seat_view, blank, at_stage, changed, ticket_count, ticket_of, HasTicket, IsAtTurn, StageFits, Lock, draw, admit, serve, HomeFits, IsOrderly, IsWhole}
use Rattle.loom_turn.specs.TicketRule.{wrap}
use Rattle.loom_turn.proofs.Changes.{changed_here, changed_else, changed_all, sum_changed, sum_le, sum_two}

-- Stages

drawn_later : (served drawn : ℕ) (s : SeatStage) → StageFits served drawn s → StageFits served (drawn + 1) s
drawn_later served drawn Idle h = tt
drawn_later served drawn (Waits t) h = let a = h.1 in (h.0, omega arith)
drawn_later served drawn (AtTurn t) h = let a = h.1 in (h.0, omega arith)

not_drawn : (served drawn : ℕ) (s : SeatStage) → StageFits served drawn s → HasTicket drawn s → ⊥
not_drawn served drawn Idle h t = t
not_drawn served drawn (Waits u) h t = let a = h.1 in omega arith
not_drawn served drawn (AtTurn u) h t = let a = h.1 in omega arith

served_later : (served drawn : ℕ) (s : SeatStage) → StageFits served drawn s → (HasTicket served s → ⊥) → StageFits (served + 1) drawn s
served_later served drawn Idle h n = tt
served_later served drawn (Waits t) h n = let a = h.0 in let b : t ≢ served = n in (omega arith, h.1)
served_later served drawn (AtTurn t) h n = absurd (n h.0)

at_turn : (served drawn : ℕ) (s : SeatStage) → StageFits served drawn s → IsAtTurn s → HasTicket served s × (ticket_count s ≡ 1)
at_turn served drawn Idle h s = absurd s
at_turn served drawn (Waits t) h s = absurd s
at_turn served drawn (AtTurn t) h s = (h.0, refl)

pub at_turn_is : (s : SeatStage) → IsAtTurn s → s ≡ AtTurn (ticket_of s)
at_turn_is Idle h = absurd h
at_turn_is (Waits t) h = absurd h
at_turn_is (AtTurn t) h = refl

module _ {T L : Type 0} (label : T → L) (l : L) where
  home_changed : (views : ℕ → SeatView L) (i : ℕ) (w : SeatView L) (home : Option T) → (IsAtTurn (views i).stage → ⊥) → (IsAtTurn w.stage → ⊥)
      → HomeFits label l views home → HomeFits label l (changed views i w) home
  home_changed views i w (Some x) idle idle' h = (h.0, changed_all (λ _ (v : SeatView L). IsAtTurn v.stage → ⊥) views i w idle' (λ j _. h.1 j))
  home_changed views i w None idle idle' h =
      let other : h.0 ≢ i = λ e. idle (subst (λ (j : ℕ). IsAtTurn (views j).stage) e h.1) in
      (h.0, subst (λ (v : SeatView L). IsAtTurn v.stage) (sym (changed_else views i w h.0 other)) h.1)

  pub value_home : (views : ℕ → SeatView L) (home : Option T) → HomeFits label l views home → ((i : ℕ) → IsAtTurn (views i).stage → ⊥) → (x : T) × (home ≡ Some x) × (label x ≡ l)
  value_home views (Some x) h idle = (x, refl, h.0)
  value_home views None h idle = absurd (idle h.0 h.1)

  slot_out : (views : ℕ → SeatView L) (home : Option T) (i : ℕ) → HomeFits label l views home → IsAtTurn (views i).stage → home ≡ None
  slot_out views (Some x) i h s = absurd (h.1 i s)
  slot_out views None i h s = refl

  -- a seat says something new
  one_says : (m : Lock T L) → IsOrderly label l m → (i : ℕ) → i < m.seats → (w : SeatView L) (drawn served : ℕ) (home : Option T)
      → served + ticket_count w.stage + m.drawn ≡ drawn + ticket_count (m.views i).stage + m.served
      → StageFits served drawn w.stage
      → ((j : ℕ) → j ≢ i → StageFits served drawn (m.views j).stage)
      → ((j t : ℕ) → j ≢ i → HasTicket t w.stage → HasTicket t (m.views j).stage → ⊥)
      → ((k : L) → w.label ≡ Some k → k ≡ l)
      → HomeFits label l (changed m.views i w) home
      → IsOrderly label l record { seats = m.seats; views = changed m.views i w; drawn = drawn; served = served; home = home }
  one_says m k i lt w drawn served home total mine others new fits homes =
      let c = k.count in
      let s = sum_changed (λ (v : SeatView L). ticket_count v.stage) m.views i w m.seats lt in
      record {
        count = omega arith;
        tickets = changed_all (λ _ (v : SeatView L). StageFits served drawn v.stage) m.views i w mine others;
        apart = changed_all (λ (a : ℕ) (v : SeatView L). (b t : ℕ) → HasTicket t v.stage → HasTicket t (changed m.views i w b).stage → a ≡ b) m.views i w
            (changed_all (λ (b : ℕ) (u : SeatView L). (t : ℕ) → HasTicket t w.stage → HasTicket t u.stage → i ≡ b) m.views i w (λ _ _ _. refl) (λ b ne t x y. absurd (new b t ne x y)))
            (λ a ne. changed_all (λ (b : ℕ) (u : SeatView L). (t : ℕ) → HasTicket t (m.views a).stage → HasTicket t u.stage → a ≡ b) m.views i w
            (λ t x y. absurd (new a t ne y x)) (λ b _ t x y. k.apart a b t x y));
        home = homes;
        labels = changed_all (λ _ (v : SeatView L). (k : L) → v.label ≡ Some k → k ≡ l) m.views i w fits (λ j _. k.labels j);
        others = λ j le. changed_else m.views i w j (λ (e : j ≡ i). omega arith) ∙ k.others j le;
      }

  pub draws : (m : Lock T L) → IsOrderly label l m → (i : ℕ) → i < m.seats → (m.views i).stage ≡ Idle → IsOrderly label l (draw i m)
  draws m k i lt idle =
      let c = k.count in
      let none : ticket_count (m.views i).stage ≡ 0 = ap ticket_count idle in
      one_says m k i lt (at_stage (Waits m.drawn) (m.views i)) (m.drawn + 1) m.served m.home (omega arith) (omega arith, omega arith)
      (λ j _. drawn_later m.served m.drawn (m.views j).stage (k.tickets j))
      (λ j t _ mine his. not_drawn m.served m.drawn (m.views j).stage (k.tickets j) (subst (λ (u : ℕ). HasTicket u (m.views j).stage) (sym mine) his))
      (k.labels i)
      (home_changed m.views i (at_stage (Waits m.drawn) (m.views i)) m.home (subst IsAtTurn idle) (λ x. x) k.home)

  -- a ticket that the word of served tickets can't tell from the one served is that ticket
  pub same_ticket : (m : Lock T L) → IsOrderly label l m → IsWhole m → (i t : ℕ) → (m.views i).stage ≡ Waits t → wrap m.served ≡ wrap t → m.served ≡ t
  same_ticket m k w i t waits e =
      let f : StageFits m.served m.drawn (Waits t) = subst (StageFits m.served m.drawn) waits (k.tickets i) in
      let a = f.0 in let b = f.1 in let c = k.count in let p = w.parts in
      let q = sum_le (λ j. ticket_count (m.views j).stage) (λ j. (m.views j).parts) m.seats w.tickets in
      one_turn m.served t 18446744073709551616 a (omega arith) e

  -- where a seat waits for the ticket served, the value is at home
  pub waits_for_home : (m : Lock T L) → IsOrderly label l m → (i : ℕ) → (m.views i).stage ≡ Waits m.served → (x : T) × (m.home ≡ Some x) × (label x ≡ l)
  waits_for_home m k i waits = value_home m.views m.home k.home (λ j s.
      let mine : HasTicket m.served (m.views i).stage = subst (HasTicket m.served) (sym waits) refl in
      let same = k.apart j i m.served (at_turn m.served m.drawn (m.views j).stage (k.tickets j) s).0 mine in
      subst IsAtTurn waits (subst (λ (a : ℕ). IsAtTurn (m.views a).stage) same s))

  pub admits : (m : Lock T L) → IsOrderly label l m → (i : ℕ) → i < m.seats → (m.views i).stage ≡ Waits m.served → IsOrderly label l (admit i m)
  admits m k i lt waits =
      let w : SeatView L = at_stage (AtTurn m.served) (m.views i) in
      let f : StageFits m.served m.drawn (Waits m.served) = subst (StageFits m.served m.drawn) waits (k.tickets i) in
      let one : ticket_count (m.views i).stage ≡ 1 = ap ticket_count waits in
      let mine : HasTicket m.served (m.views i).stage = subst (HasTicket m.served) (sym waits) refl in
      one_says m k i lt w m.drawn m.served None (omega arith) (refl, f.1) (λ j _. k.tickets j)
      (λ j t ne is his. ne (k.apart j i m.served (subst (λ (u : ℕ). HasTicket u (m.views j).stage) (sym is) his) mine))
      (k.labels i)
      (i, subst (λ (v : SeatView L). IsAtTurn v.stage) (sym (changed_here m.views i w)) tt)

  pub serves : (m : Lock T L) → IsOrderly label l m → (i : ℕ) → i < m.seats → IsAtTurn (m.views i).stage → (x : T) → label x ≡ l → (m.home ≡ None) × IsOrderly label l (serve i x m)
  serves m k i lt turn x is_l =
      let w : SeatView L = at_stage Idle (m.views i) in
      let mine = at_turn m.served m.drawn (m.views i).stage (k.tickets i) turn in
      let one = mine.1 in
      let no_other : (j : ℕ) → j ≢ i → HasTicket m.served (m.views j).stage → ⊥ = λ j ne h. ne (k.apart j i m.served h mine.0) in (
        slot_out m.views m.home i k.home turn,
        one_says m k i lt w m.drawn (m.served + 1) (Some x) (omega arith) tt
            (λ j ne. served_later m.served m.drawn (m.views j).stage (k.tickets j) (no_other j ne))
            (λ j t _ h _. h)
            (k.labels i) (
              is_l,
              changed_all (λ _ (v : SeatView L). IsAtTurn v.stage → ⊥) m.views i w (λ x. x)
                  (λ j ne s. no_other j ne (at_turn m.served m.drawn (m.views j).stage (k.tickets j) s).0),
            ),
      )

  -- an idle seat says something else, and stays idle
  stays_idle : (m : Lock T L) → IsOrderly label l m → (i : ℕ) → i < m.seats → (m.views i).stage ≡ Idle → (w : SeatView L) → w.stage ≡ Idle → ((k : L) → w.label ≡ Some k → k ≡ l)
      → IsOrderly label l record m { views = changed m.views i w }
  stays_idle m k i lt idle w idle' fits =
      let a : ticket_count (m.views i).stage ≡ 0 = ap ticket_count idle in
      let b : ticket_count w.stage ≡ 0 = ap ticket_count idle' in
      one_says m k i lt w m.drawn m.served m.home (omega arith) (subst (StageFits m.served m.drawn) (sym idle') tt) (λ j _. k.tickets j)
      (λ j t _ h _. subst (HasTicket t) idle' h) fits
      (home_changed m.views i w m.home (subst IsAtTurn idle) (subst IsAtTurn idle') k.home)

  -- two idle seats say something else
  pub two_say : (m : Lock T L) → IsOrderly label l m → (i j : ℕ) → i < m.seats → j < m.seats → j ≢ i → (m.views i).stage ≡ Idle → (m.views j).stage ≡ Idle
      → (a b : SeatView L) → a.stage ≡ Idle → b.stage ≡ Idle → ((k : L) → a.label ≡ Some k → k ≡ l) → ((k : L) → b.label ≡ Some k → k ≡ l)
      → IsOrderly label l record m { views = changed (changed m.views i a) j b }
  two_say m k i j lt lt' ne idle idle' a b p q fits fits' =
      let one = stays_idle m k i lt idle a p fits in
      stays_idle record m { views = changed m.views i a } one j lt' (ap (λ (v : SeatView L). v.stage) (changed_else m.views i a j ne) ∙ idle') b q fits'

  -- one more seat, which says nothing yet
  pub grows : (m : Lock T L) → IsOrderly label l m → IsOrderly label l record m { seats = suc m.seats }
  grows m k =
      let c = k.count in
      let e : ticket_count (m.views m.seats).stage ≡ 0 = ap (λ (v : SeatView L). ticket_count v.stage) (k.others m.seats (omega arith)) in
      record { count = omega arith; tickets = k.tickets; apart = k.apart; home = k.home; labels = k.labels; others = λ i le. k.others i (omega arith) }

  pub one_at_turn : (m : Lock T L) → IsOrderly label l m → (i j : ℕ) → IsAtTurn (m.views i).stage → IsAtTurn (m.views j).stage → i ≡ j
  one_at_turn m k i j a b = k.apart i j m.served (at_turn m.served m.drawn (m.views i).stage (k.tickets i) a).0 (at_turn m.served m.drawn (m.views j).stage (k.tickets j) b).0

  -- where a seat has all parts and no ticket, no seat is at its turn
  pub no_turn : (m : Lock T L) → IsOrderly label l m → IsWhole m → (i : ℕ) → i < m.seats → (m.views i).stage ≡ Idle → (m.views i).parts ≡ 256 → (j : ℕ) → IsAtTurn (m.views j).stage → ⊥
  no_turn m k w i lt idle all j s =
      let one = (at_turn m.served m.drawn (m.views j).stage (k.tickets j) s).1 in
      let part = w.tickets j in
      let ne : i ≢ j = λ e. subst IsAtTurn idle (subst (λ (a : ℕ). IsAtTurn (m.views a).stage) (sym e) s) in
      let p = w.parts in
      let at_blank : m.seats ≤ j → ⊥ = λ le. (let e : (m.views j).parts ≡ 0 = ap (λ (v : SeatView L). v.parts) (k.others j le) in omega arith) in
      dite (dec_le m.seats j) at_blank
      (λ n. let b = sum_two (λ a. (m.views a).parts) i j m.seats ne lt (lt_of_not-le n) in omega arith)

  pub begins : (x : T) → label x ≡ l → IsOrderly label l record { seats = 1; views = changed (λ _. blank) 0 (seat_view 256 Idle (Some l)); drawn = 0; served = 0; home = Some x }
  begins x e = record {
    count = refl;
    tickets = changed_all (λ _ (v : SeatView L). StageFits 0 0 v.stage) (λ _. blank) 0 (seat_view 256 Idle (Some l)) tt (λ _ _. tt);
    apart = λ i j t h _. absurd (changed_all (λ _ (v : SeatView L). HasTicket t v.stage → ⊥) (λ _. blank) 0 (seat_view 256 Idle (Some l)) (λ x. x) (λ _ _ x. x) i h);
    home = (e, changed_all (λ _ (v : SeatView L). IsAtTurn v.stage → ⊥) (λ _. blank) 0 (seat_view 256 Idle (Some l)) (λ x. x) (λ _ _ x. x));
    labels = changed_all (λ _ (v : SeatView L). (k : L) → v.label ≡ Some k → k ≡ l) (λ _. blank) 0 (seat_view 256 Idle (Some l)) (λ k d. sym (same_Some l k d)) (λ _ _ k d. absurd (none-some k d));
    others = λ i le. changed_else (λ _. blank) 0 (seat_view 256 Idle (Some l)) i (λ (e : i ≡ 0). omega arith);
  }

-- Parts

module _ {T L : Type 0} where
  pub whole_stage : (m : Lock T L) → IsWhole m → (i : ℕ) → i < m.seats → (s : SeatStage) → ticket_count s ≤ (m.views i).parts
      → (drawn served : ℕ) (home : Option T) → IsWhole record { seats = m.seats; views = changed m.views i (at_stage s (m.views i)); drawn = drawn; served = served; home = home }
  whole_stage m k i lt s le drawn served home =
      let p = k.parts in
      let e = sum_changed (λ (v : SeatView L). v.parts) m.views i (at_stage s (m.views i)) m.seats lt in
      record { parts = omega arith; tickets = changed_all (λ _ (v : SeatView L). ticket_count v.stage ≤ v.parts) m.views i (at_stage s (m.views i)) le (λ j _. k.tickets j) }

  -- two idle seats have the parts that they had
  pub whole_two : (m : Lock T L) → IsWhole m → (i j : ℕ) → i < m.seats → j < m.seats → j ≢ i → (a b : SeatView L) → a.stage ≡ Idle → b.stage ≡ Idle
      → a.parts + b.parts ≡ (m.views i).parts + (m.views j).parts → IsWhole record m { views = changed (changed m.views i a) j b }
  whole_two m k i j lt lt' ne a b p q same =
      let n = k.parts in
      let e = sum_changed (λ (v : SeatView L). v.parts) m.views i a m.seats lt in
      let f = sum_changed (λ (v : SeatView L). v.parts) (changed m.views i a) j b m.seats lt' in
      let old : (changed m.views i a j).parts ≡ (m.views j).parts = ap (λ (v : SeatView L). v.parts) (changed_else m.views i a j ne) in
      let x : ticket_count a.stage ≡ 0 = ap ticket_count p in
      let y : ticket_count b.stage ≡ 0 = ap ticket_count q in
      record {
        parts = omega arith;
        tickets = changed_all (λ _ (v : SeatView L). ticket_count v.stage ≤ v.parts) (changed m.views i a) j b (omega arith)
            (λ j _. changed_all (λ _ (v : SeatView L). ticket_count v.stage ≤ v.parts) m.views i a (omega arith) (λ j _. k.tickets j) j);
      }

  pub whole_grows : (m : Lock T L) → IsWhole m → m.views m.seats ≡ blank → IsWhole record m { seats = suc m.seats }
  whole_grows m k e = let p = k.parts in let z : (m.views m.seats).parts ≡ 0 = ap (λ (v : SeatView L). v.parts) e in record { parts = omega arith; tickets = k.tickets }

  pub whole_begins : (l : L) (x : T) → IsWhole {T = T} record { seats = 1; views = changed (λ _. blank) 0 (seat_view 256 Idle (Some l)); drawn = 0; served = 0; home = Some x }
  whole_begins l x = record { parts = refl; tickets = changed_all (λ _ (v : SeatView L). ticket_count v.stage ≤ v.parts) (λ _. blank) 0 (seat_view 256 Idle (Some l)) (omega arith) (λ _ _. omega arith) }
