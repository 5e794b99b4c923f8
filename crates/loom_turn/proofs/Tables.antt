-- The lock in its table: each kind of step, split and join keeps the table's rule.
use Rattle.std.proofs.Common.{◌≡◌, ◌≢◌, ℕ, suc, ◌+◌, ◌-◌, ◌%◌, ◌<◌, ◌≤◌, eq-eqb, ne_eqb, Bool, List, [], ◌∷◌, get_or, set, sym, refl, ap, ◌∙◌, subst, arith, Option, Some, None, MatchBool}
use mathlib.Core.Option as maybe
use mathlib.Core.Option.{some, none, some-ne-none}
use mathlib.Core.Logic.{dite}
use native.Mathlib.Decide.{ℕ_discrete}
use lib.ListN.{get_elem?}
use Rattle.atomic_table.specs.Table.{rest, put_back, State, step, keeps, takes, gives, Allows, Splits, Joins}
use Rattle.atomic_table.proofs.Lists.{set_again, set_else}
use Rattle.loom_turn.specs.declared.view.SeatView.{SeatView}
use Rattle.loom_turn.specs.declared.view.SeatStage.TheVariants.{Idle, Waits, AtTurn}
use Rattle.loom_turn.specs.Lock.{seat_view, blank, at_stage, changed, ticket_count, ticket_of, IsAtTurn, draw, admit, serve}
use Rattle.loom_turn.specs.TicketRule.{wrap, slot_of, AreViews, TicketRule}
use Rattle.loom_turn.specs.Steps.{Holder, Draws, Admits, Loads, Serves}
use Rattle.loom_turn.proofs.Changes.{is_seat, views_changed, views_more}
use Rattle.std.proofs.lemmas.Option.{none-some}
use Rattle.loom_turn.proofs.Locks

wrap_suc : (n : ℕ) → (wrap n + 1) % 18446744073709551616 ≡ wrap (n + 1)
wrap_suc n = omega arith

module _ {T L : Type 0} (label : T → L) (l : L) where
  abbrev Rule : State (Option T) (SeatView L) → Type 0
  Rule = TicketRule label l

  pub draws_at : (slots id : ℕ) (m : Holder T L) → m.0.stage ≡ Idle → 0 < m.0.parts → Allows Rule slots id m 0 (λ n. (n + 1) % 18446744073709551616) (Draws (step slots 0 1 0 none) m)
  draws_at slots id m idle part s k len at small =
      let lt = is_seat s.views k.lock.seats k.lock.views id m.0 k.views at in
      let says : k.lock.views id ≡ m.0 = k.views.1 id m.0 at in
      let w : SeatView L = at_stage (Waits k.lock.drawn) (k.lock.views id) in
      let parts : (k.lock.views id).parts ≡ m.0.parts = ap (λ (v : SeatView L). v.parts) says in (
        w,
        keeps,
        tt,
        record {
          lock = draw id k.lock;
          words = ap (λ (xs : List ℕ). set xs 0 ((get_or xs 0 0 + 1) % 18446744073709551616)) k.words ∙ ap (λ (x : ℕ). x ∷ wrap k.lock.served ∷ []) (wrap_suc k.lock.drawn);
          slot = k.slot;
          views = views_changed s.views k.lock.seats k.lock.views id w k.views;
          orderly = Locks.draws label l k.lock k.orderly id lt (ap (λ (v : SeatView L). v.stage) says ∙ idle);
          whole = Locks.whole_stage k.lock k.whole id lt (Waits k.lock.drawn) (omega arith) (k.lock.drawn + 1) k.lock.served k.lock.home;
        },
        (k.lock.drawn, ap (λ (xs : List ℕ). get_or xs 0 0) k.words, ap (λ (v : SeatView L). (at_stage (Waits k.lock.drawn) v, m.1)) says),
      )

  pub loads_at : (slots id t : ℕ) (m : Holder T L) → m.0.stage ≡ Waits t → Allows Rule slots id m 1 (λ n. n) (Loads label (step slots 1 0 0 none) m)
  loads_at slots id t m waits s k len at small =
      let n : ℕ = get_or s.words 1 0 in
      let u : ℕ = ticket_of m.0.stage in
      let is_t : u ≡ t = ap ticket_of waits in
      let lt = is_seat s.views k.lock.seats k.lock.views id m.0 k.views at in
      let says : k.lock.views id ≡ m.0 = k.views.1 id m.0 at in
      let stage : (k.lock.views id).stage ≡ Waits t = ap (λ (v : SeatView L). v.stage) says ∙ waits in
      let words : set s.words 1 n ≡ wrap k.lock.drawn ∷ wrap k.lock.served ∷ [] = ap (λ (xs : List ℕ). set xs 1 (get_or xs 1 0)) k.words in
      let A : Holder T L → Type 0 = λ m'. Admits label m m' in
      let B : Holder T L → Type 0 = λ m'. m' ≡ m in
      dite (ℕ_discrete n (wrap u))
      (λ e.
      let now : k.lock.served ≡ t = Locks.same_ticket label l k.lock k.orderly k.whole id t stage (sym (ap (λ (xs : List ℕ). get_or xs 1 0) k.words) ∙ (e ∙ ap wrap is_t)) in
      let waits_now : (k.lock.views id).stage ≡ Waits k.lock.served = stage ∙ ap Waits (sym now) in
      let h = Locks.waits_for_home label l k.lock k.orderly id waits_now in
      let slot : s.homes ≡ some (Some h.0) ∷ [] = k.slot ∙ ap slot_of h.1 in
      let one : 1 ≤ (k.lock.views id).parts = (let a = k.whole.tickets id in let b : ticket_count (k.lock.views id).stage ≡ 1 = ap ticket_count stage in omega arith) in
      let w : SeatView L = at_stage (AtTurn k.lock.served) (k.lock.views id) in
      let is_u : k.lock.served ≡ u = now ∙ sym is_t in (
        w,
        takes 0 (Some h.0),
        ap (λ (hs : List (maybe.Option (Option T))). get_elem? hs 0) slot,
        record {
          lock = admit id k.lock;
          words = words;
          slot = ap (λ (hs : List (maybe.Option (Option T))). set hs 0 none) slot;
          views = views_changed s.views k.lock.seats k.lock.views id w k.views;
          orderly = Locks.admits label l k.lock k.orderly id lt waits_now;
          whole = Locks.whole_stage k.lock k.whole id lt (AtTurn k.lock.served) one k.lock.drawn k.lock.served None;
        },
        subst (λ b. MatchBool b (A (w, (0, Some h.0) ∷ m.1)) (B (w, (0, Some h.0) ∷ m.1))) (sym (eq-eqb n (wrap u) e))
            (h.0, (λ c d. k.orderly.labels id c (ap (λ (v : SeatView L). v.label) says ∙ d) ∙ sym h.2), λ i. (at_stage (AtTurn (is_u i)) (says i), (0, Some h.0) ∷ m.1)),
      ))
      (λ ne. (
        m.0,
        keeps,
        tt,
        record {
          lock = k.lock;
          words = words;
          slot = k.slot;
          views = subst (λ (vs : List (SeatView L)). AreViews vs k.lock.seats k.lock.views) (sym (set_again s.views id m.0 at)) k.views;
          orderly = k.orderly;
          whole = k.whole;
        },
        subst (λ b. MatchBool b (A m) (B m)) (sym (ne_eqb n (wrap u) ne)) refl,
      ))

  pub serves_at : (slots id : ℕ) (y : T) (m : Holder T L) → IsAtTurn m.0.stage → m.1 ≡ (0, Some y) ∷ [] → m.0.label ≡ Some (label y)
      → Allows Rule slots id m 1 (λ n. (n + 1) % 18446744073709551616) (Serves (step slots 1 1 0 none) m)
  serves_at slots id y m turn has fits s k len at small =
      let lt = is_seat s.views k.lock.seats k.lock.views id m.0 k.views at in
      let says : k.lock.views id ≡ m.0 = k.views.1 id m.0 at in
      let w : SeatView L = at_stage Idle (k.lock.views id) in
      let at_turn : IsAtTurn (k.lock.views id).stage = subst (λ (v : SeatView L). IsAtTurn v.stage) (sym says) turn in
      let is_l : label y ≡ l = k.orderly.labels id (label y) (ap (λ (v : SeatView L). v.label) says ∙ fits) in
      let h = Locks.serves label l k.lock k.orderly id lt at_turn y is_l in (
        w,
        gives,
        tt,
        record {
          lock = serve id y k.lock;
          words = ap (λ (xs : List ℕ). set xs 1 ((get_or xs 1 0 + 1) % 18446744073709551616)) k.words ∙ ap (λ (x : ℕ). wrap k.lock.drawn ∷ x ∷ []) (wrap_suc k.lock.served);
          slot = ap (put_back s.homes) has ∙ ap (λ (hs : List (maybe.Option (Option T))). set hs 0 (some (Some y))) (k.slot ∙ ap slot_of h.0);
          views = views_changed s.views k.lock.seats k.lock.views id w k.views;
          orderly = h.1;
          whole = Locks.whole_stage k.lock k.whole id lt Idle (omega arith) k.lock.drawn (k.lock.served + 1) (Some y);
        },
        ap (λ (v : SeatView L). (at_stage Idle v, rest m.1)) says,
      )

  pub splits_at : (id : ℕ) (v : SeatView L) → v.stage ≡ Idle → 1 < v.parts → Splits Rule id v (seat_view (v.parts - 1) Idle v.label) (seat_view 1 Idle v.label)
  splits_at id v idle more s k at =
      let n : ℕ = k.lock.seats in
      let lt = is_seat s.views n k.lock.views id v k.views at in
      let says : k.lock.views id ≡ v = k.views.1 id v at in
      let new : k.lock.views n ≡ blank = k.orderly.others n (omega arith) in
      let a : SeatView L = seat_view (v.parts - 1) Idle v.label in
      let b : SeatView L = seat_view 1 Idle v.label in
      let ne : n ≢ id = λ (e : n ≡ id). omega arith in
      let fits : (c : L) → v.label ≡ Some c → c ≡ l = λ c d. k.orderly.labels id c (ap (λ (v : SeatView L). v.label) says ∙ d) in
      let p : (k.lock.views id).parts ≡ v.parts = ap (λ (v : SeatView L). v.parts) says in
      let q : (k.lock.views n).parts ≡ 0 = ap (λ (v : SeatView L). v.parts) new in
      record {
        lock = record k.lock { seats = suc n; views = changed (changed k.lock.views id a) n b };
        words = k.words;
        slot = k.slot;
        views = views_more (set s.views id a) n (changed k.lock.views id a) b (views_changed s.views n k.lock.views id a k.views);
        orderly = Locks.two_say label l record k.lock { seats = suc n } (Locks.grows label l k.lock k.orderly) id n (omega arith) (omega arith) ne
            (ap (λ (v : SeatView L). v.stage) says ∙ idle) (ap (λ (v : SeatView L). v.stage) new) a b refl refl fits fits;
        whole = Locks.whole_two record k.lock { seats = suc n } (Locks.whole_grows k.lock k.whole new) id n (omega arith) (omega arith) ne a b refl refl (omega arith);
      }

  pub joins_at : (id : ℕ) (v : SeatView L) (other : ℕ) (w : SeatView L) → v.stage ≡ Idle → w.stage ≡ Idle → Joins Rule id v other w (seat_view (v.parts + w.parts) Idle v.label) blank
  joins_at id v other w idle idle' s k at ne at' =
      let n : ℕ = k.lock.seats in
      let a : SeatView L = seat_view (v.parts + w.parts) Idle v.label in
      let there : get_elem? s.views other ≡ some w = sym (set_else s.views id other a ne) ∙ at' in
      let lt = is_seat s.views n k.lock.views id v k.views at in
      let lt' = is_seat s.views n k.lock.views other w k.views there in
      let says : k.lock.views id ≡ v = k.views.1 id v at in
      let says' : k.lock.views other ≡ w = k.views.1 other w there in
      let fits : (c : L) → v.label ≡ Some c → c ≡ l = λ c d. k.orderly.labels id c (ap (λ (v : SeatView L). v.label) says ∙ d) in
      let p : (k.lock.views id).parts ≡ v.parts = ap (λ (v : SeatView L). v.parts) says in
      let q : (k.lock.views other).parts ≡ w.parts = ap (λ (v : SeatView L). v.parts) says' in
      record {
        lock = record k.lock { views = changed (changed k.lock.views id a) other blank };
        words = k.words;
        slot = k.slot;
        views = views_changed (set s.views id a) n (changed k.lock.views id a) other blank (views_changed s.views n k.lock.views id a k.views);
        orderly = Locks.two_say label l k.lock k.orderly id other lt lt' ne (ap (λ (v : SeatView L). v.stage) says ∙ idle) (ap (λ (v : SeatView L). v.stage) says' ∙ idle')
            a blank refl refl fits (λ c d. absurd (none-some c d));
        whole = Locks.whole_two k.lock k.whole id other lt lt' ne a blank refl refl (omega arith);
      }

  -- a seat that has all parts, and is idle, finds the value at home
  pub ends : (s : State (Option T) (SeatView L)) → Rule s → (id : ℕ) (v : SeatView L) → get_elem? s.views id ≡ some v → v.stage ≡ Idle → v.parts ≡ 256
      → (x : T) × (s.homes ≡ some (Some x) ∷ []) × (label x ≡ l)
  ends s k id v at idle all =
      let lt = is_seat s.views k.lock.seats k.lock.views id v k.views at in
      let says : k.lock.views id ≡ v = k.views.1 id v at in
      let h = Locks.value_home label l k.lock.views k.lock.home k.orderly.home
      (Locks.no_turn label l k.lock k.orderly k.whole id lt (ap (λ (v : SeatView L). v.stage) says ∙ idle) (ap (λ (v : SeatView L). v.parts) says ∙ all)) in
      (h.0, k.slot ∙ ap slot_of h.1, h.2)

  pub begins_at : (x : T) → label x ≡ l → Rule record { words = 0 ∷ 0 ∷ []; homes = some (Some x) ∷ []; views = seat_view 256 Idle (Some l) ∷ [] }
  begins_at x e =
      let v : SeatView L = seat_view 256 Idle (Some l) in
      record {
        lock = record { seats = 1; views = changed (λ _. blank) 0 v; drawn = 0; served = 0; home = Some x };
        words = refl;
        slot = refl;
        views = views_more [] 0 (λ _. blank) v (refl, λ i u d. absurd (some-ne-none u (sym d)));
        orderly = Locks.begins label l x e;
        whole = Locks.whole_begins l x;
      }

-- What a load told

module _ {T L : Type 0} (label : T → L) (m m' : Holder T L) (v : SeatView L) (t n : ℕ) where
  abbrev Told : Bool → Type 0
  Told b = MatchBool b (Admits label (at_stage (Waits t) v, []) m') (m' ≡ (at_stage (Waits t) v, []))

  pub admitted : m ≡ (at_stage (Waits t) v, []) → n ≡ wrap t → Loads label (step 0 0 0 0 none) m n m'
      → (x : T) × ((c : L) → v.label ≡ Some c → c ≡ label x) × (m' ≡ (at_stage (AtTurn t) v, (0, Some x) ∷ []))
  admitted e is told = subst Told (eq-eqb n (wrap t) is) (subst (λ (a : Holder T L). Loads label (step 0 0 0 0 none) a n m') e told)

  pub waits_on : m ≡ (at_stage (Waits t) v, []) → n ≢ wrap t → Loads label (step 0 0 0 0 none) m n m' → m' ≡ (at_stage (Waits t) v, [])
  waits_on e is told = subst Told (ne_eqb n (wrap t) is) (subst (λ (a : Holder T L). Loads label (step 0 0 0 0 none) a n m') e told)

-- Moves in the slot

module _ {T : Type 0} where
  pub puts : (a b : List (ℕ × Option T)) (y : T) → b ≡ (0, Some y) ∷ rest a → a ≡ (0, None) ∷ [] → b ≡ (0, Some y) ∷ []
  puts a b y e d = e ∙ ap (λ xs. (0, Some y) ∷ rest xs) d

  pub has_slot : (a : List (ℕ × Option T)) (y : T) → a ≡ (0, Some y) ∷ [] → (old : Option T) × (a ≡ (0, old) ∷ rest a)
  has_slot a y e = (Some y, e ∙ ap (λ xs. (0, Some y) ∷ rest xs) (sym e))
