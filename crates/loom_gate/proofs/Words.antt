-- A machine's step, put on the words and the views: no table here.
use Rattle.std.proofs.Common.{◌≡◌, ◌≢◌, ℕ, zero, suc, ◌+◌, ◌/◌, ◌%◌, ◌<◌, ◌≤◌, ◌==◌, Bool, true, false, true≢false, if◌then◌else◌, List, [], ◌∷◌, ◌++◌, length, get_or, set, replicate, sym, refl, ap, ◌∙◌, subst, ◌⊎◌, inl, inr, ⊎_elim, arith, eq-eqb, ne_eqb, length-set, get_or-set_same, get_or-set_other}
use mathlib.Core.Logic.{dite}
use mathlib.Core.Option.{some, some-injective, some-ne-none}
use native.Mathlib.Decide.{ℕ_discrete}
use lib.ListN.{get_elem?}
use Rattle.std.proofs.lemmas.List.{length-replicate}
use Rattle.std.proofs.lemmas.Nat.Bits.{bit_at-zero}
use Rattle.atomic_table.proofs.Lists.{at_set}
use Rattle.loom_trace.specs.Places.{has_bit, has_place}
use Rattle.loom_gate.specs.declared.view.PassView.{PassView}
use Rattle.loom_gate.specs.declared.view.Look.{Look}
use Rattle.loom_gate.specs.declared.view.Look.TheVariants.{Unknown}
use Rattle.loom_gate.specs.declared.view.KeyView.{KeyView}
use Rattle.loom_gate.specs.declared.view.View.{View}
use Rattle.loom_gate.specs.declared.view.View.TheVariants.{Pass, Key, Nobody}
use Rattle.loom_gate.specs.View.{mark, stand_word, flag_words, start, first_key, more, joined}
use Rattle.loom_gate.specs.GateMachine.{GateMachine, Lawful, LookFits, WasRaised}
use Rattle.loom_gate.specs.Rule.{SeatFits, GateHolds}
use Rattle.loom_gate.proofs.Machines.{upd, upd_same, upd_other}

pub all_set : {A : Type 0} (F : ℕ → A → Type 0) (vs : List A) (i : ℕ) (w : A) → F i w → ((j : ℕ) (u : A) → j ≢ i → get_elem? vs j ≡ some u → F j u) → (j : ℕ) (u : A) → get_elem? (set vs i w) j ≡ some u → F j u
all_set {A} F vs i w mine others j u e = ⊎_elim (λ (x : (j ≡ i) × (w ≡ u)). subst (λ (y : ℕ × A). F y.0 y.1) (λ k. (sym x.0 k, x.1 k)) mine)
    (λ (x : (j ≢ i) × (get_elem? vs j ≡ some u)). others j u x.0 x.1) (at_set vs i j w u e)

-- the other seats, where a pass says something new
seat_by_pass : (n : ℕ) (m : GateMachine) (owner : ℕ → ℕ) (holder t : ℕ) (q : PassView) (j : ℕ) (u : View) → j ≢ owner t → SeatFits n m owner holder j u → SeatFits n record { passes = upd m.passes t q; key = m.key } owner holder j u
seat_by_pass n m owner holder t q j (Pass s p) other h = (h.0, h.1, h.2 ∙ sym (upd_other m.passes t s q (λ e. other (sym h.1 ∙ ap owner e))), h.3, h.4)
seat_by_pass n m owner holder t q j (Key k) other h = h
seat_by_pass n m owner holder t q j Nobody other h = tt

-- the others, where the key does
seat_by_key : (n : ℕ) (m : GateMachine) (owner : ℕ → ℕ) (holder : ℕ) (k : KeyView) (j : ℕ) (u : View) → m.key.born ≤ k.born → k.finals ≡ m.key.finals → j ≢ holder → SeatFits n m owner holder j u → SeatFits n record { passes = m.passes; key = k } owner holder j u
seat_by_key n m owner holder k j (Pass s p) more same other h = let a = h.3 in let b = h.4 in (h.0, h.1, h.2, omega arith, subst (λ (xs : List PassView). length xs < s) (sym same) b)
seat_by_key n m owner holder k j (Key l) more same other h = absurd (other (sym h.0))
seat_by_key n m owner holder k j Nobody more same other h = tt

pub same_word : (ws : List ℕ) (i : ℕ) → set ws i (get_or ws i 0) ≡ ws
same_word [] i = refl
same_word (w ∷ ws) zero = refl
same_word (w ∷ ws) (suc i) = ap (λ (xs : List ℕ). w ∷ xs) (same_word ws i)

pub up_after : (up : List ℕ) (ever : List (ℕ × ℕ)) (w x : ℕ) → w < length up → ((q : ℕ) → has_place up q ≡ true → WasRaised ever q) → (q : ℕ) → has_place (set up w x) q ≡ true → WasRaised ((w, x) ∷ ever) q
up_after up ever w x low old q on = dite (ℕ_discrete (q / 64) w)
    (λ e. inl (e, ap (λ (y : ℕ). has_bit y q) (sym (ap (λ (j : ℕ). get_or (set up w x) j 0) e ∙ get_or-set_same up w x 0 low)) ∙ on))
    (λ other. inr (old q (ap (λ (y : ℕ). has_bit y q) (sym (get_or-set_other up w (q / 64) x 0 other)) ∙ on)))

at_snoc_here : {A : Type 0} (l : List A) (a b : A) (j : ℕ) → get_elem? (l ++ a ∷ []) j ≡ some b → (get_elem? l j ≡ some b) ⊎ ((j ≡ length l) × (a ≡ b))
at_snoc_here [] a b zero e = inr (refl, some-injective a b e)
at_snoc_here [] a b (suc j) e = absurd (some-ne-none b (sym e))
at_snoc_here (x ∷ xs) a b zero e = inl e
at_snoc_here (x ∷ xs) a b (suc j) e = ⊎_elim (λ (h : get_elem? xs j ≡ some b). inl h) (λ (h : (j ≡ length xs) × (a ≡ b)). inr (ap suc h.0, h.1)) (at_snoc_here xs a b j e)

pub index_snoc : {A : Type 0} (l : List A) (a d : A) → get_or (l ++ a ∷ []) (length l) d ≡ a
index_snoc [] a d = refl
index_snoc (x ∷ xs) a d = index_snoc xs a d

pub index_before : {A : Type 0} (l : List A) (a d : A) (t : ℕ) → t < length l → get_or (l ++ a ∷ []) t d ≡ get_or l t d
index_before [] a d t h = absurd (omega arith)
index_before (x ∷ xs) a d zero h = refl
index_before (x ∷ xs) a d (suc t) h = index_before xs a d t (omega arith)

-- u is no pass of thread t
is_not : ℕ → View → Type 0
is_not t (Pass s p) = s ≢ t
is_not t (Key k) = Unit {0}
is_not t Nobody = Unit {0}

owned : (n : ℕ) (m : GateMachine) (owner : ℕ → ℕ) (t to holder j : ℕ) (u : View) → is_not t u → SeatFits n m owner holder j u → SeatFits n m (λ x. if x == t then to else owner x) holder j u
unfolding is_not
owned n m owner t to holder j (Pass s p) other h = (h.0, ap (λ (b : Bool). if b then to else owner s) (ne_eqb s t other) ∙ h.1, h.2, h.3, h.4)
owned n m owner t to holder j (Key k) other h = h
owned n m owner t to holder j Nobody other h = tt

no_key : (t : ℕ) (k : KeyView) → is_not t (Key k)
unfolding is_not
no_key t k = tt

early : (n : ℕ) (m : GateMachine) (owner : ℕ → ℕ) (holder b j : ℕ) (u : View) → m.key.born ≤ b → SeatFits n m owner holder j u → is_not (b + 1) u
unfolding is_not
early n m owner holder b j (Pass s p) low h = let a = h.3 in λ e. omega arith
early n m owner holder b j (Key k) low h = tt
early n m owner holder b j Nobody low h = tt

length_one : (xs : List PassView) (x : PassView) → length (xs ++ x ∷ []) ≡ length xs + 1
length_one [] x = omega arith
length_one (y ∷ ys) x = let h = length_one ys x in omega arith

above : (s t : ℕ) → t < s + 1 → (s ≡ t) ⊎ (t < s)
above s t low = dite (ℕ_discrete s t) (λ e. inl e) (λ ne. inr (omega arith))

-- the others, where the pass of the next thread is joined
seat_by_join : (n : ℕ) (m : GateMachine) (owner : ℕ → ℕ) (holder t : ℕ) (p : PassView) (j : ℕ) (u : View) → length m.key.finals + 1 ≡ t → j ≢ owner t → j ≢ holder → SeatFits n m owner holder j u → SeatFits n record { passes = m.passes; key = joined m.key p } owner holder j u
seat_by_join n m owner holder t p j (Pass s q) next other key h =
    let b = h.4 in
    let ne : s ≢ t = λ e. other (sym h.1 ∙ ap owner e) in
    let len = length_one m.key.finals p in
    (h.0, h.1, h.2, h.3, ⊎_elim (λ (x : s ≡ t). absurd (ne x)) (λ (x : t < s). omega arith) (above s t (omega arith)))
seat_by_join n m owner holder t p j (Key l) next other key h = absurd (key (sym h.0))
seat_by_join n m owner holder t p j Nobody next other key h = tt

zeros : (k i : ℕ) → ◌≡◌ {A = ℕ} (get_or (replicate k 0) i 0) 0
zeros zero i = refl
zeros (suc k) zero = refl
zeros (suc k) (suc i) = zeros k i

unknowns : (k t : ℕ) → get_or (replicate k Unknown) t Unknown ≡ Unknown
unknowns zero t = refl
unknowns (suc k) zero = refl
unknowns (suc k) (suc t) = unknowns k t

-- no place is up
pub none_up : (f p : ℕ) → has_place (replicate f 0) p ≡ false
none_up f p = ap (λ (w : ℕ). has_bit w p) (zeros f (p / 64)) ∙ ap (λ (b : ℕ). b == 1) (bit_at-zero (p % 64))

at_zero : {A : Type 0} (w v : A) (i : ℕ) → get_elem? (w ∷ []) i ≡ some v → (i ≡ 0) × (w ≡ v)
at_zero w v zero e = (refl, some-injective w v e)
at_zero w v (suc i) e = absurd (some-ne-none v (sym e))

module _ (n places : ℕ) where
  -- a pass's step that stores its own word
  pub store_stand : (ws : List ℕ) (vs : List View) (k : GateHolds n places ws vs) (id t : ℕ) (p q : PassView) (x : ℕ) → get_elem? vs id ≡ some (Pass t p) → x ≡ stand_word q.stage
      → Lawful n record { passes = upd k.machine.passes t q; key = k.machine.key } → GateHolds n places (set ws t x) (set vs id (Pass t q))
  store_stand ws vs k id t p q x at word lawful =
      let mine = k.seats id (Pass t p) at in
      let wide = k.wide in let many = k.many in let a = mine.0.0 in let b = mine.0.1 in
      let set_wide = length-set ws t x in
      record {
        machine = record { passes = upd k.machine.passes t q; key = k.machine.key };
        owner = k.owner;
        holder = k.holder;
        wide = omega arith;
        many = k.many;
        size = k.size;
        version = get_or-set_other ws t 0 x 0 (λ e. omega arith) ∙ k.version;
        stands = λ j is. dite (ℕ_discrete j t)
            (λ e. subst (λ (y : ℕ). get_or (set ws t x) y 0 ≡ stand_word (upd k.machine.passes t q y).stage) (sym e)
            (get_or-set_same ws t x 0 (omega arith) ∙ (word ∙ ap (λ (r : PassView). stand_word r.stage) (sym (upd_same k.machine.passes t q)))))
            (λ other. get_or-set_other ws t j x 0 other ∙ (k.stands j is ∙ ap (λ (r : PassView). stand_word r.stage) (sym (upd_other k.machine.passes t j q other))));
        flags = λ w low. get_or-set_other ws t ((n + 1) + w) x 0 (λ e. omega arith) ∙ k.flags w low;
        seats = all_set (SeatFits n record { passes = upd k.machine.passes t q; key = k.machine.key } k.owner k.holder) vs id (Pass t q)
            (mine.0, mine.1, sym (upd_same k.machine.passes t q), mine.3, mine.4)
            (λ j u other e. seat_by_pass n k.machine k.owner k.holder t q j u (λ z. other (z ∙ mine.1)) (k.seats j u e));
        unborn = λ j h. let a = mine.3 in upd_other k.machine.passes t j q (λ e. omega arith) ∙ k.unborn j h;
        finals = λ j h. let a = mine.4 in upd_other k.machine.passes t (j + 1) q (λ e. omega arith) ∙ k.finals j h;
        lawful = lawful;
      }

  -- a pass's load
  pub load_pass : (ws : List ℕ) (vs : List View) (k : GateHolds n places ws vs) (id t i : ℕ) (p q : PassView) → get_elem? vs id ≡ some (Pass t p) → stand_word p.stage ≡ stand_word q.stage
      → Lawful n record { passes = upd k.machine.passes t q; key = k.machine.key } → GateHolds n places (set ws i (get_or ws i 0)) (set vs id (Pass t q))
  load_pass ws vs k id t i p q at word lawful =
      let mine = k.seats id (Pass t p) at in
      subst (λ (xs : List ℕ). GateHolds n places xs (set vs id (Pass t q))) (sym (same_word ws i)) record {
        machine = record { passes = upd k.machine.passes t q; key = k.machine.key };
        owner = k.owner;
        holder = k.holder;
        wide = k.wide;
        many = k.many;
        size = k.size;
        version = k.version;
        stands = λ j is. dite (ℕ_discrete j t)
            (λ e. subst (λ (y : ℕ). get_or ws y 0 ≡ stand_word (upd k.machine.passes t q y).stage) (sym e)
            (k.stands t mine.0 ∙ (ap (λ (r : PassView). stand_word r.stage) (sym mine.2) ∙ (word ∙ ap (λ (r : PassView). stand_word r.stage) (sym (upd_same k.machine.passes t q))))))
            (λ other. k.stands j is ∙ ap (λ (r : PassView). stand_word r.stage) (sym (upd_other k.machine.passes t j q other)));
        flags = k.flags;
        seats = all_set (SeatFits n record { passes = upd k.machine.passes t q; key = k.machine.key } k.owner k.holder) vs id (Pass t q)
            (mine.0, mine.1, sym (upd_same k.machine.passes t q), mine.3, mine.4)
            (λ j u other e. seat_by_pass n k.machine k.owner k.holder t q j u (λ z. other (z ∙ mine.1)) (k.seats j u e));
        unborn = λ j h. let a = mine.3 in upd_other k.machine.passes t j q (λ e. omega arith) ∙ k.unborn j h;
        finals = λ j h. let a = mine.4 in upd_other k.machine.passes t (j + 1) q (λ e. omega arith) ∙ k.finals j h;
        lawful = lawful;
      }

  -- a word of flags, found in the table, tells of places that are up
  pub found_up : (ws : List ℕ) (vs : List View) (k : GateHolds n places ws vs) (place : ℕ) → place / 64 < length k.machine.key.up → has_bit (get_or ws ((n + 1) + place / 64) 0) place ≡ has_place k.machine.key.up place
  found_up ws vs k place low = ap (λ (w : ℕ). has_bit w place) (k.flags (place / 64) low)

  pub raised_of : (ws : List ℕ) (vs : List View) (k : GateHolds n places ws vs) (i : ℕ) → i < (n + 1) + flag_words places → (q : ℕ) → (n + 1) + q / 64 ≡ i → has_bit (get_or ws i 0) q ≡ true → WasRaised k.machine.key.ever q
  raised_of ws vs k i low q e on =
      let many = k.many in
      let inside : q / 64 < length k.machine.key.up = omega arith in
      k.lawful.raised q (sym (found_up ws vs k q inside) ∙ subst (λ (j : ℕ). has_bit (get_or ws j 0) q ≡ true) (sym e) on)

  -- the seats, where the key says something new
  pub key_seats : (ws : List ℕ) (vs : List View) (k : GateHolds n places ws vs) (id : ℕ) (l l' : KeyView) → get_elem? vs id ≡ some (Key l) → k.machine.key.born ≤ l'.born → l'.finals ≡ k.machine.key.finals → (j : ℕ) (u : View) → get_elem? (set vs id (Key l')) j ≡ some u
      → SeatFits n record { passes = k.machine.passes; key = l' } k.owner k.holder j u
  key_seats ws vs k id l l' at grows same = let mine = k.seats id (Key l) at in
      all_set (SeatFits n record { passes = k.machine.passes; key = l' } k.owner k.holder) vs id (Key l') (mine.0, refl) (λ j u other e. seat_by_key n k.machine k.owner k.holder l' j u grows same (λ z. other (z ∙ mine.0)) (k.seats j u e))

  -- the key makes the next pass
  pub key_makes : (ws : List ℕ) (vs : List View) (k : GateHolds n places ws vs) (id : ℕ) (l : KeyView) → l.born < n → l.finals ≡ [] → get_elem? vs id ≡ some (Key l)
      → GateHolds n places ws (set vs id (Key (more l)) ++ Pass (l.born + 1) start ∷ [])
  key_makes ws vs k id l room alone at =
      let mine = k.seats id (Key l) at in
      let old : KeyView = k.machine.key in
      let same : l.born ≡ old.born = ap (λ (y : KeyView). y.born) mine.1 in
      let new : GateMachine = record { passes = k.machine.passes; key = more old } in
      let us : List View = set vs id (Key (more l)) in
      let owner : ℕ → ℕ = λ t. if t == l.born + 1 then length us else k.owner t in
      let law = k.lawful in
      let before : (j : ℕ) (u : View) → get_elem? us j ≡ some u → is_not (l.born + 1) u =
      all_set (λ (j : ℕ) (u : View). is_not (l.born + 1) u) vs id (Key (more l)) (no_key (l.born + 1) (more l)) (λ j u _ e. early n k.machine k.owner k.holder l.born j u (omega arith) (k.seats j u e)) in
      let others : (j : ℕ) (u : View) → get_elem? us j ≡ some u → SeatFits n new owner k.holder j u =
      λ j u e. owned n new k.owner (l.born + 1) (length us) k.holder j u (before j u e)
      (key_seats ws vs k id l (more old) at (omega arith) refl j u (subst (λ (y : KeyView). get_elem? (set vs id (Key (more y))) j ≡ some u) mine.1 e)) in
      let few : length old.finals ≡ 0 = ap (λ (y : KeyView). length y.finals) (sym mine.1) ∙ ap (λ (xs : List PassView). length xs) alone in
      record {
        machine = new;
        owner = owner;
        holder = k.holder;
        wide = k.wide;
        many = k.many;
        size = k.size;
        version = k.version;
        stands = k.stands;
        flags = k.flags;
        seats = λ j u e. ⊎_elim (others j u)
            (λ (x : (j ≡ length us) × (Pass (l.born + 1) start ≡ u)). subst (λ (y : ℕ × View). SeatFits n new owner k.holder y.0 y.1) (λ i. (sym x.0 i, x.1 i))
            ((omega arith, omega arith), ap (λ (b : Bool). if b then length us else k.owner (l.born + 1)) (eq-eqb (l.born + 1) (l.born + 1) refl), sym (k.unborn (l.born + 1) (omega arith)), omega arith, omega arith))
            (at_snoc_here us (Pass (l.born + 1) start) u j e);
        unborn = λ t h. k.unborn t (omega arith);
        finals = k.finals;
        lawful = record { stages = law.stages; looks = law.looks; latest = law.latest; raised = law.raised; rows = law.rows; switches = law.switches; wide = law.wide; threads = law.threads; most = law.most; small = law.small };
      }

  -- the key takes in the pass of the next thread
  pub key_joins : (ws : List ℕ) (vs : List View) (k : GateHolds n places ws vs) (id : ℕ) (l : KeyView) (other t : ℕ) (p : PassView) → length l.finals + 1 ≡ t → get_elem? vs id ≡ some (Key l) → ¬ (other ≡ id) → get_elem? vs other ≡ some (Pass t p)
      → GateHolds n places ws (set (set vs id (Key (joined l p))) other Nobody)
  key_joins ws vs k id l other t p next at apart there =
      let mine = k.seats id (Key l) at in
      let pass = k.seats other (Pass t p) there in
      let old : KeyView = k.machine.key in
      let same : length l.finals ≡ length old.finals = ap (λ (y : KeyView). length y.finals) mine.1 in
      let new : GateMachine = record { passes = k.machine.passes; key = joined old p } in
      let law = k.lawful in
      let many : length old.finals + 1 ≡ t = omega arith in
      let here : SeatFits n new k.owner k.holder id (Key (joined l p)) = (mine.0, ap (λ (y : KeyView). joined y p) mine.1) in
      record {
        machine = new;
        owner = k.owner;
        holder = k.holder;
        wide = k.wide;
        many = k.many;
        size = k.size;
        version = k.version;
        stands = k.stands;
        flags = k.flags;
        seats = all_set (SeatFits n new k.owner k.holder) (set vs id (Key (joined l p))) other Nobody tt
            (λ j u far e. ⊎_elim
            (λ (x : (j ≡ id) × (Key (joined l p) ≡ u)). subst (λ (y : ℕ × View). SeatFits n new k.owner k.holder y.0 y.1) (λ i. (sym x.0 i, x.1 i)) here)
            (λ (x : (j ≢ id) × (get_elem? vs j ≡ some u)). seat_by_join n k.machine k.owner k.holder t p j u many (λ z. far (z ∙ pass.1)) (λ z. x.0 (z ∙ mine.0)) (k.seats j u x.1))
            (at_set vs id j (Key (joined l p)) u e));
        unborn = k.unborn;
        finals = λ j h. dite (ℕ_discrete j (length old.finals))
            (λ e. ap (λ (x : ℕ). k.machine.passes x) (ap (λ (x : ℕ). x + 1) e ∙ many) ∙ (sym pass.2 ∙ sym (ap (λ (x : ℕ). get_or (old.finals ++ p ∷ []) x start) e ∙ index_snoc old.finals p start)))
            (λ ne. let len = length_one old.finals p in k.finals j (omega arith) ∙ sym (index_before old.finals p start j (omega arith)));
        lawful = record { stages = law.stages; looks = law.looks; latest = law.latest; raised = law.raised; rows = law.rows; switches = law.switches; wide = law.wide; threads = law.threads; most = law.most; small = law.small };
      }

  -- the gate as it is made
  pub begins : (ws : List ℕ) → (0 < places) × (places ≤ mark) → ws ≡ replicate ((n + 1) + flag_words places) 0 → GateHolds n places ws (Key (first_key n places) ∷ [])
  begins ws size e =
      let some = size.0 in
      let m : GateMachine = record { passes = λ _. start; key = first_key n places } in
      let zero_at : (i : ℕ) → get_or ws i 0 ≡ 0 = λ i. ap (λ (xs : List ℕ). get_or xs i 0) e ∙ zeros ((n + 1) + flag_words places) i in
      let len : length ws ≡ (n + 1) + flag_words places = ap (λ (xs : List ℕ). length xs) e ∙ length-replicate ((n + 1) + flag_words places) 0 in
      record {
        machine = m;
        owner = λ _. 0;
        holder = 0;
        wide = omega arith;
        many = length-replicate (flag_words places) 0;
        size = refl;
        version = zero_at 0;
        stands = λ t h. zero_at t;
        flags = λ w h. zero_at ((n + 1) + w) ∙ sym (zeros (flag_words places) w);
        seats = λ i v d. subst (λ (x : ℕ × View). SeatFits n m (λ _. 0) 0 x.0 x.1) (λ k. (sym (at_zero (Key (first_key n places)) v i d).0 k, (at_zero (Key (first_key n places)) v i d).1 k)) (refl, refl);
        unborn = λ t h. refl;
        finals = λ t h. absurd (omega arith);
        lawful = record {
          stages = λ t h. omega arith;
          looks = λ t h. subst (λ (x : Look). LookFits (replicate (flag_words places) 0) x start) (sym (unknowns (n + 1) t)) tt;
          latest = λ t h. tt;
          raised = λ p on. absurd (true≢false (sym on ∙ none_up (flag_words places) p));
          rows = λ t h. record { count = omega arith; fresh = omega arith; below = λ k d l. absurd (omega arith); newest = λ v e. absurd (omega arith); order = tt };
          switches = λ k d l. absurd (omega arith);
          wide = length-replicate (n + 1) Unknown;
          threads = refl;
          most = omega arith;
          small = size.1;
        };
      }
