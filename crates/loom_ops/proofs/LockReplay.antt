-- The locks and the control of a journal.
use Rattle.std.proofs.Common.{ℕ, ◌<◌, ◌≤◌, ◌≡◌, ◌==◌, if◌then◌else◌, Bool, true, false, not, ◌&&◌, ◌||◌, List, [], ◌∷◌, ◌++◌, length, map, Option, Some, None, refl, sym, ap, ◌∙◌, subst, cond}
use Rattle.std.specs.List.{AllByRecursion, filter}
use Rattle.std.proofs.lemmas.Bool.{and_parts}
use Rattle.std.proofs.lemmas.List.{length-map, map-append}
use Rattle.std.proofs.lemmas.Map.Views.{any-filter_same}
use Rattle.loom_law.specs.Filter.{Plan, has, is_alone, is_number, before_in}
use Rattle.loom_law.specs.Walk.{Version, Plans}
use Rattle.loom_law.specs.Control.{Command, have_one_name, Holder, Control, left_by}
use Rattle.loom_law.specs.Lawful.{plans, is_installed}
use Rattle.loom_law.proofs.Holdings.{or_cases, or_left, or_right, either_of, same_number}
use Rattle.loom_ops.specs.Ops.{FilterLocks, Ops, flag_of, is_yes, before_of, order_before, has_filter, has_lock, has_alone, is_holder, owns, locks_in, without_filter, KeepsLocks}
use Rattle.loom_ops.specs.Rows.{first_holder}
use Rattle.loom_ops.specs.Laws.{IsOpsOf, HasReplay, HasSameWords, HasOwners, HasOneHolderEach}
use Rattle.loom_ops.proofs.ListCuts.{map_cut}
use Rattle.loom_ops.proofs.AloneFlags.{flag_told}
use Rattle.loom_ops.proofs.Befores.{before_told}
use Rattle.loom_ops.proofs.Holders.{eq_same, holder_told}
use Rattle.loom_ops.proofs.Keeping.{filter_there}

abbrev locks_by : Plans → ℕ → FilterLocks
locks_by ps k = locks_in k (ps k)

-- What is told of filters

same_filters : (ps : Plans) (ks : List ℕ) (k : ℕ) → has_filter (map (locks_by ps) ks) k ≡ has ks k
same_filters ps [] k = refl
same_filters ps (j ∷ ks) k = ap (λ z. (j == k) || z) (same_filters ps ks k)

same_alone : (ps : Plans) (ks : List ℕ) (k n : ℕ) → has_alone (map (locks_by ps) ks) k n ≡ (has ks k && is_alone (ps k) n)
same_alone ps [] k n = refl
same_alone ps (j ∷ ks) k n =
    step (j == k) (is_yes (flag_of (FilterLocks.alone (locks_by ps j)) n)) (has_alone (map (locks_by ps) ks) k n) (has ks k) (is_alone (ps k) n)
    (λ e. flag_told (ps j) n ∙ ap (λ z. is_alone (ps z) n) (same_number j k e)) (same_alone ps ks k n)
  where
    step : (a b r h d : Bool) → (a ≡ true → b ≡ d) → r ≡ (h && d) → ((a && b) || r) ≡ ((a || h) && d)
    step true b r h d f g = taken b r h d (f refl) g
      where
        taken : (b r h d : Bool) → b ≡ d → r ≡ (h && d) → (b || r) ≡ d
        taken true r h d e g = e
        taken false r true d e g = g ∙ refl
        taken false r false d e g = g ∙ e
    step false b r h d f g = g

same_before : (ps : Plans) (ks : List ℕ) (k n : ℕ) → has ks k ≡ true → 0 < n → n ≤ length (Plan.watches (ps k))
    → order_before (map (locks_by ps) ks) k n ≡ before_in n (Plan.rulings (ps k))
same_before ps [] k n there low high = absurd cc
same_before ps (j ∷ ks) k n there low high =
    step (j == k) (λ e. same_number j k e) there (λ h. same_before ps ks k n h low high)
  where
    step : (b : Bool) → (b ≡ true → j ≡ k) → (b || has ks k) ≡ true → (has ks k ≡ true → order_before (map (locks_by ps) ks) k n ≡ before_in n (Plan.rulings (ps k)))
        → (if b then before_of (FilterLocks.befores (locks_by ps j)) n else order_before (map (locks_by ps) ks) k n) ≡ before_in n (Plan.rulings (ps k))
    step true f h g =
        ap (λ z. before_of (FilterLocks.befores (locks_by ps z)) n) (f refl) ∙ before_told (ps k) n low high
    step false f h g = g h

pub same_words : HasSameWords
same_words = record {
  installed = λ ps c o k is. ap (λ (z : List FilterLocks). has_filter z k) is.filters ∙ same_filters ps (Version.active c.version) k;
  count = λ ps c o is. ap length is.filters ∙ length-map (Version.active c.version) (locks_by ps);
  holds = λ ps c o k n t is. ap (λ (z : List Holder). is_holder z k n t) is.holders;
  alone = λ ps c o k n is. ap (λ (z : List FilterLocks). has_alone z k n) is.filters ∙ same_alone ps (Version.active c.version) k n;
  before = λ ps c o k n is there low high.
      ap (λ (z : List FilterLocks). order_before z k n) is.filters ∙ same_before ps (Version.active c.version) k n there low high;
}

-- Replay

-- cut by what is the same for each that is there
pub cut_alike : (p q : ℕ → Bool) (ks : List ℕ) → ((i : ℕ) → has ks i ≡ true → p i ≡ q i) → filter p ks ≡ filter q ks
cut_alike p q [] f = refl
cut_alike p q (k ∷ ks) f =
    step (p k) (q k) (f k (or_left (k == k) (has ks k) (eq_same k))) (cut_alike p q ks (λ i h. f i (or_right (k == i) (has ks i) h)))
  where
    step : (a b : Bool) {xs ys : List ℕ} → a ≡ b → xs ≡ ys → cond a (k ∷ xs) xs ≡ cond b (k ∷ ys) ys
    step a b {xs} {ys} e g = ap (λ (z : Bool). cond z (k ∷ xs) xs) e ∙ ap (λ (z : List ℕ). cond b (k ∷ z) z) g

cut_holders : (fs : List FilterLocks) (p q : Holder → Bool) (hs : List Holder) → AllByRecursion (λ (h : Holder). has_lock fs h.filter h.clause ≡ true) hs
    → ((h : Holder) → has_filter fs h.filter ≡ true → p h ≡ q h) → filter p hs ≡ filter q hs
cut_holders fs p q [] s f = refl
cut_holders fs p q (h ∷ hs) s f =
    ap (λ (z : Bool). cond z (h ∷ filter p hs) (filter p hs)) (f h (filter_there fs h.filter h.clause s.0))
    ∙ ap (λ (z : List Holder). cond (q h) (h ∷ z) z) (cut_holders fs p q hs s.1 f)

removal : (ps : Plans) (cs : List Command) (c : Control) (o : Ops) (j k : ℕ) → IsOpsOf ps c o → KeepsLocks o
    → ((i : ℕ) → is_installed c i ≡ true → have_one_name cs i j ≡ (i == k))
    → (Ops.filters (without_filter o k) ≡ map (locks_by ps) (left_by cs j (Version.active c.version)))
    × (Ops.holders (without_filter o k) ≡ filter (λ (h : Holder). has (left_by cs j (Version.active c.version)) h.filter) c.holders)
removal ps cs c o j k is keeps names = (filters, holders)
  where
    left : left_by cs j (Version.active c.version) ≡ filter (λ (i : ℕ). not (i == k)) (Version.active c.version)
    left = cut_alike (λ (i : ℕ). not (have_one_name cs i j)) (λ (i : ℕ). not (i == k)) (Version.active c.version) (λ i h. ap not (names i h))

    filters : Ops.filters (without_filter o k) ≡ map (locks_by ps) (left_by cs j (Version.active c.version))
    filters =
        ap (λ (z : List FilterLocks). filter (λ (f : FilterLocks). not (f.number == k)) z) is.filters
        ∙ (sym (map_cut (locks_by ps) (λ (f : FilterLocks). not (f.number == k)) (Version.active c.version)) ∙ ap (map (locks_by ps)) (sym left))

    there : (h : Holder) → has_filter o.filters h.filter ≡ true → not (h.filter == k) ≡ has (left_by cs j (Version.active c.version)) h.filter
    there h m =
        let here : has (Version.active c.version) h.filter ≡ true
        = sym (ap (λ (z : List FilterLocks). has_filter z h.filter) is.filters ∙ same_filters ps (Version.active c.version) h.filter) ∙ m in
        let cut : has (left_by cs j (Version.active c.version)) h.filter ≡ (not (h.filter == k) && has (Version.active c.version) h.filter)
        = ap (λ (z : List ℕ). has z h.filter) left
        ∙ any-filter_same (λ (i : ℕ). i == h.filter) (λ (i : ℕ). not (i == k)) (not (h.filter == k)) (λ i e. ap (λ z. not (z == k)) (same_number i h.filter e)) (Version.active c.version) in
        sym (cut ∙ (ap (λ z. not (h.filter == k) && z) here ∙ whole (not (h.filter == k))))
      where
        whole : (b : Bool) → (b && true) ≡ b
        whole true = refl
        whole false = refl

    holders : Ops.holders (without_filter o k) ≡ filter (λ (h : Holder). has (left_by cs j (Version.active c.version)) h.filter) c.holders
    holders =
        cut_holders o.filters (λ (h : Holder). not (h.filter == k)) (λ (h : Holder). has (left_by cs j (Version.active c.version)) h.filter) o.holders keeps.there there
        ∙ ap (filter (λ (h : Holder). has (left_by cs j (Version.active c.version)) h.filter)) is.holders

pub replay : HasReplay
replay = record {
  first = λ ps. record { filters = refl; holders = refl };
  enter = λ ps cs c o t l k n is. record { filters = is.filters; holders = ap (λ (z : List Holder). record { filter = k; clause = n; thread = t } ∷ z) is.holders };
  leave = λ ps cs c o t l k n is. record {
    filters = is.filters;
    holders = ap (filter (λ (h : Holder). not ((h.filter == k) && (h.clause == n)))) is.holders;
  };
  install = λ ps cs c o k v row is. record {
    filters = ap (λ (z : List FilterLocks). z ++ locks_by ps k ∷ []) is.filters ∙ sym (map-append (locks_by ps) (Version.active c.version) (k ∷ []));
    holders = is.holders;
  };
  remove = λ ps cs c o j v k row is keeps names. let both = removal ps cs c o j k is keeps names in record { filters = both.0; holders = both.1 };
}

-- Owners

-- one of them owns it
an_owner : (fs : List FilterLocks) (hs : List Holder) (u : ℕ) → owns (record { filters = fs; holders = hs; posts = [] }) u ≡ true
    → (k : ℕ) × ((n : ℕ) × ((has_alone fs k n ≡ true) × (is_holder hs k n u ≡ true)))
an_owner fs [] u h = cc
an_owner fs (x ∷ hs) u h =
    either_of (or_cases (has_alone fs x.filter x.clause && (x.thread == u)) (owns (record { filters = fs; holders = hs; posts = [] }) u) h)
    (λ m. let two = and_parts (has_alone fs x.filter x.clause) (x.thread == u) m in (
      x.filter,
      (
        x.clause,
        (
          two.0,
          or_left ((x.filter == x.filter) && ((x.clause == x.clause) && (x.thread == u))) (is_holder hs x.filter x.clause u)
              (three (x.filter == x.filter) (x.clause == x.clause) (x.thread == u) (eq_same x.filter) (eq_same x.clause) two.1),
        ),
      ),
    ))
    (λ m. let found = an_owner fs hs u m in
    (found.0, (found.1.0, (found.1.1.0, or_right ((x.filter == found.0) && ((x.clause == found.1.0) && (x.thread == u))) (is_holder hs found.0 found.1.0 u) found.1.1.1))))
  where
    three : (a b d : Bool) → a ≡ true → b ≡ true → d ≡ true → (a && (b && d)) ≡ true
    three true true d e f g = g
    three true false d e f g = cc
    three false b d e f g = cc

owner_of : (fs : List FilterLocks) (hs : List Holder) (k n u : ℕ) → has_alone fs k n ≡ true → is_holder hs k n u ≡ true → owns (record { filters = fs; holders = hs; posts = [] }) u ≡ true
owner_of fs [] k n u a h = h
owner_of fs (x ∷ hs) k n u a h =
    either_of (or_cases ((x.filter == k) && ((x.clause == n) && (x.thread == u))) (is_holder hs k n u) h)
    (λ m. let one = and_parts (x.filter == k) ((x.clause == n) && (x.thread == u)) m in
    let two = and_parts (x.clause == n) (x.thread == u) one.1 in
    or_left (has_alone fs x.filter x.clause && (x.thread == u)) (owns (record { filters = fs; holders = hs; posts = [] }) u)
    (both (has_alone fs x.filter x.clause) (x.thread == u)
    (subst (λ z. has_alone fs z x.clause ≡ true) (sym (same_number x.filter k one.0)) (subst (λ z. has_alone fs k z ≡ true) (sym (same_number x.clause n two.0)) a)) two.1))
    (λ m. or_right (has_alone fs x.filter x.clause && (x.thread == u)) (owns (record { filters = fs; holders = hs; posts = [] }) u) (owner_of fs hs k n u a m))
  where
    both : (a b : Bool) → a ≡ true → b ≡ true → (a && b) ≡ true
    both true b e g = g
    both false b e g = cc

clause_of_holder : (fs : List FilterLocks) (hs : List Holder) (k n t : ℕ) → AllByRecursion (λ (h : Holder). has_lock fs h.filter h.clause ≡ true) hs
    → is_holder hs k n t ≡ true → has_filter fs k ≡ true
clause_of_holder fs [] k n t s h = cc
clause_of_holder fs (x ∷ hs) k n t s h =
    either_of (or_cases ((x.filter == k) && ((x.clause == n) && (x.thread == t))) (is_holder hs k n t) h)
    (λ m. subst (λ z. has_filter fs z ≡ true) (same_number x.filter k (and_parts (x.filter == k) ((x.clause == n) && (x.thread == t)) m).0) (filter_there fs x.filter x.clause s.0))
    (λ m. clause_of_holder fs hs k n t s.1 m)

pub owners : HasOwners
owners = record {
  off = λ s f o t u is own other.
      let found = an_owner o.filters o.holders u own in
      record {
        filter = found.0;
        clause = found.1.0;
        alone = (and_parts (is_installed f.control found.0) (is_alone (plans s found.0) found.1.0) (sym (same_words.alone (plans s) f.control o found.0 found.1.0 is) ∙ found.1.1.0)).1;
        held = record { by = u; other = other; holds = subst (λ (z : List Holder). is_holder z found.0 found.1.0 u ≡ true) is.holders found.1.1.1 };
      };
  on = λ s f o t is keeps off.
      let holds : is_holder o.holders off.filter off.clause off.held.by ≡ true
      = subst (λ (z : List Holder). is_holder z off.filter off.clause off.held.by ≡ true) (sym is.holders) off.held.holds in
      let here : is_installed f.control off.filter ≡ true
      = sym (same_words.installed (plans s) f.control o off.filter is) ∙ clause_of_holder o.filters o.holders off.filter off.clause off.held.by keeps.there holds in
      let alone : has_alone o.filters off.filter off.clause ≡ true
      = same_words.alone (plans s) f.control o off.filter off.clause is ∙ both (is_installed f.control off.filter) (is_alone (plans s off.filter) off.clause) here off.alone in
      (off.held.by, (owner_of o.filters o.holders off.filter off.clause off.held.by alone holds, off.held.other));
}
  where
    both : (a b : Bool) → a ≡ true → b ≡ true → (a && b) ≡ true
    both true b e g = g
    both false b e g = cc

-- One holder

pub one_holder : HasOneHolderEach
one_holder = record {
  one = λ o k n t u keeps a b.
      same (first_holder o.holders k n) t u (holder_told o.holders k n t keeps.one ∙ a) (holder_told o.holders k n u keeps.one ∙ b);
  there = λ o k n t keeps h. clause_of_holder o.filters o.holders k n t keeps.there h;
  frees = λ o k n t.
      any-filter_same (λ (h : Holder). (h.filter == k) && ((h.clause == n) && (h.thread == t))) (λ (h : Holder). not (h.filter == k)) false
      (λ h e. ap not (and_parts (h.filter == k) ((h.clause == n) && (h.thread == t)) e).0) o.holders;
}
  where
    same : (x : Option ℕ) (t u : ℕ) → is_number t x ≡ true → is_number u x ≡ true → t ≡ u
    same None t u a b = cc
    same (Some v) t u a b = sym (same_number v t a) ∙ same_number v u b
