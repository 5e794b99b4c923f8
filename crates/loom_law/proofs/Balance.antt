-- What the journal says of who holds a clause, and what a thread holds in its walk, are the same for filters that are installed.
use Rattle.std.proofs.Common.{ℕ, suc, ◌≡◌, ◌==◌, ◌<◌, ◌⊎◌, inl, inr, Bool, true, false, not, ◌&&◌, List, [], ◌∷◌, ◌++◌, Some, None, refl, sym, ap, subst, ◌∙◌, if◌then◌else◌, arith}
use Rattle.std.specs.List.{filter, list_any}
use Rattle.std.proofs.lemmas.Bool.{and_parts}
use Rattle.std.proofs.lemmas.Map.Views.{any-filter_same}
use Rattle.std.proofs.lemmas.List.Folds.{list_any-append}
use Rattle.loom_trace.specs.declared.entry.Entry.{Entry}
use Rattle.loom_trace.specs.declared.entry.Entry.TheVariants as e
use Rattle.loom_law.specs.Filter.{has}
use Rattle.loom_law.specs.Walk.{Version, holds, without_clause}
use Rattle.loom_law.specs.Control.{Command, have_one_name, Holder, Control, first_control, without_holder, left_by, after_entry, control_after}
use Rattle.loom_law.specs.Lawful.{is_held_by, is_installed}
use Rattle.loom_law.proofs.Holdings.{or_cases, or_left, or_right, either_of, pick, same_number}

-- Tests

eq_same : (n : ℕ) → (n == n) ≡ true
eq_same n = grind arith

and_both : (a b : Bool) → a ≡ true → b ≡ true → (a && b) ≡ true
and_both true b h g = g
and_both false b h g = cc

not_both : (b : Bool) → b ≡ true → b ≡ false → ⊥
not_both true h g = cc
not_both false h g = cc

not_true : (b : Bool) → not b ≡ true → b ≡ false
not_true true h = cc
not_true false h = refl

true_not : (b : Bool) → b ≡ false → not b ≡ true
true_not true h = cc
true_not false h = refl

not_from : (b : Bool) → (b ≡ true → ⊥) → not b ≡ true
not_from true h = absurd (h refl)
not_from false h = refl

-- three numbers, and what is said of them
at_three : (P : ℕ → ℕ → ℕ → Type 0) (a b c j m t : ℕ) → ((a == j) && ((b == m) && (c == t))) ≡ true → P a b c → P j m t
at_three P a b c j m t h x =
    let one = and_parts (a == j) ((b == m) && (c == t)) h in
    let two = and_parts (b == m) (c == t) one.1 in
    subst (λ z. P z m t) (same_number a j one.0) (subst (λ z. P a z t) (same_number b m two.0) (subst (λ z. P a b z) (same_number c t two.1) x))

at_two : (P : ℕ → ℕ → Type 0) (a b j m : ℕ) → ((a == j) && (b == m)) ≡ true → P a b → P j m
at_two P a b j m h x =
    let one = and_parts (a == j) (b == m) h in
    subst (λ z. P z m) (same_number a j one.0) (subst (λ z. P a z) (same_number b m one.1) x)

-- Lists that are cut

-- the first of three decides the test
first_of : (P : ℕ → Bool) (a j : ℕ) (b : Bool) → ((a == j) && b) ≡ true → P a ≡ P j
first_of P a j b h = ap P (same_number a j (and_parts (a == j) b h).0)

abbrev pub held_in : List ℕ → List (ℕ × ℕ) → List (ℕ × ℕ)
held_in ks hs = filter (λ (h : ℕ × ℕ). has ks h.0) hs

abbrev pub holders_in : List ℕ → List Holder → List Holder
holders_in ks hs = filter (λ (h : Holder). has ks h.filter) hs

-- the thread of this number holds the clause
abbrev pub held_by : List Holder → ℕ → ℕ → ℕ → Bool
held_by hs k n t = list_any (λ (h : Holder). (h.filter == k) && ((h.clause == n) && (h.thread == t))) hs

pub holds_in : (ks : List ℕ) (hs : List (ℕ × ℕ)) (j m : ℕ) → holds (held_in ks hs) j m ≡ (has ks j && holds hs j m)
holds_in ks hs j m = any-filter_same (λ (h : ℕ × ℕ). (h.0 == j) && (h.1 == m)) (λ (h : ℕ × ℕ). has ks h.0) (has ks j) (λ h g. first_of (has ks) h.0 j (h.1 == m) g) hs

held_by_in : (ks : List ℕ) (hs : List Holder) (j m t : ℕ) → held_by (holders_in ks hs) j m t ≡ (has ks j && held_by hs j m t)
held_by_in ks hs j m t =
    any-filter_same (λ (h : Holder). (h.filter == j) && ((h.clause == m) && (h.thread == t))) (λ (h : Holder). has ks h.filter) (has ks j)
    (λ h g. first_of (has ks) h.filter j ((h.clause == m) && (h.thread == t)) g) hs

pub holds_without : (k n : ℕ) (hs : List (ℕ × ℕ)) (j m : ℕ) → holds (without_clause k n hs) j m ≡ (not ((j == k) && (m == n)) && holds hs j m)
holds_without k n hs j m =
    any-filter_same (λ (h : ℕ × ℕ). (h.0 == j) && (h.1 == m)) (λ (h : ℕ × ℕ). not ((h.0 == k) && (h.1 == n))) (not ((j == k) && (m == n)))
    (λ h g. at_two (λ a b. not ((h.0 == k) && (h.1 == n)) ≡ not ((a == k) && (b == n))) h.0 h.1 j m g refl) hs

held_by_without : (k n : ℕ) (hs : List Holder) (j m t : ℕ) → held_by (without_holder k n hs) j m t ≡ (not ((j == k) && (m == n)) && held_by hs j m t)
held_by_without k n hs j m t =
    any-filter_same (λ (h : Holder). (h.filter == j) && ((h.clause == m) && (h.thread == t))) (λ (h : Holder). not ((h.filter == k) && (h.clause == n)))
    (not ((j == k) && (m == n)))
    (λ h g. at_three (λ a b c. not ((h.filter == k) && (h.clause == n)) ≡ not ((a == k) && (b == n))) h.filter h.clause h.thread j m t g refl) hs

-- the clause is held by some thread
abbrev pub is_held : List Holder → ℕ → ℕ → Bool
is_held hs k n = list_any (λ (h : Holder). (h.filter == k) && (h.clause == n)) hs

by_some : (hs : List Holder) (k n t : ℕ) → held_by hs k n t ≡ true → is_held hs k n ≡ true
by_some [] k n t h = h
by_some (x ∷ hs) k n t h =
    either_of (or_cases ((x.filter == k) && ((x.clause == n) && (x.thread == t))) (held_by hs k n t) h)
    (λ m. let one = and_parts (x.filter == k) ((x.clause == n) && (x.thread == t)) m in
    or_left ((x.filter == k) && (x.clause == n)) (is_held hs k n) (and_both (x.filter == k) (x.clause == n) one.0 (and_parts (x.clause == n) (x.thread == t) one.1).0))
    (λ m. or_right ((x.filter == k) && (x.clause == n)) (is_held hs k n) (by_some hs k n t m))

pub has_more : (ks : List ℕ) (k j : ℕ) → has (ks ++ k ∷ []) j ≡ true → (has ks j ≡ true) ⊎ (k ≡ j)
has_more ks k j h =
    either_of (or_cases (has ks j) (has (k ∷ []) j) (sym (list_any-append (λ (m : ℕ). m == j) ks (k ∷ [])) ∙ h)) (λ m. inl m)
    (λ m. either_of (or_cases (k == j) false m) (λ g. inr (same_number k j g)) (λ g. cc))

more_has : (ks : List ℕ) (k j : ℕ) → has ks j ≡ true → has (ks ++ k ∷ []) j ≡ true
more_has ks k j h = list_any-append (λ (m : ℕ). m == j) ks (k ∷ []) ∙ or_left (has ks j) (has (k ∷ []) j) h

pub has_left : (cs : List Command) (k : ℕ) (ks : List ℕ) (j : ℕ) → has (left_by cs k ks) j ≡ true → has ks j ≡ true
has_left cs k ks j h =
    let same = any-filter_same (λ (m : ℕ). m == j) (λ (i : ℕ). not (have_one_name cs i k)) (not (have_one_name cs j k))
    (λ i g. ap (λ z. not (have_one_name cs z k)) (same_number i j g)) ks in
    (and_parts (not (have_one_name cs j k)) (has ks j) (sym same ∙ h)).1

-- What an entry of a lawful journal says of the control before it

abbrev pub Says : Control → Entry → Type 0
Says c (e.Enter u l k n) = (is_installed c k ≡ true) × (is_held c.holders k n ≡ false)
Says c (e.Leave u l k n) = is_held_by c k n u ≡ true
Says c (e.Asked k) = k ≡ c.next
Says c (e.Installed k v ps) = c.asked ≡ Some k
Says c (e.Unreached k) = k ≡ c.next
Says c _ = Unit {0}

abbrev pub AreSaid : List Command → Control → List Entry → Type 0
AreSaid cs c [] = Unit {0}
AreSaid cs c (x ∷ xs) = Says c x × AreSaid cs (after_entry cs c x) xs

-- The control by itself: a clause has one holder, whose filter is installed, and the number of a filter is asked once.

-- the command of this number was asked, and isn't the one that waits for an answer
abbrev pub IsSpent : Control → ℕ → Type 0
IsSpent c k = (k < c.next) × (c.asked ≡ Some k → ⊥)

pub record IsSound (c : Control) : Type 0 where
  pub one : (k n u v : ℕ) → is_held_by c k n u ≡ true → is_held_by c k n v ≡ true → u ≡ v
  pub installed : (k n u : ℕ) → is_held_by c k n u ≡ true → is_installed c k ≡ true
  pub spent : (k : ℕ) → is_installed c k ≡ true → IsSpent c k
  pub asked : (k : ℕ) → c.asked ≡ Some k → k < c.next

pub first_sound : IsSound first_control
first_sound = record { one = λ k n u v h g. cc; installed = λ k n u h. cc; spent = λ k h. cc; asked = λ k h. cc }

-- answered
pub spent_answered : (c : Control) (k next : ℕ) → next ≡ c.next → IsSpent c k → (k < next) × (None ≡ Some k → ⊥)
spent_answered c k next is h = (subst (λ z. k < z) (sym is) h.0, λ g. cc)

pub spent_asked : (c : Control) (k j : ℕ) → k ≡ c.next → IsSpent c j → (j < suc k) × (Some k ≡ Some j → ⊥)
spent_asked c k j is h = (let less : j < c.next = h.0 in omega arith, λ g. let same : k ≡ j = cc in let less : j < c.next = h.0 in omega arith)

pub spent_passed : (c : Control) (k j : ℕ) → k ≡ c.next → IsSpent c j → (j < suc k) × (c.asked ≡ Some j → ⊥)
spent_passed c k j is h = (let less : j < c.next = h.0 in omega arith, h.1)

enter_one : (c : Control) (u k n j m v w : ℕ) → IsSound c → is_held c.holders k n ≡ false
    → ((k == j) && ((n == m) && (u == v))) ≡ true → is_held_by c j m w ≡ true → ⊥
enter_one c u k n j m v w s free h g =
    at_three (λ a b x. is_held c.holders a b ≡ false → ⊥) j m v k n u (turned k n u j m v h) (λ f. not_both (is_held c.holders j m) (by_some c.holders j m w g) f) free
  where
    turned : (a b x a' b' x' : ℕ) → ((a == a') && ((b == b') && (x == x'))) ≡ true → ((a' == a) && ((b' == b) && (x' == x))) ≡ true
    turned a b x a' b' x' t =
        at_three (λ y z o. ((y == a) && ((z == b) && (o == x))) ≡ true) a b x a' b' x' t (and_both (a == a) _ (eq_same a) (and_both (b == b) _ (eq_same b) (eq_same x)))

entered_sound : (cs : List Command) (c : Control) (u l k n : ℕ) → Says c (e.Enter u l k n) → IsSound c → IsSound (after_entry cs c (e.Enter u l k n))
entered_sound cs c u l k n h s = record {
  one = λ j m v w a b.
      either_of (or_cases ((k == j) && ((n == m) && (u == v))) (is_held_by c j m v) a)
      (λ x. either_of (or_cases ((k == j) && ((n == m) && (u == w))) (is_held_by c j m w) b)
      (λ y. sym (same_thread k n u j m v x) ∙ same_thread k n u j m w y)
      (λ y. absurd (enter_one c u k n j m v w s h.1 x y)))
      (λ x. either_of (or_cases ((k == j) && ((n == m) && (u == w))) (is_held_by c j m w) b)
      (λ y. absurd (enter_one c u k n j m w v s h.1 y x))
      (λ y. s.one j m v w x y));
  installed = λ j m v a.
      either_of (or_cases ((k == j) && ((n == m) && (u == v))) (is_held_by c j m v) a)
      (λ x. at_three (λ p q r. is_installed c p ≡ true) k n u j m v x h.0) (λ x. s.installed j m v x);
  spent = s.spent;
  asked = s.asked;
}
  where
    same_thread : (a b x a' b' x' : ℕ) → ((a == a') && ((b == b') && (x == x'))) ≡ true → x ≡ x'
    same_thread a b x a' b' x' t = at_three (λ y z o. x ≡ o) a b x a' b' x' t refl

left_sound : (cs : List Command) (c : Control) (u l k n : ℕ) → IsSound c → IsSound (after_entry cs c (e.Leave u l k n))
left_sound cs c u l k n s = record {
  one = λ j m v w a b. s.one j m v w (before j m v a) (before j m w b);
  installed = λ j m v a. s.installed j m v (before j m v a);
  spent = s.spent;
  asked = s.asked;
}
  where
    before : (j m v : ℕ) → held_by (without_holder k n c.holders) j m v ≡ true → is_held_by c j m v ≡ true
    before j m v a = (and_parts (not ((j == k) && (m == n))) (is_held_by c j m v) (sym (held_by_without k n c.holders j m v) ∙ a)).1

removed_sound : (cs : List Command) (c : Control) (k v : ℕ) (ps : List ℕ) → IsSound c → IsSound (after_entry cs c (e.Removed k v ps))
removed_sound cs c k v ps s = record {
  one = λ j m t w a b. s.one j m t w (both j m t a).1 (both j m w b).1;
  installed = λ j m t a. (both j m t a).0;
  spent = λ j a. spent_answered c j c.next refl (s.spent j (has_left cs k (Version.active c.version) j a));
  asked = λ j a. cc;
}
  where
    both : (j m t : ℕ) → held_by (holders_in (left_by cs k (Version.active c.version)) c.holders) j m t ≡ true
        → (has (left_by cs k (Version.active c.version)) j ≡ true) × (is_held_by c j m t ≡ true)
    both j m t a = and_parts _ (is_held_by c j m t) (sym (held_by_in (left_by cs k (Version.active c.version)) c.holders j m t) ∙ a)

installed_sound : (cs : List Command) (c : Control) (k v : ℕ) (ps : List ℕ) → c.asked ≡ Some k → IsSound c → IsSound (after_entry cs c (e.Installed k v ps))
installed_sound cs c k v ps is s = record {
  one = s.one;
  installed = λ j m t a. more_has (Version.active c.version) k j (s.installed j m t a);
  spent = λ j a. either_of (has_more (Version.active c.version) k j a) (λ x. spent_answered c j c.next refl (s.spent j x))
      (λ x. (subst (λ z. z < c.next) x (s.asked k is), λ g. cc));
  asked = λ j a. cc;
}

asked_sound : (cs : List Command) (c : Control) (k : ℕ) → k ≡ c.next → IsSound c → IsSound (after_entry cs c (e.Asked k))
asked_sound cs c k is s = record {
  one = s.one;
  installed = s.installed;
  spent = λ j a. spent_asked c k j is (s.spent j a);
  asked = λ j a. let same : k ≡ j = cc in omega arith;
}

unreached_sound : (cs : List Command) (c : Control) (k : ℕ) → k ≡ c.next → IsSound c → IsSound (after_entry cs c (e.Unreached k))
unreached_sound cs c k is s = record {
  one = s.one;
  installed = s.installed;
  spent = λ j a. spent_passed c k j is (s.spent j a);
  asked = λ j a. let less : j < c.next = s.asked j a in omega arith;
}

-- no command waits any more
answered_sound : (c : Control) (closing : Bool) → IsSound c → IsSound (record c { asked = None; closing = closing })
answered_sound c closing s = record { one = s.one; installed = s.installed; spent = λ j a. spent_answered c j c.next refl (s.spent j a); asked = λ j a. cc }

pub sound_behind : (cs : List Command) (c : Control) (x : Entry) → Says c x → IsSound c → IsSound (after_entry cs c x)
sound_behind cs c (e.Enter u l k n) h s = entered_sound cs c u l k n h s
sound_behind cs c (e.Leave u l k n) h s = left_sound cs c u l k n s
sound_behind cs c (e.Asked k) h s = asked_sound cs c k h s
sound_behind cs c (e.Refused k n m) h s = answered_sound c c.closing s
sound_behind cs c (e.Installed k v ps) h s = installed_sound cs c k v ps h s
sound_behind cs c (e.Removed k v ps) h s = removed_sound cs c k v ps s
sound_behind cs c (e.Stalled k t l) h s = answered_sound c c.closing s
sound_behind cs c (e.Cut k) h s = answered_sound c true s
sound_behind cs c (e.Unreached k) h s = unreached_sound cs c k h s
sound_behind cs c _ h s = s

-- One thread beside it

-- what the thread of this number holds behind an entry
abbrev pub held_behind : ℕ → Control → List (ℕ × ℕ) → Entry → List (ℕ × ℕ)
held_behind t c hs (e.Enter u l k n) = if u == t then (k, n) ∷ hs else hs
held_behind t c hs (e.Leave u l k n) = if u == t then without_clause k n hs else hs
held_behind t c hs (e.Cross u l x v n) = if u == t then held_in (Version.active c.version) hs else hs
held_behind t c hs _ = hs

abbrev pub held_from : List Command → ℕ → Control → List (ℕ × ℕ) → List Entry → List (ℕ × ℕ)
held_from cs t c hs [] = hs
held_from cs t c hs (x ∷ xs) = held_from cs t (after_entry cs c x) (held_behind t c hs x) xs

-- what it holds of installed filters is what the control says
pub record IsBalanced (c : Control) (t : ℕ) (hs : List (ℕ × ℕ)) : Type 0 where
  pub spent : (k n : ℕ) → holds hs k n ≡ true → IsSpent c k
  pub there : (k n : ℕ) → holds hs k n ≡ true → is_installed c k ≡ true → is_held_by c k n t ≡ true
  pub here : (k n : ℕ) → is_held_by c k n t ≡ true → holds hs k n ≡ true

pub first_balanced : (t : ℕ) → IsBalanced first_control t []
first_balanced t = record { spent = λ k n h. cc; there = λ k n h g. cc; here = λ k n h. cc }

enter_mine : (cs : List Command) (c : Control) (t u l k n : ℕ) (hs : List (ℕ × ℕ)) → Says c (e.Enter u l k n) → IsSound c → (u == t) ≡ true → IsBalanced c t hs
    → IsBalanced (after_entry cs c (e.Enter u l k n)) t ((k, n) ∷ hs)
enter_mine cs c t u l k n hs h s me b = record {
  spent = λ j m a. either_of (or_cases ((k == j) && (n == m)) (holds hs j m) a) (λ x. at_two (λ y z. IsSpent c y) k n j m x (s.spent k h.0)) (λ x. b.spent j m x);
  there = λ j m a i. either_of (or_cases ((k == j) && (n == m)) (holds hs j m) a)
      (λ x. let two = and_parts (k == j) (n == m) x in
      or_left ((k == j) && ((n == m) && (u == t))) (is_held_by c j m t) (and_both (k == j) ((n == m) && (u == t)) two.0 (and_both (n == m) (u == t) two.1 me)))
      (λ x. or_right ((k == j) && ((n == m) && (u == t))) (is_held_by c j m t) (b.there j m x i));
  here = λ j m a. either_of (or_cases ((k == j) && ((n == m) && (u == t))) (is_held_by c j m t) a)
      (λ x. let one = and_parts (k == j) ((n == m) && (u == t)) x in
      or_left ((k == j) && (n == m)) (holds hs j m) (and_both (k == j) (n == m) one.0 (and_parts (n == m) (u == t) one.1).0))
      (λ x. or_right ((k == j) && (n == m)) (holds hs j m) (b.here j m x));
}

enter_other : (cs : List Command) (c : Control) (t u l k n : ℕ) (hs : List (ℕ × ℕ)) → (u == t) ≡ false → IsBalanced c t hs
    → IsBalanced (after_entry cs c (e.Enter u l k n)) t hs
enter_other cs c t u l k n hs other b = record {
  spent = b.spent;
  there = λ j m a i. or_right ((k == j) && ((n == m) && (u == t))) (is_held_by c j m t) (b.there j m a i);
  here = λ j m a. either_of (or_cases ((k == j) && ((n == m) && (u == t))) (is_held_by c j m t) a)
      (λ x. absurd (not_both (u == t) (and_parts (n == m) (u == t) (and_parts (k == j) ((n == m) && (u == t)) x).1).1 other)) (λ x. b.here j m x);
}

leave_mine : (cs : List Command) (c : Control) (t u l k n : ℕ) (hs : List (ℕ × ℕ)) → IsBalanced c t hs
    → IsBalanced (after_entry cs c (e.Leave u l k n)) t (without_clause k n hs)
leave_mine cs c t u l k n hs b = record {
  spent = λ j m a. b.spent j m (held j m a).1;
  there = λ j m a i. held_by_without k n c.holders j m t ∙ and_both (not ((j == k) && (m == n))) (is_held_by c j m t) (held j m a).0 (b.there j m (held j m a).1 i);
  here = λ j m a.
      let two = and_parts (not ((j == k) && (m == n))) (is_held_by c j m t) (sym (held_by_without k n c.holders j m t) ∙ a) in
      holds_without k n hs j m ∙ and_both (not ((j == k) && (m == n))) (holds hs j m) two.0 (b.here j m two.1);
}
  where
    held : (j m : ℕ) → holds (without_clause k n hs) j m ≡ true → (not ((j == k) && (m == n)) ≡ true) × (holds hs j m ≡ true)
    held j m a = and_parts (not ((j == k) && (m == n))) (holds hs j m) (sym (holds_without k n hs j m) ∙ a)

leave_other : (cs : List Command) (c : Control) (t u l k n : ℕ) (hs : List (ℕ × ℕ)) → Says c (e.Leave u l k n) → IsSound c → (u == t) ≡ false → IsBalanced c t hs
    → IsBalanced (after_entry cs c (e.Leave u l k n)) t hs
leave_other cs c t u l k n hs h s other b = record {
  spent = b.spent;
  there = λ j m a i.
      let mine : is_held_by c j m t ≡ true = b.there j m a i in
      held_by_without k n c.holders j m t ∙ and_both (not ((j == k) && (m == n))) (is_held_by c j m t) (not_from ((j == k) && (m == n)) (λ y. not_mine j m mine y)) mine;
  here = λ j m a. b.here j m (and_parts (not ((j == k) && (m == n))) (is_held_by c j m t) (sym (held_by_without k n c.holders j m t) ∙ a)).1;
}
  where
    not_mine : (j m : ℕ) → is_held_by c j m t ≡ true → ((j == k) && (m == n)) ≡ true → ⊥
    not_mine j m mine y =
        let same : u ≡ t = s.one k n u t h (at_two (λ p q. is_held_by c p q t ≡ true) j m k n y mine) in
        not_both (u == t) (subst (λ z. (u == z) ≡ true) same (eq_same u)) other

cross_mine : (c : Control) (t : ℕ) (hs : List (ℕ × ℕ)) → IsSound c → IsBalanced c t hs → IsBalanced c t (held_in (Version.active c.version) hs)
cross_mine c t hs s b = record {
  spent = λ j m a. b.spent j m (held j m a).1;
  there = λ j m a i. b.there j m (held j m a).1 i;
  here = λ j m a. holds_in (Version.active c.version) hs j m ∙ and_both (is_installed c j) (holds hs j m) (s.installed j m t a) (b.here j m a);
}
  where
    held : (j m : ℕ) → holds (held_in (Version.active c.version) hs) j m ≡ true → (is_installed c j ≡ true) × (holds hs j m ≡ true)
    held j m a = and_parts (is_installed c j) (holds hs j m) (sym (holds_in (Version.active c.version) hs j m) ∙ a)

answered_balanced : (c : Control) (t : ℕ) (hs : List (ℕ × ℕ)) (closing : Bool) → IsBalanced c t hs → IsBalanced (record c { asked = None; closing = closing }) t hs
answered_balanced c t hs closing b = record { spent = λ j m a. spent_answered c j c.next refl (b.spent j m a); there = b.there; here = b.here }

asked_balanced : (cs : List Command) (c : Control) (t k : ℕ) (hs : List (ℕ × ℕ)) → k ≡ c.next → IsBalanced c t hs → IsBalanced (after_entry cs c (e.Asked k)) t hs
asked_balanced cs c t k hs is b = record { spent = λ j m a. spent_asked c k j is (b.spent j m a); there = b.there; here = b.here }

unreached_balanced : (cs : List Command) (c : Control) (t k : ℕ) (hs : List (ℕ × ℕ)) → k ≡ c.next → IsBalanced c t hs
    → IsBalanced (after_entry cs c (e.Unreached k)) t hs
unreached_balanced cs c t k hs is b = record { spent = λ j m a. spent_passed c k j is (b.spent j m a); there = b.there; here = b.here }

installed_balanced : (cs : List Command) (c : Control) (t k v : ℕ) (ps : List ℕ) (hs : List (ℕ × ℕ)) → c.asked ≡ Some k → IsBalanced c t hs
    → IsBalanced (after_entry cs c (e.Installed k v ps)) t hs
installed_balanced cs c t k v ps hs is b = record {
  spent = λ j m a. spent_answered c j c.next refl (b.spent j m a);
  there = λ j m a i. either_of (has_more (Version.active c.version) k j i) (λ x. b.there j m a x)
      (λ x. absurd ((b.spent j m a).1 (subst (λ z. c.asked ≡ Some z) x is)));
  here = b.here;
}

removed_balanced : (cs : List Command) (c : Control) (t k v : ℕ) (ps : List ℕ) (hs : List (ℕ × ℕ)) → IsBalanced c t hs
    → IsBalanced (after_entry cs c (e.Removed k v ps)) t hs
removed_balanced cs c t k v ps hs b = record {
  spent = λ j m a. spent_answered c j c.next refl (b.spent j m a);
  there = λ j m a i. held_by_in stay c.holders j m t ∙ and_both (has stay j) (is_held_by c j m t) i (b.there j m a (has_left cs k (Version.active c.version) j i));
  here = λ j m a. b.here j m (and_parts (has stay j) (is_held_by c j m t) (sym (held_by_in stay c.holders j m t) ∙ a)).1;
}
  where
    stay : List ℕ
    stay = left_by cs k (Version.active c.version)

pub balanced_behind : (cs : List Command) (c : Control) (t : ℕ) (hs : List (ℕ × ℕ)) (x : Entry) → Says c x → IsSound c → IsBalanced c t hs
    → IsBalanced (after_entry cs c x) t (held_behind t c hs x)
balanced_behind cs c t hs (e.Enter u l k n) h s b =
    pick (IsBalanced (after_entry cs c (e.Enter u l k n)) t) (u == t) ((k, n) ∷ hs) hs (λ y. enter_mine cs c t u l k n hs h s y b) (λ y. enter_other cs c t u l k n hs y b)
balanced_behind cs c t hs (e.Leave u l k n) h s b =
    pick (IsBalanced (after_entry cs c (e.Leave u l k n)) t) (u == t) (without_clause k n hs) hs (λ y. leave_mine cs c t u l k n hs b)
    (λ y. leave_other cs c t u l k n hs h s y b)
balanced_behind cs c t hs (e.Cross u l x v n) h s b =
    pick (IsBalanced c t) (u == t) (held_in (Version.active c.version) hs) hs (λ y. cross_mine c t hs s b) (λ y. b)
balanced_behind cs c t hs (e.Asked k) h s b = asked_balanced cs c t k hs h b
balanced_behind cs c t hs (e.Refused k n m) h s b = answered_balanced c t hs c.closing b
balanced_behind cs c t hs (e.Installed k v ps) h s b = installed_balanced cs c t k v ps hs h b
balanced_behind cs c t hs (e.Removed k v ps) h s b = removed_balanced cs c t k v ps hs b
balanced_behind cs c t hs (e.Stalled k u l) h s b = answered_balanced c t hs c.closing b
balanced_behind cs c t hs (e.Cut k) h s b = answered_balanced c t hs true b
balanced_behind cs c t hs (e.Unreached k) h s b = unreached_balanced cs c t k hs h b
balanced_behind cs c t hs _ h s b = b

-- along a journal
pub sound_along : (cs : List Command) (c : Control) (xs : List Entry) → AreSaid cs c xs → IsSound c → IsSound (control_after cs c xs)
sound_along cs c [] h s = s
sound_along cs c (x ∷ xs) h s = sound_along cs (after_entry cs c x) xs h.1 (sound_behind cs c x h.0 s)

pub balanced_along : (cs : List Command) (c : Control) (t : ℕ) (hs : List (ℕ × ℕ)) (xs : List Entry) → AreSaid cs c xs → IsSound c → IsBalanced c t hs
    → IsBalanced (control_after cs c xs) t (held_from cs t c hs xs)
balanced_along cs c t hs [] h s b = b
balanced_along cs c t hs (x ∷ xs) h s b =
    balanced_along cs (after_entry cs c x) t (held_behind t c hs x) xs h.1 (sound_behind cs c x h.0 s) (balanced_behind cs c t hs x h.0 s b)
