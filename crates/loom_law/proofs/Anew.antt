-- An install begins anew: what was used of a filter has a number that is spent, and no number is installed twice.
use Rattle.std.proofs.Common.{ℕ, ◌≡◌, ◌==◌, Bool, true, false, ◌&&◌, ◌||◌, List, [], ◌∷◌, ◌++◌, length, Some, refl, sym, ap, subst, ◌∙◌}
use Rattle.std.specs.List.{list_any, filter, count_by}
use Rattle.std.proofs.lemmas.List.Sums.{length-filter}
use Rattle.loom_trace.specs.declared.entry.Entry.{Entry}
use Rattle.loom_trace.specs.declared.entry.Entry.TheVariants as e
use Rattle.loom_law.specs.Filter.{has}
use Rattle.loom_law.specs.Control.{Command, Control, first_control, after_entry, control_after, control, is_post, is_past}
use Rattle.loom_law.specs.Lawful.{Setting, Front, front_at, is_held_by, is_installed}
use Rattle.loom_law.specs.Laws.{Balances, BeginsAnew}
use Rattle.loom_law.proofs.Strict.{IsStrict, balances}
use Rattle.loom_law.proofs.Earlier.{by_test, if_false, same_number}
use Rattle.loom_law.proofs.LastLeaves.{or_rest}
use Rattle.loom_law.proofs.Balance.{Says, AreSaid, IsSpent, spent_answered, spent_asked, spent_passed, IsSound, first_sound, sound_behind, sound_along}
use Rattle.loom_law.proofs.Obedience.{control_after_last, append_one, are_said}

-- a post or a completion of this filter
abbrev uses : ℕ → Entry → Bool
uses k (e.Post t l j n) = j == k
uses k (e.Past t l j ns) = j == k
uses k _ = false

-- what is used is installed
abbrev AreInstalled : List Command → Control → List Entry → Type 0
AreInstalled cs c [] = Unit {0}
AreInstalled cs c (x ∷ xs) = ((k : ℕ) → uses k x ≡ true → is_installed c k ≡ true) × AreInstalled cs (after_entry cs c x) xs

uses_installed : (f : Front) (x : Entry) → Balances f x → (k : ℕ) → uses k x ≡ true → is_installed f.control k ≡ true
uses_installed f (e.Post t l j n) h k b = subst (λ z. is_installed f.control z ≡ true) (same_number j k b) h
uses_installed f (e.Past t l j ns) h k b = subst (λ z. is_installed f.control z ≡ true) (same_number j k b) h
uses_installed f _ h k b = cc

installed_from : (s : Setting) (es : List Entry) (h : IsStrict s es) (front todo rest : List Entry) → es ≡ front ++ (todo ++ rest)
    → AreInstalled s.commands (control s.commands front) todo
installed_from s es h front [] rest is = tt
installed_from s es h front (x ∷ todo) rest is = (
  uses_installed (front_at s h.events front) x (balances s es h front x (todo ++ rest) is),
  subst (λ c. AreInstalled s.commands c todo) (control_after_last s.commands first_control front x)
      (installed_from s es h (front ++ x ∷ []) todo rest (is ∙ sym (append_one front x (todo ++ rest)))),
)

-- A number that is spent stays so

spent_behind : (cs : List Command) (c : Control) (x : Entry) (k : ℕ) → Says c x → IsSpent c k → IsSpent (after_entry cs c x) k
spent_behind cs c (e.Asked j) k h s = spent_asked c j k h s
spent_behind cs c (e.Refused j n m) k h s = spent_answered c k c.next refl s
spent_behind cs c (e.Installed j v ps) k h s = spent_answered c k c.next refl s
spent_behind cs c (e.Removed j v ps) k h s = spent_answered c k c.next refl s
spent_behind cs c (e.Stalled j t l) k h s = spent_answered c k c.next refl s
spent_behind cs c (e.Cut j) k h s = spent_answered c k c.next refl s
spent_behind cs c (e.Unreached j) k h s = spent_passed c j k h s
spent_behind cs c _ k h s = s

spent_along : (cs : List Command) (c : Control) (xs : List Entry) (k : ℕ) → AreSaid cs c xs → IsSpent c k → IsSpent (control_after cs c xs) k
spent_along cs c [] k h s = s
spent_along cs c (x ∷ xs) k h s = spent_along cs (after_entry cs c x) xs k h.1 (spent_behind cs c x k h.0 s)

used_spent : (cs : List Command) (c : Control) (xs : List Entry) (k : ℕ) → AreSaid cs c xs → AreInstalled cs c xs → IsSound c → list_any (uses k) xs ≡ true
    → IsSpent (control_after cs c xs) k
used_spent cs c [] k said there sound h = cc
used_spent cs c (x ∷ xs) k said there sound h =
    by_test (uses k x) (IsSpent (control_after cs (after_entry cs c x) xs) k)
    (λ b. spent_along cs (after_entry cs c x) xs k said.1 (spent_behind cs c x k said.0 (sound.spent k (there.0 k b))))
    (λ b. used_spent cs (after_entry cs c x) xs k said.1 there.1 (sound_behind cs c x said.0 sound) (or_rest (uses k x) (list_any (uses k) xs) b h))

-- What isn't used isn't counted

or_none : (a b : Bool) → (a || b) ≡ false → (a ≡ false) × (b ≡ false)
or_none true b h = cc
or_none false b h = (refl, h)

none_left : (P : Entry → Bool) (k : ℕ) → ((x : Entry) → uses k x ≡ false → P x ≡ false) → (xs : List Entry) → list_any (uses k) xs ≡ false → filter P xs ≡ []
none_left P k skips [] h = refl
none_left P k skips (x ∷ xs) h =
    let both = or_none (uses k x) (list_any (uses k) xs) h in
    if_false (P x) (x ∷ filter P xs) (filter P xs) (skips x both.0) ∙ none_left P k skips xs both.1

not_post : (k n : ℕ) (x : Entry) → uses k x ≡ false → is_post k n x ≡ false
not_post k n (e.Post t l j m) h = ap (λ b. b && (m == n)) h
not_post k n _ h = refl

not_past : (k n : ℕ) (x : Entry) → uses k x ≡ false → is_past k n x ≡ false
not_past k n (e.Past t l j ms) h = ap (λ b. b && has ms n) h
not_past k n _ h = refl

none_counted : (P : Entry → Bool) (k : ℕ) → ((x : Entry) → uses k x ≡ false → P x ≡ false) → (xs : List Entry) → list_any (uses k) xs ≡ false → count_by P xs ≡ 0
none_counted P k skips xs h = sym (length-filter P xs) ∙ ap length (none_left P k skips xs h)

pub anew : (s : Setting) (es : List Entry) (h : IsStrict s es) (front : List Entry) (k v : ℕ) (row : List ℕ) (rest : List Entry)
    → es ≡ front ++ e.Installed k v row ∷ rest → BeginsAnew front (control s.commands front) k
anew s es h front k v row rest is =
    let c : Control = control s.commands front in
    let behind : List Entry = e.Installed k v row ∷ rest in
    let asked : c.asked ≡ Some k = (h.stands front (e.Installed k v row) rest is).1.asked in
    let said : AreSaid s.commands first_control front = are_said s front behind (subst (IsStrict s) is h) in
    let sound : IsSound c = sound_along s.commands first_control front said first_sound in
    let there : AreInstalled s.commands first_control front = installed_from s es h [] front behind is in
    let not_spent : IsSpent c k → ⊥ = λ spent. spent.1 asked in
    let unused : list_any (uses k) front ≡ false = by_test (list_any (uses k) front) (list_any (uses k) front ≡ false)
    (λ b. absurd (not_spent (used_spent s.commands first_control front k said there first_sound b))) (λ b. b) in
    record {
      not_installed = by_test (is_installed c k) (is_installed c k ≡ false) (λ b. absurd (not_spent (sound.spent k b))) (λ b. b);
      no_holder = λ n t. by_test (is_held_by c k n t) (is_held_by c k n t ≡ false) (λ b. absurd (not_spent (sound.spent k (sound.installed k n t b)))) (λ b. b);
      no_posts = λ n. none_counted (is_post k n) k (not_post k n) front unused;
      no_completions = λ n. none_counted (is_past k n) k (not_past k n) front unused;
    }
