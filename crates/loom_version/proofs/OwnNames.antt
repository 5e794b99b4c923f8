-- Installed filters have names of their own.
use Rattle.std.proofs.Common.{ℕ, suc, ◌≡◌, Bool, true, false, not, List, [], ◌∷◌, ◌++◌, refl, sym, ap, subst, ◌∙◌, if◌then◌else◌}
use Rattle.std.specs.Prelude.{◌==◌}
use Rattle.std.specs.List.{filter, list_any}
use Rattle.std.specs.Cmp.Lexicographic.{same_text, bytes_decides}
use Rattle.std.proofs.lemmas.Bool.{eq-eqb}
use Rattle.loom_law.specs.Filter.{has}
use Rattle.loom_law.specs.Walk.{Version}
use Rattle.loom_law.specs.Control.{Command, command_at, name_in, have_one_name, left_by}
use Rattle.loom_law.proofs.Holdings.{either_of, or_left, or_right, same_number}
use Rattle.loom_law.proofs.Matches.{has_member}
use Rattle.loom_law.proofs.Course.{any_contains}
use Rattle.loom_version.specs.Version.{without_number}
use Rattle.loom_version.specs.Laws.{HaveOwnNames, HasVersionBehindInstall, HasVersionBehindRemoval, HasOwnNames, HasNumbersBelow}
use Rattle.loom_version.proofs.ActiveNumbers.{has_more, has_filter, below_more, below_filter}

-- Names

one_name : (cs : List Command) (i j : ℕ) → have_one_name cs i j ≡ true → name_in (command_at cs i) ≡ name_in (command_at cs j)
one_name cs i j h = same_text (name_in (command_at cs i)) (name_in (command_at cs j)) (sym h)

name_one : (cs : List Command) (i j : ℕ) → name_in (command_at cs i) ≡ name_in (command_at cs j) → have_one_name cs i j ≡ true
name_one cs i j e = (bytes_decides (name_in (command_at cs i)) (name_in (command_at cs j))).1 e

-- two that have the name of a third one have one name
shared_name : (cs : List Command) (i j k : ℕ) → have_one_name cs i k ≡ true → have_one_name cs j k ≡ true → have_one_name cs i j ≡ true
shared_name cs i j k h g = name_one cs i j (one_name cs i k h ∙ sym (one_name cs j k g))

turned_name : (cs : List Command) (i j : ℕ) → have_one_name cs i j ≡ true → have_one_name cs j i ≡ true
turned_name cs i j h = name_one cs j i (sym (one_name cs i j h))

-- A removal

-- tests that agree on the numbers of a list
filter_same : (p q : ℕ → Bool) (ks : List ℕ) → ((i : ℕ) → has ks i ≡ true → p i ≡ q i) → filter p ks ≡ filter q ks
filter_same p q [] h = refl
filter_same p q (k ∷ ks) h =
    let here : p k ≡ q k = h k (or_left (k == k) (has ks k) (eq-eqb k k refl)) in
    let later : filter p ks ≡ filter q ks = filter_same p q ks (λ i m. h i (or_right (k == i) (has ks i) m)) in
    ap (λ (b : Bool). if b then k ∷ filter p ks else filter p ks) here ∙ ap (λ (z : List ℕ). if q k then k ∷ z else z) later

by_both : (a b : Bool) → (a ≡ true → b ≡ true) → (b ≡ true → a ≡ true) → a ≡ b
by_both true true f g = refl
by_both true false f g = sym (f refl)
by_both false true f g = g refl
by_both false false f g = refl

left_alone : (cs : List Command) (j k : ℕ) (ks : List ℕ) → HaveOwnNames cs ks → has ks j ≡ true → have_one_name cs j k ≡ true → left_by cs k ks ≡ without_number j ks
left_alone cs j k ks own there named =
    filter_same (λ i. not (have_one_name cs i k)) (λ i. not (i == j)) ks
    (λ i m. ap not (by_both (have_one_name cs i k) (i == j)
    (λ h. eq-eqb i j (own i j m there (shared_name cs i j k h named)))
    (λ e. ap (λ (z : ℕ). have_one_name cs z k) (same_number i j e) ∙ named)))

pub version_behind_install : HasVersionBehindInstall
version_behind_install cs c k row = refl

pub version_behind_removal : HasVersionBehindRemoval
version_behind_removal cs c j k row own there named =
    let f : List ℕ → Version = λ ks. record { number = suc (Version.number c.version); active = ks } in
    ap f (left_alone cs j k (Version.active c.version) own there named)

-- Names stay their own

not_named : (cs : List Command) (ks : List ℕ) (j k : ℕ) → list_any (λ (i : ℕ). have_one_name cs i k) ks ≡ false → has ks j ≡ true → have_one_name cs j k ≡ true → ⊥
not_named cs ks j k none there named = let some = any_contains (λ (i : ℕ). have_one_name cs i k) ks j (has_member ks j there) named in cc

names_more : (cs : List Command) (ks : List ℕ) (k : ℕ) → HaveOwnNames cs ks → list_any (λ (i : ℕ). have_one_name cs i k) ks ≡ false → HaveOwnNames cs (ks ++ k ∷ [])
names_more cs ks k own none i j m n h =
    either_of (has_more ks k i m)
    (λ a. either_of (has_more ks k j n) (λ b. own i j a b h)
    (λ e. absurd (not_named cs ks i k none a (subst (λ (z : ℕ). have_one_name cs i z ≡ true) (sym e) h))))
    (λ e. either_of (has_more ks k j n)
    (λ b. absurd (not_named cs ks j k none b (turned_name cs k j (subst (λ (z : ℕ). have_one_name cs z j ≡ true) (sym e) h))))
    (λ d. sym e ∙ d))

pub own_names : HasOwnNames
own_names cs ks k own = record {
  install = names_more cs ks k own;
  removal = λ i j m n h. own i j (has_filter (λ (z : ℕ). not (z == k)) ks i m) (has_filter (λ (z : ℕ). not (z == k)) ks j n) h;
}

pub numbers_below : HasNumbersBelow
numbers_below n ks k h = record {
  install = below_more n ks k h;
  removal = below_filter n (λ (z : ℕ). not (z == k)) ks h;
}
