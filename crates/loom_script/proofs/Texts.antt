-- Names of filters and their texts.
use Rattle.std.proofs.Common.{ℕ, ◌+◌, ◌-◌, ◌<◌, ◌≤◌, ◌≡◌, Bool, true, false, nat_le, if◌then◌else◌, List, [], ◌∷◌, ◌++◌, length, take, drop, get_or, refl, sym, ap, subst, ◌∙◌, arith}
use Rattle.std.specs.List.{list_all}
use Rattle.std.proofs.lemmas.List.{take-append-drop, take_more}
use Rattle.std.proofs.lemmas.Bool.{leb-true, le-leb, and_parts, and_from}
use Rattle.loom_lexer.specs.Lexeme.{Each, BeginsWithout, is_letter, is_part}
use Rattle.loom_lexer.specs.Scan.{run_len}
use Rattle.loom_lexer.proofs.Front.{run_each}
use Rattle.loom_command.specs.FilterText.{is_blank}
use Rattle.loom_command.specs.Script.{longest_name, IsWord, IsFilterName, EndsDark, IsTrimmed}
use Rattle.loom_script.specs.Words.{is_word, is_filter_name, before_dark, without_blank_end, filter_text}

-- Names

each_part : (bs : List ℕ) → list_all is_part bs ≡ true → Each is_part bs
each_part [] h = tt
each_part (b ∷ bs) h = let p = and_parts (is_part b) (list_all is_part bs) h in (p.0, each_part bs p.1)

part_each : (bs : List ℕ) → Each is_part bs → list_all is_part bs ≡ true
part_each [] h = refl
part_each (b ∷ bs) h = and_from (is_part b) (list_all is_part bs) h.0 (part_each bs h.1)

word_told : (bs : List ℕ) → is_word bs ≡ true → IsWord bs
word_told [] h = absurd cc
word_told (b ∷ bs) h = let p = and_parts (is_letter b) (list_all is_part bs) h in (p.0, each_part bs p.1)

word_read : (bs : List ℕ) → IsWord bs → is_word bs ≡ true
word_read [] h = absurd h
word_read (b ∷ bs) h = and_from (is_letter b) (list_all is_part bs) h.0 (part_each bs h.1)

pub name_told : (name : List ℕ) → is_filter_name name ≡ true → IsFilterName name
name_told name h =
    let p = and_parts (is_word name) (nat_le (length name) longest_name) h in
    record { form = word_told name p.0; short = leb-true (length name) longest_name p.1 }

pub name_read : (name : List ℕ) → IsFilterName name → is_filter_name name ≡ true
name_read name h = and_from (is_word name) (nat_le (length name) longest_name) (word_read name h.form) (le-leb (length name) longest_name h.short)

pub name_some : (name : List ℕ) → is_filter_name name ≡ true → name ≡ [] → ⊥
name_some [] h e = absurd cc
name_some (b ∷ bs) h e = absurd cc

-- Blanks at an end

-- The text is these bytes without the blanks at their end.
pub record IsFrontOf (bytes text : List ℕ) : Type 0 where
  pub behind : List ℕ
  pub is : bytes ≡ text ++ behind
  pub blank : Each is_blank behind
  pub ends : EndsDark text

blank_front : (b : ℕ) (bs : List ℕ) → IsFrontOf bs [] → IsFrontOf (b ∷ bs) (before_dark b [])
blank_front b bs h = go (is_blank b) refl
  where
    go : (v : Bool) → is_blank b ≡ v → IsFrontOf (b ∷ bs) (if v then [] else b ∷ [])
    go true e = record { behind = b ∷ h.behind; is = ap (λ z. b ∷ z) h.is; blank = (e, h.blank); ends = tt }
    go false e = record { behind = h.behind; is = ap (λ z. b ∷ z) h.is; blank = h.blank; ends = e }

front_on : (b : ℕ) (bs text : List ℕ) → IsFrontOf bs text → IsFrontOf (b ∷ bs) (before_dark b text)
front_on b bs [] h = blank_front b bs h
front_on b bs (c ∷ cs) h = record { behind = h.behind; is = ap (λ z. b ∷ z) h.is; blank = h.blank; ends = h.ends }

front_of : (bytes : List ℕ) → IsFrontOf bytes (without_blank_end bytes)
front_of [] = record { behind = []; is = refl; blank = tt; ends = tt }
front_of (b ∷ bs) = front_on b bs (without_blank_end bs) (front_of bs)

begins_front : (p : ℕ → Bool) (xs ys : List ℕ) → BeginsWithout p (xs ++ ys) → BeginsWithout p xs
begins_front p [] ys h = tt
begins_front p (x ∷ xs) ys h = h

pub text_told : (rest : List ℕ) → IsTrimmed rest (filter_text rest)
text_told rest =
    let n : ℕ = run_len is_blank rest in
    let h : IsFrontOf (drop n rest) (filter_text rest) = front_of (drop n rest) in
    record {
      before = take n rest;
      behind = h.behind;
      is = sym (take-append-drop n rest) ∙ ap (λ z. take n rest ++ z) h.is;
      blank_before = (run_each is_blank rest).0;
      blank_behind = h.blank;
      begins = begins_front is_blank (filter_text rest) h.behind (subst (λ z. BeginsWithout is_blank z) h.is (run_each is_blank rest).1);
      ends = h.ends;
    }

-- the last byte tells whether it is left

pub blank_last : (xs : List ℕ) (b : ℕ) → is_blank b ≡ true → without_blank_end (xs ++ b ∷ []) ≡ without_blank_end xs
blank_last [] b h = rw h refl
blank_last (x ∷ xs) b h = ap (before_dark x) (blank_last xs b h)

before_some : (x : ℕ) (xs : List ℕ) (b : ℕ) → before_dark x (xs ++ b ∷ []) ≡ x ∷ (xs ++ b ∷ [])
before_some x [] b = refl
before_some x (y ∷ xs) b = refl

pub dark_last : (xs : List ℕ) (b : ℕ) → is_blank b ≡ false → without_blank_end (xs ++ b ∷ []) ≡ xs ++ b ∷ []
dark_last [] b h = rw h refl
dark_last (x ∷ xs) b h = ap (before_dark x) (dark_last xs b h) ∙ before_some x xs b

-- the bytes up to a place, by the last of them

last_of : (bytes : List ℕ) (end : ℕ) → 0 < end → end ≤ length bytes → take end bytes ≡ take (end - 1) bytes ++ get_or bytes (end - 1) 0 ∷ []
last_of bytes end l h =
    let size : end ≡ end - 1 + 1 = omega (arith, l) in
    ap (λ z. take z bytes) size ∙ take_more bytes (end - 1) 0 (omega (arith, l, h))

-- a blank more that is left
pub blank_there : (bytes : List ℕ) (end : ℕ) → 0 < end → end ≤ length bytes → is_blank (get_or bytes (end - 1) 0) ≡ true → without_blank_end (take (end - 1) bytes) ≡ without_blank_end (take end bytes)
blank_there bytes end l h b = sym (ap without_blank_end (last_of bytes end l h) ∙ blank_last (take (end - 1) bytes) (get_or bytes (end - 1) 0) b)

-- where the last byte isn't blank, all of them stay
pub dark_there : (bytes : List ℕ) (end : ℕ) → 0 < end → end ≤ length bytes → is_blank (get_or bytes (end - 1) 0) ≡ false → without_blank_end (take end bytes) ≡ without_blank_end bytes → take end bytes ≡ without_blank_end bytes
dark_there bytes end l h b same =
    let last : take end bytes ≡ take (end - 1) bytes ++ get_or bytes (end - 1) 0 ∷ [] = last_of bytes end l h in
    last ∙ sym (dark_last (take (end - 1) bytes) (get_or bytes (end - 1) 0) b) ∙ ap without_blank_end (sym last) ∙ same
