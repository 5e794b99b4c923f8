-- The fields of a line are where the functions of bytes cut it.
use Rattle.std.proofs.Common.{ℕ, suc, ◌≡◌, Bool, true, false, not, if◌then◌else◌, List, [], ◌∷◌, ◌++◌, length, take, drop, inl, inr, refl, sym, ap, subst, ◌∙◌, append-nil, arith}
use Rattle.std.proofs.lemmas.List.{take-append-drop}
use Rattle.std.proofs.lemmas.Bool.{eqb-true, eqb-false, eq-eqb}
use Rattle.loom_lexer.specs.Lexeme.{Each, BeginsWithout}
use Rattle.loom_lexer.specs.Scan.{run_len}
use Rattle.loom_lexer.proofs.Front.{run_each}
use Rattle.loom_command.specs.FilterText.{is_blank}
use Rattle.loom_command.specs.Script.{is_dark, IsField, HasFields, IsSkipped}
use Rattle.loom_command.proofs.Fields.{SameField, one_field, has_dark}
use Rattle.loom_script.specs.Fields.{first_field, behind_field, are_blanks, skips, is_skipped}

-- A line is cut into blanks, its first field, which is empty where there is none, and what is behind it.
pub record IsCut (line field behind : List ℕ) : Type 0 where
  pub blanks : List ℕ
  pub is : line ≡ blanks ++ (field ++ behind)
  pub blank : Each is_blank blanks
  pub dark : Each is_dark field
  pub stops : BeginsWithout is_dark behind
  pub begins : BeginsWithout is_blank (field ++ behind)

pub cut : (line : List ℕ) → IsCut line (first_field line) (behind_field line)
unfolding first_field behind_field
cut line =
    let n : ℕ = run_len is_blank line in
    let rest : List ℕ = drop n line in
    let m : ℕ = run_len is_dark rest in
    let whole : take m rest ++ drop m rest ≡ rest = take-append-drop m rest in
    record {
      blanks = take n line;
      is = sym (take-append-drop n line) ∙ ap (λ z. take n line ++ z) (sym whole);
      blank = (run_each is_blank line).0;
      dark = (run_each is_dark rest).0;
      stops = (run_each is_dark rest).1;
      begins = subst (λ z. BeginsWithout is_blank z) (sym whole) (run_each is_blank line).1;
    }

-- what begins neither with a blank nor without one is empty
none_begins : (bs : List ℕ) → BeginsWithout is_blank bs → BeginsWithout is_dark bs → bs ≡ []
none_begins [] h k = refl
none_begins (b ∷ bs) h k = let n : not (is_blank b) ≡ not false = ap not h in absurd cc

-- a line without a field is blank
no_field : (line behind : List ℕ) → IsCut line [] behind → Each is_blank line
no_field line behind c =
    let none : behind ≡ [] = none_begins behind c.begins c.stops in
    let same : line ≡ c.blanks = c.is ∙ ap (λ z. c.blanks ++ z) none ∙ append-nil c.blanks in
    subst (λ z. Each is_blank z) (sym same) c.blank

some_field : (f : List ℕ) → Each is_dark f → (f ≡ [] → ⊥) → IsField f
some_field [] h n = absurd (n refl)
some_field (b ∷ bs) h n = h

-- where a line has fields, it is cut at the first
pub cut_told : (line f behind g : List ℕ) (fs : List (List ℕ)) (rest : List ℕ) → IsCut line f behind → HasFields (g ∷ fs) rest line → (g ≡ f) × HasFields fs rest behind
cut_told line [] behind g fs rest c h = absurd (has_dark h.0 g h.1 h.4 (subst (λ z. Each is_blank z) h.2 (no_field line behind c)))
cut_told line (b ∷ bs) behind g fs rest c h =
    let s : SameField g (b ∷ bs) h.1 behind = one_field h.0 c.blanks g (b ∷ bs) h.1 behind h.3 c.blank h.4 c.dark h.5 c.stops (sym h.2 ∙ c.is) in
    (s.field, subst (λ z. HasFields fs rest z) s.behind h.6)

-- and it has the field at which it is cut
pub cut_field : (line f behind : List ℕ) (fs : List (List ℕ)) (rest : List ℕ) → IsCut line f behind → (f ≡ [] → ⊥) → HasFields fs rest behind → HasFields (f ∷ fs) rest line
cut_field line f behind fs rest c n h = (c.blanks, behind, c.is, c.blank, some_field f c.dark n, c.stops, h)

-- Lines that are skipped

skip_told : (line f behind : List ℕ) → IsCut line f behind → skips f ≡ true → IsSkipped line
skip_told line [] behind c h = inl (no_field line behind c)
skip_told line (b ∷ bs) behind c h =
    let P : ℕ → Type 0 = λ z. HasFields ((z ∷ bs) ∷ []) behind line in
    inr (bs, behind, subst P (eqb-true b 35 h) (cut_field line (b ∷ bs) behind [] behind c (λ z. absurd cc) refl))

no_skip : (line f behind : List ℕ) → IsCut line f behind → skips f ≡ false → IsSkipped line → ⊥
no_skip line [] behind c h k = absurd cc
no_skip line (b ∷ bs) behind c h (inl blank) = has_dark c.blanks (b ∷ bs) behind c.dark (subst (λ z. Each is_blank z) c.is blank)
no_skip line (b ∷ bs) behind c h (inr k) =
    let t = cut_told line (b ∷ bs) behind (35 ∷ k.0) [] k.1 c k.2 in
    let same : 35 ∷ k.0 ≡ b ∷ bs = t.0 in
    let e : b ≡ 35 = cc in
    eqb-false b 35 h e

pub skipped_told : (line : List ℕ) → is_skipped line ≡ true → IsSkipped line
skipped_told line h = skip_told line (first_field line) (behind_field line) (cut line) h

pub not_skipped_told : (line : List ℕ) → is_skipped line ≡ false → IsSkipped line → ⊥
not_skipped_told line h = no_skip line (first_field line) (behind_field line) (cut line) h

-- Blanks alone

all_run : (p : ℕ → Bool) (bs : List ℕ) → run_len p bs ≡ length bs → Each p bs
all_run p [] h = tt
all_run p (b ∷ bs) h = go (p b) refl (all_run p bs) h
  where
    go : (v : Bool) → p b ≡ v → (run_len p bs ≡ length bs → Each p bs) → (if v then suc (run_len p bs) else 0) ≡ suc (length bs) → Each p (b ∷ bs)
    go true e again g = (e, again (omega (arith, g)))
    go false e again g = absurd (omega (arith, g))

run_all : (p : ℕ → Bool) (bs : List ℕ) → Each p bs → run_len p bs ≡ length bs
run_all p [] h = refl
run_all p (b ∷ bs) h = rw h.0 (ap suc (run_all p bs h.1))

pub blanks_told : (bytes : List ℕ) → are_blanks bytes ≡ true → Each is_blank bytes
blanks_told bytes h = all_run is_blank bytes (eqb-true (run_len is_blank bytes) (length bytes) h)

pub blanks_read : (bytes : List ℕ) → Each is_blank bytes → are_blanks bytes ≡ true
blanks_read bytes h = eq-eqb (run_len is_blank bytes) (length bytes) (run_all is_blank bytes h)
