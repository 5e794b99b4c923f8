-- The first piece of a text, and what is behind it.
use Rattle.std.proofs.Common.{ℕ, ◌≡◌, Bool, true, false, nat_eq, ◌||◌, if◌then◌else◌, List, [], ◌∷◌, ◌++◌, refl, sym, ap, subst, ◌∙◌}
use Rattle.std.proofs.lemmas.Bool.{eqb-true}
use Rattle.loom_lexer.specs.Lexeme.{Each, BeginsWithout, is_letter, is_digit, is_part}
use Rattle.loom_lexer.proofs.Unique.{one_cut}
use Rattle.loom_command.specs.FilterForm.{is_file_part}
use Rattle.loom_command.specs.FilterText.{is_blank, Piece, word, sign, piece_bytes, AreWritten}
use Rattle.loom_command.proofs.Fields.{same_behind}

-- the first byte that isn't blank; 0 where there is none
abbrev pub head : List ℕ → ℕ
head [] = 0
head (b ∷ bs) = if is_blank b then head bs else b

pub head_blank : (bs rest : List ℕ) → Each is_blank bs → head (bs ++ rest) ≡ head rest
head_blank [] rest h = refl
head_blank (b ∷ bs) rest h = rw h.0 (head_blank bs rest h.1)

pub head_of_blanks : (bs : List ℕ) → Each is_blank bs → head bs ≡ 0
head_of_blanks [] h = refl
head_of_blanks (b ∷ bs) h = rw h.0 (head_of_blanks bs h.1)

-- the bytes begin, and not with a blank
abbrev pub IsDark : List ℕ → Type 0
IsDark [] = ⊥
IsDark (b ∷ bs) = is_blank b ≡ false

abbrev pub first_of : List ℕ → ℕ
first_of [] = 0
first_of (b ∷ bs) = b

head_dark : (bs rest : List ℕ) → IsDark bs → head (bs ++ rest) ≡ first_of bs
head_dark [] rest h = absurd h
head_dark (b ∷ bs) rest h = rw h refl

dark_stops : (bs rest : List ℕ) → IsDark bs → BeginsWithout is_blank (bs ++ rest)
dark_stops [] rest h = absurd h
dark_stops (b ∷ bs) rest h = h

-- the piece that comes first tells the first byte
pub head_piece : (x : Piece) (ps : List Piece) (rest bytes : List ℕ) → IsDark (piece_bytes x) → AreWritten (x ∷ ps) rest bytes → head bytes ≡ first_of (piece_bytes x)
head_piece x ps rest bytes d h = ap head h.2 ∙ head_blank h.0 (piece_bytes x ++ h.1) h.3 ∙ head_dark (piece_bytes x) h.1 d

-- the blanks before a piece are determined
pub one_begin : (x y : Piece) (ps qs : List Piece) (rest other bytes : List ℕ) → IsDark (piece_bytes x) → IsDark (piece_bytes y) → (h : AreWritten (x ∷ ps) rest bytes) (k : AreWritten (y ∷ qs) other bytes)
    → piece_bytes x ++ h.1 ≡ piece_bytes y ++ k.1
one_begin x y ps qs rest other bytes d e h k =
    let whole : h.0 ++ (piece_bytes x ++ h.1) ≡ k.0 ++ (piece_bytes y ++ k.1) = sym h.2 ∙ k.2 in
    let blanks : h.0 ≡ k.0 = one_cut is_blank h.0 k.0 (piece_bytes x ++ h.1) (piece_bytes y ++ k.1) h.3 k.3 (dark_stops (piece_bytes x) h.1 d) (dark_stops (piece_bytes y) k.1 e) whole in
    same_behind k.0 (piece_bytes x ++ h.1) (piece_bytes y ++ k.1) (ap (λ z. z ++ (piece_bytes x ++ h.1)) (sym blanks) ∙ whole)

-- the same bytes are these pieces and those, each with its own rest
pub record Both (ps qs : List Piece) (rest other : List ℕ) : Type 0 where
  pub bytes : List ℕ
  pub left : AreWritten ps rest bytes
  pub right : AreWritten qs other bytes

pub one_sign : (s : List ℕ) (ps qs : List Piece) (rest other bytes : List ℕ) → IsDark s → AreWritten (sign s ∷ ps) rest bytes → AreWritten (sign s ∷ qs) other bytes → Both ps qs rest other
one_sign s ps qs rest other bytes d h k =
    let e : h.1 ≡ k.1 = same_behind s h.1 k.1 (one_begin (sign s) (sign s) ps qs rest other bytes d d h k) in
    record { bytes = k.1; left = subst (λ z. AreWritten ps rest z) e h.5; right = k.5 }

-- Words

part_dark : (b : ℕ) → is_part b ≡ true → is_blank b ≡ false
part_dark b h = go (nat_eq b 32) (nat_eq b 9) refl refl
  where
    go : (x y : Bool) → nat_eq b 32 ≡ x → nat_eq b 9 ≡ y → (x || y) ≡ false
    go true y e f = let g : is_part b ≡ is_part 32 = ap is_part (eqb-true b 32 e) in cc
    go false true e f = let g : is_part b ≡ is_part 9 = ap is_part (eqb-true b 9 f) in cc
    go false false e f = refl

-- the bytes of a word
pub record IsToken (bs : List ℕ) : Type 0 where
  pub dark : IsDark bs
  pub begins : is_part (first_of bs) ≡ true
  pub each : Each is_file_part bs

pub more_parts : (bs : List ℕ) → Each is_part bs → Each is_file_part bs
more_parts [] h = tt
more_parts (b ∷ bs) h = (rw h.0 refl, more_parts bs h.1)

letter_part : (b : ℕ) → is_letter b ≡ true → is_part b ≡ true
letter_part b h = rw h refl

digit_part : (l : Bool) (b : ℕ) → is_digit b ≡ true → (l || is_digit b) ≡ true
digit_part true b h = refl
digit_part false b h = h

pub token_of : (b : ℕ) (bs : List ℕ) → is_part b ≡ true → Each is_file_part bs → IsToken (b ∷ bs)
token_of b bs h i = record { dark = part_dark b h; begins = h; each = (rw h refl, i) }

pub letters_token : (b : ℕ) (bs : List ℕ) → is_letter b ≡ true → Each is_part bs → IsToken (b ∷ bs)
letters_token b bs h i = token_of b bs (letter_part b h) (more_parts bs i)

pub digits_part : (bs : List ℕ) → Each is_digit bs → Each is_part bs
digits_part [] h = tt
digits_part (b ∷ bs) h = (digit_part (is_letter b) b h.0, digits_part bs h.1)

pub record SameWord (f g : List ℕ) (ps qs : List Piece) (rest other : List ℕ) : Type 0 where
  pub same : f ≡ g
  pub behind : Both ps qs rest other

pub one_word : (f g : List ℕ) (ps qs : List Piece) (rest other bytes : List ℕ) → IsToken f → IsToken g → AreWritten (word f ∷ ps) rest bytes → AreWritten (word g ∷ qs) other bytes
    → SameWord f g ps qs rest other
one_word f g ps qs rest other bytes i j h k =
    let whole : f ++ h.1 ≡ g ++ k.1 = one_begin (word f) (word g) ps qs rest other bytes i.dark j.dark h k in
    let same : f ≡ g = one_cut is_file_part f g h.1 k.1 i.each j.each h.4 k.4 whole in
    let e : h.1 ≡ k.1 = same_behind g h.1 k.1 (ap (λ z. z ++ h.1) (sym same) ∙ whole) in
    record { same = same; behind = record { bytes = k.1; left = subst (λ z. AreWritten ps rest z) e h.5; right = k.5 } }

-- Pieces in two parts

pub record Cut (ps qs : List Piece) (rest bytes : List ℕ) : Type 0 where
  pub middle : List ℕ
  pub front : AreWritten ps middle bytes
  pub back : AreWritten qs rest middle

pub cut : (ps qs : List Piece) (rest bytes : List ℕ) → AreWritten (ps ++ qs) rest bytes → Cut ps qs rest bytes
cut [] qs rest bytes h = record { middle = bytes; front = refl; back = h }
cut (x ∷ ps) qs rest bytes h =
    let c = cut ps qs rest h.1 h.5 in
    record { middle = c.middle; front = (h.0, h.1, h.2, h.3, h.4, c.front); back = c.back }
