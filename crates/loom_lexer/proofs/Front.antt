-- What stands at the front of a text is a lexeme.
use Rattle.std.proofs.Common.{ℕ, suc, ◌≡◌, ◌<◌, Bool, true, false, nat_eq, if◌then◌else◌, List, [], ◌∷◌, take, drop, length, refl, sym, ap, subst, arith}
use Rattle.std.proofs.lemmas.List.{take-append-drop}
use Rattle.std.proofs.lemmas.Bool.{eqb-true}
use Rattle.loom_lexer.specs.declared.lexeme.Class.{Class}
use Rattle.loom_lexer.specs.declared.lexeme.Class.TheVariants as c
use Rattle.loom_lexer.specs.declared.lexeme.LexemeKind.{LexemeKind}
use Rattle.loom_lexer.specs.declared.lexeme.LexemeKind.TheVariants as k
use Rattle.loom_lexer.specs.Lexeme.{is, is_digit, is_part, is_inside_comment, class_of, Each, BeginsWithout, IsSign, IsPair, IsBad, IsComment, Spells, Lexeme, IsLexed}
use Rattle.loom_lexer.specs.Scan.{begins, run_len, kind_by, kind_at, len_by, len_at}

-- a run at the front meets the test, and stops
pub run_each : (p : ℕ → Bool) (bs : List ℕ) → Each p (take (run_len p bs) bs) × BeginsWithout p (drop (run_len p bs) bs)
run_each p [] = (tt, tt)
run_each p (b ∷ bs) = go (p b) refl (run_each p bs)
  where
    go : (v : Bool) → p b ≡ v → Each p (take (run_len p bs) bs) × BeginsWithout p (drop (run_len p bs) bs)
        → Each p (take (if v then suc (run_len p bs) else 0) (b ∷ bs)) × BeginsWithout p (drop (if v then suc (run_len p bs) else 0) (b ∷ bs))
    go true met h = ((met, h.0), h.1)
    go false met h = (tt, met)

abbrev pub Front : Class → ℕ → List ℕ → Type 0
Front c b bs = class_of b ≡ c → Spells (kind_by c bs) (take (len_by c bs) (b ∷ bs)) (drop (len_by c bs) (b ∷ bs))

pub comparison_front : (b : ℕ) (bs : List ℕ) → Front c.Comparison b bs
comparison_front b [] h = let P : Class → Type 0 = λ z. IsSign z [] in (refl, subst P (sym h) tt)
comparison_front b (d ∷ bs) h = go (nat_eq d 61) refl
  where
    go : (v : Bool) → nat_eq d 61 ≡ v → Spells (if v then k.Pair else k.Sign) (take (if v then 2 else 1) (b ∷ d ∷ bs)) (drop (if v then 2 else 1) (b ∷ d ∷ bs))
    go true met = let P : Class → Type 0 = λ z. IsPair z (d ∷ []) in subst P (sym h) (ap (λ z. z ∷ []) (eqb-true d 61 met))
    go false met = let P : Class → Type 0 = λ z. IsSign z (d ∷ bs) in (refl, subst P (sym h) met)

pub ampersand_front : (b : ℕ) (bs : List ℕ) → Front c.Ampersand b bs
ampersand_front b [] h = let P : Class → Type 0 = λ z. IsBad z [] in (refl, subst P (sym h) tt)
ampersand_front b (d ∷ bs) h = go (nat_eq d 38) refl
  where
    go : (v : Bool) → nat_eq d 38 ≡ v → Spells (if v then k.Pair else k.Bad) (take (if v then 2 else 1) (b ∷ d ∷ bs)) (drop (if v then 2 else 1) (b ∷ d ∷ bs))
    go true met = let P : Class → Type 0 = λ z. IsPair z (d ∷ []) in subst P (sym h) (ap (λ z. z ∷ []) (eqb-true d 38 met))
    go false met = let P : Class → Type 0 = λ z. IsBad z (d ∷ bs) in (refl, subst P (sym h) met)

pub bar_front : (b : ℕ) (bs : List ℕ) → Front c.Bar b bs
bar_front b [] h = let P : Class → Type 0 = λ z. IsBad z [] in (refl, subst P (sym h) tt)
bar_front b (d ∷ bs) h = go (nat_eq d 124) refl
  where
    go : (v : Bool) → nat_eq d 124 ≡ v → Spells (if v then k.Pair else k.Bad) (take (if v then 2 else 1) (b ∷ d ∷ bs)) (drop (if v then 2 else 1) (b ∷ d ∷ bs))
    go true met = let P : Class → Type 0 = λ z. IsPair z (d ∷ []) in subst P (sym h) (ap (λ z. z ∷ []) (eqb-true d 124 met))
    go false met = let P : Class → Type 0 = λ z. IsBad z (d ∷ bs) in (refl, subst P (sym h) met)

pub slash_front : (b : ℕ) (bs : List ℕ) → Front c.Slash b bs
slash_front b [] h = let P : Class → Type 0 = λ z. IsSign z [] in (refl, subst P (sym h) tt)
slash_front b (d ∷ bs) h = go (nat_eq d 47) refl
  where
    go : (v : Bool) → nat_eq d 47 ≡ v → Spells (if v then k.Comment else k.Sign) (take (if v then suc (run_len is_inside_comment (d ∷ bs)) else 1) (b ∷ d ∷ bs)) (drop (if v then suc (run_len is_inside_comment (d ∷ bs)) else 1) (b ∷ d ∷ bs))
    go true met =
        let e : d ≡ 47 = eqb-true d 47 met in
        let Q : Class → Type 0 = λ z. IsComment z (47 ∷ take (run_len is_inside_comment bs) bs) in
        let P : ℕ → Type 0 = λ z. Spells k.Comment (take (suc (run_len is_inside_comment (z ∷ bs))) (b ∷ z ∷ bs)) (drop (suc (run_len is_inside_comment (z ∷ bs))) (b ∷ z ∷ bs)) in
        subst P (sym e) (subst Q (sym h) (take (run_len is_inside_comment bs) bs, refl, (run_each is_inside_comment bs).0), (run_each is_inside_comment bs).1)
    go false met = let P : Class → Type 0 = λ z. IsSign z (d ∷ bs) in (refl, subst P (sym h) met)

pub front : (c : Class) (b : ℕ) (bs : List ℕ) → Front c b bs
front c.Letter b bs h = (h, (run_each is_part bs).0, (run_each is_part bs).1)
front c.Digit b bs h = (h, (run_each is_digit bs).0, (run_each is_digit bs).1)
front c.White b bs h = (h, refl)
front c.Single b bs h = let P : Class → Type 0 = λ z. IsSign z bs in (refl, subst P (sym h) tt)
front c.Comparison b bs h = comparison_front b bs h
front c.Ampersand b bs h = ampersand_front b bs h
front c.Bar b bs h = bar_front b bs h
front c.Slash b bs h = slash_front b bs h
front c.Other b bs h = let P : Class → Type 0 = λ z. IsBad z bs in (refl, subst P (sym h) tt)

pub spelled_at : (b : ℕ) (bs : List ℕ) → Spells (kind_at (b ∷ bs)) (take (len_at (b ∷ bs)) (b ∷ bs)) (drop (len_at (b ∷ bs)) (b ∷ bs))
spelled_at b bs = front (class_of b) b bs refl

abbrev pub lexeme : LexemeKind → List ℕ → Lexeme
lexeme kind text = record { kind = kind; text = text }

-- the lexeme at the front
abbrev pub first_of : List ℕ → Lexeme
first_of bs = lexeme (kind_at bs) (take (len_at bs) bs)

-- one more lexeme at the front
pub lexed_front : (bs : List ℕ) (ps : List Lexeme) → 0 < length bs → IsLexed ps (drop (len_at bs) bs) → IsLexed (first_of bs ∷ ps) bs
lexed_front [] ps l h = absurd (omega (arith, l))
lexed_front (b ∷ bs) ps l h = (drop (len_at (b ∷ bs)) (b ∷ bs), sym (take-append-drop (len_at (b ∷ bs)) (b ∷ bs)), spelled_at b bs, h)

pub some_by : (c : Class) (bs : List ℕ) → 0 < len_by c bs
some_by c.Letter bs = omega arith
some_by c.Digit bs = omega arith
some_by c.White bs = omega arith
some_by c.Single bs = omega arith
some_by c.Comparison bs = elim (begins (is 61) bs) as (λ v. 0 < (if v then 2 else 1)) [ true ↦ omega arith | false ↦ omega arith ]
some_by c.Ampersand bs = elim (begins (is 38) bs) as (λ v. 0 < (if v then 2 else 1)) [ true ↦ omega arith | false ↦ omega arith ]
some_by c.Bar bs = elim (begins (is 124) bs) as (λ v. 0 < (if v then 2 else 1)) [ true ↦ omega arith | false ↦ omega arith ]
some_by c.Slash bs = elim (begins (is 47) bs) as (λ v. 0 < (if v then suc (run_len is_inside_comment bs) else 1)) [ true ↦ omega arith | false ↦ omega arith ]
some_by c.Other bs = omega arith

pub some_len : (bs : List ℕ) → 0 < length bs → 0 < len_at bs
some_len [] l = absurd (omega (arith, l))
some_len (b ∷ bs) l = some_by (class_of b) bs
