-- A text has one list of lexemes.
use Rattle.std.proofs.Common.{ℕ, ◌≡◌, Bool, false, List, [], ◌∷◌, ◌++◌, refl, sym, ap, subst, ◌∙◌}
use Rattle.loom_lexer.specs.declared.lexeme.Class.{Class}
use Rattle.loom_lexer.specs.declared.lexeme.Class.TheVariants as c
use Rattle.loom_lexer.specs.declared.lexeme.LexemeKind.{LexemeKind}
use Rattle.loom_lexer.specs.declared.lexeme.LexemeKind.TheVariants as k
use Rattle.loom_lexer.specs.Lexeme.{is, is_digit, is_part, is_inside_comment, class_of, Each, BeginsWithout, IsSign, IsPair, IsBad, IsComment, Spells, Lexeme, IsLexed}
use Rattle.loom_lexer.specs.Scan.{begins, kind_by, kind_at}
use Rattle.loom_lexer.proofs.Front.{lexeme}

-- where two cuts are behind bytes that meet a test and before one that doesn't, they are one
pub one_cut : (p : ℕ → Bool) (ks bs xs ys : List ℕ) → Each p ks → Each p bs → BeginsWithout p xs → BeginsWithout p ys → ks ++ xs ≡ bs ++ ys → ks ≡ bs
one_cut p [] [] xs ys ha hb hx hy e = refl
one_cut p [] (b ∷ bs) [] ys ha hb hx hy e = cc
one_cut p [] (b ∷ bs) (x ∷ xs) ys ha hb hx hy e = let f : x ≡ b = cc in let g : p x ≡ p b = ap p f in let h = hb.0 in cc
one_cut p (a ∷ ks) [] xs [] ha hb hx hy e = cc
one_cut p (a ∷ ks) [] xs (y ∷ ys) ha hb hx hy e = let f : a ≡ y = cc in let g : p a ≡ p y = ap p f in let h = ha.0 in cc
one_cut p (a ∷ ks) (b ∷ bs) xs ys ha hb hx hy e =
    let i = one_cut p ks bs xs ys ha.1 hb.1 hx hy (let t : ks ++ xs ≡ bs ++ ys = cc in t) in
    cc

pub begins_not : (p : ℕ → Bool) (rest : List ℕ) → BeginsWithout p rest → begins p rest ≡ false
begins_not p [] h = refl
begins_not p (b ∷ bs) h = h

-- the bytes tell the kind

pub sign_told : (c : Class) (rest : List ℕ) → IsSign c rest → kind_by c rest ≡ k.Sign
sign_told c.Single rest h = refl
sign_told c.Comparison rest h = rw (begins_not (is 61) rest h) refl
sign_told c.Slash rest h = rw (begins_not (is 47) rest h) refl
sign_told c.Letter rest h = absurd h
sign_told c.Digit rest h = absurd h
sign_told c.White rest h = absurd h
sign_told c.Ampersand rest h = absurd h
sign_told c.Bar rest h = absurd h
sign_told c.Other rest h = absurd h

pub pair_told : (c : Class) (bs rest : List ℕ) → IsPair c bs → kind_by c (bs ++ rest) ≡ k.Pair
pair_told c.Comparison bs rest h = rw h refl
pair_told c.Ampersand bs rest h = rw h refl
pair_told c.Bar bs rest h = rw h refl
pair_told c.Letter bs rest h = absurd h
pair_told c.Digit bs rest h = absurd h
pair_told c.White bs rest h = absurd h
pair_told c.Single bs rest h = absurd h
pair_told c.Slash bs rest h = absurd h
pair_told c.Other bs rest h = absurd h

pub bad_told : (c : Class) (rest : List ℕ) → IsBad c rest → kind_by c rest ≡ k.Bad
bad_told c.Ampersand rest h = rw (begins_not (is 38) rest h) refl
bad_told c.Bar rest h = rw (begins_not (is 124) rest h) refl
bad_told c.Other rest h = refl
bad_told c.Letter rest h = absurd h
bad_told c.Digit rest h = absurd h
bad_told c.White rest h = absurd h
bad_told c.Single rest h = absurd h
bad_told c.Comparison rest h = absurd h
bad_told c.Slash rest h = absurd h

pub comment_told : (c : Class) (bs rest : List ℕ) → IsComment c bs → kind_by c (bs ++ rest) ≡ k.Comment
comment_told c.Slash bs rest h = rw h.1 refl
comment_told c.Letter bs rest h = absurd h
comment_told c.Digit bs rest h = absurd h
comment_told c.White bs rest h = absurd h
comment_told c.Single bs rest h = absurd h
comment_told c.Comparison bs rest h = absurd h
comment_told c.Ampersand bs rest h = absurd h
comment_told c.Bar bs rest h = absurd h
comment_told c.Other bs rest h = absurd h

pub kind_told : (kind : LexemeKind) (text rest : List ℕ) → Spells kind text rest → kind_at (text ++ rest) ≡ kind
kind_told kind [] rest h = absurd h
kind_told k.White (b ∷ bs) rest h = rw h.0 refl
kind_told k.Comment (b ∷ bs) rest h = comment_told (class_of b) bs rest h.0
kind_told k.Name (b ∷ bs) rest h = rw h.0 refl
kind_told k.Number (b ∷ bs) rest h = rw h.0 refl
kind_told k.Sign (b ∷ bs) rest h = rw h.0 (sign_told (class_of b) rest h.1)
kind_told k.Pair (b ∷ bs) rest h = pair_told (class_of b) bs rest h
kind_told k.Bad (b ∷ bs) rest h = rw h.0 (bad_told (class_of b) rest h.1)

-- and where the lexeme ends

pub one_pair : (c : Class) (s t : List ℕ) → IsPair c s → IsPair c t → s ≡ t
one_pair c.Comparison s t h i = h ∙ sym i
one_pair c.Ampersand s t h i = h ∙ sym i
one_pair c.Bar s t h i = h ∙ sym i
one_pair c.Letter s t h i = absurd h
one_pair c.Digit s t h i = absurd h
one_pair c.White s t h i = absurd h
one_pair c.Single s t h i = absurd h
one_pair c.Slash s t h i = absurd h
one_pair c.Other s t h i = absurd h

pub one_comment : (c : Class) (s t xs ys : List ℕ) → IsComment c s → IsComment c t → BeginsWithout is_inside_comment xs → BeginsWithout is_inside_comment ys → s ++ xs ≡ t ++ ys → s ≡ t
one_comment c.Slash s t xs ys h i x y r =
    let r' : (47 ∷ h.0) ++ xs ≡ (47 ∷ i.0) ++ ys = sym (ap (λ z. z ++ xs) h.1) ∙ r ∙ ap (λ z. z ++ ys) i.1 in
    let q : h.0 ++ xs ≡ i.0 ++ ys = cc in
    let f = one_cut is_inside_comment h.0 i.0 xs ys h.2 i.2 x y q in
    h.1 ∙ ap (λ z. 47 ∷ z) f ∙ sym i.1
one_comment c.Letter s t xs ys h i x y r = absurd h
one_comment c.Digit s t xs ys h i x y r = absurd h
one_comment c.White s t xs ys h i x y r = absurd h
one_comment c.Single s t xs ys h i x y r = absurd h
one_comment c.Comparison s t xs ys h i x y r = absurd h
one_comment c.Ampersand s t xs ys h i x y r = absurd h
one_comment c.Bar s t xs ys h i x y r = absurd h
one_comment c.Other s t xs ys h i x y r = absurd h

pub text_told : (kind : LexemeKind) (s t xs ys : List ℕ) → Spells kind s xs → Spells kind t ys → s ++ xs ≡ t ++ ys → s ≡ t
text_told kind [] t xs ys h i e = absurd h
text_told kind (a ∷ s) [] xs ys h i e = absurd i
text_told k.Name (a ∷ s) (b ∷ t) xs ys h i e = let f = one_cut is_part s t xs ys h.1 i.1 h.2 i.2 (let r : s ++ xs ≡ t ++ ys = cc in r) in cc
text_told k.Number (a ∷ s) (b ∷ t) xs ys h i e = let f = one_cut is_digit s t xs ys h.1 i.1 h.2 i.2 (let r : s ++ xs ≡ t ++ ys = cc in r) in cc
text_told k.Comment (a ∷ s) (b ∷ t) xs ys h i e =
    let r : s ++ xs ≡ t ++ ys = cc in
    let f : b ≡ a = cc in
    let P : ℕ → Type 0 = λ z. IsComment (class_of z) t in
    let g = one_comment (class_of a) s t xs ys h.0 (subst P f i.0) h.1 i.1 r in
    cc
text_told k.White (a ∷ s) (b ∷ t) xs ys h i e = let f = h.1 in let g = i.1 in cc
text_told k.Sign (a ∷ s) (b ∷ t) xs ys h i e = let f = h.0 in let g = i.0 in cc
text_told k.Bad (a ∷ s) (b ∷ t) xs ys h i e = let f = h.0 in let g = i.0 in cc
text_told k.Pair (a ∷ s) (b ∷ t) xs ys h i e =
    let f : b ≡ a = cc in
    let P : ℕ → Type 0 = λ z. IsPair (class_of z) t in
    let g = one_pair (class_of a) s t h (subst P f i) in
    cc

pub same_rest : (s t xs ys : List ℕ) → s ≡ t → s ++ xs ≡ t ++ ys → xs ≡ ys
same_rest [] [] xs ys f e = e
same_rest [] (b ∷ t) xs ys f e = cc
same_rest (a ∷ s) [] xs ys f e = cc
same_rest (a ∷ s) (b ∷ t) xs ys f e = same_rest s t xs ys (let g : s ≡ t = cc in g) (let r : s ++ xs ≡ t ++ ys = cc in r)

pub some_text : (kind : LexemeKind) (s xs : List ℕ) → Spells kind s xs → s ++ xs ≡ [] → ⊥
some_text kind [] xs h e = h
some_text kind (a ∷ s) xs h e = cc

pub one_lexing : (ps qs : List Lexeme) (bytes : List ℕ) → IsLexed ps bytes → IsLexed qs bytes → ps ≡ qs
one_lexing [] [] bytes h i = refl
one_lexing [] (q ∷ qs) bytes h i = absurd (some_text q.kind q.text i.0 i.2 (sym i.1 ∙ h))
one_lexing (p ∷ ps) [] bytes h i = absurd (some_text p.kind p.text h.0 h.2 (sym h.1 ∙ i))
one_lexing (p ∷ ps) (q ∷ qs) bytes h i =
    let e : p.text ++ h.0 ≡ q.text ++ i.0 = sym h.1 ∙ i.1 in
    let same_kind : p.kind ≡ q.kind = sym (kind_told p.kind p.text h.0 h.2) ∙ ap kind_at e ∙ kind_told q.kind q.text i.0 i.2 in
    let P : LexemeKind → Type 0 = λ z. Spells z p.text h.0 in
    let same_text : p.text ≡ q.text = text_told q.kind p.text q.text h.0 i.0 (subst P same_kind h.2) i.2 e in
    let r : h.0 ≡ i.0 = same_rest p.text q.text h.0 i.0 same_text e in
    let Q : List ℕ → Type 0 = λ z. IsLexed ps z in
    let rest = one_lexing ps qs i.0 (subst Q r h.3) i.3 in
    let same : p ≡ q = ap (λ (z : LexemeKind). lexeme z p.text) same_kind ∙ ap (λ (z : List ℕ). lexeme q.kind z) same_text in
    cc
