-- Numbers and names, as functions of bytes, are those of the definitions.
use Rattle.std.proofs.Common.{ℕ, ◌+◌, ◌-◌, ◌*◌, ◌≤◌, ◌<◌, ◌≡◌, Bool, true, false, not, ◌&&◌, nat_eq, nat_lt, is_some, if◌then◌else◌, List, [], ◌∷◌, Option, Some, None, length, map, take, drop, All, get_or, length-take, length-drop, append-nil, eq-eqb, refl, sym, ap, subst, ◌∙◌, arith}
use Rattle.std.specs.List.{list_all}
use Rattle.std.proofs.lemmas.Bool.{ne_eqb, eqb-true, eqb-false, le-ltb, ltb-false}
use Rattle.std.proofs.lemmas.List.{take_all}
use Rattle.std.proofs.lemmas.List.Elements.{All-head}
use Rattle.loom_tree.specs.declared.token.Keyword.{Keyword}
use Rattle.loom_tree.specs.declared.token.TokenKind.{TokenKind}
use Rattle.loom_tree.specs.declared.token.TokenKind.TheVariants as t
use Rattle.loom_tree.specs.declared.token.Token as rust
use Rattle.loom_tree.specs.Token.{LineToken, Token, token_by, text_of, line_token_of, IsWithin}
use Rattle.loom_lexer.specs.declared.lexeme.LexemeKind.TheVariants as k
use Rattle.loom_lexer.specs.Lexeme.{Each, is_letter, is_digit, is_part, IsLexed}
use Rattle.loom_lexer.specs.Name.{IsName, IsProper}
use Rattle.loom_lexer.specs.Tokens.{value_from, keyword_of, AreTokens}
use Rattle.loom_lexer.proofs.Front.{lexeme}
use Rattle.loom_lexer.proofs.Proper.{tokens_proper}
use Rattle.loom_lexer.proofs.TokenList.{one_list_of_tokens}
use Rattle.loom_command.specs.FilterForm.{IsFileWord, IsNumber, filter_number_limit}
use Rattle.loom_command.proofs.Pieces.{more_parts, digits_part}
use Rattle.loom_filter.specs.Words.{is_name, number_from, number_by}

-- Numbers

-- a further digit makes no number less
pub value_more : (v : ℕ) (ds : List ℕ) → v ≤ value_from v ds
value_more v [] = omega arith
value_more v (d ∷ ds) = let h : 10 * v + (d - 48) ≤ value_from v (d ∷ ds) = value_more (10 * v + (d - 48)) ds in omega (arith, h)

-- The bytes are digits of this number, which is in the range.
pub record Reads (v : ℕ) (bs : List ℕ) (n : ℕ) : Type 0 where
  pub each : Each is_digit bs
  pub value : value_from v bs ≡ n
  pub least : 1 ≤ n

pub number_told : (v : ℕ) (bs : List ℕ) (n : ℕ) → number_from v bs ≡ Some n → Reads v bs n
number_told v [] n h = go (nat_eq v 0) refl h
  where
    go : (z : Bool) → nat_eq v 0 ≡ z → (if z then None else Some v) ≡ Some n → Reads v [] n
    go true e f = cc
    go false e f = let g : v ≡ n = cc in let i : v ≡ 0 → ⊥ = eqb-false v 0 e in record { each = tt; value = g; least = omega (arith, g, i) }
number_told v (b ∷ bs) n h = go (is_digit b) (nat_lt filter_number_limit (10 * v + (b - 48))) refl (number_told (10 * v + (b - 48)) bs n) h
  where
    go : (d m : Bool) → is_digit b ≡ d → (number_from (10 * v + (b - 48)) bs ≡ Some n → Reads (10 * v + (b - 48)) bs n)
        → (if d then (if m then None else number_from (10 * v + (b - 48)) bs) else None) ≡ Some n → Reads v (b ∷ bs) n
    go true false e f g = let i = f g in record { each = (e, i.each); value = i.value; least = i.least }
    go true true e f g = cc
    go false m e f g = cc

-- it isn't above the limit either
pub number_small : (v : ℕ) (bs : List ℕ) (n : ℕ) → v ≤ filter_number_limit → number_from v bs ≡ Some n → n ≤ filter_number_limit
number_small v [] n l h = go (nat_eq v 0) h
  where
    go : (z : Bool) → (if z then None else Some v) ≡ Some n → n ≤ filter_number_limit
    go true f = cc
    go false f = let g : v ≡ n = cc in omega (arith, g, l)
number_small v (b ∷ bs) n l h = go (is_digit b) (nat_lt filter_number_limit (10 * v + (b - 48))) refl (number_small (10 * v + (b - 48)) bs n) h
  where
    go : (d m : Bool) → nat_lt filter_number_limit (10 * v + (b - 48)) ≡ m → (10 * v + (b - 48) ≤ filter_number_limit → number_from (10 * v + (b - 48)) bs ≡ Some n → n ≤ filter_number_limit)
        → (if d then (if m then None else number_from (10 * v + (b - 48)) bs) else None) ≡ Some n → n ≤ filter_number_limit
    go true false e f g = f (ltb-false filter_number_limit (10 * v + (b - 48)) e) g
    go true true e f g = cc
    go false m e f g = cc

pub number_is : (bs : List ℕ) (n : ℕ) → number_by bs ≡ Some n → IsNumber bs
number_is bs n h =
    let i = number_told 0 bs n h in
    let s = number_small 0 bs n (omega arith) h in
    let e = i.value in
    let l = i.least in
    record { digits_alone = i.each; least = omega (arith, e, l); most = omega (arith, e, s) }

pub number_value : (bs : List ℕ) (n : ℕ) → number_by bs ≡ Some n → value_from 0 bs ≡ n
number_value bs n h = (number_told 0 bs n h).value

number_whole : (v : ℕ) (bs : List ℕ) → Each is_digit bs → 1 ≤ value_from v bs → value_from v bs ≤ filter_number_limit → number_from v bs ≡ Some (value_from v bs)
number_whole v [] h l m = rw (ne_eqb v 0 (λ e. omega (arith, l, e))) refl
number_whole v (b ∷ bs) h l m =
    let n : 10 * v + (b - 48) ≤ value_from v (b ∷ bs) = value_more (10 * v + (b - 48)) bs in
    rw (h.0, le-ltb filter_number_limit (10 * v + (b - 48)) (omega (arith, n, m))) (number_whole (10 * v + (b - 48)) bs h.1 l m)

-- a number is read
pub number_read : (bs : List ℕ) → IsNumber bs → number_by bs ≡ Some (value_from 0 bs)
number_read bs h = number_whole 0 bs h.digits_alone h.least h.most

-- Names

each_part : (bs : List ℕ) → list_all is_part bs ≡ true → Each is_part bs
each_part [] h = tt
each_part (b ∷ bs) h = go (is_part b) (list_all is_part bs) refl (each_part bs) h
  where
    go : (x y : Bool) → is_part b ≡ x → (y ≡ true → Each is_part bs) → (x && y) ≡ true → Each is_part (b ∷ bs)
    go true true e f g = (e, f refl)
    go true false e f g = cc
    go false y e f g = cc

part_all : (bs : List ℕ) → Each is_part bs → list_all is_part bs ≡ true
part_all [] h = refl
part_all (b ∷ bs) h = rw (h.0, part_all bs h.1) refl

pub name_is : (bs : List ℕ) → is_name bs ≡ true → IsName bs
name_is [] h = cc
name_is (b ∷ bs) h = go (is_letter b) (list_all is_part bs) (keyword_of (b ∷ bs)) refl refl refl h
  where
    go : (x y : Bool) (o : Option Keyword) → is_letter b ≡ x → list_all is_part bs ≡ y → keyword_of (b ∷ bs) ≡ o → (x && (y && not (is_some o))) ≡ true → IsName (b ∷ bs)
    go true true None e f g h = (e, each_part bs f, g)
    go true true (Some w) e f g h = cc
    go true false o e f g h = cc
    go false y o e f g h = cc

pub name_told : (bs : List ℕ) → IsName bs → is_name bs ≡ true
name_told [] h = absurd h
name_told (b ∷ bs) h = rw (h.0, part_all bs h.1, h.2) refl

-- digits aren't the name of anything
pub digits_no_name : (bs : List ℕ) → Each is_digit bs → is_name bs ≡ false
digits_no_name [] h = refl
digits_no_name (b ∷ bs) h = rw (no_letter b h.0) refl
  where
    no_letter : (c : ℕ) → is_digit c ≡ true → is_letter c ≡ false
    no_letter c e = grind arith

-- Both are words.

pub name_word : (bs : List ℕ) → IsName bs → IsFileWord bs
name_word [] h = absurd h
name_word (b ∷ bs) h = let l = h.0 in (rw l refl, more_parts bs h.1)

pub number_word : (bs : List ℕ) → IsNumber bs → IsFileWord bs
number_word [] h = let l : 1 ≤ 0 = h.least in omega (arith, l)
number_word (b ∷ bs) h = let p = digits_part (b ∷ bs) h.digits_alone in (p.0, more_parts bs p.1)

-- Names by their tokens

-- a name is one token
name_lexed : (w : List ℕ) → IsName w → AreTokens w ((record { token = Token.name w; line = 1 }) ∷ [])
name_lexed [] h = absurd h
name_lexed (b ∷ bs) h =
    let l = h.0 in
    let n = h.2 in
    let lexed : IsLexed (lexeme k.Name (b ∷ bs) ∷ []) (b ∷ bs) = ([], sym (append-nil (b ∷ bs)), (rw l refl, h.1, tt), refl) in
    record { lexemes = lexeme k.Name (b ∷ bs) ∷ []; lexed = lexed; theirs = rw n refl }

abbrev pub is_name_kind : TokenKind → Bool
is_name_kind t.Name = true
is_name_kind (t.Number n) = false
is_name_kind (t.Keyword w) = false
is_name_kind (t.Op o) = false
is_name_kind (t.Sign s) = false
is_name_kind t.Bad = false

-- what the tokens of a word say of it
abbrev pub name_by_tokens : List ℕ → List rust.Token → Bool
name_by_tokens w [] = false
name_by_tokens w (x ∷ []) = is_name_kind x.kind && nat_eq (x.end - x.start) (length w)
name_by_tokens w (x ∷ y ∷ xs) = false

name_kind : (kind : TokenKind) (text w : List ℕ) → token_by kind text ≡ Token.name w → (kind ≡ t.Name) × (text ≡ w)
name_kind t.Name text w e = (refl, (let f : text ≡ w = cc in f))
name_kind (t.Number n) text w e = cc
name_kind (t.Keyword k) text w e = cc
name_kind (t.Op o) text w e = cc
name_kind (t.Sign s) text w e = cc
name_kind t.Bad text w e = cc

-- a token with all bytes of a word is the word
whole_text : (w : List ℕ) (x : rust.Token) → IsWithin w x → x.end - x.start ≡ length w → text_of w x ≡ w
whole_text w x h e =
    let l = h.0 in
    let m = h.1 in
    let z : x.start ≡ 0 = omega (arith, l, m, e) in
    let f : text_of w x ≡ take (length w) (drop 0 w) = ap (λ n. take n (drop x.start w)) e ∙ ap (λ n. take (length w) (drop n w)) z in
    f ∙ take_all (length w) w (omega arith)

-- and one whose text is the word has all of them
all_bytes : (w : List ℕ) (x : rust.Token) → IsWithin w x → text_of w x ≡ w → x.end - x.start ≡ length w
all_bytes w x h e =
    let l = h.0 in
    let m = h.1 in
    let f : length (take (x.end - x.start) (drop x.start w)) ≡ length w = ap length e in
    omega (arith, l, m, f, length-take (x.end - x.start) (drop x.start w), length-drop x.start w)

pub name_found : (w : List ℕ) (ts : List rust.Token) → AreTokens w (map (line_token_of w) ts) → All (IsWithin w) ts → name_by_tokens w ts ≡ is_name w
name_found w ts h all = go (is_name w) refl ts h all
  where
    told : (x : rust.Token) → (line_token_of w x ∷ []) ≡ (record { token = Token.name w; line = 1 }) ∷ [] → token_by x.kind (text_of w x) ≡ Token.name w
    told x e = let f : line_token_of w x ≡ record { token = Token.name w; line = 1 } = cc in ap (λ (z : LineToken). z.token) f

    other : (x : rust.Token) (kind : TokenKind) (v : Bool) → x.kind ≡ kind → nat_eq (x.end - x.start) (length w) ≡ v → IsWithin w x → IsProper (token_by x.kind (text_of w x)) → is_name w ≡ false → (is_name_kind kind && v) ≡ false
    other x t.Name true e f i p n =
        let P : TokenKind → Type 0 = λ z. IsProper (token_by z (text_of w x)) in
        let named : IsName (text_of w x) = subst P e p in
        let g : is_name w ≡ true = name_told w (subst IsName (whole_text w x i (eqb-true (x.end - x.start) (length w) f)) named) in
        cc
    other x t.Name false e f i p n = refl
    other x (t.Number m) v e f i p n = refl
    other x (t.Keyword m) v e f i p n = refl
    other x (t.Op o) v e f i p n = refl
    other x (t.Sign s) v e f i p n = refl
    other x t.Bad v e f i p n = refl

    go : (v : Bool) → is_name w ≡ v → (us : List rust.Token) → AreTokens w (map (line_token_of w) us) → All (IsWithin w) us → name_by_tokens w us ≡ v
    go true e us i a = one us (one_list_of_tokens w (map (line_token_of w) us) ((record { token = Token.name w; line = 1 }) ∷ []) i (name_lexed w (name_is w e))) a
      where
        one : (us : List rust.Token) → map (line_token_of w) us ≡ (record { token = Token.name w; line = 1 }) ∷ [] → All (IsWithin w) us → name_by_tokens w us ≡ true
        one [] g a = cc
        one (x ∷ []) g a =
            let n = name_kind x.kind (text_of w x) w (told x g) in
            let kind = n.0 in
            let size = eq-eqb (x.end - x.start) (length w) (all_bytes w x (All-head (IsWithin w) x [] a) n.1) in
            rw (kind, size) refl
        one (x ∷ y ∷ xs) g a = cc
    go false e [] i a = refl
    go false e (x ∷ []) i a = other x x.kind (nat_eq (x.end - x.start) (length w)) refl refl (All-head (IsWithin w) x [] a) (tokens_proper w (map (line_token_of w) (x ∷ [])) i).0 e
    go false e (x ∷ y ∷ xs) i a = refl

-- What the code tells of them

pub one_token_told : (w : List ℕ) (ts : List rust.Token) (d : rust.Token) → 1 ≤ length ts → length ts < 2 → name_by_tokens w ts ≡ is_name w
    → (is_name_kind (get_or ts 0 d).kind && nat_eq ((get_or ts 0 d).end - (get_or ts 0 d).start) (length w)) ≡ is_name w
one_token_told w [] d l m h = absurd (omega (arith, l))
one_token_told w (x ∷ []) d l m h = h
one_token_told w (x ∷ y ∷ xs) d l m h = absurd (omega (arith, m))

pub other_kind : (kind : TokenKind) → (kind ≡ t.Name → ⊥) → is_name_kind kind ≡ false
other_kind t.Name h = absurd (h refl)
other_kind (t.Number n) h = refl
other_kind (t.Keyword w) h = refl
other_kind (t.Op o) h = refl
other_kind (t.Sign s) h = refl
other_kind t.Bad h = refl

pub other_count : (w : List ℕ) (ts : List rust.Token) → (length ts ≡ 1 → ⊥) → name_by_tokens w ts ≡ is_name w → false ≡ is_name w
other_count w [] n h = h
other_count w (x ∷ []) n h = absurd (n refl)
other_count w (x ∷ y ∷ xs) n h = h
