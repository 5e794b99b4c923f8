-- Bytes are refused at one line and for one reason, where they are refused.
use Rattle.std.proofs.Common.{ℕ, zero, suc, ◌+◌, ◌-◌, ◌<◌, ◌≤◌, ◌≡◌, ◌⊎◌, inl, inr, List, [], ◌∷◌, ◌++◌, length, take, drop, get_or, slice_get, take-append-drop, Option, Some, None, refl, ap, sym, ◌∙◌, subst, arith}
use Rattle.loom_tree.specs.Token.{LineToken}
use Rattle.loom_tree.specs.Tree.{FileItem, Source}
use Rattle.loom_lexer.specs.Tokens.{AreTokens, last_line}
use Rattle.loom_lexer.proofs.TokenList.{one_list_of_tokens}
use Rattle.loom_syntax.specs.File.{IsFile, IsViable, IsRefusedAt}
use Rattle.loom_lang.specs.declared.refusal.Reason.{Reason}
use Rattle.loom_lang.specs.declared.refusal.Reason.TheVariants as reason
use Rattle.loom_lang.specs.declared.refusal.Which.TheVariants as which
use Rattle.loom_lang.specs.Program.{IsTextOf, IsProgram}
use Rattle.loom_lang.specs.Refusal.{rank, line_at, IsFirstFault, IsNoFile, IsFaultyProgram, IsRefusedProgram}
use Rattle.loom_lang.specs.Laws.{HasOneRefusal, HasNoRefusal}
use Rattle.loom_lang.proofs.Texts.{text_tokens, one_text, refused_no_program}

-- Syntax

-- A front of what some file begins with is such a front too.
front_viable : (ps : List LineToken) (m n : ℕ) → m ≤ n → IsViable (take n ps) → IsViable (take m ps)
front_viable ps m n h v = record {
  more = drop m (take n ps) ++ v.more;
  items = v.items;
  whole = subst (λ (z : List LineToken). IsFile z v.items) (whole ps m n h v.more) v.whole;
}
  where
    whole : (qs : List LineToken) (i j : ℕ) → i ≤ j → (more : List LineToken) → take j qs ++ more ≡ take i qs ++ (drop i (take j qs) ++ more)
    whole qs zero j l more = refl
    whole [] (suc i) (suc j) l more = refl
    whole [] (suc i) zero l more = refl
    whole (q ∷ qs) (suc i) zero l more = absurd (omega (arith, l))
    whole (q ∷ qs) (suc i) (suc j) l more = ap (λ z. q ∷ z) (whole qs i j (omega (arith, l)) more)

-- No token behind the first bad one is the first.
not_later : (ps : List LineToken) (m n : ℕ) → IsRefusedAt ps m → IsRefusedAt ps n → m < n → ⊥
not_later ps m n r s h =
    let within : n ≤ length ps = s.within in
    r.beyond (omega (arith, h, within)) (front_viable ps (m + 1) n (omega (arith, h)) s.before)

same_token : (ps : List LineToken) (m n : ℕ) → IsRefusedAt ps m → IsRefusedAt ps n → m ≡ n
same_token ps m n r s =
    let first : m < n → ⊥ = not_later ps m n r s in
    let second : n < m → ⊥ = not_later ps n m s r in
    omega (arith, first, second)

one_line : (bytes : List ℕ) (l m : ℕ) → IsNoFile bytes l → IsNoFile bytes m → l ≡ m
one_line bytes l m a b =
    let same : b.tokens ≡ a.tokens = one_list_of_tokens bytes b.tokens a.tokens b.lexed a.lexed in
    let there : IsRefusedAt a.tokens b.token = subst (λ (z : List LineToken). IsRefusedAt z b.token) same b.refused in
    let token : a.token ≡ b.token = same_token a.tokens a.token b.token a.refused there in
    let at : List LineToken → ℕ → ℕ = λ ps n. line_at (last_line bytes) (slice_get ps n) in
    a.stands ∙ (ap (at a.tokens) token ∙ (ap (λ (z : List LineToken). at z b.token) (sym same) ∙ sym b.stands))

-- Bytes that leave the grammar are no text of it.
no_text : (bytes : List ℕ) (l : ℕ) (items : List FileItem) → IsNoFile bytes l → IsTextOf bytes items → ⊥
no_text bytes l items a t =
    let file : IsFile a.tokens items = text_tokens bytes a.tokens items a.lexed t in
    let not_before : a.token < length a.tokens → ⊥ = λ h. a.refused.beyond h (record {
      more = drop (a.token + 1) a.tokens;
      items = items;
      whole = subst (λ (z : List LineToken). IsFile z items) (sym (take-append-drop (a.token + 1) a.tokens)) file;
    }) in
    let within : a.token ≤ length a.tokens = a.refused.within in
    let last : a.token ≡ length a.tokens = omega arith in
    a.refused.at_end last items file

-- Faults

-- A reason is told by its rank.
abbrev by_rank : List Reason
by_rank =
    reason.Syntax ∷ reason.Syntax ∷ reason.SecondOnLine ∷ reason.UnknownName ∷ reason.NameTwice ∷ reason.WrongCount ∷ reason.NoMain ∷ reason.TooMany which.Functions
    ∷ reason.TooMany which.Params ∷ reason.TooMany which.Locals ∷ reason.TooMany which.Names ∷ reason.TooMany which.Cells ∷ reason.TooMany which.Statements ∷ []

abbrev reason_of : ℕ → Reason
reason_of n = get_or by_rank n reason.Syntax

of_rank : (r : Reason) → reason_of (rank r) ≡ r
of_rank reason.Syntax = refl
of_rank reason.SecondOnLine = refl
of_rank reason.UnknownName = refl
of_rank reason.NameTwice = refl
of_rank reason.WrongCount = refl
of_rank reason.NoMain = refl
of_rank (reason.TooMany which.Functions) = refl
of_rank (reason.TooMany which.Params) = refl
of_rank (reason.TooMany which.Locals) = refl
of_rank (reason.TooMany which.Names) = refl
of_rank (reason.TooMany which.Cells) = refl
of_rank (reason.TooMany which.Statements) = refl

same_reason : (r s : Reason) → rank r ≡ rank s → r ≡ s
same_reason r s h = sym (of_rank r) ∙ (ap reason_of h ∙ of_rank s)

first_of_both : (l m a b : ℕ) → ((l < m) ⊎ ((l ≡ m) × (a ≤ b))) → ((m < l) ⊎ ((m ≡ l) × (b ≤ a))) → (l ≡ m) × (a ≡ b)
first_of_both l m a b (inl h) (inl k) = absurd (omega (arith, h, k))
first_of_both l m a b (inl h) (inr k) = absurd (omega (arith, h, k.0))
first_of_both l m a b (inr h) (inl k) = absurd (omega (arith, h.0, k))
first_of_both l m a b (inr h) (inr k) = (h.0, omega (arith, h.1, k.1))

one_fault_of : (items : List FileItem) (last l m : ℕ) (r s : Reason) → IsFirstFault items last l r → IsFirstFault items last m s → (l ≡ m) × (r ≡ s)
one_fault_of items last l m r s a b =
    let both : (l ≡ m) × (rank r ≡ rank s) = first_of_both l m (rank r) (rank s) (a.first m s b.stands) (b.first l r a.stands) in
    (both.0, same_reason r s both.1)

one_faulty : (bytes : List ℕ) (l m : ℕ) (r s : Reason) → IsFaultyProgram bytes l r → IsFaultyProgram bytes m s → (l ≡ m) × (r ≡ s)
one_faulty bytes l m r s a b =
    let P : List FileItem → Type 0 = λ z. IsFirstFault z (last_line bytes) m s in
    one_fault_of a.items (last_line bytes) l m r s a.fault (subst P (one_text bytes b.items a.items b.text a.text) b.fault)

-- Both

-- what a refusal is: the bytes leave the grammar, and the reason is `Syntax`; or their items have a fault
kinds : (bytes : List ℕ) (l : ℕ) (r : Reason) → IsRefusedProgram bytes l r → ((r ≡ reason.Syntax) × IsNoFile bytes l) ⊎ IsFaultyProgram bytes l r
kinds bytes l reason.Syntax h = inl (refl, h)
kinds bytes l reason.SecondOnLine h = inr h
kinds bytes l reason.UnknownName h = inr h
kinds bytes l reason.NameTwice h = inr h
kinds bytes l reason.WrongCount h = inr h
kinds bytes l reason.NoMain h = inr h
kinds bytes l (reason.TooMany w) h = inr h

pub one_refusal : HasOneRefusal
one_refusal bytes l m r s h k = by_kinds (kinds bytes l r h) (kinds bytes m s k)
  where
    by_kinds : (((r ≡ reason.Syntax) × IsNoFile bytes l) ⊎ IsFaultyProgram bytes l r) → (((s ≡ reason.Syntax) × IsNoFile bytes m) ⊎ IsFaultyProgram bytes m s)
        → (l ≡ m) × (r ≡ s)
    by_kinds (inl a) (inl b) = (one_line bytes l m a.1 b.1, a.0 ∙ sym b.0)
    by_kinds (inl a) (inr b) = absurd (no_text bytes l b.items a.1 b.text)
    by_kinds (inr a) (inl b) = absurd (no_text bytes m a.items b.1 a.text)
    by_kinds (inr a) (inr b) = one_faulty bytes l m r s a b

pub no_refusal : HasNoRefusal
no_refusal bytes p l r h k = refused_no_program bytes l r k p h
