-- Where the reader stops, the text leaves the grammar, behind as many whole clauses as it has read.
use Rattle.std.proofs.Common.{ℕ, ◌≤◌, ◌≡◌, ◌⊎◌, inl, inr, List, [], ◌∷◌, ◌++◌, length, Option, Some, None, IfSome, refl, sym, ap, subst, ◌∙◌, append_assoc, append-nil, arith}
use Rattle.std.specs.List.{AllByRecursion}
use Rattle.loom_lexer.specs.Lexeme.{Each}
use Rattle.loom_expression.specs.Reader.{after}
use Rattle.loom_command.specs.FilterForm.{TestForm, ClauseForm, IsClause}
use Rattle.loom_command.specs.FilterText.{is_blank, AreWritten, IsTextOfFilter, BeginsWith}
use Rattle.loom_command.proofs.Pieces.{cut}
use Rattle.loom_filter.specs.Token.{FilterToken, token_pieces, tokens_pieces, IsToken, AreFilterTokens, BeginsNone, filter_tokens, whole_tokens}
use Rattle.loom_filter.specs.Builders.{written}
use Rattle.loom_filter.specs.Machine.{Begin, fresh, feed_filter, feed_all, finish}
use Rattle.loom_filter.specs.FilterError.{LeavesBehind}
use Rattle.loom_filter.proofs.OneToken.{Begins, one_token, comparable}
use Rattle.loom_filter.proofs.Sound.{Reader, read, Good, Keeps, sound}
use Rattle.loom_filter.proofs.FormTokens.{form_tokens, begin_tokens, begun, none_in_blanks}
use Rattle.loom_filter.proofs.StepReading.{at, init, last}
use Rattle.loom_filter.proofs.Whole.{clause_end, whole_on, filter_on, filter_finished}

abbrev Tokens : Type 0
Tokens = List (FilterToken TestForm)

-- Lists of tokens

pub run_append : (z : Reader) (ts us : Tokens) → feed_all written z (ts ++ us) ≡ after (feed_all written z ts) (λ y. feed_all written y us)
run_append z [] us = refl
run_append z (t ∷ ts) us = go (feed_filter written z t) (λ y. run_append y ts us)
  where
    go : (o : Option Reader) → ((y : Reader) → feed_all written y (ts ++ us) ≡ after (feed_all written y ts) (λ x. feed_all written x us))
        → after o (λ y. feed_all written y (ts ++ us)) ≡ after (after o (λ y. feed_all written y ts)) (λ y. feed_all written y us)
    go None i = refl
    go (Some y) i = i y

-- behind what was read
pub run_rest : (z w : Reader) (ts more : Tokens) → feed_all written fresh ts ≡ Some z → feed_all written fresh (ts ++ more) ≡ Some w → feed_all written z more ≡ Some w
run_rest z w ts more e f = go (feed_all written fresh ts) e (sym (run_append fresh ts more) ∙ f)
  where
    go : (o : Option Reader) → o ≡ Some z → after o (λ y. feed_all written y more) ≡ Some w → feed_all written z more ≡ Some w
    go None n g = cc
    go (Some y) n g = let i : y ≡ z = cc in subst (λ x. feed_all written x more ≡ Some w) i g

-- what was read on the way to a reader
pub record Read (z : Reader) (ts : Tokens) (y : Reader) : Type 0 where
  pub good : Good y
  pub has : read y ≡ read z ++ ts
  pub more : length z.clauses ≤ length y.clauses

pub all_sound : (z : Reader) (ts : Tokens) (y : Reader) → Good z → AllByRecursion IsToken ts → feed_all written z ts ≡ Some y → Read z ts y
all_sound z [] y g h e =
    let f : z ≡ y = cc in
    subst (λ x. Read z [] x) f (record { good = g; has = sym (append-nil (read z)); more = omega arith })
all_sound z (t ∷ ts) y g h e = go (feed_filter written z t) (λ x k. all_sound x ts y k h.1) (sound z t g h.0) e
  where
    go : (o : Option Reader) → ((x : Reader) → Good x → feed_all written x ts ≡ Some y → Read x ts y) → IfSome o (Keeps z t) → after o (λ x. feed_all written x ts) ≡ Some y → Read z (t ∷ ts) y
    go None i k f = cc
    go (Some x) i k f =
        let r = i x k.good f in
        let l = k.more in
        let m = r.more in
        record { good = r.good; has = r.has ∙ ap (λ s. s ++ ts) k.has ∙ append_assoc (read z) (t ∷ []) ts; more = omega (arith, l, m) }

pub fresh_good : Good fresh
fresh_good = record { clauses = tt; reader = tt }

-- Stops: no token begins there, though more than blanks do; or the next token doesn't fit; or nothing is left, and no filter ends there.

abbrev pub Nowhere : List ℕ → Type 0
Nowhere rest = BeginsNone rest × (Each is_blank rest → ⊥)

abbrev pub Unfit : Reader → List ℕ → Type 0
Unfit z rest = (t : FilterToken TestForm) × (more : List ℕ) × IsToken t × AreWritten (token_pieces t) more rest × (feed_filter written z t ≡ None)

abbrev pub Early : Reader → List ℕ → Type 0
Early z rest = Each is_blank rest × (finish written z ≡ None)

abbrev pub Stops : Reader → List ℕ → Type 0
Stops z rest = Nowhere rest ⊎ (Unfit z rest ⊎ Early z rest)

-- no further token is read there
stuck : (z w : Reader) (t : FilterToken TestForm) (ts : Tokens) (rest other : List ℕ) → Stops z rest → AreFilterTokens (t ∷ ts) other rest → feed_all written z (t ∷ ts) ≡ Some w → ⊥
stuck z w t ts rest other (inl h) k e = let c = cut (token_pieces t) (tokens_pieces ts) other rest k.written in h.0 t c.middle k.each.0 c.front
stuck z w t ts rest other (inr (inl h)) k e =
    let c = cut (token_pieces t) (tokens_pieces ts) other rest k.written in
    let a = one_token h.0 t h.1 c.middle rest h.2 k.each.0 h.3 c.front in
    let none : feed_filter written z t ≡ None = subst (λ x. feed_filter written z x ≡ None) a.same h.4 in
    go (feed_filter written z t) none e
  where
    go : (o : Option Reader) → o ≡ None → after o (λ y. feed_all written y ts) ≡ Some w → ⊥
    go None n f = cc
    go (Some y) n f = cc
stuck z w t ts rest other (inr (inr h)) k e =
    let c = cut (token_pieces t) (tokens_pieces ts) other rest k.written in
    none_in_blanks t c.middle rest k.each.0 h.0 c.front

-- nothing is left behind the tokens of a text, and the reader is where it ends
not_at_end : (z : Reader) (rest : List ℕ) (cs : List ClauseForm) → Stops z rest → Each is_blank rest → finish written z ≡ Some cs → ⊥
not_at_end z rest cs (inl h) b e = h.1 b
not_at_end z rest cs (inr (inl h)) b e = none_in_blanks h.0 h.1 rest h.2 b h.3
not_at_end z rest cs (inr (inr h)) b e = let f = h.1 in cc

-- Tokens us of the bytes are read up to w, and the reader stopped behind ts, at z: so us has no more than ts.
no_more : (z w : Reader) (ts more : Tokens) (rest other : List ℕ) → Stops z rest → feed_all written fresh ts ≡ Some z → feed_all written fresh (ts ++ more) ≡ Some w → AreFilterTokens more other rest → more ≡ []
no_more z w ts [] rest other s e f k = refl
no_more z w ts (t ∷ more) rest other s e f k = absurd (stuck z w t more rest other s k (run_rest z w ts (t ∷ more) e f))

-- The whole clauses with which the bytes begin are among those that were read.
most : (ts : Tokens) (z : Reader) (rest bytes : List ℕ) → AreFilterTokens ts rest bytes → feed_all written fresh ts ≡ Some z → Stops z rest → (n : ℕ) → BeginsWith bytes n → n ≤ length z.clauses
most ts z rest bytes h e s n b = go (comparable ts (whole_tokens b.clauses) rest b.rest bytes h (begin_tokens bytes n b))
  where
    there : feed_all written fresh (whole_tokens b.clauses) ≡ Some (at b.clauses Begin)
    there = ap (feed_all written fresh) (sym (append-nil (whole_tokens b.clauses))) ∙ whole_on [] b.clauses [] b.rules

    go : Begins ts (whole_tokens b.clauses) rest b.rest ⊎ Begins (whole_tokens b.clauses) ts b.rest rest → n ≤ length z.clauses
    go (inl x) =
        let us = ap (feed_all written fresh) (sym x.is) ∙ there in
        let none = no_more z (at b.clauses Begin) ts x.more rest b.rest s e us x.behind in
        let same : ts ≡ whole_tokens b.clauses = sym (x.is ∙ ap (λ y. ts ++ y) none ∙ append-nil ts) in
        let one : Some z ≡ Some (at b.clauses Begin) = sym e ∙ ap (feed_all written fresh) same ∙ there in
        let f : z ≡ at b.clauses Begin = cc in
        let l : length z.clauses ≡ length b.clauses = ap (λ (y : Reader). length y.clauses) f in
        let m = b.count in
        omega (arith, l, m)
    go (inr x) =
        let on : feed_all written (at b.clauses Begin) x.more ≡ Some z = run_rest (at b.clauses Begin) z (whole_tokens b.clauses) x.more there (ap (feed_all written fresh) (sym x.is) ∙ e) in
        let r = all_sound (at b.clauses Begin) x.more z (record { clauses = b.rules; reader = tt }) x.behind.each on in
        let l = r.more in
        let m = b.count in
        omega (arith, l, m)

-- No text of the grammar has these bytes.

-- the reader behind all tokens of a text
abbrev ended : ClauseForm → List ClauseForm → Reader
ended c cs = at (init c cs) (clause_end (last c cs))

at_the_end : (ts : Tokens) (z : Reader) (rest blanks : List ℕ) (c : ClauseForm) (cs : List ClauseForm) → feed_all written fresh ts ≡ Some z → Stops z rest → AllByRecursion IsClause (c ∷ cs) → Each is_blank blanks
    → ts ≡ filter_tokens c cs → rest ≡ blanks → ⊥
at_the_end ts z rest blanks c cs e s rules b same behind =
    let one : Some z ≡ Some (ended c cs) = sym e ∙ ap (feed_all written fresh) same ∙ filter_on [] c cs rules in
    let f : z ≡ ended c cs = cc in
    let whole : finish written z ≡ Some (c ∷ cs) = ap (finish written) f ∙ filter_finished c cs in
    not_at_end z rest (c ∷ cs) s (subst (λ x. Each is_blank x) (sym behind) b) whole

no_text : (ts : Tokens) (z : Reader) (rest bytes : List ℕ) → AreFilterTokens ts rest bytes → feed_all written fresh ts ≡ Some z → Stops z rest → IsTextOfFilter bytes → ⊥
no_text ts z rest bytes h e s t = go (comparable ts (filter_tokens t.first t.others) rest t.form.blanks bytes h (form_tokens bytes t.first t.others t.form))
  where
    -- nothing is behind the tokens of the text but blanks
    behind_text : (more : Tokens) → ts ≡ filter_tokens t.first t.others ++ more → AreFilterTokens more rest t.form.blanks → ⊥
    behind_text [] is k =
        at_the_end ts z rest t.form.blanks t.first t.others e s t.form.rules t.form.blank (is ∙ append-nil (filter_tokens t.first t.others)) (sym k.written)
    behind_text (x ∷ more) is k =
        let c = cut (token_pieces x) (tokens_pieces more) rest t.form.blanks k.written in
        none_in_blanks x c.middle t.form.blanks k.each.0 t.form.blank c.front

    go : Begins ts (filter_tokens t.first t.others) rest t.form.blanks ⊎ Begins (filter_tokens t.first t.others) ts t.form.blanks rest → ⊥
    go (inl x) =
        let all = ap (feed_all written fresh) (sym x.is) ∙ filter_on [] t.first t.others t.form.rules in
        let none = no_more z (ended t.first t.others) ts x.more rest t.form.blanks s e all x.behind in
        let P : Tokens → Type 0 = λ y. AreFilterTokens y t.form.blanks rest in
        let same : ts ≡ filter_tokens t.first t.others = sym (x.is ∙ ap (λ y. ts ++ y) none ∙ append-nil ts) in
        at_the_end ts z rest t.form.blanks t.first t.others e s t.form.rules t.form.blank same (subst P none x.behind).written
    go (inr x) = behind_text x.more x.is x.behind

pub leaves : (ts : Tokens) (z : Reader) (rest bytes : List ℕ) → AreFilterTokens ts rest bytes → feed_all written fresh ts ≡ Some z → Stops z rest → LeavesBehind bytes (length z.clauses)
leaves ts z rest bytes h e s = record {
  no_text = no_text ts z rest bytes h e s;
  begins = begun bytes ts rest z h (all_sound fresh ts z fresh_good h.each e).good (all_sound fresh ts z fresh_good h.each e).has;
  most = most ts z rest bytes h e s;
}
