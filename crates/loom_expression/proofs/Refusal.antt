-- What the reader takes is viable, what it refuses isn't, and what it finishes is an expression.
use Rattle.std.proofs.Common.{ℕ, suc, ◌+◌, ◌≤◌, ◌<◌, ◌≡◌, List, [], ◌∷◌, ◌++◌, Option, Some, None, refl, sym, ap, subst, ◌∙◌, arith, IfSome, take, length, get_or}
use Rattle.std.proofs.lemmas.List.{take_more, get_or-map}
use Rattle.std.proofs.Math.Seq.{take-length}
use Rattle.loom_tree.specs.declared.token.Token as rust
use Rattle.loom_tree.specs.Tree.{Expression}
use Rattle.loom_tree.specs.Token.{Token}
use Rattle.loom_expression.specs.Text.{Text, tokens, tree, IsWritten, IsExpression}
use Rattle.loom_expression.specs.Reader.{Reader, fresh, feed, after, feed_all, finish, written, plain}
use Rattle.loom_expression.specs.ExpressionError.{IsViable, IsRefusedAt, token_of, tokens_of}
use Rattle.loom_expression.proofs.Sound.{Goes, Spells, run_good, finish_good, start_good}
use Rattle.loom_expression.proofs.Whole.{run_append, run_one, completes}
use Rattle.loom_expression.proofs.Viable.{completion}
use Rattle.loom_expression.proofs.Natural.{reader_if, tree_if, run_state, finish_state}

abbrev pub ends : List Token → Option Text
ends ts = after (feed_all written fresh ts) (finish written)

abbrev pub plain_ends : List Token → Option Expression
plain_ends ts = after (feed_all plain fresh ts) (finish plain)

pub accepted : (ts : List Token) (w : Text) → ends ts ≡ Some w → IsExpression ts (tree w)
accepted ts w is = go (feed_all written fresh ts) (run_good fresh ts start_good) is
  where
    last : (o : Option Text) → IfSome o (Spells ts) → o ≡ Some w → IsExpression ts (tree w)
    last None f is = cc
    last (Some v) f is =
        let same : v ≡ w = cc in
        subst (λ z. IsExpression ts (tree z)) same (record { written = v; rules = f.0; spelled = f.1; stands = refl })

    go : (o : Option (Reader Text)) → IfSome o (Goes fresh ts) → after o (finish written) ≡ Some w → IsExpression ts (tree w)
    go None g is = cc
    go (Some s) g is = last (finish written s) (rw g.1 at (finish_good s g.0)) is

pub all_read : (w : Text) → IsWritten w → ends (tokens w) ≡ Some w
all_read w h = let c = completes w h in rw c.is.runs c.is.done

pub run_viable : (ts : List Token) (s : Reader Text) → feed_all written fresh ts ≡ Some s → IsViable ts
run_viable ts s is =
    let g : IfSome (feed_all written fresh ts) (Goes fresh ts) = run_good fresh ts start_good in
    let g' = rw is at g in
    let d = completion s g'.0 in
    let e : ends (ts ++ d.more) ≡ Some d.text = ap (λ o. after o (finish written)) (run_append written fresh ts d.more) ∙ rw (is, d.runs) d.done in
    record { more = d.more; tree = tree d.text; whole = accepted (ts ++ d.more) d.text e }

pub stuck_not_viable : (ts : List Token) → feed_all written fresh ts ≡ None → IsViable ts → ⊥
stuck_not_viable ts is v =
    let e : ends (tokens v.whole.written) ≡ Some v.whole.written = all_read v.whole.written v.whole.rules in
    let e' : ends (ts ++ v.more) ≡ Some v.whole.written = rw v.whole.spelled at e in
    let f : ends (ts ++ v.more) ≡ None = ap (λ o. after o (finish written)) (run_append written fresh ts v.more) ∙ rw is refl in
    cc

pub unfinished_no_expression : (ts : List Token) (e : Expression) → ends ts ≡ None → IsExpression ts e → ⊥
unfinished_no_expression ts e is x =
    let r : ends (tokens x.written) ≡ Some x.written = all_read x.written x.rules in
    let r' : ends ts ≡ Some x.written = rw x.spelled at r in
    cc

-- the same of the reader over trees

pub ends_state : (ts : List Token) → plain_ends ts ≡ tree_if (ends ts)
ends_state ts = rw (run_state fresh ts) (go (feed_all written fresh ts))
  where
    go : (o : Option (Reader Text)) → after (reader_if o) (finish plain) ≡ tree_if (after o (finish written))
    go None = refl
    go (Some s) = finish_state s

pub finished : (ts : List Token) (e : Expression) → plain_ends ts ≡ Some e → IsExpression ts e
finished ts e is = go (ends ts) refl (sym (ends_state ts) ∙ is)
  where
    go : (o : Option Text) → ends ts ≡ o → tree_if o ≡ Some e → IsExpression ts e
    go None was f = cc
    go (Some w) was f = let same : tree w ≡ e = cc in subst (λ z. IsExpression ts z) same (accepted ts w was)

pub taken_viable : (ts : List Token) (s : Reader Expression) → feed_all plain fresh ts ≡ Some s → IsViable ts
taken_viable ts s is = go (feed_all written fresh ts) refl (sym (run_state fresh ts) ∙ is)
  where
    go : (o : Option (Reader Text)) → feed_all written fresh ts ≡ o → reader_if o ≡ Some s → IsViable ts
    go None was f = cc
    go (Some w) was f = run_viable ts w was

pub refused_not_viable : (ts : List Token) → feed_all plain fresh ts ≡ None → IsViable ts → ⊥
refused_not_viable ts is v = go (feed_all written fresh ts) refl (sym (run_state fresh ts) ∙ is)
  where
    go : (o : Option (Reader Text)) → feed_all written fresh ts ≡ o → reader_if o ≡ None → ⊥
    go None was f = stuck_not_viable ts was v
    go (Some w) was f = cc

pub unfinished : (ts : List Token) (e : Expression) → plain_ends ts ≡ None → IsExpression ts e → ⊥
unfinished ts e is x = go (ends ts) refl (sym (ends_state ts) ∙ is)
  where
    go : (o : Option Text) → ends ts ≡ o → tree_if o ≡ None → ⊥
    go None was f = unfinished_no_expression ts e was x
    go (Some w) was f = cc

-- one token more

pub run_push : (ts : List Token) (x : Token) → feed_all plain fresh (ts ++ x ∷ []) ≡ after (feed_all plain fresh ts) (λ s. feed plain s x)
run_push ts x = run_append plain fresh ts (x ∷ []) ∙ go (feed_all plain fresh ts)
  where
    go : (o : Option (Reader Expression)) → after o (λ s. feed_all plain s (x ∷ [])) ≡ after o (λ s. feed plain s x)
    go None = refl
    go (Some s) = run_one plain s x

-- what the answers of `read_expression` cite

pub length_of : (bytes : List ℕ) (ts : List rust.Token) → length (tokens_of bytes ts) ≡ length ts
length_of bytes [] = refl
length_of bytes (t ∷ ts) = ap suc (length_of bytes ts)

pub took_one : (bytes : List ℕ) (ts : List rust.Token) (i : ℕ) (d : rust.Token) (s : Reader Expression) (o : Option (Reader Expression)) → i < length ts
    → feed_all plain fresh (take i (tokens_of bytes ts)) ≡ Some s → o ≡ feed plain s (token_of bytes (get_or ts i d)) → feed_all plain fresh (take (i + 1) (tokens_of bytes ts)) ≡ o
took_one bytes ts i d s o h is next =
    let same = get_or-map (token_of bytes) ts i d Token.bad h in
    ap (feed_all plain fresh) (take_more (tokens_of bytes ts) i Token.bad (omega (arith, h, length_of bytes ts)))
    ∙ run_push (take i (tokens_of bytes ts)) (get_or (tokens_of bytes ts) i Token.bad)
    ∙ rw (is, same) (sym next)

pub refused_at : (bytes : List ℕ) (ts : List rust.Token) (i : ℕ) (d : rust.Token) (s : Reader Expression) → i < length ts
    → feed_all plain fresh (take i (tokens_of bytes ts)) ≡ Some s → None ≡ feed plain s (token_of bytes (get_or ts i d)) → IsRefusedAt (tokens_of bytes ts) i
refused_at bytes ts i d s h is refused =
    record {
      within = omega (arith, h, length_of bytes ts);
      before = taken_viable (take i (tokens_of bytes ts)) s is;
      beyond = λ _. refused_not_viable (take (i + 1) (tokens_of bytes ts)) (took_one bytes ts i d s None h is refused);
      at_end = λ f. absurd (omega (arith, h, f, length_of bytes ts));
    }

pub run_all : (bytes : List ℕ) (ts : List rust.Token) (i : ℕ) (s : Reader Expression) → length ts ≤ i → i ≤ length ts
    → feed_all plain fresh (take i (tokens_of bytes ts)) ≡ Some s → feed_all plain fresh (tokens_of bytes ts) ≡ Some s
run_all bytes ts i s h k is =
    let e : i ≡ length (tokens_of bytes ts) = omega (arith, h, k, length_of bytes ts) in
    ap (feed_all plain fresh) (sym (ap (λ z. take z (tokens_of bytes ts)) e ∙ take-length (tokens_of bytes ts))) ∙ is

pub refused_end : (ts : List Token) (s : Reader Expression) → feed_all plain fresh ts ≡ Some s → finish plain s ≡ None → IsRefusedAt ts (length ts)
refused_end ts s is not_done =
    record {
      within = omega arith;
      before = rw (take-length ts) (taken_viable ts s is);
      beyond = λ f. absurd (omega (arith, f));
      at_end = λ _ e. unfinished ts e (rw is not_done);
    }

pub refused_last : (bytes : List ℕ) (ts : List rust.Token) (i : ℕ) (s : Reader Expression) → length ts ≤ i → i ≤ length ts
    → feed_all plain fresh (take i (tokens_of bytes ts)) ≡ Some s → None ≡ finish plain s → IsRefusedAt (tokens_of bytes ts) (length ts)
refused_last bytes ts i s h k is not_done =
    subst (λ n. IsRefusedAt (tokens_of bytes ts) n) (length_of bytes ts) (refused_end (tokens_of bytes ts) s (run_all bytes ts i s h k is) (sym not_done))

pub finished_last : (bytes : List ℕ) (ts : List rust.Token) (i : ℕ) (s : Reader Expression) (e : Expression) → length ts ≤ i → i ≤ length ts
    → feed_all plain fresh (take i (tokens_of bytes ts)) ≡ Some s → Some e ≡ finish plain s → IsExpression (tokens_of bytes ts) e
finished_last bytes ts i s e h k is done = finished (tokens_of bytes ts) e (rw (run_all bytes ts i s h k is) (sym done))
