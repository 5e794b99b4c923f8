-- The reader over trees does what the reader over written expressions does.
use Rattle.std.proofs.Common.{ℕ, ◌≡◌, List, [], ◌∷◌, Option, Some, None, Bool, true, false, nat_le, if◌then◌else◌, refl, ap, ◌∙◌}
use Rattle.loom_tree.specs.declared.expression.Op.{Op}
use Rattle.loom_tree.specs.declared.expression.Op.TheVariants as op
use Rattle.loom_tree.specs.declared.token.Sign.{Sign}
use Rattle.loom_tree.specs.declared.token.Sign.TheVariants as sign
use Rattle.loom_tree.specs.Tree.{Expression}
use Rattle.loom_tree.specs.Token.{Token}
use Rattle.loom_expression.specs.Text.{Text, tree, prec}
use Rattle.loom_expression.specs.Reader.{Prefix, Left, Minus, Bang, Open, Index, Size, Phrase, Over, Reader, Want, Named, Have, fresh, signed, unsigned, opened, indexed, closed, has_room, may_nest, may_sign, have, reduce, behind, close_paren, close_bracket, want_op, want_sign, have_op, have_sign, have_token, named_sign, feed, after, feed_all, sole, finish_operand, finish, is_whole, written, plain}

abbrev pub frame_map : Prefix Text → Prefix Expression
frame_map (Left o a) = Left o (tree a)
frame_map Minus = Minus
frame_map Bang = Bang
frame_map Open = Open
frame_map (Index x) = Index x

abbrev pub stack_map : List (Prefix Text) → List (Prefix Expression)
stack_map [] = []
stack_map (f ∷ k) = frame_map f ∷ stack_map k

abbrev pub operand_map : Phrase Text → Phrase Expression
operand_map (Over e z k) = Over (tree e) z (stack_map k)

abbrev pub reader_map : Reader Text → Reader Expression
reader_map (Want z k) = Want z (stack_map k)
reader_map (Named x z k) = Named x z (stack_map k)
reader_map (Have r) = Have (operand_map r)

abbrev pub reader_if : Option (Reader Text) → Option (Reader Expression)
reader_if None = None
reader_if (Some s) = Some (reader_map s)

abbrev pub tree_if : Option Text → Option Expression
tree_if None = None
tree_if (Some e) = Some (tree e)

pub if_state : (v : Bool) (s : Reader Text) → (if v then Some (reader_map s) else None) ≡ reader_if (if v then Some s else None)
if_state true s = refl
if_state false s = refl

pub have_state : (e : Text) (z : Size) (k : List (Prefix Text)) → have plain (tree e) z (stack_map k) ≡ operand_map (have written e z k)
have_state e z [] = refl
have_state e z (Left o a ∷ k) = refl
have_state e z (Minus ∷ k) = have_state (Text.neg e) (unsigned z) k
have_state e z (Bang ∷ k) = have_state (Text.inverse e) (unsigned z) k
have_state e z (Open ∷ k) = refl
have_state e z (Index x ∷ k) = refl

pub reduce_state : (l : ℕ) (e : Text) (z : Size) (k : List (Prefix Text)) → reduce plain l (tree e) z (stack_map k) ≡ operand_map (reduce written l e z k)
reduce_state l e z [] = refl
reduce_state l e z (Left o a ∷ k) =
    elim (nat_le l (prec o)) as (λ v. (if v then reduce plain l (Expression.bin o (tree a) (tree e)) z (stack_map k) else Over (tree e) z (Left o (tree a) ∷ stack_map k)) ≡ operand_map (if v then reduce written l (Text.bin o a e) z k else Over e z (Left o a ∷ k)))
    [ true ↦ reduce_state l (Text.bin o a e) z k | false ↦ refl ]
reduce_state l e z (Minus ∷ k) = refl
reduce_state l e z (Bang ∷ k) = refl
reduce_state l e z (Open ∷ k) = refl
reduce_state l e z (Index x ∷ k) = refl

pub behind_state : (o : Op) (r : Phrase Text) → behind o (operand_map r) ≡ reader_map (behind o r)
behind_state o (Over e z k) = refl

pub close_paren_state : (r : Phrase Text) → close_paren plain (operand_map r) ≡ reader_if (close_paren written r)
close_paren_state (Over e z []) = refl
close_paren_state (Over e z (Left o a ∷ k)) = refl
close_paren_state (Over e z (Minus ∷ k)) = refl
close_paren_state (Over e z (Bang ∷ k)) = refl
close_paren_state (Over e z (Open ∷ k)) = ap (λ r. Some (Have r)) (have_state (Text.paren e) (closed z) k)
close_paren_state (Over e z (Index x ∷ k)) = refl

pub close_bracket_state : (r : Phrase Text) → close_bracket plain (operand_map r) ≡ reader_if (close_bracket written r)
close_bracket_state (Over e z []) = refl
close_bracket_state (Over e z (Left o a ∷ k)) = refl
close_bracket_state (Over e z (Minus ∷ k)) = refl
close_bracket_state (Over e z (Bang ∷ k)) = refl
close_bracket_state (Over e z (Open ∷ k)) = refl
close_bracket_state (Over e z (Index x ∷ k)) = ap (λ r. Some (Have r)) (have_state (Text.cell x e) (closed z) k)

pub want_op_state : (o : Op) (z : Size) (k : List (Prefix Text)) → want_op o z (stack_map k) ≡ reader_if (want_op o z k)
want_op_state op.Sub z k = if_state (may_sign z) (Want (signed z) (Minus ∷ k))
want_op_state _ z k = refl

pub want_sign_state : (s : Sign) (z : Size) (k : List (Prefix Text)) → want_sign s z (stack_map k) ≡ reader_if (want_sign s z k)
want_sign_state sign.Bang z k = if_state (may_sign z) (Want (signed z) (Bang ∷ k))
want_sign_state sign.ParenOpen z k = if_state (may_nest z) (Want (opened z) (Open ∷ k))
want_sign_state _ z k = refl

pub have_op_state : (o : Op) (r : Phrase Text) → have_op plain o (operand_map r) ≡ reader_if (have_op written o r)
have_op_state o (Over e z k) =
    ap (λ (s : Reader Expression). if has_room 2 z then Some s else None) (ap (behind o) (reduce_state (prec o) e z k) ∙ behind_state o (reduce written (prec o) e z k))
    ∙ if_state (has_room 2 z) (behind o (reduce written (prec o) e z k))

pub have_sign_state : (s : Sign) (r : Phrase Text) → have_sign plain s (operand_map r) ≡ reader_if (have_sign written s r)
have_sign_state sign.ParenClose (Over e z k) = ap (close_paren plain) (reduce_state 0 e z k) ∙ close_paren_state (reduce written 0 e z k)
have_sign_state sign.BracketClose (Over e z k) = ap (close_bracket plain) (reduce_state 0 e z k) ∙ close_bracket_state (reduce written 0 e z k)
have_sign_state _ (Over e z k) = refl

pub have_token_state : (t : Token) (r : Phrase Text) → have_token plain t (operand_map r) ≡ reader_if (have_token written t r)
have_token_state (Token.name x) r = refl
have_token_state (Token.num n) r = refl
have_token_state (Token.word w) r = refl
have_token_state (Token.op o) r = have_op_state o r
have_token_state (Token.sign s) r = have_sign_state s r
have_token_state Token.bad r = refl

pub named_sign_state : (s : Sign) (x : List ℕ) (z : Size) (k : List (Prefix Text)) → named_sign plain s x z (stack_map k) ≡ reader_if (named_sign written s x z k)
named_sign_state sign.BracketOpen x z k = if_state (may_sign z) (Want (indexed z) (Index x ∷ k))
named_sign_state s x z k = ap (have_sign plain s) (have_state (Text.var x) z k) ∙ have_sign_state s (have written (Text.var x) z k)

-- the reader's functions over trees and over written expressions

pub step_state : (s : Reader Text) (x : Token) → feed plain (reader_map s) x ≡ reader_if (feed written s x)
step_state (Want z k) (Token.name x) = refl
step_state (Want z k) (Token.num n) = ap (λ r. Some (Have r)) (have_state (Text.num n) z k)
step_state (Want z k) (Token.word w) = refl
step_state (Want z k) (Token.op o) = want_op_state o z k
step_state (Want z k) (Token.sign s) = want_sign_state s z k
step_state (Want z k) Token.bad = refl
step_state (Named x z k) (Token.name y) = refl
step_state (Named x z k) (Token.num n) = refl
step_state (Named x z k) (Token.word w) = refl
step_state (Named x z k) (Token.op o) = ap (have_op plain o) (have_state (Text.var x) z k) ∙ have_op_state o (have written (Text.var x) z k)
step_state (Named x z k) (Token.sign s) = named_sign_state s x z k
step_state (Named x z k) Token.bad = refl
step_state (Have r) x = have_token_state x r

pub run_state : (s : Reader Text) (ts : List Token) → feed_all plain (reader_map s) ts ≡ reader_if (feed_all written s ts)
run_state s [] = refl
run_state s (x ∷ ts) = rw (step_state s x) (go (feed written s x) (λ s'. run_state s' ts))
  where
    go : (o : Option (Reader Text)) → ((s' : Reader Text) → feed_all plain (reader_map s') ts ≡ reader_if (feed_all written s' ts)) → after (reader_if o) (λ s'. feed_all plain s' ts) ≡ reader_if (after o (λ s'. feed_all written s' ts))
    go None h = refl
    go (Some s') h = h s'

pub alone_state : (r : Phrase Text) → sole (operand_map r) ≡ tree_if (sole r)
alone_state (Over e z []) = refl
alone_state (Over e z (f ∷ k)) = refl

pub finish_operand_state : (r : Phrase Text) → finish_operand plain (operand_map r) ≡ tree_if (finish_operand written r)
finish_operand_state (Over e z k) = ap sole (reduce_state 0 e z k) ∙ alone_state (reduce written 0 e z k)

pub finish_state : (s : Reader Text) → finish plain (reader_map s) ≡ tree_if (finish written s)
finish_state (Want z k) = refl
finish_state (Named x z k) = ap (finish_operand plain) (have_state (Text.var x) z k) ∙ finish_operand_state (have written (Text.var x) z k)
finish_state (Have r) = finish_operand_state r

pub whole_state : (s : Reader Text) → is_whole (reader_map s) ≡ is_whole s
whole_state (Want z k) = refl
whole_state (Named x z k) = refl
whole_state (Have (Over e z k)) = refl

pub start_state : reader_map fresh ≡ fresh
start_state = refl
