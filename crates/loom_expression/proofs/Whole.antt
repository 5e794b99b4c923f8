-- Each written expression is read to its end.
use Rattle.std.proofs.Common.{ℕ, suc, ◌+◌, ◌-◌, ◌≤◌, ◌<◌, ◌≡◌, List, [], ◌∷◌, ◌++◌, Option, Some, None, Bool, true, false, nat_le, nat_eq, if◌then◌else◌, refl, sym, ap, ◌∙◌, arith}
use Rattle.std.proofs.lemmas.Bool.{leb-true, le-leb, lt-leb, lt-ltb}
use Rattle.loom_tree.specs.declared.expression.Op.{Op}
use Rattle.loom_tree.specs.declared.token.Sign.TheVariants as sign
use Rattle.loom_tree.specs.Token.{Token}
use Rattle.loom_expression.specs.Text.{Text, tokens, prec, HasLevel, depth, nodes, node_limit, nesting_limit, IsWritten}
use Rattle.loom_expression.specs.Reader.{Prefix, Left, Minus, Bang, Open, Index, Size, Phrase, Over, Reader, Want, Named, Have, ExpressionBuilder, fresh, signed, unsigned, opened, indexed, closed, joined, may_nest, may_sign, have, reduce, behind, close_paren, close_bracket, have_op, have_sign, feed, after, feed_all, sole, finish_operand, finish, is_whole, written}
use Rattle.loom_expression.proofs.Sound.{Looser, Calm, calm_of, prec_small, size_of, reduce_size}

pub run_append : {A : Type 0} (b : ExpressionBuilder A) (s : Reader A) (xs ys : List Token) → feed_all b s (xs ++ ys) ≡ after (feed_all b s xs) (λ s'. feed_all b s' ys)
run_append b s [] ys = refl
run_append {A} b s (x ∷ xs) ys = go (feed b s x) (λ s'. run_append b s' xs ys)
  where
    go : (o : Option (Reader A)) → ((s' : Reader A) → feed_all b s' (xs ++ ys) ≡ after (feed_all b s' xs) (λ s''. feed_all b s'' ys))
        → after o (λ s'. feed_all b s' (xs ++ ys)) ≡ after (after o (λ s'. feed_all b s' xs)) (λ s''. feed_all b s'' ys)
    go None h = refl
    go (Some s') h = h s'

pub run_one : {A : Type 0} (b : ExpressionBuilder A) (s : Reader A) (x : Token) → feed_all b s (x ∷ []) ≡ feed b s x
run_one {A} b s x = go (feed b s x)
  where
    go : (o : Option (Reader A)) → after o (λ s'. Some s') ≡ o
    go None = refl
    go (Some s') = refl

-- stacks

pub have_calm : (e : Text) (z : Size) (k : List (Prefix Text)) → Calm k → have written e z k ≡ Over e z k
have_calm e z [] c = refl
have_calm e z (Left o a ∷ k) c = refl
have_calm e z (Minus ∷ k) c = absurd c
have_calm e z (Bang ∷ k) c = absurd c
have_calm e z (Open ∷ k) c = refl
have_calm e z (Index x ∷ k) c = refl

pub reduce_looser : (l : ℕ) (e : Text) (z : Size) (k : List (Prefix Text)) → Looser l k → reduce written l e z k ≡ Over e z k
reduce_looser l e z [] h = refl
reduce_looser l e z (Left o a ∷ k) h = rw (lt-leb l (prec o) h) refl
reduce_looser l e z (Minus ∷ k) h = refl
reduce_looser l e z (Bang ∷ k) h = refl
reduce_looser l e z (Open ∷ k) h = refl
reduce_looser l e z (Index x ∷ k) h = refl

pub looser_more : (l m : ℕ) (k : List (Prefix Text)) → l ≤ m → Looser l k → Looser m k
looser_more l m [] h p = tt
looser_more l m (Left o a ∷ k) h p = omega (arith, h, p)
looser_more l m (Minus ∷ k) h p = p
looser_more l m (Bang ∷ k) h p = p
looser_more l m (Open ∷ k) h p = tt
looser_more l m (Index x ∷ k) h p = tt

abbrev pub again : ℕ → Phrase Text → Phrase Text
again l (Over e z k) = reduce written l e z k

pub reduce_again : (l m : ℕ) (e : Text) (z : Size) (k : List (Prefix Text)) → l ≤ m → reduce written l e z k ≡ again l (reduce written m e z k)
reduce_again l m e z [] h = refl
reduce_again l m e z (Left o a ∷ k) h = go (nat_le m (prec o)) refl (reduce_again l m (Text.bin o a e) z k h)
  where
    go : (v : Bool) → nat_le m (prec o) ≡ v → reduce written l (Text.bin o a e) z k ≡ again l (reduce written m (Text.bin o a e) z k)
        → reduce written l e z (Left o a ∷ k) ≡ again l (if v then reduce written m (Text.bin o a e) z k else Over e z (Left o a ∷ k))
    go true is ih = let small : m ≤ prec o = leb-true m (prec o) is in rw (le-leb l (prec o) (omega arith)) ih
    go false is ih = refl
reduce_again l m e z (Minus ∷ k) h = refl
reduce_again l m e z (Bang ∷ k) h = refl
reduce_again l m e z (Open ∷ k) h = refl
reduce_again l m e z (Index x ∷ k) h = refl

pub again_again : (l m : ℕ) (r : Phrase Text) → l ≤ m → again l r ≡ again l (again m r)
again_again l m (Over e z k) h = reduce_again l m e z k h

pub again_size : (l : ℕ) (r : Phrase Text) → size_of (again l r) ≡ size_of r
again_size l (Over e z k) = reduce_size l e z k

-- the tests of the limits

pub nest_is : (z : Size) → z.unary + z.brackets < nesting_limit → may_nest z ≡ true
nest_is z h = lt-ltb z.brackets (nesting_limit - z.unary) (omega (arith, h))

pub sign_is : (z : Size) → suc z.nodes ≤ node_limit → z.unary + z.brackets < nesting_limit → may_sign z ≡ true
sign_is z n h = rw (le-leb z.nodes (node_limit - 1) (omega (arith, n))) (nest_is z h)

-- A state at the end of an operand: of one that was read, or of a name.
abbrev pub Holds : Reader Text → Phrase Text → Type 0
Holds (Want z k) r = ⊥
Holds (Named x z k) r = have written (Text.var x) z k ≡ r
Holds (Have r') r = r' ≡ r

pub op_of : (s : Reader Text) (r : Phrase Text) (o : Op) → Holds s r → feed written s (Token.op o) ≡ have_op written o r
op_of (Want z k) r o h = absurd h
op_of (Named x z k) r o h = ap (have_op written o) h
op_of (Have r') r o h = ap (have_op written o) h

pub paren_of : (s : Reader Text) (r : Phrase Text) → Holds s r → feed written s (Token.sign sign.ParenClose) ≡ have_sign written sign.ParenClose r
paren_of (Want z k) r h = absurd h
paren_of (Named x z k) r h = ap (have_sign written sign.ParenClose) h
paren_of (Have r') r h = ap (have_sign written sign.ParenClose) h

pub bracket_of : (s : Reader Text) (r : Phrase Text) → Holds s r → feed written s (Token.sign sign.BracketClose) ≡ have_sign written sign.BracketClose r
bracket_of (Want z k) r h = absurd h
bracket_of (Named x z k) r h = ap (have_sign written sign.BracketClose) h
bracket_of (Have r') r h = ap (have_sign written sign.BracketClose) h

pub finish_of : (s : Reader Text) (r : Phrase Text) → Holds s r → finish written s ≡ finish_operand written r
finish_of (Want z k) r h = absurd h
finish_of (Named x z k) r h = ap (finish_operand written) h
finish_of (Have r') r h = ap (finish_operand written) h

pub have_brackets : (e : Text) (z : Size) (k : List (Prefix Text)) → (size_of (have written e z k)).brackets ≡ z.brackets
have_brackets e z [] = refl
have_brackets e z (Left o a ∷ k) = refl
have_brackets e z (Minus ∷ k) = have_brackets (Text.neg e) (unsigned z) k
have_brackets e z (Bang ∷ k) = have_brackets (Text.inverse e) (unsigned z) k
have_brackets e z (Open ∷ k) = refl
have_brackets e z (Index x ∷ k) = refl

pub whole_of : (s : Reader Text) (r : Phrase Text) → Holds s r → is_whole s ≡ nat_eq (size_of r).brackets 0
whole_of (Want z k) r h = absurd h
whole_of (Named x z k) r h = ap (λ n. nat_eq n 0) (sym (have_brackets (Text.var x) z k)) ∙ ap (λ (q : Phrase Text). nat_eq (size_of q).brackets 0) h
whole_of (Have (Over e z k)) r h = ap (λ (q : Phrase Text). nat_eq (size_of q).brackets 0) h

-- what a token behind an operand leads to

pub have_op_some : (o : Op) (r : Phrase Text) (e : Text) (z : Size) (k : List (Prefix Text)) → again (prec o) r ≡ Over e z k → z.nodes + 2 ≤ node_limit → have_op written o r ≡ Some (Want (joined z) (Left o e ∷ k))
have_op_some o (Over e' z' k') e z k is n =
    let same : z' ≡ z = sym (reduce_size (prec o) e' z' k') ∙ ap size_of is in
    let number : z'.nodes ≡ z.nodes = ap (λ (v : Size). v.nodes) same in
    rw (le-leb z'.nodes (node_limit - 2) (omega (arith, number, n))) (ap (λ q. Some (behind o q)) is)

pub paren_some : (r : Phrase Text) (e : Text) (z : Size) (k : List (Prefix Text)) → again 0 r ≡ Over e z (Open ∷ k) → have_sign written sign.ParenClose r ≡ Some (Have (have written (Text.paren e) (closed z) k))
paren_some (Over e' z' k') e z k is = ap (close_paren written) is

pub bracket_some : (r : Phrase Text) (x : List ℕ) (e : Text) (z : Size) (k : List (Prefix Text)) → again 0 r ≡ Over e z (Index x ∷ k) → have_sign written sign.BracketClose r ≡ Some (Have (have written (Text.cell x e) (closed z) k))
bracket_some (Over e' z' k') x e z k is = ap (close_bracket written) is

pub finish_some : (r : Phrase Text) (e : Text) (z : Size) → again 0 r ≡ Over e z [] → finish_operand written r ≡ Some e
finish_some (Over e' z' k') e z is = ap sole is

-- w, read where an operand must follow, is within the limits
pub record Fits (w : Text) (z : Size) : Type 0 where
  pub small : z.nodes + nodes w ≤ suc node_limit
  pub nests : z.unary + z.brackets + depth w ≤ nesting_limit

-- z' is the size behind w
pub record Grown (w : Text) (z z' : Size) : Type 0 where
  pub nodes : z'.nodes + 1 ≡ z.nodes + Rattle.loom_expression.specs.Text.nodes w
  pub unary : z'.unary ≡ z.unary
  pub brackets : z'.brackets ≡ z.brackets

-- where the reader is behind w, an operand
pub record Takes (w : Text) (z : Size) (k : List (Prefix Text)) : Type 0 where
  pub last : Reader Text
  pub size : Size
  pub runs : feed_all written (Want z k) (tokens w) ≡ Some last
  pub holds : Holds last (have written w size k)
  pub grown : Grown w z size

-- where it is behind w, whose operators bind at least by l
pub record Ends (l : ℕ) (w : Text) (z : Size) (k : List (Prefix Text)) : Type 0 where
  pub last : Reader Text
  pub held : Phrase Text
  pub size : Size
  pub runs : feed_all written (Want z k) (tokens w) ≡ Some last
  pub holds : Holds last held
  pub closes : again l held ≡ Over w size k
  pub grown : Grown w z size

abbrev pub IsTaken : Text → Type 0
IsTaken w = (z : Size) (k : List (Prefix Text)) → HasLevel 6 w → Fits w z → Takes w z k

abbrev pub IsEnded : Text → Type 0
IsEnded w = (l : ℕ) (z : Size) (k : List (Prefix Text)) → HasLevel l w → Looser l k → Fits w z → Ends l w z k

pub ended : (w : Text) → ((l : ℕ) → HasLevel l w → HasLevel 6 w) → IsTaken w → IsEnded w
ended w up taken l z k p lo f =
    let t = taken z k (up l p) f in
    record { last = t.last; held = have written w t.size k; size = t.size; runs = t.runs; holds = t.holds; closes = ap (again l) (have_calm w t.size k (calm_of l k lo)) ∙ reduce_looser l w t.size k lo; grown = t.grown }

pub some_nodes : (w : Text) → 1 ≤ nodes w
some_nodes (Text.num n) = omega arith
some_nodes (Text.var x) = omega arith
some_nodes (Text.cell x i) = omega arith
some_nodes (Text.neg a) = omega arith
some_nodes (Text.inverse a) = omega arith
some_nodes (Text.bin o a b) = omega arith
some_nodes (Text.paren a) = some_nodes a

pub num_taken : (n : ℕ) → IsTaken (Text.num n)
num_taken n z k p f = record { last = Have (have written (Text.num n) z k); size = z; runs = refl; holds = refl; grown = record { nodes = refl; unary = refl; brackets = refl } }

pub var_taken : (x : List ℕ) → IsTaken (Text.var x)
var_taken x z k p f = record { last = Named x z k; size = z; runs = refl; holds = refl; grown = record { nodes = refl; unary = refl; brackets = refl } }

pub neg_taken : (a : Text) → IsTaken a → IsTaken (Text.neg a)
neg_taken a ih z k p f =
    let small = f.small in
    let nests = f.nests in
    let t = ih (signed z) (Minus ∷ k) p (record { small = omega arith; nests = omega arith }) in
    let g = t.grown in
    record {
      last = t.last;
      size = unsigned t.size;
      runs = rw (sign_is z (omega (arith, some_nodes a)) (omega arith)) t.runs;
      holds = t.holds;
      grown = record { nodes = omega (arith, g.nodes); unary = omega (arith, g.unary); brackets = g.brackets };
    }

pub inverse_taken : (a : Text) → IsTaken a → IsTaken (Text.inverse a)
inverse_taken a ih z k p f =
    let small = f.small in
    let nests = f.nests in
    let t = ih (signed z) (Bang ∷ k) p (record { small = omega arith; nests = omega arith }) in
    let g = t.grown in
    record {
      last = t.last;
      size = unsigned t.size;
      runs = rw (sign_is z (omega (arith, some_nodes a)) (omega arith)) t.runs;
      holds = t.holds;
      grown = record { nodes = omega (arith, g.nodes); unary = omega (arith, g.unary); brackets = g.brackets };
    }

pub paren_taken : (a : Text) → IsEnded a → IsTaken (Text.paren a)
paren_taken a ih z k p f =
    let small = f.small in
    let nests = f.nests in
    let t = ih 0 (opened z) (Open ∷ k) p tt (record { small = omega arith; nests = omega arith }) in
    let g = t.grown in
    let close : feed written t.last (Token.sign sign.ParenClose) ≡ Some (Have (have written (Text.paren a) (closed t.size) k)) = paren_of t.last t.held t.holds ∙ paren_some t.held a t.size k t.closes in
    record {
      last = Have (have written (Text.paren a) (closed t.size) k);
      size = closed t.size;
      runs = rw (nest_is z (omega arith)) (run_append written (Want (opened z) (Open ∷ k)) (tokens a) (Token.sign sign.ParenClose ∷ []) ∙ rw t.runs (run_one written t.last (Token.sign sign.ParenClose) ∙ close));
      holds = refl;
      grown = record { nodes = g.nodes; unary = g.unary; brackets = omega (arith, g.brackets) };
    }

pub cell_taken : (x : List ℕ) (a : Text) → IsEnded a → IsTaken (Text.cell x a)
cell_taken x a ih z k p f =
    let small = f.small in
    let nests = f.nests in
    let t = ih 0 (indexed z) (Index x ∷ k) p tt (record { small = omega arith; nests = omega arith }) in
    let g = t.grown in
    let close : feed written t.last (Token.sign sign.BracketClose) ≡ Some (Have (have written (Text.cell x a) (closed t.size) k)) = bracket_of t.last t.held t.holds ∙ bracket_some t.held x a t.size k t.closes in
    record {
      last = Have (have written (Text.cell x a) (closed t.size) k);
      size = closed t.size;
      runs = rw (sign_is z (omega (arith, some_nodes a)) (omega arith)) (run_append written (Want (indexed z) (Index x ∷ k)) (tokens a) (Token.sign sign.BracketClose ∷ []) ∙ rw t.runs (run_one written t.last (Token.sign sign.BracketClose) ∙ close));
      holds = refl;
      grown = record { nodes = omega (arith, g.nodes); unary = g.unary; brackets = omega (arith, g.brackets) };
    }

pub bin_ended : (o : Op) (a b : Text) → IsEnded a → IsEnded b → IsEnded (Text.bin o a b)
bin_ended o a b ha hb l z k p lo f =
    let small = f.small in
    let nests = f.nests in
    let x = ha (prec o) z k p.1 (looser_more l (prec o) k p.0 lo) (record { small = omega arith; nests = omega arith }) in
    let g = x.grown in
    let next : feed written x.last (Token.op o) ≡ Some (Want (joined x.size) (Left o a ∷ k)) = op_of x.last x.held o x.holds ∙ have_op_some o x.held a x.size k x.closes (omega (arith, g.nodes, some_nodes b)) in
    let y = hb (suc (prec o)) (joined x.size) (Left o a ∷ k) p.2 (omega arith) (record { small = omega (arith, g.nodes); nests = omega (arith, g.unary, g.brackets) }) in
    let h = y.grown in
    record {
      last = y.last;
      held = y.held;
      size = y.size;
      runs = run_append written (Want z k) (tokens a) (Token.op o ∷ tokens b) ∙ rw (x.runs, next) y.runs;
      holds = y.holds;
      closes = again_again l (suc (prec o)) y.held (omega (arith, p.0)) ∙ rw (y.closes, le-leb l (prec o) p.0) (reduce_looser l (Text.bin o a b) y.size k lo);
      grown = record { nodes = omega (arith, g.nodes, h.nodes); unary = h.unary ∙ g.unary; brackets = h.brackets ∙ g.brackets };
    }

pub record IsReadable (w : Text) : Type 0 where
  pub taken : IsTaken w
  pub ended : IsEnded w

pub operand_readable : (w : Text) → ((l : ℕ) → HasLevel l w → HasLevel 6 w) → IsTaken w → IsReadable w
operand_readable w up t = record { taken = t; ended = ended w up t }

pub readable : (w : Text) → IsReadable w
readable (Text.num n) = operand_readable (Text.num n) (λ l p. p) (num_taken n)
readable (Text.var x) = operand_readable (Text.var x) (λ l p. p) (var_taken x)
readable (Text.cell x i) = operand_readable (Text.cell x i) (λ l p. p) (cell_taken x i (readable i).ended)
readable (Text.neg a) = operand_readable (Text.neg a) (λ l p. p) (neg_taken a (readable a).taken)
readable (Text.inverse a) = operand_readable (Text.inverse a) (λ l p. p) (inverse_taken a (readable a).taken)
readable (Text.bin o a b) = record { taken = λ z k p f. absurd (omega (arith, p.0, prec_small o)); ended = bin_ended o a b (readable a).ended (readable b).ended }
readable (Text.paren a) = operand_readable (Text.paren a) (λ l p. p) (paren_taken a (readable a).ended)

-- The reader comes to the end of w.
pub record IsReadTo (w : Text) (s : Reader Text) : Type 0 where
  pub runs : feed_all written fresh (tokens w) ≡ Some s
  pub done : finish written s ≡ Some w
  pub whole : is_whole s ≡ true

pub record Completes (w : Text) : Type 0 where
  pub last : Reader Text
  pub is : IsReadTo w last

pub completes : (w : Text) → IsWritten w → Completes w
completes w h =
    let small = h.small in
    let nests = h.nests in
    let t = (readable w).ended 0 (record { nodes = 1; unary = 0; brackets = 0 }) [] h.level tt (record { small = omega arith; nests = omega arith }) in
    let same : size_of t.held ≡ t.size = sym (again_size 0 t.held) ∙ ap size_of t.closes in
    let none : (size_of t.held).brackets ≡ 0 = ap (λ (v : Size). v.brackets) same ∙ t.grown.brackets in
    record {
      last = t.last;
      is = record {
        runs = t.runs;
        done = finish_of t.last t.held t.holds ∙ finish_some t.held w t.size t.closes;
        whole = whole_of t.last t.held t.holds ∙ ap (λ n. nat_eq n 0) none;
      };
    }
