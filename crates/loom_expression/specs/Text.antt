-- Expressions as they are written, and the trees that they stand for.
use Rattle.std.specs.Prelude.{ℕ, suc, ◌+◌, ◌≤◌, ◌≡◌, max, pos, List, [], ◌∷◌, ◌++◌}
use Rattle.loom_tree.specs.declared.expression.Op.{Op}
use Rattle.loom_tree.specs.declared.expression.Op.TheVariants as op
use Rattle.loom_tree.specs.declared.token.Sign.TheVariants as sign
use Rattle.loom_tree.specs.Tree.{Expression}
use Rattle.loom_tree.specs.Token.{Token}
use Rattle.loom_expression.specs.declared.part.TheConstants.{NODE_LIMIT, NESTING_LIMIT}

-- an expression as it is written: a tree with the parentheses that stand in it
pub data Text : Type 0 where
  num : ℕ → Text
  var : List ℕ → Text
  cell : List ℕ → Text → Text
  neg : Text → Text
  inverse : Text → Text
  bin : Op → Text → Text → Text
  paren : Text → Text

abbrev pub tokens : Text → List Token
tokens (Text.num n) = Token.num n ∷ []
tokens (Text.var x) = Token.name x ∷ []
tokens (Text.cell x i) = Token.name x ∷ Token.sign sign.BracketOpen ∷ tokens i ++ Token.sign sign.BracketClose ∷ []
tokens (Text.neg a) = Token.op op.Sub ∷ tokens a
tokens (Text.inverse a) = Token.sign sign.Bang ∷ tokens a
tokens (Text.bin o a b) = tokens a ++ Token.op o ∷ tokens b
tokens (Text.paren a) = Token.sign sign.ParenOpen ∷ tokens a ++ Token.sign sign.ParenClose ∷ []

abbrev pub tree : Text → Expression
tree (Text.num n) = Expression.num (pos n)
tree (Text.var x) = Expression.var x
tree (Text.cell x i) = Expression.cell x (tree i)
tree (Text.neg a) = Expression.neg (tree a)
tree (Text.inverse a) = Expression.inverse (tree a)
tree (Text.bin o a b) = Expression.bin o (tree a) (tree b)
tree (Text.paren a) = tree a

-- how tightly an operator between two operands binds; an operator before its operand binds by 6
abbrev pub prec : Op → ℕ
prec op.Or = 1
prec op.And = 2
prec op.Eq = 3
prec op.Ne = 3
prec op.Lt = 3
prec op.Le = 3
prec op.Gt = 3
prec op.Ge = 3
prec op.Add = 4
prec op.Sub = 4
prec op.Mul = 5
prec op.Div = 5
prec op.Rem = 5

-- It may stand where the grammar wants what binds at least so tightly. Operators group to the left.
abbrev pub HasLevel : ℕ → Text → Type 0
HasLevel l (Text.num n) = Unit {0}
HasLevel l (Text.var x) = Unit {0}
HasLevel l (Text.cell x i) = HasLevel 0 i
HasLevel l (Text.neg a) = HasLevel 6 a
HasLevel l (Text.inverse a) = HasLevel 6 a
HasLevel l (Text.bin o a b) = (l ≤ prec o) × HasLevel (prec o) a × HasLevel (suc (prec o)) b
HasLevel l (Text.paren a) = HasLevel 0 a

-- numbers, names, cells and operators
abbrev pub nodes : Text → ℕ
nodes (Text.num n) = 1
nodes (Text.var x) = 1
nodes (Text.cell x i) = suc (nodes i)
nodes (Text.neg a) = suc (nodes a)
nodes (Text.inverse a) = suc (nodes a)
nodes (Text.bin o a b) = suc (nodes a + nodes b)
nodes (Text.paren a) = nodes a

-- how deep parentheses, brackets and operators before an operand nest
abbrev pub depth : Text → ℕ
depth (Text.num n) = 0
depth (Text.var x) = 0
depth (Text.cell x i) = suc (depth i)
depth (Text.neg a) = suc (depth a)
depth (Text.inverse a) = suc (depth a)
depth (Text.bin o a b) = max (depth a) (depth b)
depth (Text.paren a) = suc (depth a)

-- the limits of the grammar

abbrev pub node_limit : ℕ
node_limit = NODE_LIMIT

abbrev pub nesting_limit : ℕ
nesting_limit = NESTING_LIMIT

pub record IsWritten (w : Text) : Type 0 where
  pub level : HasLevel 0 w
  pub small : nodes w ≤ node_limit
  pub nests : depth w ≤ nesting_limit

-- the tokens are the expression
pub record IsExpression (ts : List Token) (e : Expression) : Type 0 where
  pub written : Text
  pub rules : IsWritten written
  pub spelled : tokens written ≡ ts
  pub stands : tree written ≡ e
