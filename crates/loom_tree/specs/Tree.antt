-- The trees of the language, without where they lie in memory.
use Rattle.std.specs.Prelude.{ℕ, ℤ, List, map, Option, Some, None}
use Rattle.loom_tree.specs.declared.expression.Op.{Op}
use Rattle.loom_tree.specs.declared.expression.Expr.{Expr}
use Rattle.loom_tree.specs.declared.expression.Expr.TheVariants as x
use Rattle.loom_tree.specs.declared.statement.Right as rust_right
use Rattle.loom_tree.specs.declared.statement.Right.TheVariants as r
use Rattle.loom_tree.specs.declared.statement.Kind.{Kind}
use Rattle.loom_tree.specs.declared.statement.Kind.TheVariants as k
use Rattle.loom_tree.specs.declared.statement.Stmts.{Stmts}
use Rattle.loom_tree.specs.declared.statement.Stmts.TheVariants as s
use Rattle.loom_tree.specs.declared.statement.Func.{Func}
use Rattle.loom_tree.specs.declared.item.Word.{Word}
use Rattle.loom_tree.specs.declared.item.Sema.{Sema}
use Rattle.loom_tree.specs.declared.item.FileItem as rust_item
use Rattle.loom_tree.specs.declared.item.FileItem.TheVariants as i

pub data Expression : Type 0 where
  num : ℤ → Expression
  var : List ℕ → Expression
  cell : List ℕ → Expression → Expression
  neg : Expression → Expression
  inverse : Expression → Expression
  bin : Op → Expression → Expression → Expression

-- What stands at the right of `=`. Expressions are trees, or as they are written.
pub data Right (E : Type 0) : Type 0 where
  value : E → Right E
  call : List ℕ → List E → Right E
  spawn : List ℕ → List E → Right E

-- a statement without a block
pub data Simple (E : Type 0) : Type 0 where
  let_ : List ℕ → Right E → Simple E
  set : List ℕ → Right E → Simple E
  set_cell : List ℕ → E → E → Simple E
  call : List ℕ → List E → Simple E
  return : Option E → Simple E
  lock : List ℕ → Simple E
  unlock : List ℕ → Simple E
  down : List ℕ → Simple E
  up : List ℕ → Simple E
  join : E → Simple E
  print : E → Simple E
  skip : Simple E

-- statements, each with the line on which it begins
pub data Body : Type 0 where
  end : Body
  simple : ℕ → Simple Expression → Body → Body
  if_ : ℕ → Expression → Body → Body → Body → Body
  while_ : ℕ → Expression → Body → Body → Body

-- a function, with the line of its `fn`
pub record Function : Type 0 where
  pub name : List ℕ
  pub line : ℕ
  pub params : List (List ℕ)
  pub body : Body

-- an item of a file, with the line on which it begins
pub data FileItem : Type 0 where
  word : ℕ → Word → FileItem
  mutex : ℕ → List ℕ → FileItem
  sema : ℕ → Sema → FileItem
  func : Function → FileItem

-- a program: its items by their kinds, each in the order of the text
pub record Source : Type 0 where
  pub words : List Word
  pub mutexes : List (List ℕ)
  pub semas : List Sema
  pub funcs : List Function

-- the trees that values of the program's types stand for

abbrev pub expression_of : Expr → Expression
expression_of (x.Num n) = num n
expression_of (x.Var name) = var name
expression_of (x.Cell' name p i) = cell name (expression_of i)
expression_of (x.Neg' p a) = neg (expression_of a)
expression_of (x.Not' p a) = inverse (expression_of a)
expression_of (x.Bin' o p a q b) = bin o (expression_of a) (expression_of b)

abbrev pub expressions_of : List Expr → List Expression
expressions_of es = map expression_of es

abbrev pub right_of : rust_right.Right → Right Expression
right_of (r.Value e) = Right.value (expression_of e)
right_of (r.Call f es) = Right.call f (expressions_of es)
right_of (r.Spawn f es) = Right.spawn f (expressions_of es)

abbrev pub returned_of : Option Expr → Option Expression
returned_of None = None
returned_of (Some e) = Some (expression_of e)

abbrev mutual
  pub body_of : Stmts → Body
  body_of s.End = end
  body_of (s.More' p line kind q rest) = behind line kind (body_of rest)

  -- a statement, and the statements behind it
  pub behind : ℕ → Kind → Body → Body
  behind line (k.Let x e) rest = simple line (let_ x (right_of e)) rest
  behind line (k.Set x e) rest = simple line (set x (right_of e)) rest
  behind line (k.SetCell x i e) rest = simple line (set_cell x (expression_of i) (expression_of e)) rest
  behind line (k.If e a b) rest = if_ line (expression_of e) (body_of a) (body_of b) rest
  behind line (k.While e a) rest = while_ line (expression_of e) (body_of a) rest
  behind line (k.Call f es) rest = simple line (Simple.call f (expressions_of es)) rest
  behind line (k.Return e) rest = simple line (return (returned_of e)) rest
  behind line (k.Lock x) rest = simple line (lock x) rest
  behind line (k.Unlock x) rest = simple line (unlock x) rest
  behind line (k.Down x) rest = simple line (down x) rest
  behind line (k.Up x) rest = simple line (up x) rest
  behind line (k.Join e) rest = simple line (join (expression_of e)) rest
  behind line (k.Print e) rest = simple line (print (expression_of e)) rest
  behind line k.Skip rest = simple line skip rest

abbrev pub function_of : Func → Function
function_of f = record { name = f.name; line = f.line; params = f.params; body = body_of f.body }

abbrev pub functions_of : List Func → List Function
functions_of fs = map function_of fs

abbrev pub item_of : rust_item.FileItem → FileItem
item_of (i.Word line name cells first) = word line (record { name = name; cells = cells; first = first })
item_of (i.Mutex line name) = mutex line name
item_of (i.Sema line name first) = sema line (record { name = name; first = first })
item_of (i.Func f) = func (function_of f)

abbrev pub items_of : List rust_item.FileItem → List FileItem
items_of is = map item_of is
