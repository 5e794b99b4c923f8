-- Events as lists of numbers.
use Rattle.std.specs.Prelude.{ℕ, ℤ, pos, negsuc, List, [], ◌∷◌, ◌++◌, length, Option, Some, None}
use Rattle.loom_tree.specs.declared.expression.Op.{Op}
use Rattle.loom_tree.specs.declared.expression.Op.TheVariants as o
use Rattle.loom_tree.specs.Tree.{Expression, num, var, cell, neg, inverse, bin}
use Rattle.loom_command.specs.Filter as tree

abbrev pub op_key : Op → ℕ
op_key o.Or = 0
op_key o.And = 1
op_key o.Eq = 2
op_key o.Ne = 3
op_key o.Lt = 4
op_key o.Le = 5
op_key o.Gt = 6
op_key o.Ge = 7
op_key o.Add = 8
op_key o.Sub = 9
op_key o.Mul = 10
op_key o.Div = 11
op_key o.Rem = 12

abbrev pub name_key : List ℕ → List ℕ
name_key x = length x ∷ x

abbrev pub number_key : ℤ → List ℕ
number_key (pos n) = 0 ∷ n ∷ []
number_key (negsuc n) = 6 ∷ n ∷ []

-- what it is, and then its parts
abbrev pub expression_key : Expression → List ℕ
expression_key (num n) = number_key n
expression_key (var x) = 1 ∷ name_key x
expression_key (cell x i) = 2 ∷ name_key x ++ expression_key i
expression_key (neg a) = 3 ∷ expression_key a
expression_key (inverse a) = 4 ∷ expression_key a
expression_key (bin p a b) = 5 ∷ op_key p ∷ expression_key a ++ expression_key b

abbrev pub test_key : Option Expression → List ℕ
test_key None = []
test_key (Some e) = expression_key e

abbrev pub event_key : tree.LineEvent → List ℕ
event_key e = e.line ∷ name_key e.file ++ test_key e.test
