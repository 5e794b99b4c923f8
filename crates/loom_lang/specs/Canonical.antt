-- The canonical text of a program.
use Rattle.std.specs.Prelude.{ℕ, zero, suc, ◌+◌, List, [], ◌∷◌, ◌++◌, length, map, flat_map, Option, Some, None, codes}
use Rattle.loom_tree.specs.declared.expression.Op.{Op}
use Rattle.loom_tree.specs.declared.expression.Op.TheVariants as o
use Rattle.loom_tree.specs.declared.item.Word.{Word}
use Rattle.loom_tree.specs.declared.item.Sema.{Sema}
use Rattle.loom_tree.specs.Tree.{Expression, num, var, cell, neg, inverse, bin, Right, Simple, let_, set, set_cell, return, lock, unlock, down, up, join, print, skip, Body, end, simple, if_, while_, Function, Source}
use Rattle.loom_tree.specs.Decimal.{decimal, signed_decimal}
use Rattle.loom_tree.specs.Lines.{ended}

-- Expressions

abbrev pub operator : Op → List ℕ
operator o.Or = codes "||"
operator o.And = codes "&&"
operator o.Eq = codes "=="
operator o.Ne = codes "!="
operator o.Lt = codes "<"
operator o.Le = codes "<="
operator o.Gt = codes ">"
operator o.Ge = codes ">="
operator o.Add = codes "+"
operator o.Sub = codes "-"
operator o.Mul = codes "*"
operator o.Div = codes "/"
operator o.Rem = codes "%"

-- Parentheses stand round the operands that have two operands of their own, and round nothing else.
abbrev pub operand_text : Expression → List ℕ → List ℕ
operand_text (bin o a b) text = codes "(" ++ text ++ codes ")"
operand_text _ text = text

-- Nothing is between a unary operator and its operand; around a binary one are spaces.
abbrev pub expression_text : Expression → List ℕ
expression_text (num n) = signed_decimal n
expression_text (var x) = x
expression_text (cell x i) = x ++ codes "[" ++ expression_text i ++ codes "]"
expression_text (neg a) = codes "-" ++ operand_text a (expression_text a)
expression_text (inverse a) = codes "!" ++ operand_text a (expression_text a)
expression_text (bin o a b) = operand_text a (expression_text a) ++ codes " " ++ operator o ++ codes " " ++ operand_text b (expression_text b)

-- Statements

-- texts with a comma and a space between them
abbrev pub listed : List (List ℕ) → List ℕ
listed [] = []
listed (x ∷ []) = x
listed (x ∷ y ∷ ys) = x ++ codes ", " ++ listed (y ∷ ys)

abbrev pub call_text : List ℕ → List Expression → List ℕ
call_text f es = f ++ codes "(" ++ listed (map expression_text es) ++ codes ")"

abbrev pub right_text : Right Expression → List ℕ
right_text (Right.value e) = expression_text e
right_text (Right.call f es) = call_text f es
right_text (Right.spawn f es) = codes "spawn " ++ call_text f es

abbrev pub simple_text : Simple Expression → List ℕ
simple_text (let_ x r) = codes "let " ++ x ++ codes " = " ++ right_text r ++ codes ";"
simple_text (set x r) = x ++ codes " = " ++ right_text r ++ codes ";"
simple_text (set_cell x i e) = x ++ codes "[" ++ expression_text i ++ codes "] = " ++ expression_text e ++ codes ";"
simple_text (Simple.call f es) = call_text f es ++ codes ";"
simple_text (return None) = codes "return;"
simple_text (return (Some e)) = codes "return " ++ expression_text e ++ codes ";"
simple_text (lock x) = codes "lock " ++ x ++ codes ";"
simple_text (unlock x) = codes "unlock " ++ x ++ codes ";"
simple_text (down x) = codes "down " ++ x ++ codes ";"
simple_text (up x) = codes "up " ++ x ++ codes ";"
simple_text (join e) = codes "join " ++ expression_text e ++ codes ";"
simple_text (print e) = codes "print " ++ expression_text e ++ codes ";"
simple_text skip = codes "skip;"

-- two spaces for each block round a line
abbrev pub indented : ℕ → List ℕ → List ℕ
indented zero text = text
indented (suc n) text = codes "  " ++ indented n text

-- An empty `else` is left out.
abbrev pub else_lines : ℕ → Body → List (List ℕ) → List (List ℕ)
else_lines n end lines = []
else_lines n _ lines = indented n (codes "} else {") ∷ lines

-- A line holds one statement, or the brace that closes a block.
abbrev pub body_text_lines : ℕ → Body → List (List ℕ)
body_text_lines n end = []
body_text_lines n (simple l s rest) = indented n (simple_text s) ∷ body_text_lines n rest
body_text_lines n (if_ l e a b rest) =
    indented n (codes "if (" ++ expression_text e ++ codes ") {")
    ∷ (body_text_lines (suc n) a ++ (else_lines n b (body_text_lines (suc n) b) ++ indented n (codes "}") ∷ body_text_lines n rest))
body_text_lines n (while_ l e a rest) =
    indented n (codes "while (" ++ expression_text e ++ codes ") {")
    ∷ (body_text_lines (suc n) a ++ indented n (codes "}") ∷ body_text_lines n rest)

-- Items

abbrev pub word_line : Word → List ℕ
word_line w = cells_line w.cells
  where
    cells_line : Option ℕ → List ℕ
    cells_line None = codes "shared " ++ w.name ++ codes " = " ++ signed_decimal w.first ++ codes ";"
    cells_line (Some n) = codes "shared " ++ w.name ++ codes "[" ++ decimal n ++ codes "];"

abbrev pub mutex_line : List ℕ → List ℕ
mutex_line x = codes "mutex " ++ x ++ codes ";"

abbrev pub sema_line : Sema → List ℕ
sema_line s = codes "sema " ++ s.name ++ codes " = " ++ decimal s.first ++ codes ";"

abbrev pub function_lines : Function → List (List ℕ)
function_lines f = (codes "fn " ++ f.name ++ codes "(" ++ listed f.params ++ codes ") {") ∷ (body_text_lines 1 f.body ++ codes "}" ∷ [])

abbrev pub functions_lines : List Function → List (List ℕ)
functions_lines fs = flat_map function_lines fs

-- Items go by kind: `shared`, `mutex`, `sema`, `fn`. Those of one kind keep their order.
abbrev pub canonical_lines : Source → List (List ℕ)
canonical_lines p = map word_line p.words ++ (map mutex_line p.mutexes ++ (map sema_line p.semas ++ functions_lines p.funcs))

abbrev pub canonical_text : Source → List ℕ
canonical_text p = ended (canonical_lines p)

-- A program with the lines of its canonical text

-- how many lines statements take
abbrev pub height : Body → ℕ
height b = length (body_text_lines 0 b)

-- the same statements, with the lines that they have where the first begins on this line
abbrev pub body_from : ℕ → Body → Body
body_from line end = end
body_from line (simple l s rest) = simple line s (body_from (suc line) rest)
body_from line (if_ l e a end rest) = if_ line e (body_from (suc line) a) end (body_from (line + height a + 2) rest)
body_from line (if_ l e a b rest) = if_ line e (body_from (suc line) a) (body_from (line + height a + 2) b) (body_from (line + height a + height b + 3) rest)
body_from line (while_ l e a rest) = while_ line e (body_from (suc line) a) (body_from (line + height a + 2) rest)

-- the same of functions
abbrev pub functions_from : ℕ → List Function → List Function
functions_from line [] = []
functions_from line (f ∷ fs) = (record f { line = line; body = body_from (suc line) f.body }) ∷ functions_from (line + length (function_lines f)) fs

abbrev pub with_canonical_lines : Source → Source
with_canonical_lines p = record p { funcs = functions_from (1 + length p.words + length p.mutexes + length p.semas) p.funcs }
