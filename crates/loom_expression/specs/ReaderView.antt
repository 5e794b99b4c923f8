-- What the reader's variables stand for.
use Rattle.std.specs.Prelude.{ℕ, List, [], ◌∷◌, Option, Some, None}
use Rattle.loom_tree.specs.declared.expression.Expr.{Expr}
use Rattle.loom_tree.specs.Tree.{Expression, expression_of}
use Rattle.loom_expression.specs.declared.part.Prefix.{Prefix}
use Rattle.loom_expression.specs.declared.part.Prefix.TheVariants as f
use Rattle.loom_expression.specs.declared.part.Size.{Size}
use Rattle.loom_expression.specs.declared.part.Phrase.{Phrase}
use Rattle.loom_expression.specs.declared.reader.Reader.{Reader}
use Rattle.loom_expression.specs.declared.reader.Reader.TheVariants as r
use Rattle.loom_expression.specs.Reader as m

abbrev pub prefix_of : Prefix → m.Prefix Expression
prefix_of (f.Left o a) = m.Left o (expression_of a)
prefix_of f.Minus = m.Minus
prefix_of f.Bang = m.Bang
prefix_of f.Open = m.Open
prefix_of (f.Index x) = m.Index x

-- the last frame is on top
abbrev pub onto : List Prefix → List (m.Prefix Expression) → List (m.Prefix Expression)
onto [] k = k
onto (f ∷ fs) k = onto fs (prefix_of f ∷ k)

abbrev pub stack_of : List Prefix → List (m.Prefix Expression)
stack_of fs = onto fs []

abbrev pub size_of : Size → m.Size
size_of z = record { nodes = z.nodes; unary = z.unary; brackets = z.brackets }

abbrev pub phrase_of : Phrase → m.Phrase Expression
phrase_of o = m.Over (expression_of o.value) (size_of o.size) (stack_of o.prefixes.items)

abbrev pub reader_of : Reader → m.Reader Expression
reader_of (r.Want z fs) = m.Want (size_of z) (stack_of fs.items)
reader_of (r.Named x z fs) = m.Named x (size_of z) (stack_of fs.items)
reader_of (r.Have o) = m.Have (phrase_of o)

abbrev pub reader_if : Option Reader → Option (m.Reader Expression)
reader_if None = None
reader_if (Some s) = Some (reader_of s)

abbrev pub expression_if : Option Expr → Option Expression
expression_if None = None
expression_if (Some e) = Some (expression_of e)

-- the operand that takes the left ones of the operators that bind at least so tightly
abbrev pub reduced : ℕ → m.Phrase Expression → m.Phrase Expression
reduced l (m.Over e z k) = m.reduce m.plain l e z k
