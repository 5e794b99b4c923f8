-- What the reader's variables stand for, in an item up to its block.
use Rattle.std.specs.Prelude.{Option, Some, None}
use Rattle.loom_syntax.specs.declared.item.InitialValue as rust_given
use Rattle.loom_syntax.specs.declared.item.InitialValue.TheVariants as g
use Rattle.loom_syntax.specs.declared.item.Declaration as rust_declaration
use Rattle.loom_syntax.specs.declared.item.Declaration.TheVariants as d
use Rattle.loom_syntax.specs.declared.item.Head as rust_head
use Rattle.loom_syntax.specs.declared.item.Head.TheVariants as h
use Rattle.loom_syntax.specs.declared.item.HeadNext as rust_next
use Rattle.loom_syntax.specs.declared.item.HeadNext.TheVariants as n
use Rattle.loom_syntax.specs.File.{InitialValue, none, plus, minus, Declaration, word, array, mutex, sema}
use Rattle.loom_syntax.specs.Head as m
use Rattle.loom_syntax.specs.Head.{Head, HeadNext}

abbrev pub given_of : rust_given.InitialValue → InitialValue
given_of g.None = none
given_of (g.Plus n) = plus n.value
given_of (g.Minus n) = minus n.value

abbrev pub declaration_of : rust_declaration.Declaration → Declaration
declaration_of (d.Word x first) = word x (given_of first)
declaration_of (d.Array x n) = array x n
declaration_of (d.Mutex x) = mutex x
declaration_of (d.Sema x first) = sema x first

abbrev pub head_of : rust_head.Head → Head
head_of h.SharedName = m.SharedName
head_of (h.SharedNamed x) = m.SharedNamed x
head_of (h.SharedValue x) = m.SharedValue x
head_of (h.SharedMinus x) = m.SharedMinus x
head_of (h.SharedCells x) = m.SharedCells x
head_of (h.SharedClose x n) = m.SharedClose x n
head_of h.MutexName = m.MutexName
head_of h.SemaName = m.SemaName
head_of (h.SemaNamed x) = m.SemaNamed x
head_of (h.SemaValue x) = m.SemaValue x
head_of (h.Ending d) = m.Ending (declaration_of d)
head_of h.FnName = m.FnName
head_of (h.FnOpen f) = m.FnOpen f
head_of (h.FnFirst f) = m.FnFirst f
head_of (h.FnParam f params) = m.FnParam f params.items
head_of (h.FnNext f params) = m.FnNext f params.items
head_of (h.FnBrace f params) = m.FnBrace f params.items

abbrev pub head_if : Option rust_head.Head → Option Head
head_if None = None
head_if (Some h) = Some (head_of h)

abbrev pub next_of : rust_next.HeadNext → HeadNext
next_of (n.Goes h) = HeadNext.Goes (head_of h)
next_of (n.Declares d) = HeadNext.Declares (declaration_of d)
next_of (n.Begins f params) = HeadNext.Begins f params.items

abbrev pub next_if : Option rust_next.HeadNext → Option HeadNext
next_if None = None
next_if (Some n) = Some (next_of n)
