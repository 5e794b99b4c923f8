-- What the grammar asks of the trees of a program.
use Rattle.std.specs.Prelude.{ℕ, suc, ◌+◌, ◌≤◌, ◌<◌, ◌≡◌, ℤ, pos, negsuc, Option, Some, None}
use Rattle.std.specs.List.{AllByRecursion}
use Rattle.loom_tree.specs.declared.item.Word.{Word}
use Rattle.loom_tree.specs.declared.item.Sema.{Sema}
use Rattle.loom_tree.specs.Tree.{Expression, num, var, cell, neg, inverse, bin, Right, Simple, let_, set, set_cell, return, lock, unlock, down, up, join, print, skip, Body, end, simple, if_, while_}
use Rattle.loom_lexer.specs.Tokens.{largest_number}
use Rattle.loom_expression.specs.Text.{node_limit}
use Rattle.loom_syntax.specs.File.{block_limit, sema_limit}

-- Expressions

-- numbers, names, cells and operators
abbrev pub node_count : Expression → ℕ
node_count (num n) = 1
node_count (var x) = 1
node_count (cell x i) = suc (node_count i)
node_count (neg a) = suc (node_count a)
node_count (inverse a) = suc (node_count a)
node_count (bin o a b) = suc (node_count a + node_count b)

-- its numbers are from 0 to the largest one
abbrev pub HasProperNumbers : Expression → Type 0
HasProperNumbers (num (pos n)) = n ≤ largest_number
HasProperNumbers (num (negsuc n)) = ⊥
HasProperNumbers (var x) = Unit {0}
HasProperNumbers (cell x i) = HasProperNumbers i
HasProperNumbers (neg a) = HasProperNumbers a
HasProperNumbers (inverse a) = HasProperNumbers a
HasProperNumbers (bin o a b) = HasProperNumbers a × HasProperNumbers b

-- Operators before an operand and cells nest less deep than there are nodes, and parentheses aren't in the tree: their
-- nesting needs no limit here.
pub record IsWellFormed (e : Expression) : Type 0 where
  pub nodes : node_count e ≤ node_limit
  pub numbers : HasProperNumbers e

-- Statements

abbrev pub IsWellFormedRight : Right Expression → Type 0
IsWellFormedRight (Right.value e) = IsWellFormed e
IsWellFormedRight (Right.call f es) = AllByRecursion IsWellFormed es
IsWellFormedRight (Right.spawn f es) = AllByRecursion IsWellFormed es

abbrev pub IsWellFormedStatement : Simple Expression → Type 0
IsWellFormedStatement (let_ x r) = IsWellFormedRight r
IsWellFormedStatement (set x r) = IsWellFormedRight r
IsWellFormedStatement (set_cell x i e) = IsWellFormed i × IsWellFormed e
IsWellFormedStatement (Simple.call f es) = AllByRecursion IsWellFormed es
IsWellFormedStatement (return None) = Unit {0}
IsWellFormedStatement (return (Some e)) = IsWellFormed e
IsWellFormedStatement (lock x) = Unit {0}
IsWellFormedStatement (unlock x) = Unit {0}
IsWellFormedStatement (down x) = Unit {0}
IsWellFormedStatement (up x) = Unit {0}
IsWellFormedStatement (join e) = IsWellFormed e
IsWellFormedStatement (print e) = IsWellFormed e
IsWellFormedStatement skip = Unit {0}

-- the statements of a block which is so many blocks deep
abbrev pub IsWellFormedBlock : ℕ → Body → Type 0
IsWellFormedBlock n end = Unit {0}
IsWellFormedBlock n (simple l s rest) = IsWellFormedStatement s × IsWellFormedBlock n rest
IsWellFormedBlock n (if_ l e a b rest) = (IsWellFormed e × (n < block_limit) × IsWellFormedBlock (suc n) a × IsWellFormedBlock (suc n) b) × IsWellFormedBlock n rest
IsWellFormedBlock n (while_ l e a rest) = (IsWellFormed e × (n < block_limit) × IsWellFormedBlock (suc n) a) × IsWellFormedBlock n rest

-- Items

-- The first value of a plain word is a number with or without its sign. The cells of an array are 0 at first.
abbrev pub IsFirstValue : Option ℕ → ℤ → Type 0
IsFirstValue None (pos n) = n ≤ largest_number
IsFirstValue None (negsuc n) = suc n ≤ largest_number
IsFirstValue (Some cells) first = first ≡ pos 0

abbrev pub IsWellFormedWord : Word → Type 0
IsWellFormedWord w = IsFirstValue w.cells w.first

abbrev pub IsWellFormedSema : Sema → Type 0
IsWellFormedSema s = s.first ≤ sema_limit
