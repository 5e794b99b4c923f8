-- The numbers of what a program declares, each counted from 0 in the order of the text.
use Rattle.std.specs.Prelude.{ℕ, suc, ◌+◌, ◌==◌, List, [], ◌∷◌, map, Option, Some, None, option_map, if◌then◌else◌}
use Rattle.std.specs.Cmp.Lexicographic.{pointwise}
use Rattle.loom_tree.specs.declared.item.Word.{Word}
use Rattle.loom_tree.specs.declared.item.Sema.{Sema}
use Rattle.loom_tree.specs.Tree.{Function, Source}
use Rattle.loom_lang.specs.Rules.{cells_in}

-- where a name first stands in a list
abbrev pub index_of : List ℕ → List (List ℕ) → Option ℕ
index_of x [] = None
index_of x (y ∷ ys) = if pointwise ◌==◌ y x then Some 0 else option_map suc (index_of x ys)

-- The cells of a word or an array: the number of the first, and how many, where it is an array. A plain word has one.
pub record Cells : Type 0 where
  pub first : ℕ
  pub count : Option ℕ

-- A word's or an array's cells have the numbers behind those of the `shared` items that stand before it.
abbrev pub cells_from : ℕ → List Word → List ℕ → Option Cells
cells_from n [] x = None
cells_from n (w ∷ ws) x = if pointwise ◌==◌ w.name x then Some (record { first = n; count = w.cells }) else cells_from (n + cells_in w) ws x

abbrev pub cells_named : Source → List ℕ → Option Cells
cells_named p x = cells_from 0 p.words x

abbrev pub mutex_number : Source → List ℕ → Option ℕ
mutex_number p x = index_of x p.mutexes

abbrev pub sema_number : Source → List ℕ → Option ℕ
sema_number p x = index_of x (map (λ (s : Sema). s.name) p.semas)

abbrev pub function_number : Source → List ℕ → Option ℕ
function_number p x = index_of x (map (λ (f : Function). f.name) p.funcs)
