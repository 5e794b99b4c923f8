-- The values of operators, and the cells of arrays.
use Rattle.std.specs.Prelude.{ℕ, ◌+◌, ◌&&◌, nat_lt, ℤ, pos, negsuc, Option, Some, None, if◌then◌else◌}
use Rattle.loom_tree.specs.declared.expression.Op.{Op}
use Rattle.loom_lang.specs.Values.{is_zero, op_value, divides}
use Rattle.loom_flow.specs.declared.code.Array.{Array}

-- the value of an operator, where there is one
abbrev pub operator_value : Op → ℤ → ℤ → Option ℤ
operator_value o a b = if divides o && is_zero b then None else Some (op_value o a b)

-- the number of a cell, where the index is one of the array
abbrev pub cell_at : Array → ℤ → Option ℕ
cell_at a (pos i) = if nat_lt i a.count then Some (a.first + i) else None
cell_at a (negsuc i) = None
