-- Values: 64 bits, two's complement, wrapping.
use Rattle.std.specs.Prelude.{ℤ, pos, Bool, true, false, not, ◌&&◌, ◌||◌, int_lt, int_le, int_rem}
use Rattle.std.specs.Ordering.{int_eq}
use Rattle.std.specs.Int.{w64, int_wrapping_add, int_wrapping_sub, int_wrapping_mul, int_wrapping_div, int_wrapping_neg}
use Rattle.loom_tree.specs.declared.expression.Op.{Op}
use Rattle.loom_tree.specs.declared.expression.Op.TheVariants as o

abbrev pub is_zero : ℤ → Bool
is_zero v = int_eq v (pos 0)

abbrev pub truth : Bool → ℤ
truth true = pos 1
truth false = pos 0

-- the value of an operator; a divisor isn't 0
abbrev pub op_value : Op → ℤ → ℤ → ℤ
op_value o.Or a b = truth (not (is_zero a) || not (is_zero b))
op_value o.And a b = truth (not (is_zero a) && not (is_zero b))
op_value o.Eq a b = truth (int_eq a b)
op_value o.Ne a b = truth (not (int_eq a b))
op_value o.Lt a b = truth (int_lt a b)
op_value o.Le a b = truth (int_le a b)
op_value o.Gt a b = truth (int_lt b a)
op_value o.Ge a b = truth (int_le b a)
op_value o.Add a b = int_wrapping_add w64 a b
op_value o.Sub a b = int_wrapping_sub w64 a b
op_value o.Mul a b = int_wrapping_mul w64 a b
-- cut towards 0; the least value by -1 is the least value, with the remainder 0
op_value o.Div a b = int_wrapping_div w64 a b
op_value o.Rem a b = int_rem a b

abbrev pub negated : ℤ → ℤ
negated v = int_wrapping_neg w64 v

abbrev pub inverted : ℤ → ℤ
inverted v = truth (is_zero v)

abbrev pub divides : Op → Bool
divides o.Div = true
divides o.Rem = true
divides _ = false
