-- Sets of functions, with one bit for each.
use Rattle.std.specs.Prelude.{ℕ, ◌≡◌, ◌<◌, ◌==◌, nat_lt, Bool, true, ◌&&◌, List, length}
use Rattle.std.specs.Int.{bit_at}
use Rattle.loom_trace.specs.Places.{has_place}
use Rattle.loom_tree.specs.Tree.{Source}
use Rattle.loom_law.specs.Paths.{statements_of, CallsFunction}
use Rattle.loom_sites.specs.Rows.{RowTest}
use Rattle.loom_sites.specs.Links.{is_call_of}

abbrev pub has_function : ℕ → ℕ → Bool
has_function bits f = bit_at bits f == 1

-- each is a function of the program
abbrev pub AreFunctions : Source → ℕ → Type 0
AreFunctions p bits = (f : ℕ) → has_function bits f ≡ true → f < length p.funcs

-- It is one of these functions, or calls in them reach it.
pub data IsReachedFrom (p : Source) (bits : ℕ) : ℕ → Type 0 where
  one : {f : ℕ} → has_function bits f ≡ true → IsReachedFrom p bits f
  through : {f g : ℕ} → IsReachedFrom p bits f → CallsFunction p (statements_of p f) g → IsReachedFrom p bits g

-- tests of places: that a statement there itself calls function g, and that it is one of function g, at one of these places

abbrev pub calls_there : List ℕ → ℕ → RowTest
calls_there places g k row = has_place places k && is_call_of g row.kind

abbrev pub lies_there : List ℕ → ℕ → RowTest
lies_there places g k row = has_place places k && (row.function == g)

-- that it is a place of one of these functions
abbrev pub is_of : ℕ → RowTest
is_of bits k row = nat_lt 0 k && has_function bits row.function
