-- The lines on which statements begin.
use Rattle.std.specs.Prelude.{ℕ, suc, ◌==◌, Bool, false, ◌||◌, List, [], ◌∷◌, Option, Some, None, if◌then◌else◌}
use Rattle.loom_tree.specs.Tree.{Body, end, simple, if_, while_, Function, Source}

-- a statement of the body begins on the line, those nested in others too
abbrev pub has_line : Body → ℕ → Bool
has_line end l = false
has_line (simple m s rest) l = (m == l) || has_line rest l
has_line (if_ m e a b rest) l = ((m == l) || (has_line a l || has_line b l)) || has_line rest l
has_line (while_ m e a rest) l = ((m == l) || has_line a l) || has_line rest l

-- the number of the first of these functions in which one does; they are counted from n
abbrev pub function_from : ℕ → List Function → ℕ → Option ℕ
function_from n [] l = None
function_from n (f ∷ fs) l = if has_line f.body l then Some n else function_from (suc n) fs l

abbrev pub function_on : Source → ℕ → Option ℕ
function_on p l = function_from 0 p.funcs l
