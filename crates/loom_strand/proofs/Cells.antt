-- What is asked for of a cell.
use Rattle.std.proofs.Common.{ℕ, ◌+◌, ◌≡◌, Bool, true, false, ℤ, pos, negsuc, Some, None, nat_lt, sym, subst, if◌then◌else◌}
use Rattle.loom_lang.specs.Trace.{index}
use Rattle.loom_flow.specs.declared.code.Array.{Array}
use Rattle.loom_flow.specs.Progress.{Progress, traps, in_array}
use Rattle.loom_trace.specs.declared.request.Request.{Request}
use Rattle.loom_strand.specs.Operator.{cell_at}
use Rattle.loom_strand.specs.PositionRequest.{IsAskedBy, cell_request}

asked_if : (b : Bool) (line w : ℕ) (ask : ℕ → Request) (more : ℕ → Progress) (q : Request) → IsAskedBy (ask w) (more w) → q ≡ cell_request line ask (if b then Some w else None)
    → IsAskedBy q (if b then more w else traps line index)
asked_if true line w ask more q h e = subst (λ x. IsAskedBy x (more w)) (sym e) h
asked_if false line w ask more q h e = e

pub asked_cell : (line : ℕ) (a : Array) (v : ℤ) (ask : ℕ → Request) (more : ℕ → Progress) (q : Request) → ((w : ℕ) → IsAskedBy (ask w) (more w)) → q ≡ cell_request line ask (cell_at a v)
    → IsAskedBy q (in_array line a v more)
asked_cell line a (pos i) ask more q h e = asked_if (nat_lt i a.count) line (a.first + i) ask more q (h (a.first + i)) e
asked_cell line a (negsuc i) ask more q h e = e
