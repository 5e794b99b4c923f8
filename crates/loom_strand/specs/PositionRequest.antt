-- The request of a thread at a position.
use Rattle.std.specs.Prelude.{ℕ, ◌≡◌, Option, Some, None}
use Rattle.loom_lang.specs.Trace.{index, reason}
use Rattle.loom_flow.specs.Question.{Question, read, write, lock, unlock, down, up, spawn, join, print}
use Rattle.loom_flow.specs.Progress.{Progress, asks, traps, ends}
use Rattle.loom_trace.specs.declared.request.Request.{Request}
use Rattle.loom_trace.specs.declared.request.Request.TheVariants as r

-- what is asked for by a question on this line
abbrev pub question_request : ℕ → Question → Request
question_request line (read w) = r.Read line w
question_request line (write w v) = r.Write line w v
question_request line (lock m) = r.Lock line m
question_request line (unlock m) = r.Unlock line m
question_request line (down s) = r.Down line s
question_request line (up s) = r.Up line s
question_request line (spawn f vs) = r.Spawn line f vs
question_request line (join v) = r.Join line v
question_request line (print v) = r.Print line v

-- What a thread asks for whose function has this line. It asks for a trap that it finds by itself, and for its end.
abbrev pub request_at : ℕ → Progress → Option Request
request_at of_function (asks line q behind) = Some (question_request line q)
request_at of_function (traps line c) = Some (r.Trap line (reason c))
request_at of_function ends = Some (r.End of_function)
request_at of_function _ = None

-- The request is what is asked for there.
abbrev pub IsAskedBy : Request → Progress → Type 0
IsAskedBy q (asks line p behind) = q ≡ question_request line p
IsAskedBy q (traps line cause) = q ≡ r.Trap line (reason cause)
IsAskedBy q _ = ⊥

-- the request for a cell of this number, or the trap of an index that isn't one of the array
abbrev pub cell_request : ℕ → (ℕ → Request) → Option ℕ → Request
cell_request line ask None = r.Trap line (reason index)
cell_request line ask (Some w) = ask w
