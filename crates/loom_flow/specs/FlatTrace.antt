-- The traces of flat code: it is free in what a read gives and in the traps that the store may give.
use Rattle.std.specs.Prelude.{slice_get, ℕ, zero, suc, List, [], ℤ, pos, Option, Some, None}
use Rattle.loom_tree.specs.Tree.{Function}
use Rattle.loom_lang.specs.Trace as trace
use Rattle.loom_lang.specs.Trace.{Thread, Lists, Outcome, Item, made, broken, emit, any, either, trap_lists, reading, join_of, thread_end, threads, not_held, overflow}
use Rattle.loom_flow.specs.declared.code.Entrance.{Entrance}
use Rattle.loom_flow.specs.Flow.{Flow}
use Rattle.loom_flow.specs.State.{at_start}
use Rattle.loom_flow.specs.Position.{Position}
use Rattle.loom_flow.specs.Question.{Question, read, write, lock, unlock, down, up, spawn, join, print}
use Rattle.loom_flow.specs.Progress.{Progress, goes, asks, traps, ends, nothing, enters, progress}

-- an entry, or the trap that the store may answer with
abbrev pub question_lists : Thread → ℕ → Question → (ℤ → Lists) → Lists
question_lists t line (read w) more = reading line w more
question_lists t line (write w v) more = emit (made line (trace.write w v)) (more (pos 0))
question_lists t line (lock m) more = emit (made line (trace.lock m)) (more (pos 0))
question_lists t line (unlock m) more = either (trap_lists t line (not_held m)) (emit (made line (trace.unlock m)) (more (pos 0)))
question_lists t line (down x) more = emit (made line (trace.down x)) (more (pos 0))
question_lists t line (up x) more = either (trap_lists t line (overflow x)) (emit (made line (trace.up x)) (more (pos 0)))
question_lists t line (spawn f vs) more = either (trap_lists t line threads) (any (λ k. emit (made line (trace.spawn k f vs)) (more (pos k))))
question_lists t line (join v) more = join_of t line v (more (pos 0))
question_lists t line (print v) more = emit (made line (trace.print v)) (more (pos 0))

abbrev pub progress_lists : Thread → (Position → Lists) → Progress → Lists
progress_lists t next (goes None z) = next z
progress_lists t next (goes (Some i) z) = emit i (next z)
progress_lists t next (asks line q behind) = question_lists t line q (λ v. next (behind v))
progress_lists t next (traps line c) = trap_lists t line c
progress_lists t next ends = t.stopped
progress_lists t next nothing = broken

-- at most so many steps, and broken off behind them
abbrev pub runs : Flow → Thread → ℕ → Position → Lists
runs c t zero z = broken
runs c t (suc n) z = progress_lists t (runs c t n) (progress c z)

abbrev pub flat_start : Flow → Thread → ℕ → List ℤ → ℕ → Option Entrance → Lists
flat_start c t f vs n None = broken
flat_start c t f vs n (Some e) = progress_lists t (runs c t n) (enters c f (at_start f e vs [] []))

abbrev pub flat_thread : Flow → Option Function → ℕ → List ℤ → ℕ → Lists
flat_thread c None f vs n = broken
flat_thread c (Some g) f vs n = emit (made g.line trace.begin) (flat_start c (record { program = c.program; stopped = thread_end g.line }) f vs n (slice_get c.entrances f))

-- These items are a trace of a thread that runs this function of the flat code with these arguments.
pub record IsFlatTrace (c : Flow) (f : ℕ) (vs : List ℤ) (items : List Item) (r : Outcome) : Type 0 where
  pub most_steps : ℕ
  pub gives : flat_thread c (slice_get c.program.funcs f) f vs most_steps items r
