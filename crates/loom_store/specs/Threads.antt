-- The threads that values of the program's types stand for.
use Rattle.std.specs.Prelude.{ℕ, List, Some}
use Rattle.loom_event.specs.Replay.{ThreadState, main_thread}
use Rattle.loom_store.specs.declared.threads.Thread.{Thread}

-- the threads that were spawned, and how many there may be
pub record Threads : Type 0 where
  -- thread t is the t-th
  pub spawned : List ThreadState
  pub most : ℕ

-- before the run thread 1 is spawned, with this function
abbrev pub first_threads : ℕ → ℕ → Threads
first_threads main most = record { spawned = main_thread most (Some main); most = most }

abbrev pub state_of : Thread → ThreadState
state_of x = record { func = x.func; args = x.args; begun = x.begun; ended = x.ended }
