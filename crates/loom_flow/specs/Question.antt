-- What an instruction asks for.
use Rattle.std.specs.Prelude.{ℕ, List, ℤ}

pub data Question : Type 0 where
  -- of a word, by its number
  read : ℕ → Question
  write : ℕ → ℤ → Question
  -- of a mutex
  lock : ℕ → Question
  unlock : ℕ → Question
  -- of a semaphore
  down : ℕ → Question
  up : ℕ → Question
  -- a thread of this function with these arguments
  spawn : ℕ → List ℤ → Question
  -- the end of the thread of this number
  join : ℤ → Question
  print : ℤ → Question
