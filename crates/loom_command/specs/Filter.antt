-- Filters, as trees.
use Rattle.std.specs.Prelude.{ℕ, List, Option}
use Rattle.loom_tree.specs.Tree.{Expression}

-- a line of the file of this name, where a statement begins
pub record LineEvent : Type 0 where
  pub file : List ℕ
  pub line : ℕ
  pub test : Option Expression

-- an event of an order, and how often it must be complete before the next one begins
pub record OrderStep : Type 0 where
  pub event : LineEvent
  pub count : ℕ

pub data Region : Type 0 where
  -- from one of these events to one of those
  between : List LineEvent → List LineEvent → Region
  -- a function's frames, from their beginning to their end
  whole : List ℕ → Option Expression → Region

pub data Clause : Type 0 where
  order : List OrderStep → Clause
  exclusive : List Region → Clause
  unilateral : Region → Clause

abbrev pub Filter : Type 0
Filter = List Clause
