-- The flat code of a program.
use Rattle.std.specs.Prelude.{ℕ, List, length, Option, Some, None}
use Rattle.loom_tree.specs.Tree.{Source}
use Rattle.loom_flow.specs.declared.code.Instr.{Instr}
use Rattle.loom_flow.specs.declared.code.Site.{Site}
use Rattle.loom_flow.specs.declared.code.Entrance.{Entrance}

pub record Flow : Type 0 where
  pub program : Source
  pub code : List Instr
  -- the places, from place 0 on
  pub sites : List Site
  -- the functions
  pub entrances : List Entrance
  -- and for each the set of those that its body calls: bit `n` for the function of number `n`
  pub calls : List ℕ

-- where a frame goes on that waits at this place, if its statement has a call
abbrev pub resume : Option Site → Option ℕ
resume None = None
resume (Some s) = s.resume

-- the number of its next instruction; if it goes on nowhere, the one behind the code, where none stands
abbrev pub return_point : Flow → Option ℕ → ℕ
return_point c None = length c.code
return_point c (Some at) = at
