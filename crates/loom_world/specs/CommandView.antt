-- The commands that commands of the program stand for.
use Rattle.std.specs.Prelude.{ℕ, suc, List, [], ◌∷◌, map, Option, Some, None}
use Rattle.loom_command.specs.Script.{at}
use Rattle.loom_law.specs.Filter.{Plan}
use Rattle.loom_law.specs.Walk.{Plans}
use Rattle.loom_law.specs.Control as law
use Rattle.loom_world.specs.declared.command.Judged.{Judged}
use Rattle.loom_world.specs.declared.command.Judged.TheVariants as j
use Rattle.loom_world.specs.declared.command.Action.{Action}
use Rattle.loom_world.specs.declared.command.Action.TheVariants as a
use Rattle.loom_world.specs.declared.command.Command.{Command}

-- a filter that isn't refused is the one of the command's number
abbrev pub judgement_of : Plan → Judged → law.Judgement
judgement_of f (j.Refused r) = law.refused r.number r.clause
judgement_of f (j.Flags set) = law.means f

abbrev pub law_action : Plan → Action → law.Action
law_action f (a.Install x) = law.install (judgement_of f x)
law_action f a.Remove = law.remove

abbrev pub law_command : Plan → Command → law.Command
law_command f c = record { trigger = at c.at; name = c.name; action = law_action f c.action }

-- the first of these has this number
abbrev pub law_commands_from : Plans → ℕ → List Command → List law.Command
law_commands_from ps n [] = []
law_commands_from ps n (c ∷ cs) = law_command (ps n) c ∷ law_commands_from ps (suc n) cs

abbrev pub law_commands : Plans → List Command → List law.Command
law_commands ps cs = law_commands_from ps 1 cs

-- the places that are flagged while a filter is to be put in
abbrev pub flags_in : Action → Option (List ℕ)
flags_in (a.Install (j.Flags set)) = Some set
flags_in _ = None

abbrev pub flag_sets : List Command → List (Option (List ℕ))
flag_sets cs = map (λ (c : Command). flags_in c.action) cs
