-- Under a script each filter that is installed is one that no path refuses.
use Rattle.std.proofs.Common.{ℕ, zero, suc, ◌≡◌, List, [], ◌∷◌, ◌++◌, slice_get, Some, refl, sym, subst}
use Rattle.loom_tree.specs.Tree.{Source}
use Rattle.loom_trace.specs.declared.entry.Entry.{Entry}
use Rattle.loom_event.specs.Replay.{ThreadState}
use Rattle.loom_command.specs.Filter.{Filter}
use Rattle.loom_command.specs.Script.{ScriptAction, ScriptCommand}
use Rattle.loom_command.specs.Script as script
use Rattle.loom_law.specs.Filter.{Plan, plan_of}
use Rattle.loom_law.specs.Walk.{PartStep}
use Rattle.loom_law.specs.ThreadPart.{walk_of, IsPart}
use Rattle.loom_law.specs.Control.{refused, means, Action, install, remove, Command, no_plan, plan_in, plans_of}
use Rattle.loom_law.specs.FilterRefusal.{IsPathFault}
use Rattle.loom_law.specs.Judgement.{HasNone, IsActionOf, IsCommandOf, AreCommandsOf, IsCommandList, file_name}
use Rattle.loom_law.specs.Lawful.{Setting, plans, own}
use Rattle.loom_law.specs.OneRegion.{IsInOneRegion}
use Rattle.loom_law.proofs.Strict.{IsStrict}
use Rattle.loom_law.proofs.SafeCrossings.{in_one_region}

-- the plan is that of a filter that no path refuses
record IsOfFilter (p : Source) (f : Plan) : Type 0 where
  filter : Filter
  plan : f ≡ plan_of p filter
  paths : HasNone (IsPathFault p (plan_of p filter))

-- where nothing is installed there is nothing to refuse
nothing_planned : (p : Source) → IsOfFilter p no_plan
nothing_planned p = record { filter = []; plan = refl; paths = (λ x h. h) }

action_planned : (p : Source) (file : List ℕ) (sa : ScriptAction) (c : Command) (a : Action) → IsActionOf p file sa a → IsOfFilter p (plan_in (Some (record c { action = a })))
action_planned p file (script.install text) c (install (refused n m)) h = nothing_planned p
action_planned p file (script.install text) c (install (means f)) h = record { filter = h.filter; plan = h.plan; paths = h.paths }
action_planned p file (script.install text) c remove h = absurd h
action_planned p file script.remove c (install j) h = absurd h
action_planned p file script.remove c remove h = nothing_planned p

all_planned : (p : Source) (file : List ℕ) (ss : List ScriptCommand) (cs : List Command) (n : ℕ) → AreCommandsOf p file ss cs → IsOfFilter p (plan_in (slice_get cs n))
all_planned p file ss [] n h = nothing_planned p
all_planned p file [] (c ∷ cs) n h = absurd (none_there h)
  where
    none_there : c ∷ cs ≡ [] → ⊥
    none_there e = cc
all_planned p file (s ∷ ss) (c ∷ cs) zero h = action_planned p file s.action c c.action (IsCommandOf.action h.0)
all_planned p file (s ∷ ss) (c ∷ cs) (suc n) h = all_planned p file ss cs n h.1

planned : (p : Source) (file : List ℕ) (ss : List ScriptCommand) (cs : List Command) (k : ℕ) → AreCommandsOf p file ss cs → IsOfFilter p (plans_of cs k)
planned p file ss cs zero h = nothing_planned p
planned p file ss cs (suc n) h = all_planned p file ss cs n h

-- So it is with every filter of a script.
pub under_script : (s : Setting) (front rest : List Entry) → IsStrict s (front ++ rest) → (word bytes : List ℕ) → IsCommandList s.program word bytes s.commands
    → (u : ℕ) (x : ThreadState) (h : IsPart s.program (plans s) (own s front u x)) (before behind : List PartStep) → h.steps ≡ before ++ behind
    → (k : ℕ) → IsInOneRegion k (walk_of s.program (plans s) (own s front u x) before)
under_script s front rest strict word bytes c u x h before behind split k =
    let f : IsOfFilter s.program (plans s k) = planned s.program (file_name word) c.script s.commands k c.are in
    let none : HasNone (IsPathFault s.program (plans s k)) = subst (λ q. HasNone (IsPathFault s.program q)) (sym f.plan) f.paths in
    in_one_region s front rest strict u x h k f.filter f.plan none before behind split
