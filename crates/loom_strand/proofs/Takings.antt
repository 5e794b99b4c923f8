-- What an answer does to a thread, one kind at a time.
use Rattle.std.proofs.Common.{ℕ, ◌≡◌, List, [], ◌∷◌, ℤ, Option, refl, arith}
use Rattle.loom_tree.specs.Tree.{Source}
use Rattle.loom_lang.specs.Trace.{Act, begin, Cause, trap, made}
use Rattle.loom_trace.specs.declared.entry.What.{What}
use Rattle.loom_flow.specs.Flow.{Flow}
use Rattle.loom_flow.specs.Position.{over}
use Rattle.loom_flow.specs.Progress.{progress}
use Rattle.loom_law.specs.Walk.{Version, Plans, blocked, Walk, unborn, after_item, after_operation}
use Rattle.loom_plan.specs.Compiled.{Compiled}
use Rattle.loom_version.specs.Plans.{plans_in}
use Rattle.loom_walk.specs.FilterWalk.{FilterWalk, IsAt, IsInstructionAct, KeepsRoom, NotesOneMore}
use Rattle.loom_strand.specs.declared.execution.Execution.{Execution}
use Rattle.loom_strand.specs.declared.stage.Stage.TheVariants as stage
use Rattle.loom_strand.specs.declared.reply.Reply.TheVariants as a
use Rattle.loom_strand.specs.Machine.{Machine, position, with_position, TakesAnswer}
use Rattle.loom_strand.specs.Reply.{Takes}

notes_more : (old new : FilterWalk) → KeepsRoom old new → NotesOneMore old new
notes_more old new h = record { room = h.room; events = omega (arith, h.events); regions = omega (arith, h.regions) }

pub takes_begin : (c : Flow) (cs : List (Option Compiled)) (v : Version) (old : Execution) (w : FilterWalk)
    → ((p : Source) (plans : Plans) (l : ℕ) → IsAt p plans w (after_item p plans (unborn (v ∷ [])) (made l begin))) → KeepsRoom old.walk w
    → Takes c cs v old (record old { stage = stage.Enters; walk = w }) a.Begins
takes_begin c cs v old w at room = record { machine = refl; stage = refl; place = refl; walk = λ l. at c.program (plans_in cs) l; notes = notes_more old.walk w room }

pub takes_wait : (c : Flow) (cs : List (Option Compiled)) (v : Version) (old : Execution) (w : FilterWalk)
    → ((p : Source) (plans : Plans) (z : Walk) (x : What) → IsAt p plans old.walk z → IsAt p plans w (after_operation p plans z (blocked x))) → KeepsRoom old.walk w
    → Takes c cs v old (record old { walk = w }) a.Waits
takes_wait c cs v old w at room = record { machine = refl; stage = refl; place = refl; walk = λ z x h. at c.program (plans_in cs) z x h; notes = notes_more old.walk w room }

pub takes_value : (c : Flow) (cs : List (Option Compiled)) (v : Version) (old : Execution) (m : Machine) (w : FilterWalk) (u : ℤ) → TakesAnswer old.machine m u (progress c (position old.machine))
    → ((p : Source) (plans : Plans) (z : Walk) (l : ℕ) (x : Act) → IsInstructionAct x → IsAt p plans old.walk z → IsAt p plans w (after_item p plans z (made l x))) → KeepsRoom old.walk w
    → Takes c cs v old (record old { machine = m; walk = w }) (a.Gives u)
takes_value c cs v old m w u h at room = record { machine = h; stage = refl; place = refl; walk = λ z l x is g. at c.program (plans_in cs) z l x is g; notes = notes_more old.walk w room }

pub takes_trap : (c : Flow) (cs : List (Option Compiled)) (v : Version) (old : Execution) (m : Machine) (w : FilterWalk) (l : ℕ) → m ≡ with_position old.machine over
    → ((p : Source) (z : Walk) (x : Cause) → IsAt p (plans_in cs) old.walk z → IsAt p (plans_in cs) w (after_item p (plans_in cs) z (made l (trap x)))) → KeepsRoom old.walk w
    → Takes c cs v old (record old { machine = m; walk = w }) (a.Traps l)
takes_trap c cs v old m w l h at room = record { machine = h; stage = refl; place = refl; walk = λ z x g. at c.program z x g; notes = notes_more old.walk w room }
