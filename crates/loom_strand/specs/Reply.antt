-- What an answer does to a thread.
use Rattle.std.specs.Prelude.{ℕ, Bool, true, false, ◌≡◌, ◌⊎◌, ◌<◌, pos, List, [], ◌∷◌, ◌++◌, length, ℤ, Option, Some, None}
use Rattle.loom_tree.specs.Tree.{Source}
use Rattle.loom_lang.specs.Trace.{Act, begin, Cause, trap, made}
use Rattle.loom_flow.specs.Flow.{Flow}
use Rattle.loom_flow.specs.Position.{over}
use Rattle.loom_flow.specs.Progress.{Progress, asks, progress}
use Rattle.loom_trace.specs.declared.entry.Entry.{Entry}
use Rattle.loom_trace.specs.declared.entry.Entry.TheVariants as e
use Rattle.loom_trace.specs.declared.request.Request.{Request}
use Rattle.loom_trace.specs.declared.entry.What.{What}
use Rattle.loom_law.specs.Walk.{Version, Operation, blocked, Walk, unborn, after_item, after_operation, crossing, Owes}
use Rattle.loom_plan.specs.Compiled.{Compiled}
use Rattle.loom_version.specs.Plans.{plans_in}
use Rattle.loom_walk.specs.Owed.{queue}
use Rattle.loom_walk.specs.FilterWalk.{FilterWalk, first_walk, IsAt, HasFilters, HasLocalsAt, HasNewBehind, IsInstructionAct, NotesOneMore}
use Rattle.loom_strand.specs.declared.execution.Execution.{Execution}
use Rattle.loom_strand.specs.declared.stage.Stage.{Stage}
use Rattle.loom_strand.specs.declared.stage.Stage.TheVariants as stage
use Rattle.loom_strand.specs.declared.reply.Reply.{Reply}
use Rattle.loom_strand.specs.declared.reply.Reply.TheVariants as a
use Rattle.loom_strand.specs.Machine.{Machine, position, with_position, HasPlaceHere, TakesAnswer}

-- An entry tells what it answers: a read gives the value, a spawn the number of the new thread. What only grants a request gives 0, which is of
-- no account. Control entries answer no request of a thread.
abbrev pub reply_of : Entry → Option Reply
reply_of (e.Begin t l) = Some a.Begins
reply_of (e.End t l) = Some a.Ends
reply_of (e.Trap t l n) = Some (a.Traps l)
reply_of (e.Read t l w v) = Some (a.Gives v)
reply_of (e.Spawn t l c f vs) = Some (a.Gives (pos c))
reply_of (e.Blocked t l x) = Some a.Waits
reply_of (e.Write t l w v) = Some (a.Gives (pos 0))
reply_of (e.Lock t l m) = Some (a.Gives (pos 0))
reply_of (e.Unlock t l m) = Some (a.Gives (pos 0))
reply_of (e.Down t l s) = Some (a.Gives (pos 0))
reply_of (e.Up t l s) = Some (a.Gives (pos 0))
reply_of (e.Join t l c) = Some (a.Gives (pos 0))
reply_of (e.Print t l v) = Some (a.Gives (pos 0))
reply_of (e.Tick t l k) = Some a.Makes
reply_of (e.At t l k ns) = Some a.Makes
reply_of (e.Past t l k ns) = Some a.Makes
reply_of (e.Back t l) = Some a.Makes
reply_of (e.Enter t l k c) = Some a.Makes
reply_of (e.Leave t l k c) = Some a.Makes
reply_of (e.Post t l k n) = Some a.Makes
reply_of (e.Wait t l k n) = Some a.Makes
reply_of (e.Cross t l y v n) = Some a.Crosses
reply_of _ = None

-- The request that waits for its answer behind this one: the same where the thread waits, and else none.
abbrev pub want_behind : Option Reply → Option Request → Option Request
want_behind (Some a.Waits) want = want
want_behind _ want = None

-- With it the thread takes the newest version.
abbrev pub takes_version : Reply → Bool
takes_version a.Begins = true
takes_version a.Crosses = true
takes_version _ = false

-- the versions behind it: with this one, where it is taken
abbrev pub versions_behind : Bool → Version → List Version → List Version
versions_behind true v vs = vs ++ v ∷ []
versions_behind false v vs = vs

-- how far a thread is behind an answer
abbrev pub stage_behind : Reply → Stage → Stage
stage_behind a.Begins x = stage.Enters
stage_behind a.Ends x = stage.Over
stage_behind _ x = x

-- It asks at this position.
abbrev pub IsAsking : Progress → Type 0
IsAsking (asks line q behind) = Unit {0}
IsAsking _ = ⊥

-- The machine can take the answer.
abbrev pub CanFollow : Flow → Machine → Reply → Type 0
CanFollow c m (a.Gives v) = IsAsking (progress c (position m)) × HasPlaceHere c m
CanFollow c m _ = Unit {0}

-- and so can the walk, where version `v` is the newest one
abbrev pub CanWalkBy : Source → List (Option Compiled) → Version → FilterWalk → Reply → Type 0
CanWalkBy p cs v w a.Begins = w ≡ first_walk w.room
CanWalkBy p cs v w a.Makes = (queue w.owed ≡ [] → ⊥) × ((length w.events < w.room) × ((length w.regions < w.room) × HasFilters p cs w.version))
CanWalkBy p cs v w a.Crosses = ((z : Walk) × IsAt p (plans_in cs) w z) × (HasFilters p cs v × HasNewBehind w.version.active v.active)
CanWalkBy p cs v w (a.Traps l) = HasFilters p cs w.version
CanWalkBy p cs v w _ = Unit {0}

-- The machine behind an answer.
abbrev pub Follows : Flow → Machine → Machine → Reply → Type 0
Follows c old new (a.Gives v) = TakesAnswer old new v (progress c (position old))
Follows c old new (a.Traps l) = new ≡ with_position old over
Follows c old new _ = new ≡ old

-- The walk behind an answer, in a thread with these locals.
abbrev pub WalksBy : Source → List (Option Compiled) → Version → List ℤ → FilterWalk → FilterWalk → Reply → Type 0
WalksBy p cs v vs old new a.Begins = (l : ℕ) → IsAt p (plans_in cs) new (after_item p (plans_in cs) (unborn (v ∷ [])) (made l begin))
WalksBy p cs v vs old new a.Makes = (z : Walk) (l : ℕ) (o : Operation) → Owes z.owed l o → IsAt p (plans_in cs) old z → IsAt p (plans_in cs) new (after_operation p (plans_in cs) z o)
WalksBy p cs v vs old new a.Crosses = (z : Walk) → (z.owed ≡ []) ⊎ HasLocalsAt p old.spot vs z.spot → IsAt p (plans_in cs) old z → IsAt p (plans_in cs) new (crossing p (plans_in cs) z (v ∷ []))
WalksBy p cs v vs old new a.Waits = (z : Walk) (x : What) → IsAt p (plans_in cs) old z → IsAt p (plans_in cs) new (after_operation p (plans_in cs) z (blocked x))
WalksBy p cs v vs old new (a.Gives u) = (z : Walk) (l : ℕ) (x : Act) → IsInstructionAct x → IsAt p (plans_in cs) old z → IsAt p (plans_in cs) new (after_item p (plans_in cs) z (made l x))
WalksBy p cs v vs old new (a.Traps l) = (z : Walk) (x : Cause) → IsAt p (plans_in cs) old z → IsAt p (plans_in cs) new (after_item p (plans_in cs) z (made l (trap x)))
WalksBy p cs v vs old new a.Ends = Unit {0}

-- What an answer does to a thread.
pub record Takes (c : Flow) (cs : List (Option Compiled)) (v : Version) (old new : Execution) (x : Reply) : Type 0 where
  pub machine : Follows c old.machine new.machine x
  pub stage : new.stage ≡ stage_behind x old.stage
  pub place : new.place ≡ old.place
  pub walk : WalksBy c.program cs v old.machine.state.locals old.walk new.walk x
  pub notes : NotesOneMore old.walk new.walk
