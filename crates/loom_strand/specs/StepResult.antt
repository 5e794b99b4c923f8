-- What comes of a step, as the machine tells it.
use Rattle.std.specs.Prelude.{ℕ, ◌≡◌, Option, Some, None, slice_get}
use Rattle.loom_lang.specs.Trace.{Item, made, begins, done, edge, enter, out, reason}
use Rattle.loom_flow.specs.declared.code.Instr.{Instr}
use Rattle.loom_flow.specs.declared.code.Entrance.{Entrance}
use Rattle.loom_flow.specs.Flow.{Flow}
use Rattle.loom_flow.specs.Position.{Position, before}
use Rattle.loom_flow.specs.Progress.{Progress, goes, asks, traps, ends, nothing, progress}
use Rattle.loom_trace.specs.declared.request.Request.TheVariants as r
use Rattle.loom_strand.specs.declared.step_result.Mark.{Mark}
use Rattle.loom_strand.specs.declared.step_result.Mark.TheVariants as m
use Rattle.loom_strand.specs.declared.step_result.StepResult.{StepResult}
use Rattle.loom_strand.specs.declared.step_result.StepResult.TheVariants as t
use Rattle.loom_strand.specs.Machine.{Machine, position, with_position}
use Rattle.loom_strand.specs.PositionRequest.{question_request}

abbrev pub place_of_entrance : Option Entrance → ℕ
place_of_entrance None = 0
place_of_entrance (Some e) = e.place

abbrev pub place_of_instr : Option Instr → ℕ
place_of_instr None = 0
place_of_instr (Some i) = i.place

-- the place of the instruction at a position
abbrev pub place_here : Flow → Position → ℕ
place_here c (before z) = place_of_instr (slice_get c.code z.at)
place_here c _ = 0

-- the mark of an item: with the numbers of its places, and of its function
abbrev pub mark_of : Flow → ℕ → Option Item → Option Mark
mark_of c place None = None
mark_of c place (Some (made l a)) = None
mark_of c place (Some (begins l env)) = Some (m.Begins place)
mark_of c place (Some (done l)) = Some (m.Done l place)
mark_of c place (Some (edge l)) = Some (m.Edge place)
mark_of c place (Some (enter f env)) = Some (m.Enter f (place_of_entrance (slice_get c.entrances f)))
mark_of c place (Some (out f)) = Some (m.Out f)

-- From one machine to the next by an instruction of this place: it goes on, or it is as it was.
abbrev pub StepsTo : Flow → ℕ → Machine → Machine → StepResult → Progress → Type 0
StepsTo c place old new result (goes mark z) = (result ≡ t.Goes (mark_of c place mark)) × (new ≡ with_position old z)
StepsTo c place old new result (asks line q behind) = (result ≡ t.Asks (question_request line q)) × (new ≡ old)
StepsTo c place old new result (traps line cause) = (result ≡ t.Asks (r.Trap line (reason cause))) × (new ≡ old)
StepsTo c place old new result ends = (result ≡ t.Ends) × (new ≡ old)
StepsTo c place old new result nothing = ⊥

-- The machine did one step.
abbrev pub Advances : Flow → Machine → Machine → StepResult → Type 0
Advances c old new result = StepsTo c (place_here c (position old)) old new result (progress c (position old))

-- the entry or back-edge place that a mark passes, if any
abbrev pub place_passed : Option Mark → Option ℕ
place_passed (Some (m.Edge place)) = Some place
place_passed (Some (m.Enter f place)) = Some place
place_passed _ = None

-- and the one that comes with the next step of an instruction of this place
abbrev pub place_coming : Flow → ℕ → Progress → Option ℕ
place_coming c place (goes mark z) = place_passed (mark_of c place mark)
place_coming c place _ = None
