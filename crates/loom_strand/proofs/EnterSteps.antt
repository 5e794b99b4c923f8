-- The first frame of a thread begins, and the run goes on from there.
use Rattle.std.proofs.Common.{ℕ, ◌≡◌, ◌<◌, ◌⊎◌, true, false, Bool, List, [], ◌++◌, Option, Some, length, slice_get, get_or, refl, inl, inr, sym, ap, subst, ◌∙◌, append_assoc, arith}
use Rattle.std.specs.Prelude.{option_map}
use Rattle.std.proofs.lemmas.Option.{slice_get-get_or}
use Rattle.loom_lang.specs.Trace.{enter}
use Rattle.loom_flow.specs.declared.code.Entrance.{Entrance}
use Rattle.loom_flow.specs.Flow.{Flow}
use Rattle.loom_flow.specs.State.{State, named, at_start, locals_now}
use Rattle.loom_flow.specs.Position.{before}
use Rattle.loom_flow.specs.Progress.{goes, progress}
use Rattle.loom_flow.specs.Code.{IsLowered}
use Rattle.loom_flow.specs.Laws.{HasInstructionPlaces}
use Rattle.loom_flow.proofs.FlowLaws.{instructions_of}
use Rattle.loom_trace.specs.Limits.{place_limit}
use Rattle.loom_trace.specs.Places.{has_place}
use Rattle.loom_law.specs.ThreadPart.{walk_of}
use Rattle.loom_plan.specs.Compiled.{Compiled}
use Rattle.loom_plan.specs.PlaceEvents.{names_at}
use Rattle.loom_version.specs.Plans.{plans_in}
use Rattle.loom_walk.specs.Owed.{queue}
use Rattle.loom_walk.specs.FilterWalk.{FilterWalk}
use Rattle.loom_strand.specs.declared.execution.Execution.{Execution}
use Rattle.loom_strand.specs.declared.stage.Birth.{Birth}
use Rattle.loom_strand.specs.declared.stage.Stage.{Stage}
use Rattle.loom_strand.specs.declared.stage.Stage.TheVariants as stage
use Rattle.loom_strand.specs.declared.machine.Phase.TheVariants as phase
use Rattle.loom_strand.specs.declared.step_result.Mark.TheVariants as m
use Rattle.loom_strand.specs.declared.step_result.Stop.{Stop}
use Rattle.loom_strand.specs.declared.step_result.Stop.TheVariants as stop
use Rattle.loom_strand.specs.Machine.{Machine, position, with_position, blank}
use Rattle.loom_strand.specs.Way.{first_frame, next_step}
use Rattle.loom_strand.specs.InPart.{IsInPart, IsSomewhere, PassesUnflagged, HasGone, GoesOn, IsMarkOf, CanPass}
use Rattle.loom_strand.specs.StrandInvariant.{IsSoundPosition, IsInOwn, HasRoom}
use Rattle.loom_strand.specs.Halt.{PassesNext, PassesNextFrom, IsHalting, by_request, by_owed}
use Rattle.loom_strand.specs.PrivateRun.{MayRunFrom, MayRun, Stops, Runs, EntersFirst}
use Rattle.loom_strand.proofs.FlagRoom.{entry_room}
use Rattle.loom_strand.proofs.Moves.{with_position_at, with_position_room}
use Rattle.loom_strand.proofs.Owns.{keeps_functions}
use Rattle.loom_strand.proofs.PlaceLaws.{names_at_entry}
use Rattle.loom_strand.proofs.PartSteps.{PassesMark, passes_both, gone_nowhere, gone_past, can_pass}
use Rattle.loom_strand.proofs.RunSteps.{TakesMark, same_room, at_rest, somewhere_on}
use Rattle.loom_strand.proofs.Soundness.{sound_start}

-- One run behind another
pub gone_on : (c : Flow) (cs : List (Option Compiled)) (b : Birth) (flags : List ℕ) (a d e : Execution) → GoesOn c cs b flags a d → GoesOn c cs b flags d e → GoesOn c cs b flags a e
gone_on c cs b flags a d e f g x look steps h =
    let one : HasGone c cs b flags d x look steps = f x look steps h in
    let two : HasGone c cs b flags e x one.look (steps ++ one.marks) = g x one.look (steps ++ one.marks) one.there in
    let same : (steps ++ one.marks) ++ two.marks ≡ steps ++ (one.marks ++ two.marks) = append_assoc steps one.marks two.marks in
    record {
      look = two.look;
      looks = λ e. one.looks (two.looks e);
      marks = one.marks ++ two.marks;
      there = subst (IsInPart c cs b x e two.look) same two.there;
      passes = subst (λ ss. PassesUnflagged c.program flags (walk_of c.program (plans_in cs) x steps) (walk_of c.program (plans_in cs) x ss)) same
          (passes_both c.program flags (walk_of c.program (plans_in cs) x steps) (walk_of c.program (plans_in cs) x (steps ++ one.marks)) (walk_of c.program (plans_in cs) x ((steps ++ one.marks) ++ two.marks)) one.passes two.passes);
    }

-- a thread before its first frame
abbrev IsEntering : Flow → Birth → Execution → Type 0
IsEntering c b e = (b.func < length c.entrances) × (HasRoom c e.machine × (((e.machine.state ≡ blank) × (e.machine.phase ≡ phase.Before)) × (queue e.walk.owed ≡ [])))

entering : (c : Flow) (b : Birth) (e : Execution) → e.stage ≡ stage.Enters → MayRun c b e → IsEntering c b e
entering c b e is h = subst (λ s. MayRunFrom c b s e.machine e.walk) is h

pub entering_function : (c : Flow) (b : Birth) (e : Execution) → e.stage ≡ stage.Enters → MayRun c b e → b.func < length c.entrances
entering_function c b e is h = (entering c b e is h).0

passes_entry : (c : Flow) (b : Birth) (e : Execution) (en : Entrance) → e.stage ≡ stage.Enters → slice_get c.entrances b.func ≡ Some en → PassesNext c b e en.place
passes_entry c b e en is there = subst (λ s. PassesNextFrom c b s e.machine en.place) (sym is) (ap (option_map (λ (x : Entrance). x.place)) there)

-- it stays before its first frame
pub stays_before : (c : Flow) (cs : List (Option Compiled)) (b : Birth) (flags : List ℕ) (newer : Bool) (e : Execution) (x : Stop) → MayRun c b e → Stops c b flags newer e x → Runs c cs b flags newer e e x
stays_before c cs b flags newer e x may s = record {
  gone = gone_nowhere c cs b flags e;
  may = may;
  notes = record { room = refl; events = omega arith; regions = omega arith };
  stops = s;
  still = λ g. refl;
  waits = λ k g. refl;
  first = λ is. refl;
}

pub flagged_entry : (c : Flow) (cs : List (Option Compiled)) (b : Birth) (flags : List ℕ) (newer : Bool) (e : Execution) (en : Entrance) → e.stage ≡ stage.Enters → MayRun c b e → slice_get c.entrances b.func ≡ Some en
    → has_place flags en.place ≡ true → Runs c cs b flags newer e e (stop.Flagged en.place)
flagged_entry c cs b flags newer e en is may there flag = stays_before c cs b flags newer e (stop.Flagged en.place) may ((entering c b e is may).1.1.1, (passes_entry c b e en is there, flag))

pub crossed_entry : (c : Flow) (cs : List (Option Compiled)) (b : Birth) (flags : List ℕ) (newer : Bool) (e : Execution) (en : Entrance) → e.stage ≡ stage.Enters → MayRun c b e → slice_get c.entrances b.func ≡ Some en
    → newer ≡ true → has_place flags en.place ≡ false → Runs c cs b flags newer e e (stop.Crosses en.place)
crossed_entry c cs b flags newer e en is may there new free =
    stays_before c cs b flags newer e (stop.Crosses en.place) may ((entering c b e is may).1.1.1, (passes_entry c b e en is there, (new, free)))

-- The mark of the first frame.
entry_mark : (c : Flow) (b : Birth) (en : Entrance) (n : Machine) → IsLowered c → slice_get c.entrances b.func ≡ Some en → n.state ≡ at_start b.func en b.args [] []
    → IsMarkOf c n.state (m.Enter b.func en.place) (enter b.func (locals_now c (at_start b.func en b.args [] [])))
entry_mark c b en n l there is =
    let places : HasInstructionPlaces c c.program = instructions_of c c.program l refl in (
      refl,
      (
        places.entrances b.func en there,
        ap (λ xs. named xs (at_start b.func en b.args [] []).locals) (sym (names_at_entry c l b.func en there)) ∙ ap (λ (z : State). named (names_at c.program en.place) z.locals) (sym is),
      ),
    )

state_at : (a : Machine) (z : State) → Machine.state (with_position a (before z)) ≡ z
state_at a z = refl

abbrev pub entered : Execution → Machine → FilterWalk → ℕ → Execution
entered e n w k = record { stage = stage.Runs; machine = n; walk = w; place = k }

first_step : (c : Flow) (b : Birth) (e : Execution) (en : Entrance) → e.stage ≡ stage.Enters → slice_get c.entrances b.func ≡ Some en
    → next_step c b e.stage e.machine ≡ goes (Some (enter b.func (locals_now c (at_start b.func en b.args [] [])))) (before (at_start b.func en b.args [] []))
first_step c b e en is there = ap (λ (s : Stage). next_step c b s e.machine) is ∙ ap (first_frame c b) there

-- What the walk wants there.
pub entry_passes : (c : Flow) (cs : List (Option Compiled)) (b : Birth) (e : Execution) (en : Entrance) (n : Machine) → IsLowered c → e.stage ≡ stage.Enters → MayRun c b e → slice_get c.entrances b.func ≡ Some en
    → n ≡ with_position e.machine (before (at_start b.func en b.args [] [])) → IsSomewhere c cs b e → CanPass c cs e.walk n.state (m.Enter b.func en.place)
entry_passes c cs b e en n l is may there new h =
    can_pass c cs b h.own e n.state (m.Enter b.func en.place) (enter b.func (locals_now c (at_start b.func en b.args [] []))) (before (at_start b.func en b.args [] [])) h.look h.steps l
    (first_step c b e en is there) (entry_mark c b en n l there (ap (λ (z : Machine). z.state) new)) (at_rest c cs e _ (entering c b e is may).1.1.1 h.there.there.at) h.there

pub enters_first : (c : Flow) (cs : List (Option Compiled)) (b : Birth) (flags : List ℕ) (newer : Bool) (e : Execution) (en : Entrance) (n : Machine) (w : FilterWalk) (k : ℕ) → IsLowered c → e.stage ≡ stage.Enters → MayRun c b e
    → slice_get c.entrances b.func ≡ Some en → n ≡ with_position e.machine (before (at_start b.func en b.args [] [])) → TakesMark c cs n e.walk w k (m.Enter b.func en.place)
    → has_place flags en.place ≡ false → newer ≡ false → EntersFirst c cs b flags newer e (entered e n w k)
enters_first c cs b flags newer e en n w k l is may there new t free old =
    let z : State = at_start b.func en b.args [] [] in
    let mark : IsMarkOf c n.state (m.Enter b.func en.place) (enter b.func (locals_now c z)) = entry_mark c b en n l there (ap (λ (q : Machine). q.state) new) in
    let at : position n ≡ before z = ap position new ∙ with_position_at e.machine (before z) in
    let passes : PassesMark c cs b e (entered e n w k) (m.Enter b.func en.place) (enter b.func (locals_now c z)) (before z) = record {
      step = first_step c b e en is there;
      next = ap (progress c) at;
      is = mark;
      place = t.place (enter b.func (locals_now c z)) mark;
      walks = λ u stands g. t.passes u (enter b.func (locals_now c z)) mark stands g;
    } in
    record {
      gone = gone_past c cs b flags e e (entered e n w k) (m.Enter b.func en.place) (enter b.func (locals_now c z)) (before z) l passes (λ u g. at_rest c cs e u (entering c b e is may).1.1.1 g)
          (λ j g. subst (λ i. has_place flags i ≡ false) (same_place en.place j g) free) (gone_nowhere c cs b flags e);
      running = record {
        sound = subst (IsSoundPosition c) (sym at) (sound_start c l b.func en there b.args);
        own = subst (IsInOwn c) (sym at) ((keeps_functions c l).starts b.func en there, tt);
        room = subst (HasRoom c) (sym new) (with_position_room c e.machine (before z) (entering c b e is may).1.0);
      };
      stage = refl;
      notes = t.room;
      none_newer = old;
      free = λ j g. not_free j (passed_first j g.passes) g.stops;
    }
  where
    same_place : (i j : ℕ) → ◌≡◌ {A = Option ℕ} (Some i) (Some j) → i ≡ j
    same_place i j g = cc

    passed_first : (j : ℕ) → PassesNext c b e j → en.place ≡ j
    passed_first j g =
        let first : option_map (λ (x : Entrance). x.place) (slice_get c.entrances b.func) ≡ Some j = subst (λ s. PassesNextFrom c b s e.machine j) is g in
        same_place en.place j (sym (ap (option_map (λ (x : Entrance). x.place)) there) ∙ first)

    not_free : (j : ℕ) → en.place ≡ j → (has_place flags j ≡ true) ⊎ (newer ≡ true) → ⊥
    not_free j same (inl flag) = let no : true ≡ false = sym flag ∙ (ap (has_place flags) (sym same) ∙ free) in cc
    not_free j same (inr new) = let no : true ≡ false = sym new ∙ old in cc

-- The same of the entrance that stands at the function's number.

there_at : (c : Flow) (b : Birth) (e : Execution) (es : List Entrance) (d : Entrance) → e.stage ≡ stage.Enters → MayRun c b e → es ≡ c.entrances → slice_get c.entrances b.func ≡ Some (get_or es b.func d)
there_at c b e es d is may same = ap (λ xs. slice_get xs b.func) (sym same) ∙ slice_get-get_or es b.func d (subst (λ xs. b.func < length xs) (sym same) (entering_function c b e is may))

pub room_at : (c : Flow) (b : Birth) (e : Execution) (es : List Entrance) (d : Entrance) → IsLowered c → e.stage ≡ stage.Enters → MayRun c b e → es ≡ c.entrances → (get_or es b.func d).place < place_limit
room_at c b e es d l is may same = entry_room c b.func (get_or es b.func d) l (there_at c b e es d is may same)

pub flagged_at : (c : Flow) (cs : List (Option Compiled)) (b : Birth) (flags : List ℕ) (newer : Bool) (e : Execution) (es : List Entrance) (d : Entrance) → e.stage ≡ stage.Enters → MayRun c b e → es ≡ c.entrances
    → has_place flags (get_or es b.func d).place ≡ true → Runs c cs b flags newer e e (stop.Flagged (get_or es b.func d).place)
flagged_at c cs b flags newer e es d is may same flag = flagged_entry c cs b flags newer e (get_or es b.func d) is may (there_at c b e es d is may same) flag

pub crossed_at : (c : Flow) (cs : List (Option Compiled)) (b : Birth) (flags : List ℕ) (newer : Bool) (e : Execution) (es : List Entrance) (d : Entrance) → e.stage ≡ stage.Enters → MayRun c b e → es ≡ c.entrances
    → newer ≡ true → has_place flags (get_or es b.func d).place ≡ false → Runs c cs b flags newer e e (stop.Crosses (get_or es b.func d).place)
crossed_at c cs b flags newer e es d is may same new free = crossed_entry c cs b flags newer e (get_or es b.func d) is may (there_at c b e es d is may same) new free

pub passes_at : (c : Flow) (cs : List (Option Compiled)) (b : Birth) (e : Execution) (es : List Entrance) (d : Entrance) (n : Machine) → IsLowered c → e.stage ≡ stage.Enters → MayRun c b e → es ≡ c.entrances
    → n ≡ with_position e.machine (before (at_start b.func (get_or es b.func d) b.args [] [])) → IsSomewhere c cs b e → CanPass c cs e.walk n.state (m.Enter b.func (get_or es b.func d).place)
passes_at c cs b e es d n l is may same new h = entry_passes c cs b e (get_or es b.func d) n l is may (there_at c b e es d is may same) new h

pub enters_at : (c : Flow) (cs : List (Option Compiled)) (b : Birth) (flags : List ℕ) (newer : Bool) (e : Execution) (es : List Entrance) (d : Entrance) (n : Machine) (w : FilterWalk) (k : ℕ) → IsLowered c
    → e.stage ≡ stage.Enters → MayRun c b e → es ≡ c.entrances → n ≡ with_position e.machine (before (at_start b.func (get_or es b.func d) b.args [] []))
    → TakesMark c cs n e.walk w k (m.Enter b.func (get_or es b.func d).place) → has_place flags (get_or es b.func d).place ≡ false → newer ≡ false → EntersFirst c cs b flags newer e (entered e n w k)
enters_at c cs b flags newer e es d n w k l is may same new t free old = enters_first c cs b flags newer e (get_or es b.func d) n w k l is may (there_at c b e es d is may same) new t free old

-- the thread is somewhere in its part there
pub somewhere_entered : (c : Flow) (cs : List (Option Compiled)) (b : Birth) (flags : List ℕ) (newer : Bool) (a d : Execution) → EntersFirst c cs b flags newer a d → IsSomewhere c cs b a → IsSomewhere c cs b d
somewhere_entered c cs b flags newer a d f h = somewhere_on c cs b flags a d f.gone h

-- and the run behind it
pub runs_behind : (c : Flow) (cs : List (Option Compiled)) (b : Birth) (flags : List ℕ) (newer : Bool) (a d e : Execution) (x : Stop) → a.stage ≡ stage.Enters → MayRun c b a → EntersFirst c cs b flags newer a d
    → Runs c cs b flags newer d e x → Runs c cs b flags newer a e x
runs_behind c cs b flags newer a d e x is may f g = record {
  gone = gone_on c cs b flags a d e f.gone g.gone;
  may = g.may;
  notes = same_room a.walk d.walk e.walk f.notes g.notes;
  stops = g.stops;
  still = λ h. absurd (no_halt h);
  waits = λ k h. absurd (f.free k h);
  first = λ new. absurd (let no : true ≡ false = sym new ∙ f.none_newer in let y : ⊥ = cc in y);
}
  where
    no_halt : IsHalting c a → ⊥
    no_halt (by_request runs h) = let no : stage.Enters ≡ stage.Runs = sym is ∙ runs in cc
    no_halt (by_owed h) = h (entering c b a is may).1.1.1
