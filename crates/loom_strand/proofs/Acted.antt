-- An answer to an act is taken: a grant, a trap, the end; and that the request is disabled.
use Rattle.std.proofs.Common.{ℕ, ◌≡◌, true, false, [], ◌∷◌, ◌++◌, ℤ, Option, Some, None, slice_get, append-nil, refl, sym, ap, subst, ◌∙◌}
use Rattle.loom_lang.specs.Places.{place_at}
use Rattle.loom_lang.specs.Trace.{Finished, Cause, trap, made, IsTrace}
use Rattle.loom_trace.specs.declared.entry.Entry.{Entry}
use Rattle.loom_trace.specs.declared.entry.Entry.TheVariants as e
use Rattle.loom_trace.specs.declared.request.Request.{Request}
use Rattle.loom_event.specs.TargetEvent.{entry_by}
use Rattle.loom_flow.specs.declared.code.Entrance.{Entrance}
use Rattle.loom_flow.specs.Flow.{Flow}
use Rattle.loom_flow.specs.FlatCode.{lowered}
use Rattle.loom_flow.specs.Code.{IsLowered}
use Rattle.loom_flow.specs.Position.{Position, over}
use Rattle.loom_flow.specs.Question.{Question}
use Rattle.loom_flow.specs.Progress.{Progress, goes, asks, traps, ends, nothing, progress}
use Rattle.loom_law.specs.Walk.{Version, Plans, Operation, blocked, PartStep, makes, items, Queue, Walk, unborn, request_place, after_operation, Owes}
use Rattle.loom_law.specs.Walk as walk
use Rattle.loom_law.specs.ThreadPart.{Own, walk_of, IsPart}
use Rattle.loom_strand.specs.declared.execution.Execution.{Execution}
use Rattle.loom_strand.specs.declared.stage.Birth.{Birth}
use Rattle.loom_strand.specs.declared.stage.Stage.{Stage}
use Rattle.loom_strand.specs.declared.stage.Stage.TheVariants as stage
use Rattle.loom_strand.specs.declared.machine.Phase.{Phase}
use Rattle.loom_strand.specs.declared.machine.Phase.TheVariants as phase
use Rattle.loom_strand.specs.declared.reply.Reply.TheVariants as a
use Rattle.loom_strand.specs.Machine.{Machine, position_in, position, with_position, HasPlaceHere, TakesAnswer}
use Rattle.loom_strand.specs.PositionRequest.{request_at}
use Rattle.loom_strand.specs.Reply.{reply_of, IsAsking, Takes}
use Rattle.loom_strand.specs.Way.{looks_nowhere, looks_for_grant, end_line, first_frame, next_step}
use Rattle.loom_strand.specs.Halt.{IsStopped}
use Rattle.loom_strand.specs.Strand.{Strand, plans, own_of, IsWholePart}
use Rattle.loom_strand.specs.StrandInvariant.{IsSoundPosition, IsInOwn, HasRoom, LivingInvariant, EndInvariant, IsSound, StrandInvariant}
use Rattle.loom_strand.proofs.ActSteps.{part_granted, acted_passed, part_trapped, whole_ended}
use Rattle.loom_strand.proofs.Answered.{nowhere_grant}
use Rattle.loom_strand.proofs.Grants.{IsPlain, plain, IsGrant}
use Rattle.loom_strand.proofs.LastEntries.{last_ends}
use Rattle.loom_strand.proofs.Lively.{asked_lives}
use Rattle.loom_strand.proofs.Moves.{with_position_at, with_position_room}
use Rattle.loom_strand.proofs.Owns.{Owns, owns}
use Rattle.loom_strand.proofs.RequestWays.{nothing_ahead}
use Rattle.loom_strand.proofs.Room.{room_at, locals_at}
use Rattle.loom_strand.proofs.RunSteps.{runs_next}
use Rattle.loom_strand.proofs.Soundness.{Keeps, keeps}
use Rattle.loom_strand.proofs.Steps.{walk_append}
use Rattle.loom_strand.proofs.Taken.{program_lowered, kept_with, own_behind, its_next, LivesBehind, living_fit, IsKeptWith, kept_as, IsStage, strand_kept, kept_on, IsTaken}
use Rattle.loom_strand.proofs.Ways.{ComesBefore}

-- Where it asks

none_some : (q : Request) → ◌≡◌ {A = Option Request} None (Some q) → ⊥
none_some q h = cc

-- Before its first frame it asks for no act.
first_asks : (c : Flow) (b : Birth) (line : ℕ) (o : Option Entrance) (q : Request) → request_at line (first_frame c b o) ≡ Some q → ⊥
first_asks c b line None q h = none_some q h
first_asks c b line (Some en) q h = none_some q h

pub asking_runs : (c : Flow) (b : Birth) (st y : Stage) (m : Machine) (line : ℕ) (q : Request) → y ≡ st → request_at line (next_step c b st m) ≡ Some q → (st ≡ stage.Waits → ⊥) → (st ≡ stage.Over → ⊥) → y ≡ stage.Runs
asking_runs c b stage.Waits y m line q at h waits ended = absurd (waits refl)
asking_runs c b stage.Enters y m line q at h waits ended = absurd (first_asks c b line (slice_get c.entrances b.func) q h)
asking_runs c b stage.Runs y m line q at h waits ended = at
asking_runs c b stage.Over y m line q at h waits ended = absurd (ended refl)

pub stopped_asking : (line : ℕ) (w : Progress) (q : Request) → request_at line w ≡ Some q → IsStopped w
stopped_asking line (goes mark y) q h = none_some q h
stopped_asking line (asks n u behind) q h = tt
stopped_asking line (traps n k) q h = tt
stopped_asking line ends q h = tt
stopped_asking line nothing q h = none_some q h

-- There it is before an instruction.
place_asks : (c : Flow) (m : Machine) (line : ℕ) (q : Question) (behind : ℤ → Position) → IsLowered c → HasRoom c m → IsSoundPosition c (position m) → progress c (position m) ≡ asks line q behind → HasPlaceHere c m
place_asks c m line q behind l room sound at = by_phase m.phase sound at
  where
    by_phase : (y : Phase) → IsSoundPosition c (position_in y m.state) → progress c (position_in y m.state) ≡ asks line q behind → HasPlaceHere c m
    by_phase phase.Before h g = λ i e. (room_at c m i l room h e, locals_at c m.state.at i l e)
    by_phase (phase.Leaves v) h g = cc
    by_phase phase.Over h g = cc

pub sound_runs : (s : Strand) → StrandInvariant s → s.execution.stage ≡ stage.Runs → IsSound (lowered s.program) stage.Runs s.execution.machine
sound_runs s h at = subst (λ y. IsSound (lowered s.program) y s.execution.machine) at h.sound

-- Grants

pub granted_taken : (s : Strand) (b : Birth) (x : Entry) (line : ℕ) (q : Question) (behind : ℤ → Position) → StrandInvariant s → s.birth ≡ Some b → s.execution.stage ≡ stage.Runs → (k : LivingInvariant s b)
    → (walk_of s.program (plans s) (own_of s b) k.steps).owed ≡ [] → progress (lowered s.program) (position s.execution.machine) ≡ asks line q behind
    → IsGrant (lowered s.program) b.func s.thread line q behind x → IsTaken s b x
granted_taken s b x line q behind h birth at k none asking g = record {
  reply = a.Gives g.value;
  is = g.answer;
  follow = (subst IsAsking (sym asking) tt, place_asks c s.execution.machine line q behind low h.room (sound_runs s h at).0 asking);
  walk = tt;
  room = λ e. (let no : false ≡ true = e in cc);
  keeps = λ e t. kept_as s b s.versions x y None e g.entry (p.versions s.newest s.versions) (p.asks s.want)
      (kept_on s b s.versions y None e stage.Runs h (living_fit s b e h k t.place t.notes) (its_stage e t) tt tt (on e t));
}
  where
    c : Flow
    c = lowered s.program

    low : IsLowered c
    low = program_lowered s.program h.lawful

    y : Entry
    y = entry_by s.thread line g.act

    p : IsPlain s.thread line g.act
    p = plain s.thread line g.act g.granted

    new : (e : Execution) → Takes c s.filters s.newest s.execution e (a.Gives g.value) → e.machine ≡ with_position s.execution.machine (behind g.value)
    new e t = subst (TakesAnswer s.execution.machine e.machine g.value) asking t.machine

    there : (e : Execution) → Takes c s.filters s.newest s.execution e (a.Gives g.value) → position e.machine ≡ behind g.value
    there e t = ap position (new e t) ∙ with_position_at s.execution.machine (behind g.value)

    its_stage : (e : Execution) → Takes c s.filters s.newest s.execution e (a.Gives g.value) → IsStage s b e stage.Runs
    its_stage e t =
        let sound : Keeps c (asks line q behind) = subst (Keeps c) asking (keeps c (position s.execution.machine) low (sound_runs s h at).0) in
        let own : Owns c (asks line q behind) = subst (Owns c) asking (owns c (position s.execution.machine) low (sound_runs s h at).0 (sound_runs s h at).1) in
        record {
          birth = birth;
          stage = t.stage ∙ at;
          room = subst (HasRoom c) (sym (new e t)) (with_position_room c s.execution.machine (behind g.value) h.room);
          blank = tt;
          sound = (subst (IsSoundPosition c) (sym (there e t)) (sound g.value), subst (IsInOwn c) (sym (there e t)) (own g.value));
        }

    on : (e : Execution) → Takes c s.filters s.newest s.execution e (a.Gives g.value) → LivesBehind s b s.versions y None e
    on e t =
        let next : its_next s b e ≡ progress c (behind g.value) = runs_next c b e (t.stage ∙ at) ∙ ap (progress c) (there e t) in
        let comes : ComesBefore c b.func (its_next s b s.execution) (made line g.act) (progress c (behind g.value)) =
        subst (λ w. ComesBefore c b.func w (made line g.act) (progress c (behind g.value))) (sym (runs_next c b s.execution at ∙ asking)) g.gives in
        record {
          look = looks_nowhere;
          steps = k.steps ++ walk.goes (made line g.act) ∷ [];
          there = part_granted c s.filters b s.newest (own_of s b) s.execution e g.value line g.act (progress c (behind g.value)) k.look k.steps none next
              (λ over. asked_lives c (position s.execution.machine) line q behind g.value asking over) p comes t k.there;
          ahead = nothing_ahead c b.func (its_next s b e);
          joins = λ grant. absurd (nowhere_grant grant);
          none = acted_passed s.program (plans s) (own_behind s b s.versions y) k.steps s.thread line g.act p;
          asks = tt;
          crosses = tt;
          blocked = ap (λ (u : Walk). u.is_blocked) (walk_append s.program (plans s) (unborn s.versions) k.steps (walk.goes (made line g.act) ∷ []) ∙ p.walk s.program (plans s) (walk_of s.program (plans s) (own_of s b) k.steps)) ∙ sym p.free;
          waits = λ told. (let no : true ≡ false = sym told ∙ p.free in cc);
          lives = p.lives;
          taken = k.taken;
        }

-- Traps

pub trapped_taken : (s : Strand) (b : Birth) (x : Entry) (line : ℕ) (cause : Cause) → StrandInvariant s → s.birth ≡ Some b → s.execution.stage ≡ stage.Runs → (k : LivingInvariant s b)
    → (walk_of s.program (plans s) (own_of s b) k.steps).owed ≡ [] → (k.look ≡ looks_for_grant → ⊥) → ComesBefore (lowered s.program) b.func (its_next s b s.execution) (made line (trap cause)) ends
    → place_at s.program s.execution.place ≡ Some (request_place (walk_of s.program (plans s) (own_of s b) k.steps)) → x ≡ entry_by s.thread line (trap cause) → IsTaken s b x
trapped_taken s b x line cause h birth at k none free comes place is = record {
  reply = a.Traps line;
  is = ap reply_of is;
  follow = tt;
  walk = k.there.there.filters;
  room = λ e. (let no : false ≡ true = e in cc);
  keeps = λ e t. kept_as s b s.versions x y None e is refl refl
      (kept_on s b s.versions y None e stage.Runs h (living_fit s b e h k t.place t.notes) (its_stage e t) tt tt (on e t));
}
  where
    c : Flow
    c = lowered s.program

    y : Entry
    y = entry_by s.thread line (trap cause)

    there : (e : Execution) → Takes c s.filters s.newest s.execution e (a.Traps line) → position e.machine ≡ over
    there e t = ap position t.machine ∙ with_position_at s.execution.machine over

    its_stage : (e : Execution) → Takes c s.filters s.newest s.execution e (a.Traps line) → IsStage s b e stage.Runs
    its_stage e t = record {
      birth = birth;
      stage = t.stage ∙ at;
      room = subst (HasRoom c) (sym t.machine) (with_position_room c s.execution.machine over h.room);
      blank = tt;
      sound = (subst (IsSoundPosition c) (sym (there e t)) tt, subst (IsInOwn c) (sym (there e t)) tt);
    }

    on : (e : Execution) → Takes c s.filters s.newest s.execution e (a.Traps line) → LivesBehind s b s.versions y None e
    on e t =
        let next : its_next s b e ≡ ends = runs_next c b e (t.stage ∙ at) ∙ ap (progress c) (there e t) in
        let behind = walk_append s.program (plans s) (unborn s.versions) k.steps (walk.goes (made line (trap cause)) ∷ []) in
        record {
          look = looks_nowhere;
          steps = k.steps ++ walk.goes (made line (trap cause)) ∷ [];
          there = part_trapped c s.filters b s.newest (own_of s b) s.execution e line cause k.look k.steps (program_lowered s.program h.lawful) none next free comes place t k.there;
          ahead = nothing_ahead c b.func (its_next s b e);
          joins = λ grant. absurd (nowhere_grant grant);
          none = ap (λ (u : Walk). u.passed) behind;
          asks = tt;
          crosses = tt;
          blocked = ap (λ (u : Walk). u.is_blocked) behind;
          waits = λ told. (let no : false ≡ true = told in cc);
          lives = refl;
          taken = k.taken;
        }

-- Its end

part_whole : (s : Strand) (own : Own) → IsWholePart s.program (plans s) own → IsPart s.program (plans s) own
part_whole s own h = record {
  steps = h.steps;
  ahead = [];
  outcome = Finished;
  trace = subst (λ is. IsTrace s.program own.func own.args is Finished) (sym (append-nil (items h.steps))) h.trace;
  woven = h.woven;
  tells = h.tells;
  taken = h.taken;
}

pub ended_taken : (s : Strand) (b : Birth) (x : Entry) → StrandInvariant s → s.birth ≡ Some b → (k : LivingInvariant s b) → (walk_of s.program (plans s) (own_of s b) k.steps).owed ≡ []
    → its_next s b s.execution ≡ ends → x ≡ e.End s.thread (end_line s.program b.func) → IsTaken s b x
ended_taken s b x h birth k none last is = record {
  reply = a.Ends;
  is = ap reply_of is;
  follow = tt;
  walk = tt;
  room = λ e. (let no : false ≡ true = e in cc);
  keeps = λ e t. kept_as s b s.versions x y None e is refl refl (kept e t);
}
  where
    c : Flow
    c = lowered s.program

    y : Entry
    y = e.End s.thread (end_line s.program b.func)

    whole : IsWholePart s.program (plans s) (own_behind s b s.versions y)
    whole = whole_ended c (plans s) (own_of s b) (its_next s b s.execution) k.look k.steps (program_lowered s.program h.lawful) last none k.there.way

    ended : (e : Execution) → EndInvariant (kept_with s s.versions (s.entries ++ y ∷ []) None e) b
    ended e = record { function = k.function; whole = whole; ended = last_ends s.entries y; asks = refl }

    kept : (e : Execution) → Takes c s.filters s.newest s.execution e a.Ends → IsKeptWith s b s.versions y None e
    kept e t = record {
      kept = strand_kept s b s.versions (s.entries ++ y ∷ []) None e stage.Over h t.notes
          (record { birth = birth; stage = t.stage; room = subst (HasRoom c) (sym t.machine) h.room; blank = tt; sound = tt }) tt (ended e);
      part = part_whole s (own_behind s b s.versions y) whole;
      passes = λ lives places. (let no : true ≡ false = sym (last_ends s.entries y) ∙ lives in cc);
      stands = λ told. (let no : false ≡ true = told in cc);
    }
