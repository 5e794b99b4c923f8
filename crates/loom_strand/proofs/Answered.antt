-- Each answer to what a thread asks for is taken: its begin, what it owes, a newer version, and that it waits.
use Rattle.std.proofs.Common.{ℕ, suc, ◌≡◌, ◌≤◌, ◌<◌, ◌⊎◌, true, false, List, [], ◌∷◌, ◌++◌, length, Option, Some, None, refl, inl, inr, sym, ap, subst, ◌∙◌, arith}
use Rattle.loom_lang.specs.Places.{Place, place_at, line_of_place}
use Rattle.loom_trace.specs.declared.entry.Entry.{Entry}
use Rattle.loom_trace.specs.declared.entry.Entry.TheVariants as e
use Rattle.loom_trace.specs.declared.request.Request.{Request}
use Rattle.loom_trace.specs.declared.request.Request.TheVariants as r
use Rattle.loom_event.specs.Answer.{IsAnswerTo}
use Rattle.loom_flow.specs.Flow.{Flow}
use Rattle.loom_flow.specs.FlatCode.{lowered}
use Rattle.loom_law.specs.Walk.{Version, Operation, cross, makes, Queue, Walk, unborn, crossing, entry_of_operation, Owes}
use Rattle.loom_law.specs.ThreadPart.{walk_of}
use Rattle.loom_version.specs.Version.{version_limit}
use Rattle.loom_walk.specs.Owed.{queue}
use Rattle.loom_walk.specs.FilterWalk.{FilterWalk, IsAt, HasNewBehind}
use Rattle.loom_strand.specs.declared.execution.Execution.{Execution}
use Rattle.loom_strand.specs.declared.stage.Birth.{Birth}
use Rattle.loom_strand.specs.declared.stage.Stage.{Stage}
use Rattle.loom_strand.specs.declared.stage.Stage.TheVariants as stage
use Rattle.loom_strand.specs.declared.reply.Reply.TheVariants as a
use Rattle.loom_strand.specs.Machine.{Machine}
use Rattle.loom_strand.specs.Reply.{reply_of, Takes}
use Rattle.loom_strand.specs.Life.{asks_cross}
use Rattle.loom_strand.specs.Way.{looks_nowhere, looks_for_grant, end_line, IsPlaceAhead, IsJoining}
use Rattle.loom_strand.specs.InPart.{IsInPart}
use Rattle.loom_strand.specs.Strand.{Strand, plans, own_of, CanTake, IsOutrun}
use Rattle.loom_strand.specs.StrandInvariant.{operation_request, HasRoom, MayTake, CrossesIfAny, WaitingInvariant, LivingInvariant, IsBlank, StrandInvariant}
use Rattle.loom_strand.proofs.BeginSteps.{begin_step, part_begun}
use Rattle.loom_strand.proofs.CrossSteps.{crossed_grant, part_crossed}
use Rattle.loom_strand.proofs.LastEntries.{last_awaits, numbers_more, room_for_one, order_behind}
use Rattle.loom_strand.proofs.MakeSteps.{TellsMaking, tells_making, making_answer, part_made}
use Rattle.loom_strand.proofs.NextRequests.{ahead_there, ahead_behind}
use Rattle.loom_strand.proofs.Openings.{IsLookedAt}
use Rattle.loom_strand.proofs.RequestWays.{HasAhead, nothing_ahead, crossed_look, crossed_walk}
use Rattle.loom_strand.proofs.Standings.{looked}
use Rattle.loom_strand.proofs.Stays.{operation_passed, operation_free, crossing_rests}
use Rattle.loom_strand.proofs.Steps.{walk_append}
use Rattle.loom_strand.proofs.Taken.{program_lowered, its_next, own_walk, LivesBehind, IsFit, living_fit, kept_as, IsStage, IsLiving, stage_same, kept_on, IsTaken, same_next}

pub nowhere_grant : looks_nowhere ≡ looks_for_grant → ⊥
nowhere_grant h = cc

-- Its begin

begun_fit : (s : Strand) (b : Birth) (e : Execution) → StrandInvariant s → s.execution.stage ≡ stage.Waits → WaitingInvariant s b → Takes (lowered s.program) s.filters s.newest s.execution e a.Begins → IsFit s b e
begun_fit s b e h at k t =
    let blank : IsBlank stage.Waits s.execution = subst (λ y. IsBlank y s.execution) at h.blank in
    record {
      lawful = h.lawful;
      function = k.function;
      within = subst (λ n. n < length (Flow.sites (lowered s.program))) (sym (t.place ∙ k.place)) (omega arith);
      events = subst (λ (w : FilterWalk). length w.events ≤ length s.entries) (sym blank.1) (omega arith);
      regions = subst (λ (w : FilterWalk). length w.regions ≤ length s.entries) (sym blank.1) (omega arith);
      notes = t.notes;
    }

begun_stage : (s : Strand) (b : Birth) (e : Execution) → StrandInvariant s → s.birth ≡ Some b → s.execution.stage ≡ stage.Waits → Takes (lowered s.program) s.filters s.newest s.execution e a.Begins
    → IsStage s b e stage.Enters
begun_stage s b e h birth at t =
    let blank : IsBlank stage.Waits s.execution = subst (λ y. IsBlank y s.execution) at h.blank in
    let same : e.machine ≡ s.execution.machine = t.machine in
    let now : IsAt s.program (plans s) e.walk _ = t.walk 0 in
    record {
      birth = birth;
      stage = t.stage;
      room = subst (HasRoom (lowered s.program)) (sym same) h.room;
      blank = ((ap (λ (m : Machine). m.state) same ∙ blank.0.0, ap (λ (m : Machine). m.phase) same ∙ blank.0.1), sym now.owed);
      sound = tt;
    }

pub begun_taken : (s : Strand) (b : Birth) (x : Entry) → StrandInvariant s → s.birth ≡ Some b → s.execution.stage ≡ stage.Waits → WaitingInvariant s b → CanTake s s.newest
    → x ≡ e.Begin s.thread (end_line s.program b.func) → IsTaken s b x
begun_taken s b x h birth at k may is = record {
  reply = a.Begins;
  is = ap reply_of is;
  follow = tt;
  walk = blank.1;
  room = λ e. subst (λ vs. length vs < suc version_limit) (sym k.versions) (omega arith);
  keeps = λ e t. kept_as s b (s.newest ∷ []) x y None e is (ap (λ vs. vs ++ s.newest ∷ []) k.versions) refl
      (kept_on s b (s.newest ∷ []) y None e stage.Enters h (begun_fit s b e h at k t) (begun_stage s b e h birth at t) tt tt (on e t));
}
  where
    y : Entry
    y = e.Begin s.thread (end_line s.program b.func)

    blank : IsBlank stage.Waits s.execution
    blank = subst (λ z. IsBlank z s.execution) at h.blank

    on : (e : Execution) → Takes (lowered s.program) s.filters s.newest s.execution e a.Begins → LivesBehind s b (s.newest ∷ []) y None e
    on e t = record {
      look = looks_nowhere;
      steps = begin_step (lowered s.program) b.func ∷ [];
      there = subst (λ es. IsInPart (lowered s.program) s.filters b (record { thread = s.thread; func = b.func; args = b.args; versions = s.newest ∷ []; entries = es ++ y ∷ [] }) e looks_nowhere (begin_step (lowered s.program) b.func ∷ []))
          (sym k.none)
          (part_begun (lowered s.program) s.filters b s.newest s.thread s.execution e k.function.0 (program_lowered s.program h.lawful) k.function.1 may.filters t.stage t);
      ahead = nothing_ahead (lowered s.program) b.func (its_next s b e);
      joins = λ grant. absurd (nowhere_grant grant);
      none = refl;
      asks = tt;
      crosses = tt;
      blocked = refl;
      waits = λ told. (let no : false ≡ true = told in cc);
      lives = refl;
      taken = omega arith;
    }

-- What it owes

pub owing : (os : Queue) (l : ℕ) (o : Operation) → Owes os l o → os ≡ [] → ⊥
owing [] l o h e = h
owing (x ∷ xs) l o h e = cc

-- before its first frame it owes nothing
pub enters_rests : (s : Strand) → StrandInvariant s → s.execution.stage ≡ stage.Enters → queue s.execution.walk.owed ≡ []
enters_rests s h at = (subst (λ y. IsBlank y s.execution) at h.blank).1

-- so what is owed first is owed by a thread whose frames run
pub owing_runs : (s : Strand) (b : Birth) (st : Stage) (k : LivingInvariant s b) (l : ℕ) (o : Operation) → StrandInvariant s → s.execution.stage ≡ st → IsLiving st → Owes (walk_of s.program (plans s) (own_of s b) k.steps).owed l o
    → s.execution.stage ≡ stage.Runs
owing_runs s b stage.Waits k l o h at is owes = absurd is
owing_runs s b stage.Enters k l o h at is owes =
    absurd (owing (walk_of s.program (plans s) (own_of s b) k.steps).owed l o owes (k.there.there.at.owed ∙ enters_rests s h at))
owing_runs s b stage.Runs k l o h at is owes = at
owing_runs s b stage.Over k l o h at is owes = absurd is

runs_enters : stage.Runs ≡ stage.Enters → ⊥
runs_enters h = cc

pub stage_on : (s : Strand) (b : Birth) (e : Execution) → StrandInvariant s → s.birth ≡ Some b → s.execution.stage ≡ stage.Runs → e.stage ≡ s.execution.stage → e.machine ≡ s.execution.machine → IsStage s b e stage.Runs
stage_on s b e h birth at stays same = stage_same s b e stage.Runs h birth at tt stays same (λ enters. absurd (runs_enters enters))

pub made_taken : (s : Strand) (b : Birth) (x : Entry) (q : Request) (l : ℕ) (o : Operation) → StrandInvariant s → s.birth ≡ Some b → s.execution.stage ≡ stage.Runs → (k : LivingInvariant s b)
    → length s.entries < s.limit → Owes (walk_of s.program (plans s) (own_of s b) k.steps).owed l o → operation_request l o ≡ Some q → IsAnswerTo s.thread q x → IsTaken s b x
made_taken s b x q l o h birth at k few owes asked answer = record {
  reply = a.Makes;
  is = ap reply_of is ∙ tells.reply;
  follow = tt;
  walk = (
    λ none. owing z.owed l o owes (k.there.there.at.owed ∙ none),
    (room_of s.execution.walk.events k.events, (room_of s.execution.walk.regions k.regions, k.there.there.filters)),
  );
  room = λ e. (let no : false ≡ true = e in cc);
  keeps = λ e t. kept_as s b s.versions x y None e is (tells.versions s.newest s.versions) (tells.asks s.want)
      (kept_on s b s.versions y None e stage.Runs h (living_fit s b e h k t.place t.notes) (stage_on s b e h birth at t.stage t.machine) tt tt (on e t));
}
  where
    y : Entry
    y = entry_of_operation s.thread l o

    z : Walk
    z = walk_of s.program (plans s) (own_of s b) k.steps

    is : x ≡ y
    is = making_answer s.thread l o q x asked answer

    tells : TellsMaking y
    tells = tells_making s.thread l o q asked

    room_of : {A : Type 0} (xs : List A) → length xs ≤ length s.entries → length xs < s.execution.walk.room
    room_of xs less = subst (λ n. length xs < n) (sym h.notes) (omega (arith, less, few))

    nowhere : (k.look ≡ looks_nowhere) ⊎ (z.owed ≡ []) → k.look ≡ looks_nowhere
    nowhere (inl g) = g
    nowhere (inr g) = absurd (owing z.owed l o owes g)

    there : IsInPart (lowered s.program) s.filters b (own_of s b) s.execution looks_nowhere k.steps
    there = subst (λ j. IsInPart (lowered s.program) s.filters b (own_of s b) s.execution j k.steps) (nowhere k.there.there.rests) k.there

    on : (e : Execution) → Takes (lowered s.program) s.filters s.newest s.execution e a.Makes → LivesBehind s b s.versions y None e
    on e t = record {
      look = looks_nowhere;
      steps = k.steps ++ makes l o ∷ [];
      there = part_made (lowered s.program) s.filters b s.newest (own_of s b) s.execution e k.steps l o q (program_lowered s.program h.lawful) asked owes t.stage t there;
      ahead = nothing_ahead (lowered s.program) b.func (its_next s b e);
      joins = λ grant. absurd (nowhere_grant grant);
      none = ap (λ (u : Walk). u.passed) (walk_append s.program (plans s) (unborn s.versions) k.steps (makes l o ∷ [])) ∙ operation_passed s.program (plans s) z l o q asked;
      asks = tt;
      crosses = tt;
      blocked = ap (λ (u : Walk). u.is_blocked) (walk_append s.program (plans s) (unborn s.versions) k.steps (makes l o ∷ [])) ∙ (operation_free s.program (plans s) z l o q asked ∙ sym tells.free);
      waits = λ told. (let no : true ≡ false = sym told ∙ tells.free in cc);
      lives = tells.lives;
      taken = k.taken;
    }

-- A newer version

asks_outrun : (vs : List Version) (v : Version) (want : Option Request) (q : Request) → CrossesIfAny vs v want → want ≡ Some q → asks_cross q ≡ true → IsOutrun vs v
asks_outrun vs v want q h w is =
    let both : CrossesIfAny vs v (Some q) = subst (CrossesIfAny vs v) w h in both.0 is

pub may_take : (s : Strand) (q : Request) → StrandInvariant s → s.want ≡ Some q → CanTake s s.newest
may_take s q h w = subst (MayTake s) w h.takes

-- where it goes over, nothing is owed before its first frame still
crossed_enters : (s : Strand) (b : Birth) (e : Execution) (k : LivingInvariant s b) → StrandInvariant s → Takes (lowered s.program) s.filters s.newest s.execution e a.Crosses → s.execution.stage ≡ stage.Enters
    → queue e.walk.owed ≡ []
crossed_enters s b e k h t at =
    let z : Walk = walk_of s.program (plans s) (own_of s b) k.steps in
    let none : z.owed ≡ [] = k.there.there.at.owed ∙ enters_rests s h at in
    let now : IsAt s.program (plans s) e.walk (crossing s.program (plans s) z (s.newest ∷ [])) = t.walk z k.there.there.locals k.there.there.at in
    sym now.owed ∙ crossing_rests s.program (plans s) z s.newest none

pub crossed_taken : (s : Strand) (b : Birth) (x : Entry) (q : Request) (st : Stage) (place : Place) → StrandInvariant s → s.birth ≡ Some b → s.execution.stage ≡ st → IsLiving st → (k : LivingInvariant s b)
    → s.want ≡ Some q → IsPlaceAhead (walk_of s.program (plans s) (own_of s b) k.steps).owed (walk_of s.program (plans s) (own_of s b) k.steps) (its_next s b s.execution) place
    → place_at s.program s.execution.place ≡ Some place → q ≡ r.Cross (line_of_place s.program place) s.execution.place s.newest.number (length (walk_of s.program (plans s) (own_of s b) k.steps).passed)
    → IsAnswerTo s.thread q x → IsTaken s b x
crossed_taken s b x q st place h birth at living k w ahead number asked answer = record {
  reply = a.Crosses;
  is = ap reply_of is;
  follow = tt;
  walk = ((z, k.there.there.at), (may.filters, subst (λ ks. HasNewBehind ks s.newest.active) (sym k.there.there.active ∙ k.there.there.at.active) (order_behind s.versions s.newest may.later outrun)));
  room = λ e. room_for_one s.versions s.newest k.taken outrun h.newest;
  keeps = λ e t. kept_as s b (s.versions ++ s.newest ∷ []) x y None e is refl refl
      (kept_on s b (s.versions ++ s.newest ∷ []) y None e st h (living_fit s b e h k t.place t.notes)
      (stage_same s b e st h birth at living t.stage t.machine (λ enters. crossed_enters s b e k h t (at ∙ enters))) living tt (on e t));
}
  where
    c : Flow
    c = lowered s.program

    z : Walk
    z = walk_of s.program (plans s) (own_of s b) k.steps

    l : ℕ
    l = line_of_place s.program place

    y : Entry
    y = e.Cross s.thread l s.execution.place s.newest.number (length z.passed)

    is : x ≡ y
    is = subst (λ u. IsAnswerTo s.thread u x) asked answer

    may : CanTake s s.newest
    may = may_take s q h w

    outrun : IsOutrun s.versions s.newest
    outrun = asks_outrun s.versions s.newest s.want q k.crosses w (ap asks_cross asked)

    looks : IsLookedAt k.look (its_next s b s.execution)
    looks = looked k.look (its_next s b s.execution) (λ grant. (k.joins grant).1)

    before : HasAhead c b.func (its_next s b s.execution) k.look
    before = ahead_there c b.func (its_next s b s.execution) z z.owed place k.look looks k.there.there.rests ahead

    on : (e : Execution) → Takes (lowered s.program) s.filters s.newest s.execution e a.Crosses → LivesBehind s b (s.versions ++ s.newest ∷ []) y None e
    on e t =
        let next : its_next s b e ≡ its_next s b s.execution = same_next c b s.execution e t.stage t.machine in
        let behind : own_walk s b (s.versions ++ s.newest ∷ []) y (k.steps ++ makes l (cross s.execution.place s.newest.number (length z.passed)) ∷ []) ≡ crossing s.program (plans s) z (s.newest ∷ []) =
        crossed_walk c (plans s) (own_of s b) (its_next s b s.execution) k.look k.steps s.newest l s.execution.place (length z.passed) before k.there.way in
        record {
          look = crossed_look z.owed k.look;
          steps = k.steps ++ makes l (cross s.execution.place s.newest.number (length z.passed)) ∷ [];
          there = part_crossed c s.filters b s.newest (own_of s b) s.execution e k.look k.steps place s.execution.place (program_lowered s.program h.lawful) may.filters t.stage t before ahead number k.there;
          ahead = subst (λ u. HasAhead c b.func u (crossed_look z.owed k.look)) (sym next)
              (ahead_behind c b.func (its_next s b s.execution) z z.owed place k.look looks k.there.there.rests ahead);
          joins = λ grant. (
              let both = k.joins (crossed_grant z.owed k.look grant) in
              (last_awaits s.entries y ∙ both.0, subst IsJoining (sym next) both.1)
              );
          none = ap (λ (u : Walk). u.passed) behind;
          asks = tt;
          crosses = tt;
          blocked = ap (λ (u : Walk). u.is_blocked) behind;
          waits = λ told. (let no : false ≡ true = told in cc);
          lives = refl;
          taken = numbers_more s.versions s.newest k.taken outrun;
        }
