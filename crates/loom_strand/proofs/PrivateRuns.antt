-- What a private run of a thread keeps, and what it comes to, however far the thread was.
use Rattle.std.specs.Prelude.{◌↔◌, IsTrue}
use Rattle.std.proofs.Common.{ℕ, ◌≡◌, ◌≤◌, ◌⊎◌, Bool, true, false, true≢false, List, [], ◌∷◌, ◌++◌, Option, Some, None, slice_get, refl, inl, inr, sym, ap, subst, ◌∙◌}
use Rattle.loom_tree.specs.Tree.{Function}
use Rattle.loom_lang.specs.Places.{line_of_function}
use Rattle.loom_lang.specs.Trace.{made, begin, Open, IsTrace, thread_end}
use Rattle.loom_trace.specs.Places.{has_place}
use Rattle.loom_trace.specs.declared.entry.Entry.{Entry}
use Rattle.loom_trace.specs.declared.request.Request.{Request}
use Rattle.loom_trace.specs.declared.request.Request.TheVariants as r
use Rattle.loom_flow.specs.declared.code.Entrance.{Entrance}
use Rattle.loom_flow.specs.Flow.{Flow}
use Rattle.loom_flow.specs.Code.{IsLowered}
use Rattle.loom_flow.specs.FlatCode.{lowered}
use Rattle.loom_flow.specs.FlatTrace.{flat_start, flat_thread, IsFlatTrace}
use Rattle.loom_law.specs.Walk.{Version}
use Rattle.loom_law.specs.ThreadPart.{Own, AsksToAct}
use Rattle.loom_law.specs.TurnLaws.{ends_blocked}
use Rattle.loom_plan.specs.Compiled.{Compiled}
use Rattle.loom_version.specs.Version.{version_limit}
use Rattle.loom_walk.specs.Owed.{queue}
use Rattle.loom_strand.specs.declared.execution.Execution.{Execution}
use Rattle.loom_strand.specs.declared.stage.Birth.{Birth}
use Rattle.loom_strand.specs.declared.stage.Stage.{Stage}
use Rattle.loom_strand.specs.declared.stage.Stage.TheVariants as stage
use Rattle.loom_strand.specs.declared.stage.Want.{Want}
use Rattle.loom_strand.specs.declared.stage.Want.TheVariants as want
use Rattle.loom_strand.specs.Life.{has_none, has_ended, asks_cross, IsLastBlockedAt}
use Rattle.loom_strand.specs.Halt.{PassesNextFrom, PassesNext}
use Rattle.loom_strand.specs.Way.{end_line}
use Rattle.loom_strand.specs.Strand.{Strand, plans, own_of, CanTake, IsOutrun, Requests, WaitsUnflagged, HeedsFlags, GoesUnflagged, StaysAt, Parks, MayPark, KeepsParking, Wants, IsSameWant, request_in}
use Rattle.loom_strand.specs.StrandInvariant.{HasRoom, MayTake, AsksBegin, WaitingInvariant, LivingInvariant, StageInvariant, IsBlank, IsSound, StrandInvariant}
use Rattle.loom_strand.specs.PrivateRun.{MayRunFrom, MayRun, GoesToHalt, StaysBlocked, RunsFrom, MayHaltFrom, MayHalt}
use Rattle.loom_strand.proofs.Entrances.{entrance_within}
use Rattle.loom_strand.proofs.PartSteps.{flat_tree, gone_nowhere}
use Rattle.loom_strand.proofs.Replies.{asks_begin_line}
use Rattle.loom_strand.proofs.LastEntries.{ended_unblocked}
use Rattle.loom_strand.proofs.LivingRuns.{went, LivesOn, lives_on, requests_of, stands_flagged, heeds_on, parks_on, stays_on, again_on, halted, blocked_lives, blocked_stands, blocked_keeps}

-- A private run of a thread of this birth with a version, and what it came to.
pub record IsPrivateRun (s : Strand) (b : Birth) (flags : List ℕ) (newer : Bool) (v : Version) (e : Execution) (x : Want) : Type 0 where
  pub low : IsLowered (lowered s.program)
  pub inv : StrandInvariant s
  pub birth : s.birth ≡ Some b
  pub takes : CanTake s v
  pub few : v.number ≤ version_limit
  pub outrun : newer ≡ true → IsOutrun s.versions v
  pub newer_is : IsOutrun s.versions v → newer ≡ true
  pub run : RunsFrom s.execution.stage (lowered s.program) s.filters b flags newer v s.execution e x

pub private_run : (c : Flow) (cs : List (Option Compiled)) (us : List Version) (s : Strand) (b : Birth) (flags : List ℕ) (newer : Bool) (v : Version) (e : Execution) (x : Want) → c ≡ lowered s.program → cs ≡ s.filters
    → us ≡ s.versions → IsLowered c → StrandInvariant s → s.birth ≡ Some b → CanTake s v → v.number ≤ version_limit → (IsTrue newer ↔ IsOutrun us v) → RunsFrom s.execution.stage c cs b flags newer v s.execution e x
    → IsPrivateRun s b flags newer v e x
private_run c cs us s b flags newer v e x flat filters versions l i born takes few newest run = record {
  low = subst IsLowered flat l;
  inv = i;
  birth = born;
  takes = takes;
  few = few;
  outrun = λ is. subst (λ vs. IsOutrun vs v) versions (newest.0 is);
  newer_is = λ h. newest.1 (subst (λ vs. IsOutrun vs v) (sym versions) h);
  run = subst (λ ds. RunsFrom s.execution.stage (lowered s.program) ds b flags newer v s.execution e x) filters
      (subst (λ d. RunsFrom s.execution.stage d cs b flags newer v s.execution e x) flat run);
}

-- It can go on

enters_may : (s : Strand) (b : Birth) → IsLowered (lowered s.program) → StrandInvariant s → s.execution.stage ≡ stage.Enters → LivingInvariant s b → MayRun (lowered s.program) b s.execution
enters_may s b l i is h =
    let blank : IsBlank stage.Enters s.execution = subst (λ t. IsBlank t s.execution) is i.blank in
    subst (λ t. MayRunFrom (lowered s.program) b t s.execution.machine s.execution.walk) (sym is)
    (entrance_within (lowered s.program) b.func h.function.0 l h.function.1, (i.room, (blank.0, blank.1)))

runs_may : (s : Strand) (b : Birth) → StrandInvariant s → s.execution.stage ≡ stage.Runs → MayRun (lowered s.program) b s.execution
runs_may s b i is =
    let sound : IsSound (lowered s.program) stage.Runs s.execution.machine = subst (λ t. IsSound (lowered s.program) t s.execution.machine) is i.sound in
    subst (λ t. MayRunFrom (lowered s.program) b t s.execution.machine s.execution.walk) (sym is) (record { sound = sound.0; own = sound.1; room = i.room })

may_from : (s : Strand) (b : Birth) (t : Stage) → IsLowered (lowered s.program) → StrandInvariant s → s.execution.stage ≡ t → StageInvariant t s (Some b) → MayHaltFrom t (lowered s.program) s.filters b s.execution
may_from s b stage.Waits l i is h = tt
may_from s b stage.Enters l i is h = (enters_may s b l i is h, (record { own = own_of s b; look = h.look; steps = h.steps; there = h.there }, h.within))
may_from s b stage.Runs l i is h = (runs_may s b i is, (record { own = own_of s b; look = h.look; steps = h.steps; there = h.there }, h.within))
may_from s b stage.Over l i is h = tt

pub may_halt : (s : Strand) (b : Birth) → IsLowered (lowered s.program) → StrandInvariant s → s.birth ≡ Some b → MayHalt (lowered s.program) s.filters b s.execution
may_halt s b l i born = may_from s b s.execution.stage l i refl (subst (StageInvariant s.execution.stage s) born i.stage)

-- What it keeps

room_of : (c : Flow) (b : Birth) (e : Execution) (t : Stage) → MayRunFrom c b t e.machine e.walk → HasRoom c e.machine
room_of c b e stage.Waits m = absurd m
room_of c b e stage.Enters m = m.1.0
room_of c b e stage.Runs m = m.room
room_of c b e stage.Over m = absurd m

blank_of : (c : Flow) (b : Birth) (e : Execution) (t : Stage) → MayRunFrom c b t e.machine e.walk → IsBlank t e
blank_of c b e stage.Waits m = absurd m
blank_of c b e stage.Enters m = (m.1.1.0, m.1.1.1)
blank_of c b e stage.Runs m = tt
blank_of c b e stage.Over m = absurd m

sound_of : (c : Flow) (b : Birth) (e : Execution) (t : Stage) → MayRunFrom c b t e.machine e.walk → IsSound c t e.machine
sound_of c b e stage.Waits m = absurd m
sound_of c b e stage.Enters m = tt
sound_of c b e stage.Runs m = (m.sound, m.own)
sound_of c b e stage.Over m = absurd m

stage_of : (c : Flow) (s : Strand) (b : Birth) (e : Execution) (t : Stage) → MayRunFrom c b t e.machine e.walk → LivingInvariant s b → StageInvariant t s (Some b)
stage_of c s b e stage.Waits m h = absurd m
stage_of c s b e stage.Enters m h = h
stage_of c s b e stage.Runs m h = h
stage_of c s b e stage.Over m h = absurd m

takes_on : (s : Strand) (v : Version) (e : Execution) (x : Want) → CanTake s v → MayTake (went s v e x) (request_in x)
takes_on s v e (want.Ask q) h = record { filters = h.filters; later = h.later }
takes_on s v e (want.Place k) h = tt
takes_on s v e want.Ended h = tt

-- of a thread that goes on
goes_kept : (s : Strand) (b : Birth) (v : Version) (e : Execution) (x : Want) → StrandInvariant s → s.birth ≡ Some b → CanTake s v → v.number ≤ version_limit → MayRun (lowered s.program) b e
    → e.walk.room ≡ s.execution.walk.room → LivingInvariant (went s v e x) b → StrandInvariant (went s v e x)
goes_kept s b v e x i born takes few may room h = record {
  lawful = i.lawful;
  room = room_of (lowered s.program) b e e.stage may;
  notes = room ∙ i.notes;
  newest = few;
  blank = blank_of (lowered s.program) b e e.stage may;
  sound = sound_of (lowered s.program) b e e.stage may;
  stage = subst (StageInvariant e.stage (went s v e x)) (sym born) (stage_of (lowered s.program) (went s v e x) b e e.stage may h);
  takes = takes_on s v e x takes;
}

-- of one that stays as it is
stays_kept : (s : Strand) (b : Birth) (v : Version) (x : Want) → StrandInvariant s → s.birth ≡ Some b → CanTake s v → v.number ≤ version_limit
    → StageInvariant s.execution.stage (went s v s.execution x) (Some b) → StrandInvariant (went s v s.execution x)
stays_kept s b v x i born takes few h = record {
  lawful = i.lawful;
  room = i.room;
  notes = i.notes;
  newest = few;
  blank = i.blank;
  sound = i.sound;
  stage = subst (StageInvariant s.execution.stage (went s v s.execution x)) (sym born) h;
  takes = takes_on s v s.execution x takes;
}

-- Before its begin

begin_flat : (c : Flow) (f : ℕ) (g : Function) (b : Birth) → slice_get c.program.funcs b.func ≡ Some g → IsFlatTrace c b.func b.args (made (end_line c.program b.func) begin ∷ []) Open
begin_flat c f g b there = record {
  most_steps = 0;
  gives = subst (λ x. flat_thread c x b.func b.args 0 (made (line_of_function x) begin ∷ []) Open) (sym there) (inr ([], refl, opens (slice_get c.entrances b.func)));
}
  where
    opens : (o : Option Entrance) → flat_start c (record { program = c.program; stopped = thread_end g.line }) b.func b.args 0 o [] Open
    opens None = (refl, refl)
    opens (Some e) = inl (refl, refl)

-- It asks for that.
asks_begin_act : (s : Strand) (b : Birth) (own : Own) (g : Function) → IsLowered (lowered s.program) → slice_get s.program.funcs b.func ≡ Some g → own.func ≡ b.func → own.args ≡ b.args → own.versions ≡ [] → own.entries ≡ []
    → AsksToAct s.program (plans s) own (r.Begin (end_line s.program b.func))
asks_begin_act s b own g l there func args versions entries = record {
  steps = [];
  next = made (end_line s.program b.func) begin;
  trace = first;
  woven = tt;
  tells = sym entries;
  taken = versions;
  rests = refl;
  granted = λ v. first;
  trapped = tt;
}
  where
    first : IsTrace s.program own.func own.args (made (end_line s.program b.func) begin ∷ []) Open
    first =
        subst (λ f. IsTrace s.program f own.args (made (end_line s.program b.func) begin ∷ []) Open) (sym func)
        (subst (λ vs. IsTrace s.program b.func vs (made (end_line s.program b.func) begin ∷ []) Open) (sym args)
        (flat_tree (lowered s.program) l b.func b.args (made (end_line s.program b.func) begin ∷ []) Open (begin_flat (lowered s.program) b.func g b there)))

never_last : (es front : List Entry) (x : Entry) → es ≡ [] → es ≡ front ++ x ∷ [] → ⊥
never_last es [] x none is = let no : [] ≡ x ∷ [] = sym none ∙ is in cc
never_last es (y ∷ front) x none is = let no : [] ≡ y ∷ (front ++ x ∷ []) = sym none ∙ is in cc

abbrev begins_so : Strand → Birth → Version → Strand
begins_so s b v = went s v s.execution (want.Ask (r.Begin (end_line s.program b.func)))

begin_requests : (s : Strand) (b : Birth) (v : Version) → IsLowered (lowered s.program) → WaitingInvariant s b → Requests (begins_so s b v) b (r.Begin (end_line s.program b.func))
begin_requests s b v l h = record {
  want = refl;
  next = asks_begin_act (begins_so s b v) b (own_of (begins_so s b v) b) h.function.0 l h.function.1 refl refl h.versions h.none;
  place = h.place;
  at = tt;
  numbers = λ g. tt;
  begins = sym (ap has_none h.none);
  lives = ap Rattle.loom_strand.specs.Life.has_ended h.none;
  blocked = λ g front y split told. absurd (never_last s.entries front y h.none split);
  crosses = λ g. absurd (true≢false (sym g));
  outrun = λ g. absurd (subst (λ vs. IsOutrun vs v) h.versions g);
}

begin_parks : (s : Strand) (b : Birth) (v : Version) (places : List ℕ) → IsLowered (lowered s.program) → WaitingInvariant s b
    → MayPark (begins_so s b v) (begins_so s b v) b places × Parks (begins_so s b v) b (r.Begin (end_line s.program b.func)) places
unfolding asks_begin_act
begin_parks s b v places l h = (
  inr (ap has_none h.none),
  record {
    asks = record {
      asks = asks_begin_act (begins_so s b v) b (own_of (begins_so s b v) b) h.function.0 l h.function.1 refl refl h.versions h.none;
      away = record { passed = tt; stood = λ g. absurd (true≢false (sym g)) };
    };
    blocks = λ x g free. absurd g;
  },
)

begin_waits : (s : Strand) (b : Birth) (v : Version) → WaitingInvariant s b → WaitingInvariant (begins_so s b v) b
begin_waits s b v h = record { none = h.none; versions = h.versions; function = h.function; asks = inr refl; place = h.place }

-- Before its begin and behind its end it waits nowhere.

no_blocked : (es : List Entry) → es ≡ [] → ends_blocked es ≡ true → ⊥
no_blocked es none is = let no : false ≡ true = sym (ap ends_blocked none) ∙ is in cc

never_begun : (s : Strand) (b : Birth) (flags : List ℕ) → s.execution.stage ≡ stage.Waits → WaitingInvariant s b → WaitsUnflagged s b flags
never_begun s b flags is h k waits = by_rests waits.rests
  where
    by_rests : ((queue s.execution.walk.owed ≡ []) × PassesNext (lowered s.program) b s.execution k) ⊎ (ends_blocked s.entries ≡ true) → has_place flags k ≡ false
    by_rests (inl (rests, passes)) = absurd (subst (λ t. PassesNextFrom (lowered s.program) b t s.execution.machine k) is passes)
    by_rests (inr told) = absurd (no_blocked s.entries h.none told)

never_over : (s : Strand) (b : Birth) (flags : List ℕ) → s.execution.stage ≡ stage.Over → has_ended s.entries ≡ true → WaitsUnflagged s b flags
never_over s b flags is ended k waits = by_rests waits.rests
  where
    by_rests : ((queue s.execution.walk.owed ≡ []) × PassesNext (lowered s.program) b s.execution k) ⊎ (ends_blocked s.entries ≡ true) → has_place flags k ≡ false
    by_rests (inl (rests, passes)) = absurd (subst (λ t. PassesNextFrom (lowered s.program) b t s.execution.machine k) is passes)
    by_rests (inr told) = absurd (ended_unblocked s.entries ended told)

-- All of it, by how far the thread was

pub record HasComeTo (s : Strand) (b : Birth) (flags : List ℕ) (v : Version) (e : Execution) (x : Want) : Type 0 where
  pub kept : StrandInvariant (went s v e x)
  pub wants : Wants (went s v e x) (Some b) flags x
  pub heeds : HeedsFlags s (went s v e x) (Some b) flags x
  pub unflagged : GoesUnflagged s (went s v e x) (Some b) flags
  pub parks : KeepsParking s (went s v e x) (Some b) flags x
  pub stays : StaysAt s (went s v e x) (Some b) flags v
  pub again : (q : Request) → s.want ≡ Some q → v ≡ s.newest → IsSameWant q x

wants_living : (s : Strand) (b : Birth) (flags : List ℕ) (newer : Bool) (v : Version) (e : Execution) (x : Want) → LivesOn s b flags newer v e x → Wants (went s v e x) (Some b) flags x
wants_living s b flags newer v e (want.Ask q) h = requests_of (went s v e (want.Ask q)) b q h.low h.run.may (lives_on s b flags newer v e (want.Ask q) h) refl
wants_living s b flags newer v e (want.Place k) h = stands_flagged s b flags newer v e k h
wants_living s b flags newer v e want.Ended h = absurd h.run.halts

comes_on : (s : Strand) (b : Birth) (flags : List ℕ) (newer : Bool) (v : Version) (e : Execution) (x : Want) → StrandInvariant s → s.birth ≡ Some b → CanTake s v → v.number ≤ version_limit
    → LivesOn s b flags newer v e x → HasComeTo s b flags v e x
comes_on s b flags newer v e x i born takes few h = record {
  kept = goes_kept s b v e x i born takes few h.run.may h.run.notes.room (lives_on s b flags newer v e x h);
  wants = wants_living s b flags newer v e x h;
  heeds = heeds_on s b flags newer v e x h;
  unflagged = h.run.gone;
  parks = parks_on s b flags newer v e x h;
  stays = stays_on s b flags newer v e x h;
  again = λ q is same. again_on s b flags newer v e x i.lawful h q is same;
}

living_stage : (s : Strand) (b : Birth) (v : Version) (t : Stage) → MayRunFrom (lowered s.program) b t s.execution.machine s.execution.walk → LivingInvariant s b → StageInvariant t (halted s v) (Some b)
living_stage s b v stage.Waits m h = absurd m
living_stage s b v stage.Enters m h = blocked_lives s b v h
living_stage s b v stage.Runs m h = blocked_lives s b v h
living_stage s b v stage.Over m h = absurd m

comes_blocked : (s : Strand) (b : Birth) (flags : List ℕ) (v : Version) → IsLowered (lowered s.program) → StrandInvariant s → s.birth ≡ Some b → CanTake s v → v.number ≤ version_limit → MayRun (lowered s.program) b s.execution
    → LivingInvariant s b → s.execution.walk.is_blocked ≡ true → has_place flags s.execution.place ≡ true → HasComeTo s b flags v s.execution (want.Place s.execution.place)
comes_blocked s b flags v l i born takes few may h told flag = record {
  kept = stays_kept s b v (want.Place s.execution.place) i born takes few (living_stage s b v s.execution.stage may h);
  wants = blocked_stands s b flags v l may h told flag;
  heeds = tt;
  unflagged = gone_nowhere (lowered s.program) s.filters b flags s.execution;
  parks = λ places within k. blocked_keeps s b v places k;
  stays = λ k w stops. w.stands.here;
  again = λ q is same. tt;
}

comes_living : (s : Strand) (b : Birth) (flags : List ℕ) (newer : Bool) (v : Version) (e : Execution) (x : Want) → IsPrivateRun s b flags newer v e x → MayRun (lowered s.program) b s.execution → LivingInvariant s b
    → StaysBlocked flags s.execution e x ⊎ GoesToHalt (lowered s.program) s.filters b flags newer v s.execution e x → HasComeTo s b flags v e x
comes_living s b flags newer v e x p may h (inl k) =
    let there : HasComeTo s b flags v s.execution (want.Place s.execution.place) = comes_blocked s b flags v p.low p.inv p.birth p.takes p.few may h k.blocked k.flagged in
    subst (λ d. HasComeTo s b flags v d x) (sym k.same) (subst (HasComeTo s b flags v s.execution) (sym k.place) there)
comes_living s b flags newer v e x p may h (inr k) =
    comes_on s b flags newer v e x p.inv p.birth p.takes p.few (record { low = p.low; inv = h; may = may; outrun = p.outrun; newer_is = p.newer_is; run = k })

same_begin : (line : ℕ) (o : Option Request) (q : Request) → AsksBegin line o → o ≡ Some q → r.Begin line ≡ q
same_begin line o q asks is = sym (asks_begin_line line o q asks is)

by_stage : (s : Strand) (b : Birth) (flags : List ℕ) (newer : Bool) (v : Version) (e : Execution) (x : Want) (t : Stage) → IsPrivateRun s b flags newer v e x → s.execution.stage ≡ t → StageInvariant t s (Some b)
    → RunsFrom t (lowered s.program) s.filters b flags newer v s.execution e x → HasComeTo s b flags v e x
by_stage s b flags newer v e x stage.Waits p is h k =
    let there : HasComeTo s b flags v s.execution (want.Ask (r.Begin (end_line s.program b.func))) = record {
      kept = stays_kept s b v (want.Ask (r.Begin (end_line s.program b.func))) p.inv p.birth p.takes p.few
          (subst (λ t. StageInvariant t (begins_so s b v) (Some b)) (sym is) (begin_waits s b v h));
      wants = begin_requests s b v p.low h;
      heeds = (never_begun s b flags is h, never_begun (begins_so s b v) b flags is (begin_waits s b v h));
      unflagged = gone_nowhere (lowered s.program) s.filters b flags s.execution;
      parks = λ places within f. begin_parks s b v places p.low h;
      stays = λ n w stops. w.stands.here;
      again = λ q asked same. same_begin (end_line s.program b.func) s.want q h.asks asked;
    } in
    subst (λ d. HasComeTo s b flags v d x) (sym k.0) (subst (HasComeTo s b flags v s.execution) (sym k.1) there)
by_stage s b flags newer v e x stage.Enters p is h k = comes_living s b flags newer v e x p (enters_may s b p.low p.inv is h) h k
by_stage s b flags newer v e x stage.Runs p is h k = comes_living s b flags newer v e x p (runs_may s b p.inv is) h k
by_stage s b flags newer v e x stage.Over p is h k =
    let there : HasComeTo s b flags v s.execution want.Ended = record {
      kept = stays_kept s b v want.Ended p.inv p.birth p.takes p.few
          (subst (λ t. StageInvariant t (went s v s.execution want.Ended) (Some b)) (sym is) (record { function = h.function; whole = h.whole; ended = h.ended; asks = refl }));
      wants = record { whole = h.whole; ended = h.ended };
      heeds = (never_over s b flags is h.ended, never_over (went s v s.execution want.Ended) b flags is h.ended);
      unflagged = gone_nowhere (lowered s.program) s.filters b flags s.execution;
      parks = tt;
      stays = λ n w stops. w.stands.here;
      again = λ q asked same. (let no : None ≡ Some q = sym h.asks ∙ asked in cc);
    } in
    subst (λ d. HasComeTo s b flags v d x) (sym k.0) (subst (HasComeTo s b flags v s.execution) (sym k.1) there)

pub come_to : (s : Strand) (b : Birth) (flags : List ℕ) (newer : Bool) (v : Version) (e : Execution) (x : Want) → IsPrivateRun s b flags newer v e x → HasComeTo s b flags v e x
come_to s b flags newer v e x p = by_stage s b flags newer v e x s.execution.stage p refl (subst (StageInvariant s.execution.stage s) p.birth p.inv.stage) p.run
