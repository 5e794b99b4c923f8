-- What a private run of a thread that lives keeps, and what it comes to.
use Rattle.std.proofs.Common.{ℕ, ◌≡◌, ◌≤◌, ◌⊎◌, Bool, true, false, List, [], ◌∷◌, ◌++◌, length, Option, Some, None, slice_get, refl, inl, inr, sym, ap, subst, ◌∙◌, arith}
use Rattle.std.specs.Prelude.{option_map}
use Rattle.loom_tree.specs.Tree.{Source}
use Rattle.loom_lang.specs.Rules.{KeepsRules}
use Rattle.loom_lang.specs.Places.{Place, place_at, line_of_place}
use Rattle.loom_lang.specs.Trace.{made, begins, done, edge, enter, out}
use Rattle.loom_trace.specs.Places.{has_place}
use Rattle.loom_trace.specs.declared.request.Request.{Request}
use Rattle.loom_trace.specs.declared.request.Request.TheVariants as r
use Rattle.loom_flow.specs.declared.code.Entrance.{Entrance}
use Rattle.loom_flow.specs.Flow.{Flow}
use Rattle.loom_flow.specs.Code.{IsLowered}
use Rattle.loom_flow.specs.FlatCode.{lowered}
use Rattle.loom_flow.specs.Progress.{Progress, goes, asks, traps, ends, nothing, progress}
use Rattle.loom_law.specs.Walk.{Version, PartStep, Queue, Walk, request_place}
use Rattle.loom_law.specs.ThreadPart.{walk_of}
use Rattle.loom_law.specs.TurnLaws.{ends_blocked}
use Rattle.loom_law.proofs.PlaceNumbers.{one_number}
use Rattle.loom_plan.specs.Compiled.{Compiled}
use Rattle.loom_walk.specs.Owed.{queue}
use Rattle.loom_strand.specs.declared.execution.Execution.{Execution}
use Rattle.loom_strand.specs.declared.stage.Birth.{Birth}
use Rattle.loom_strand.specs.declared.stage.Stage.{Stage}
use Rattle.loom_strand.specs.declared.stage.Stage.TheVariants as stage
use Rattle.loom_strand.specs.declared.stage.Want.{Want}
use Rattle.loom_strand.specs.declared.stage.Want.TheVariants as want
use Rattle.loom_strand.specs.Machine.{position}
use Rattle.loom_strand.specs.StepResult.{place_of_entrance, place_here, place_coming}
use Rattle.loom_strand.specs.Life.{has_none, asks_cross}
use Rattle.loom_strand.specs.Way.{Look, looks_for_grant, IsJoining, first_frame, next_step, end_line, IsNextPlace, IsPlaceAhead}
use Rattle.loom_strand.specs.Halt.{PassesNextFrom, PassesNext, IsStopped, IsHalting, by_request, by_owed}
use Rattle.loom_strand.specs.InPart.{IsInPart, AreIn, PassesUnflagged, HasGone}
use Rattle.loom_strand.specs.Strand.{Strand, plans, own_of, IsOutrun, StandsAt, IsPlaceOfRequest, Requests, ComesToPass, StandsFlagged, WaitsUnflagged, HeedsFlags, StaysAt, KeepsFrom, KeepsAwayFrom, Parks, MayPark, KeepsParking, IsSameWant, request_in}
use Rattle.loom_strand.specs.StrandInvariant.{IsAsked, AsksIfAny, CrossesIfAny, IsWaiting, LivingInvariant}
use Rattle.loom_strand.specs.PrivateRun.{MayRunFrom, MayRun, Halts, AsksFree, StandsStill, GoesToHalt}
use Rattle.loom_strand.proofs.HaltSteps.{IsComing, coming, site_within, ahead_of}
use Rattle.loom_strand.proofs.LastEntries.{last_blocked}
use Rattle.loom_strand.proofs.NextRequests.{asked_next}
use Rattle.loom_strand.proofs.Openings.{IsLookedAt}
use Rattle.loom_strand.proofs.PartSteps.{passed_by, passes_none}
use Rattle.loom_strand.proofs.Parking.{asked_away, blocked_away, more_blocked}
use Rattle.loom_strand.proofs.Standings.{looked, something, stands_ahead, passes_ahead, halting_ahead, IsAskedAt, asked_at, IsVersionAsked, version_asked, asked_halts, asked_no_begin, asked_cross_at, next_numbers, asked_numbers, one_asked}

-- behind a run, with a version, and with what it came to
abbrev pub went : Strand → Version → Execution → Want → Strand
went s v e x = record s { newest = v; want = request_in x; execution = e }

-- A thread that lives goes on with a version.
pub record LivesOn (s : Strand) (b : Birth) (flags : List ℕ) (newer : Bool) (v : Version) (e : Execution) (x : Want) : Type 0 where
  pub low : IsLowered (lowered s.program)
  pub inv : LivingInvariant s b
  pub may : MayRun (lowered s.program) b s.execution
  pub outrun : newer ≡ true → IsOutrun s.versions v
  pub newer_is : IsOutrun s.versions v → newer ≡ true
  pub run : GoesToHalt (lowered s.program) s.filters b flags newer v s.execution e x

no_both : {A : Type 0} (b : Bool) → b ≡ true → b ≡ false → A
no_both b f g = let no : true ≡ false = sym f ∙ g in cc

-- Where it is blocked it stays as it is.
pub stays_blocked : (s : Strand) (b : Birth) (flags : List ℕ) (newer : Bool) (v : Version) (e : Execution) (x : Want) → LivesOn s b flags newer v e x → ends_blocked s.entries ≡ true → e ≡ s.execution
stays_blocked s b flags newer v e x h is =
    let w : IsWaiting s b h.inv.steps = h.inv.waits is in
    h.run.stands w.halts (own_of s b) h.inv.look h.inv.steps h.inv.there w.place

-- Where it waits for the end of a thread it can't go on.

joining_stopped : (w : Progress) → IsJoining w → IsStopped w
joining_stopped (goes mark y) h = absurd h
joining_stopped (asks line q behind) h = tt
joining_stopped (traps line k) h = tt
joining_stopped ends h = tt
joining_stopped nothing h = absurd h

first_no_join : (c : Flow) (b : Birth) (o : Option Entrance) → IsJoining (first_frame c b o) → ⊥
first_no_join c b None h = h
first_no_join c b (Some en) h = h

joining_halts : (c : Flow) (b : Birth) (e : Execution) → MayRun c b e → IsJoining (next_step c b e.stage e.machine) → IsHalting c e
joining_halts c b e may h = by_stage e.stage refl may h
  where
    by_stage : (t : Stage) → e.stage ≡ t → MayRunFrom c b t e.machine e.walk → IsJoining (next_step c b t e.machine) → IsHalting c e
    by_stage stage.Waits is m j = absurd m
    by_stage stage.Enters is m j = absurd (first_no_join c b (slice_get c.entrances b.func) j)
    by_stage stage.Runs is m j = by_request is (joining_stopped (progress c (position e.machine)) j)
    by_stage stage.Over is m j = absurd m

-- The steps that lead it to where it is, from those that led it to where it was.
pub record HasCome (s : Strand) (b : Birth) (flags : List ℕ) (e : Execution) (first : Look) (steps : List PartStep) : Type 0 where
  pub look : Look
  pub after : List PartStep
  pub there : IsInPart (lowered s.program) s.filters b (own_of s b) e look after
  pub grants : look ≡ looks_for_grant → first ≡ looks_for_grant
  pub joins : look ≡ looks_for_grant → IsJoining (next_step (lowered s.program) b e.stage e.machine)
  pub passes : PassesUnflagged s.program flags (walk_of s.program (plans s) (own_of s b) steps) (walk_of s.program (plans s) (own_of s b) after)
  pub same : ends_blocked s.entries ≡ true → after ≡ steps

pub come : (s : Strand) (b : Birth) (flags : List ℕ) (newer : Bool) (v : Version) (e : Execution) (x : Want) (look : Look) (steps : List PartStep) → LivesOn s b flags newer v e x
    → IsInPart (lowered s.program) s.filters b (own_of s b) s.execution look steps → (look ≡ looks_for_grant → IsJoining (next_step (lowered s.program) b s.execution.stage s.execution.machine))
    → HasCome s b flags e look steps
come s b flags newer v e x look steps h there joins = by_blocked (ends_blocked s.entries) refl
  where
    c : Flow
    c = lowered s.program

    joins_on : look ≡ looks_for_grant → IsJoining (next_step (lowered s.program) b e.stage e.machine)
    joins_on g =
        let still : StandsStill (lowered s.program) s.filters b s.execution e = h.run.still (joining_halts (lowered s.program) b s.execution h.may (joins g)) in
        subst (λ (d : Execution). IsJoining (next_step (lowered s.program) b d.stage d.machine)) (sym still.same) (joins g)

    by_blocked : (o : Bool) → ends_blocked s.entries ≡ o → HasCome s b flags e look steps
    by_blocked true is =
        let same : e ≡ s.execution = stays_blocked s b flags newer v e x h is in
        record {
          look = look;
          after = steps;
          there = subst (λ (d : Execution). IsInPart (lowered s.program) s.filters b (own_of s b) d look steps) (sym same) there;
          grants = λ g. g;
          joins = joins_on;
          passes = passes_none s.program flags (walk_of s.program (plans s) (own_of s b) steps) (walk_of s.program (plans s) (own_of s b) steps) refl;
          same = λ g. refl;
        }
    by_blocked false is =
        let g : HasGone (lowered s.program) s.filters b flags e (own_of s b) look steps = h.run.gone (own_of s b) look steps there in
        record {
          look = g.look;
          after = steps ++ g.marks;
          there = g.there;
          grants = g.looks;
          joins = λ y. joins_on (g.looks y);
          passes = g.passes;
          same = λ y. no_both (ends_blocked s.entries) y is;
        }

-- Where it stands

-- The place at which it halts.
pub halts_at : (s : Strand) (b : Birth) (flags : List ℕ) (newer : Bool) (v : Version) (e : Execution) (x : Want) (look : Look) (steps : List PartStep) → IsLowered (lowered s.program) → MayRun (lowered s.program) b e
    → Halts (lowered s.program) s.filters b flags newer v e x → IsInPart (lowered s.program) s.filters b (own_of s b) e look steps
    → IsAskedAt s.program (walk_of s.program (plans s) (own_of s b) steps) (next_step (lowered s.program) b e.stage e.machine) e.place
halts_at s b flags newer v e (want.Ask q) look steps l may h there =
    asked_at s.program (walk_of s.program (plans s) (own_of s b) steps) (next_step (lowered s.program) b e.stage e.machine) (end_line s.program b.func) e.place v q there.there.place (h.0 (own_of s b) look steps there)
halts_at s b flags newer v e (want.Place k) look steps l may h there =
    let z : Walk = walk_of s.program (plans s) (own_of s b) steps in
    let i : IsComing (lowered s.program) (next_step (lowered s.program) b e.stage e.machine) k = coming (lowered s.program) b e.stage e.machine e.walk k l may h.1.0 in
    record {
      place = i.place;
      number = subst (λ j. place_at s.program j ≡ Some i.place) (sym h.1.1.1) i.at;
      ahead = ahead_of z z.owed (next_step (lowered s.program) b e.stage e.machine) i.place (there.there.at.owed ∙ h.0) (i.next z);
    }
halts_at s b flags newer v e want.Ended look steps l may h there = absurd h

pub stands_at : (t : Strand) (b : Birth) (k : ℕ) (look : Look) (steps : List PartStep) → IsLowered (lowered t.program) → MayRun (lowered t.program) b t.execution → t.execution.place ≡ k
    → IsInPart (lowered t.program) t.filters b (own_of t b) t.execution look steps → (look ≡ looks_for_grant → IsJoining (next_step (lowered t.program) b t.execution.stage t.execution.machine))
    → IsAskedAt t.program (walk_of t.program (plans t) (own_of t b) steps) (next_step (lowered t.program) b t.execution.stage t.execution.machine) t.execution.place → StandsAt t b k
stands_at t b k look steps l may same there joins a = record {
  here = same;
  place = a.place;
  number = subst (λ j. place_at t.program j ≡ Some a.place) same a.number;
  comes = stands_ahead (lowered t.program) (plans t) (own_of t b) (next_step (lowered t.program) b t.execution.stage t.execution.machine) look steps a.place l
      (something (lowered t.program) b b.func t.execution.stage t.execution.machine t.execution.walk l may) (looked look (next_step (lowered t.program) b t.execution.stage t.execution.machine) joins)
      there.there.rests a.ahead there.way;
}

-- The invariant

asks_on : (s : Strand) (b : Birth) (flags : List ℕ) (newer : Bool) (v : Version) (e : Execution) (x : Want) (look : Look) (steps : List PartStep) → Halts (lowered s.program) s.filters b flags newer v e x
    → IsInPart (lowered s.program) s.filters b (own_of s b) e look steps
    → AsksIfAny s.program (walk_of s.program (plans s) (own_of s b) steps) (next_step (lowered s.program) b e.stage e.machine) (end_line s.program b.func) e.place v (request_in x)
asks_on s b flags newer v e (want.Ask q) look steps h there = h.0 (own_of s b) look steps there
asks_on s b flags newer v e (want.Place k) look steps h there = tt
asks_on s b flags newer v e want.Ended look steps h there = absurd h

crosses_on : (s : Strand) (b : Birth) (flags : List ℕ) (newer : Bool) (v : Version) (e : Execution) (x : Want) → (newer ≡ true → IsOutrun s.versions v) → (IsOutrun s.versions v → newer ≡ true)
    → Halts (lowered s.program) s.filters b flags newer v e x → CrossesIfAny s.versions v (request_in x)
crosses_on s b flags newer v e (want.Ask q) f g h = (λ is. f (sym h.1 ∙ is), λ newest. h.1 ∙ g newest)
crosses_on s b flags newer v e (want.Place k) f g h = tt
crosses_on s b flags newer v e want.Ended f g h = absurd h

waits_still : (s : Strand) (b : Birth) (v : Version) (e : Execution) (x : Want) (steps after : List PartStep) → e ≡ s.execution → after ≡ steps → IsWaiting s b steps → IsWaiting (went s v e x) b after
waits_still s b v e x steps after same kept w =
    let here : IsWaiting (went s v s.execution x) b steps = record { place = w.place; halts = w.halts; asks = w.asks } in
    subst (λ ss. IsWaiting (went s v e x) b ss) (sym kept) (subst (λ (d : Execution). IsWaiting (went s v d x) b steps) (sym same) here)

pub lives_on : (s : Strand) (b : Birth) (flags : List ℕ) (newer : Bool) (v : Version) (e : Execution) (x : Want) → LivesOn s b flags newer v e x → LivingInvariant (went s v e x) b
lives_on s b flags newer v e x h =
    let d : HasCome s b flags e h.inv.look h.inv.steps = come s b flags newer v e x h.inv.look h.inv.steps h h.inv.there (λ g. (h.inv.joins g).1) in
    let g : HasGone (lowered s.program) s.filters b flags e (own_of s b) h.inv.look h.inv.steps = h.run.gone (own_of s b) h.inv.look h.inv.steps h.inv.there in
    let a : IsAskedAt s.program (walk_of s.program (plans s) (own_of s b) d.after) (next_step (lowered s.program) b e.stage e.machine) e.place =
    halts_at s b flags newer v e x d.look d.after h.low h.run.may h.run.halts d.there in
    record {
      function = h.inv.function;
      look = d.look;
      steps = d.after;
      there = d.there;
      joins = λ y. ((h.inv.joins (d.grants y)).0, d.joins y);
      part = h.inv.part;
      asks = asks_on s b flags newer v e x d.look d.after h.run.halts d.there;
      crosses = crosses_on s b flags newer v e x h.outrun h.newer_is h.run.halts;
      blocked = sym g.there.there.at.blocked ∙ (more_blocked s.program (plans s) (own_of s b) h.inv.steps g.marks h.inv.there.way.tells g.there.way.tells ∙ (h.inv.there.there.at.blocked ∙ h.inv.blocked));
      waits = λ is. waits_still s b v e x h.inv.steps d.after (stays_blocked s b flags newer v e x h is) (d.same is) (h.inv.waits is);
      within = site_within (lowered s.program) e.place a.place h.low a.number;
      begun = h.inv.begun;
      lives = h.inv.lives;
      taken = h.inv.taken;
      events = let f : length e.walk.events ≤ length s.execution.walk.events = h.run.notes.events in let k : length s.execution.walk.events ≤ length s.entries = h.inv.events in omega (arith, f, k);
      regions = let f : length e.walk.regions ≤ length s.execution.walk.regions = h.run.notes.regions in let k : length s.execution.walk.regions ≤ length s.entries = h.inv.regions in omega (arith, f, k);
    }

-- What it asks for

pub requests_of : (t : Strand) (b : Birth) (q : Request) → IsLowered (lowered t.program) → MayRun (lowered t.program) b t.execution → LivingInvariant t b → t.want ≡ Some q → Requests t b q
requests_of t b q l may i is =
    let c : Flow = lowered t.program in
    let z : Walk = walk_of t.program (plans t) (own_of t b) i.steps in
    let w : Progress = next_step (lowered t.program) b t.execution.stage t.execution.machine in
    let asked : IsAsked t.program z w (end_line t.program b.func) t.execution.place t.newest q = subst (AsksIfAny t.program z w (end_line t.program b.func) t.execution.place t.newest) is i.asks in
    let crosses : CrossesIfAny t.versions t.newest (Some q) = subst (CrossesIfAny t.versions t.newest) is i.crosses in
    let stood : IsAskedAt t.program z w t.execution.place = asked_at t.program z w (end_line t.program b.func) t.execution.place t.newest q i.there.there.place asked in
    let stands : StandsAt t b t.execution.place = stands_at t b t.execution.place i.look i.steps l may refl i.there (λ g. (i.joins g).1) stood in
    let other = asked_no_begin t.program z w (end_line t.program b.func) t.execution.place t.newest q asked in
    record {
      want = is;
      next = asked_next (lowered t.program) (plans t) (own_of t b) w i.look i.steps t.execution.place t.newest q l (looked i.look w (λ g. (i.joins g).1)) i.there.there.rests asked i.there.way;
      place = subst (IsPlaceOfRequest t b) (sym other) stands;
      at = asked_cross_at t.program z w (end_line t.program b.func) t.execution.place t.newest q asked;
      numbers = asked_numbers t.program z w (end_line t.program b.func) t.execution.place t.newest q (next_numbers (lowered t.program) b t.execution.stage t.execution.machine t.execution.walk l may) asked;
      begins = other ∙ sym i.begun;
      lives = i.lives;
      blocked = λ own front y split told.
          (let ends : ends_blocked t.entries ≡ true = ap ends_blocked split ∙ (last_blocked front y ∙ told) in
          let u : IsWaiting t b i.steps = i.waits ends in
          u.asks t.execution.place t.newest q asked own front y split told);
      crosses = crosses.0;
      outrun = crosses.1;
    }

one_place : (x y : Place) → ◌≡◌ {A = Option Place} (Some x) (Some y) → x ≡ y
one_place x y h = cc

-- It stands at a flagged place.
pub stands_flagged : (s : Strand) (b : Birth) (flags : List ℕ) (newer : Bool) (v : Version) (e : Execution) (k : ℕ) → LivesOn s b flags newer v e (want.Place k) → StandsFlagged (went s v e (want.Place k)) b flags k
stands_flagged s b flags newer v e k h =
    let i : LivingInvariant (went s v e (want.Place k)) b = lives_on s b flags newer v e (want.Place k) h in
    let a : IsAskedAt s.program (walk_of s.program (plans s) (own_of s b) i.steps) (next_step (lowered s.program) b e.stage e.machine) e.place =
    halts_at s b flags newer v e (want.Place k) i.look i.steps h.low h.run.may h.run.halts i.there in
    let w : Progress = next_step (lowered s.program) b e.stage e.machine in
    let next : IsComing (lowered s.program) w k = coming (lowered s.program) b e.stage e.machine e.walk k h.low h.run.may h.run.halts.1.0 in
    let stands : StandsAt (went s v e (want.Place k)) b k = stands_at (went s v e (want.Place k)) b k i.look i.steps h.low h.run.may h.run.halts.1.1.1 i.there (λ g. (i.joins g).1) a in
    let same : next.place ≡ stands.place = one_place next.place stands.place (sym next.at ∙ stands.number) in
    let passes : ComesToPass s.program (plans s) (own_of s b) next.place =
    passes_ahead (lowered s.program) (plans s) (own_of s b) w i.look i.steps next.place h.low (looked i.look w (λ g. (i.joins g).1)) (i.there.there.at.owed ∙ h.run.halts.0) next.mark i.there.way in
    record {
      begun = h.inv.begun;
      lives = h.inv.lives;
      flagged = h.run.halts.1.1.0;
      waits = record { stands = stands; rests = inl (h.run.halts.0, h.run.halts.1.0) };
      passes = λ free. subst (ComesToPass s.program (plans s) (own_of s b)) same passes;
      want = refl;
    }

-- Parking

pub keeps_on : (s : Strand) (b : Birth) (flags : List ℕ) (newer : Bool) (v : Version) (e : Execution) (x : Want) (places : List ℕ) → LivesOn s b flags newer v e x → AreIn places flags → KeepsFrom s b places
    → KeepsFrom (went s v e x) b places
keeps_on s b flags newer v e x places h within k =
    let d : HasCome s b flags e k.look k.steps = come s b flags newer v e x k.look k.steps h k.there k.joins in
    record {
      look = d.look;
      steps = d.after;
      there = d.there;
      passed = passed_by s.program flags places (walk_of s.program (plans s) (own_of s b) k.steps) (walk_of s.program (plans s) (own_of s b) d.after) d.passes within k.passed;
      joins = d.joins;
      stood = λ is.
          subst (λ ss. place_at s.program e.place ≡ Some (request_place (walk_of s.program (plans s) (own_of s b) ss))) (sym (d.same is))
          (subst (λ (u : Execution). place_at s.program u.place ≡ Some (request_place (walk_of s.program (plans s) (own_of s b) k.steps))) (sym (stays_blocked s b flags newer v e x h is)) (k.stood is));
    }

-- What it asks for keeps it away from these places.
pub parks_of : (t : Strand) (b : Birth) (q : Request) (places : List ℕ) → IsLowered (lowered t.program) → MayRun (lowered t.program) b t.execution → t.execution.walk.is_blocked ≡ ends_blocked t.entries
    → (ends_blocked t.entries ≡ true → has_place places t.execution.place ≡ false) → (k : KeepsFrom t b places)
    → IsAsked t.program (walk_of t.program (plans t) (own_of t b) k.steps) (next_step (lowered t.program) b t.execution.stage t.execution.machine) (end_line t.program b.func) t.execution.place t.newest q
    → Parks t b q places
parks_of t b q places l may told free k asked =
    let z : Walk = walk_of t.program (plans t) (own_of t b) k.steps in
    let w : Progress = next_step (lowered t.program) b t.execution.stage t.execution.machine in
    let looks : IsLookedAt k.look w = looked k.look w k.joins in
    let stood : IsAskedAt t.program z w t.execution.place = asked_at t.program z w (end_line t.program b.func) t.execution.place t.newest q k.there.there.place asked in
    let is : z.is_blocked ≡ ends_blocked t.entries = k.there.there.at.blocked ∙ told in
    let away : KeepsAwayFrom t.program places z = record { passed = k.passed; stood = λ y. (t.execution.place, (k.stood (sym is ∙ y), free (sym is ∙ y))) } in
    record {
      asks = asked_away (lowered t.program) (plans t) (own_of t b) w k.look k.steps t.execution.place t.newest q places l looks k.there.there.rests asked away k.there.way;
      blocks = λ y blocks none.
          blocked_away (lowered t.program) (plans t) (own_of t b) w k.look k.steps t.execution.place t.newest q y stood.place places l looks k.there.there.rests stood.ahead (is ∙ none) asked blocks away k.there.way;
    }

not_in : (places flags : List ℕ) (k : ℕ) → AreIn places flags → has_place flags k ≡ false → has_place places k ≡ false
not_in places flags k within none = by_flag (has_place places k) refl
  where
    by_flag : (o : Bool) → has_place places k ≡ o → has_place places k ≡ false
    by_flag true e = no_both (has_place flags k) (within k e) none
    by_flag false e = e

may_park : (s : Strand) (b : Birth) (flags : List ℕ) (newer : Bool) (v : Version) (e : Execution) (q : Request) (places : List ℕ) → LivesOn s b flags newer v e (want.Ask q) → AreIn places flags
    → MayPark s (went s v e (want.Ask q)) b places → MayPark (went s v e (want.Ask q)) (went s v e (want.Ask q)) b places × Parks (went s v e (want.Ask q)) b q places
may_park s b flags newer v e q places h within (inr none) = no_both (has_none s.entries) none h.inv.begun
may_park s b flags newer v e q places h within (inl k) =
    let n : KeepsFrom (went s v e (want.Ask q)) b places = keeps_on s b flags newer v e (want.Ask q) places h within k in
    let i : LivingInvariant (went s v e (want.Ask q)) b = lives_on s b flags newer v e (want.Ask q) h in (
      inl n,
      parks_of (went s v e (want.Ask q)) b q places h.low h.run.may i.blocked
          (λ is. not_in places flags e.place within
          (subst (λ (d : Execution). has_place flags d.place ≡ false) (sym (stays_blocked s b flags newer v e (want.Ask q) h is)) (h.run.unblocked (h.inv.blocked ∙ is))))
          n (h.run.halts.0 (own_of s b) n.look n.steps n.there),
    )

pub parks_on : (s : Strand) (b : Birth) (flags : List ℕ) (newer : Bool) (v : Version) (e : Execution) (x : Want) → LivesOn s b flags newer v e x → KeepsParking s (went s v e x) (Some b) flags x
parks_on s b flags newer v e (want.Ask q) h = λ places within f. may_park s b flags newer v e q places h within f
parks_on s b flags newer v e (want.Place k) h = λ places within f. keeps_on s b flags newer v e (want.Place k) places h within f
parks_on s b flags newer v e want.Ended h = tt

-- Where it waited

pub stays_on : (s : Strand) (b : Birth) (flags : List ℕ) (newer : Bool) (v : Version) (e : Execution) (x : Want) → LivesOn s b flags newer v e x → StaysAt s (went s v e x) (Some b) flags v
stays_on s b flags newer v e x h k waits stops = by_rests waits.rests
  where
    by_stop : (has_place flags k ≡ true) ⊎ IsOutrun s.versions v → (has_place flags k ≡ true) ⊎ (newer ≡ true)
    by_stop (inl flag) = inl flag
    by_stop (inr newest) = inr (h.newer_is newest)

    by_rests : ((queue s.execution.walk.owed ≡ []) × PassesNext (lowered s.program) b s.execution k) ⊎ (ends_blocked s.entries ≡ true) → e.place ≡ k
    by_rests (inl (rests, passes)) = ap (λ (d : Execution). d.place) (h.run.stays k (record { rests = rests; passes = passes; stops = by_stop stops }))
    by_rests (inr is) = ap (λ (d : Execution). d.place) (stays_blocked s b flags newer v e x h is) ∙ waits.stands.here

-- It asks for something where it waits at no flagged place.

free_still : (c : Flow) (cs : List (Option Compiled)) (b : Birth) (flags : List ℕ) (old new : Execution) (q : Request) (k : ℕ) → StandsStill c cs b old new → AsksFree c b flags new (want.Ask q) → queue old.walk.owed ≡ []
    → PassesNext c b old k → has_place flags k ≡ false
free_still c cs b flags old new q k still free rests passes =
    free k (ap (λ (d : Execution). queue d.walk.owed) still.same ∙ rests) (subst (λ (d : Execution). PassesNext c b d k) (sym still.same) passes)

blocked_free : (s : Strand) (b : Birth) (flags : List ℕ) (newer : Bool) (v : Version) (e : Execution) (x : Want) (k : ℕ) → LivesOn s b flags newer v e x → ends_blocked s.entries ≡ true → s.execution.place ≡ k
    → has_place flags k ≡ false
blocked_free s b flags newer v e x k h is here = subst (λ n. has_place flags n ≡ false) here (h.run.unblocked (h.inv.blocked ∙ is))

waited_free : (s : Strand) (b : Birth) (flags : List ℕ) (newer : Bool) (v : Version) (e : Execution) (q : Request) → LivesOn s b flags newer v e (want.Ask q) → WaitsUnflagged s b flags
waited_free s b flags newer v e q h k waits = by_flag (has_place flags k) refl waits.rests
  where
    by_flag : (o : Bool) → has_place flags k ≡ o → ((queue s.execution.walk.owed ≡ []) × PassesNext (lowered s.program) b s.execution k) ⊎ (ends_blocked s.entries ≡ true) → has_place flags k ≡ false
    by_flag false is rests = is
    by_flag true is (inl (rests, passes)) =
        free_still (lowered s.program) s.filters b flags s.execution e q k (h.run.waits k (record { rests = rests; passes = passes; stops = inl is })) h.run.free rests passes
    by_flag true is (inr told) = blocked_free s b flags newer v e (want.Ask q) k h told waits.stands.here

waits_free : (s : Strand) (b : Birth) (flags : List ℕ) (newer : Bool) (v : Version) (e : Execution) (q : Request) → LivesOn s b flags newer v e (want.Ask q) → WaitsUnflagged (went s v e (want.Ask q)) b flags
waits_free s b flags newer v e q h k waits = by_rests waits.rests
  where
    by_rests : ((queue e.walk.owed ≡ []) × PassesNext (lowered s.program) b e k) ⊎ (ends_blocked s.entries ≡ true) → has_place flags k ≡ false
    by_rests (inl (rests, passes)) = h.run.free k rests passes
    by_rests (inr is) =
        blocked_free s b flags newer v e (want.Ask q) k h is (ap (λ (d : Execution). d.place) (sym (stays_blocked s b flags newer v e (want.Ask q) h is)) ∙ waits.stands.here)

pub heeds_on : (s : Strand) (b : Birth) (flags : List ℕ) (newer : Bool) (v : Version) (e : Execution) (x : Want) → LivesOn s b flags newer v e x → HeedsFlags s (went s v e x) (Some b) flags x
heeds_on s b flags newer v e (want.Ask q) h = (waited_free s b flags newer v e q h, waits_free s b flags newer v e q h)
heeds_on s b flags newer v e (want.Place k) h = tt
heeds_on s b flags newer v e want.Ended h = absurd h.run.halts

-- The same again

one_ahead : (os : Queue) (z : Walk) (w : Progress) (y u : Place) → IsPlaceAhead os z w y → IsPlaceAhead os z w u → u ≡ y
one_ahead (o ∷ os) z w y u f g = sym g ∙ f
one_ahead [] z (goes None v) y u f g = absurd f
one_ahead [] z (goes (Some (made l a)) v) y u f g = absurd f
one_ahead [] z (goes (Some (begins l env)) v) y u f g = absurd f
one_ahead [] z (goes (Some (done l)) v) y u f g = absurd f
one_ahead [] z (goes (Some (edge l)) v) y u f g = sym g ∙ f
one_ahead [] z (goes (Some (enter n env)) v) y u f g = sym g ∙ f
one_ahead [] z (goes (Some (out l)) v) y u f g = absurd f
one_ahead [] z (asks line q behind) y u f g = sym g ∙ f
one_ahead [] z (traps line k) y u f g = sym g ∙ f
one_ahead [] z ends y u f g = sym g ∙ f
one_ahead [] z nothing y u f g = absurd f

-- What is asked for at a position stops the thread there, or its next step passes a place.
abbrev Closes : Flow → Birth → Execution → Type 0
Closes c b e = IsHalting c e ⊎ ((queue e.walk.owed ≡ []) × ((k : ℕ) × PassesNext c b e k))

ahead_closes : (c : Flow) (n : ℕ) (z : Walk) (w : Progress) (y : Place) → IsNextPlace z w y → IsStopped w ⊎ ((k : ℕ) × (place_coming c n w ≡ Some k))
ahead_closes c n z (goes None v) y h = absurd h
ahead_closes c n z (goes (Some (made l a)) v) y h = absurd h
ahead_closes c n z (goes (Some (begins l env)) v) y h = absurd h
ahead_closes c n z (goes (Some (done l)) v) y h = absurd h
ahead_closes c n z (goes (Some (edge l)) v) y h = inr (n, refl)
ahead_closes c n z (goes (Some (enter f env)) v) y h = inr (place_of_entrance (slice_get c.entrances f), refl)
ahead_closes c n z (goes (Some (out l)) v) y h = absurd h
ahead_closes c n z (asks line q behind) y h = inl tt
ahead_closes c n z (traps line k) y h = inl tt
ahead_closes c n z ends y h = inl tt
ahead_closes c n z nothing y h = absurd h

first_closes : (c : Flow) (b : Birth) (z : Walk) (y : Place) (o : Option Entrance) → IsNextPlace z (first_frame c b o) y → (k : ℕ) × (option_map (λ (x : Entrance). x.place) o ≡ Some k)
first_closes c b z y None h = absurd h
first_closes c b z y (Some en) h = (en.place, refl)

place_closes : (c : Flow) (b : Birth) (e : Execution) (z : Walk) (y : Place) → MayRun c b e → queue e.walk.owed ≡ [] → IsNextPlace z (next_step c b e.stage e.machine) y → Closes c b e
place_closes c b e z y may rests h = by_stage e.stage refl may h
  where
    by_kind : e.stage ≡ stage.Runs → IsStopped (progress c (position e.machine)) ⊎ ((k : ℕ) × (place_coming c (place_here c (position e.machine)) (progress c (position e.machine)) ≡ Some k)) → Closes c b e
    by_kind is (inl stop) = inl (by_request is stop)
    by_kind is (inr (k, g)) = inr (rests, (k, subst (λ t. PassesNextFrom c b t e.machine k) (sym is) g))

    by_stage : (t : Stage) → e.stage ≡ t → MayRunFrom c b t e.machine e.walk → IsNextPlace z (next_step c b t e.machine) y → Closes c b e
    by_stage stage.Waits is m j = absurd m
    by_stage stage.Enters is m j =
        let f : (k : ℕ) × (option_map (λ (x : Entrance). x.place) (slice_get c.entrances b.func) ≡ Some k) = first_closes c b z y (slice_get c.entrances b.func) j in
        inr (rests, (f.0, subst (λ t. PassesNextFrom c b t e.machine f.0) (sym is) f.1))
    by_stage stage.Runs is m j = by_kind is (ahead_closes c (place_here c (position e.machine)) z (progress c (position e.machine)) y j)
    by_stage stage.Over is m j = absurd m

pub closes : (c : Flow) (b : Birth) (e : Execution) (z : Walk) (y : Place) → MayRun c b e → z.owed ≡ queue e.walk.owed → IsPlaceAhead z.owed z (next_step c b e.stage e.machine) y → Closes c b e
closes c b e z y may same h = by_queue z.owed refl h
  where
    by_queue : (os : Queue) → z.owed ≡ os → IsPlaceAhead os z (next_step c b e.stage e.machine) y → Closes c b e
    by_queue [] is g = place_closes c b e z y may (sym same ∙ is) g
    by_queue (o ∷ os) is g = inl (by_owed (λ none. let no : o ∷ os ≡ [] = sym is ∙ (same ∙ none) in cc))

-- Where it asks with the same version it stands still.
still_asking : (s : Strand) (b : Birth) (flags : List ℕ) (newer : Bool) (v : Version) (e : Execution) (x : Want) (k : ℕ) (q : Request) (h : LivesOn s b flags newer v e x)
    → IsAsked s.program (walk_of s.program (plans s) (own_of s b) h.inv.steps) (next_step (lowered s.program) b s.execution.stage s.execution.machine) (end_line s.program b.func) s.execution.place s.newest q
    → (asks_cross q ≡ true → newer ≡ true) → StandsStill (lowered s.program) s.filters b s.execution e
still_asking s b flags newer v e x k q h asked new = by_cross (asks_cross q) refl
  where
    z : Walk
    z = walk_of s.program (plans s) (own_of s b) h.inv.steps

    by_kind : newer ≡ true → Closes (lowered s.program) b s.execution → StandsStill (lowered s.program) s.filters b s.execution e
    by_kind is (inl halts) = h.run.still halts
    by_kind is (inr (rests, (j, passes))) = h.run.waits j (record { rests = rests; passes = passes; stops = inr is })

    by_cross : (o : Bool) → asks_cross q ≡ o → StandsStill (lowered s.program) s.filters b s.execution e
    by_cross true is =
        let a : IsAskedAt s.program z (next_step (lowered s.program) b s.execution.stage s.execution.machine) s.execution.place =
        asked_at s.program z (next_step (lowered s.program) b s.execution.stage s.execution.machine) (end_line s.program b.func) s.execution.place s.newest q h.inv.there.there.place asked in
        by_kind (new is) (closes (lowered s.program) b s.execution z a.place h.may h.inv.there.there.at.owed a.ahead)
    by_cross false is =
        h.run.still (asked_halts (lowered s.program) b s.execution z (end_line s.program b.func) s.execution.place s.newest q h.may h.inv.there.there.at.owed asked is)

same_cross : (p : Source) (y y' : Place) (k k' n : ℕ) (v v' : Version) (q u : Request) → y' ≡ y → k' ≡ k → v' ≡ v → q ≡ r.Cross (line_of_place p y) k v.number n → u ≡ r.Cross (line_of_place p y') k' v'.number n → u ≡ q
same_cross p y y' k k' n v v' q u same here is f g = cc

same_number : (p : Source) → KeepsRules p → (k k' : ℕ) (y y' : Place) → y' ≡ y → place_at p k ≡ Some y → place_at p k' ≡ Some y' → k' ≡ k
same_number p r k k' y y' same f g = sym (one_number p r k' y (g ∙ ap {B = Option Place} Some same)) ∙ one_number p r k y f

one_version : (p : Source) → KeepsRules p → (z : Walk) (w : Progress) (k k' : ℕ) (v v' : Version) (q u : Request) → v' ≡ v → IsVersionAsked p z w k v q → IsVersionAsked p z w k' v' u → u ≡ q
one_version p r z w k k' v v' q u same f g =
    let here : g.place ≡ f.place = one_ahead z.owed z w f.place g.place f.ahead g.ahead in
    same_cross p f.place g.place k k' (length z.passed) v v' q u here (same_number p r k k' f.place g.place here f.number g.number) same f.is g.is

pub again_on : (s : Strand) (b : Birth) (flags : List ℕ) (newer : Bool) (v : Version) (e : Execution) (x : Want) → KeepsRules s.program → LivesOn s b flags newer v e x → (q : Request) → s.want ≡ Some q → v ≡ s.newest
    → IsSameWant q x
again_on s b flags newer v e (want.Place k) r h q is same = tt
again_on s b flags newer v e want.Ended r h q is same = absurd h.run.halts
again_on s b flags newer v e (want.Ask u) r h q is same =
    let z : Walk = walk_of s.program (plans s) (own_of s b) h.inv.steps in
    let w : Progress = next_step (lowered s.program) b s.execution.stage s.execution.machine in
    let line : ℕ = end_line s.program b.func in
    let asked : IsAsked s.program z w line s.execution.place s.newest q = subst (AsksIfAny s.program z w line s.execution.place s.newest) is h.inv.asks in
    let crosses : CrossesIfAny s.versions s.newest (Some q) = subst (CrossesIfAny s.versions s.newest) is h.inv.crosses in
    let fresh : asks_cross q ≡ true → newer ≡ true = λ g. h.newer_is (subst (IsOutrun s.versions) (sym same) (crosses.0 g)) in
    let stale : newer ≡ true → asks_cross q ≡ true = λ g. crosses.1 (subst (IsOutrun s.versions) same (h.outrun g)) in
    let still : StandsStill (lowered s.program) s.filters b s.execution e = still_asking s b flags newer v e (want.Ask u) s.execution.place q h asked fresh in
    let there : IsInPart (lowered s.program) s.filters b (own_of s b) e h.inv.look h.inv.steps = still.keeps (own_of s b) h.inv.look h.inv.steps h.inv.there in
    let again : IsAsked s.program z w line e.place v u =
    subst (λ y. IsAsked s.program z y line e.place v u) (ap (λ (d : Execution). next_step (lowered s.program) b d.stage d.machine) still.same) (h.run.halts.0 (own_of s b) h.inv.look h.inv.steps there) in
    by_cross s z w line v e.place q u r asked again same (h.run.halts.1) fresh stale (asks_cross q) refl
  where
    by_cross : (s : Strand) (z : Walk) (w : Progress) (line : ℕ) (v : Version) (k : ℕ) (q u : Request) → KeepsRules s.program → IsAsked s.program z w line s.execution.place s.newest q → IsAsked s.program z w line k v u
        → v ≡ s.newest → asks_cross u ≡ newer → (asks_cross q ≡ true → newer ≡ true) → (newer ≡ true → asks_cross q ≡ true) → (o : Bool) → asks_cross q ≡ o → u ≡ q
    by_cross s z w line v k q u r f g same kind fresh stale true is =
        one_version s.program r z w s.execution.place k s.newest v q u same (version_asked s.program z w line s.execution.place s.newest q f is) (version_asked s.program z w line k v u g (kind ∙ fresh is))
    by_cross s z w line v k q u r f g same kind fresh stale false is =
        one_asked s.program z w line s.execution.place k s.newest v q u f g is (kind ∙ old newer refl)
      where
        old : (o : Bool) → newer ≡ o → newer ≡ false
        old true e = no_both (asks_cross q) (stale e) is
        old false e = e

-- Blocked at a flagged place

abbrev pub halted : Strand → Version → Strand
halted s v = went s v s.execution (want.Place s.execution.place)

pub blocked_lives : (s : Strand) (b : Birth) (v : Version) → LivingInvariant s b → LivingInvariant (halted s v) b
blocked_lives s b v i = record {
  function = i.function;
  look = i.look;
  steps = i.steps;
  there = i.there;
  joins = i.joins;
  part = i.part;
  asks = tt;
  crosses = tt;
  blocked = i.blocked;
  waits = λ is. waits_still s b v s.execution (want.Place s.execution.place) i.steps i.steps refl refl (i.waits is);
  within = i.within;
  begun = i.begun;
  lives = i.lives;
  taken = i.taken;
  events = i.events;
  regions = i.regions;
}

pub blocked_stands : (s : Strand) (b : Birth) (flags : List ℕ) (v : Version) → IsLowered (lowered s.program) → MayRun (lowered s.program) b s.execution → LivingInvariant s b → s.execution.walk.is_blocked ≡ true
    → has_place flags s.execution.place ≡ true → StandsFlagged (halted s v) b flags s.execution.place
blocked_stands s b flags v l may i told flag =
    let is : ends_blocked s.entries ≡ true = sym i.blocked ∙ told in
    let w : IsWaiting s b i.steps = i.waits is in
    let z : Walk = walk_of s.program (plans s) (own_of s b) i.steps in
    let a : IsAskedAt s.program z (next_step (lowered s.program) b s.execution.stage s.execution.machine) s.execution.place =
    record { place = request_place z; number = w.place; ahead = halting_ahead (lowered s.program) b s.execution z w.halts i.there.there.at.owed } in
    record {
      begun = i.begun;
      lives = i.lives;
      flagged = flag;
      waits = record { stands = stands_at (halted s v) b s.execution.place i.look i.steps l may refl i.there (λ g. (i.joins g).1) a; rests = inr is };
      passes = λ free. no_both (ends_blocked s.entries) is free;
      want = refl;
    }

pub blocked_keeps : (s : Strand) (b : Birth) (v : Version) (places : List ℕ) → KeepsFrom s b places → KeepsFrom (halted s v) b places
blocked_keeps s b v places k = record { look = k.look; steps = k.steps; there = k.there; passed = k.passed; joins = k.joins; stood = k.stood }
