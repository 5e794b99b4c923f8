-- A thread is told that its request is disabled, and keeps all that it has to.
use Rattle.std.proofs.Common.{ℕ, ◌≡◌, true, false, List, [], ◌∷◌, ◌++◌, Some, refl, sym, ap, subst, ◌∙◌}
use Rattle.loom_lang.specs.Places.{place_at}
use Rattle.loom_trace.specs.declared.entry.Entry.{Entry}
use Rattle.loom_trace.specs.declared.entry.Entry.TheVariants as e
use Rattle.loom_trace.specs.declared.entry.What.{What}
use Rattle.loom_trace.specs.declared.entry.What.TheVariants as w
use Rattle.loom_trace.specs.declared.request.Request.{Request}
use Rattle.loom_event.specs.Answer.{IsBlockedAt}
use Rattle.loom_flow.specs.Flow.{Flow}
use Rattle.loom_flow.specs.FlatCode.{lowered}
use Rattle.loom_flow.specs.Code.{IsLowered}
use Rattle.loom_flow.specs.Progress.{Progress, progress}
use Rattle.loom_law.specs.Laws.{with_newest}
use Rattle.loom_law.specs.Walk.{blocked, PartStep, makes, Walk, request_place, after_operation, Owes}
use Rattle.loom_law.specs.ThreadPart.{walk_of}
use Rattle.loom_law.specs.TurnLaws.{is_blocked_entry, ends_blocked}
use Rattle.loom_walk.specs.FilterWalk.{IsAt}
use Rattle.loom_strand.specs.declared.execution.Execution.{Execution}
use Rattle.loom_strand.specs.declared.stage.Birth.{Birth}
use Rattle.loom_strand.specs.declared.stage.Stage.TheVariants as stage
use Rattle.loom_strand.specs.declared.reply.Reply.TheVariants as a
use Rattle.loom_strand.specs.Machine.{position}
use Rattle.loom_strand.specs.PositionRequest.{request_at}
use Rattle.loom_strand.specs.Reply.{reply_of, want_behind, Takes}
use Rattle.loom_strand.specs.Life.{is_end, awaits_behind, awaits_end, asks_cross, IsLastBlockedAt}
use Rattle.loom_strand.specs.Way.{Look, looks_nowhere, looks_ahead, looks_for_grant, end_line, next_step, IsPlaceAhead, IsJoining}
use Rattle.loom_strand.specs.Halt.{IsHalting, by_request, by_owed}
use Rattle.loom_strand.specs.InPart.{IsInPart}
use Rattle.loom_strand.specs.PrivateRun.{IsRunning}
use Rattle.loom_strand.specs.Strand.{Strand, plans, own_of, CanTake}
use Rattle.loom_strand.specs.StrandInvariant.{IsAsked, asks_act, asks_owed, asks_version, CrossesIfAny, LivingInvariant, StrandInvariant}
use Rattle.loom_strand.proofs.Acted.{stopped_asking, sound_runs}
use Rattle.loom_strand.proofs.Answered.{owing, stage_on, may_take}
use Rattle.loom_strand.proofs.BlockSteps.{part_blocked, blocked_walk, blocked_last, blocked_no_cross, blocked_awaits}
use Rattle.loom_strand.proofs.BlockWays.{HasBlock, way_blocks}
use Rattle.loom_strand.proofs.LastEntries.{last_awaits}
use Rattle.loom_strand.proofs.NextRequests.{ahead_there, HasItem}
use Rattle.loom_strand.proofs.Openings.{IsLookedAt}
use Rattle.loom_strand.proofs.RunSteps.{runs_next}
use Rattle.loom_strand.proofs.Standings.{looked, something, stands_ahead, halting_ahead, one_asked}
use Rattle.loom_strand.proofs.Taken.{program_lowered, own_behind, its_next, own_walk, LivesBehind, living_fit, kept_as, kept_on, IsTaken, same_next}

awaits_told : (s : Strand) (x : Entry) (l n : ℕ) (what : What) → x ≡ e.Blocked s.thread l what → what ≡ w.Join n → awaits_behind (awaits_end s.entries) x ≡ true
awaits_told s x l n what is joins = ap (awaits_behind (awaits_end s.entries)) is ∙ blocked_awaits (awaits_end s.entries) s.thread l n what joins

joining : (look : Look) (p : Progress) → look ≡ looks_for_grant → IsLookedAt look p → IsJoining p
joining looks_nowhere p h g = cc
joining looks_ahead p h g = cc
joining looks_for_grant p h g = g

-- What was asked for, by a thread that isn't blocked yet.
pub record IsDisabled (s : Strand) (b : Birth) (x : Entry) (q : Request) : Type 0 where
  pub kept : StrandInvariant s
  pub birth : s.birth ≡ Some b
  pub runs : s.execution.stage ≡ stage.Runs
  pub living : LivingInvariant s b
  pub free : ends_blocked s.entries ≡ false
  pub want : s.want ≡ Some q
  pub asks : IsAsked s.program (walk_of s.program (plans s) (own_of s b) living.steps) (its_next s b s.execution) (end_line s.program b.func) s.execution.place s.newest q
  pub told : IsBlockedAt s.thread q x

-- the way behind it
its_block : (s : Strand) (b : Birth) (x : Entry) (q : Request) (d : IsDisabled s b x q) → HasBlock (lowered s.program) (plans s) (own_of s b) (its_next s b s.execution) d.living.steps x
its_block s b x q d =
    way_blocks (lowered s.program) (plans s) (own_of s b) (its_next s b s.execution) d.living.look d.living.steps s.execution.place s.newest q x
    (looked d.living.look (its_next s b s.execution) (λ grant. (d.living.joins grant).1)) d.living.there.there.rests
    (d.living.there.there.at.blocked ∙ (d.living.blocked ∙ d.free)) d.asks d.told d.living.there.way

-- It can't go on from there.
halts_blocked : (s : Strand) (b : Birth) (q : Request) (e : Execution) (z u : Walk) (line k : ℕ) → e.stage ≡ stage.Runs → its_next s b e ≡ its_next s b s.execution → u.owed ≡ z.owed → IsAt s.program (plans s) e.walk u
    → asks_cross q ≡ false → IsAsked s.program z (its_next s b s.execution) line k s.newest q → IsHalting (lowered s.program) e
halts_blocked s b q e z u line k runs next same now no_version (asks_act none is there) =
    by_request runs (stopped_asking line (progress (lowered s.program) (position e.machine)) q (ap (request_at line) (sym (runs_next (lowered s.program) b e runs) ∙ next) ∙ is))
halts_blocked s b q e z u line k runs next same now no_version (asks_owed l o owes is) = by_owed (λ none. owing z.owed l o owes (sym same ∙ (now.owed ∙ none)))
halts_blocked s b q e z u line k runs next same now no_version (asks_version y ahead there is) = let wrong : true ≡ false = sym (ap asks_cross is) ∙ no_version in cc

-- It asks for the same, at the same place.
asked_behind : (s : Strand) (b : Birth) (q : Request) (e : Execution) (z u : Walk) (line : ℕ) → its_next s b e ≡ its_next s b s.execution → u.owed ≡ z.owed → request_place u ≡ request_place z → e.place ≡ s.execution.place
    → asks_cross q ≡ false → IsAsked s.program z (its_next s b s.execution) line s.execution.place s.newest q → IsAsked s.program u (its_next s b e) line e.place s.newest q
asked_behind s b q e z u line next same place stays no_version (asks_act none is there) =
    asks_act (same ∙ none) (ap (request_at line) next ∙ is) (subst (λ k. place_at s.program k ≡ Some (request_place u)) (sym stays) (there ∙ ap (λ y. Some y) (sym place)))
asked_behind s b q e z u line next same place stays no_version (asks_owed l o owes is) = asks_owed l o (subst (λ os. Owes os l o) (sym same) owes) is
asked_behind s b q e z u line next same place stays no_version (asks_version y ahead there is) = let wrong : true ≡ false = sym (ap asks_cross is) ∙ no_version in cc

-- and stands there
asked_place_of : (s : Strand) (b : Birth) (q : Request) (d : LivingInvariant s b) → asks_cross q ≡ false
    → IsAsked s.program (walk_of s.program (plans s) (own_of s b) d.steps) (its_next s b s.execution) (end_line s.program b.func) s.execution.place s.newest q
    → place_at s.program s.execution.place ≡ Some (request_place (walk_of s.program (plans s) (own_of s b) d.steps))
asked_place_of s b q d no_version (asks_act none is there) = there
asked_place_of s b q d no_version (asks_owed l o owes is) = d.there.there.place.owing (λ none. owing (walk_of s.program (plans s) (own_of s b) d.steps).owed l o owes none)
asked_place_of s b q d no_version (asks_version y ahead there is) = let wrong : true ≡ false = sym (ap asks_cross is) ∙ no_version in cc

behind_blocked : (s : Strand) (b : Birth) (x : Entry) (q : Request) (d : IsDisabled s b x q) (e : Execution) → Takes (lowered s.program) s.filters s.newest s.execution e a.Waits → LivesBehind s b s.versions x (Some q) e
behind_blocked s b x q d e t =
    let c : Flow = lowered s.program in
    let low : IsLowered c = program_lowered s.program d.kept.lawful in
    let k : HasBlock c (plans s) (own_of s b) (its_next s b s.execution) d.living.steps x = its_block s b x q d in
    let steps : List PartStep = d.living.steps ++ makes k.line (blocked k.what) ∷ [] in
    let z : Walk = walk_of s.program (plans s) (own_of s b) d.living.steps in
    let u : Walk = own_walk s b s.versions x steps in
    let there : IsInPart c s.filters b (own_behind s b s.versions x) e k.look steps = part_blocked c s.filters b s.newest (own_of s b) s.execution e d.living.look d.living.steps x low t.stage t k d.living.there in
    let behind : u ≡ after_operation s.program (plans s) z (blocked k.what) = blocked_walk s.program (plans s) (own_behind s b s.versions x) d.living.steps k.line k.what in
    let owed : u.owed ≡ z.owed = ap (λ (y : Walk). y.owed) behind in
    let place : request_place u ≡ request_place z = ap request_place behind in
    let runs : e.stage ≡ stage.Runs = t.stage ∙ d.runs in
    let next : its_next s b e ≡ its_next s b s.execution = same_next c b s.execution e t.stage t.machine in
    let no_version : asks_cross q ≡ false = blocked_no_cross s.thread q x d.told in
    let halts : IsHalting c e = halts_blocked s b q e z u (end_line s.program b.func) s.execution.place runs next owed there.there.at no_version d.asks in
    let asks : IsAsked s.program u (its_next s b e) (end_line s.program b.func) e.place s.newest q =
    asked_behind s b q e z u (end_line s.program b.func) next owed place t.place no_version d.asks in
    let ahead : IsPlaceAhead u.owed u (its_next s b e) (request_place u) = halting_ahead c b e u halts there.there.at.owed in
    let looks : IsLookedAt k.look (its_next s b e) = subst (IsLookedAt k.look) (sym next) k.looks in
    let running : IsRunning c s.execution.machine = record { sound = (sound_runs s d.kept d.runs).0; own = (sound_runs s d.kept d.runs).1; room = d.kept.room } in
    let some : HasItem c b.func (its_next s b e) = subst (HasItem c b.func) (ap (λ y. next_step c b y s.execution.machine) (sym d.runs) ∙ sym next) (something c b b.func stage.Runs s.execution.machine s.execution.walk low running) in
    let number : place_at s.program e.place ≡ Some (request_place u) =
    subst (λ n. place_at s.program n ≡ Some (request_place u)) (sym t.place) (asked_place_of s b q d.living no_version d.asks ∙ ap (λ y. Some y) (sym place)) in
    record {
      look = k.look;
      steps = steps;
      there = there;
      ahead = ahead_there c b.func (its_next s b e) u u.owed (request_place u) k.look looks there.there.rests ahead;
      joins = λ grant. (
          let n = k.joins grant in
          (last_awaits s.entries x ∙ awaits_told s x k.line n.0 k.what k.entry n.1, joining k.look (its_next s b e) grant looks)
          );
      none = ap (λ (y : Walk). y.passed) behind;
      asks = asks;
      crosses = subst (CrossesIfAny s.versions s.newest) d.want d.living.crosses;
      blocked = ap (λ (y : Walk). y.is_blocked) behind ∙ sym (ap is_blocked_entry k.entry);
      waits = λ told. (
        record {
          place = number;
          halts = halts;
          asks = λ n v p g other. subst (λ y. IsLastBlockedAt s.thread y (s.entries ++ x ∷ [])) (sym (one_asked s.program u (its_next s b e) (end_line s.program b.func) e.place n s.newest v q p asks g no_version other))
              (blocked_last s.thread q s.entries x d.told);
        },
        record {
          place = request_place u;
          number = number;
          here = refl;
          comes = stands_ahead c (plans s) (own_behind s b s.versions x) (its_next s b e) k.look steps (request_place u) low some looks there.there.rests ahead there.way;
        },
      );
      lives = ap is_end k.entry;
      taken = d.living.taken;
    }

-- the same want, and no version
blocked_want : (s : Strand) (x : Entry) (q : Request) (l : ℕ) (what : What) → x ≡ e.Blocked s.thread l what → s.want ≡ Some q → want_behind (reply_of x) s.want ≡ Some q
blocked_want s x q l what is asked = ap (λ y. want_behind (reply_of y) s.want) is ∙ asked

blocked_versions : (s : Strand) (x : Entry) (l : ℕ) (what : What) → x ≡ e.Blocked s.thread l what → with_newest x s.newest s.versions ≡ s.versions
blocked_versions s x l what is = ap (λ y. with_newest y s.newest s.versions) is

pub blocked_taken : (s : Strand) (b : Birth) (x : Entry) (q : Request) → IsDisabled s b x q → IsTaken s b x
blocked_taken s b x q d =
    let k : HasBlock (lowered s.program) (plans s) (own_of s b) (its_next s b s.execution) d.living.steps x = its_block s b x q d in
    let may : CanTake s s.newest = may_take s q d.kept d.want in
    record {
      reply = a.Waits;
      is = ap reply_of k.entry;
      follow = tt;
      walk = tt;
      room = λ g. (let wrong : false ≡ true = g in cc);
      keeps = λ n t. kept_as s b s.versions x x (Some q) n refl (blocked_versions s x k.line k.what k.entry) (blocked_want s x q k.line k.what k.entry d.want)
          (kept_on s b s.versions x (Some q) n stage.Runs d.kept (living_fit s b n d.kept d.living t.place t.notes) (stage_on s b n d.kept d.birth d.runs t.stage t.machine) tt
          (record { filters = may.filters; later = may.later }) (behind_blocked s b x q d n t));
    }
