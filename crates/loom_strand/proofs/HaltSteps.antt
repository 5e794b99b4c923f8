-- What a thread asks for where it stopped, and the place at which it stands.
use Rattle.std.proofs.Common.{ℕ, ◌≡◌, ◌<◌, false, List, [], ◌∷◌, ◌++◌, ℤ, pos, negsuc, Option, Some, None, length, slice_get, refl, inl, inr, sym, ap, subst, ◌∙◌}
use Rattle.std.specs.Prelude.{option_map}
use Rattle.std.proofs.lemmas.Option.{slice_get_within}
use Rattle.loom_tree.specs.Tree.{Source}
use Rattle.loom_lang.specs.Places.{Place, places, place_at, line_of_place}
use Rattle.loom_lang.specs.Places as site
use Rattle.loom_lang.specs.Trace as trace
use Rattle.loom_lang.specs.Trace.{Item, Outcome, Open, Act, made, begins, done, edge, enter, out, begin, end, trap, Cause, reason, threads, not_spawned, IsTrace}
use Rattle.loom_flow.specs.declared.code.Entrance.{Entrance}
use Rattle.loom_flow.specs.Flow.{Flow}
use Rattle.loom_flow.specs.Position.{Position}
use Rattle.loom_flow.specs.Question.{Question, read, write, lock, unlock, down, up, spawn, join, print}
use Rattle.loom_flow.specs.Progress.{Progress, goes, asks, traps, ends, nothing, progress}
use Rattle.loom_flow.specs.Code.{IsLowered}
use Rattle.loom_flow.proofs.FlowLaws.{instructions_of, as_many_sites}
use Rattle.loom_trace.specs.declared.request.Request.{Request}
use Rattle.loom_trace.specs.declared.request.Request.TheVariants as r
use Rattle.loom_law.specs.Walk.{Plans, PartStep, items, Queue, Walk, request_place}
use Rattle.loom_law.specs.ThreadPart.{Own, walk_of}
use Rattle.loom_plan.specs.Compiled.{Compiled}
use Rattle.loom_walk.specs.Owed.{queue}
use Rattle.loom_walk.specs.FilterWalk.{FilterWalk}
use Rattle.loom_strand.specs.declared.execution.Execution.{Execution}
use Rattle.loom_strand.specs.declared.stage.Birth.{Birth}
use Rattle.loom_strand.specs.declared.stage.Stage.{Stage}
use Rattle.loom_strand.specs.declared.stage.Stage.TheVariants as stage
use Rattle.loom_strand.specs.Machine.{Machine, position}
use Rattle.loom_strand.specs.PositionRequest.{question_request, request_at}
use Rattle.loom_strand.specs.StepResult.{place_here, place_coming}
use Rattle.loom_strand.specs.Life.{asks_cross}
use Rattle.loom_strand.specs.Way.{MayCome, Look, first_frame, next_step, IsWay, IsNextPlace, IsNextMark, IsPlaceAhead}
use Rattle.loom_strand.specs.InPart.{IsInPart, GoesOn}
use Rattle.loom_strand.specs.StrandInvariant.{IsSoundPosition, IsInOwn}
use Rattle.loom_strand.specs.Halt.{PassesNextFrom, PassesNext, IsStopped, IsHalting, by_request, by_owed}
use Rattle.loom_strand.specs.PrivateRun.{MayRunFrom, KeepsWay, IsLineAt}
use Rattle.loom_strand.proofs.Marks.{mark_place}
use Rattle.loom_strand.proofs.PartLaws.{IsInstructionDeed, act_place}
use Rattle.loom_strand.proofs.PartSteps.{flat_tree, gone_nowhere}

-- Another place

-- Where nothing is owed, and the thread isn't to end, its place is of no account.
pub placed : (c : Flow) (cs : List (Option Compiled)) (b : Birth) (x : Own) (e : Execution) (k : ℕ) (look : Look) (steps : List PartStep) → queue e.walk.owed ≡ [] → (next_step c b e.stage e.machine ≡ ends → ⊥)
    → IsInPart c cs b x e look steps → IsInPart c cs b x (record e { place = k }) look steps
placed c cs b x e k look steps rests lives h = record {
  way = h.way;
  there = record {
    at = h.there.at;
    active = h.there.active;
    filters = h.there.filters;
    rests = h.there.rests;
    few = h.there.few;
    place = record { owing = λ owes. absurd (owes (h.there.at.owed ∙ rests)); ending = λ over. absurd (lives over) };
    locals = h.there.locals;
  };
}

-- a way that is kept goes on past no mark
pub gone_kept : (c : Flow) (cs : List (Option Compiled)) (b : Birth) (flags : List ℕ) (old new : Execution) → KeepsWay c cs b old new → GoesOn c cs b flags old new
gone_kept c cs b flags old new keeps x look steps h = gone_nowhere c cs b flags new x look steps (keeps x look steps h)

-- The place that the next step passes

some_place : (k n : ℕ) → ◌≡◌ {A = Option ℕ} (Some k) (Some n) → k ≡ n
some_place k n h = cc

-- It is a place of the program, that of what comes next.
pub record IsComing (c : Flow) (w : Progress) (k : ℕ) : Type 0 where
  pub place : Place
  pub at : place_at c.program k ≡ Some place
  pub next : (z : Walk) → IsNextPlace z w place
  pub mark : IsNextMark w place
  pub lives : w ≡ ends → ⊥

pub coming_by : (c : Flow) (z : Position) (k : ℕ) (w : Progress) → IsLowered c → IsSoundPosition c z → IsInOwn c z → progress c z ≡ w → place_coming c (place_here c z) w ≡ Some k → IsComing c w k
coming_by c z k (goes None y) l h own p is = let no : ◌≡◌ {A = Option ℕ} None (Some k) = is in absurd (let u : ⊥ = cc in u)
coming_by c z k (goes (Some (made n a)) y) l h own p is = absurd (mark_place c z y (Some (made n a)) l h own p).0
coming_by c z k (goes (Some (begins n env)) y) l h own p is = let no : ◌≡◌ {A = Option ℕ} None (Some k) = is in absurd (let u : ⊥ = cc in u)
coming_by c z k (goes (Some (done n)) y) l h own p is = let no : ◌≡◌ {A = Option ℕ} None (Some k) = is in absurd (let u : ⊥ = cc in u)
coming_by c z k (goes (Some (edge n)) y) l h own p is = record {
  place = site.back_edge n;
  at = subst (λ j. place_at c.program j ≡ Some (site.back_edge n)) (some_place (place_here c z) k is) (mark_place c z y (Some (edge n)) l h own p).0;
  next = λ u. refl;
  mark = refl;
  lives = λ e. cc;
}
coming_by c z k (goes (Some (enter f env)) y) l h own p is = record {
  place = site.entry f;
  at = subst (λ j. place_at c.program j ≡ Some (site.entry f)) (some_place _ k is) (mark_place c z y (Some (enter f env)) l h own p).0;
  next = λ u. refl;
  mark = refl;
  lives = λ e. cc;
}
coming_by c z k (goes (Some (out f)) y) l h own p is = let no : ◌≡◌ {A = Option ℕ} None (Some k) = is in absurd (let u : ⊥ = cc in u)
coming_by c z k (asks line q behind) l h own p is = let no : ◌≡◌ {A = Option ℕ} None (Some k) = is in absurd (let u : ⊥ = cc in u)
coming_by c z k (traps line q) l h own p is = let no : ◌≡◌ {A = Option ℕ} None (Some k) = is in absurd (let u : ⊥ = cc in u)
coming_by c z k ends l h own p is = let no : ◌≡◌ {A = Option ℕ} None (Some k) = is in absurd (let u : ⊥ = cc in u)
coming_by c z k nothing l h own p is = let no : ◌≡◌ {A = Option ℕ} None (Some k) = is in absurd (let u : ⊥ = cc in u)

first_coming : (c : Flow) (b : Birth) (k : ℕ) (o : Option Entrance) → IsLowered c → slice_get c.entrances b.func ≡ o → option_map (λ (x : Entrance). x.place) o ≡ Some k → IsComing c (first_frame c b o) k
first_coming c b k None l there is = let no : ◌≡◌ {A = Option ℕ} None (Some k) = is in absurd (let u : ⊥ = cc in u)
first_coming c b k (Some en) l there is = record {
  place = site.entry b.func;
  at = subst (λ j. place_at c.program j ≡ Some (site.entry b.func)) (some_place en.place k is) ((instructions_of c c.program l refl).entrances b.func en there);
  next = λ u. refl;
  mark = refl;
  lives = λ e. cc;
}

pub coming : (c : Flow) (b : Birth) (s : Stage) (m : Machine) (w : FilterWalk) (k : ℕ) → IsLowered c → MayRunFrom c b s m w → PassesNextFrom c b s m k → IsComing c (next_step c b s m) k
coming c b stage.Waits m w k l may is = absurd may
coming c b stage.Enters m w k l may is = first_coming c b k (slice_get c.entrances b.func) l refl is
coming c b stage.Runs m w k l may is = coming_by c (position m) k (progress c (position m)) l may.sound may.own refl is
coming c b stage.Over m w k l may is = absurd may

no_asked : (q : Request) → ◌≡◌ {A = Option Request} None (Some q) → ⊥
no_asked q h = cc

-- There is one such place at most, and a thread that passes one with its next step isn't halting.

same_next : (c : Flow) (b : Birth) (s : Stage) (m : Machine) (j k : ℕ) → PassesNextFrom c b s m j → PassesNextFrom c b s m k → j ≡ k
same_next c b stage.Waits m j k f g = absurd f
same_next c b stage.Enters m j k f g = some_place j k (sym f ∙ g)
same_next c b stage.Runs m j k f g = some_place j k (sym f ∙ g)
same_next c b stage.Over m j k f g = absurd f

pub one_next : (c : Flow) (b : Birth) (e : Execution) (j k : ℕ) → PassesNext c b e j → PassesNext c b e k → j ≡ k
one_next c b e j k f g = same_next c b e.stage e.machine j k f g

no_place : (k : ℕ) → ◌≡◌ {A = Option ℕ} None (Some k) → ⊥
no_place k h = cc

stopped_no_place : (c : Flow) (n k : ℕ) (w : Progress) → IsStopped w → place_coming c n w ≡ Some k → ⊥
stopped_no_place c n k (goes mark y) h is = absurd h
stopped_no_place c n k (asks line q behind) h is = no_place k is
stopped_no_place c n k (traps line q) h is = no_place k is
stopped_no_place c n k ends h is = no_place k is
stopped_no_place c n k nothing h is = absurd h

pub next_no_halt : (c : Flow) (b : Birth) (e : Execution) (k : ℕ) → queue e.walk.owed ≡ [] → PassesNext c b e k → IsHalting c e → ⊥
next_no_halt c b e k rests passes (by_request is g) =
    stopped_no_place c (place_here c (position e.machine)) k (progress c (position e.machine)) g (subst (λ s. PassesNextFrom c b s e.machine k) is passes)
next_no_halt c b e k rests passes (by_owed g) = g rests

pub stopped_by : (line : ℕ) (w : Progress) (q : Request) → request_at line w ≡ Some q → IsStopped w
stopped_by line (goes mark y) q h = absurd (no_asked q h)
stopped_by line (asks n u behind) q h = tt
stopped_by line (traps n k) q h = tt
stopped_by line ends q h = tt
stopped_by line nothing q h = absurd (no_asked q h)

-- a place has a line, and its number is that of a site
pub site_within : (c : Flow) (k : ℕ) (x : Place) → IsLowered c → place_at c.program k ≡ Some x → k < length c.sites
site_within c k x l h = subst (λ n. k < n) (sym (as_many_sites c l)) (slice_get_within (places c.program) k x h)

pub line_at : (p : Source) (k : ℕ) (x : Place) → place_at p k ≡ Some x → IsLineAt p k (line_of_place p x)
line_at p k x h = ap (option_map (line_of_place p)) h

-- Requests

no_cross : (line : ℕ) (q : Question) → asks_cross (question_request line q) ≡ false
no_cross line (read w) = refl
no_cross line (write w v) = refl
no_cross line (lock m) = refl
no_cross line (unlock m) = refl
no_cross line (down s) = refl
no_cross line (up s) = refl
no_cross line (spawn f vs) = refl
no_cross line (join v) = refl
no_cross line (print v) = refl

same_request : (x q : Request) → ◌≡◌ {A = Option Request} (Some x) (Some q) → x ≡ q
same_request x q e = cc

-- What comes of a position is no newer version.
pub here_no_cross : (line : ℕ) (w : Progress) (q : Request) → request_at line w ≡ Some q → asks_cross q ≡ false
here_no_cross line (goes mark y) q h = absurd (no_asked q h)
here_no_cross line (asks n u behind) q h = subst (λ k. asks_cross k ≡ false) (same_request (question_request n u) q h) (no_cross n u)
here_no_cross line (traps n k) q h = subst (λ u. asks_cross u ≡ false) (same_request (r.Trap n (reason k)) q h) refl
here_no_cross line ends q h = subst (λ u. asks_cross u ≡ false) (same_request (r.End line) q h) refl
here_no_cross line nothing q h = absurd (no_asked q h)

-- where something is asked for there, the place is that of the request
pub here_ahead : (z : Walk) (line : ℕ) (w : Progress) (q : Request) → request_at line w ≡ Some q → IsNextPlace z w (request_place z)
here_ahead z line (goes mark y) q h = absurd (no_asked q h)
here_ahead z line (asks n u behind) q h = refl
here_ahead z line (traps n k) q h = refl
here_ahead z line ends q h = refl
here_ahead z line nothing q h = absurd (no_asked q h)

pub ahead_of : (z : Walk) (os : Queue) (w : Progress) (y : Place) → os ≡ [] → IsNextPlace z w y → IsPlaceAhead os z w y
ahead_of z [] w y e h = h
ahead_of z (o ∷ os) w y e h = cc

pub ahead_owing : (z : Walk) (os : Queue) (w : Progress) (y : Place) → (os ≡ [] → ⊥) → request_place z ≡ y → IsPlaceAhead os z w y
ahead_owing z [] w y e h = absurd (e refl)
ahead_owing z (o ∷ os) w y e h = h

-- What a stop comes to

-- An act is asked for at the in place of the statement of its line.
deed_place : (c : Flow) (plans : Plans) (x : Own) (w : Progress) (look : Look) (steps : List PartStep) (line : ℕ) (a : Act) → IsLowered c → IsInstructionDeed a → (walk_of c.program plans x steps).owed ≡ []
    → MayCome c x.func w 0 (made line a ∷ []) Open → IsWay c plans x w look steps → request_place (walk_of c.program plans x steps) ≡ site.inside line
deed_place c plans x w look steps line a l deed none comes h =
    act_place c.program l.lawful plans x steps line a [] Open deed none (flat_tree c l x.func x.args (items steps ++ made line a ∷ []) Open (h.trace (made line a ∷ []) Open 0 comes))

question_place : (c : Flow) (plans : Plans) (x : Own) (look : Look) (steps : List PartStep) (line : ℕ) (q : Question) (behind : ℤ → Position) → IsLowered c → (walk_of c.program plans x steps).owed ≡ []
    → IsWay c plans x (asks line q behind) look steps → request_place (walk_of c.program plans x steps) ≡ site.inside line
question_place c plans x look steps line (read w) behind l none h = deed_place c plans x (asks line (read w) behind) look steps line (trace.read w (pos 0)) l tt none (pos 0, inr ([], refl, (refl, refl))) h
question_place c plans x look steps line (write w v) behind l none h = deed_place c plans x (asks line (write w v) behind) look steps line (trace.write w v) l tt none (inr ([], refl, (refl, refl))) h
question_place c plans x look steps line (lock m) behind l none h = deed_place c plans x (asks line (lock m) behind) look steps line (trace.lock m) l tt none (inr ([], refl, (refl, refl))) h
question_place c plans x look steps line (unlock m) behind l none h = deed_place c plans x (asks line (unlock m) behind) look steps line (trace.unlock m) l tt none (inr (inr ([], refl, (refl, refl)))) h
question_place c plans x look steps line (down m) behind l none h = deed_place c plans x (asks line (down m) behind) look steps line (trace.down m) l tt none (inr ([], refl, (refl, refl))) h
question_place c plans x look steps line (up m) behind l none h = deed_place c plans x (asks line (up m) behind) look steps line (trace.up m) l tt none (inr (inr ([], refl, (refl, refl)))) h
question_place c plans x look steps line (spawn g vs) behind l none h = deed_place c plans x (asks line (spawn g vs) behind) look steps line (trap threads) l tt none (inl (inr ([], refl, inl (refl, refl)))) h
question_place c plans x look steps line (join (pos k)) behind l none h = deed_place c plans x (asks line (join (pos k)) behind) look steps line (trace.join k) l tt none (inr (inr ([], refl, (refl, refl)))) h
question_place c plans x look steps line (join (negsuc k)) behind l none h =
    deed_place c plans x (asks line (join (negsuc k)) behind) look steps line (trap (not_spawned (negsuc k))) l tt none (inr ([], refl, inl (refl, refl))) h
question_place c plans x look steps line (print v) behind l none h = deed_place c plans x (asks line (print v) behind) look steps line (trace.print v) l tt none (inr ([], refl, (refl, refl))) h

-- The line of what is asked for where no thread is to end.
abbrev pub IsAskedOn : Progress → ℕ → Type 0
IsAskedOn (asks line q behind) l = line ≡ l
IsAskedOn (traps line k) l = line ≡ l
IsAskedOn _ l = ⊥

pub asked_place : (c : Flow) (plans : Plans) (x : Own) (w : Progress) (look : Look) (steps : List PartStep) (line : ℕ) → IsLowered c → (walk_of c.program plans x steps).owed ≡ [] → IsAskedOn w line
    → IsWay c plans x w look steps → request_place (walk_of c.program plans x steps) ≡ site.inside line
asked_place c plans x (asks n q behind) look steps line l none is h = question_place c plans x look steps n q behind l none h ∙ ap site.inside is
asked_place c plans x (traps n k) look steps line l none is h = deed_place c plans x (traps n k) look steps n (trap k) l tt none (inr ([], refl, inl (refl, refl))) h ∙ ap site.inside is
asked_place c plans x (goes mark y) look steps line l none is h = absurd is
asked_place c plans x ends look steps line l none is h = absurd is
asked_place c plans x nothing look steps line l none is h = absurd is
