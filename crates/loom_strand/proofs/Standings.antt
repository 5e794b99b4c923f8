-- Where a thread stands with what comes next, and what it asks for there.
use Rattle.std.proofs.Common.{ℕ, ◌≡◌, ◌⊎◌, true, false, List, [], ◌∷◌, ◌++◌, Option, Some, None, length, slice_get, get_or, refl, inl, inr, sym, ap, subst, ◌∙◌}
use Rattle.std.proofs.lemmas.Option.{slice_get-get_or}
use Rattle.loom_tree.specs.Tree.{Source}
use Rattle.loom_lang.specs.Places.{Place, place_at, line_of_place}
use Rattle.loom_lang.specs.Trace.{Open, enter, reason}
use Rattle.loom_trace.specs.declared.request.Request.{Request}
use Rattle.loom_trace.specs.declared.request.Request.TheVariants as r
use Rattle.loom_event.specs.Answer.{asks_begin, asks_operation, HasNumbers}
use Rattle.loom_flow.specs.declared.code.Entrance.{Entrance}
use Rattle.loom_flow.specs.Flow.{Flow}
use Rattle.loom_flow.specs.Code.{IsLowered}
use Rattle.loom_flow.specs.State.{State, at_start, locals_now}
use Rattle.loom_flow.specs.Position.{before}
use Rattle.loom_flow.specs.Question.{Question, read, write, lock, unlock, down, up, spawn, join, print}
use Rattle.loom_flow.specs.Progress.{Progress, goes, asks, traps, ends, nothing, progress}
use Rattle.loom_law.specs.Walk.{Version, Plans, Operation, wait, enters, at, past, post, leave, back, tick, cross, blocked, PartStep, items, Queue, Walk, request_place, place_of_next, Owes}
use Rattle.loom_law.specs.ThreadPart.{Own, walk_of, ComesTo}
use Rattle.loom_walk.specs.Owed.{queue}
use Rattle.loom_walk.specs.FilterWalk.{FilterWalk}
use Rattle.loom_strand.specs.declared.execution.Execution.{Execution}
use Rattle.loom_strand.specs.declared.stage.Birth.{Birth}
use Rattle.loom_strand.specs.declared.stage.Stage.{Stage}
use Rattle.loom_strand.specs.declared.stage.Stage.TheVariants as stage
use Rattle.loom_strand.specs.Machine.{Machine, position}
use Rattle.loom_strand.specs.PositionRequest.{question_request, request_at}
use Rattle.loom_strand.specs.StepResult.{place_here, place_coming}
use Rattle.loom_strand.specs.Life.{asks_cross}
use Rattle.loom_strand.specs.Way.{Look, looks_nowhere, looks_ahead, looks_for_grant, IsSeen, IsJoining, first_frame, next_step, IsWay, IsNextMark, IsPlaceAhead}
use Rattle.loom_strand.specs.Halt.{PassesNextFrom, PassesNext, IsStopped, IsHalting, by_request, by_owed}
use Rattle.loom_strand.specs.InPart.{HasPlace}
use Rattle.loom_strand.specs.Strand.{CrossesAt, ComesToPass}
use Rattle.loom_strand.specs.StrandInvariant.{operation_request, IsAsked, asks_act, asks_owed, asks_version}
use Rattle.loom_strand.specs.PrivateRun.{MayRunFrom, MayRun}
use Rattle.loom_strand.proofs.Ways.{one_mark_comes}
use Rattle.loom_strand.proofs.Openings.{IsOpening, IsLookedAt, next_opens, IsMarkOpening, mark_opens}
use Rattle.loom_strand.proofs.RequestKinds.{Asked, asks_numbers}
use Rattle.loom_strand.proofs.PartSteps.{flat_tree}
use Rattle.loom_strand.proofs.RunSteps.{runs_next}
use Rattle.loom_strand.proofs.HaltSteps.{here_no_cross, here_ahead, ahead_of, ahead_owing}
use Rattle.loom_strand.proofs.NextRequests.{HasItem, has_item}

-- Where it stands

pub looked : (look : Look) (w : Progress) → (look ≡ looks_for_grant → IsJoining w) → IsLookedAt look w
looked looks_nowhere w h = tt
looked looks_ahead w h = tt
looked looks_for_grant w h = h refl

-- Something comes, whatever a thread that may run does next.
pub something : (c : Flow) (b : Birth) (f : ℕ) (s : Stage) (m : Machine) (w : FilterWalk) → IsLowered c → MayRunFrom c b s m w → HasItem c f (next_step c b s m)
something c b f stage.Waits m w l may = absurd may
something c b f stage.Enters m w l may = by_entrance (slice_get c.entrances b.func) refl
  where
    none : Entrance
    none = record { start = 0; place = 0; params = 0 }

    by_entrance : (o : Option Entrance) → slice_get c.entrances b.func ≡ o → HasItem c f (first_frame c b o)
    by_entrance None is = let no : ◌≡◌ {A = Option Entrance} None (Some (get_or c.entrances b.func none)) = sym is ∙ slice_get-get_or c.entrances b.func none may.0 in absurd (let u : ⊥ = cc in u)
    by_entrance (Some en) is =
        let z : State = at_start b.func en b.args [] [] in
        record { item = enter b.func (locals_now c z); count = 0; comes = one_mark_comes c f (enter b.func (locals_now c z)) (before z) }
something c b f stage.Runs m w l may = has_item c f (position m) l may.sound
something c b f stage.Over m w l may = absurd may

pub stands_ahead : (c : Flow) (plans : Plans) (x : Own) (w : Progress) (look : Look) (steps : List PartStep) (y : Place) → IsLowered c → HasItem c x.func w → IsLookedAt look w
    → (look ≡ looks_nowhere) ⊎ ((walk_of c.program plans x steps).owed ≡ []) → IsPlaceAhead (walk_of c.program plans x steps).owed (walk_of c.program plans x steps) w y → IsWay c plans x w look steps
    → ComesTo c.program plans x y
stands_ahead c plans x w look steps y l some looks rests ahead h = by_queue z.owed refl rests ahead
  where
    z : Walk
    z = walk_of c.program plans x steps

    by_queue : (os : Queue) → z.owed ≡ os → (look ≡ looks_nowhere) ⊎ (z.owed ≡ []) → IsPlaceAhead os z w y → ComesTo c.program plans x y
    by_queue [] e free a =
        let o : IsOpening c x.func w z y look = next_opens c x.func w z y look looks a in
        record {
          point = record {
            steps = steps;
            next = o.item;
            trace = flat_tree c l x.func x.args (items steps ++ o.item ∷ []) Open (h.trace (o.item ∷ []) Open 0 o.comes);
            woven = h.woven (o.item ∷ []) Open 0 o.comes o.seen;
            tells = h.tells;
            taken = h.taken;
          };
          place = subst (λ os. place_of_next z os (o.item ∷ []) ≡ Some y) (sym e) o.place;
        }
    by_queue (o ∷ os) e (inl free) a = record {
      point = record {
        steps = steps;
        next = some.item;
        trace = flat_tree c l x.func x.args (items steps ++ some.item ∷ []) Open (h.trace (some.item ∷ []) Open some.count some.comes);
        woven = h.woven (some.item ∷ []) Open some.count some.comes (subst (λ k. IsSeen k (some.item ∷ [])) (sym free) tt);
        tells = h.tells;
        taken = h.taken;
      };
      place = subst (λ us. place_of_next z us (some.item ∷ []) ≡ Some y) (sym e) (ap {B = Option Place} Some a);
    }
    by_queue (o ∷ os) e (inr none) a = let no : o ∷ os ≡ [] = sym e ∙ none in cc

-- Before a mark it comes to pass the place of that.
pub passes_ahead : (c : Flow) (plans : Plans) (x : Own) (w : Progress) (look : Look) (steps : List PartStep) (y : Place) → IsLowered c → IsLookedAt look w
    → (walk_of c.program plans x steps).owed ≡ [] → IsNextMark w y → IsWay c plans x w look steps → ComesToPass c.program plans x y
passes_ahead c plans x w look steps y l looks none mark h =
    let o : IsMarkOpening c x.func w y look = mark_opens c x.func w y look looks mark in
    record {
      point = record {
        steps = steps;
        next = o.item;
        trace = flat_tree c l x.func x.args (items steps ++ o.item ∷ []) Open (h.trace (o.item ∷ []) Open 0 o.comes);
        woven = h.woven (o.item ∷ []) Open 0 o.comes o.seen;
        tells = h.tells;
        taken = h.taken;
      };
      rests = none;
      passes = o.passes;
    }

-- Where it can't go on

owing_place : (os : Queue) (z : Walk) (w : Progress) (y : Place) → (os ≡ [] → ⊥) → IsPlaceAhead os z w y → request_place z ≡ y
owing_place [] z w y ne h = absurd (ne refl)
owing_place (o ∷ os) z w y ne h = h

stopped_place : (os : Queue) (z : Walk) (w : Progress) (y : Place) → IsStopped w → IsPlaceAhead os z w y → request_place z ≡ y
stopped_place (o ∷ os) z w y stop h = h
stopped_place [] z (goes mark v) y stop h = absurd stop
stopped_place [] z (asks line q behind) y stop h = h
stopped_place [] z (traps line k) y stop h = h
stopped_place [] z ends y stop h = h
stopped_place [] z nothing y stop h = absurd stop

stopped_ahead : (os : Queue) (z : Walk) (w : Progress) → IsStopped w → IsPlaceAhead os z w (request_place z)
stopped_ahead (o ∷ os) z w stop = refl
stopped_ahead [] z (goes mark v) stop = absurd stop
stopped_ahead [] z (asks line q behind) stop = refl
stopped_ahead [] z (traps line k) stop = refl
stopped_ahead [] z ends stop = refl
stopped_ahead [] z nothing stop = absurd stop

-- the place ahead is that of its request
pub halting_place : (c : Flow) (b : Birth) (e : Execution) (z : Walk) (y : Place) → IsHalting c e → z.owed ≡ queue e.walk.owed → IsPlaceAhead z.owed z (next_step c b e.stage e.machine) y → request_place z ≡ y
halting_place c b e z y (by_request is stop) same h = stopped_place z.owed z (next_step c b e.stage e.machine) y (subst IsStopped (sym (runs_next c b e is)) stop) h
halting_place c b e z y (by_owed g) same h = owing_place z.owed z (next_step c b e.stage e.machine) y (λ none. g (sym same ∙ none)) h

pub halting_ahead : (c : Flow) (b : Birth) (e : Execution) (z : Walk) → IsHalting c e → z.owed ≡ queue e.walk.owed → IsPlaceAhead z.owed z (next_step c b e.stage e.machine) (request_place z)
halting_ahead c b e z (by_request is stop) same = stopped_ahead z.owed z (next_step c b e.stage e.machine) (subst IsStopped (sym (runs_next c b e is)) stop)
halting_ahead c b e z (by_owed g) same = ahead_owing z z.owed (next_step c b e.stage e.machine) (request_place z) (λ none. g (sym same ∙ none)) refl

stopped_no_place : (c : Flow) (n k : ℕ) (w : Progress) → IsStopped w → place_coming c n w ≡ Some k → ⊥
stopped_no_place c n k (goes mark v) stop h = stop
stopped_no_place c n k (asks line q behind) stop h = let no : ◌≡◌ {A = Option ℕ} None (Some k) = h in cc
stopped_no_place c n k (traps line q) stop h = let no : ◌≡◌ {A = Option ℕ} None (Some k) = h in cc
stopped_no_place c n k ends stop h = let no : ◌≡◌ {A = Option ℕ} None (Some k) = h in cc
stopped_no_place c n k nothing stop h = stop

-- Before a place that its next step passes it isn't at a request.
pub passes_no_halt : (c : Flow) (b : Birth) (e : Execution) (k : ℕ) → queue e.walk.owed ≡ [] → PassesNext c b e k → IsHalting c e → ⊥
passes_no_halt c b e k rests h (by_request is stop) =
    stopped_no_place c (place_here c (position e.machine)) k (progress c (position e.machine)) stop (subst (λ s. PassesNextFrom c b s e.machine k) is h)
passes_no_halt c b e k rests h (by_owed g) = g rests

-- What it asks for

owing : (os : Queue) (l : ℕ) (o : Operation) → Owes os l o → os ≡ [] → ⊥
owing [] l o h e = h
owing (x ∷ os) l o h e = cc

-- The place at which it asks.
pub record IsAskedAt (p : Source) (z : Walk) (w : Progress) (k : ℕ) : Type 0 where
  pub place : Place
  pub number : place_at p k ≡ Some place
  pub ahead : IsPlaceAhead z.owed z w place

pub asked_at : (p : Source) (z : Walk) (w : Progress) (line k : ℕ) (v : Version) (q : Request) → HasPlace p z w k → IsAsked p z w line k v q → IsAskedAt p z w k
asked_at p z w line k v q place (asks_act none is there) = record { place = request_place z; number = there; ahead = ahead_of z z.owed w (request_place z) none (here_ahead z line w q is) }
asked_at p z w line k v q there (asks_owed l o owes is) =
    record { place = request_place z; number = there.owing (owing z.owed l o owes); ahead = ahead_owing z z.owed w (request_place z) (owing z.owed l o owes) refl }
asked_at p z w line k v q there (asks_version y ahead number is) = record { place = y; number = number; ahead = ahead }

same_request : (a b : Request) → ◌≡◌ {A = Option Request} (Some a) (Some b) → a ≡ b
same_request a b h = cc

no_request : (q : Request) → ◌≡◌ {A = Option Request} None (Some q) → ⊥
no_request q h = cc

question_no_begin : (line : ℕ) (u : Question) → asks_begin (question_request line u) ≡ false
question_no_begin line (read w) = refl
question_no_begin line (write w v) = refl
question_no_begin line (lock m) = refl
question_no_begin line (unlock m) = refl
question_no_begin line (down m) = refl
question_no_begin line (up m) = refl
question_no_begin line (spawn f vs) = refl
question_no_begin line (join v) = refl
question_no_begin line (print v) = refl

here_no_begin : (line : ℕ) (w : Progress) (q : Request) → request_at line w ≡ Some q → asks_begin q ≡ false
here_no_begin line (goes mark y) q h = absurd (no_request q h)
here_no_begin line (asks n u behind) q h = subst (λ k. asks_begin k ≡ false) (same_request (question_request n u) q h) (question_no_begin n u)
here_no_begin line (traps n k) q h = subst (λ u. asks_begin u ≡ false) (same_request (r.Trap n (reason k)) q h) refl
here_no_begin line ends q h = subst (λ u. asks_begin u ≡ false) (same_request (r.End line) q h) refl
here_no_begin line nothing q h = absurd (no_request q h)

-- What is asked for where something is owed is no begin and no newer version, and a store is asked for a tick alone.
abbrev IsOperation : Source → Request → Type 0
IsOperation p q = (asks_begin q ≡ false) × ((asks_cross q ≡ false) × (asks_operation q ≡ false → HasNumbers p q))

no_store : {A : Type 0} → true ≡ false → A
no_store h = cc

operation_asked : (p : Source) (l : ℕ) (o : Operation) (q : Request) → operation_request l o ≡ Some q → IsOperation p q
operation_asked p l (wait k n) q h = subst (IsOperation p) (same_request (r.Wait l k n) q h) (refl, (refl, λ e. no_store e))
operation_asked p l (enters k n) q h = subst (IsOperation p) (same_request (r.Enter l k n) q h) (refl, (refl, λ e. no_store e))
operation_asked p l (at k ns) q h = subst (IsOperation p) (same_request (r.At l k ns) q h) (refl, (refl, λ e. no_store e))
operation_asked p l (past k ns) q h = subst (IsOperation p) (same_request (r.Past l k ns) q h) (refl, (refl, λ e. no_store e))
operation_asked p l (post k n) q h = subst (IsOperation p) (same_request (r.Post l k n) q h) (refl, (refl, λ e. no_store e))
operation_asked p l (leave k n) q h = subst (IsOperation p) (same_request (r.Leave l k n) q h) (refl, (refl, λ e. no_store e))
operation_asked p l back q h = subst (IsOperation p) (same_request (r.Back l) q h) (refl, (refl, λ e. no_store e))
operation_asked p l (tick k) q h = subst (IsOperation p) (same_request (r.Tick l k) q h) (refl, (refl, λ e. tt))
operation_asked p l (cross k v n) q h = absurd (no_request q h)
operation_asked p l (blocked what) q h = absurd (no_request q h)

pub asked_no_begin : (p : Source) (z : Walk) (w : Progress) (line k : ℕ) (v : Version) (q : Request) → IsAsked p z w line k v q → asks_begin q ≡ false
asked_no_begin p z w line k v q (asks_act none is there) = here_no_begin line w q is
asked_no_begin p z w line k v q (asks_owed l o owes is) = (operation_asked p l o q is).0
asked_no_begin p z w line k v q (asks_version y ahead number is) = ap asks_begin is

no_cross_at : (q : Request) (k : ℕ) → asks_cross q ≡ false → CrossesAt q k
no_cross_at (r.Cross l y i n) k h = no_store h
no_cross_at _ k h = tt

pub asked_cross_at : (p : Source) (z : Walk) (w : Progress) (line k : ℕ) (v : Version) (q : Request) → IsAsked p z w line k v q → CrossesAt q k
asked_cross_at p z w line k v q (asks_act none is there) = no_cross_at q k (here_no_cross line w q is)
asked_cross_at p z w line k v q (asks_owed l o owes is) = no_cross_at q k (operation_asked p l o q is).1.0
asked_cross_at p z w line k v q (asks_version y ahead number is) = subst (λ u. CrossesAt u k) (sym is) refl

here_numbers : (p : Source) (line : ℕ) (w : Progress) (q : Request) → Asked (HasNumbers p) w → request_at line w ≡ Some q → HasNumbers p q
here_numbers p line (goes mark y) q f h = absurd (no_request q h)
here_numbers p line (asks n u behind) q f h = subst (HasNumbers p) (same_request (question_request n u) q h) f
here_numbers p line (traps n k) q f h = subst (HasNumbers p) (same_request (r.Trap n (reason k)) q h) f
here_numbers p line ends q f h = subst (HasNumbers p) (same_request (r.End line) q h) tt
here_numbers p line nothing q f h = absurd (no_request q h)

-- The numbers of what a thread asks for next.
pub next_numbers : (c : Flow) (b : Birth) (s : Stage) (m : Machine) (w : FilterWalk) → IsLowered c → MayRunFrom c b s m w → Asked (HasNumbers c.program) (next_step c b s m)
next_numbers c b stage.Waits m w l may = absurd may
next_numbers c b stage.Enters m w l may = by_entrance (slice_get c.entrances b.func)
  where
    by_entrance : (o : Option Entrance) → Asked (HasNumbers c.program) (first_frame c b o)
    by_entrance None = tt
    by_entrance (Some en) = tt
next_numbers c b stage.Runs m w l may = asks_numbers c (position m) l may.sound
next_numbers c b stage.Over m w l may = absurd may

pub asked_numbers : (p : Source) (z : Walk) (w : Progress) (line k : ℕ) (v : Version) (q : Request) → Asked (HasNumbers p) w → IsAsked p z w line k v q → asks_operation q ≡ false → HasNumbers p q
asked_numbers p z w line k v q f (asks_act none is there) h = here_numbers p line w q f is
asked_numbers p z w line k v q f (asks_owed l o owes is) h = (operation_asked p l o q is).1.1 h
asked_numbers p z w line k v q f (asks_version y ahead number is) h = no_store (sym (ap asks_operation is) ∙ h)

-- Two requests

owed_same : (os : Queue) (l l' : ℕ) (o o' : Operation) → Owes os l o → Owes os l' o' → operation_request l o ≡ operation_request l' o'
owed_same [] l l' o o' f g = absurd f
owed_same (x ∷ os) l l' o o' f g = ap (λ (y : ℕ × Operation). operation_request y.0 y.1) (sym f ∙ g)

-- Where no newer version is asked for, one request is.
pub one_asked : (p : Source) (z : Walk) (w : Progress) (line k k' : ℕ) (v v' : Version) (q q' : Request) → IsAsked p z w line k v q → IsAsked p z w line k' v' q' → asks_cross q ≡ false → asks_cross q' ≡ false → q' ≡ q
one_asked p z w line k k' v v' q q' (asks_act none is there) (asks_act none' is' there') f g = same_request q' q (sym is' ∙ is)
one_asked p z w line k k' v v' q q' (asks_act none is there) (asks_owed l o owes is') f g = absurd (owing z.owed l o owes none)
one_asked p z w line k k' v v' q q' (asks_owed l o owes is) (asks_act none is' there) f g = absurd (owing z.owed l o owes none)
one_asked p z w line k k' v v' q q' (asks_owed l o owes is) (asks_owed l' o' owes' is') f g = same_request q' q (sym is' ∙ (owed_same z.owed l' l o' o owes' owes ∙ is))
one_asked p z w line k k' v v' q q' (asks_version y ahead number is) _ f g = no_store (sym (ap asks_cross is) ∙ f)
one_asked p z w line k k' v v' q q' _ (asks_version y ahead number is) f g = no_store (sym (ap asks_cross is) ∙ g)

-- A newer version is asked for at the place ahead.
pub record IsVersionAsked (p : Source) (z : Walk) (w : Progress) (k : ℕ) (v : Version) (q : Request) : Type 0 where
  pub place : Place
  pub ahead : IsPlaceAhead z.owed z w place
  pub number : place_at p k ≡ Some place
  pub is : q ≡ r.Cross (line_of_place p place) k v.number (length z.passed)

pub version_asked : (p : Source) (z : Walk) (w : Progress) (line k : ℕ) (v : Version) (q : Request) → IsAsked p z w line k v q → asks_cross q ≡ true → IsVersionAsked p z w k v q
version_asked p z w line k v q (asks_act none is there) f = no_store (sym f ∙ here_no_cross line w q is)
version_asked p z w line k v q (asks_owed l o owes is) f = no_store (sym f ∙ (operation_asked p l o q is).1.0)
version_asked p z w line k v q (asks_version y ahead number is) f = record { place = y; ahead = ahead; number = number; is = is }

here_stopped : (line : ℕ) (w : Progress) (q : Request) → request_at line w ≡ Some q → IsStopped w
here_stopped line (goes mark y) q h = absurd (no_request q h)
here_stopped line (asks n u behind) q h = tt
here_stopped line (traps n k) q h = tt
here_stopped line ends q h = tt
here_stopped line nothing q h = absurd (no_request q h)

first_asks_none : (c : Flow) (b : Birth) (line : ℕ) (q : Request) (o : Option Entrance) → request_at line (first_frame c b o) ≡ Some q → ⊥
first_asks_none c b line q None h = no_request q h
first_asks_none c b line q (Some en) h = no_request q h

-- Where it asks for anything else it can't go on.
pub asked_halts : (c : Flow) (b : Birth) (e : Execution) (z : Walk) (line k : ℕ) (v : Version) (q : Request) → MayRun c b e → z.owed ≡ queue e.walk.owed
    → IsAsked c.program z (next_step c b e.stage e.machine) line k v q → asks_cross q ≡ false → IsHalting c e
asked_halts c b e z line k v q may same (asks_act none is there) f = by_stage e.stage refl may is
  where
    by_stage : (t : Stage) → e.stage ≡ t → MayRunFrom c b t e.machine e.walk → request_at line (next_step c b t e.machine) ≡ Some q → IsHalting c e
    by_stage stage.Waits here m g = absurd m
    by_stage stage.Enters here m g = absurd (first_asks_none c b line q (slice_get c.entrances b.func) g)
    by_stage stage.Runs here m g = by_request here (here_stopped line (progress c (position e.machine)) q g)
    by_stage stage.Over here m g = absurd m
asked_halts c b e z line k v q may same (asks_owed l o owes is) f = by_owed (λ none. owing z.owed l o owes (same ∙ none))
asked_halts c b e z line k v q may same (asks_version y ahead number is) f = no_store (sym (ap asks_cross is) ∙ f)
