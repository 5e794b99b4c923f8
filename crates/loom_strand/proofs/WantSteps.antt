-- What a thread wants of a stop.
use Rattle.std.proofs.Common.{ℕ, ◌≡◌, ◌<◌, true, false, Bool, List, [], ◌∷◌, Option, Some, None, length, slice_get, refl, sym, ap, subst, ◌∙◌, arith}
use Rattle.loom_lang.specs.Places.{Place, place_at, line_of_place}
use Rattle.loom_lang.specs.Places as site
use Rattle.loom_flow.specs.declared.code.Entrance.{Entrance}
use Rattle.loom_flow.specs.Flow.{Flow}
use Rattle.loom_flow.specs.Progress.{Progress, goes, asks, traps, ends, nothing, progress}
use Rattle.loom_flow.specs.Code.{IsLowered}
use Rattle.loom_flow.proofs.FlowLaws.{instructions_of, few_sites}
use Rattle.loom_trace.specs.Limits.{place_limit}
use Rattle.loom_trace.specs.Places.{has_place}
use Rattle.loom_trace.specs.declared.request.Request.{Request}
use Rattle.loom_trace.specs.declared.request.Request.TheVariants as r
use Rattle.loom_law.specs.Walk as law
use Rattle.loom_law.specs.Walk.{Version, Plans, Operation, PartStep, Queue, Walk, request_place, Owes}
use Rattle.loom_law.specs.ThreadPart.{Own, walk_of}
use Rattle.loom_law.proofs.PlaceNumbers.{one_number}
use Rattle.loom_plan.specs.Compiled.{Compiled}
use Rattle.loom_version.specs.Plans.{plans_in}
use Rattle.loom_walk.specs.Owed.{queue}
use Rattle.loom_walk.specs.FilterWalk.{IsAt}
use Rattle.loom_strand.specs.declared.execution.Execution.{Execution}
use Rattle.loom_strand.specs.declared.stage.Birth.{Birth}
use Rattle.loom_strand.specs.declared.stage.Stage.TheVariants as stage
use Rattle.loom_strand.specs.declared.stage.Want.TheVariants as want
use Rattle.loom_strand.specs.declared.machine.Phase.TheVariants as phase
use Rattle.loom_strand.specs.declared.step_result.Stop.TheVariants as stop
use Rattle.loom_strand.specs.Machine.{Machine, position}
use Rattle.loom_strand.specs.PositionRequest.{request_at}
use Rattle.loom_strand.specs.StepResult.{place_here, place_coming}
use Rattle.loom_strand.specs.Life.{asks_cross}
use Rattle.loom_strand.specs.Way.{Look, next_step, end_line, IsWay, IsNextPlace, IsPlaceAhead}
use Rattle.loom_strand.specs.StrandInvariant.{IsSoundPosition, operation_request, IsAsked, asks_act, asks_owed, asks_version}
use Rattle.loom_strand.specs.Halt.{PassesNext, IsStopped, IsHalting, by_request, by_owed}
use Rattle.loom_strand.specs.PrivateRun.{IsRunning, MayRunFrom, MayRun, Stops, HasStopped, IsLineAt, IsFirstRequest, AsksFree, StaysAtRequest, StaysBefore, ComesOf}
use Rattle.loom_strand.proofs.Asked.{AsksAt, asks_no_end, asks_inside}
use Rattle.loom_strand.proofs.HaltSteps.{IsComing, coming_by, coming, placed, one_next, next_no_halt, stopped_by, site_within, line_at, here_no_cross, here_ahead, ahead_of, ahead_owing, asked_place}
use Rattle.loom_strand.proofs.RunSteps.{runs_next, at_rest}

-- Numbers of places

pub flag_room : (c : Flow) (k : ℕ) → IsLowered c → k < length c.sites → k < place_limit
flag_room c k l h = let few = few_sites c l in omega (arith, h)

-- the place that comes next
pub coming_room : (c : Flow) (m : Machine) (k : ℕ) → IsLowered c → IsRunning c m → place_coming c (place_here c (position m)) (progress c (position m)) ≡ Some k → k < place_limit
coming_room c m k l h is = let u : IsComing c (progress c (position m)) k = coming_by c (position m) k (progress c (position m)) l h.sound h.own refl is in flag_room c k l (site_within c k u.place l u.at)

pub entry_room : (c : Flow) (f : ℕ) (en : Entrance) → IsLowered c → slice_get c.entrances f ≡ Some en → en.place < place_limit
entry_room c f en l there = flag_room c en.place l (site_within c en.place (site.entry f) l ((instructions_of c c.program l refl).entrances f en there))

-- A place has one number.
place_again : (c : Flow) (j k : ℕ) (x : Place) → IsLowered c → place_at c.program j ≡ Some x → place_at c.program k ≡ Some x → j ≡ k
place_again c j k x l f g = sym (one_number c.program l.lawful j x f) ∙ one_number c.program l.lawful k x g

-- Where a thread stays

-- told its place anew, as the one that it has
same_here : (e : Execution) (k : ℕ) → k ≡ e.place → record e { place = k } ≡ e
same_here e k h = ap (λ (n : ℕ). record e { place = n }) h

-- before a place it has nothing that keeps it from going on
stays_next : (c : Flow) (cs : List (Option Compiled)) (b : Birth) (e new : Execution) (k : ℕ) → queue e.walk.owed ≡ [] → PassesNext c b e k → StaysAtRequest c cs b e new
stays_next c cs b e new k rests passes halting x look steps there at = absurd (next_no_halt c b e k rests passes halting)

stays_before : (c : Flow) (b : Birth) (flags : List ℕ) (newer : Bool) (e : Execution) (k : ℕ) → PassesNext c b e k → StaysBefore c b flags newer e (record e { place = k })
stays_before c b flags newer e k passes j h = ap (λ (n : ℕ). record e { place = n }) (one_next c b e k j passes h.passes)

-- and where it can't go on it stands before none
halts_before : (c : Flow) (b : Birth) (flags : List ℕ) (newer : Bool) (e new : Execution) → IsHalting c e → StaysBefore c b flags newer e new
halts_before c b flags newer e new halting j h = absurd (next_no_halt c b e j h.rests h.passes halting)

-- and asks before no flagged one
asks_free : (c : Flow) (b : Birth) (flags : List ℕ) (e : Execution) (q : Request) → IsHalting c e → AsksFree c b flags e (want.Ask q)
asks_free c b flags e q halting k rests passes = absurd (next_no_halt c b e k rests passes halting)

stays_here : (c : Flow) (cs : List (Option Compiled)) (b : Birth) (e : Execution) → StaysAtRequest c cs b e e
stays_here c cs b e halting x look steps there at = refl

-- Stops

-- It takes a newer version at the place of this number.
pub record TakesNewer (c : Flow) (e : Execution) (k : ℕ) (v : Version) (q : Request) : Type 0 where
  pub cross : (line : ℕ) → IsLineAt c.program k line → q ≡ r.Cross line k v.number e.walk.passed
  pub asks : asks_cross q ≡ true

asks_newer : (c : Flow) (cs : List (Option Compiled)) (e : Execution) (z : Walk) (w : Progress) (line k : ℕ) (x : Place) (v : Version) (q : Request) → TakesNewer c e k v q → IsAt c.program (plans_in cs) e.walk z
    → IsPlaceAhead z.owed z w x → place_at c.program k ≡ Some x → IsAsked c.program z w line k v q
asks_newer c cs e z w line k x v q told at ahead there =
    asks_version x ahead there (told.cross (line_of_place c.program x) (line_at c.program k x there) ∙ ap (r.Cross (line_of_place c.program x) k v.number) (sym at.passed))

pub wants_flagged : (c : Flow) (cs : List (Option Compiled)) (b : Birth) (flags : List ℕ) (newer : Bool) (v : Version) (e : Execution) (k : ℕ) → IsLowered c → MayRun c b e → Stops c b flags newer e (stop.Flagged k)
    → ComesOf c cs b flags newer v e (record e { place = k }) (want.Place k)
wants_flagged c cs b flags newer v e k l may s =
    let h : IsComing c (next_step c b e.stage e.machine) k = coming c b e.stage e.machine e.walk k l may s.1.0 in
    record {
      keeps = λ x look steps there. placed c cs b x e k look steps s.0 h.lives there;
      halts = (s.0, (s.1.0, (s.1.1, refl)));
      free = tt;
      stands = stays_next c cs b e (record e { place = k }) k s.0 s.1.0;
      stays = stays_before c b flags newer e k s.1.0;
    }

pub wants_crosses : (c : Flow) (cs : List (Option Compiled)) (b : Birth) (flags : List ℕ) (newer : Bool) (v : Version) (e : Execution) (k : ℕ) (q : Request) → IsLowered c → MayRun c b e
    → Stops c b flags newer e (stop.Crosses k) → TakesNewer c e k v q → ComesOf c cs b flags newer v e (record e { place = k }) (want.Ask q)
wants_crosses c cs b flags newer v e k q l may s told =
    let w : Progress = next_step c b e.stage e.machine in
    let h : IsComing c w k = coming c b e.stage e.machine e.walk k l may s.1.0 in
    record {
      keeps = λ x look steps there. placed c cs b x e k look steps s.0 h.lives there;
      halts = (
        λ x look steps there.
            (let z : Walk = walk_of c.program (plans_in cs) x steps in
            asks_newer c cs e z w (end_line c.program b.func) k h.place v q told there.there.at (ahead_of z z.owed w h.place (at_rest c cs e z s.0 there.there.at) (h.next z)) h.at),
        told.asks ∙ sym s.1.1.0,
      );
      free = λ j rests passes. subst (λ n. has_place flags n ≡ false) (one_next c b e k j s.1.0 passes) s.1.1.1;
      stands = stays_next c cs b e (record e { place = k }) k s.0 s.1.0;
      stays = stays_before c b flags newer e k s.1.0;
    }

-- What is asked for at a position

asked_request : (c : Flow) (b : Birth) (e : Execution) (q : Request) → e.stage ≡ stage.Runs → ((line : ℕ) → request_at line (progress c (position e.machine)) ≡ Some q) → (line : ℕ)
    → request_at line (next_step c b e.stage e.machine) ≡ Some q
asked_request c b e q is h line = ap (request_at line) (runs_next c b e is) ∙ h line

no_request : (q : Request) → ◌≡◌ {A = Option Request} None (Some q) → ⊥
no_request q e = cc

stop_place : (c : Flow) (plans : Plans) (x : Own) (w : Progress) (look : Look) (steps : List PartStep) (k : ℕ) (q : Request) → IsLowered c → (walk_of c.program plans x steps).owed ≡ []
    → ((line : ℕ) → request_at line w ≡ Some q) → AsksAt c k w → IsWay c plans x w look steps → place_at c.program k ≡ Some (request_place (walk_of c.program plans x steps))
stop_place c plans x (goes mark y) look steps k q l none h at way = absurd (no_request q (h 0))
stop_place c plans x (asks n u behind) look steps k q l none h at way = at ∙ ap {B = Option Place} Some (sym (asked_place c plans x (asks n u behind) look steps n l none refl way))
stop_place c plans x (traps n u) look steps k q l none h at way = at ∙ ap {B = Option Place} Some (sym (asked_place c plans x (traps n u) look steps n l none refl way))
stop_place c plans x ends look steps k q l none h at way = absurd (asks_no_end ends q h refl)
stop_place c plans x nothing look steps k q l none h at way = absurd (no_request q (h 0))

pub asks_within : (c : Flow) (w : Progress) (k : ℕ) (q : Request) → IsLowered c → ((line : ℕ) → request_at line w ≡ Some q) → AsksAt c k w → k < length c.sites
asks_within c (goes mark y) k q l h at = absurd (no_request q (h 0))
asks_within c (asks n u behind) k q l h at = site_within c k (site.inside n) l at
asks_within c (traps n u) k q l h at = site_within c k (site.inside n) l at
asks_within c ends k q l h at = absurd (asks_no_end ends q h refl)
asks_within c nothing k q l h at = absurd (no_request q (h 0))

halts_asking : (c : Flow) (e : Execution) (q : Request) → e.stage ≡ stage.Runs → ((line : ℕ) → request_at line (progress c (position e.machine)) ≡ Some q) → IsHalting c e
halts_asking c e q is h = by_request is (stopped_by 0 (progress c (position e.machine)) q (h 0))

-- the place that is told is that of the request
stays_asking : (c : Flow) (cs : List (Option Compiled)) (b : Birth) (e : Execution) (k : ℕ) (q : Request) → IsLowered c → queue e.walk.owed ≡ [] → ((line : ℕ) → request_at line (next_step c b e.stage e.machine) ≡ Some q)
    → AsksAt c k (next_step c b e.stage e.machine) → StaysAtRequest c cs b e (record e { place = k })
stays_asking c cs b e k q l rests asked at halting x look steps there here =
    let z : Walk = walk_of c.program (plans_in cs) x steps in
    let told : place_at c.program k ≡ Some (request_place z) =
    stop_place c (plans_in cs) x (next_step c b e.stage e.machine) look steps k q l (at_rest c cs e z rests there.there.at) asked at there.way in
    same_here e k (place_again c k e.place (request_place z) l told here)

wants_request : (c : Flow) (cs : List (Option Compiled)) (b : Birth) (flags : List ℕ) (newer : Bool) (v : Version) (e : Execution) (k : ℕ) (q : Request) → IsLowered c → AsksAt c k (progress c (position e.machine))
    → Stops c b flags newer e (stop.Asks q) → newer ≡ false → ComesOf c cs b flags newer v e (record e { place = k }) (want.Ask q)
wants_request c cs b flags newer v e k q l at s old =
    let w : Progress = next_step c b e.stage e.machine in
    let asked : (line : ℕ) → request_at line w ≡ Some q = asked_request c b e q s.1.0 s.1.1 in
    let here : AsksAt c k w = subst (AsksAt c k) (sym (runs_next c b e s.1.0)) at in
    record {
      keeps = λ x look steps there. placed c cs b x e k look steps s.0 (asks_no_end w q asked) there;
      halts = (
        λ x look steps there.
            (let none : (walk_of c.program (plans_in cs) x steps).owed ≡ [] = at_rest c cs e (walk_of c.program (plans_in cs) x steps) s.0 there.there.at in
            asks_act none (asked (end_line c.program b.func)) (stop_place c (plans_in cs) x w look steps k q l none asked here there.way)),
        here_no_cross 0 w q (asked 0) ∙ sym old,
      );
      free = asks_free c b flags e q (halts_asking c e q s.1.0 s.1.1);
      stands = stays_asking c cs b e k q l s.0 asked here;
      stays = halts_before c b flags newer e (record e { place = k }) (halts_asking c e q s.1.0 s.1.1);
    }

wants_newer : (c : Flow) (cs : List (Option Compiled)) (b : Birth) (flags : List ℕ) (newer : Bool) (v : Version) (e : Execution) (k : ℕ) (q u : Request) → IsLowered c → AsksAt c k (progress c (position e.machine))
    → Stops c b flags newer e (stop.Asks q) → newer ≡ true → TakesNewer c e k v u → ComesOf c cs b flags newer v e (record e { place = k }) (want.Ask u)
wants_newer c cs b flags newer v e k q u l at s new told =
    let w : Progress = next_step c b e.stage e.machine in
    let asked : (line : ℕ) → request_at line w ≡ Some q = asked_request c b e q s.1.0 s.1.1 in
    let here : AsksAt c k w = subst (AsksAt c k) (sym (runs_next c b e s.1.0)) at in
    record {
      keeps = λ x look steps there. placed c cs b x e k look steps s.0 (asks_no_end w q asked) there;
      halts = (
        λ x look steps there.
            (let z : Walk = walk_of c.program (plans_in cs) x steps in
            let none : z.owed ≡ [] = at_rest c cs e z s.0 there.there.at in
            asks_newer c cs e z w (end_line c.program b.func) k (request_place z) v u told there.there.at (ahead_of z z.owed w (request_place z) none (here_ahead z 0 w q (asked 0)))
            (stop_place c (plans_in cs) x w look steps k q l none asked here there.way)),
        told.asks ∙ sym new,
      );
      free = asks_free c b flags e u (halts_asking c e q s.1.0 s.1.1);
      stands = stays_asking c cs b e k q l s.0 asked here;
      stays = halts_before c b flags newer e (record e { place = k }) (halts_asking c e q s.1.0 s.1.1);
    }

-- What is asked for in the end: the request, or a newer version.
pub record AsksFirst (c : Flow) (e : Execution) (k : ℕ) (newer : Bool) (v : Version) (q u : Request) : Type 0 where
  pub old : newer ≡ false → u ≡ q
  pub new : newer ≡ true → TakesNewer c e k v u

pub wants_asks : (c : Flow) (cs : List (Option Compiled)) (b : Birth) (flags : List ℕ) (newer : Bool) (v : Version) (e : Execution) (k : ℕ) (q u : Request) → IsLowered c → AsksAt c k (progress c (position e.machine))
    → Stops c b flags newer e (stop.Asks q) → AsksFirst c e k newer v q u → ComesOf c cs b flags newer v e (record e { place = k }) (want.Ask u)
wants_asks c cs b flags true v e k q u l at s h = wants_newer c cs b flags true v e k q u l at s refl (h.new refl)
wants_asks c cs b flags false v e k q u l at s h =
    subst (λ y. ComesOf c cs b flags false v e (record e { place = k }) (want.Ask y)) (sym (h.old refl)) (wants_request c cs b flags false v e k q l at s refl)

-- Ends

pub ends_next : (c : Flow) (b : Birth) (flags : List ℕ) (newer : Bool) (e : Execution) → Stops c b flags newer e stop.Ends → next_step c b e.stage e.machine ≡ ends
ends_next c b flags newer e s = runs_next c b e s.1.0 ∙ s.1.1

halts_ending : (c : Flow) (b : Birth) (flags : List ℕ) (newer : Bool) (e : Execution) → Stops c b flags newer e stop.Ends → IsHalting c e
halts_ending c b flags newer e s = by_request s.1.0 (subst IsStopped (sym s.1.1) tt)

wants_last : (c : Flow) (cs : List (Option Compiled)) (b : Birth) (flags : List ℕ) (newer : Bool) (v : Version) (e : Execution) (n : ℕ) → n ≡ end_line c.program b.func
    → Stops c b flags newer e stop.Ends → newer ≡ false → ComesOf c cs b flags newer v e e (want.Ask (r.End n))
wants_last c cs b flags newer v e n line s old =
    let over : next_step c b e.stage e.machine ≡ ends = ends_next c b flags newer e s in
    record {
      keeps = λ x look steps there. there;
      halts = (
        λ x look steps there.
            asks_act (at_rest c cs e (walk_of c.program (plans_in cs) x steps) s.0 there.there.at)
            (ap (request_at (end_line c.program b.func)) over ∙ ap (λ (j : ℕ). Some (r.End j)) (sym line))
            (there.there.place.ending over),
        sym old,
      );
      free = asks_free c b flags e (r.End n) (halts_ending c b flags newer e s);
      stands = stays_here c cs b e;
      stays = halts_before c b flags newer e e (halts_ending c b flags newer e s);
    }

wants_newer_end : (c : Flow) (cs : List (Option Compiled)) (b : Birth) (flags : List ℕ) (newer : Bool) (v : Version) (e : Execution) (u : Request)
    → Stops c b flags newer e stop.Ends → newer ≡ true → TakesNewer c e e.place v u → ComesOf c cs b flags newer v e e (want.Ask u)
wants_newer_end c cs b flags newer v e u s new told =
    let w : Progress = next_step c b e.stage e.machine in
    let over : w ≡ ends = ends_next c b flags newer e s in
    record {
      keeps = λ x look steps there. there;
      halts = (
        λ x look steps there.
            (let z : Walk = walk_of c.program (plans_in cs) x steps in
            asks_newer c cs e z w (end_line c.program b.func) e.place (request_place z) v u told there.there.at
            (ahead_of z z.owed w (request_place z) (at_rest c cs e z s.0 there.there.at) (subst (λ y. IsNextPlace z y (request_place z)) (sym over) refl)) (there.there.place.ending over)),
        told.asks ∙ sym new,
      );
      free = asks_free c b flags e u (halts_ending c b flags newer e s);
      stands = stays_here c cs b e;
      stays = halts_before c b flags newer e e (halts_ending c b flags newer e s);
    }

pub wants_end : (c : Flow) (cs : List (Option Compiled)) (b : Birth) (flags : List ℕ) (newer : Bool) (v : Version) (e : Execution) (n : ℕ) (u : Request) → n ≡ end_line c.program b.func
    → Stops c b flags newer e stop.Ends → AsksFirst c e e.place newer v (r.End n) u → ComesOf c cs b flags newer v e e (want.Ask u)
wants_end c cs b flags true v e n u line s h = wants_newer_end c cs b flags true v e u s refl (h.new refl)
wants_end c cs b flags false v e n u line s h = subst (λ y. ComesOf c cs b flags false v e e (want.Ask y)) (sym (h.old refl)) (wants_last c cs b flags false v e n line s refl)

-- What is owed

first_owed : (os : Queue) (q : Request) → IsFirstRequest os q → (l : ℕ) × ((o : Operation) × (Owes os l o × (operation_request l o ≡ Some q)))
first_owed [] q h = absurd h
first_owed (x ∷ xs) q h = (x.0, (x.1, (refl, h)))

same_request : (a b : Request) → ◌≡◌ {A = Option Request} (Some a) (Some b) → a ≡ b
same_request a b e = cc

owed_no_cross : (l : ℕ) (o : Operation) (q : Request) → operation_request l o ≡ Some q → asks_cross q ≡ false
owed_no_cross l (law.wait k n) q h = subst (λ u. asks_cross u ≡ false) (same_request (r.Wait l k n) q h) refl
owed_no_cross l (law.enters k n) q h = subst (λ u. asks_cross u ≡ false) (same_request (r.Enter l k n) q h) refl
owed_no_cross l (law.at k ns) q h = subst (λ u. asks_cross u ≡ false) (same_request (r.At l k ns) q h) refl
owed_no_cross l (law.past k ns) q h = subst (λ u. asks_cross u ≡ false) (same_request (r.Past l k ns) q h) refl
owed_no_cross l (law.post k n) q h = subst (λ u. asks_cross u ≡ false) (same_request (r.Post l k n) q h) refl
owed_no_cross l (law.leave k n) q h = subst (λ u. asks_cross u ≡ false) (same_request (r.Leave l k n) q h) refl
owed_no_cross l law.back q h = subst (λ u. asks_cross u ≡ false) (same_request (r.Back l) q h) refl
owed_no_cross l (law.tick n) q h = subst (λ u. asks_cross u ≡ false) (same_request (r.Tick l n) q h) refl
owed_no_cross l _ q h = absurd (no_request q h)

first_no_cross : (os : Queue) (q : Request) → IsFirstRequest os q → asks_cross q ≡ false
first_no_cross [] q h = absurd h
first_no_cross (x ∷ xs) q h = owed_no_cross x.0 x.1 q h

wants_operation : (c : Flow) (cs : List (Option Compiled)) (b : Birth) (flags : List ℕ) (newer : Bool) (v : Version) (e : Execution) (q : Request) → IsFirstRequest (queue e.walk.owed) q
    → Stops c b flags newer e stop.Owes → newer ≡ false → ComesOf c cs b flags newer v e e (want.Ask q)
wants_operation c cs b flags newer v e q first s old =
    let o : (l : ℕ) × ((o : Operation) × (Owes (queue e.walk.owed) l o × (operation_request l o ≡ Some q))) = first_owed (queue e.walk.owed) q first in
    record {
      keeps = λ x look steps there. there;
      halts = (λ x look steps there. asks_owed o.0 o.1.0 (subst (λ os. Owes os o.0 o.1.0) (sym there.there.at.owed) o.1.1.0) o.1.1.1, first_no_cross (queue e.walk.owed) q first ∙ sym old);
      free = asks_free c b flags e q (by_owed s);
      stands = stays_here c cs b e;
      stays = halts_before c b flags newer e e (by_owed s);
    }

wants_newer_owing : (c : Flow) (cs : List (Option Compiled)) (b : Birth) (flags : List ℕ) (newer : Bool) (v : Version) (e : Execution) (u : Request)
    → Stops c b flags newer e stop.Owes → newer ≡ true → TakesNewer c e e.place v u → ComesOf c cs b flags newer v e e (want.Ask u)
wants_newer_owing c cs b flags newer v e u s new told = record {
  keeps = λ x look steps there. there;
  halts = (
    λ x look steps there.
        (let z : Walk = walk_of c.program (plans_in cs) x steps in
        let owes : z.owed ≡ [] → ⊥ = λ g. s (sym there.there.at.owed ∙ g) in
        asks_newer c cs e z (next_step c b e.stage e.machine) (end_line c.program b.func) e.place (request_place z) v u told there.there.at
        (ahead_owing z z.owed (next_step c b e.stage e.machine) (request_place z) owes refl) (there.there.place.owing owes)),
    told.asks ∙ sym new,
  );
  free = asks_free c b flags e u (by_owed s);
  stands = stays_here c cs b e;
  stays = halts_before c b flags newer e e (by_owed s);
}

pub wants_owed : (c : Flow) (cs : List (Option Compiled)) (b : Birth) (flags : List ℕ) (newer : Bool) (v : Version) (e : Execution) (q u : Request) → IsFirstRequest (queue e.walk.owed) q
    → Stops c b flags newer e stop.Owes → AsksFirst c e e.place newer v q u → ComesOf c cs b flags newer v e e (want.Ask u)
wants_owed c cs b flags true v e q u first s h = wants_newer_owing c cs b flags true v e u s refl (h.new refl)
wants_owed c cs b flags false v e q u first s h = subst (λ y. ComesOf c cs b flags false v e e (want.Ask y)) (sym (h.old refl)) (wants_operation c cs b flags false v e q first s refl)

-- Where it stopped its place is one of the program.

pub end_within : (c : Flow) (b : Birth) (newer : Bool) (e : Execution) → IsLowered c → HasStopped c b newer e stop.Ends → e.place < length c.sites
end_within c b newer e l h =
    let z : Walk = walk_of c.program (plans_in h.filters) h.somewhere.own h.somewhere.steps in
    site_within c e.place (request_place z) l (h.somewhere.there.there.place.ending (ends_next c b h.flags newer e h.stops))

pub owing_within : (c : Flow) (b : Birth) (newer : Bool) (e : Execution) → IsLowered c → HasStopped c b newer e stop.Owes → e.place < length c.sites
owing_within c b newer e l h =
    let z : Walk = walk_of c.program (plans_in h.filters) h.somewhere.own h.somewhere.steps in
    site_within c e.place (request_place z) l (h.somewhere.there.there.place.owing (λ g. h.stops (sym h.somewhere.there.there.at.owed ∙ g)))

pub crosses_within : (c : Flow) (b : Birth) (newer : Bool) (e : Execution) (k : ℕ) → IsLowered c → HasStopped c b newer e (stop.Crosses k) → k < length c.sites
crosses_within c b newer e k l h = let u : IsComing c (next_step c b e.stage e.machine) k = coming c b e.stage e.machine e.walk k l h.may h.stops.1.0 in site_within c k u.place l u.at

-- The machine of a thread that stopped with a request is before an instruction.
pub asks_sound : (c : Flow) (b : Birth) (newer : Bool) (e : Execution) (q : Request) → HasStopped c b newer e (stop.Asks q) → IsSoundPosition c (position e.machine)
asks_sound c b newer e q h = sound_of (subst (λ s. MayRunFrom c b s e.machine e.walk) h.stops.1.0 h.may)
  where
    sound_of : IsRunning c e.machine → IsSoundPosition c (position e.machine)
    sound_of g = g.sound

pub asks_there : (c : Flow) (b : Birth) (newer : Bool) (e : Execution) (q : Request) → HasStopped c b newer e (stop.Asks q) → (e.machine.phase ≡ phase.Before) × (e.machine.state.at < length c.code)
asks_there c b newer e q h = asks_inside c e.machine q (asks_sound c b newer e q h) h.stops.1.1
