-- A thread goes over to a newer version, and goes on.
use Rattle.std.proofs.Common.{ℕ, ◌≡◌, ◌<◌, ◌⊎◌, List, [], ◌∷◌, ◌++◌, length, Option, Some, refl, inl, inr, sym, ap, subst, ◌∙◌, arith}
use Rattle.loom_lang.specs.Places.{Place, place_at, line_of_place}
use Rattle.loom_flow.specs.Flow.{Flow}
use Rattle.loom_flow.specs.Code.{IsLowered}
use Rattle.loom_flow.specs.Progress.{Progress, ends}
use Rattle.loom_law.specs.Walk.{Version, cross, PartStep, makes, Queue, Walk, tick_after, request_place, crossing}
use Rattle.loom_law.specs.ThreadPart.{Own, walk_of}
use Rattle.loom_law.proofs.PlaceNumbers.{one_number}
use Rattle.loom_plan.specs.Compiled.{Compiled}
use Rattle.loom_version.specs.Plans.{plans_in}
use Rattle.loom_walk.specs.FilterWalk.{IsAt, HasFilters, HasLocalsAt}
use Rattle.loom_strand.specs.declared.execution.Execution.{Execution}
use Rattle.loom_strand.specs.declared.stage.Birth.{Birth}
use Rattle.loom_strand.specs.declared.reply.Reply.TheVariants as a
use Rattle.loom_strand.specs.Machine.{Machine}
use Rattle.loom_strand.specs.Reply.{Takes}
use Rattle.loom_strand.specs.Way.{Look, looks_nowhere, looks_ahead, looks_for_grant, next_step, IsWay, IsPlaceAhead}
use Rattle.loom_strand.specs.InPart.{IsThere, IsInPart}
use Rattle.loom_strand.proofs.LastEntries.{last_taken}
use Rattle.loom_strand.proofs.RequestWays.{HasAhead, crossed_look, with_version, crossed_walk, way_crosses}
use Rattle.loom_strand.proofs.Stays.{crossing_place, crossing_rests, crossing_locals}
use Rattle.loom_strand.proofs.Taken.{filters_at, ends_bare, same_next}

-- Looks

pub crossed_grant : (os : Queue) (look : Look) → crossed_look os look ≡ looks_for_grant → look ≡ looks_for_grant
crossed_grant [] looks_nowhere h = cc
crossed_grant [] looks_ahead h = cc
crossed_grant [] looks_for_grant h = refl
crossed_grant (o ∷ os) look h = h

crossed_rests : (os us : Queue) (look : Look) → (os ≡ [] → us ≡ []) → (look ≡ looks_nowhere) ⊎ (os ≡ []) → (crossed_look os look ≡ looks_nowhere) ⊎ (us ≡ [])
crossed_rests [] us look rests h = inr (rests refl)
crossed_rests (o ∷ os) us look rests (inl h) = inl h
crossed_rests (o ∷ os) us look rests (inr h) = cc

-- the walk and the place behind it
crossed_there : (c : Flow) (cs : List (Option Compiled)) (b : Birth) (v : Version) (vs : List Version) (old new : Execution) (look : Look) (z : Walk) → IsLowered c → HasFilters c.program cs v
    → new.stage ≡ old.stage → Takes c cs v old new a.Crosses → (next_step c b new.stage new.machine ≡ ends → Walk.frames (crossing c.program (plans_in cs) z (v ∷ [])) ≡ []) → IsThere c cs b vs old look z
    → IsThere c cs b (vs ++ v ∷ []) new (crossed_look z.owed look) (crossing c.program (plans_in cs) z (v ∷ []))
crossed_there c cs b v vs old new look z low there st t bare h =
    let u : Walk = crossing c.program (plans_in cs) z (v ∷ []) in
    let now : IsAt c.program (plans_in cs) new.walk u = t.walk z h.locals h.at in
    let machine : new.machine ≡ old.machine = t.machine in
    let rests : z.owed ≡ [] → u.owed ≡ [] = crossing_rests c.program (plans_in cs) z v in
    let place : ((u.owed ≡ [] → ⊥) ⊎ (u.frames ≡ [])) → place_at c.program old.place ≡ Some (request_place z) → place_at c.program new.place ≡ Some (request_place u) = λ more at.
    subst (λ k. place_at c.program k ≡ Some (request_place u)) (sym t.place) (at ∙ ap {B = Option Place} Some (sym (crossing_place c.program (plans_in cs) z v more))) in
    record {
      at = now;
      active = sym (last_taken vs v);
      filters = filters_at c.program cs new.walk u now there.all;
      rests = crossed_rests z.owed u.owed look rests h.rests;
      few = λ none. (let few : 0 < tick_after = omega arith in few);
      place = record {
        owing = λ more. place (inl more) (h.place.owing (λ none. more (rests none)));
        ending = λ over. place (inr (bare over)) (h.place.ending (sym (same_next c b old new st machine) ∙ over));
      };
      locals = its_locals machine now rests h.locals;
    }
  where
    its_locals : new.machine ≡ old.machine → IsAt c.program (plans_in cs) new.walk (crossing c.program (plans_in cs) z (v ∷ [])) → (z.owed ≡ [] → Walk.owed (crossing c.program (plans_in cs) z (v ∷ [])) ≡ [])
        → (z.owed ≡ []) ⊎ HasLocalsAt c.program old.walk.spot old.machine.state.locals z.spot
        → (Walk.owed (crossing c.program (plans_in cs) z (v ∷ [])) ≡ []) ⊎ HasLocalsAt c.program new.walk.spot new.machine.state.locals (Walk.spot (crossing c.program (plans_in cs) z (v ∷ [])))
    its_locals machine now rests (inl none) = inl (rests none)
    its_locals machine now rests (inr g) =
        inr (subst (λ (m : Machine). HasLocalsAt c.program new.walk.spot m.state.locals (Walk.spot (crossing c.program (plans_in cs) z (v ∷ [])))) (sym machine)
        (crossing_locals c.program low.lawful v.active old.walk.spot new.walk.spot old.machine.state.locals z.spot h.at.spot now.spot g))

pub part_crossed : (c : Flow) (cs : List (Option Compiled)) (b : Birth) (v : Version) (x : Own) (old new : Execution) (look : Look) (steps : List PartStep) (y : Place) (k : ℕ) → IsLowered c → HasFilters c.program cs v
    → new.stage ≡ old.stage → Takes c cs v old new a.Crosses → HasAhead c x.func (next_step c b old.stage old.machine) look
    → IsPlaceAhead (walk_of c.program (plans_in cs) x steps).owed (walk_of c.program (plans_in cs) x steps) (next_step c b old.stage old.machine) y → place_at c.program k ≡ Some y → IsInPart c cs b x old look steps
    → IsInPart c cs b (with_version x v (line_of_place c.program y) k (length (walk_of c.program (plans_in cs) x steps).passed)) new (crossed_look (walk_of c.program (plans_in cs) x steps).owed look)
    (steps ++ makes (line_of_place c.program y) (cross k v.number (length (walk_of c.program (plans_in cs) x steps).passed)) ∷ [])
part_crossed c cs b v x old new look steps y k low there st t ahead next number h =
    let z : Walk = walk_of c.program (plans_in cs) x steps in
    let l : ℕ = line_of_place c.program y in
    let n : ℕ = length z.passed in
    let o : Own = with_version x v l k n in
    let longer : List PartStep = steps ++ makes l (cross k v.number n) ∷ [] in
    let w : Progress = next_step c b new.stage new.machine in
    let same : w ≡ next_step c b old.stage old.machine = same_next c b old new st t.machine in
    let way : IsWay c (plans_in cs) o w (crossed_look z.owed look) longer =
    subst (λ u. IsWay c (plans_in cs) o u (crossed_look z.owed look) longer) (sym same)
    (way_crosses c (plans_in cs) x (next_step c b old.stage old.machine) look steps v y l k n ahead next (sym (one_number c.program low.lawful k y number)) refl refl h.way) in
    let behind : walk_of c.program (plans_in cs) o longer ≡ crossing c.program (plans_in cs) z (v ∷ []) =
    crossed_walk c (plans_in cs) x (next_step c b old.stage old.machine) look steps v l k n ahead h.way in
    record {
      way = way;
      there = subst (IsThere c cs b (x.versions ++ v ∷ []) new (crossed_look z.owed look)) (sym behind)
          (crossed_there c cs b v x.versions old new look z low there st t
          (λ over. sym (ap (λ (u : Walk). u.frames) behind) ∙ ends_bare c (plans_in cs) o w (crossed_look z.owed look) longer low way over) h.there);
    }
