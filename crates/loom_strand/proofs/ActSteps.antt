-- A thread takes the answer of its instruction, traps, or ends.
use Rattle.std.proofs.Common.{ℕ, ◌≡◌, ◌<◌, List, [], ◌∷◌, ◌++◌, ℤ, length, Option, Some, refl, inl, inr, sym, ap, subst, ◌∙◌, arith}
use Rattle.loom_tree.specs.Tree.{Source}
use Rattle.loom_lang.specs.Places.{Place, place_at}
use Rattle.loom_lang.specs.Places as site
use Rattle.loom_lang.specs.Trace.{Item, Open, Finished, Cause, Act, end, trap, made, IsTrace}
use Rattle.loom_event.specs.TargetEvent.{entry_by}
use Rattle.loom_flow.specs.Flow.{Flow}
use Rattle.loom_flow.specs.Code.{IsLowered}
use Rattle.loom_flow.specs.Progress.{Progress, ends}
use Rattle.loom_law.specs.Walk.{Version, Plans, PartStep, items, filter_entries, Walk, unborn, tick_after, request_place, after_item, AreWoven}
use Rattle.loom_law.specs.Walk as walk
use Rattle.loom_law.specs.ThreadPart.{Own, walk_of, with_entry}
use Rattle.loom_law.proofs.Answers.{woven_last}
use Rattle.loom_plan.specs.Compiled.{Compiled}
use Rattle.loom_version.specs.Plans.{plans_in}
use Rattle.loom_walk.specs.FilterWalk.{IsAt}
use Rattle.loom_walk.specs.Growth.{AreThere}
use Rattle.loom_strand.specs.declared.execution.Execution.{Execution}
use Rattle.loom_strand.specs.declared.stage.Birth.{Birth}
use Rattle.loom_strand.specs.declared.reply.Reply.TheVariants as a
use Rattle.loom_strand.specs.Reply.{Takes}
use Rattle.loom_strand.specs.Way.{MayCome, Look, looks_nowhere, looks_ahead, looks_for_grant, IsNoTrap, IsSeen, end_line, next_step, IsWay}
use Rattle.loom_strand.specs.InPart.{IsThere, IsInPart}
use Rattle.loom_strand.specs.Strand.{IsWholePart}
use Rattle.loom_strand.proofs.Grants.{IsPlain}
use Rattle.loom_strand.proofs.PartLaws.{act_place}
use Rattle.loom_strand.proofs.PartSteps.{flat_tree}
use Rattle.loom_strand.proofs.Stays.{locals_trapped}
use Rattle.loom_strand.proofs.Steps.{items_append, walk_append, told_append, act_stands, act_coming, act_active, act_passes_none}
use Rattle.loom_strand.proofs.Ways.{none_comes, ComesBefore, way_acts}
use Rattle.loom_strand.proofs.Taken.{filters_at, active_there}

-- the act is such as the last steps look for
pub act_seen : (look : Look) (l : ℕ) (act : Act) → (look ≡ looks_for_grant → IsNoTrap (made l act)) → (is : List Item) → IsSeen look (made l act ∷ is)
act_seen looks_nowhere l act h is = tt
act_seen looks_ahead l act h is = tt
act_seen looks_for_grant l act h is = h refl

-- Grants

-- Behind the answer something else comes than the end of the thread.
granted_there : (c : Flow) (cs : List (Option Compiled)) (b : Birth) (v : Version) (vs : List Version) (old new : Execution) (u : ℤ) (t l : ℕ) (act : Act) (look : Look) (z : Walk) → z.owed ≡ []
    → (next_step c b new.stage new.machine ≡ ends → ⊥) → IsPlain t l act → Takes c cs v old new (a.Gives u) → IsThere c cs b vs old look z
    → IsThere c cs b vs new looks_nowhere (after_item c.program (plans_in cs) z (made l act))
granted_there c cs b v vs old new u t l act look z none lives p k h =
    let y : Walk = after_item c.program (plans_in cs) z (made l act) in
    let now : IsAt c.program (plans_in cs) new.walk y = k.walk z l act p.instruction h.at in
    let same : y.active ≡ z.active = act_active c.program (plans_in cs) z l act p.no_begin in
    let rests : y.owed ≡ [] = ap (λ (q : Walk). q.owed) (p.walk c.program (plans_in cs) z) ∙ none in
    record {
      at = now;
      active = same ∙ h.active;
      filters = filters_at c.program cs new.walk y now (subst (AreThere c.program cs) (sym same) (active_there c.program cs old.walk z h.at h.filters));
      rests = inl refl;
      few = λ e. subst (λ xs. length xs < tick_after) (sym (act_passes_none c.program (plans_in cs) z l act p.no_begin)) (omega arith);
      place = record { owing = λ owes. absurd (owes rests); ending = λ over. absurd (lives over) };
      locals = inl rests;
    }

pub part_granted : (c : Flow) (cs : List (Option Compiled)) (b : Birth) (v : Version) (x : Own) (old new : Execution) (u : ℤ) (l : ℕ) (act : Act) (w : Progress) (look : Look) (steps : List PartStep)
    → (walk_of c.program (plans_in cs) x steps).owed ≡ [] → next_step c b new.stage new.machine ≡ w → (w ≡ ends → ⊥) → IsPlain x.thread l act → ComesBefore c x.func (next_step c b old.stage old.machine) (made l act) w
    → Takes c cs v old new (a.Gives u) → IsInPart c cs b x old look steps → IsInPart c cs b (with_entry x (entry_by x.thread l act)) new looks_nowhere (steps ++ walk.goes (made l act) ∷ [])
part_granted c cs b v x old new u l act w look steps none next lives p comes k h =
    let y : Own = with_entry x (entry_by x.thread l act) in
    let longer : List PartStep = steps ++ walk.goes (made l act) ∷ [] in
    record {
      way = subst (λ q. IsWay c (plans_in cs) y q looks_nowhere longer) (sym next)
          (way_acts c (plans_in cs) x (next_step c b old.stage old.machine) w l act look steps p.no_begin none comes (act_seen look l act (λ e. p.no_trap)) h.way);
      there = subst (IsThere c cs b x.versions new looks_nowhere) (sym (walk_append c.program (plans_in cs) (unborn x.versions) steps (walk.goes (made l act) ∷ [])))
          (granted_there c cs b v x.versions old new u x.thread l act look (walk_of c.program (plans_in cs) x steps) none (λ over. lives (sym next ∙ over)) p k h.there);
    }

pub acted_passed : (p : Source) (plans : Plans) (y : Own) (steps : List PartStep) (t l : ℕ) (act : Act) → IsPlain t l act → (walk_of p plans y (steps ++ walk.goes (made l act) ∷ [])).passed ≡ []
acted_passed p plans y steps t l act h =
    ap (λ (z : Walk). z.passed) (walk_append p plans (unborn y.versions) steps (walk.goes (made l act) ∷ [])) ∙ act_passes_none p plans (walk_of p plans y steps) l act h.no_begin

-- Traps

-- it traps in the statement of its line
trap_place : (c : Flow) (plans : Plans) (x : Own) (w : Progress) (look : Look) (steps : List PartStep) (l : ℕ) (k : Cause) → IsLowered c → (walk_of c.program plans x steps).owed ≡ []
    → ComesBefore c x.func w (made l (trap k)) ends → IsWay c plans x w look steps → request_place (walk_of c.program plans x steps) ≡ site.inside l
trap_place c plans x w look steps l k low none comes h =
    act_place c.program low.lawful plans x steps l (trap k) [] Open tt none
    (flat_tree c low x.func x.args (items steps ++ made l (trap k) ∷ []) Open (h.trace (made l (trap k) ∷ []) Open 1 (comes [] Open 0 (none_comes c x.func ends))))

trapped_there : (c : Flow) (cs : List (Option Compiled)) (b : Birth) (v : Version) (vs : List Version) (old new : Execution) (l : ℕ) (k : Cause) (look : Look) (z : Walk)
    → place_at c.program old.place ≡ Some (site.inside l) → Takes c cs v old new (a.Traps l) → IsThere c cs b vs old look z
    → IsThere c cs b vs new looks_nowhere (after_item c.program (plans_in cs) z (made l (trap k)))
trapped_there c cs b v vs old new l k look z there t h =
    let y : Walk = after_item c.program (plans_in cs) z (made l (trap k)) in
    let now : IsAt c.program (plans_in cs) new.walk y = t.walk z k h.at in
    let place : place_at c.program new.place ≡ Some (site.inside l) = subst (λ n. place_at c.program n ≡ Some (site.inside l)) (sym t.place) there in
    record {
      at = now;
      active = h.active;
      filters = filters_at c.program cs new.walk y now (active_there c.program cs old.walk z h.at h.filters);
      rests = inl refl;
      few = λ e. (let few : 0 < tick_after = omega arith in few);
      place = record { owing = λ owes. place; ending = λ over. place };
      locals = inr (locals_trapped c.program new.walk.spot new.machine.state.locals l);
    }

pub part_trapped : (c : Flow) (cs : List (Option Compiled)) (b : Birth) (v : Version) (x : Own) (old new : Execution) (l : ℕ) (k : Cause) (look : Look) (steps : List PartStep) → IsLowered c
    → (walk_of c.program (plans_in cs) x steps).owed ≡ [] → next_step c b new.stage new.machine ≡ ends → (look ≡ looks_for_grant → ⊥) → ComesBefore c x.func (next_step c b old.stage old.machine) (made l (trap k)) ends
    → place_at c.program old.place ≡ Some (request_place (walk_of c.program (plans_in cs) x steps)) → Takes c cs v old new (a.Traps l) → IsInPart c cs b x old look steps
    → IsInPart c cs b (with_entry x (entry_by x.thread l (trap k))) new looks_nowhere (steps ++ walk.goes (made l (trap k)) ∷ [])
part_trapped c cs b v x old new l k look steps low none next free comes there t h =
    let y : Own = with_entry x (entry_by x.thread l (trap k)) in
    let longer : List PartStep = steps ++ walk.goes (made l (trap k)) ∷ [] in
    let inside : place_at c.program old.place ≡ Some (site.inside l) =
    there ∙ ap {B = Option Place} Some (trap_place c (plans_in cs) x (next_step c b old.stage old.machine) look steps l k low none comes h.way) in
    record {
      way = subst (λ q. IsWay c (plans_in cs) y q looks_nowhere longer) (sym next)
          (way_acts c (plans_in cs) x (next_step c b old.stage old.machine) ends l (trap k) look steps tt none comes (act_seen look l (trap k) (λ e. absurd (free e))) h.way);
      there = subst (IsThere c cs b x.versions new looks_nowhere) (sym (walk_append c.program (plans_in cs) (unborn x.versions) steps (walk.goes (made l (trap k)) ∷ [])))
          (trapped_there c cs b v x.versions old new l k look (walk_of c.program (plans_in cs) x steps) inside t h.there);
    }

-- Ends

ends_seen : (look : Look) (l : ℕ) → IsSeen look (made l end ∷ [])
ends_seen looks_nowhere l = tt
ends_seen looks_ahead l = tt
ends_seen looks_for_grant l = tt

pub whole_ended : (c : Flow) (plans : Plans) (x : Own) (w : Progress) (look : Look) (steps : List PartStep) → IsLowered c → w ≡ ends → (walk_of c.program plans x steps).owed ≡ [] → IsWay c plans x w look steps
    → IsWholePart c.program plans (with_entry x (entry_by x.thread (end_line c.program x.func) end))
whole_ended c plans x w look steps low at_end none h =
    let line : ℕ = end_line c.program x.func in
    let last : PartStep = walk.goes (made line end) in
    let is : List Item = made line end ∷ [] in
    let comes : MayCome c x.func w 0 is Finished = subst (λ v. MayCome c x.func v 0 is Finished) (sym at_end) (inr ([], refl, (refl, inl refl))) in
    let woven : AreWoven c.program plans (unborn x.versions) steps is = h.woven is Finished 0 comes (ends_seen look line) in
    record {
      steps = steps ++ last ∷ [];
      trace = subst (λ us. IsTrace c.program x.func x.args us Finished) (sym (items_append steps (last ∷ []))) (flat_tree c low x.func x.args (items steps ++ is) Finished (h.trace is Finished 0 comes));
      woven = woven_last c.program plans (unborn x.versions) steps last [] woven (act_stands c.program (walk_of c.program plans x steps) line end [] tt none);
      tells = told_append x.thread steps (last ∷ []) ∙ ap (λ es. es ++ entry_by x.thread line end ∷ []) h.tells;
      taken = ap (λ (z : Walk). z.coming) (walk_append c.program plans (unborn x.versions) steps (last ∷ [])) ∙ (act_coming c.program plans (walk_of c.program plans x steps) line end tt ∙ h.taken);
    }
