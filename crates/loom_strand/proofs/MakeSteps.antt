-- A thread makes what it owed, and goes on.
use Rattle.std.proofs.Common.{ℕ, ◌≡◌, ◌<◌, ◌⊎◌, false, List, [], ◌∷◌, ◌++◌, length, Option, Some, None, refl, inl, inr, sym, ap, subst, ◌∙◌, arith}
use Rattle.loom_lang.specs.Places.{Place, place_at}
use Rattle.loom_trace.specs.declared.entry.Entry.{Entry}
use Rattle.loom_trace.specs.declared.request.Request.{Request}
use Rattle.loom_trace.specs.declared.request.Request.TheVariants as r
use Rattle.loom_event.specs.Answer.{IsAnswerTo}
use Rattle.loom_flow.specs.Flow.{Flow}
use Rattle.loom_flow.specs.Code.{IsLowered}
use Rattle.loom_flow.specs.Progress.{Progress, ends}
use Rattle.loom_law.specs.Laws.{with_newest}
use Rattle.loom_law.specs.Walk.{Version, Operation, wait, enters, at, past, post, leave, back, tick, cross, blocked, PartStep, makes, Queue, Walk, unborn, tick_after, request_place, after_operation, entry_of_operation, Owes}
use Rattle.loom_law.specs.ThreadPart.{Own, walk_of, with_entry}
use Rattle.loom_law.specs.TurnLaws.{is_blocked_entry}
use Rattle.loom_plan.specs.Compiled.{Compiled}
use Rattle.loom_version.specs.Plans.{plans_in}
use Rattle.loom_walk.specs.FilterWalk.{IsAt, HasLocalsAt}
use Rattle.loom_walk.specs.Growth.{AreThere}
use Rattle.loom_strand.specs.declared.execution.Execution.{Execution}
use Rattle.loom_strand.specs.declared.stage.Birth.{Birth}
use Rattle.loom_strand.specs.declared.reply.Reply.TheVariants as a
use Rattle.loom_strand.specs.Machine.{Machine}
use Rattle.loom_strand.specs.Reply.{reply_of, want_behind, Takes}
use Rattle.loom_strand.specs.Life.{is_end}
use Rattle.loom_strand.specs.Way.{looks_nowhere, next_step, IsWay}
use Rattle.loom_strand.specs.InPart.{IsThere, IsInPart}
use Rattle.loom_strand.specs.StrandInvariant.{operation_request}
use Rattle.loom_strand.proofs.NextRequests.{way_owes}
use Rattle.loom_strand.proofs.Stays.{operation_place, operation_locals, operation_active, operation_passed}
use Rattle.loom_strand.proofs.Steps.{walk_append}
use Rattle.loom_strand.proofs.Taken.{filters_at, active_there, ends_bare, same_next}

owing : (os : Queue) (l : ℕ) (o : Operation) → Owes os l o → os ≡ [] → ⊥
owing [] l o h e = h
owing (x ∷ xs) l o h e = cc

-- the walk and the place behind it
made_there : (c : Flow) (cs : List (Option Compiled)) (b : Birth) (v : Version) (vs : List Version) (old new : Execution) (z : Walk) (l : ℕ) (o : Operation) (q : Request) → IsLowered c
    → operation_request l o ≡ Some q → Owes z.owed l o → Takes c cs v old new a.Makes
    → (next_step c b new.stage new.machine ≡ ends → Walk.frames (after_operation c.program (plans_in cs) z o) ≡ []) → IsThere c cs b vs old looks_nowhere z
    → IsThere c cs b vs new looks_nowhere (after_operation c.program (plans_in cs) z o)
made_there c cs b v vs old new z l o q low e owes t bare h =
    let u : Walk = after_operation c.program (plans_in cs) z o in
    let some : z.owed ≡ [] → ⊥ = owing z.owed l o owes in
    let now : IsAt c.program (plans_in cs) new.walk u = t.walk z l o owes h.at in
    let same : u.active ≡ z.active = operation_active c.program (plans_in cs) z l o q e in
    let machine : new.machine ≡ old.machine = t.machine in
    let place : ((u.owed ≡ [] → ⊥) ⊎ (u.frames ≡ [])) → place_at c.program new.place ≡ Some (request_place u) = λ more.
    subst (λ k. place_at c.program k ≡ Some (request_place u)) (sym t.place)
    (h.place.owing some ∙ ap {B = Option Place} Some (sym (operation_place c.program (plans_in cs) z l o q e some more))) in
    record {
      at = now;
      active = same ∙ h.active;
      filters = filters_at c.program cs new.walk u now (subst (AreThere c.program cs) (sym same) (active_there c.program cs old.walk z h.at h.filters));
      rests = inl refl;
      few = λ none. subst (λ xs. length xs < tick_after) (sym (operation_passed c.program (plans_in cs) z l o q e)) (omega arith);
      place = record { owing = λ more. place (inl more); ending = λ over. place (inr (bare over)) };
      locals = inr (subst (λ (m : Machine). HasLocalsAt c.program new.walk.spot m.state.locals u.spot) (sym machine)
          (operation_locals c.program (plans_in cs) low.lawful z l o q old.walk.spot new.walk.spot old.machine.state.locals e h.at.spot now.spot (its_locals some h.locals)));
    }
  where
    its_locals : (z.owed ≡ [] → ⊥) → (z.owed ≡ []) ⊎ HasLocalsAt c.program old.walk.spot old.machine.state.locals z.spot → HasLocalsAt c.program old.walk.spot old.machine.state.locals z.spot
    its_locals some (inl none) = absurd (some none)
    its_locals some (inr g) = g

pub part_made : (c : Flow) (cs : List (Option Compiled)) (b : Birth) (v : Version) (x : Own) (old new : Execution) (steps : List PartStep) (l : ℕ) (o : Operation) (q : Request) → IsLowered c
    → operation_request l o ≡ Some q → Owes (walk_of c.program (plans_in cs) x steps).owed l o → new.stage ≡ old.stage → Takes c cs v old new a.Makes → IsInPart c cs b x old looks_nowhere steps
    → IsInPart c cs b (with_entry x (entry_of_operation x.thread l o)) new looks_nowhere (steps ++ makes l o ∷ [])
part_made c cs b v x old new steps l o q low e owes st t h =
    let y : Own = with_entry x (entry_of_operation x.thread l o) in
    let longer : List PartStep = steps ++ makes l o ∷ [] in
    let w : Progress = next_step c b new.stage new.machine in
    let next : w ≡ next_step c b old.stage old.machine = same_next c b old new st t.machine in
    let way : IsWay c (plans_in cs) y w looks_nowhere longer =
    way_owes c (plans_in cs) x w looks_nowhere steps l o q e owes (subst (λ u. IsWay c (plans_in cs) x u looks_nowhere steps) (sym next) h.way) in
    let behind : walk_of c.program (plans_in cs) y longer ≡ after_operation c.program (plans_in cs) (walk_of c.program (plans_in cs) x steps) o =
    walk_append c.program (plans_in cs) (unborn x.versions) steps (makes l o ∷ []) in
    record {
      way = way;
      there = subst (IsThere c cs b x.versions new looks_nowhere) (sym behind)
          (made_there c cs b v x.versions old new (walk_of c.program (plans_in cs) x steps) l o q low e owes t
          (λ over. sym (ap (λ (z : Walk). z.frames) behind) ∙ ends_bare c (plans_in cs) y w looks_nowhere longer low way over) h.there);
    }

-- What the entry of an operation tells

none_some : (q : Request) → ◌≡◌ {A = Option Request} None (Some q) → ⊥
none_some q e = cc

same_request : (x y : Request) → ◌≡◌ {A = Option Request} (Some x) (Some y) → x ≡ y
same_request x y e = cc

-- It tells that the operation was made, and nothing else.
pub record TellsMaking (x : Entry) : Type 0 where
  pub reply : reply_of x ≡ Some a.Makes
  pub lives : is_end x ≡ false
  pub free : is_blocked_entry x ≡ false
  pub versions : (v : Version) (vs : List Version) → with_newest x v vs ≡ vs
  pub asks : (want : Option Request) → want_behind (reply_of x) want ≡ None

pub tells_making : (t l : ℕ) (o : Operation) (q : Request) → operation_request l o ≡ Some q → TellsMaking (entry_of_operation t l o)
tells_making t l (wait k n) q e = record { reply = refl; lives = refl; free = refl; versions = λ v vs. refl; asks = λ want. refl }
tells_making t l (enters k c) q e = record { reply = refl; lives = refl; free = refl; versions = λ v vs. refl; asks = λ want. refl }
tells_making t l (at k ns) q e = record { reply = refl; lives = refl; free = refl; versions = λ v vs. refl; asks = λ want. refl }
tells_making t l (past k ns) q e = record { reply = refl; lives = refl; free = refl; versions = λ v vs. refl; asks = λ want. refl }
tells_making t l (post k n) q e = record { reply = refl; lives = refl; free = refl; versions = λ v vs. refl; asks = λ want. refl }
tells_making t l (leave k c) q e = record { reply = refl; lives = refl; free = refl; versions = λ v vs. refl; asks = λ want. refl }
tells_making t l back q e = record { reply = refl; lives = refl; free = refl; versions = λ v vs. refl; asks = λ want. refl }
tells_making t l (tick x) q e = record { reply = refl; lives = refl; free = refl; versions = λ v vs. refl; asks = λ want. refl }
tells_making t l (cross x v n) q e = absurd (none_some q e)
tells_making t l (blocked what) q e = absurd (none_some q e)

-- The answer to a request for it is its entry.
pub making_answer : (t l : ℕ) (o : Operation) (q : Request) (x : Entry) → operation_request l o ≡ Some q → IsAnswerTo t q x → x ≡ entry_of_operation t l o
making_answer t l (wait k n) q x e h = subst (λ u. IsAnswerTo t u x) (sym (same_request (r.Wait l k n) q e)) h
making_answer t l (enters k c) q x e h = subst (λ u. IsAnswerTo t u x) (sym (same_request (r.Enter l k c) q e)) h
making_answer t l (at k ns) q x e h = subst (λ u. IsAnswerTo t u x) (sym (same_request (r.At l k ns) q e)) h
making_answer t l (past k ns) q x e h = subst (λ u. IsAnswerTo t u x) (sym (same_request (r.Past l k ns) q e)) h
making_answer t l (post k n) q x e h = subst (λ u. IsAnswerTo t u x) (sym (same_request (r.Post l k n) q e)) h
making_answer t l (leave k c) q x e h = subst (λ u. IsAnswerTo t u x) (sym (same_request (r.Leave l k c) q e)) h
making_answer t l back q x e h = subst (λ u. IsAnswerTo t u x) (sym (same_request (r.Back l) q e)) h
making_answer t l (tick k) q x e h = subst (λ u. IsAnswerTo t u x) (sym (same_request (r.Tick l k) q e)) h
making_answer t l (cross y v n) q x e h = absurd (none_some q e)
making_answer t l (blocked what) q x e h = absurd (none_some q e)
