-- A thread is told that its request is disabled, and waits where it asked.
use Rattle.std.proofs.Common.{ℕ, ◌≡◌, ◌<◌, ◌⊎◌, Bool, true, false, List, [], ◌∷◌, ◌++◌, Option, Some, refl, inl, inr, sym, ap, subst, ◌∙◌, arith}
use Rattle.loom_tree.specs.Tree.{Source}
use Rattle.loom_lang.specs.Places.{place_at}
use Rattle.loom_trace.specs.declared.entry.Entry.{Entry}
use Rattle.loom_trace.specs.declared.entry.Entry.TheVariants as e
use Rattle.loom_trace.specs.declared.entry.What.{What}
use Rattle.loom_trace.specs.declared.entry.What.TheVariants as w
use Rattle.loom_trace.specs.declared.request.Request.{Request}
use Rattle.loom_trace.specs.declared.request.Request.TheVariants as r
use Rattle.loom_event.specs.Answer.{IsBlockedAt}
use Rattle.loom_flow.specs.Flow.{Flow}
use Rattle.loom_flow.specs.Code.{IsLowered}
use Rattle.loom_law.specs.Walk.{Version, Plans, blocked, PartStep, makes, Walk, unborn, tick_after, request_place, after_operation}
use Rattle.loom_law.specs.ThreadPart.{Own, walk_of, with_entry}
use Rattle.loom_plan.specs.Compiled.{Compiled}
use Rattle.loom_version.specs.Plans.{plans_in}
use Rattle.loom_walk.specs.FilterWalk.{IsAt, HasLocalsAt}
use Rattle.loom_strand.specs.declared.execution.Execution.{Execution}
use Rattle.loom_strand.specs.declared.stage.Birth.{Birth}
use Rattle.loom_strand.specs.declared.reply.Reply.TheVariants as a
use Rattle.loom_strand.specs.Machine.{Machine}
use Rattle.loom_strand.specs.Reply.{Takes}
use Rattle.loom_strand.specs.Life.{awaits_behind, asks_cross, IsLastBlockedAt}
use Rattle.loom_strand.specs.Way.{Look, looks_nowhere, next_step, IsWay}
use Rattle.loom_strand.specs.InPart.{IsThere, IsInPart}
use Rattle.loom_strand.proofs.BlockWays.{HasBlock}
use Rattle.loom_strand.proofs.Stays.{same_locals}
use Rattle.loom_strand.proofs.Steps.{walk_append}
use Rattle.loom_strand.proofs.Taken.{filters_at, active_there, same_next}

blocked_there : (c : Flow) (cs : List (Option Compiled)) (b : Birth) (v : Version) (vs : List Version) (old new : Execution) (what : What) (look look' : Look) (z : Walk) → IsLowered c → new.stage ≡ old.stage
    → (look' ≡ looks_nowhere) ⊎ (z.owed ≡ []) → Takes c cs v old new a.Waits → IsThere c cs b vs old look z → IsThere c cs b vs new look' (after_operation c.program (plans_in cs) z (blocked what))
blocked_there c cs b v vs old new what look look' z low st rests t h =
    let u : Walk = after_operation c.program (plans_in cs) z (blocked what) in
    let now : IsAt c.program (plans_in cs) new.walk u = t.walk z what h.at in
    let machine : new.machine ≡ old.machine = t.machine in
    let place : place_at c.program old.place ≡ Some (request_place z) → place_at c.program new.place ≡ Some (request_place u) = λ k.
    subst (λ n. place_at c.program n ≡ Some (request_place u)) (sym t.place) k in
    record {
      at = now;
      active = h.active;
      filters = filters_at c.program cs new.walk u now (active_there c.program cs old.walk z h.at h.filters);
      rests = rests;
      few = λ none. (let few : 0 < tick_after = omega arith in few);
      place = record { owing = λ owes. place (h.place.owing owes); ending = λ over. place (h.place.ending (sym (same_next c b old new st machine) ∙ over)) };
      locals = its_locals machine now h.locals;
    }
  where
    its_locals : new.machine ≡ old.machine → IsAt c.program (plans_in cs) new.walk (after_operation c.program (plans_in cs) z (blocked what))
        → (z.owed ≡ []) ⊎ HasLocalsAt c.program old.walk.spot old.machine.state.locals z.spot → (z.owed ≡ []) ⊎ HasLocalsAt c.program new.walk.spot new.machine.state.locals z.spot
    its_locals machine now (inl none) = inl none
    its_locals machine now (inr g) =
        inr (subst (λ (m : Machine). HasLocalsAt c.program new.walk.spot m.state.locals z.spot) (sym machine)
        (same_locals c.program low.lawful old.walk.spot new.walk.spot old.machine.state.locals z.spot h.at.spot now.spot g))

pub part_blocked : (c : Flow) (cs : List (Option Compiled)) (b : Birth) (v : Version) (x : Own) (old new : Execution) (look : Look) (steps : List PartStep) (y : Entry) → IsLowered c → new.stage ≡ old.stage
    → Takes c cs v old new a.Waits → (k : HasBlock c (plans_in cs) x (next_step c b old.stage old.machine) steps y) → IsInPart c cs b x old look steps
    → IsInPart c cs b (with_entry x y) new k.look (steps ++ makes k.line (blocked k.what) ∷ [])
part_blocked c cs b v x old new look steps y low st t k h =
    let z : Walk = walk_of c.program (plans_in cs) x steps in
    let longer : List PartStep = steps ++ makes k.line (blocked k.what) ∷ [] in
    record {
      way = subst (λ q. IsWay c (plans_in cs) (with_entry x y) q k.look longer) (sym (same_next c b old new st t.machine)) k.way;
      there = subst (IsThere c cs b x.versions new k.look) (sym (walk_append c.program (plans_in cs) (unborn x.versions) steps (makes k.line (blocked k.what) ∷ [])))
          (blocked_there c cs b v x.versions old new k.what look k.look z low st k.rests t h.there);
    }

-- it is blocked, and has passed nothing since
pub blocked_walk : (p : Source) (plans : Plans) (x : Own) (steps : List PartStep) (l : ℕ) (what : What)
    → walk_of p plans x (steps ++ makes l (blocked what) ∷ []) ≡ after_operation p plans (walk_of p plans x steps) (blocked what)
blocked_walk p plans x steps l what = walk_append p plans (unborn x.versions) steps (makes l (blocked what) ∷ [])

-- The last entry

never_empty : (es : List Entry) (x : Entry) → [] ≡ es ++ x ∷ [] → ⊥
never_empty [] x h = cc
never_empty (y ∷ es) x h = cc

same_last : (es us : List Entry) (x y : Entry) → es ++ x ∷ [] ≡ us ++ y ∷ [] → x ≡ y
same_last [] [] x y h = cc
same_last [] (z ∷ us) x y h = let no : [] ≡ us ++ y ∷ [] = cc in absurd (never_empty us y no)
same_last (z ∷ es) [] x y h = let no : [] ≡ es ++ x ∷ [] = cc in absurd (never_empty es x no)
same_last (z ∷ es) (u ∷ us) x y h = let others : es ++ x ∷ [] ≡ us ++ y ∷ [] = cc in same_last es us x y others

pub blocked_last : (t : ℕ) (q : Request) (es : List Entry) (x : Entry) → IsBlockedAt t q x → IsLastBlockedAt t q (es ++ x ∷ [])
blocked_last t q es x h front y is told = subst (IsBlockedAt t q) (same_last es front x y is) h

-- no newer version is asked for there
pub blocked_no_cross : (t : ℕ) (q : Request) (x : Entry) → IsBlockedAt t q x → asks_cross q ≡ false
blocked_no_cross t (r.Cross l y v n) x h = absurd h
blocked_no_cross t _ x h = refl

-- a request for a thread's end awaits it
pub blocked_awaits : (b : Bool) (t l n : ℕ) (what : What) → what ≡ w.Join n → awaits_behind b (e.Blocked t l what) ≡ true
blocked_awaits b t l n what is = ap (λ u. awaits_behind b (e.Blocked t l u)) is
