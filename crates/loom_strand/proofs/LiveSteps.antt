-- A private run of a thread that lives, up to where it halts.
use Rattle.std.proofs.Common.{ℕ, ◌≡◌, ◌&&◌, true, false, Bool, List, [], ◌∷◌, Option, Some, None, refl, sym, ap, subst, ◌∙◌}
use Rattle.std.proofs.lemmas.Bool.{and_parts}
use Rattle.loom_flow.specs.Flow.{Flow}
use Rattle.loom_trace.specs.Places.{has_place}
use Rattle.loom_trace.specs.declared.request.Request.{Request}
use Rattle.loom_law.specs.Walk.{Operation, Queue, Version}
use Rattle.loom_plan.specs.Compiled.{Compiled}
use Rattle.loom_walk.specs.declared.owed.OwedOperation.{OwedOperation}
use Rattle.loom_walk.specs.Owed.{operation_of, IsFirstOf}
use Rattle.loom_walk.specs.FilterWalk.{KeepsRoom}
use Rattle.loom_strand.specs.declared.execution.Execution.{Execution}
use Rattle.loom_strand.specs.declared.stage.Birth.{Birth}
use Rattle.loom_strand.specs.declared.stage.Want.{Want}
use Rattle.loom_strand.specs.declared.stage.Want.TheVariants as want
use Rattle.loom_strand.specs.declared.step_result.Stop.{Stop}
use Rattle.loom_strand.specs.InPart.{IsSomewhere}
use Rattle.loom_strand.specs.StrandInvariant.{operation_request}
use Rattle.loom_strand.specs.PrivateRun.{MayRun, Runs, HasStopped, IsFirstRequest, KeepsWay, StandsStill, StaysAtRequest, StaysBefore, ComesOf, GoesToHalt, StaysBlocked}
use Rattle.loom_strand.proofs.EnterSteps.{gone_on}
use Rattle.loom_strand.proofs.HaltSteps.{gone_kept}
use Rattle.loom_strand.proofs.RunSteps.{somewhere_on}

-- What is owed first

pub owes_first : (os : Queue) → IsFirstOf os None → os ≡ []
owes_first [] h = refl
owes_first (x ∷ xs) h = absurd h

pub first_request : (os : Queue) (line : ℕ) (o : OwedOperation) (q : Request) → IsFirstOf os (Some (line, o)) → operation_request line (operation_of o) ≡ Some q → IsFirstRequest os q
first_request [] line o q first h = absurd first
first_request (x ∷ xs) line o q first h = ap (λ (y : ℕ × Operation). operation_request y.0 y.1) first ∙ h

-- Blocked at a flagged place

pub is_blocked : (flags : List ℕ) (e : Execution) → (e.walk.is_blocked && has_place flags e.place) ≡ true → StaysBlocked flags e e (want.Place e.place)
is_blocked flags e h =
    let both = and_parts e.walk.is_blocked (has_place flags e.place) h in
    record { blocked = both.0; flagged = both.1; same = refl; place = refl }

not_both : (a b : Bool) → (a && b) ≡ false → a ≡ true → b ≡ false
not_both true b h is = h
not_both false b h is = let no : false ≡ true = is in cc

pub is_free : (flags : List ℕ) (e : Execution) → (e.walk.is_blocked && has_place flags e.place) ≡ false → e.walk.is_blocked ≡ true → has_place flags e.place ≡ false
is_free flags e h is = not_both e.walk.is_blocked (has_place flags e.place) h is

-- A run, and what comes of its stop

pub has_stopped : (c : Flow) (cs : List (Option Compiled)) (b : Birth) (flags : List ℕ) (newer : Bool) (old new : Execution) (x : Stop) → IsSomewhere c cs b old → Runs c cs b flags newer old new x
    → HasStopped c b newer new x
has_stopped c cs b flags newer old new x there run = record {
  filters = cs;
  flags = flags;
  somewhere = somewhere_on c cs b flags old new run.gone there;
  may = run.may;
  stops = run.stops;
}

pub goes_to_halt : (c : Flow) (cs : List (Option Compiled)) (b : Birth) (flags : List ℕ) (newer : Bool) (v : Version) (old mid new : Execution) (x : Stop) (y : Want)
    → (old.walk.is_blocked ≡ true → has_place flags old.place ≡ false) → Runs c cs b flags newer old mid x → new ≡ record mid { place = new.place } → ComesOf c cs b flags newer v mid new y
    → GoesToHalt c cs b flags newer v old new y
goes_to_halt c cs b flags newer v old mid new x y free run same comes = record {
  unblocked = free;
  gone = gone_on c cs b flags old mid new run.gone (gone_kept c cs b flags mid new comes.keeps);
  may = subst (MayRun c b) (sym same) run.may;
  notes = subst (λ (e : Execution). KeepsRoom old.walk e.walk) (sym same) run.notes;
  first = λ is. ap (λ (e : Execution). e.walk.passed) same ∙ run.first is;
  still = λ g. stands_still (run.still g);
  waits = λ k h. stands_still (run.waits k h);
  stands = λ g. subst (λ (e : Execution). StaysAtRequest c cs b e new) (run.still g) comes.stands g;
  stays = λ k h. subst (λ (e : Execution). StaysBefore c b flags newer e new) (run.waits k h) comes.stays k h;
  halts = comes.halts;
  free = comes.free;
}
  where
    stands_still : mid ≡ old → StandsStill c cs b old new
    stands_still is = record {
      same = same ∙ ap (λ (e : Execution). record e { place = new.place }) is;
      keeps = subst (λ (e : Execution). KeepsWay c cs b e new) is comes.keeps;
    }
