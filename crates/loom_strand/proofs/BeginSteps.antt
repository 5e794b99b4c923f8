-- A thread begins.
use Rattle.std.proofs.Common.{ℕ, ◌≡◌, ◌<◌, List, [], ◌∷◌, Option, Some, None, slice_get, refl, inl, inr, sym, ap, subst, ◌∙◌, arith}
use Rattle.loom_tree.specs.Tree.{Function}
use Rattle.loom_lang.specs.Places.{line_of_function}
use Rattle.loom_lang.specs.Trace.{Item, Outcome, begin, made, thread_end}
use Rattle.loom_trace.specs.declared.entry.Entry.TheVariants as e
use Rattle.loom_flow.specs.declared.code.Entrance.{Entrance}
use Rattle.loom_flow.specs.Flow.{Flow}
use Rattle.loom_flow.specs.Code.{IsLowered}
use Rattle.loom_flow.specs.FlatTrace.{flat_start, flat_thread, IsFlatTrace}
use Rattle.loom_flow.specs.Progress.{ends}
use Rattle.loom_law.specs.Walk.{Version, Plans, PartStep, Walk, tick_after, unborn, after_item}
use Rattle.loom_law.specs.Walk as walk
use Rattle.loom_law.specs.ThreadPart.{Own, walk_of}
use Rattle.loom_plan.specs.Compiled.{Compiled}
use Rattle.loom_version.specs.Plans.{plans_in}
use Rattle.loom_walk.specs.FilterWalk.{IsAt, HasFilters}
use Rattle.loom_strand.specs.declared.execution.Execution.{Execution}
use Rattle.loom_strand.specs.declared.stage.Birth.{Birth}
use Rattle.loom_strand.specs.declared.stage.Stage.{Stage}
use Rattle.loom_strand.specs.declared.stage.Stage.TheVariants as stage
use Rattle.loom_strand.specs.declared.reply.Reply.TheVariants as a
use Rattle.loom_strand.specs.Reply.{Takes}
use Rattle.loom_strand.specs.Way.{end_line, first_frame, next_step, MayCome, looks_nowhere, IsWay}
use Rattle.loom_strand.specs.InPart.{IsInPart}
use Rattle.loom_strand.proofs.Entrances.{has_entrance}
use Rattle.loom_strand.proofs.Taken.{filters_at}

-- its begin alone
abbrev pub begin_step : Flow → ℕ → PartStep
begin_step c f = walk.goes (made (end_line c.program f) begin)

-- what is its own with that
abbrev pub begun : Flow → ℕ → Birth → Version → Own
begun c t b v = record { thread = t; func = b.func; args = b.args; versions = v ∷ []; entries = e.Begin t (end_line c.program b.func) ∷ [] }

-- Behind the begin of a thread its first frame may come, and what comes behind that.
begun_trace : (c : Flow) (b : Birth) (g : Function) (en : Entrance) (is : List Item) (q : Outcome) (n : ℕ) → slice_get c.program.funcs b.func ≡ Some g → slice_get c.entrances b.func ≡ Some en
    → MayCome c b.func (first_frame c b (slice_get c.entrances b.func)) n is q → IsFlatTrace c b.func b.args (made (end_line c.program b.func) begin ∷ is) q
begun_trace c b g en is q n there place h = record {
  most_steps = n;
  gives = subst (λ x. flat_thread c x b.func b.args n (made (line_of_function x) begin ∷ is) q) (sym there) (inr (is, refl, from_start));
}
  where
    at_frame : flat_start c (record { program = c.program; stopped = thread_end (line_of_function (slice_get c.program.funcs b.func)) }) b.func b.args n (Some en) is q
    at_frame = subst (λ o. MayCome c b.func (first_frame c b o) n is q) place h

    from_start : flat_start c (record { program = c.program; stopped = thread_end g.line }) b.func b.args n (slice_get c.entrances b.func) is q
    from_start =
        subst (λ o. flat_start c (record { program = c.program; stopped = thread_end g.line }) b.func b.args n o is q) (sym place)
        (subst (λ x. flat_start c (record { program = c.program; stopped = thread_end (line_of_function x) }) b.func b.args n (Some en) is q) there at_frame)

begun_way : (c : Flow) (plans : Plans) (t : ℕ) (b : Birth) (v : Version) (g : Function) → IsLowered c → slice_get c.program.funcs b.func ≡ Some g
    → IsWay c plans (begun c t b v) (first_frame c b (slice_get c.entrances b.func)) looks_nowhere (begin_step c b.func ∷ [])
begun_way c plans t b v g low there =
    let place : (en : Entrance) × (slice_get c.entrances b.func ≡ Some en) = has_entrance c b.func g low there in
    record {
      tells = refl;
      taken = refl;
      trace = λ is q n h. begun_trace c b g place.0 is q n there place.1 h;
      woven = λ is q n h seen. ((refl, tt), tt);
    }

-- it isn't to end yet
enters_first : (c : Flow) (b : Birth) (o : Option Entrance) → first_frame c b o ≡ ends → ⊥
enters_first c b None h = cc
enters_first c b (Some en) h = cc

pub part_begun : (c : Flow) (cs : List (Option Compiled)) (b : Birth) (v : Version) (t : ℕ) (old new : Execution) (g : Function) → IsLowered c → slice_get c.program.funcs b.func ≡ Some g → HasFilters c.program cs v
    → new.stage ≡ stage.Enters → Takes c cs v old new a.Begins → IsInPart c cs b (begun c t b v) new looks_nowhere (begin_step c b.func ∷ [])
part_begun c cs b v t old new g low there filters st k =
    let z : Walk = walk_of c.program (plans_in cs) (begun c t b v) (begin_step c b.func ∷ []) in
    let now : IsAt c.program (plans_in cs) new.walk z = k.walk (end_line c.program b.func) in
    let next : next_step c b new.stage new.machine ≡ first_frame c b (slice_get c.entrances b.func) = ap (λ (y : Stage). next_step c b y new.machine) st in
    record {
      way = subst (λ q. IsWay c (plans_in cs) (begun c t b v) q looks_nowhere (begin_step c b.func ∷ [])) (sym next) (begun_way c (plans_in cs) t b v g low there);
      there = record {
        at = now;
        active = refl;
        filters = filters_at c.program cs new.walk z now filters.all;
        rests = inl refl;
        few = λ none. (let few : 0 < tick_after = omega arith in few);
        place = record { owing = λ owes. absurd (owes refl); ending = λ over. absurd (enters_first c b (slice_get c.entrances b.func) (sym next ∙ over)) };
        locals = inl refl;
      };
    }
