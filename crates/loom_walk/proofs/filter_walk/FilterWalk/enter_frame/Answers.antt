use Rattle.std.proofs.Common.{ℕ, suc, ◌+◌, ◌≡◌, ◌<◌, List, Some, refl, sym, ap, subst, ◌∙◌, arith}
use Rattle.loom_walk.specs.FilterWalk.{FilterWalk, IsAt}
use Rattle.loom_walk.specs.declared.owed.OwedRow.{OwedRow}
use Rattle.loom_walk.specs.Owed.{filters_owed}
use Rattle.loom_walk.specs.Growth.{HaveNoMore, AreThere}
use Rattle.loom_walk.proofs.GrowthSteps.{rows_none, grown_line, grown_tick}
use Rattle.std.proofs.lemmas.Option.{slice_get_within}
use Rattle.loom_lang.specs.Places.{places}
use Rattle.loom_lang.specs.Places as place
use Rattle.loom_flow.specs.State.{named}
use Rattle.loom_law.specs.Filter.{function}
use Rattle.loom_law.specs.Walk.{Queue, function_line, with_tick}
use Rattle.loom_law.proofs.PlaceNumbers.{one_number}
use Rattle.loom_plan.specs.PlaceEvents.{names_at}
use Rattle.loom_version.specs.Plans.{plans_in}
use Rattle.loom_walk.specs.Owed.{Owed, HasOperations}
use Rattle.std.specs.List.{AllByRecursion}
use Rattle.loom_walk.proofs.Frames.{wider_depths}
use Rattle.loom_walk.proofs.ItemSteps.{enters_frame}
use Rattle.loom_walk.proofs.NewFilters.{have_place}
use Rattle.loom_walk.proofs.WalkCalls.{room_kept, line_at, tick_at, queue_begun}
use Rattle.loom_walk.proofs.filter_walk.FilterWalk.enter_frame.Goals as goal

pub place_line-line-requires : goal.place_line-line-requires
place_line-line-requires c = slice_get_within (places c.args.flow.now.program) c.args.place _ c.requires.place.1

pub add_all_before-requires-clause-nothing : goal.add_all_before-requires-clause-nothing
add_all_before-requires-clause-nothing c = rows_none c.place_line-line.result _ c.restart.ensures

pub add_all_before-requires-clause-there : goal.add_all_before-requires-clause-there
add_all_before-requires-clause-there c =
    let same : c.active.result.now ≡ c.self.inside.version.active = c.active.ensures.is in
    let filters : AreThere c.args.flow.now.program c.args.plans.now c.self.inside.version.active = subst (λ (w : FilterWalk). AreThere c.args.flow.now.program c.args.plans.now w.version.active) (sym c.self.view_is) c.requires.filters.all in
    have_place c.args.flow.now.program c.args.plans.now c.active.result.now c.args.place _ (subst (AreThere c.args.flow.now.program c.args.plans.now) (sym same) filters) c.requires.place.1

pub pass-requires-clause-few : goal.pass-requires-clause-few
pass-requires-clause-few c = subst (λ (w : FilterWalk). w.passed < 1000) (sym c.self.view_is) c.requires.passed

pub pass-requires-clause-none : goal.pass-requires-clause-none
pass-requires-clause-none c = grown_tick c.active.result.now c.place_line-line.result c.restart.new.self c.add_all_before.new.owed c.restart.ensures c.add_all_before.ensures.grows

pub invariant_of-self : goal.invariant_of-self
invariant_of-self c =
    let rows : c.pass.new.owed.rows ≡ c.add_all_before.new.owed.rows = ap (λ (x : Owed). x.rows) c.pass.ensures.same in
    record {
      rows = record {
        filters = c.self.invariant.rows.filters;
        owed = subst (AllByRecursion HasOperations) (sym rows) c.add_all_before.ensures.grows.rows;
        own_owed = subst (λ (rs : List OwedRow). HaveNoMore (filters_owed rs) c.self.inside.version.active) (sym rows)
            (subst (HaveNoMore (filters_owed c.add_all_before.new.owed.rows)) c.active.ensures.is c.add_all_before.ensures.grows.filters);
        depths = wider_depths 1 c.self.inside.depth _ c.self.inside.regions.notes (omega arith) c.self.invariant.rows.depths;
        own = c.self.invariant.rows.own;
        few_events = c.self.invariant.rows.few_events;
        few_regions = c.self.invariant.rows.few_regions;
      };
      regions = c.self.invariant.regions;
    }

pub returns-clause-at : goal.returns-clause-at
returns-clause-at c z f there h =
    let old = subst (λ (w : FilterWalk). IsAt c.args.flow.now.program (plans_in c.args.plans.now) w z) (sym c.self.view_is) h in
    let line : (g : ℕ) → place.place_at c.args.flow.now.program c.args.place ≡ Some (place.entry g) → c.place_line-line.result ≡ function_line c.args.flow.now.program g
    = λ g e. line_at c.args.flow.now.program c.args.place c.place_line-line.result (place.entry g) c.place_line-line.ensures.line e in
    let own : c.pass.new.owed.line ≡ c.place_line-line.result
    = ap (λ (x : Owed). x.line) c.pass.ensures.same ∙ grown_line c.active.result.now c.place_line-line.result c.restart.new.self c.add_all_before.new.owed c.restart.ensures c.add_all_before.ensures.grows in
    let same : c.active.result.now ≡ c.self.inside.version.active = c.active.ensures.is in
    let filters : AreThere c.args.flow.now.program c.args.plans.now c.self.inside.version.active = subst (λ (w : FilterWalk). AreThere c.args.flow.now.program c.args.plans.now w.version.active) (sym c.self.view_is) c.requires.filters.all in
    let rest
    = queue_begun c.args.flow.now.program c.args.plans.now c.args.locals.now c.self.inside.clauses c.active.result.now c.self.inside.version.active c.args.place c.place_line-line.result
    (function_line c.args.flow.now.program f) (place.entry f) (function (Some f)) z.held c.restart.new.self c.add_all_before.new.owed c.restart.ensures c.add_all_before.ensures.grows (line f there) same filters
    there refl old.holdings c.add_all_before.ensures.queue in
    let ticked
    = tick_at c.args.flow.now.program c.args.place c.place_line-line.result c.self.inside.passed (place.entry f) _ _ one_number c.place_line-line.ensures.lowered.lawful (line f there) there c.pass.ensures.queue in
    enters_frame c.args.flow.now.program (plans_in c.args.plans.now) _ z f c.args.place c.pass.new.passed (c.self.inside.depth + 1) (named (names_at c.args.flow.now.program c.args.place) c.args.locals.now) c.pass.new.owed c.pass.ensures.passed (omega arith) there
    c.self.invariant.rows.depths (λ g e. own ∙ line g e) old
    (ticked ∙ ap (λ (q : Queue). with_tick c.args.flow.now.program (place.entry f) (suc c.self.inside.passed) q) rest)

pub returns-clause-room : goal.returns-clause-room
returns-clause-room c = room_kept c.args.self.now _ _ c.self.view_is refl (omega arith) (omega arith)
