use Rattle.std.proofs.Common.{suc, ◌≡◌, ◌<◌, List, [], refl, sym, ap, subst, ◌∙◌, arith}
use Rattle.loom_walk.specs.FilterWalk.{FilterWalk, IsAt}
use Rattle.loom_walk.specs.declared.owed.OwedRow.{OwedRow}
use Rattle.loom_walk.specs.Owed.{filters_owed}
use Rattle.loom_walk.specs.Growth.{HaveNoMore}
use Rattle.std.proofs.lemmas.Option.{slice_get_within}
use Rattle.loom_lang.specs.Places.{places}
use Rattle.loom_lang.specs.Places as place
use Rattle.loom_law.proofs.PlaceNumbers.{one_number}
use Rattle.loom_walk.specs.Owed.{Owed, queue, HasOperations}
use Rattle.loom_law.specs.Walk.{Queue, with_tick}
use Rattle.std.specs.List.{AllByRecursion}
use Rattle.loom_walk.proofs.ItemSteps.{passes_edge}
use Rattle.loom_walk.proofs.FilterCounts.{none_more}
use Rattle.loom_walk.proofs.WalkCalls.{room_kept, line_at, tick_at}
use Rattle.loom_walk.proofs.filter_walk.FilterWalk.pass_edge.Goals as goal

pub place_line-line-requires : goal.place_line-line-requires
place_line-line-requires c = slice_get_within (places c.args.flow.now.program) c.args.place _ c.requires.place.1

pub pass-requires-clause-few : goal.pass-requires-clause-few
pass-requires-clause-few c = subst (λ (w : FilterWalk). w.passed < 1000) (sym c.self.view_is) c.requires.passed

pub pass-requires-clause-none : goal.pass-requires-clause-none
pass-requires-clause-none c = ap (λ (x : Owed). x.tick) c.restart.ensures

pub invariant_of-self : goal.invariant_of-self
invariant_of-self c =
    let rows : c.pass.new.owed.rows ≡ [] = ap (λ (x : Owed). x.rows) c.pass.ensures.same ∙ ap (λ (x : Owed). x.rows) c.restart.ensures in
    record {
      rows = record {
        filters = c.self.invariant.rows.filters;
        owed = subst (AllByRecursion HasOperations) (sym rows) tt;
        own_owed = subst (λ (rs : List OwedRow). HaveNoMore (filters_owed rs) c.self.inside.version.active) (sym rows) (none_more c.self.inside.version.active);
        depths = c.self.invariant.rows.depths;
        own = c.self.invariant.rows.own;
        few_events = c.self.invariant.rows.few_events;
        few_regions = c.self.invariant.rows.few_regions;
      };
      regions = c.self.invariant.regions;
    }

pub returns-clause-at : goal.returns-clause-at
returns-clause-at c plans z l there h =
    let line : c.place_line-line.result ≡ l = line_at c.args.flow.now.program c.args.place c.place_line-line.result (place.back_edge l) c.place_line-line.ensures.line there in
    let ticked = tick_at c.args.flow.now.program c.args.place c.place_line-line.result c.self.inside.passed (place.back_edge l) (queue c.restart.new.self) (queue c.pass.new.owed)
    one_number c.place_line-line.ensures.lowered.lawful line there c.pass.ensures.queue in
    passes_edge c.args.flow.now.program plans _ z l c.pass.new.passed c.pass.new.owed c.pass.ensures.passed (subst (λ (w : FilterWalk). IsAt c.args.flow.now.program plans w z) (sym c.self.view_is) h)
    (ticked ∙ ap (λ (q : Queue). with_tick c.args.flow.now.program (place.back_edge l) (suc c.self.inside.passed) q) (ap queue c.restart.ensures))

pub returns-clause-room : goal.returns-clause-room
returns-clause-room c = room_kept c.args.self.now _ _ c.self.view_is refl (omega arith) (omega arith)
