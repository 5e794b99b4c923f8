use Rattle.std.proofs.Common.{List, sym, ap, subst, ◌∙◌}
use Rattle.std.specs.List.{list_any}
use Rattle.loom_plan.specs.Sets.{event_numbers}
use Rattle.loom_walk.specs.declared.region_notes.RegionNote.{RegionNote}
use Rattle.loom_walk.specs.Notes.{RegionNotes, AreRegionNotes, HaveDepths}
use Rattle.loom_walk.specs.RegionSteps.{is_inside_behind}
use Rattle.loom_walk.proofs.InsideClauses.{behind_found}
use Rattle.loom_walk.proofs.region_notes.RegionNotes.inside_behind.Goals as goal

pub returns : goal.returns
returns c plans fs same are n depths m =
    behind_found plans c.args.c.now.plan c.self.inside.notes.items fs c.args.depth c.args.k m (event_numbers c.args.events) same
    (subst (λ (s : RegionNotes). AreRegionNotes plans s.notes fs) (sym c.self.view_is) are) n
    (subst (λ (s : RegionNotes). HaveDepths 1 c.args.depth s.notes) (sym c.self.view_is) depths)
    ∙ (ap (λ (ns : List RegionNote). list_any (is_inside_behind c.args.c.now.plan c.args.k c.args.depth (event_numbers c.args.events) m) ns) (sym c.as_slice.ensures.value)
    ∙ sym (c.clauses_in.ensures m))
