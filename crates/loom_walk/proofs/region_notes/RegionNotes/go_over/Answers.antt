use Rattle.std.proofs.Common.{◌≡◌, List, sym, subst, rules}
use Rattle.std.proofs.lemmas.Fn.{filter_same}
use Rattle.loom_law.specs.Filter.{has}
use Rattle.loom_law.specs.Walk.{frames_without}
use Rattle.loom_walk.specs.declared.region_notes.RegionNote.{RegionNote}
use Rattle.loom_walk.specs.Notes.{RegionNotes, AreRegionNotes, HaveDepths, AreOfFilters}
use Rattle.loom_walk.proofs.NoteDepths.{all_found, depths_found}
use Rattle.loom_walk.proofs.RegionChanges.{notes_of, go_over_told}
use Rattle.loom_walk.proofs.region_notes.RegionNotes.go_over.Goals as goal

pub returns-clause-notes : goal.returns-clause-notes
returns-clause-notes c plans fs are =
    let rest : c.retain.new.self.items ≡ notes_of c.args.version.now.active c.self.inside.notes.items
    = filter_same _ _ _ (λ x b f' y. search rules) _ _ c.retain.ensures.filtered in
    subst (λ (ns : List RegionNote). AreRegionNotes plans ns (frames_without c.args.version.now.active fs)) (sym rest)
    (go_over_told plans c.args.version.now.active c.self.inside.notes.items fs (subst (λ (s : RegionNotes). AreRegionNotes plans s.notes fs) (sym c.self.view_is) are))

pub returns-clause-depths : goal.returns-clause-depths
returns-clause-depths c most h =
    let rest : c.retain.new.self.items ≡ notes_of c.args.version.now.active c.self.inside.notes.items
    = filter_same _ _ _ (λ x b f' y. search rules) _ _ c.retain.ensures.filtered in
    subst (λ (ns : List RegionNote). HaveDepths 1 most ns) (sym rest)
    (depths_found (λ (n : RegionNote). has c.args.version.now.active n.filter) 1 most c.self.inside.notes.items (subst (λ (s : RegionNotes). HaveDepths 1 most s.notes) (sym c.self.view_is) h))

pub returns-clause-filters : goal.returns-clause-filters
returns-clause-filters c =
    let rest : c.retain.new.self.items ≡ notes_of c.args.version.now.active c.self.inside.notes.items
    = filter_same _ _ _ (λ x b f' y. search rules) _ _ c.retain.ensures.filtered in
    subst (λ (ns : List RegionNote). AreOfFilters c.args.version.now.active ns) (sym rest)
    (all_found (λ (n : RegionNote). has c.args.version.now.active n.filter) c.self.inside.notes.items)
