use Rattle.std.proofs.lemmas.Option.{slice_get-get_or}
use Rattle.loom_sites.specs.declared.links.PlaceKind.TheVariants as kind
use Rattle.loom_sites.specs.declared.links.PlaceLinks.{PlaceLinks}
use Rattle.loom_sites.specs.Links.{frame_row}
use Rattle.loom_sites.proofs.area.events_at.Goals as goal

abbrev none : PlaceLinks
none = frame_row kind.Entry 0 0

pub is_inside-requires-clause-function : goal.is_inside-requires-clause-function
is_inside-requires-clause-function c = (c.requires.table.each c.places.k _ (slice_get-get_or c.args.links.now c.places.k none c.places-test.true)).function
