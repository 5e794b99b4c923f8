use Rattle.std.proofs.Common.{ℕ, ◌≡◌, ◌<◌, List, length, map, Some, refl, sym, ap, subst, ◌∙◌, arith}
use Rattle.std.specs.List.{slice_get}
use Rattle.std.proofs.lemmas.List.{length-map}
use Rattle.std.proofs.lemmas.Option.{slice_get_read}
use Rattle.loom_trace.specs.declared.entry.Entry.{Entry}
use Rattle.loom_trace.specs.Journal.{Contents}
use Rattle.loom_trace.specs.ShortEntries.{full_entry, HasFullEntry}
use Rattle.loom_trace.proofs.Shortening.{within_at, entry_at}
use Rattle.loom_trace.proofs.journal.Journal.get.Goals as goal

pub full_entry-requires : goal.full_entry-requires
full_entry-requires c =
    let shorts = c.self.inside.shorts.items in
    let same = ap (λ (z : Contents). length z.entries) c.self.view_is in
    let low : c.args.i < length shorts = omega (arith, same, c.requires, length-map shorts (full_entry c.self.inside.longs.items)) in
    let there : HasFullEntry (length c.self.inside.longs.items) c.index-short.result.now =
    within_at _ shorts c.args.i _ (slice_get_read shorts (length shorts) c.args.i _ refl low c.index-short.ensures) c.self.invariant.within in
    subst (λ (n : ℕ). HasFullEntry n c.index-short.result.now) (ap length (sym c.deref.ensures.value)) there

pub returns : goal.returns
returns c =
    let shorts = c.self.inside.shorts.items in
    let longs = c.self.inside.longs.items in
    let same = ap (λ (z : Contents). length z.entries) c.self.view_is in
    let low : c.args.i < length shorts = omega (arith, same, c.requires, length-map shorts (full_entry longs)) in
    ap (λ (z : Contents). slice_get z.entries c.args.i) (sym c.self.view_is)
    ∙ entry_at longs shorts c.args.i _ (slice_get_read shorts (length shorts) c.args.i _ refl low c.index-short.ensures)
    ∙ ap (λ (z : List Entry). Some (full_entry z c.index-short.result.now)) (sym c.deref.ensures.value)
    ∙ ap Some (sym c.full_entry.ensures)
