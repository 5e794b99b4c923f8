use Rattle.std.proofs.Common.{◌≡◌, ◌<◌, ◌-◌, ◌∙◌, Some, length, slice_get, refl, sym, arith, subst}
use Rattle.std.proofs.lemmas.Option.{slice_get_read}
use Rattle.loom_world.specs.declared.choice.Choice.TheVariants as choice
use Rattle.loom_world.specs.declared.choice.Turned.TheVariants as turned
use Rattle.loom_world.specs.Book.{Book}
use Rattle.loom_world.specs.Turned.{Turns}
use Rattle.loom_world.proofs.Strands.{strand_at, strands_turned}
use Rattle.loom_world.proofs.world.World.turn_of.Goals as goal

pub go_on-requires-clause-strand : goal.go_on-requires-clause-strand
go_on-requires-clause-strand c =
    let within : c.args.t - 1 < length c.self.inside.strands.items = omega (arith, c.requires.first, c.requires.last, c.self.invariant.2.count) in
    let there : slice_get c.self.inside.strands.items (c.args.t - 1) ≡ Some c.index_mut.result.now =
    slice_get_read c.self.inside.strands.items (length c.self.inside.strands.items) (c.args.t - 1) c.index_mut.result.now refl within c.index_mut.ensures.value in
    strand_at c.self.inside.book c.self.inside.strands.items c.args.t c.index_mut.result.now c.self.invariant.2 c.requires.first there

pub invariant_of-self : goal.invariant_of-self
invariant_of-self c =
    let e = c.go_on.ensures in (
      c.self.invariant.0 ∙ sym e.run.program,
      e.lawful,
      strands_turned c.self.inside.book c.go_on.new.book c.self.inside.strands.items c.args.t c.go_on.new.strand c.self.invariant.2 c.requires.first e.run e.threads e.others e.strand,
    )

pub returns-in-Err-clause-turns : goal.returns-in-Err-clause-turns
returns-in-Err-clause-turns c = subst (λ (b : Book). Turns b (choice.Thread c.args.t) b (turned.Idle c.in-Err.why)) c.self.view_is c.in-Err.ensures.err

pub returns-in-Ok-clause-turns : goal.returns-in-Ok-clause-turns
returns-in-Ok-clause-turns c = subst (λ (b : Book). Turns b (choice.Thread c.args.t) c.go_on.new.book c.go_on.result) c.self.view_is c.go_on.ensures.turns
