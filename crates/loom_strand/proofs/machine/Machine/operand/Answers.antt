use Rattle.std.proofs.Common.{◌≡◌, ◌∙◌, slice_get, get_or, pos, sym, ap, to_z, of_z, w64, rules}
use Rattle.std.proofs.lemmas.Int.{to_z-of_z}
use Rattle.loom_flow.specs.State as state
use Rattle.loom_strand.specs.Machine.{Machine}
use Rattle.loom_strand.proofs.Locals.{local_read}
use Rattle.loom_strand.proofs.machine.Machine.operand.Goals as goal

pub returns-in-Local : goal.returns-in-Local
returns-in-Local c =
    let v = get_or c.self.inside.locals c.in-Local.x (pos 0) in
    let same : to_z w64 (of_z w64 v) ≡ v = to_z-of_z w64 v (search rules) in
    same ∙ local_read c.self.inside.locals c.in-Local.x
    ∙ ap (λ (m : Machine). state.value_of (slice_get m.state.locals c.in-Local.x)) c.self.view_is
    ∙ ap (state.operand_value c.args.self.now.state) (sym c.in-Local.is)
