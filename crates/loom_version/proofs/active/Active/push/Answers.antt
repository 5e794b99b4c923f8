use Rattle.std.proofs.Common.{length, ◌≡◌, ◌<◌, sym, ap, ◌∙◌, arith}
use Rattle.loom_trace.specs.Rows.{used_length}
use Rattle.loom_trace.proofs.Cells.{row_push}
use Rattle.loom_law.specs.Lawful.{filter_limit}
use Rattle.loom_version.proofs.active.Active.push.Goals as goal

pub invariant_of-self : goal.invariant_of-self
invariant_of-self c =
    let used : length c.args.self.now ≡ c.self.inside.len = ap length (sym c.self.view_is) ∙ used_length 0 filter_limit _ _ c.self.invariant in
    let room : c.self.inside.len < filter_limit = omega (arith, used, c.requires) in
    row_push 0 filter_limit _ _ c.args.k c.self.invariant room
