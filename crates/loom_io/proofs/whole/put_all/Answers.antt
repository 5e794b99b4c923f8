use Rattle.std.proofs.Common.{arith, ◌∙◌}
use Rattle.loom_io.proofs.Pieces.{appends_piece, within_piece}
use Rattle.loom_io.proofs.whole.put_all.Goals as goal

pub pieces-preserved : goal.pieces-preserved
pieces-preserved g c = record {
  later = omega (arith, c.in_ok-at.ensures.later);
  calm = c.in_ok-at.ensures.calm ∙ c.pieces.invariant.calm;
  within = within_piece c.args.text.now c.pieces.at c.in_ok-at.field-0 c.pieces.invariant.within c.in_ok-at.ensures.within;
  taken = appends_piece _ _ _ c.args.text.now c.pieces.at c.in_ok-at.field-0 c.pieces.invariant.taken c.in_ok-at.ensures.took;
}
