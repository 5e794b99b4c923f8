use Rattle.std.proofs.Common.{◌+◌, ◌++◌, ℕ, [], ◌∷◌, ap, ◌∙◌, arith}
use Rattle.loom_tree.specs.Lines.{ended}
use Rattle.loom_top.specs.ShowText.{event_line, event_lines}
use Rattle.loom_top.proofs.ShowLines.{event_more}
use Rattle.loom_top.proofs.filter_lines.put_event_lines.Goals as goal

pub events-preserved : goal.events-preserved
events-preserved c = record {
  left =
      event_more c.args.plan.now.program c.args.plan.now.plan c.events.n (c.events.n + 1) c.event_line.result c.events.out c.put_event_line.new.out
      (c.args.out.now ++ ended (event_lines c.args.plan.now.program 1 c.args.plan.now.plan.watches)) (omega arith) c.event_line.ensures
      (c.in_ok-put_event_line.ensures ∙ ap (λ (z : ℕ). c.events.out ++ ended (event_line (z + 1) c.event_line.result ∷ [])) c.from.ensures) c.events.invariant.left;
}
