use Rattle.std.proofs.Common.{◌==◌, ◌-◌, List, Option, Some, if◌then◌else◌, ap, subst, ◌∙◌, arith}
use Rattle.std.proofs.lemmas.List.{length-set}
use Rattle.loom_plan.specs.Compiled.{Compiled}
use Rattle.loom_version.specs.Plans.{compiled_at}
use Rattle.loom_version.specs.LineTable.{AreInTable}
use Rattle.loom_version.proofs.PlanRows.{put_at}
use Rattle.loom_version.proofs.TableLines.{all_more}
use Rattle.loom_version.proofs.plans.Plans.put.Goals as goal

pub invariant_of-self : goal.invariant_of-self
invariant_of-self c = record {
  count = length-set c.self.inside.rows.items (c.args.k - 1) (Some c.args.c) ∙ c.self.invariant.count;
  lines = all_more c.self.inside.table c.put_lines.new.table c.self.inside.rows.items _ c.args.k c.args.c c.put_lines.ensures.old
      (subst (AreInTable c.put_lines.new.table) c.watches.ensures.is c.put_lines.ensures.new)
      (λ j. put_at c.self.inside.rows.items c.args.k j c.args.c c.requires.first (omega (arith, c.requires, c.self.invariant.count))) c.self.invariant.lines;
}

pub returns : goal.returns
returns c j =
    put_at c.self.inside.rows.items c.args.k j c.args.c c.requires.first (omega (arith, c.requires, c.self.invariant.count))
    ∙ ap (λ (cs : List (Option Compiled)). if j == c.args.k then Some c.args.c else compiled_at cs j) c.self.view_is
