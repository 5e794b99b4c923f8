use Rattle.std.proofs.Common.{ℕ, ◌≡◌, false, List, Option, ap, sym, ◌∙◌}
use Rattle.std.specs.Prelude.{◌%◌}
use Rattle.loom_trace.specs.Places.{has_place}
use Rattle.loom_law.specs.Filter.{statement, matching}
use Rattle.loom_plan.specs.Compiled.{Compiled}
use Rattle.loom_version.specs.Plans.{plans_in}
use Rattle.loom_version.specs.LineTable.{line_entries}
use Rattle.loom_version.proofs.TableLines.{none_matches}
use Rattle.loom_version.proofs.plans.Plans.may_watch.Goals as goal

pub returns : goal.returns
returns c h k env =
    let off : has_place c.self.inside.table (c.args.line % line_entries) ≡ false = ap (λ (p : ℕ). has_place c.self.inside.table p) (sym c.entry_of.ensures.is) ∙ (sym c.has.ensures ∙ h) in
    ap (λ (cs : List (Option Compiled)). matching (plans_in cs k) (statement c.args.line) env) (sym c.self.view_is)
    ∙ none_matches c.self.inside.table c.args.line 1 env (plans_in c.self.inside.rows.items k).watches off (c.self.invariant.lines k)
