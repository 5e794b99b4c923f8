use Rattle.std.proofs.Common.{sym, subst}
use Rattle.std.specs.Prelude.{OnOk}
use Rattle.loom_plan.specs.declared.plan.RegionSpan.{RegionSpan}
use Rattle.loom_plan.specs.PlanView.{range_of}
use Rattle.loom_sites.specs.Areas.{IsOwnNumber, AreWith}
use Rattle.loom_sites.proofs.area.contents_of.Goals as goal

pub returns-in-Between-clause-places : goal.returns-in-Between-clause-places
returns-in-Between-clause-places c =
    let P : RegionSpan → Type 0 = λ z. OnOk c.between.result (AreWith (IsOwnNumber c.args.flow.now.program c.args.c.now.plan (range_of z)) c.args.places.now c.between.new.places) in
    subst P (sym c.in-Between.is) c.between.ensures.places

pub returns-in-Whole-clause-places : goal.returns-in-Whole-clause-places
returns-in-Whole-clause-places c =
    let P : RegionSpan → Type 0 = λ z. AreWith (IsOwnNumber c.args.flow.now.program c.args.c.now.plan (range_of z)) c.args.places.now c.whole.new.places in
    subst P (sym c.in-Whole.is) c.whole.ensures.places
