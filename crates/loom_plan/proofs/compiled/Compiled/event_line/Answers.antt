use Rattle.std.proofs.Common.{◌-◌, ◌≡◌, length, Some, ap, sym, ◌∙◌, arith}
use Rattle.std.specs.Prelude.{option_map}
use Rattle.std.specs.Arc.{arc_value}
use Rattle.loom_tree.specs.Tree.{Source}
use Rattle.loom_law.specs.Filter.{Watch}
use Rattle.loom_law.specs.Paths.{watch_at}
use Rattle.loom_plan.specs.Compiled.{Compiled}
use Rattle.loom_plan.specs.declared.plan.EventWatch.{EventWatch}
use Rattle.loom_plan.specs.PlanView.{site_of, event_watch_of, watches_of}
use Rattle.loom_plan.specs.PlaceEvents.{line_of_site}
use Rattle.loom_plan.proofs.ElementNumbers.{length_map}
use Rattle.loom_plan.proofs.Rows.{event_line_is}
use Rattle.loom_plan.proofs.compiled.Compiled.event_line.Goals as goal

pub returns : goal.returns
returns c =
    let few : length (watches_of c.self.inside.events.items) ≡ length c.args.self.now.plan.watches = ap (λ (z : Compiled). length z.plan.watches) c.self.view_is in
    ap (λ (z : Compiled). option_map (λ (w : Watch). line_of_site z.program w.site) (watch_at z.plan c.args.n)) (sym c.self.view_is)
    ∙ (event_line_is (arc_value c.self.inside.program) c.self.inside.events.items c.self.inside.rules.items c.args.n (c.args.n - 1) c.index.result.now (omega arith) (omega (arith, length_map event_watch_of c.self.inside.events.items))
    ∙ ap Some (sym (c.site_line.ensures
    ∙ (ap (λ (p : Source). line_of_site p (site_of c.index.result.now.site)) c.deref.ensures
    ∙ ap (λ (x : EventWatch). line_of_site (arc_value c.self.inside.program) (site_of x.site)) c.index.ensures))))
