use Rattle.std.proofs.Common.{ℕ, ◌-◌, suc, drop, sym, ◌∙◌, arith}
use Rattle.loom_law.specs.Filter.{Watch, is_site}
use Rattle.loom_plan.specs.Sets.{event_numbers}
use Rattle.loom_plan.specs.PlanView.{site_of, event_watch_of, watches_of}
use Rattle.loom_plan.proofs.ElementNumbers.{down_more}
use Rattle.loom_plan.proofs.TableSteps.{watched_chosen}
use Rattle.loom_plan.proofs.table.watched.Goals as goal

pub down-preserved : goal.down-preserved
down-preserved c = record {
  within = omega arith;
  is = down_more event_watch_of (λ (m : ℕ) (w : Watch). is_site (site_of c.args.at) w.site) c.args.events.now c.down.n (c.down.n - 1) c.index-events-n.result c.is_site.result (event_numbers c.down.found) (event_numbers c.put_if.new.self) (omega arith) (omega arith)
      (c.down.invariant.is ∙ watched_chosen (site_of c.args.at) (suc c.down.n) (drop c.down.n (watches_of c.args.events.now))) c.is_site.ensures c.put_if.ensures.first
      ∙ sym (watched_chosen (site_of c.args.at) (suc (c.down.n - 1)) (drop (c.down.n - 1) (watches_of c.args.events.now)));
}
