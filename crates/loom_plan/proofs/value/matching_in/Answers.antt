use Rattle.std.proofs.Common.{ℕ, ◌-◌, ◌≤◌, ◌<◌, ◌≡◌, ◌∙◌, ap, List, get_or, arith}
use Rattle.loom_command.specs.FilterFault.{most_events}
use Rattle.loom_plan.specs.declared.plan.Pick.{Pick}
use Rattle.loom_plan.specs.Numbers.{most_numbers}
use Rattle.loom_plan.specs.Sets.{event_numbers}
use Rattle.loom_plan.specs.Tests.{is_passed}
use Rattle.loom_plan.proofs.Rows.{ascend_at, picked_more}
use Rattle.loom_plan.proofs.value.matching_in.Goals as goal

low_one : (xs : List Pick) (x : Pick) (i : ℕ) → x ≡ get_or xs i x → 0 < (get_or xs i x).event → 0 < x.event
low_one xs x i e h = let same = ap (λ (y : Pick). y.event) e in omega arith

high_one : (xs : List Pick) (x : Pick) (i : ℕ) → x ≡ get_or xs i x → (get_or xs i x).event ≤ most_events → x.event ≤ most_numbers
high_one xs x i e h = let same = ap (λ (y : Pick). y.event) e in omega arith

pub put_if-requires-clause-low : goal.put_if-requires-clause-low
put_if-requires-clause-low c =
    low_one c.args.row.now.picks.items c.index-pick.result.now (c.down.i - 1) c.index-pick.ensures
    (ascend_at 0 c.args.row.now.picks.items (c.down.i - 1) c.index-pick.result.now (omega arith) c.requires).0

pub put_if-requires-clause-high : goal.put_if-requires-clause-high
put_if-requires-clause-high c =
    high_one c.args.row.now.picks.items c.index-pick.result.now (c.down.i - 1) c.index-pick.ensures
    (ascend_at 0 c.args.row.now.picks.items (c.down.i - 1) c.index-pick.result.now (omega arith) c.requires).1

pub down-preserved : goal.down-preserved
down-preserved c =
    let x : Pick = c.index-pick.result.now in
    let xs : List Pick = c.args.row.now.picks.items in
    record {
      within = omega arith;
      is = picked_more c.args.locals.now xs c.down.i (c.down.i - 1) x.event x c.passes.result (event_numbers c.down.found) (event_numbers c.put_if.new.self) c.requires (omega arith) (omega arith) c.down.invariant.is (ap (λ (y : Pick). y.event) c.index-pick.ensures)
          (c.passes.ensures ∙ ap (λ (y : Pick). is_passed c.args.locals.now y.test) c.index-pick.ensures)
          c.put_if.ensures.first;
    }
