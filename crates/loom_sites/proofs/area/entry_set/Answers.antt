use Rattle.std.proofs.Common.{ℕ, ◌≡◌, List, sym, ap, subst}
use Rattle.std.specs.List.{Contains}
use Rattle.loom_law.specs.Filter.{entry_events}
use Rattle.loom_law.proofs.Matches.{has_member, member_has}
use Rattle.loom_plan.specs.declared.plan.RegionSpan.{RegionSpan}
use Rattle.loom_plan.specs.Sets.{event_numbers}
use Rattle.loom_plan.specs.PlanView.{range_of}
use Rattle.loom_sites.proofs.area.entry_set.Goals as goal

pub returns-in-Between : goal.returns-in-Between
returns-in-Between c n e =
    let same : entry_events (range_of c.args.span) ≡ event_numbers c.in-Between.entries = ap (λ (s : RegionSpan). entry_events (range_of s)) c.in-Between.is in
    let P : List ℕ → Type 0 = λ z. Contains z n in
    (λ h. subst P (sym same) (has_member (event_numbers c.in-Between.entries) n h), λ d. member_has (event_numbers c.in-Between.entries) n (subst P same d))
