-- The plans that values of the program's types stand for.
use Rattle.std.specs.Prelude.{ℕ, List, map}
use Rattle.loom_filter.specs.View.{test_of}
use Rattle.loom_law.specs.Filter.{Site, statement, function, Watch, Range, between, whole, Ruling, order, exclusive, unilateral, Plan}
use Rattle.loom_plan.specs.declared.plan.EventSite.{EventSite}
use Rattle.loom_plan.specs.declared.plan.EventSite.TheVariants as s
use Rattle.loom_plan.specs.declared.plan.EventWatch.{EventWatch}
use Rattle.loom_plan.specs.declared.plan.OrderEvent.{OrderEvent}
use Rattle.loom_plan.specs.declared.plan.RegionSpan.{RegionSpan}
use Rattle.loom_plan.specs.declared.plan.RegionSpan.TheVariants as n
use Rattle.loom_plan.specs.declared.plan.Rule.{Rule}
use Rattle.loom_plan.specs.declared.plan.Rule.TheVariants as r
use Rattle.loom_plan.specs.declared.plan.RegionRow.{RegionRow}
use Rattle.loom_plan.specs.Sets.{event_numbers}

abbrev pub site_of : EventSite → Site
site_of (s.Statement l) = statement l
site_of (s.Function f) = function f

abbrev pub event_watch_of : EventWatch → Watch
event_watch_of x = record { site = site_of x.site; test = test_of x.test }

abbrev pub watches_of : List EventWatch → List Watch
watches_of xs = map event_watch_of xs

abbrev pub counted_of : OrderEvent → ℕ × ℕ
counted_of x = (x.event, x.count)

abbrev pub order_of : List OrderEvent → List (ℕ × ℕ)
order_of xs = map counted_of xs

abbrev pub range_of : RegionSpan → Range
range_of (n.Between es xs) = between (event_numbers es) (event_numbers xs)
range_of (n.Whole x) = whole x

abbrev pub span_ranges : List RegionSpan → List Range
span_ranges xs = map range_of xs

abbrev pub ruling_of : Rule → Ruling
ruling_of (r.Order v) = order (order_of v.items)
ruling_of (r.Exclusive v) = exclusive (span_ranges v.items)
ruling_of (r.Unilateral x) = unilateral (range_of x)

abbrev pub rulings_of : List Rule → List Ruling
rulings_of xs = map ruling_of xs

abbrev pub plan_of_rows : List EventWatch → List Rule → Plan
plan_of_rows es rs = record { watches = watches_of es; rulings = rulings_of rs }

abbrev pub region_of : RegionRow → ℕ × Range
region_of x = (x.clause, range_of x.span)

abbrev pub regions_in : List RegionRow → List (ℕ × Range)
regions_in xs = map region_of xs
