-- The trees that filters of the program stand for.
use Rattle.std.specs.Prelude.{List, map, Option, Some, None}
use Rattle.loom_tree.specs.declared.expression.Expr.{Expr}
use Rattle.loom_tree.specs.Tree.{Expression, expression_of}
use Rattle.loom_command.specs.Filter as tree
use Rattle.loom_filter.specs.declared.filter.Event.{Event}
use Rattle.loom_filter.specs.declared.filter.Step.{Step}
use Rattle.loom_filter.specs.declared.filter.Region.{Region}
use Rattle.loom_filter.specs.declared.filter.Region.TheVariants as r
use Rattle.loom_filter.specs.declared.filter.Clause.{Clause}
use Rattle.loom_filter.specs.declared.filter.Clause.TheVariants as c
use Rattle.loom_filter.specs.declared.filter.Filter.{Filter}

abbrev pub test_of : Option Expr → Option Expression
test_of None = None
test_of (Some e) = Some (expression_of e)

abbrev pub event_of : Event → tree.LineEvent
event_of x = record { file = x.file; line = x.line; test = test_of x.test }

abbrev pub events_of : List Event → List tree.LineEvent
events_of xs = map event_of xs

abbrev pub step_of : Step → tree.OrderStep
step_of s = record { event = event_of s.event; count = s.count }

abbrev pub steps_of : List Step → List tree.OrderStep
steps_of ss = map step_of ss

abbrev pub region_of : Region → tree.Region
region_of (r.Between es xs) = tree.between (events_of es) (events_of xs)
region_of (r.Whole f test) = tree.whole f (test_of test)

abbrev pub regions_of : List Region → List tree.Region
regions_of rs = map region_of rs

abbrev pub clause_of : Clause → tree.Clause
clause_of (c.Order ss) = tree.order (steps_of ss)
clause_of (c.Exclusive rs) = tree.exclusive (regions_of rs)
clause_of (c.Unilateral x) = tree.unilateral (region_of x)

abbrev pub clauses_of : List Clause → List tree.Clause
clauses_of cs = map clause_of cs

abbrev pub filter_of : Filter → tree.Filter
filter_of f = clauses_of f.clauses
