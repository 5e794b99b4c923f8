use Rattle.std.proofs.Common.{◌≡◌, ◌++◌}
use Rattle.loom_filter.specs.View.{clauses_of}
use Rattle.loom_filter.specs.ReaderView.{clauses_with}
use Rattle.loom_filter.specs.FilterError.{clauses_tree}
use Rattle.loom_filter.proofs.parse.clauses_of.Given as goal

abbrev pub invariant-clauses : goal.invariant-clauses
invariant-clauses l = clauses_of l.all.items ++ clauses_tree (clauses_with l.read-iterator.rest.items) ≡ clauses_tree (clauses_with l.fn.clauses.items)
