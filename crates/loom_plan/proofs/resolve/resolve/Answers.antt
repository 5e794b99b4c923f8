use Rattle.std.proofs.Common.{arith}
use Rattle.std.proofs.lemmas.List.{length-map}
use Rattle.loom_filter.specs.View.{clause_of, filter_of}
use Rattle.loom_plan.proofs.FewParts.{small_filter}
use Rattle.loom_plan.proofs.resolve.resolve.Goals as goal

pub first_fault-requires : goal.first_fault-requires
first_fault-requires c = omega (arith, (small_filter (filter_of c.args.filter.now) c.requires).clauses, length-map c.args.filter.now.clauses clause_of)
