use Rattle.std.proofs.Common.{◌≡◌, ◌++◌, drop, map}
use Rattle.loom_tree.specs.declared.item.Sema.{Sema}
use Rattle.loom_store.proofs.start.first_counts.Given as goal

abbrev pub invariant-semas : goal.invariant-semas
invariant-semas l = l.counts.items ++ map (λ (x : Sema). x.first) (drop l.sema-index l.semas) ≡ map (λ (x : Sema). x.first) l.semas
