use Rattle.std.proofs.Common.{◌<◌, ◌≡◌, slice_index_or, refl, arith, ℕ, ap, ◌+◌, suc}
use Rattle.std.specs.Prelude.{slice_set}
use Rattle.std.proofs.lemmas.Option.{slice_get-get_or}
use Rattle.loom_syntax.specs.File.{sema_limit}
use Rattle.loom_store.proofs.Counts.{count_at}
use Rattle.loom_store.proofs.acts.up.Goals as goal

pub returns-clause-ups : goal.returns-clause-ups
returns-clause-ups c =
    let n : ℕ = slice_index_or c.args.semas.now c.args.s 0 in
    let few : n < sema_limit = omega (arith, count_at c.args.semas.now c.args.s c.requires.counts) in
    let next : n + 1 ≡ suc n = omega arith in
    (refl, (n, slice_get-get_or c.args.semas.now c.args.s 0 c.requires.inside, few, ap (slice_set c.args.semas.now c.args.s) next))
