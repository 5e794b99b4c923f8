use Rattle.std.proofs.Common.{arith}
use Rattle.std.proofs.lemmas.Bool.{lt-ltb, ltb-true}
use Rattle.loom_strand.proofs.Outrun.{outruns_last, last_outrun}
use Rattle.loom_strand.proofs.newer.is_newer.Goals as goal

pub returns-in-Some : goal.returns-in-Some
returns-in-Some c =
    let own = c.number.ensures.is in
    let new = c.number-in-Some.ensures.is in (
      λ t. let less = ltb-true c.number.result c.number-in-Some.result t in
          outruns_last c.args.versions.now c.in-Some.own.now c.args.version.now c.in-Some.ensures.value (omega (arith, own, new, less)),
      λ h. let less = last_outrun c.args.versions.now c.in-Some.own.now c.args.version.now c.in-Some.ensures.value h in
          lt-ltb c.number.result c.number-in-Some.result (omega (arith, own, new, less)),
    )
