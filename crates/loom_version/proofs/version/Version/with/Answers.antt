use Rattle.std.proofs.Common.{◌+◌, [], ◌∷◌, ◌++◌, ap, ◌∙◌, subst}
use Rattle.loom_law.specs.Walk.{Version}
use Rattle.loom_version.specs.Version.{IsVersion}
use Rattle.loom_version.proofs.ActiveNumbers.{with_one}
use Rattle.loom_version.proofs.version.Version.with.Goals as goal

pub invariant_of-result : goal.invariant_of-result
invariant_of-result c =
    let q = c.requires in
    with_one c.args.self.now _ _ c.args.k (subst IsVersion c.self.view_is c.self.invariant) q.first q.last q.behind q.room q.number
    (ap (λ (z : Version). z.number + 1) c.self.view_is) (c.push.ensures ∙ ap (λ (z : Version). z.active ++ c.args.k ∷ []) c.self.view_is)
