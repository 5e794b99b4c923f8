use Rattle.std.proofs.Common.{suc, ◌+◌, ◌≡◌, ◌∷◌, ◌++◌, [], length, ap, ◌∙◌, arith, None}
use Rattle.loom_tree.specs.Tree.{body_of, function_of}
use Rattle.loom_flow.specs.declared.expression.InstrSpot.{InstrSpot}
use Rattle.loom_flow.specs.declared.code.CodeStep.TheVariants as s
use Rattle.loom_flow.specs.declared.code.Control.TheVariants.{Out}
use Rattle.loom_flow.specs.FlatCode.{place_count, site, instr}
use Rattle.loom_flow.proofs.Bodies.{sites_more}
use Rattle.loom_flow.proofs.Counts.{function_takes}
use Rattle.loom_flow.proofs.Functions.{function_code}
use Rattle.loom_flow.proofs.Jumps.{pushed}
use Rattle.loom_flow.proofs.lower.put_function.Goals as goal

pub spot_of-out-requires : goal.spot_of-out-requires
spot_of-out-requires c =
    let first = pushed c.args.sites.now.items c.put_site.new.sites.items (site c.args.f.now.line None) c.in_ok-put_site.ensures in
    let more = sites_more c.args.scope.now.program c.args.scope.now.locals (body_of c.args.f.now.body) _ _ _ c.in_ok-body.ensures.sites in
    let is = ap length c.deref.ensures.value in
    let room = c.requires.room in
    omega arith

pub returns-clause-code : goal.returns-clause-code
returns-clause-code c =
    let first = pushed c.args.sites.now.items c.put_site.new.sites.items (site c.args.f.now.line None) c.in_ok-put_site.ensures in
    let more = sites_more c.args.scope.now.program c.args.scope.now.locals (body_of c.args.f.now.body) _ _ _ c.in_ok-body.ensures.sites in
    let last : length c.deref.result.now ≡ suc (length c.args.sites.now.items) + place_count (body_of c.args.f.now.body) = ap length c.deref.ensures.value ∙ omega arith in
    function_code c.args.scope.now.program _ _ c.args.f.now.line _ (length c.args.sites.now.items) _ _ (body_of c.args.f.now.body) _ _ _ c.requires.locals c.in_ok-body.ensures.code (omega arith)
    (c.in_ok-push.ensures ∙ ap (λ (z : InstrSpot). c.body.new.code.items ++ instr z.line z.place (s.Control Out) ∷ []) c.spot_of-out.ensures) last

pub body-requires-clause-counted : goal.body-requires-clause-counted
body-requires-clause-counted c = function_takes c.args.scope.now.program (function_of c.args.f.now) c.requires.lawful
