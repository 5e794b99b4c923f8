use Rattle.std.proofs.Common.{◌-◌, ◌<◌, ◌≡◌, length, ap, arith}
use Rattle.std.proofs.lemmas.List.{length-map}
use Rattle.loom_sites.proofs.EventTests.{function_told, statement_told}
use Rattle.loom_sites.proofs.area.whole_function.Goals as goal

pub returns-in-Statement : goal.returns-in-Statement
returns-in-Statement c =
    let all : length c.watches.result.now ≡ length c.args.c.now.plan.watches = simp length-map at (ap length c.watches.ensures.is) in
    let low : c.args.n - 1 < length c.watches.result.now = omega arith in
    statement_told c.args.c.now.plan c.watches.result.now c.args.n (c.args.n - 1) _ c.in-Statement.field-0 c.watches.ensures.is (omega arith) low c.in-Statement.is

pub returns-in-Function : goal.returns-in-Function
returns-in-Function c =
    let all : length c.watches.result.now ≡ length c.args.c.now.plan.watches = simp length-map at (ap length c.watches.ensures.is) in
    let low : c.args.n - 1 < length c.watches.result.now = omega arith in
    function_told c.args.c.now.plan c.watches.result.now c.args.n (c.args.n - 1) _ c.in-Function.f c.watches.ensures.is (omega arith) low c.in-Function.is
