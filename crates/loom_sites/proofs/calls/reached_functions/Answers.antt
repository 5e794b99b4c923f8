use Rattle.std.proofs.Common.{ℕ, refl, ap, arith}
use Rattle.std.specs.Int.RustNames.{bit_or, bit_xor}
use Rattle.loom_sites.proofs.Callers.{tells_calls, few_calls}
use Rattle.loom_sites.proofs.Closure.{TellsCalls, first_closing, closing_step, closed_all, closing_less}
use Rattle.loom_sites.proofs.calls.reached_functions.Goals as goal

pub walk-init : goal.walk-init
walk-init c = first_closing c.args.flow.now.program c.args.called c.requires

pub walk-smaller : goal.walk-smaller
walk-smaller c =
    let found : ℕ = c.walk.found in
    let next : ℕ = bit_or found c.calls_of.result in
    closing_less c.args.flow.now.program c.args.called c.least_function-f.result found c.walk.left c.calls_of.result next (bit_or (bit_xor c.walk.left c.bit.result) (bit_xor next found)) c.walk.invariant
    c.least_function-f.ensures.is c.least_function-f.ensures.below refl (ap (λ (b : ℕ). bit_or (bit_xor c.walk.left b) (bit_xor next found)) c.bit.ensures)

pub walk-preserved : goal.walk-preserved
walk-preserved c =
    let found : ℕ = c.walk.found in
    let f : ℕ = c.least_function-f.result in
    let next : ℕ = bit_or found c.calls_of.result in
    let low = c.walk.invariant.functions f (c.walk.invariant.within f c.least_function-f.ensures.is) in
    let tells : TellsCalls c.args.flow.now.program f c.calls_of.result = tells_calls c.args.flow.now.program f c.calls_of.result c.program-program.ensures.lowered.lawful low c.calls_of.ensures in
    closing_step c.args.flow.now.program c.args.called f found c.walk.left c.calls_of.result next (bit_or (bit_xor c.walk.left c.bit.result) (bit_xor next found)) c.walk.invariant c.least_function-f.ensures.is tells
    (λ g e. few_calls c.args.flow.now.program f c.calls_of.result g (tells g).0 e) refl (ap (λ (b : ℕ). bit_or (bit_xor c.walk.left b) (bit_xor next found)) c.bit.ensures)

pub returns-clause-is : goal.returns-clause-is
returns-clause-is c = closed_all c.args.flow.now.program c.args.called c.walk.found c.walk.left c.walk.invariant (let none = c.walk-test.false in omega (arith, none))
