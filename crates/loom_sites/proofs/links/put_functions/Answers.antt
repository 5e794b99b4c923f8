use Rattle.std.proofs.Common.{ℕ, suc, ◌+◌, ◌≡◌, ◌∷◌, List, length, drop, ap, ◌∙◌, arith}
use Rattle.loom_tree.specs.Tree.{Function, function_of, functions_of}
use Rattle.loom_lang.specs.Places.{places_from}
use Rattle.loom_sites.proofs.LinkSteps.{function_more, function_count, function_step, functions_next}
use Rattle.loom_sites.proofs.links.put_functions.Goals as goal

pub put_function-requires : goal.put_function-requires
put_function-requires c =
    let f : Function = function_of c.index-funcs-i.result in
    let next : functions_of (drop c.functions.i c.args.funcs.now) ≡ f ∷ functions_of (drop (c.functions.i + 1) c.args.funcs.now) = functions_next c.args.funcs.now c.functions.i (c.functions.i + 1) c.index-funcs-i.result (omega arith) c.functions-test.true c.index-funcs-i.is in
    let same = ap (λ (fs : List Function). length (places_from c.functions.i fs)) next in
    let many = function_count c.functions.i f (functions_of (drop (c.functions.i + 1) c.args.funcs.now)) in
    let room = c.functions.invariant.room in
    omega arith

pub functions-preserved : goal.functions-preserved
functions-preserved c =
    let f : Function = function_of c.index-funcs-i.result in
    let next : functions_of (drop c.functions.i c.args.funcs.now) ≡ f ∷ functions_of (drop (c.functions.i + 1) c.args.funcs.now) = functions_next c.args.funcs.now c.functions.i (c.functions.i + 1) c.index-funcs-i.result (omega arith) c.functions-test.true c.index-funcs-i.is in
    let same = ap (λ (fs : List Function). length (places_from c.functions.i fs)) next in
    let many = function_count c.functions.i f (functions_of (drop (c.functions.i + 1) c.args.funcs.now)) in
    let more = function_more c.args.program.now c.functions.i (length c.functions.rows.items) f c.functions.rows.items c.put_function.new.rows.items c.in_ok-put_function.ensures in
    let number : c.functions.i + 1 ≡ suc c.functions.i = omega arith in
    let count = ap (λ (m : ℕ). length (places_from m (functions_of (drop (c.functions.i + 1) c.args.funcs.now)))) number in
    let room = c.functions.invariant.room in
    record {
      room = omega arith;
      is = function_step c.args.program.now c.functions.i (c.functions.i + 1) f _ _ c.functions.rows.items c.put_function.new.rows.items next (omega arith) c.in_ok-put_function.ensures ∙ c.functions.invariant.is;
    }
