use Rattle.std.proofs.Common.{◌≡◌, List, length, ap, ◌∙◌, arith}
use Rattle.loom_tree.specs.Tree.{Function, functions_of}
use Rattle.loom_lang.specs.Places.{places_from}
use Rattle.loom_flow.proofs.Places.{few_places}
use Rattle.loom_sites.proofs.LinkSteps.{one_more}
use Rattle.loom_sites.proofs.links.link_rows.Goals as goal

pub put_functions-requires-clause-room : goal.put_functions-requires-clause-room
put_functions-requires-clause-room c =
    let few = few_places c.args.program.now c.funcs.ensures.rules in
    let same : functions_of c.deref.result.now ≡ c.args.program.now.funcs = ap functions_of (c.deref.ensures.value ∙ c.behind-program.view_is) ∙ c.funcs.ensures.funcs in
    let count = ap (λ (fs : List Function). length (places_from 0 fs)) same in
    let none = ap length c.new-rows.ensures.items in
    let one = one_more c.new-rows.result.items c.push.new.self.items _ c.in_ok-push.ensures.items in
    omega arith
