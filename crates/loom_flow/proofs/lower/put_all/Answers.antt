use Rattle.std.proofs.Common.{◌≡◌, ◌+◌, List, [], ◌∷◌, ◌++◌, length, drop, ap, ◌∙◌, subst}
use Rattle.loom_tree.specs.Tree.{Function, Source, function_of, functions_of}
use Rattle.loom_lang.specs.Rules.{FunctionsKeepRules}
use Rattle.loom_flow.specs.FlatCode.{functions_code, functions_sites, entrances, calls_body, set_of}
use Rattle.loom_lang.proofs.Faults.{drop_at}
use Rattle.loom_flow.proofs.Functions.{functions_code_step, functions_sites_step, entrances_step, calls_on, room_for}
use Rattle.loom_flow.proofs.lower.put_all.Goals as goal

pub put-requires-clause-room : goal.put-requires-clause-room
put-requires-clause-room c =
    let next : functions_of (drop c.put.f-index c.args.funcs.now) ≡ function_of c.f-item.result ∷ functions_of (drop (c.put.f-index + 1) c.args.funcs.now) = ap functions_of (drop_at _ _ c.f-item.result c.put-test.true c.f-item.is) in
    room_for c.args.scope.now.program (function_of c.f-item.result) _ _ _ _ c.requires.lawful next c.put.invariant.sites

pub put-preserved : goal.put-preserved
put-preserved c =
    let f : Function = function_of c.f-item.result in
    let next : functions_of (drop c.put.f-index c.args.funcs.now) ≡ f ∷ functions_of (drop (c.put.f-index + 1) c.args.funcs.now) = ap functions_of (drop_at _ _ c.f-item.result c.put-test.true c.f-item.is) in
    let is : c.put.scope.program ≡ c.args.scope.now.program = c.put.invariant.program in
    let code = c.in_ok-put.ensures.code ∙ ap (λ (q : Source). c.put.parts.code.items ++ functions_code q (length c.put.parts.code.items) (length c.put.parts.sites.items) (f ∷ [])) is in
    let sites = c.in_ok-put.ensures.sites ∙ ap (λ (q : Source). c.put.parts.sites.items ++ functions_sites q (length c.put.parts.code.items) (f ∷ [])) is in
    let entries = c.in_ok-put.ensures.entrances ∙ ap (λ (q : Source). c.put.parts.entrances.items ++ entrances q (length c.put.parts.code.items) (length c.put.parts.sites.items) (f ∷ [])) is in
    let calls = c.in_ok-put.ensures.calls ∙ ap (λ (q : Source). c.put.parts.calls.items ++ set_of 0 (calls_body q f.body) ∷ []) is in
    record {
      program = c.in_ok-put.ensures.program ∙ is;
      lawful = (let P : List Function → Type 0 = λ fs. FunctionsKeepRules c.args.scope.now.program fs in subst P next c.put.invariant.lawful).1;
      code = functions_code_step c.args.scope.now.program f _ _ _ _ _ _ next code sites ∙ c.put.invariant.code;
      sites = functions_sites_step c.args.scope.now.program f _ _ _ _ _ _ _ next code sites ∙ c.put.invariant.sites;
      entrances = entrances_step c.args.scope.now.program f _ _ _ _ _ _ _ _ next code sites entries ∙ c.put.invariant.entrances;
      calls = calls_on c.args.scope.now.program f _ _ _ _ next calls ∙ c.put.invariant.calls;
    }
