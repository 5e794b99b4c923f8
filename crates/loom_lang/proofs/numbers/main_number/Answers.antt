use Rattle.std.proofs.Common.{◌≡◌, ◌∙◌, None, Some, codes, sym}
use Rattle.loom_tree.specs.Tree.{functions_of}
use Rattle.loom_lang.specs.Numbers.{function_number}
use Rattle.loom_lang.proofs.Lookups.{function_at}
use Rattle.loom_lang.proofs.MainFunction.{IsFound, main_found, main_function, nowhere}
use Rattle.loom_lang.proofs.numbers.main_number.Goals as goal

pub unreachable-requires : goal.unreachable-requires
unreachable-requires c =
    let p = c.args.program.now in
    let same : functions_of c.as_slice.result.now ≡ p.funcs = cc (c.as_slice.ensures.value, c.behind-program.view_is, c.funcs.ensures.funcs) in
    nowhere p (main_found p c.funcs.ensures.rules)
    (sym (function_at p c.as_slice.result.now (codes "main") c.as_slice-2.result.now c.index_of.result c.index_of.ensures.number c.as_slice-2.ensures same) ∙ c.in-None.is)

pub returns-clause-number : goal.returns-clause-number
returns-clause-number c =
    let p = c.args.program.now in
    let same : functions_of c.as_slice.result.now ≡ p.funcs = cc (c.as_slice.ensures.value, c.behind-program.view_is, c.funcs.ensures.funcs) in
    sym (function_at p c.as_slice.result.now (codes "main") c.as_slice-2.result.now c.index_of.result c.index_of.ensures.number c.as_slice-2.ensures same) ∙ c.in-Some.is

pub returns-clause-function : goal.returns-clause-function
returns-clause-function c =
    let p = c.args.program.now in
    let same : functions_of c.as_slice.result.now ≡ p.funcs = cc (c.as_slice.ensures.value, c.behind-program.view_is, c.funcs.ensures.funcs) in
    main_function p c.in-Some.number (main_found p c.funcs.ensures.rules)
    (sym (function_at p c.as_slice.result.now (codes "main") c.as_slice-2.result.now c.index_of.result c.index_of.ensures.number c.as_slice-2.ensures same) ∙ c.in-Some.is)
