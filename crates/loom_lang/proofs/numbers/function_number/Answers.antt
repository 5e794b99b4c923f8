use Rattle.std.proofs.Common.{◌≡◌}
use Rattle.loom_tree.specs.Tree.{functions_of}
use Rattle.loom_lang.proofs.Lookups.{function_at}
use Rattle.loom_lang.proofs.numbers.function_number.Goals as goal

pub returns-clause-number : goal.returns-clause-number
returns-clause-number c =
    let same : functions_of c.as_slice.result.now ≡ c.args.program.now.funcs = cc (c.as_slice.ensures.value, c.behind-program.view_is, c.funcs.ensures.funcs) in
    function_at c.args.program.now c.as_slice.result.now c.args.x.now c.bytes.result.now c.index_of.result c.index_of.ensures.number c.bytes.ensures same
