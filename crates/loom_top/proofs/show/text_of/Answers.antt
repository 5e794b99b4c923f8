use Rattle.std.proofs.lemmas.Result.{err_from_is_err_and}
use Rattle.loom_top.proofs.show.text_of.Goals as goal

pub returns-in_err-program-clause-none : goal.returns-in_err-program-clause-none
returns-in_err-program-clause-none c = λ r is p h.
    let told = err_from_is_err_and c.from_residual.result c.from_residual.ensures.1 in
    c.in_err-program.ensures.none r (cc (is, told.1, told.2)) p h
