use Rattle.std.proofs.lemmas.Result.{err_from_is_err_and}
use Rattle.loom_filter.specs.View.{filter_of}
use Rattle.loom_sites.proofs.Judgements.{nothing_refuses, text_refuses, names_refuse, paths_refuse}
use Rattle.loom_sites.proofs.judge.judge.Goals as goal

pub returns-in_err-filter-clause-refused : goal.returns-in_err-filter-clause-refused
returns-in_err-filter-clause-refused c = λ r is.
    let told = err_from_is_err_and c.from_residual.result c.from_residual.ensures.1 in
    text_refuses c.args.flow.now.program c.args.file.now c.args.text.now c.in_err-filter.field-0.0 r (cc (is, told.1, told.2)) c.in_err-filter.ensures

pub returns-in_err-plan-clause-refused : goal.returns-in_err-plan-clause-refused
returns-in_err-plan-clause-refused c = λ r is.
    let told = err_from_is_err_and c.from_residual-in_err-plan.result c.from_residual-in_err-plan.ensures.1 in
    names_refuse c.args.flow.now.program c.args.file.now c.args.text.now (filter_of c.in_ok-filter.filter) c.in_err-plan.field-0.0 r (cc (is, told.1, told.2))
    c.in_ok-filter.ensures c.in_err-plan.ensures

pub returns-in_err-places-clause-refused : goal.returns-in_err-places-clause-refused
returns-in_err-places-clause-refused c = λ r is.
    let told = err_from_is_err_and c.from_residual-in_err-places.result c.from_residual-in_err-places.ensures.1 in
    paths_refuse c.args.flow.now.program c.args.file.now c.args.text.now (filter_of c.in_ok-filter.filter) c.in_ok-plan.plan c.in_err-places.field-0.0 r (cc (is, told.1, told.2))
    c.in_ok-filter.ensures c.in_ok-plan.ensures c.in_err-places.ensures

pub returns-clause-judged : goal.returns-clause-judged
returns-clause-judged c =
    nothing_refuses c.args.flow.now.program c.args.file.now c.args.text.now (filter_of c.in_ok-filter.filter) c.in_ok-plan.plan
    c.in_ok-filter.ensures c.in_ok-plan.ensures c.in_ok-places.ensures.0
