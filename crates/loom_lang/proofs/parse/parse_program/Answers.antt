use Rattle.std.proofs.Common.{◌≡◌, subst}
use Rattle.std.proofs.lemmas.Result.{err_from_is_err_and}
use Rattle.loom_lang.specs.declared.parse.LangError.TheVariants as e
use Rattle.loom_lang.specs.LangError.{TellsRefusal}
use Rattle.loom_lang.proofs.Texts.{refused_no_program}
use Rattle.loom_lang.proofs.parse.parse_program.Goals as goal

pub returns-in_err-items-clause-none : goal.returns-in_err-items-clause-none
returns-in_err-items-clause-none c = λ r is p h.
    let told = err_from_is_err_and c.from_residual.result c.from_residual.ensures.1 in
    let same : c.in_err-items.field-0.0 ≡ e.Refused r = cc (is, told.1, told.2) in
    refused_no_program c.args.bytes.now r.line r.reason (subst (TellsRefusal c.args.bytes.now) same c.in_err-items.ensures) p h
