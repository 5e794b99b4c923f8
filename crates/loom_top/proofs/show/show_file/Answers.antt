use Rattle.std.proofs.Common.{refl}
use Rattle.loom_lang.specs.Refusal.{IsRefusedProgram}
use Rattle.loom_top.specs.declared.status.Status.TheVariants as status
use Rattle.loom_top.specs.RefusalLine.{refusal_line}
use Rattle.loom_top.proofs.show.show_file.Goals as goal

pub returns-in-Err-Refused-clause-ends : goal.returns-in-Err-Refused-clause-ends
returns-in-Err-Refused-clause-ends g c =
    let r = c.in-Err-Refused.refusal in
    let refused : IsRefusedProgram c.args.file.now r.line r.reason = rw c.in-Err-Refused.field-0-is at c.in-Err-Refused.ensures.refused in
    (status.Refused, refusal_line r.line r.reason, (r.line, r.reason, refused, c.in-Err-Refused.ensures.none r (cc (c.in-Err-Refused.field-0-is)), refl), c.put_refusal.ensures.put)
