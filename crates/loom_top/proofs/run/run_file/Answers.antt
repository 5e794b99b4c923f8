use Rattle.std.proofs.Common.{refl}
use Rattle.loom_lang.specs.Refusal.{IsRefusedProgram}
use Rattle.loom_top.specs.declared.status.Status.TheVariants as status
use Rattle.loom_top.specs.RefusalLine.{refusal_line}
use Rattle.loom_top.specs.Task.{name_if}
use Rattle.loom_top.specs.TopCall.{call_of}
use Rattle.loom_top.proofs.Top.{program_ends}
use Rattle.loom_top.proofs.run.run_file.Goals as goal

pub returns-in-Ok-clause-ends : goal.returns-in-Ok-clause-ends
returns-in-Ok-clause-ends g c =
    let s = call_of g.F.Shelf.told g.F.Shelf.faults g.K.Sink.taken g.K.Sink.faults c.args.shelf.now c.run_program.new.shelf c.args.sink.now c.run_program.new.sink in
    program_ends s c.in-Ok.program c.args.word.now c.args.file.now (name_if c.args.script) c.args.limit c.run_program.result c.in-Ok.ensures.program c.run_program.ensures.ends

pub returns-in-Err-Refused-clause-ends : goal.returns-in-Err-Refused-clause-ends
returns-in-Err-Refused-clause-ends g c =
    let r = c.in-Err-Refused.refusal in
    let refused : IsRefusedProgram c.args.file.now r.line r.reason = rw c.in-Err-Refused.field-0-is at c.in-Err-Refused.ensures.refused in
    (status.Refused, refusal_line r.line r.reason, (r.line, r.reason, refused, c.in-Err-Refused.ensures.none r (cc (c.in-Err-Refused.field-0-is)), refl), rw c.in-Err-Refused.field-0-is at c.put_refusal.ensures.put)
