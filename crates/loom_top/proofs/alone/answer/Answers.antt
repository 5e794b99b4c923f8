use Rattle.std.proofs.Common.{map, codes, refl}
use Rattle.loom_top.specs.declared.status.Status.TheVariants as status
use Rattle.loom_top.specs.Invocation.{Invocation}
use Rattle.loom_top.specs.Task.{task_of}
use Rattle.loom_top.proofs.Top.{answered, file_answered, fault_answered}
use Rattle.loom_top.proofs.alone.answer.Goals as goal

pub returns-in_default-clause-answers : goal.returns-in_default-clause-answers
returns-in_default-clause-answers g c =
    answered _ (map (λ w. w.now) c.args.words.now) (codes "usage\n") status.Usage c.put_text.result (c.in_default.ensures.none, refl) c.put_text.ensures.put

pub returns-in-Ok-clause-answers : goal.returns-in-Ok-clause-answers
returns-in-Ok-clause-answers g c =
    let asked : Invocation = record { name = c.in-Some.invocation.name.now; task = task_of c.in-Some.invocation.task } in
    let read = c.in-Ok.ensures.read in
    file_answered _ (map (λ w. w.now) c.args.words.now) (g.F.Shelf.told c.read_file.new.shelf) (g.F.Shelf.faults c.read_file.new.shelf) asked c.in-Ok.file c.put_file.result
    c.in-Some.ensures.found read.0 read.1 (record { kept = c.in-Ok.ensures.kept; later = c.in-Ok.ensures.later }) (rw c.bytes.ensures at c.put_file.ensures.ends)

pub returns-in-Err-clause-answers : goal.returns-in-Err-clause-answers
returns-in-Err-clause-answers g c =
    let asked : Invocation = record { name = c.in-Some.invocation.name.now; task = task_of c.in-Some.invocation.task } in
    fault_answered _ (map (λ w. w.now) c.args.words.now) asked c.in-Err.fault c.put_fault.result c.in-Some.ensures.found c.in-Err.ensures.read c.put_fault.ensures.put
