use Rattle.std.proofs.Common.{sym, subst}
use Rattle.loom_top.specs.declared.invocation.Task.{Task}
use Rattle.loom_top.specs.Task.{task_of}
use Rattle.loom_top.specs.TopCall.{call_of, CallEnds, FileOwes}
use Rattle.loom_top.proofs.alone.put_file.Goals as goal

pub returns-in-Run-clause-ends : goal.returns-in-Run-clause-ends
returns-in-Run-clause-ends g c =
    let s = call_of g.F.Shelf.told g.F.Shelf.faults g.K.Sink.taken g.K.Sink.faults c.args.shelf.now c.run_file.new.shelf c.args.sink.now c.run_file.new.sink in
    let P : Task → Type 0 = λ t. CallEnds s (λ x text. FileOwes s c.args.word.now c.args.file.now (task_of t) x text) c.run_file.result in
    subst P (sym c.in-Run.is) c.run_file.ensures.ends

pub returns-in-Show-clause-ends : goal.returns-in-Show-clause-ends
returns-in-Show-clause-ends g c =
    let s = call_of g.F.Shelf.told g.F.Shelf.faults g.K.Sink.taken g.K.Sink.faults c.args.shelf.now c.args.shelf.now c.args.sink.now c.show_file.new.sink in
    let P : Task → Type 0 = λ t. CallEnds s (λ x text. FileOwes s c.args.word.now c.args.file.now (task_of t) x text) c.show_file.result in
    subst P (sym c.in-Show.is) c.show_file.ensures.ends

pub returns-in-ShowFilter-clause-ends : goal.returns-in-ShowFilter-clause-ends
returns-in-ShowFilter-clause-ends g c =
    let s = call_of g.F.Shelf.told g.F.Shelf.faults g.K.Sink.taken g.K.Sink.faults c.args.shelf.now c.args.shelf.now c.args.sink.now c.show_filter.new.sink in
    let P : Task → Type 0 = λ t. CallEnds s (λ x text. FileOwes s c.args.word.now c.args.file.now (task_of t) x text) c.show_filter.result in
    subst P (sym c.in-ShowFilter.is) c.show_filter.ensures.ends
