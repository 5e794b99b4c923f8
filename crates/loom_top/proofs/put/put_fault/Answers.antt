use Rattle.std.proofs.Common.{sym, subst}
use Rattle.loom_top.specs.declared.read.FileFault.{FileFault}
use Rattle.loom_top.specs.Code.{fault_status, fault_told}
use Rattle.loom_top.specs.TopCall.{Put}
use Rattle.loom_top.proofs.put.put_fault.Goals as goal

pub returns-in-Failed-clause-put : goal.returns-in-Failed-clause-put
returns-in-Failed-clause-put g c =
    let s = c.args.sink.now in
    let z = c.put_named.new.sink in
    let P : FileFault → Type 0 = λ f. Put (g.K.Sink.taken s) (g.K.Sink.taken z) (g.K.Sink.faults s) (g.K.Sink.faults z) (fault_told f c.args.name.now) (fault_status f) c.put_named.result in
    subst P (sym c.in-Failed.is) c.put_named.ensures.put

pub returns-in-TooLong-clause-put : goal.returns-in-TooLong-clause-put
returns-in-TooLong-clause-put g c =
    let s = c.args.sink.now in
    let z = c.put_named-in-TooLong.new.sink in
    let P : FileFault → Type 0 = λ f. Put (g.K.Sink.taken s) (g.K.Sink.taken z) (g.K.Sink.faults s) (g.K.Sink.faults z) (fault_told f c.args.name.now) (fault_status f) c.put_named-in-TooLong.result in
    subst P (sym c.in-TooLong.is) c.put_named-in-TooLong.ensures.put

pub returns-in-NoMemory-clause-put : goal.returns-in-NoMemory-clause-put
returns-in-NoMemory-clause-put g c =
    let s = c.args.sink.now in
    let z = c.put_text.new.sink in
    let P : FileFault → Type 0 = λ f. Put (g.K.Sink.taken s) (g.K.Sink.taken z) (g.K.Sink.faults s) (g.K.Sink.faults z) (fault_told f c.args.name.now) (fault_status f) c.put_text.result in
    subst P (sym c.in-NoMemory.is) c.put_text.ensures.put
