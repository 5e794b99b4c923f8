use Rattle.std.proofs.Common.{ℕ, List, ◌∙◌, subst}
use Rattle.loom_top.specs.declared.status.Status.TheVariants as status
use Rattle.loom_top.specs.TopCall.{Put}
use Rattle.loom_top.proofs.put.put_no_script.Goals as goal

pub returns-clause-put : goal.returns-clause-put
returns-clause-put g c =
    let P : List ℕ → Type 0 = λ z. Put (g.K.Sink.taken c.args.sink.now) (g.K.Sink.taken c.put_text.new.sink) (g.K.Sink.faults c.args.sink.now) (g.K.Sink.faults c.put_text.new.sink) z status.NoScript c.put_text.result in
    subst P (c.as_slice.ensures.value ∙ c.script_line.ensures) c.put_text.ensures.put
