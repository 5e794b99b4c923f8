use Rattle.std.proofs.Common.{ℕ, List, ap, sym, subst, ◌∙◌}
use Rattle.loom_trace.specs.declared.entry.Entry.{Entry}
use Rattle.loom_trace.specs.Text.{journal_text}
use Rattle.loom_law.specs.Judgement.{file_name}
use Rattle.loom_script.specs.View.{script_of}
use Rattle.loom_world.specs.Commands.{AreCommandsSoFar}
use Rattle.loom_top.specs.Code.{ended_as}
use Rattle.loom_top.specs.TopCall.{EndsIn, IsRunOf}
use Rattle.loom_top.proofs.Top.{run_owes}
use Rattle.loom_top.proofs.run.run_commands.Goals as goal

pub put_run-requires : goal.put_run-requires
put_run-requires g c =
    let ran = c.in-Ok.ensures in
    let run = ran.1.1 in
    let P : List Entry → Type 0 = λ z. EndsIn z run.0 in
    (run.0, subst P (sym c.journal.ensures.entries) run.1.ended)

pub returns-in-Ok-clause-ends : goal.returns-in-Ok-clause-ends
returns-in-Ok-clause-ends g c =
    let p = c.args.program.now in
    let ran = c.in-Ok.ensures in
    let put = c.put_run.ensures.put in
    let P : List ℕ → Type 0 = λ z. AreCommandsSoFar p z (script_of c.args.script.now) ran.0 in
    let are = subst P (c.file_name.ensures ∙ ap file_name c.as_bytes.ensures.value) ran.1.0 in
    let Q : List Entry → Type 0 = λ z. IsRunOf p ran.0 c.args.limit ran.1.1.0 z in
    let run = subst Q (sym c.journal.ensures.entries) ran.1.1.1 in (
      ended_as put.0,
      journal_text c.journal.result.now.entries,
      run_owes p c.args.word.now (script_of c.args.script.now) ran.0 c.args.limit c.journal.result.now.entries put.0 ran.1.1.0 are run put.1,
      put.2,
    )
