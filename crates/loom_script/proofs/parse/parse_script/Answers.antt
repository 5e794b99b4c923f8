use Rattle.std.proofs.Common.{◌≡◌, arith, List, Err, sym, ap, subst, ◌∙◌}
use Rattle.std.proofs.lemmas.Result.{err_from_is_err_and}
use Rattle.loom_script.specs.declared.script.Command.{Command}
use Rattle.loom_script.specs.declared.parse.ScriptError.{ScriptError}
use Rattle.loom_script.specs.View.{commands_of}
use Rattle.loom_script.specs.ScriptError.{TellsScript}
use Rattle.loom_script.proofs.ScriptReading.{HasCommands, none_yet, read_on, error_told, all_read}
use Rattle.loom_script.proofs.parse.parse_script.Goals as goal

pub lines-init : goal.lines-init
lines-init c =
    let P : List Command → Type 0 = λ z. HasCommands c.args.bytes.now 0 1 (commands_of z) in
    record { within = omega arith; small = omega arith; read = subst P (sym c.new-commands.ensures.items) (none_yet c.args.bytes.now) }

pub returns-in_err-put_line : goal.returns-in_err-put_line
returns-in_err-put_line c =
    let bytes = c.args.bytes.now in
    let e : ScriptError = c.in_err-put_line.field-0.0 in
    let told = err_from_is_err_and c.from_residual.result c.from_residual.ensures.1 in
    let same : c.from_residual.result ≡ Err e = told.1 ∙ ap (λ x. Err x) told.2 in
    subst (λ r. TellsScript bytes r) (sym same)
    (error_told bytes c.lines.at c.line_end-end.result c.lines.number c.line_text.result.now (commands_of c.lines.commands.items) (commands_of c.put_line.new.commands.items) e
    c.lines.invariant.read c.lines-test.true c.line_end-end.ensures.value c.line_text.ensures c.in_err-put_line.ensures)

pub lines-preserved : goal.lines-preserved
lines-preserved c =
    let bytes = c.args.bytes.now in
    record {
      within = omega (arith, c.line_end-end.ensures.within);
      small = omega (arith, c.lines.invariant.small, c.line_end-end.ensures.value);
      read =
          read_on bytes c.lines.at c.line_end-end.result c.lines.number c.line_text.result.now (commands_of c.lines.commands.items) (commands_of c.put_line.new.commands.items)
          c.lines.invariant.read c.lines-test.true c.line_end-end.ensures.value c.line_text.ensures c.in_ok-put_line.ensures;
    }

pub lines-smaller : goal.lines-smaller
lines-smaller c = omega (arith, c.line_end-end.ensures.value, c.lines-test.true)

pub returns : goal.returns
returns c = all_read c.args.bytes.now c.lines.at c.lines.number (commands_of c.lines.commands.items) c.lines.invariant.read c.lines-test.false
