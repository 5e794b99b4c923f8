use Rattle.std.proofs.Common.{refl, sym, subst}
use Rattle.loom_flow.specs.State.{operand_value, without, given}
use Rattle.loom_flow.specs.Question.{read, write}
use Rattle.loom_flow.specs.Progress.{asks_value, asks_act, of_ask}
use Rattle.loom_trace.specs.declared.request.Request.TheVariants as r
use Rattle.loom_strand.specs.PositionRequest.{IsAskedBy}
use Rattle.loom_strand.proofs.Cells.{asked_cell}
use Rattle.loom_strand.proofs.ask.request.Goals as goal

pub returns-in-ReadCell : goal.returns-in-ReadCell
returns-in-ReadCell c =
    let z = c.args.machine.now.state in
    subst (λ x. IsAskedBy c.read_cell.result (of_ask z c.args.line x)) (sym c.in-ReadCell.is)
    (asked_cell c.args.line c.in-ReadCell.array (operand_value z c.in-ReadCell.n) (λ w. r.Read c.args.line w)
    (λ w. asks_value c.args.line (read w) (λ v. given (without z c.in-ReadCell.n) c.in-ReadCell.field-2 v)) c.read_cell.result (λ w. refl) c.read_cell.ensures)

pub returns-in-WriteCell : goal.returns-in-WriteCell
returns-in-WriteCell c =
    let z = c.args.machine.now.state in
    subst (λ x. IsAskedBy c.write_cell.result (of_ask z c.args.line x)) (sym c.in-WriteCell.is)
    (asked_cell c.args.line c.in-WriteCell.array (operand_value (without z c.in-WriteCell.b) c.in-WriteCell.n) (λ w. r.Write c.args.line w (operand_value z c.in-WriteCell.b))
    (λ w. asks_act c.args.line (write w (operand_value z c.in-WriteCell.b)) (without (without z c.in-WriteCell.b) c.in-WriteCell.n)) c.write_cell.result (λ w. refl) c.write_cell.ensures)
