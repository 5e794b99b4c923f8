use Rattle.std.proofs.Common.{ℕ, List, [], ◌∷◌, ◌++◌, ◌+◌, take, get_or, eq-eqb, ne_eqb, sym, subst}
use Rattle.loom_report.specs.OpenLine.{HasLine, line_behind}
use Rattle.loom_report.proofs.OpenLines.{line_behind_feed, line_behind_byte, other_line}
use Rattle.loom_report.proofs.refusal_notes.RefusalNotes.add.Goals as goal
use Rattle.loom_report.proofs.refusal_notes.RefusalNotes.add.Goals.{then-b-eq10, else-b-eq10+then-not-self, else-b-eq10+else-not-self}

pub bytes-preserved : goal.bytes-preserved
bytes-preserved c line first =
    let text : List ℕ = c.args.text.now in
    let i : ℕ = c.bytes.b-index in
    let before : HasLine (line_behind line (take i text)) c.bytes.self = c.bytes.invariant line first in
    elim c.if-b-eq10.branch [
      | then-b-eq10 w ↦ subst (HasLine (line_behind line (take (i + 1) text))) (sym w.self-is)
          (subst (λ l. HasLine l w.end_line.new.self) (sym (line_behind_feed line text i c.bytes-test.true (eq-eqb (get_or text i 0) 10 w.if-b-eq10.true))) w.end_line.ensures.anew)
      | else-b-eq10+then-not-self w ↦ subst (HasLine (line_behind line (take (i + 1) text))) (sym w.self-is)
          (subst (λ l. HasLine l w.add_byte.new.self) (sym (line_behind_byte line text i c.bytes-test.true (ne_eqb (get_or text i 0) 10 w.if-b-eq10.false)))
          (subst (λ l. HasLine (l ++ get_or text i 0 ∷ []) w.add_byte.new.self) (before w.if-not-self.true) w.add_byte.ensures))
      | else-b-eq10+else-not-self w ↦ subst (HasLine (line_behind line (take (i + 1) text))) (sym w.self-is)
          (other_line (line_behind line (take (i + 1) text)) c.bytes.self w.if-not-self.false)
    ]
