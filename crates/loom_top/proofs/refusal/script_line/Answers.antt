use Rattle.std.proofs.Common.{◌≡◌, ◌++◌, codes, append_assoc, ap, ◌∙◌}
use Rattle.loom_tree.specs.Decimal.{decimal}
use Rattle.loom_top.proofs.refusal.script_line.Goals as goal

pub returns : goal.returns
returns c =
    let line = decimal c.args.refusal.line in
    let first : c.add.new.line.items ≡ codes "script: line " = c.add.ensures ∙ ap (λ z. z ++ codes "script: line ") c.new-line.ensures in
    let second : c.add_number.new.line.items ≡ codes "script: line " ++ line = c.add_number.ensures.text ∙ ap (λ z. z ++ line) first in
    c.add-2.ensures ∙ (ap (λ z. z ++ codes "\n") second ∙ append_assoc (codes "script: line ") line (codes "\n"))
