use Rattle.std.proofs.Common.{◌≡◌, ℕ, List, ◌++◌, codes, append_assoc, ap, ◌∙◌}
use Rattle.loom_tree.specs.Decimal.{decimal}
use Rattle.loom_top.specs.RefusalLine.{reason_words}
use Rattle.loom_top.proofs.refusal.refusal_line.Goals as goal

-- five pieces, one behind the other
pieces : (a b c d e : List ℕ) → (((a ++ b) ++ c) ++ d) ++ e ≡ a ++ (b ++ (c ++ (d ++ e)))
pieces a b c d e = append_assoc ((a ++ b) ++ c) d e ∙ (append_assoc (a ++ b) c (d ++ e) ∙ append_assoc a b (c ++ (d ++ e)))

pub returns : goal.returns
returns c =
    let first : c.add.new.line.items ≡ codes "program: line " = c.add.ensures ∙ ap (λ z. z ++ codes "program: line ") c.new-line.ensures in
    let line = decimal c.args.refusal.line in
    let why = reason_words c.args.refusal.reason in
    let second : c.add_number.new.line.items ≡ codes "program: line " ++ line = c.add_number.ensures.text ∙ ap (λ z. z ++ line) first in
    let third : c.add-2.new.line.items ≡ (codes "program: line " ++ line) ++ codes ": " = c.add-2.ensures ∙ ap (λ z. z ++ codes ": ") second in
    let fourth : c.add-3.new.line.items ≡ ((codes "program: line " ++ line) ++ codes ": ") ++ why =
    c.add-3.ensures ∙ (ap (λ z. c.add-2.new.line.items ++ z) (c.as_bytes.ensures.value ∙ c.reason_words.ensures) ∙ ap (λ z. z ++ why) third) in
    c.add-4.ensures ∙ (ap (λ z. z ++ codes "\n") fourth ∙ pieces (codes "program: line ") line (codes ": ") why (codes "\n"))
