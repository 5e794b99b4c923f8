use Rattle.std.proofs.Common.{ℕ, ◌≡◌, List, [], ◌∷◌, ◌++◌, length, ap, ◌∙◌}
use Rattle.loom_tree.specs.Tree.{Source}
use Rattle.loom_tree.specs.Lines.{ended}
use Rattle.loom_lang.specs.Places.{places}
use Rattle.loom_trace.specs.Places.{has_place}
use Rattle.loom_top.specs.ShowText.{clauses_line, event_lines, unsafe_lines}
use Rattle.loom_top.proofs.ShowLines.{line_and_lists}
use Rattle.loom_top.proofs.filter_lines.plan_text.Goals as goal

pub returns : goal.returns
returns c =
    let p = c.args.flow.now.program in
    let f = c.args.plan.now.plan in
    let line : List ℕ = clauses_line (length f.rulings) in
    let us : List (List ℕ) = unsafe_lines p (has_place c.args.set.now) 0 (places p) in
    let first : c.put_clauses.new.out ≡ ended (line ∷ []) =
    c.in_ok-put_clauses.ensures ∙ ap (λ (z : List ℕ). z ++ ended (clauses_line c.from.result ∷ [])) c.new.ensures.items
    ∙ ap (λ (n : ℕ). ended (clauses_line n ∷ [])) (c.from.ensures ∙ c.clauses.ensures.is) in
    let second : c.put_event_lines.new.out ≡ c.put_clauses.new.out ++ ended (event_lines p 1 f.watches) =
    c.in_ok-put_event_lines.ensures ∙ ap (λ (q : Source). c.put_clauses.new.out ++ ended (event_lines q 1 f.watches)) c.requires in
    line_and_lists line (event_lines p 1 f.watches) us c.put_clauses.new.out c.put_event_lines.new.out c.put_unsafe_lines.new.out first second c.in_ok-put_unsafe_lines.ensures
