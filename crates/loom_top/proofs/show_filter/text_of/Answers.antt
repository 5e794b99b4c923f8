use Rattle.std.proofs.Common.{ℕ, List, ap, subst, ◌∙◌}
use Rattle.std.proofs.lemmas.Result.{err_from_is_err_and}
use Rattle.loom_tree.specs.Tree.{Source}
use Rattle.loom_law.specs.Judgement.{file_name}
use Rattle.loom_top.specs.ShowText.{IsFilterText}
use Rattle.loom_top.proofs.show_filter.text_of.Goals as goal

pub returns-in_err-program-clause-none : goal.returns-in_err-program-clause-none
returns-in_err-program-clause-none c = λ r is p h.
    let told = err_from_is_err_and c.from_residual.result c.from_residual.ensures.1 in
    c.in_err-program.ensures.none r (cc (is, told.1, told.2)) p h

pub returns-clause-text : goal.returns-clause-text
returns-clause-text c =
    let p : Source = c.in_ok-program.program in
    let out : List ℕ = c.in_ok-filter_text.field-0 in
    let name = c.file_name.result.now in
    let text = c.as_bytes-2.result.now in
    let here : IsFilterText p name text out = subst (λ (q : Source). IsFilterText q name text out) c.in_ok-flow.ensures.program c.in_ok-filter_text.ensures in
    let of_word : IsFilterText p (file_name c.args.word.now) text out =
    subst (λ (z : List ℕ). IsFilterText p z text out) (c.file_name.ensures ∙ ap file_name c.as_bytes.ensures.value) here in
    (p, c.in_ok-program.ensures.program, subst (λ (z : List ℕ). IsFilterText p (file_name c.args.word.now) z out) c.as_bytes-2.ensures.value of_word)
