use Rattle.std.proofs.Common.{◌≡◌, List, ℕ, ◌++◌, ap, sym, ◌∙◌}
use Rattle.std.proofs.lemmas.List.{append-nil}
use Rattle.loom_tree.specs.Tree.{Function, Source, function_of, items_of}
use Rattle.loom_lang.specs.declared.refusal.Reason.TheVariants as reason
use Rattle.loom_lang.specs.Rules.{locals_of}
use Rattle.loom_lang.specs.FileItems.{source_of_items}
use Rattle.loom_lang.specs.Refusal.{locals_at, unknown_lines}
use Rattle.loom_lang.specs.Fault.{behind_faults}
use Rattle.loom_lang.specs.Fault.{names_of}
use Rattle.loom_lang.proofs.Repetition.{locals_names}
use Rattle.loom_lang.proofs.resolve.note_item.Goals as goal

pub returns-in_ok-put_locals : goal.returns-in_ok-put_locals
returns-in_ok-put_locals c =
    let p : Source = source_of_items (items_of c.args.items.now) in
    let f : Function = function_of c.in-Func.f in
    let all : c.deref.result.now ≡ locals_at f = c.deref.ensures.value ∙ c.in_ok-put_locals.ensures ∙ ap (λ z. z ++ locals_at f) c.new-locals.ensures.items in
    let locals : names_of c.deref.result.now ≡ locals_of f = ap names_of all ∙ locals_names f in
    rw c.in-Func.is (c.note_body.ensures ∙ ap (λ (z : List (List ℕ)). behind_faults c.args.first.now reason.UnknownName (unknown_lines p z f.body)) locals ∙ ap (behind_faults c.args.first.now reason.UnknownName) (sym (append-nil (unknown_lines p (locals_of f) f.body))))
