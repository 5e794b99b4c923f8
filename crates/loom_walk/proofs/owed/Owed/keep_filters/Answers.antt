use Rattle.std.proofs.Common.{rules, ◌≡◌, ◌==◌, true, false, List, length, refl, ap, sym, subst, ◌∙◌, true≢false}
use Rattle.std.specs.List.{AllByRecursion}
use Rattle.arrayvec.proofs.ArrayVecLemmas.{filter-from_retain}
use Rattle.loom_law.specs.Walk.{still_owed}
use Rattle.loom_walk.specs.declared.owed.OwedRow.{OwedRow}
use Rattle.loom_walk.specs.Owed.{Owed, queue, HasOperations, rows_of}
use Rattle.loom_walk.specs.contracts.owed.Owed.{the_view}
use Rattle.loom_walk.proofs.OwedRows.{all_of}
use Rattle.loom_walk.proofs.OwedParts.{keep_owed}
use Rattle.loom_walk.proofs.owed.Owed.keep_filters.Goals as goal

pub returns-then-is_empty-clause-queue : goal.returns-then-is_empty-clause-queue
returns-then-is_empty-clause-queue c =
    let kept : c.retain.new.self.items ≡ rows_of c.args.version.now.active c.self.inside.rows.items = filter-from_retain _ _ _ (λ x b f' y called. search rules) _ _ c.retain.ensures.filtered in
    let there : AllByRecursion HasOperations c.self.inside.rows.items = subst (λ (z : Owed). AllByRecursion HasOperations z.rows) (sym c.self.view_is) c.requires in
    let none : (length c.retain.new.self.items == 0) ≡ true = sym c.is_empty.ensures ∙ c.if-is_empty.true in
    keep_owed c.args.version.now.active (the_view c.self.inside) false c.retain.new.self.items there kept (λ e. refl) (λ e. absurd (true≢false (sym none ∙ e)))
    ∙ ap (λ (z : Owed). still_owed c.args.version.now.active (queue z)) c.self.view_is

pub returns-then-is_empty-clause-rows : goal.returns-then-is_empty-clause-rows
returns-then-is_empty-clause-rows c =
    let kept : c.retain.new.self.items ≡ rows_of c.args.version.now.active c.self.inside.rows.items = filter-from_retain _ _ _ (λ x b f' y called. search rules) _ _ c.retain.ensures.filtered in
    let there : AllByRecursion HasOperations c.self.inside.rows.items = subst (λ (z : Owed). AllByRecursion HasOperations z.rows) (sym c.self.view_is) c.requires in
    subst (AllByRecursion HasOperations) (sym kept) (all_of c.args.version.now.active c.self.inside.rows.items there)

pub returns-then-is_empty-clause-same : goal.returns-then-is_empty-clause-same
returns-then-is_empty-clause-same c =
    let kept : c.retain.new.self.items ≡ rows_of c.args.version.now.active c.self.inside.rows.items = filter-from_retain _ _ _ (λ x b f' y called. search rules) _ _ c.retain.ensures.filtered in
    let f : List OwedRow → Owed = λ rs. record { line = c.self.inside.line; tick = c.self.inside.tick; back = false; rows = rs } in
    ap f kept ∙ ap (λ (z : Owed). record z { back = false; rows = rows_of c.args.version.now.active z.rows }) c.self.view_is

pub returns-clause-queue : goal.returns-clause-queue
returns-clause-queue c =
    let kept : c.retain.new.self.items ≡ rows_of c.args.version.now.active c.self.inside.rows.items = filter-from_retain _ _ _ (λ x b f' y called. search rules) _ _ c.retain.ensures.filtered in
    let there : AllByRecursion HasOperations c.self.inside.rows.items = subst (λ (z : Owed). AllByRecursion HasOperations z.rows) (sym c.self.view_is) c.requires in
    let some : (length c.retain.new.self.items == 0) ≡ false = sym c.is_empty.ensures ∙ c.if-is_empty.false in
    keep_owed c.args.version.now.active (the_view c.self.inside) c.self.inside.back c.retain.new.self.items there kept (λ e. absurd (true≢false (sym e ∙ some))) (λ e. refl)
    ∙ ap (λ (z : Owed). still_owed c.args.version.now.active (queue z)) c.self.view_is

pub returns-clause-rows : goal.returns-clause-rows
returns-clause-rows c =
    let kept : c.retain.new.self.items ≡ rows_of c.args.version.now.active c.self.inside.rows.items = filter-from_retain _ _ _ (λ x b f' y called. search rules) _ _ c.retain.ensures.filtered in
    let there : AllByRecursion HasOperations c.self.inside.rows.items = subst (λ (z : Owed). AllByRecursion HasOperations z.rows) (sym c.self.view_is) c.requires in
    subst (AllByRecursion HasOperations) (sym kept) (all_of c.args.version.now.active c.self.inside.rows.items there)

pub returns-clause-same : goal.returns-clause-same
returns-clause-same c =
    let kept : c.retain.new.self.items ≡ rows_of c.args.version.now.active c.self.inside.rows.items = filter-from_retain _ _ _ (λ x b f' y called. search rules) _ _ c.retain.ensures.filtered in
    let f : List OwedRow → Owed = λ rs. record { line = c.self.inside.line; tick = c.self.inside.tick; back = c.self.inside.back; rows = rs } in
    ap f kept ∙ ap (λ (z : Owed). record z { back = c.self.inside.back; rows = rows_of c.args.version.now.active z.rows }) c.self.view_is
