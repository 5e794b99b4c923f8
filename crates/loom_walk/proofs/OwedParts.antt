-- What a thread owes, and its changes.
use Rattle.std.proofs.Common.{ℕ, ◌≡◌, ◌==◌, Bool, true, false, not, List, [], ◌++◌, length, Option, Some, None, refl, sym, ap, subst, ◌∙◌}
use Rattle.std.specs.Prelude.{◌↔◌}
use Rattle.std.specs.List.{AllByRecursion}
use Rattle.loom_law.specs.Walk.{Queue, past, post, without_first, with_back, still_owed}
use Rattle.loom_plan.specs.declared.operations.Before.{Before}
use Rattle.loom_plan.specs.declared.operations.Behind.{Behind}
use Rattle.loom_plan.specs.Sets.{event_numbers, clause_numbers}
use Rattle.loom_plan.specs.Operations.{with_each, with_all, queue_before, queue_behind, queue_leaves}
use Rattle.loom_walk.specs.declared.owed.OwedRow.{OwedRow}
use Rattle.loom_walk.specs.declared.owed.OwedTick.{OwedTick}
use Rattle.loom_walk.specs.declared.owed.OwedOperation.{OwedOperation}
use Rattle.loom_walk.specs.declared.owed.OwedOperation.TheVariants as o
use Rattle.loom_walk.specs.Owed.{Owed, row_of, row_queue, rows_queue, back_queue, tick_queue, queue, HasOperations, with_row, rows_of, filters_owed, IsOrHasMore, IsFirstOf}
use Rattle.loom_walk.proofs.OwedQueues.{before_gone, behind_gone}
use Rattle.loom_walk.proofs.OwedRows.{rows_put, all_put, filters_put, back_is, keep_queue, append_queue, nothing_tick}

-- what is owed behind a tick
abbrev rest_of : Owed → Queue
rest_of x = back_queue x.back x.line (rows_queue x.line x.rows [])

-- Reading

pub nothing_at : (x : Owed) (t : OwedTick) → x.tick ≡ Some t → (false ≡ true) ↔ (queue x ≡ [])
nothing_at x t e = subst (λ (z : Option OwedTick). (false ≡ true) ↔ (tick_queue z (rest_of x) ≡ [])) (sym e) (nothing_tick t (rest_of x))

pub nothing_else : (x : Owed) (b : Bool) → x.tick ≡ None → (b ≡ true) ↔ (rest_of x ≡ []) → (b ≡ true) ↔ (queue x ≡ [])
nothing_else x b e h = subst (λ (z : Option OwedTick). (b ≡ true) ↔ (tick_queue z (rest_of x) ≡ [])) (sym e) h

pub first_at : (x : Owed) (t : OwedTick) → x.tick ≡ Some t → IsFirstOf (queue x) (Some (t.line, o.Tick t.place))
first_at x t e = subst (λ (z : Option OwedTick). IsFirstOf (tick_queue z (rest_of x)) (Some (t.line, o.Tick t.place))) (sym e) refl

pub first_else : (x : Owed) (r : Option (ℕ × OwedOperation)) → x.tick ≡ None → IsFirstOf (rest_of x) r → IsFirstOf (queue x) r
first_else x r e h = subst (λ (z : Option OwedTick). IsFirstOf (tick_queue z (rest_of x)) r) (sym e) h

-- Putting

pub put_back_queue : (x : Owed) (b : Bool) → AllByRecursion HasOperations x.rows → b ≡ not (length x.rows == 0)
    → queue (record x { back = b }) ≡ tick_queue x.tick (with_back x.line (rows_queue x.line x.rows []))
put_back_queue x b h e =
    ap (λ (z : Bool). tick_queue x.tick (back_queue z x.line (rows_queue x.line x.rows []))) e ∙ ap (tick_queue x.tick) (back_is x.line x.rows h)

pub put_queue : (l : ℕ) (rs new : List OwedRow) (r : OwedRow) → new ≡ with_row rs r → rows_queue l new [] ≡ row_queue l r (rows_queue l rs [])
put_queue l rs new r e = ap (λ (z : List OwedRow). rows_queue l z []) e ∙ rows_put l rs r []

pub put_all : (rs new : List OwedRow) (r : OwedRow) → new ≡ with_row rs r → AllByRecursion HasOperations rs → AllByRecursion HasOperations new
put_all rs new r e h = subst (AllByRecursion HasOperations) (sym e) (all_put rs r h)

pub put_filters : (rs new : List OwedRow) (r : OwedRow) → new ≡ with_row rs r → IsOrHasMore (filters_owed rs) r.filter (filters_owed new)
put_filters rs new r e = subst (λ (z : List OwedRow). IsOrHasMore (filters_owed rs) r.filter (filters_owed z)) (sym e) (filters_put rs r)

pub same_but_rows : (x y : Owed) (rs : List OwedRow) → y ≡ record x { rows = rs } → y ≡ record x { rows = y.rows }
same_but_rows x y rs e = e ∙ ap (λ (z : List OwedRow). record x { rows = z }) (sym (ap (λ (z : Owed). z.rows) e))

-- where there is nothing behind, nothing before, and leaves alone

pub only_before : (k l : ℕ) (b : Before) (d : Behind) (more : Queue) → event_numbers d.past ≡ [] → event_numbers d.posts ≡ [] → clause_numbers d.leaves ≡ []
    → row_queue l (row_of k b d) more ≡ queue_before k l b more
only_before k l b d more p s v = ap (λ (q : Queue). queue_before k l b q) (behind_gone k l d more p s v)

pub only_behind : (k l : ℕ) (b : Before) (d : Behind) (more : Queue) → event_numbers b.waits ≡ [] → clause_numbers b.enters ≡ [] → event_numbers b.at ≡ []
    → row_queue l (row_of k b d) more ≡ queue_behind k l d more
only_behind k l b d more w e a = before_gone k l b (queue_behind k l d more) w e a

pub only_leaves : (k l : ℕ) (b : Before) (d : Behind) (more : Queue) → event_numbers b.waits ≡ [] → clause_numbers b.enters ≡ [] → event_numbers b.at ≡ []
    → event_numbers d.past ≡ [] → event_numbers d.posts ≡ [] → row_queue l (row_of k b d) more ≡ queue_leaves k l d.leaves more
only_leaves k l b d more w e a p s =
    only_behind k l b d more w e a
    ∙ (ap (λ (ns : List ℕ). with_all l (past k) ns (with_each l (post k) (event_numbers d.posts) (queue_leaves k l d.leaves more))) p
    ∙ ap (λ (ns : List ℕ). with_each l (post k) ns (queue_leaves k l d.leaves more)) s)

-- Taking out

pub pop_tick : (x : Owed) (t : OwedTick) → x.tick ≡ Some t → queue (record x { tick = None }) ≡ without_first (queue x)
pop_tick x t e = sym (ap (λ (z : Option OwedTick). without_first (tick_queue z (rest_of x))) e)

pub pop_back : (x : Owed) → x.tick ≡ None → x.back ≡ true → queue (record x { back = false }) ≡ without_first (queue x)
pop_back x e b =
    let q : Queue = rows_queue x.line x.rows [] in
    ap (λ (z : Option OwedTick). tick_queue z q) e
    ∙ sym (ap (λ (z : Option OwedTick). without_first (tick_queue z (rest_of x))) e ∙ ap (λ (z : Bool). without_first (back_queue z x.line q)) b)

pub pop_rows : (x : Owed) (rs : List OwedRow) → x.tick ≡ None → x.back ≡ false → rows_queue x.line rs [] ≡ without_first (rows_queue x.line x.rows [])
    → queue (record x { rows = rs }) ≡ without_first (queue x)
pop_rows x rs e b h =
    let q : Queue = rows_queue x.line x.rows [] in
    let new : Queue = rows_queue x.line rs [] in
    ap (λ (z : Option OwedTick). tick_queue z (back_queue x.back x.line new)) e
    ∙ (ap (λ (z : Bool). back_queue z x.line new) b
    ∙ (h ∙ sym (ap (λ (z : Option OwedTick). without_first (tick_queue z (rest_of x))) e ∙ ap (λ (z : Bool). without_first (back_queue z x.line q)) b)))

-- Another version, and more

pub keep_owed : (ks : List ℕ) (x : Owed) (b : Bool) (rest : List OwedRow) → AllByRecursion HasOperations x.rows → rest ≡ rows_of ks x.rows
    → ((length rest == 0) ≡ true → b ≡ false) → ((length rest == 0) ≡ false → b ≡ x.back) → queue (record x { back = b; rows = rest }) ≡ still_owed ks (queue x)
keep_owed ks x b rest h e f g = keep_queue ks x.tick x.line x.back b x.rows rest h e f g

pub append_owed : (x more : Owed) (rs : List OwedRow) → more.tick ≡ None → more.back ≡ false → more.line ≡ x.line → rs ≡ more.rows ++ x.rows
    → queue (record x { rows = rs }) ≡ queue x ++ queue more
append_owed x more rs t b l e =
    ap (λ (z : List OwedRow). tick_queue x.tick (back_queue x.back x.line (rows_queue x.line z []))) e
    ∙ (append_queue x.tick x.back x.line more.rows x.rows
    ∙ ap (λ (q : Queue). queue x ++ q)
    (sym
    (ap (λ (z : Option OwedTick). tick_queue z (rest_of more)) t
    ∙ (ap (λ (z : Bool). back_queue z more.line (rows_queue more.line more.rows [])) b ∙ ap (λ (n : ℕ). rows_queue n more.rows []) l))))
