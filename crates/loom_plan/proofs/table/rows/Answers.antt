use Rattle.std.proofs.Common.{ℕ, ◌≡◌, List, [], ◌∷◌, None, ap, sym, subst, ◌∙◌}
use Rattle.loom_tree.specs.Tree.{Function, functions_of}
use Rattle.loom_lang.specs.Places.{places, places_from}
use Rattle.loom_law.specs.Filter.{Plan}
use Rattle.loom_plan.specs.declared.plan.WatchRow.{WatchRow}
use Rattle.loom_plan.specs.PlanView.{plan_of_rows}
use Rattle.loom_plan.specs.PlaceEvents.{names_from, place_names}
use Rattle.loom_plan.specs.Table.{AreSiteRows, sites_at, HaveFewLocals}
use Rattle.loom_plan.proofs.TableSteps.{few_locals, site_rows}
use Rattle.loom_plan.proofs.table.rows.Goals as goal

pub put_functions-requires-clause-locals : goal.put_functions-requires-clause-locals
put_functions-requires-clause-locals c =
    subst HaveFewLocals (sym (ap functions_of (c.deref.ensures.value ∙ c.behind-program.view_is) ∙ c.funcs.ensures.funcs)) (few_locals c.args.program.now c.args.program.now.funcs c.funcs.ensures.rules.functions)

pub returns : goal.returns
returns c =
    let f : Plan = plan_of_rows c.args.events.now [] in
    let rows : List WatchRow = c.put_functions.new.rows.items in
    let first : AreSiteRows f (c.new.result.items ∷ []) (None ∷ []) c.put_row.new.rows.items = c.in_ok-put_row.ensures [] [] (subst (λ (rs : List WatchRow). AreSiteRows f [] [] rs) (sym c.new-rows.ensures.items) tt) in
    let all : AreSiteRows f (c.new.result.items ∷ names_from (functions_of c.deref.result.now)) (None ∷ sites_at (places_from 0 (functions_of c.deref.result.now))) rows
    = c.in_ok-put_functions.ensures (c.new.result.items ∷ []) (None ∷ []) first in
    let same : functions_of c.deref.result.now ≡ c.args.program.now.funcs = ap functions_of (c.deref.ensures.value ∙ c.behind-program.view_is) ∙ c.funcs.ensures.funcs in
    site_rows f (place_names c.args.program.now) (places c.args.program.now) rows
    (subst (λ (xs : List (List ℕ)). AreSiteRows f (xs ∷ names_from c.args.program.now.funcs) (sites_at (places c.args.program.now)) rows) c.new.ensures.items
    (subst (λ (fs : List Function). AreSiteRows f (c.new.result.items ∷ names_from fs) (None ∷ sites_at (places_from 0 fs)) rows) same all))
