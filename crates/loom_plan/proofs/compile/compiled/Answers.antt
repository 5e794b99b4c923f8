use Rattle.std.proofs.Common.{◌≤◌, ◌≡◌, List, [], length, flat_map, ap, sym, subst, ◌∙◌}
use Rattle.std.specs.Arc.{arc_value}
use Rattle.loom_tree.specs.Tree.{Source}
use Rattle.loom_lang.specs.Places.{places}
use Rattle.loom_filter.specs.declared.filter.Clause.{Clause}
use Rattle.loom_filter.specs.View.{clauses_of}
use Rattle.loom_law.specs.Filter.{waits, posts, numbered_from, watches_of_clause}
use Rattle.loom_plan.specs.declared.plan.EventWatch.{EventWatch}
use Rattle.loom_plan.specs.declared.plan.Rule.{Rule}
use Rattle.loom_plan.specs.PlanView.{watches_of, rulings_of, plan_of_rows}
use Rattle.loom_plan.specs.PlaceEvents.{place_names, AreRows}
use Rattle.loom_plan.specs.PlanParts.{clause_regions}
use Rattle.loom_plan.proofs.FewParts.{few_rules, few_events, small_plan}
use Rattle.loom_plan.proofs.TableSteps.{rows_alike}
use Rattle.loom_plan.proofs.compile.compiled.Goals as goal

few_in : (rs ss : List Rule) → ss ≡ rs → length rs ≤ 8 → length ss ≤ 8
few_in rs ss e h = subst (λ (xs : List Rule). length xs ≤ 8) (sym e) h

few_of : (rs ss : List EventWatch) → ss ≡ rs → length rs ≤ 32 → length ss ≤ 32
few_of rs ss e h = subst (λ (xs : List EventWatch). length xs ≤ 32) (sym e) h

pub regions-requires : goal.regions-requires
regions-requires c =
    few_in c.in_ok-rules.rules.items c.deref.result.now c.deref.ensures.value
    (few_rules c.args.flow.now.program (clauses_of c.args.clauses.now) c.in_ok-rules.rules.items (c.in_ok-rules.ensures c.args.flow.now.program) c.requires.clauses)

events_are : (p q : Source) (es : List EventWatch) (cs : List Clause) → q ≡ p → watches_of es ≡ flat_map (watches_of_clause q) (clauses_of cs) → watches_of es ≡ flat_map (watches_of_clause p) (clauses_of cs)
events_are p q es cs e h = h ∙ ap (λ (r : Source). flat_map (watches_of_clause r) (clauses_of cs)) e

pub rows-requires : goal.rows-requires
rows-requires c =
    few_of c.in_ok-events.events.items c.deref-2.result.now c.deref-2.ensures.value
    (few_events c.args.flow.now.program (clauses_of c.args.clauses.now) c.in_ok-events.events.items
    (events_are c.args.flow.now.program c.program.result.now c.in_ok-events.events.items c.args.clauses.now c.program.ensures.program c.in_ok-events.ensures) c.requires.events)

pub new-requires : goal.new-requires
new-requires c =
    let es : List EventWatch = c.in_ok-events.events.items in
    let rs : List Rule = c.in_ok-rules.rules.items in
    let p : Source = arc_value c.in_ok-program.program in
    record {
      small = small_plan c.args.flow.now.program (clauses_of c.args.clauses.now) es rs
          (events_are c.args.flow.now.program c.program.result.now es c.args.clauses.now c.program.ensures.program c.in_ok-events.ensures) (c.in_ok-rules.ensures c.args.flow.now.program) c.requires;
      waits = λ n low high. c.waiting-waiting.ensures n low high ∙ ap (λ (xs : List Rule). waits (record { watches = []; rulings = rulings_of xs }) n) c.deref-3.ensures.value;
      posts = λ n low high. c.posting-posting.ensures n low high ∙ ap (λ (xs : List Rule). posts (record { watches = []; rulings = rulings_of xs }) n) c.deref-4.ensures.value;
      regions = c.in_ok-regions.ensures ∙ ap (λ (xs : List Rule). flat_map clause_regions (numbered_from 1 (rulings_of xs))) c.deref.ensures.value;
      rows = rows_alike (watches_of es) [] (rulings_of rs) (place_names p) (places p) c.in_ok-rows.rows.items
          (subst (λ (q : Source). AreRows (plan_of_rows es []) (place_names q) (places q) c.in_ok-rows.rows.items) (c.program-2.ensures.program ∙ sym c.in_ok-program.ensures.program)
          (subst (λ (xs : List EventWatch). AreRows (plan_of_rows xs []) (place_names c.program-2.result.now) (places c.program-2.result.now) c.in_ok-rows.rows.items) c.deref-2.ensures.value c.in_ok-rows.ensures));
    }
