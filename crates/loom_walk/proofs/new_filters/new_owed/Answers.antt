use Rattle.std.proofs.Common.{◌≡◌, true, false, List, [], sym, ap, subst, ◌∙◌}
use Rattle.loom_version.specs.Plans.{plans_in}
use Rattle.loom_walk.specs.declared.owed.OwedRow.{OwedRow}
use Rattle.loom_walk.specs.Owed.{Owed, rows_queue}
use Rattle.loom_walk.specs.Growth.{GrowsByAll}
use Rattle.loom_walk.proofs.GrowthSteps.{nothing_on, from_nothing, rows_none}
use Rattle.loom_walk.proofs.NewFilters.{fresh_begun, fresh_nothing}
use Rattle.loom_walk.proofs.new_filters.new_owed.Goals as goal

pub add_all_before-requires-clause-nothing : goal.add_all_before-requires-clause-nothing
add_all_before-requires-clause-nothing c = rows_none c.line.result c.on-new.result c.on-new.ensures

pub add_all_before-requires-clause-there : goal.add_all_before-requires-clause-there
add_all_before-requires-clause-there c k own = c.requires.there k c.in-Some.place own (sym c.in-Some.ensures)

pub returns-then-is_nothing : goal.returns-then-is_nothing
returns-then-is_nothing c =
    let new : c.on-new.result ≡ nothing_on c.args.owed.now.line = c.on-new.ensures ∙ ap nothing_on c.line.ensures in
    record {
      grows = from_nothing c.args.ks.now c.args.owed.now.line c.on-new.result new;
      nothing = λ e. rows_none c.args.owed.now.line c.on-new.result new;
      queue = λ p here hs some all spot own line held free. absurd (some (c.is_nothing.ensures.0 c.if-is_nothing.true));
    }

pub returns-in-None : goal.returns-in-None
returns-in-None c =
    let new : c.on-new.result ≡ nothing_on c.args.owed.now.line = c.on-new.ensures ∙ ap nothing_on c.line.ensures in
    record {
      grows = from_nothing c.args.ks.now c.args.owed.now.line c.on-new.result new;
      nothing = λ e. rows_none c.args.owed.now.line c.on-new.result new;
      queue = λ p here hs some all spot own line held free.
          ap (λ (rs : List OwedRow). rows_queue c.args.owed.now.line rs []) (rows_none c.args.owed.now.line c.on-new.result new)
          ∙ fresh_nothing p (plans_in c.args.plans.now) c.args.spot here c.args.ks.now (sym c.in-None.ensures) spot;
    }

pub returns-in-Some : goal.returns-in-Some
returns-in-Some c =
    let new : c.on-new.result ≡ nothing_on c.args.owed.now.line = c.on-new.ensures ∙ ap nothing_on c.line.ensures in
    record {
      grows = subst (λ (a : Owed). GrowsByAll c.args.ks.now a c.add_all_before.new.owed) new c.add_all_before.ensures.grows;
      nothing = λ e. absurd (let no : false ≡ true = sym c.if-is_nothing.false ∙ c.is_nothing.ensures.1 e in cc);
      queue = λ p here hs some all spot own line held free.
          fresh_begun p (plans_in c.args.plans.now) c.args.spot here c.args.locals.now hs c.args.ks.now c.args.owed.now.line c.in-Some.place (rows_queue c.args.owed.now.line c.add_all_before.new.owed.rows [])
          (sym c.in-Some.ensures) spot own line free (λ x site there at_site. c.add_all_before.ensures.queue p x site hs c.args.owed.now.line all there at_site held);
    }
