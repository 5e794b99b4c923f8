use Rattle.std.proofs.Common.{suc, ◌≡◌, ◌∷◌, ◌++◌, [], length, rules, ap, ◌∙◌, arith, None}
use Rattle.loom_tree.specs.declared.statement.Stmts.{the_lemmas}
use Rattle.loom_tree.specs.Tree.{end, body_of, behind, expression_of}
use Rattle.loom_flow.specs.declared.expression.InstrSpot.{InstrSpot}
use Rattle.loom_flow.specs.declared.code.CodeStep.TheVariants as s
use Rattle.loom_flow.specs.declared.code.Control.TheVariants.{Edge}
use Rattle.loom_flow.specs.FlatCode.{flat_body, site, instr, operand_steps}
use Rattle.loom_flow.proofs.Bodies.{if_count, while_count, known_then, known_else, known_again, known_first, known_rest, counted_then, counted_else, counted_again, counted_first, counted_rest, count_first, some_first, sites_more, code_step, sites_step, if_sites, while_sites}
use Rattle.loom_flow.proofs.Jumps.{at_within, pushed, tested_long, aimed_long, if_code, while_code}
use Rattle.loom_flow.proofs.block.+blocks.Goals as goal

pub choice-body-requires : goal.choice-body-requires
choice-body-requires t c =
    let many = if_count c.args.spot.line (expression_of c.args.e.now) (body_of c.args.a.now) (body_of c.args.b.now) end in
    let sites = pushed c.args.sites.now.items c.put_site.new.sites.items (site c.args.spot.line None) c.in_ok-put_site.ensures in
    let room = c.requires.room in
    (omega arith, (known_then c.args.scope.now.program c.args.scope.now.locals c.args.spot.line (expression_of c.args.e.now) (body_of c.args.a.now) (body_of c.args.b.now) c.requires.known, (counted_then c.args.scope.now.program c.args.scope.now.locals c.args.spot.line (expression_of c.args.e.now) (body_of c.args.a.now) (body_of c.args.b.now) c.requires.counted, omega arith)))

pub choice-patch-requires : goal.choice-patch-requires
choice-patch-requires t c =
    at_within c.args.spot.line c.args.spot.place _ (operand_steps c.args.scope.now.program c.args.scope.now.locals (expression_of c.args.e.now)) _ _ _ _ _ _ _ c.in_ok-test.ensures.code c.in_ok-body.ensures.code c.in_ok-push-2.ensures c.in_ok-test.ensures.at

pub choice-body-requires-2 : goal.choice-body-requires-2
choice-body-requires-2 t c =
    let many = if_count c.args.spot.line (expression_of c.args.e.now) (body_of c.args.a.now) (body_of c.args.b.now) end in
    let sites = pushed c.args.sites.now.items c.put_site.new.sites.items (site c.args.spot.line None) c.in_ok-put_site.ensures in
    let more = sites_more c.args.scope.now.program c.args.scope.now.locals (body_of c.args.a.now) _ _ _ c.in_ok-body.ensures.sites in
    let room = c.requires.room in
    (omega arith, (known_else c.args.scope.now.program c.args.scope.now.locals c.args.spot.line (expression_of c.args.e.now) (body_of c.args.a.now) (body_of c.args.b.now) c.requires.known, (counted_else c.args.scope.now.program c.args.scope.now.locals c.args.spot.line (expression_of c.args.e.now) (body_of c.args.a.now) (body_of c.args.b.now) c.requires.counted, omega arith)))

pub choice-returns-clause-code : goal.choice-returns-clause-code
choice-returns-clause-code t c =
    let skip : c.len-skip.result ≡ length c.body.new.code.items = search rules in
    let first = pushed c.args.sites.now.items c.put_site.new.sites.items (site c.args.spot.line None) c.in_ok-put_site.ensures in
    let more = sites_more c.args.scope.now.program c.args.scope.now.locals (body_of c.args.a.now) _ _ _ c.in_ok-body.ensures.sites in
    let place = c.requires.place in
    if_code c.args.scope.now.program c.args.scope.now.locals c.args.spot.line c.args.spot.place (expression_of c.args.e.now) (body_of c.args.a.now) (body_of c.args.b.now) _ _ _ _ _ _ _ _ _ _ _ _ _ _ _ _
    c.in_ok-push.ensures c.in_ok-test.ensures.code c.in_ok-test.ensures.at c.in_ok-test.ensures.operand c.in_ok-body.ensures.code skip c.in_ok-push-2.ensures (c.in_ok-second.ensures ∙ ap length c.deref.ensures.value) c.patch.ensures
    c.in_ok-body-2.ensures.code (c.in_ok-done.ensures ∙ ap length c.deref-2.ensures.value) c.patch-2.ensures c.in_ok-push-3.ensures (omega arith) (omega arith)

pub choice-returns-clause-sites : goal.choice-returns-clause-sites
choice-returns-clause-sites t c =
    let tested = tested_long c.args.spot.line c.args.spot.place (operand_steps c.args.scope.now.program c.args.scope.now.locals (expression_of c.args.e.now)) _ _ _ _ c.in_ok-push.ensures c.in_ok-test.ensures.code in
    let aimed = aimed_long c.args.scope.now.program c.args.scope.now.locals (body_of c.args.a.now) _ _ _ _ _ _ _ _ _ c.in_ok-body.ensures.code c.in_ok-push-2.ensures c.patch.ensures in
    if_sites c.args.scope.now.program c.args.scope.now.locals c.args.spot.line (expression_of c.args.e.now) (body_of c.args.a.now) (body_of c.args.b.now) (length c.args.code.now.items) _ _ _ _ _ _
    c.in_ok-put_site.ensures c.in_ok-body.ensures.sites c.in_ok-body-2.ensures.sites tested (omega arith)

pub repeat-body-requires : goal.repeat-body-requires
repeat-body-requires t c =
    let many = while_count c.args.spot.line (expression_of c.args.e.now) (body_of c.args.a.now) end in
    let first = pushed c.args.sites.now.items c.put_site.new.sites.items (site c.args.spot.line None) c.in_ok-put_site.ensures in
    let second = pushed c.put_site.new.sites.items c.put_site-2.new.sites.items (site c.args.spot.line None) c.in_ok-put_site-2.ensures in
    let room = c.requires.room in
    (omega arith, (known_again c.args.scope.now.program c.args.scope.now.locals c.args.spot.line (expression_of c.args.e.now) (body_of c.args.a.now) c.requires.known, (counted_again c.args.scope.now.program c.args.scope.now.locals c.args.spot.line (expression_of c.args.e.now) (body_of c.args.a.now) c.requires.counted, omega arith)))

pub repeat-patch-requires : goal.repeat-patch-requires
repeat-patch-requires t c =
    at_within c.args.spot.line c.args.spot.place _ (operand_steps c.args.scope.now.program c.args.scope.now.locals (expression_of c.args.e.now)) _ _ _ _ _ _ _ c.in_ok-test.ensures.code c.in_ok-body.ensures.code c.in_ok-push-2.ensures c.in_ok-test.ensures.at

pub repeat-returns-clause-code : goal.repeat-returns-clause-code
repeat-returns-clause-code t c =
    let first = pushed c.args.sites.now.items c.put_site.new.sites.items (site c.args.spot.line None) c.in_ok-put_site.ensures in
    let second = pushed c.put_site.new.sites.items c.put_site-2.new.sites.items (site c.args.spot.line None) c.in_ok-put_site-2.ensures in
    let place = c.requires.place in
    let behind : length c.deref.result.now ≡ suc c.args.spot.place = ap length c.deref.ensures.value ∙ omega arith in
    let back : c.spot_of-back.result ≡ record { line = c.args.spot.line; place = suc c.args.spot.place } = c.spot_of-back.ensures ∙ ap (λ n. record { line = c.args.spot.line; place = n }) behind in
    while_code c.args.scope.now.program c.args.scope.now.locals c.args.spot.line c.args.spot.place (expression_of c.args.e.now) (body_of c.args.a.now) _ _ _ _ _ _ _ _ _ _ _ _
    c.in_ok-push.ensures (c.in_ok-head.ensures ∙ ap length c.deref-2.ensures.value) c.in_ok-test.ensures.code c.in_ok-test.ensures.at c.in_ok-test.ensures.operand c.in_ok-body.ensures.code
    (c.in_ok-push-2.ensures ∙ ap (λ (z : InstrSpot). c.body.new.code.items ++ instr z.line z.place (s.Control (Edge c.in_ok-head.head)) ∷ []) back) (c.in_ok-done.ensures ∙ ap length c.deref-3.ensures.value) c.patch.ensures c.in_ok-push-3.ensures (omega arith)

pub repeat-returns-clause-sites : goal.repeat-returns-clause-sites
repeat-returns-clause-sites t c =
    let tested = tested_long c.args.spot.line c.args.spot.place (operand_steps c.args.scope.now.program c.args.scope.now.locals (expression_of c.args.e.now)) _ _ _ _ c.in_ok-push.ensures c.in_ok-test.ensures.code in
    while_sites c.args.scope.now.program c.args.scope.now.locals c.args.spot.line (expression_of c.args.e.now) (body_of c.args.a.now) (length c.args.code.now.items) _ _ _ _ _
    c.in_ok-put_site.ensures c.in_ok-put_site-2.ensures c.in_ok-body.ensures.sites tested

pub statement-choice-requires : goal.statement-choice-requires
statement-choice-requires t c = (search (rules, the_lemmas), (rw c.in-If.is at c.requires.known, (rw c.in-If.is at c.requires.counted, (c.requires.place, rw c.in-If.is at c.requires.room))))

pub statement-repeat-requires : goal.statement-repeat-requires
statement-repeat-requires t c = (search (rules, the_lemmas), (rw c.in-While.is at c.requires.known, (rw c.in-While.is at c.requires.counted, (c.requires.place, rw c.in-While.is at c.requires.room))))

pub body-spot_of-spot-requires : goal.body-spot_of-spot-requires
body-spot_of-spot-requires t c =
    let is : body_of c.walk.at.now ≡ behind c.in-More.first.value.line c.in-More.first.value.kind (body_of c.in-More.rest.value) = ap body_of c.in-More.is in
    let many = count_first c.args.scope.now.program c.args.scope.now.locals c.in-More.first.value.line c.in-More.first.value.kind _ _ is in
    let some = some_first c.args.scope.now.program c.args.scope.now.locals c.in-More.first.value.line c.in-More.first.value.kind in
    let sites = ap length c.deref.ensures.value in
    let room = c.walk.invariant.room in
    omega arith

pub body-statement-requires : goal.body-statement-requires
body-statement-requires t c =
    let is : body_of c.walk.at.now ≡ behind c.spot_of-spot.result.line c.deref-in-More-2.result.now.kind (body_of c.in-More.rest.value) = rw (c.spot_of-spot.ensures, c.deref-in-More.ensures, c.deref-in-More-2.ensures) (ap body_of c.in-More.is) in
    let many = count_first c.args.scope.now.program c.args.scope.now.locals c.spot_of-spot.result.line c.deref-in-More-2.result.now.kind _ _ is in
    let place : c.spot_of-spot.result.place ≡ length c.walk.sites.items = ap (λ (z : InstrSpot). z.place) c.spot_of-spot.ensures ∙ ap length c.deref.ensures.value in
    let room = c.walk.invariant.room in
    (search (rules, the_lemmas), (known_first c.args.scope.now.program c.args.scope.now.locals _ _ _ _ is c.walk.invariant.known, (counted_first c.args.scope.now.program c.args.scope.now.locals _ _ _ _ is c.walk.invariant.counted, (place, omega arith))))

pub body-walk-preserved : goal.body-walk-preserved
body-walk-preserved t c =
    let is : body_of c.walk.at.now ≡ behind c.spot_of-spot.result.line c.deref-in-More-2.result.now.kind (body_of c.deref-at.result.now) = rw (c.spot_of-spot.ensures, c.deref-in-More.ensures, c.deref-in-More-2.ensures, c.deref-at.ensures) (ap body_of c.in-More.is) in
    let place : c.spot_of-spot.result.place ≡ length c.walk.sites.items = ap (λ (z : InstrSpot). z.place) c.spot_of-spot.ensures ∙ ap length c.deref.ensures.value in
    let many = count_first c.args.scope.now.program c.args.scope.now.locals c.spot_of-spot.result.line c.deref-in-More-2.result.now.kind _ _ is in
    let more = sites_more c.args.scope.now.program c.args.scope.now.locals (behind c.spot_of-spot.result.line c.deref-in-More-2.result.now.kind end) _ _ _ c.in_ok-statement.ensures.sites in
    let room = c.walk.invariant.room in
    record {
      within = search (rules, the_lemmas);
      known = known_rest c.args.scope.now.program c.args.scope.now.locals _ _ _ _ is c.walk.invariant.known;
      counted = counted_rest c.args.scope.now.program c.args.scope.now.locals _ _ _ _ is c.walk.invariant.counted;
      room = omega arith;
      code = code_step c.args.scope.now.program c.args.scope.now.locals c.spot_of-spot.result.line c.deref-in-More-2.result.now.kind _ _ _ _ _ _ is
          (c.in_ok-statement.ensures.code ∙ ap (λ n. c.walk.code.items ++ flat_body c.args.scope.now.program c.args.scope.now.locals (length c.walk.code.items) n (behind c.spot_of-spot.result.line c.deref-in-More-2.result.now.kind end)) place) c.in_ok-statement.ensures.sites ∙ c.walk.invariant.code;
      sites = sites_step c.args.scope.now.program c.args.scope.now.locals c.spot_of-spot.result.line c.spot_of-spot.result.place c.deref-in-More-2.result.now.kind _ _ _ _ _ _ is c.in_ok-statement.ensures.code c.in_ok-statement.ensures.sites ∙ c.walk.invariant.sites;
    }
