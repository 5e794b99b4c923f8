use Rattle.std.proofs.Common.{◌≡◌, rules, ap, ◌∙◌}
use Rattle.loom_tree.specs.declared.statement.Stmts.{the_lemmas}
use Rattle.loom_tree.specs.Tree.{body_of, behind}
use Rattle.loom_flow.proofs.Bodies.{counted_alone, counted_rest}
use Rattle.loom_flow.proofs.CallSets.{calls_step}
use Rattle.loom_flow.proofs.calls.+calls.Goals as goal

pub with_body-with_statement-all-requires : goal.with_body-with_statement-all-requires
with_body-with_statement-all-requires t c =
    let is : body_of c.walk.at.now ≡ behind c.deref.result.now.line c.deref.result.now.kind (body_of c.in-More.rest.value) = rw c.deref.ensures (ap body_of c.in-More.is) in
    (search (rules, the_lemmas), counted_alone c.args.scope.now.program c.args.scope.now.locals _ _ _ _ is c.walk.invariant.counted)

pub with_body-walk-preserved : goal.with_body-walk-preserved
with_body-walk-preserved t c =
    let is : body_of c.walk.at.now ≡ behind c.deref.result.now.line c.deref.result.now.kind (body_of c.deref-at.result.now) = rw (c.deref.ensures, c.deref-at.ensures) (ap body_of c.in-More.is) in
    record {
      within = search (rules, the_lemmas);
      counted = counted_rest c.args.scope.now.program c.args.scope.now.locals _ _ _ _ is c.walk.invariant.counted;
      all = calls_step c.args.scope.now.program c.deref.result.now.line c.deref.result.now.kind _ _ _ _ is c.with_statement-all.ensures ∙ c.walk.invariant.all;
    }
