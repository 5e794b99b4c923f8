use Rattle.std.proofs.Common.{ℕ, suc, ◌+◌, ◌≡◌, ◌++◌, List, length, rules, ap, sym, subst, ◌∙◌, arith}
use Rattle.std.specs.Prelude.{OnOk}
use Rattle.loom_tree.specs.declared.statement.Kind.{Kind}
use Rattle.loom_tree.specs.declared.statement.Stmt.{Stmt}
use Rattle.loom_tree.specs.declared.statement.Stmts.{Stmts, the_lemmas}
use Rattle.loom_tree.specs.Tree.{Body, end, behind, body_of, expression_of}
use Rattle.loom_flow.specs.FlatCode.{place_count}
use Rattle.loom_plan.specs.Table.{inner_places}
use Rattle.loom_sites.specs.declared.node.TableNode.TheVariants as n
use Rattle.loom_sites.specs.declared.links.PlaceLinks.{PlaceLinks}
use Rattle.loom_sites.specs.Links.{first_at, body_rows}
use Rattle.loom_sites.proofs.LinkSteps.{one_more, body_more, choice_rows, first_count, statement_more, body_step}
use Rattle.loom_sites.proofs.links.+tables.Goals as goal

pub put_choice-put_body-requires-2 : goal.put_choice-put_body-requires-2
put_choice-put_body-requires-2 t c =
    let one = one_more c.args.rows.now.items c.push.new.self.items _ c.in_ok-push.ensures.items in
    let more = body_more c.args.program.now c.args.owner _ (body_of c.args.a.now) _ c.push.new.self.items c.put_body.new.rows.items c.in_ok-put_body.ensures in
    let room = c.requires in
    (omega arith, omega arith)

pub put_choice-returns : goal.put_choice-returns
put_choice-returns t c l e =
    let a : Body = body_of c.args.a.now in
    let b : Body = body_of c.args.b.now in
    let xs : List PlaceLinks = c.args.rows.now.items in
    let own : c.len-own.result ≡ length c.args.rows.now.items = search rules in
    let next : c.len-own.result + 1 ≡ suc (length c.args.rows.now.items) = omega arith in
    let count = c.place_count.ensures in
    let more = c.place_count-2.ensures in
    let other : c.len-own.result + 1 + c.place_count.result ≡ suc (length c.args.rows.now.items) + place_count (body_of c.args.a.now) = omega arith in
    let last : c.len-own.result + 1 + c.place_count.result + c.place_count-2.result ≡ suc (length c.args.rows.now.items) + place_count (body_of c.args.a.now) + place_count (body_of c.args.b.now) = omega arith in
    choice_rows c.args.program.now c.args.owner l e a b c.args.next c.first_at.result c.first_at-2.result _ xs c.push.new.self.items c.put_body.new.rows.items c.put_body-2.new.rows.items
    (c.first_at.ensures ∙ (ap (λ (m : ℕ). first_at a m (n.Complete c.len-own.result)) next ∙ ap (λ (m : ℕ). first_at a (suc (length xs)) (n.Complete m)) own))
    (c.first_at-2.ensures ∙ (ap (λ (m : ℕ). first_at b m (n.Complete c.len-own.result)) other ∙ ap (λ (m : ℕ). first_at b (suc (length xs) + place_count a) (n.Complete m)) own))
    last c.in_ok-push.ensures.items
    (c.in_ok-put_body.ensures ∙ ap (λ (m : ℕ). c.push.new.self.items ++ body_rows c.args.program.now c.args.owner (length c.push.new.self.items) a (n.Complete m)) own)
    (c.in_ok-put_body-2.ensures ∙ ap (λ (m : ℕ). c.put_body.new.rows.items ++ body_rows c.args.program.now c.args.owner (length c.put_body.new.rows.items) b (n.Complete m)) own)

pub put_statement-returns-in-If : goal.put_statement-returns-in-If
put_statement-returns-in-If t c =
    let P : Kind → Type 0 = λ s. OnOk c.put_choice.result (c.put_choice.new.rows.items ≡ c.args.rows.now.items ++ body_rows c.args.program.now c.args.owner (length c.args.rows.now.items) (behind 0 s end) c.args.next) in
    subst P (sym c.in-If.is) (c.put_choice.ensures 0 (expression_of c.in-If.field-0))

pub put_statement-returns-in-While : goal.put_statement-returns-in-While
put_statement-returns-in-While t c =
    let P : Kind → Type 0 = λ s. OnOk c.put_loop.result (c.put_loop.new.rows.items ≡ c.args.rows.now.items ++ body_rows c.args.program.now c.args.owner (length c.args.rows.now.items) (behind 0 s end) c.args.next) in
    subst P (sym c.in-While.is) (c.put_loop.ensures 0 (expression_of c.in-While.field-0))

pub put_body-walk-preserved : goal.put_body-walk-preserved
put_body-walk-preserved t c =
    let s : Kind = c.deref-in-More.result.now.kind in
    let xs : List PlaceLinks = c.walk.rows.items in
    let i : ℕ = c.len.result + c.kind_count.result in
    let is : body_of c.walk.at.now ≡ behind c.deref-in-More.result.now.line c.deref-in-More.result.now.kind (body_of c.deref-at.result.now) = rw (c.deref-in-More.ensures, c.deref-at.ensures) (ap body_of c.in-More.is) in
    let long : c.len.result ≡ length c.walk.rows.items = search rules in
    let count : c.kind_count.result ≡ suc (length (inner_places c.deref-in-More.result.now.kind)) = c.kind_count.ensures ∙ ap (λ (z : Stmt). suc (length (inner_places z.kind))) (c.deref.ensures ∙ sym c.deref-in-More.ensures) in
    let many = first_count c.deref-in-More.result.now.line c.deref-in-More.result.now.kind (body_of c.deref-at.result.now) (body_of c.walk.at.now) is in
    let more = statement_more c.args.program.now c.args.owner (length c.walk.rows.items) c.deref-in-More.result.now.kind c.first_at.result c.walk.rows.items c.put_statement.new.rows.items c.in_ok-put_statement.ensures in
    let room = c.walk.invariant.room in
    record {
      within = search (rules, the_lemmas);
      room = omega arith;
      is = body_step c.args.program.now c.args.owner c.deref-in-More.result.now.line i s (body_of c.deref-at.result.now) (body_of c.walk.at.now) c.args.next c.first_at.result xs c.put_statement.new.rows.items is (omega arith)
          (c.first_at.ensures ∙ ap (λ (z : Stmts). first_at (body_of z) i c.args.next) (c.deref-in-More-2.ensures ∙ sym c.deref-at.ensures)) c.in_ok-put_statement.ensures ∙ c.walk.invariant.is;
    }
