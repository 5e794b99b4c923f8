use Rattle.std.proofs.Common.{◌≡◌, true, List, sym, ap, ◌∙◌, subst}
use Rattle.loom_trace.specs.declared.entry.What.{What}
use Rattle.loom_trace.specs.declared.entry.What.TheVariants as w
use Rattle.loom_law.specs.Filter.{Plan, before_in}
use Rattle.loom_law.specs.Control.{Holder}
use Rattle.loom_law.specs.Lawful.{plans, IsDisabledFor, IsHeldByOther, Lacks}
use Rattle.loom_ops.specs.declared.rows.HolderRow.{HolderRow}
use Rattle.loom_ops.specs.Ops.{Ops, is_holder, posts_at}
use Rattle.loom_ops.specs.Rows.{holders_of_rows, first_holder, is_other}
use Rattle.loom_ops.specs.Answer.{AnswersWait}
use Rattle.loom_ops.specs.Laws.{IsToldOf}
use Rattle.loom_ops.proofs.Holders.{holder_told, other_holds, no_other_holds}
use Rattle.loom_ops.proofs.Waits.{lacks, lacks_nothing}
use Rattle.loom_ops.proofs.ops.Ops.is_disabled.Goals as goal

pub returns-in-Enter-clause-disabled : goal.returns-in-Enter-clause-disabled
returns-in-Enter-clause-disabled c s f same told =
    let hs : List Holder = holders_of_rows c.self.inside.holders.items in
    let are : hs ≡ f.control.holders = ap (λ (o : Ops). o.holders) c.self.view_is ∙ sym (subst (λ (z : What). IsToldOf s f c.args.self.now z) c.in-Enter.is same) in
    let is : c.has_other_holder.result ≡ is_other c.args.t (first_holder hs c.in-Enter.k c.in-Enter.clause)
    = c.has_other_holder.ensures ∙ ap (λ (z : List HolderRow). is_other c.args.t (first_holder (holders_of_rows z) c.in-Enter.k c.in-Enter.clause)) c.as_slice.ensures.value in
    let found = other_holds (first_holder hs c.in-Enter.k c.in-Enter.clause) (is_holder hs c.in-Enter.k c.in-Enter.clause) c.args.t
    (λ u. holder_told hs c.in-Enter.k c.in-Enter.clause u c.self.invariant.one) (sym is ∙ told) in
    let by : IsHeldByOther f c.in-Enter.k c.in-Enter.clause c.args.t = record {
      by = found.0;
      other = found.1.0;
      holds = subst (λ (z : List Holder). is_holder z c.in-Enter.k c.in-Enter.clause found.0 ≡ true) are found.1.1;
    } in
    subst (λ (z : What). IsDisabledFor s f c.args.t z) (sym c.in-Enter.is) by

pub returns-in-Enter-clause-enabled : goal.returns-in-Enter-clause-enabled
returns-in-Enter-clause-enabled c s f same told disabled =
    let hs : List Holder = holders_of_rows c.self.inside.holders.items in
    let are : hs ≡ f.control.holders = ap (λ (o : Ops). o.holders) c.self.view_is ∙ sym (subst (λ (z : What). IsToldOf s f c.args.self.now z) c.in-Enter.is same) in
    let is : c.has_other_holder.result ≡ is_other c.args.t (first_holder hs c.in-Enter.k c.in-Enter.clause)
    = c.has_other_holder.ensures ∙ ap (λ (z : List HolderRow). is_other c.args.t (first_holder (holders_of_rows z) c.in-Enter.k c.in-Enter.clause)) c.as_slice.ensures.value in
    let by : IsHeldByOther f c.in-Enter.k c.in-Enter.clause c.args.t = subst (λ (z : What). IsDisabledFor s f c.args.t z) c.in-Enter.is disabled in
    no_other_holds (first_holder hs c.in-Enter.k c.in-Enter.clause) (is_holder hs c.in-Enter.k c.in-Enter.clause) c.args.t by.by
    (λ u. holder_told hs c.in-Enter.k c.in-Enter.clause u c.self.invariant.one) (sym is ∙ told) by.other
    (subst (λ (z : List Holder). is_holder z c.in-Enter.k c.in-Enter.clause by.by ≡ true) (sym are) by.holds)

pub returns-in-Wait-clause-disabled : goal.returns-in-Wait-clause-disabled
returns-in-Wait-clause-disabled c s f same told =
    let from : IsToldOf s f c.args.self.now (w.Wait c.in-Wait.k c.in-Wait.event) = subst (λ (z : What). IsToldOf s f c.args.self.now z) c.in-Wait.is same in
    let less : Lacks f c.in-Wait.k (before_in c.in-Wait.event (Plan.rulings (plans s c.in-Wait.k)))
    = lacks f c.in-Wait.k (before_in c.in-Wait.event (Plan.rulings (plans s c.in-Wait.k))) (posts_at c.args.self.now.posts c.in-Wait.k) c.wait.result from.1
    (subst (λ z. AnswersWait z (posts_at c.args.self.now.posts c.in-Wait.k) c.wait.result) from.0 c.wait.ensures) (sym c.is_short.ensures ∙ told) in
    subst (λ (z : What). IsDisabledFor s f c.args.t z) (sym c.in-Wait.is) less

pub returns-in-Wait-clause-enabled : goal.returns-in-Wait-clause-enabled
returns-in-Wait-clause-enabled c s f same told disabled =
    let from : IsToldOf s f c.args.self.now (w.Wait c.in-Wait.k c.in-Wait.event) = subst (λ (z : What). IsToldOf s f c.args.self.now z) c.in-Wait.is same in
    let less : Lacks f c.in-Wait.k (before_in c.in-Wait.event (Plan.rulings (plans s c.in-Wait.k)))
    = subst (λ (z : What). IsDisabledFor s f c.args.t z) c.in-Wait.is disabled in
    lacks_nothing f c.in-Wait.k (before_in c.in-Wait.event (Plan.rulings (plans s c.in-Wait.k))) (posts_at c.args.self.now.posts c.in-Wait.k) c.wait.result from.1
    (subst (λ z. AnswersWait z (posts_at c.args.self.now.posts c.in-Wait.k) c.wait.result) from.0 c.wait.ensures) (sym c.is_short.ensures ∙ told) less
