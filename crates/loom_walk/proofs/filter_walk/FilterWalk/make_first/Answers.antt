use Rattle.std.proofs.Common.{◌≡◌, Some, sym, ap, subst, ◌∙◌}
use Rattle.loom_law.specs.Walk.{Queue, Operation, Owes, after_operation}
use Rattle.loom_version.specs.Plans.{plans_in}
use Rattle.loom_walk.specs.declared.owed.OwedOperation.{OwedOperation}
use Rattle.loom_walk.specs.Owed.{queue, operation_of}
use Rattle.loom_walk.specs.FilterWalk.{IsAt, IsFirstOperation, IsOnlyMade}
use Rattle.loom_walk.proofs.OwnOperations.{same_first}
use Rattle.loom_walk.proofs.filter_walk.FilterWalk.make_first.Goals as goal

pub make_enter-requires : goal.make_enter-requires
make_enter-requires c = record { first = subst (λ (x : OwedOperation). IsFirstOperation (queue c.args.self.now.owed) (Some x)) c.in-Enter.is c.requires.first }

pub make_at-requires-clause-first : goal.make_at-requires-clause-first
make_at-requires-clause-first c = subst (λ (x : OwedOperation). IsFirstOperation (queue c.args.self.now.owed) (Some x)) c.in-At.is c.requires.first

pub make_past-requires-clause-first : goal.make_past-requires-clause-first
make_past-requires-clause-first c = subst (λ (x : OwedOperation). IsFirstOperation (queue c.args.self.now.owed) (Some x)) c.in-Past.is c.requires.first

pub returns-in-Tick-clause-at : goal.returns-in-Tick-clause-at
returns-in-Tick-clause-at c p z l x owes h =
    let own : operation_of c.args.operation ≡ x = same_first (queue c.args.self.now.owed) l x c.args.operation (subst (λ (q : Queue). Owes q l x) h.owed owes) c.requires.first in
    let is = ap operation_of (sym c.in-Tick.is) ∙ own in
    c.make_only.ensures.at p (plans_in c.args.plans.now) z l x (subst IsOnlyMade is tt) owes h

pub returns-in-Back-clause-at : goal.returns-in-Back-clause-at
returns-in-Back-clause-at c p z l x owes h =
    let own : operation_of c.args.operation ≡ x = same_first (queue c.args.self.now.owed) l x c.args.operation (subst (λ (q : Queue). Owes q l x) h.owed owes) c.requires.first in
    let is = ap operation_of (sym c.in-Back.is) ∙ own in
    c.make_only-in-Back.ensures.at p (plans_in c.args.plans.now) z l x (subst IsOnlyMade is tt) owes h

pub returns-in-Wait-clause-at : goal.returns-in-Wait-clause-at
returns-in-Wait-clause-at c p z l x owes h =
    let own : operation_of c.args.operation ≡ x = same_first (queue c.args.self.now.owed) l x c.args.operation (subst (λ (q : Queue). Owes q l x) h.owed owes) c.requires.first in
    let is = ap operation_of (sym c.in-Wait.is) ∙ own in
    c.make_only-in-Wait.ensures.at p (plans_in c.args.plans.now) z l x (subst IsOnlyMade is tt) owes h

pub returns-in-Enter-clause-at : goal.returns-in-Enter-clause-at
returns-in-Enter-clause-at c p z l x owes h =
    let own : operation_of c.args.operation ≡ x = same_first (queue c.args.self.now.owed) l x c.args.operation (subst (λ (q : Queue). Owes q l x) h.owed owes) c.requires.first in
    let is = ap operation_of (sym c.in-Enter.is) ∙ own in
    subst (λ (y : Operation). IsAt p (plans_in c.args.plans.now) c.make_enter.new.self (after_operation p (plans_in c.args.plans.now) z y)) is
    (c.make_enter.ensures.at p (plans_in c.args.plans.now) z l (subst (λ (y : Operation). Owes z.owed l y) (sym is) owes) h)

pub returns-in-At-clause-at : goal.returns-in-At-clause-at
returns-in-At-clause-at c p z l x owes h =
    let own : operation_of c.args.operation ≡ x = same_first (queue c.args.self.now.owed) l x c.args.operation (subst (λ (q : Queue). Owes q l x) h.owed owes) c.requires.first in
    let is = ap operation_of (sym c.in-At.is) ∙ own in
    subst (λ (y : Operation). IsAt p (plans_in c.args.plans.now) c.make_at.new.self (after_operation p (plans_in c.args.plans.now) z y)) is
    (c.make_at.ensures.at p z l (subst (λ (y : Operation). Owes z.owed l y) (sym is) owes) h)

pub returns-in-Past-clause-at : goal.returns-in-Past-clause-at
returns-in-Past-clause-at c p z l x owes h =
    let own : operation_of c.args.operation ≡ x = same_first (queue c.args.self.now.owed) l x c.args.operation (subst (λ (q : Queue). Owes q l x) h.owed owes) c.requires.first in
    let is = ap operation_of (sym c.in-Past.is) ∙ own in
    subst (λ (y : Operation). IsAt p (plans_in c.args.plans.now) c.make_past.new.self (after_operation p (plans_in c.args.plans.now) z y)) is
    (c.make_past.ensures.at p z l (subst (λ (y : Operation). Owes z.owed l y) (sym is) owes) h)

pub returns-in-Post-clause-at : goal.returns-in-Post-clause-at
returns-in-Post-clause-at c p z l x owes h =
    let own : operation_of c.args.operation ≡ x = same_first (queue c.args.self.now.owed) l x c.args.operation (subst (λ (q : Queue). Owes q l x) h.owed owes) c.requires.first in
    let is = ap operation_of (sym c.in-Post.is) ∙ own in
    c.make_only-in-Post.ensures.at p (plans_in c.args.plans.now) z l x (subst IsOnlyMade is tt) owes h

pub returns-in-Leave-clause-at : goal.returns-in-Leave-clause-at
returns-in-Leave-clause-at c p z l x owes h =
    let own : operation_of c.args.operation ≡ x = same_first (queue c.args.self.now.owed) l x c.args.operation (subst (λ (q : Queue). Owes q l x) h.owed owes) c.requires.first in
    let is = ap operation_of (sym c.in-Leave.is) ∙ own in
    subst (λ (y : Operation). IsAt p (plans_in c.args.plans.now) c.make_leave.new.self (after_operation p (plans_in c.args.plans.now) z y)) is
    (c.make_leave.ensures.at p (plans_in c.args.plans.now) z l (subst (λ (y : Operation). Owes z.owed l y) (sym is) owes) h)
