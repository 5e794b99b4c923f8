use Rattle.std.proofs.lemmas.Bool.{both_ways}
use Rattle.loom_walk.proofs.OwedQueues.{before_wait, before_enter, before_at, before_nothing}
use Rattle.loom_walk.proofs.owed.pop_before.Goals as goal

pub returns-in-Some : goal.returns-in-Some
returns-in-Some c = before_wait c.args.k c.args.before.now _ _ c.in-Some.ensures.taken

pub returns-in-Some-pop_first : goal.returns-in-Some-pop_first
returns-in-Some-pop_first c = before_enter c.args.k c.args.before.now _ _ _ c.in-None.ensures.taken.0 c.in-None.ensures.taken.1 c.in-Some-pop_first.ensures.taken

pub returns-then-is_empty : goal.returns-then-is_empty
returns-then-is_empty c =
    before_nothing c.args.k c.args.before.now _ _ c.in-None.ensures.taken.0 c.in-None.ensures.taken.1 c.in-None-pop_first.ensures.taken.0 c.in-None-pop_first.ensures.taken.1 (c.is_empty.ensures.0 c.if-is_empty.true)

pub returns-else-is_empty : goal.returns-else-is_empty
returns-else-is_empty c =
    before_at c.args.k c.args.before.now _ _ _ c.in-None.ensures.taken.0 c.in-None.ensures.taken.1 c.in-None-pop_first.ensures.taken.0 c.in-None-pop_first.ensures.taken.1
    (λ e. both_ways c.is_empty.result c.if-is_empty.false (c.is_empty.ensures.1 e)) c.none-before.ensures
