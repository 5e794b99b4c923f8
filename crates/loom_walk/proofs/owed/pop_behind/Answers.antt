use Rattle.std.proofs.lemmas.Bool.{both_ways}
use Rattle.loom_walk.proofs.OwedQueues.{behind_past, behind_post, behind_leave, behind_nothing}
use Rattle.loom_walk.proofs.owed.pop_behind.Goals as goal

pub returns-then-not-is_empty : goal.returns-then-not-is_empty
returns-then-not-is_empty c = behind_past c.args.k c.args.behind.now _ (λ e. both_ways c.is_empty.result c.if-not-is_empty.true (c.is_empty.ensures.1 e)) c.none-behind.ensures

pub returns-in-Some : goal.returns-in-Some
returns-in-Some c = behind_post c.args.k c.args.behind.now _ _ (c.is_empty.ensures.0 c.if-not-is_empty.false) c.in-Some.ensures.taken

pub returns-in-Some-pop_first : goal.returns-in-Some-pop_first
returns-in-Some-pop_first c = behind_leave c.args.k c.args.behind.now _ _ _ (c.is_empty.ensures.0 c.if-not-is_empty.false) c.in-None.ensures.taken.0 c.in-None.ensures.taken.1 c.in-Some-pop_first.ensures.taken

pub returns-in-None-pop_first : goal.returns-in-None-pop_first
returns-in-None-pop_first c = behind_nothing c.args.k c.args.behind.now c.args.behind.now (c.is_empty.ensures.0 c.if-not-is_empty.false) c.in-None.ensures.taken.0 c.in-None-pop_first.ensures.taken.0
