use Rattle.std.proofs.Common.{◌≡◌, sym, subst}
use Rattle.loom_trace.specs.declared.entry.What.{What}
use Rattle.loom_trace.specs.declared.entry.What.TheVariants as w
use Rattle.loom_event.specs.Replay.{IsDisabled}
use Rattle.loom_law.specs.Control.{Control}
use Rattle.loom_law.specs.Lawful.{IsDisabledFor}
use Rattle.loom_world.specs.Book.{Book, setting, front}
use Rattle.loom_world.proofs.book.Book.is_disabled.Goals as goal

pub returns-in-Enter-clause-disabled : goal.returns-in-Enter-clause-disabled
returns-in-Enter-clause-disabled c h =
    let b : Book = c.args.self.now in
    let holders : Control.holders (front b).control ≡ c.self.inside.ops.holders =
    subst (λ (z : Book). Control.holders (front z).control ≡ c.self.inside.ops.holders) c.self.view_is (sym c.self.invariant.version.ops.holders) in
    subst (λ (x : What). IsDisabledFor (setting b) (front b) c.args.t x) (sym c.in-Enter.is) (c.is_disabled.ensures.disabled (setting b) (front b) holders h)

pub returns-in-Enter-clause-enabled : goal.returns-in-Enter-clause-enabled
returns-in-Enter-clause-enabled c h disabled =
    let b : Book = c.args.self.now in
    let holders : Control.holders (front b).control ≡ c.self.inside.ops.holders =
    subst (λ (z : Book). Control.holders (front z).control ≡ c.self.inside.ops.holders) c.self.view_is (sym c.self.invariant.version.ops.holders) in
    c.is_disabled.ensures.enabled (setting b) (front b) holders h (subst (λ (x : What). IsDisabledFor (setting b) (front b) c.args.t x) c.in-Enter.is disabled)

pub returns-in-Lock-clause-disabled : goal.returns-in-Lock-clause-disabled
returns-in-Lock-clause-disabled c h =
    let b : Book = c.args.self.now in
    subst (λ (x : What). IsDisabledFor (setting b) (front b) c.args.t x) (sym c.in-Lock.is)
    (subst (λ (z : Book). IsDisabled z.store (w.Lock c.in-Lock.m)) c.self.view_is (c.is_disabled-in-Lock.ensures.disabled h))
