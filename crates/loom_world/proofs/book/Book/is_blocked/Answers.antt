use Rattle.std.proofs.Common.{sym, subst}
use Rattle.loom_law.specs.Lawful.{IsBlocked, IsDisabledFor}
use Rattle.loom_world.specs.Book.{Book, setting, front}
use Rattle.loom_world.specs.BookInvariant.{CanAwait}
use Rattle.loom_world.specs.contracts.book.Book.{the_view}
use Rattle.loom_world.proofs.InvariantReadings.{note_can, is_blocked_at, is_free_at, is_free_without}
use Rattle.loom_world.proofs.book.Book.is_blocked.Goals as goal

pub is_disabled-requires : goal.is_disabled-requires
is_disabled-requires c =
    subst (λ (b : Book). CanAwait b.store c.in-Some.what) c.self.view_is
    (note_can (the_view c.self.inside) _ c.self.invariant c.args.t c.index.result.now c.in-Some.what c.requires.first c.requires.last c.index.ensures c.in-Some.is)

pub returns-in-Some-clause-blocked : goal.returns-in-Some-clause-blocked
returns-in-Some-clause-blocked c h =
    let b : Book = the_view c.self.inside in
    let disabled : IsDisabledFor (setting b) (front b) c.args.t c.in-Some.what = subst (λ (z : Book). IsDisabledFor (setting z) (front z) c.args.t c.in-Some.what) (sym c.self.view_is) (c.is_disabled.ensures.disabled h) in
    subst (λ (z : Book). IsBlocked (setting z) (front z) c.args.t) c.self.view_is
    (is_blocked_at b _ c.self.invariant c.args.t c.index.result.now c.in-Some.what c.requires.first c.requires.last c.index.ensures c.in-Some.is disabled)

pub returns-in-Some-clause-free : goal.returns-in-Some-clause-free
returns-in-Some-clause-free c h blocked =
    let b : Book = the_view c.self.inside in
    is_free_at b _ c.self.invariant c.args.t c.index.result.now c.in-Some.what c.requires.first c.requires.last c.index.ensures c.in-Some.is
    (λ d. c.is_disabled.ensures.enabled h (subst (λ (z : Book). IsDisabledFor (setting z) (front z) c.args.t c.in-Some.what) c.self.view_is d))
    (subst (λ (z : Book). IsBlocked (setting z) (front z) c.args.t) (sym c.self.view_is) blocked)

pub returns-in-None-clause-free : goal.returns-in-None-clause-free
returns-in-None-clause-free c h blocked =
    is_free_without (the_view c.self.inside) _ c.self.invariant c.args.t c.index.result.now c.requires.first c.requires.last c.index.ensures c.in-None.is
    (subst (λ (b : Book). IsBlocked (setting b) (front b) c.args.t) (sym c.self.view_is) blocked)
