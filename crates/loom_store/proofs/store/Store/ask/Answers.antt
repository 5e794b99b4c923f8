use Rattle.std.proofs.Common.{ℕ, pos, List, Option, ◌≡◌, ◌∙◌, sym, subst}
use Rattle.std.specs.Vec.{with_items}
use Rattle.std.proofs.lemmas.List.{with_items_is}
use Rattle.loom_trace.specs.declared.request.Request.TheVariants as r
use Rattle.loom_event.specs.Replay.{Store}
use Rattle.loom_store.specs.declared.answer.Answer.TheVariants as a
use Rattle.loom_store.specs.Parts.{Locks, Downs}
use Rattle.loom_store.specs.contracts.store.Store.{the_view}
use Rattle.loom_store.proofs.PartAnswers.{answered, with_threads, begins, ends, locks, downs}
use Rattle.loom_store.proofs.store.Store.ask.Goals as goal

pub returns-in-Begin : goal.returns-in-Begin
returns-in-Begin c =
    let s : Store = the_view c.self.inside in
    answered s c.args.self.now c.args.t (r.Begin c.in-Begin.line) c.args.r.now (a.Granted (pos 0)) (with_threads s c.begin.new.self)
    c.self.view_is c.in-Begin.is c.requires.thread (λ may. begins s c.args.t c.in-Begin.line c.begin.new.self may c.begin.ensures)

pub returns-in-End : goal.returns-in-End
returns-in-End c =
    let s : Store = the_view c.self.inside in
    answered s c.args.self.now c.args.t (r.End c.in-End.line) c.args.r.now (a.Granted (pos 0)) (with_threads s c.end.new.self)
    c.self.view_is c.in-End.is c.requires.thread (λ may. ends s c.args.t c.in-End.line c.end.new.self may c.end.ensures)

pub returns-in-Lock : goal.returns-in-Lock
returns-in-Lock c =
    let s : Store = the_view c.self.inside in
    let new : List (Option ℕ) = (with_items c.self.inside.holders c.lock.new.holders).items in
    let same : new ≡ c.lock.new.holders = with_items_is c.self.inside.holders c.lock.new.holders (c.lock.auto.holders ∙ c.deref_mut-in-Lock.ensures.len) in
    let done : Locks s.holders c.in-Lock.m c.args.t c.lock.result new =
    subst (Locks s.holders c.in-Lock.m c.args.t c.lock.result) (sym same)
    (subst (λ (z : List (Option ℕ)). Locks z c.in-Lock.m c.args.t c.lock.result c.lock.new.holders) c.deref_mut-in-Lock.ensures.value c.lock.ensures) in
    answered s c.args.self.now c.args.t (r.Lock c.in-Lock.line c.in-Lock.m) c.args.r.now c.lock.result (record s { holders = new })
    c.self.view_is c.in-Lock.is c.requires.thread (λ may. locks s c.args.t c.in-Lock.line c.in-Lock.m c.lock.result new may done)

pub returns-in-Down : goal.returns-in-Down
returns-in-Down c =
    let s : Store = the_view c.self.inside in
    let new : List ℕ = (with_items c.self.inside.semas c.down.new.semas).items in
    let same : new ≡ c.down.new.semas = with_items_is c.self.inside.semas c.down.new.semas (c.down.auto.semas ∙ c.deref_mut-in-Down.ensures.len) in
    let done : Downs s.semas c.in-Down.s c.down.result new =
    subst (Downs s.semas c.in-Down.s c.down.result) (sym same)
    (subst (λ (z : List ℕ). Downs z c.in-Down.s c.down.result c.down.new.semas) c.deref_mut-in-Down.ensures.value c.down.ensures.downs) in
    answered s c.args.self.now c.args.t (r.Down c.in-Down.line c.in-Down.s) c.args.r.now c.down.result (record s { semas = new })
    c.self.view_is c.in-Down.is c.requires.thread (λ may. downs s c.args.t c.in-Down.line c.in-Down.s c.down.result new may done)
