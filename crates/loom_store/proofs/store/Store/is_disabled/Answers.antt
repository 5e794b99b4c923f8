use Rattle.std.proofs.Common.{◌∙◌, sym}
use Rattle.loom_store.specs.contracts.store.Store.{the_view}
use Rattle.loom_store.proofs.Waits.{held, empty}
use Rattle.loom_store.proofs.store.Store.is_disabled.Goals as goal

pub returns-in-Lock-clause-disabled : goal.returns-in-Lock-clause-disabled
returns-in-Lock-clause-disabled c h =
    let told = held (the_view c.self.inside) c.args.self.now c.args.w c.in-Lock.m c.index.result.now c.self.view_is c.in-Lock.is c.requires.can c.index.ensures in
    told.0 (sym c.is_some.ensures ∙ h)

pub returns-in-Lock-clause-enabled : goal.returns-in-Lock-clause-enabled
returns-in-Lock-clause-enabled c h =
    let told = held (the_view c.self.inside) c.args.self.now c.args.w c.in-Lock.m c.index.result.now c.self.view_is c.in-Lock.is c.requires.can c.index.ensures in
    told.1 (sym c.is_some.ensures ∙ h)

pub returns-in-Down-clause-disabled : goal.returns-in-Down-clause-disabled
returns-in-Down-clause-disabled c =
    (empty (the_view c.self.inside) c.args.self.now c.args.w c.in-Down.s c.index-in-Down.result.now c.self.view_is c.in-Down.is c.requires.can c.index-in-Down.ensures).0

pub returns-in-Down-clause-enabled : goal.returns-in-Down-clause-enabled
returns-in-Down-clause-enabled c =
    (empty (the_view c.self.inside) c.args.self.now c.args.w c.in-Down.s c.index-in-Down.result.now c.self.view_is c.in-Down.is c.requires.can c.index-in-Down.ensures).1
