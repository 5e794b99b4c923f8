use Rattle.std.proofs.Common.{eq-eqb, ne_eqb, inl, arith, ◌∙◌, ap, sym, if◌then◌else◌, List, [], ◌∷◌, ◌++◌}
use Rattle.loom_gate.specs.declared.view.Stage.TheVariants.{Tries}
use Rattle.loom_gate.specs.declared.log.PassRow.{PassRow}
use Rattle.loom_gate.specs.declared.view.PassView.{PassView}
use Rattle.loom_gate.specs.View.{tried, checked, with_row}
use Rattle.loom_gate.specs.Record.{has_version}
use Rattle.loom_gate.specs.Seats.{view_of_pass}
use Rattle.loom_gate.proofs.GateSteps.{tries_at, checks_at, leaves_at, reads_at}
use Rattle.loom_gate.proofs.CallFacts.{after_pass, tried_place, checked_set, checked_clear, read_then, row_told}
use Rattle.loom_gate.proofs.pass.Pass.enter.Goals as goal

pub store-requires : goal.store-requires
store-requires c =
    let r = c.requires.gate in
    let s = c.args.gate.now.sized.0 in let a = r.1.1 in let e = c.from-own.ensures in
    (r.0, omega arith, tries_at _ _ _ _ _ _ _ (view_of_pass c.args.self.now) _ e r.2 c.requires.stands)

pub load-word-requires : goal.load-word-requires
load-word-requires c =
    let r = c.requires.gate in
    let s0 = c.args.gate.now.sized.0 in let s3 = c.args.gate.now.sized.3 in
    let i = c.index_of.ensures.index in let w = c.index_of.ensures.words in
    let e = c.store.ensures in
    let p = view_of_pass c.args.self.now in
    (e.0 ∙ r.0, omega arith, checks_at _ _ _ _ _ c.args.self.now.place _ (tried p) _ i (after_pass _ _ _ p tried r.2 e.2) (tried_place p c.args.self.now.place c.requires.stands) (omega arith))

pub store-requires-then-word-self-eq1 : goal.store-requires-then-word-self-eq1
store-requires-then-word-self-eq1 c =
    let r = c.requires.gate in
    let s0 = c.args.gate.now.sized.0 in let a = r.1.1 in let own = c.from-own.ensures in
    let e = c.store.ensures in let d = c.load-word.ensures in
    let p = view_of_pass c.args.self.now in
    let q = tried p in
    let f = c.from.ensures in
    let near = r.3 in let most = c.args.gate.now.small.3 in
    let at = checked_set c.index_of.result c.load-word.result c.args.self.now.place q (tried_place p c.args.self.now.place c.requires.stands) (eq-eqb _ _ c.if-word-self-eq1.true) in
    (d.0 ∙ (e.0 ∙ r.0), omega arith, leaves_at _ _ _ _ _ _ _ (checked c.index_of.result c.load-word.result q) _ own (after_pass _ _ _ q (checked c.index_of.result c.load-word.result) (after_pass _ _ _ p tried r.2 e.2) d.2.0) (omega arith) (inl (at ∙ ap Tries (sym f))))

pub load-version-requires : goal.load-version-requires
load-version-requires c =
    let r = c.requires.gate in
    let s0 = c.args.gate.now.sized.0 in
    let e = c.store.ensures in let d = c.load-word.ensures in
    let p = view_of_pass c.args.self.now in
    let q = tried p in
    let at = checked_clear c.index_of.result c.load-word.result c.args.self.now.place q (tried_place p c.args.self.now.place c.requires.stands) (ne_eqb _ _ c.if-word-self-eq1.false) in
    (d.0 ∙ (e.0 ∙ r.0), omega arith, reads_at _ _ _ _ _ c.args.self.now.place (checked c.index_of.result c.load-word.result q) _ (after_pass _ _ _ q (checked c.index_of.result c.load-word.result) (after_pass _ _ _ p tried r.2 e.2) d.2.0) at)

pub returns-else-word-self-eq1-clause-rows : goal.returns-else-word-self-eq1-clause-rows
returns-else-word-self-eq1-clause-rows c =
    let r = c.requires.gate in
    let e = c.store.ensures in let d = c.load-word.ensures in
    let p = view_of_pass c.args.self.now in
    let q : PassView = checked c.index_of.result c.load-word.result (tried p) in
    let view = after_pass _ _ _ (tried p) (checked c.index_of.result c.load-word.result) (after_pass _ _ _ p tried r.2 e.2) d.2.0 in
    let t = c.args.self.now.thread in let v = c.load-version.result in let place = c.args.self.now.place in
    c.note.ensures.rows
    ∙ ((λ j. with_row (r.4 j) t v place (r.5 j))
    ∙ (row_told t v place q (read_then t v q _ view c.load-version.ensures.2.1)
    ∙ ap (λ (rows : List PassRow). if has_version v rows then rows else rows ++ record { thread = t; version = v; place = place } ∷ []) (sym r.5)))
