use Rattle.std.proofs.Common.{ℕ, suc, ◌≡◌, Some, length, sym, ap, ◌∙◌, subst, arith}
use Rattle.std.specs.Prelude.{option_map, IfSome, IfNone}
use Rattle.loom_tree.specs.Tree.{Source}
use Rattle.loom_lang.specs.Places.{places, place_at, line_of_place}
use Rattle.loom_trace.specs.Limits.{thread_limit}
use Rattle.loom_world.specs.declared.found.Stall.{Stall}
use Rattle.loom_world.specs.Answers.{IsFoundStalled}
use Rattle.loom_world.specs.Book.{Book}
use Rattle.loom_world.specs.contracts.book.Book.{the_view}
use Rattle.loom_world.proofs.FoundThreads.{AreHalted, halted_line, halted_within, flagged_more, blocked_more_halted, stall_told, none_stalled}
use Rattle.loom_world.proofs.book.Book.stall.Goals as goal
use Rattle.loom_world.proofs.book.Book.stall.Goals.{in-Flagged, in-Blocked}

pub place_line-requires : goal.place_line-requires
place_line-requires c =
    let within = halted_within c.args.self.now c.args.k c.threads.t c.in-Blocked.place c.in-Blocked.ensures in
    let same : length (places c.args.self.now.program) ≡ length c.args.flow.now.sites =
    ap (λ (p : Source). length (places p)) (sym c.requires.program) ∙ (sym c.places.ensures.program ∙ c.places.ensures.places) in
    omega (arith, within, same)

pub threads-preserved : goal.threads-preserved
threads-preserved c = elim c.match-halt.branch [
  | in-Flagged w ↦ rw w.lowest-is (flagged_more c.args.self.now c.args.k c.threads.t c.threads.lowest c.threads.invariant w.in-Flagged.ensures)
  | in-Blocked w ↦ (
      let told = subst (λ (p : Source). option_map (line_of_place p) (place_at p w.in-Blocked.place) ≡ Some w.place_line.result) c.requires.program w.place_line.ensures in
      let here_ = halted_line c.args.self.now c.args.k c.threads.t w.in-Blocked.place w.place_line.result w.in-Blocked.ensures told in
      let x = w.in-Blocked.ensures in
      rw (w.lowest-is, w.first_stall-lowest.ensures) (blocked_more_halted c.args.self.now c.args.k c.threads.t w.place_line.result c.threads.lowest c.threads.invariant x.lives here_ x.blocked))
]

pub returns-clause-some : goal.returns-clause-some
returns-clause-some c =
    let end : c.threads.t ≡ suc thread_limit = omega (arith, c.threads.auto.t-end, c.threads-test.false) in
    let halted : AreHalted (the_view c.self.inside) c.args.k c.threads.t c.threads.lowest = subst (λ (z : Book). AreHalted z c.args.k c.threads.t c.threads.lowest) (sym c.self.view_is) c.threads.invariant in
    subst (λ (z : Book). IfSome c.threads.lowest (λ (x : Stall). IsFoundStalled z c.args.k x.thread x.line)) c.self.view_is
    (stall_told (the_view c.self.inside) _ c.self.invariant c.args.k c.threads.t c.threads.lowest end halted)

pub returns-clause-none : goal.returns-clause-none
returns-clause-none c =
    let end : c.threads.t ≡ suc thread_limit = omega (arith, c.threads.auto.t-end, c.threads-test.false) in
    let halted : AreHalted (the_view c.self.inside) c.args.k c.threads.t c.threads.lowest = subst (λ (z : Book). AreHalted z c.args.k c.threads.t c.threads.lowest) (sym c.self.view_is) c.threads.invariant in
    subst (λ (z : Book). IfNone c.threads.lowest ((t l : ℕ) → IsFoundStalled z c.args.k t l → ⊥)) c.self.view_is
    (none_stalled (the_view c.self.inside) _ c.self.invariant c.args.k c.threads.t c.threads.lowest end halted)
