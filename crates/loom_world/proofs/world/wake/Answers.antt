use Rattle.std.proofs.Common.{Some, ap, ◌∙◌}
use Rattle.loom_world.proofs.ThreadTurns.{started_so}
use Rattle.loom_world.proofs.world.wake.Goals as goal

pub returns-then-not-is_started-clause-strand : goal.returns-then-not-is_started-clause-strand
returns-then-not-is_started-clause-strand c =
    let s = c.start.ensures in
    started_so c.args.book.now c.args.t c.args.birth c.requires.live c.args.strand.now c.start.new.self c.requires.strand (c.is_started.ensures.unborn c.if-not-is_started.true)
    (record {
      program = s.program;
      filters = s.filters;
      thread = s.thread;
      limit = s.limit;
      birth = s.birth ∙ ap (λ vs. Some (record { func = c.args.birth.func; args = vs })) c.as_slice.ensures.items;
      versions = s.versions;
      entries = s.entries;
    })
