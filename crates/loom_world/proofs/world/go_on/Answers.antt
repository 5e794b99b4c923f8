use Rattle.std.proofs.Common.{refl, sym, subst}
use Rattle.loom_law.specs.Control.{versions_of}
use Rattle.loom_strand.specs.Strand.{IsLaterThanLast}
use Rattle.loom_walk.specs.FilterWalk.{HasFilters}
use Rattle.loom_world.specs.Book.{Book}
use Rattle.loom_world.specs.Threads.{KeepsThreads}
use Rattle.loom_world.proofs.Commits.{strand_noted, others_noted}
use Rattle.loom_world.proofs.Later.{later_than_last}
use Rattle.loom_world.proofs.ThreadTurns.{ran_to_request, ran_to_place, found_free, waits_free, stays_found, ran_out}
use Rattle.loom_world.proofs.world.go_on.Goals as goal

pub run_private-requires-clause-version : goal.run_private-requires-clause-version
run_private-requires-clause-version c =
    let b = c.args.book.now in
    let s = c.wake.new.strand in
    record {
      filters = subst (λ cs. HasFilters s.program cs c.version.result.now) (sym c.wake.ensures.strand.part.filters)
          (subst (λ p. HasFilters p b.filters c.version.result.now) (sym c.wake.ensures.strand.part.program) c.version.ensures.filters);
      later = subst (λ vs. IsLaterThanLast vs c.version.result.now) (sym c.wake.ensures.strand.part.versions)
          (subst (λ v. IsLaterThanLast (versions_of b.commands c.args.t b.entries) v) (sym c.version.ensures.is) (later_than_last b c.version.ensures.lawful c.args.t c.requires.first c.requires.last));
    }

pub unreachable-requires : goal.unreachable-requires
unreachable-requires c =
    let e = c.in-Ended.ensures in
    ran_out c.args.book.now c.args.t c.args.birth c.requires.live c.wake.new.strand c.run_private.new.self c.wake.ensures.strand c.wake.ensures.started c.flags.result.now e.same e.wants

pub halt-requires-clause-flag : goal.halt-requires-clause-flag
halt-requires-clause-flag c =
    let e = c.in-Place.ensures in
    (ran_to_place c.args.book.now c.version.ensures.lawful c.args.t c.args.birth c.requires.first c.requires.last c.requires.live c.wake.new.strand c.run_private.new.self c.wake.ensures.strand
    c.wake.ensures.started c.version.result.now c.flags.result.now c.version.ensures.is c.flags.ensures e.same c.in-Place.place e.wants e.parks e.stays).at

pub halt-requires-clause-stays : goal.halt-requires-clause-stays
halt-requires-clause-stays c =
    let e = c.in-Place.ensures in
    stays_found c.args.book.now c.args.t c.wake.new.strand c.run_private.new.self c.wake.ensures.strand c.flags.result.now c.flags.ensures e.same c.version.result.now c.in-Place.place e.wants e.stays

pub halt-requires-clause-runs : goal.halt-requires-clause-runs
halt-requires-clause-runs c =
    let e = c.in-Place.ensures in
    (ran_to_place c.args.book.now c.version.ensures.lawful c.args.t c.args.birth c.requires.first c.requires.last c.requires.live c.wake.new.strand c.run_private.new.self c.wake.ensures.strand
    c.wake.ensures.started c.version.result.now c.flags.result.now c.version.ensures.is c.flags.ensures e.same c.in-Place.place e.wants e.parks e.stays).runs

pub halt-requires-clause-listed : goal.halt-requires-clause-listed
halt-requires-clause-listed c =
    let e = c.in-Place.ensures in
    (ran_to_place c.args.book.now c.version.ensures.lawful c.args.t c.args.birth c.requires.first c.requires.last c.requires.live c.wake.new.strand c.run_private.new.self c.wake.ensures.strand
    c.wake.ensures.started c.version.result.now c.flags.result.now c.version.ensures.is c.flags.ensures e.same c.in-Place.place e.wants e.parks e.stays).listed

pub commit-requires-clause-asks : goal.commit-requires-clause-asks
commit-requires-clause-asks c =
    let e = c.in-Ask.ensures in
    (ran_to_request c.args.book.now c.version.ensures.lawful c.args.t c.args.birth c.requires.first c.requires.last c.requires.live c.wake.new.strand c.run_private.new.self c.wake.ensures.strand
    c.wake.ensures.started c.version.result.now c.flags.result.now c.version.ensures.is c.flags.ensures e.same e.newest c.in-Ask.request e.wants e.parks e.stays).0

pub commit-requires-clause-strand : goal.commit-requires-clause-strand
commit-requires-clause-strand c =
    let e = c.in-Ask.ensures in
    (ran_to_request c.args.book.now c.version.ensures.lawful c.args.t c.args.birth c.requires.first c.requires.last c.requires.live c.wake.new.strand c.run_private.new.self c.wake.ensures.strand
    c.wake.ensures.started c.version.result.now c.flags.result.now c.version.ensures.is c.flags.ensures e.same e.newest c.in-Ask.request e.wants e.parks e.stays).1.0

pub commit-requires-clause-requests : goal.commit-requires-clause-requests
commit-requires-clause-requests c =
    let e = c.in-Ask.ensures in
    (ran_to_request c.args.book.now c.version.ensures.lawful c.args.t c.args.birth c.requires.first c.requires.last c.requires.live c.wake.new.strand c.run_private.new.self c.wake.ensures.strand
    c.wake.ensures.started c.version.result.now c.flags.result.now c.version.ensures.is c.flags.ensures e.same e.newest c.in-Ask.request e.wants e.parks e.stays).1.1

pub commit-requires-clause-unflagged : goal.commit-requires-clause-unflagged
commit-requires-clause-unflagged c =
    let e = c.in-Ask.ensures in
    found_free c.args.book.now c.args.t c.wake.new.strand c.run_private.new.self c.wake.ensures.strand c.flags.result.now c.flags.ensures e.same c.in-Ask.request e.heeds

pub commit-requires-clause-free : goal.commit-requires-clause-free
commit-requires-clause-free c =
    let e = c.in-Ask.ensures in
    waits_free c.args.book.now c.wake.new.strand c.run_private.new.self c.flags.result.now c.flags.ensures c.in-Ask.request e.heeds

pub returns-in-Place-clause-strand : goal.returns-in-Place-clause-strand
returns-in-Place-clause-strand c =
    let e = c.in-Place.ensures in
    let x = ran_to_place c.args.book.now c.version.ensures.lawful c.args.t c.args.birth c.requires.first c.requires.last c.requires.live c.wake.new.strand c.run_private.new.self c.wake.ensures.strand
    c.wake.ensures.started c.version.result.now c.flags.result.now c.version.ensures.is c.flags.ensures e.same c.in-Place.place e.wants e.parks e.stays in
    strand_noted c.args.book.now c.halt.new.book c.args.t c.in-Place.place c.run_private.new.self c.requires.first c.requires.last c.version.ensures.lawful c.halt.ensures.noted x.part x.waits

pub returns-in-Place-clause-threads : goal.returns-in-Place-clause-threads
returns-in-Place-clause-threads c =
    subst (λ (y : Book). KeepsThreads c.args.book.now.store y.store) (sym c.halt.ensures.noted) (λ u x there. (x, there, record { func = refl; args = refl }))

pub returns-in-Place-clause-others : goal.returns-in-Place-clause-others
returns-in-Place-clause-others c = others_noted c.args.book.now c.halt.new.book c.args.t c.in-Place.place c.halt.ensures.noted
