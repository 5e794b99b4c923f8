use Rattle.std.proofs.Common.{◌≡◌, true, false, not, Option, Some, None, refl, sym, ap, ◌∙◌, subst}
use Rattle.loom_lang.specs.Places.{nowhere}
use Rattle.loom_event.specs.Answer.{IsFunctionWith}
use Rattle.loom_event.specs.Replay.{ThreadState, thread_at}
use Rattle.loom_law.specs.Control.{entries_of}
use Rattle.loom_law.specs.Lawful.{running_thread}
use Rattle.loom_strand.specs.Life.{has_none, has_ended}
use Rattle.loom_store.specs.Threads.{state_of}
use Rattle.loom_world.specs.Book.{Book}
use Rattle.loom_world.specs.BookInvariant.{IsAsFar}
use Rattle.loom_world.specs.Flags.{IsFlaggedNow}
use Rattle.loom_world.specs.Idle.{CommandGoesFirst, IsAtFlagBy}
use Rattle.loom_world.specs.Turned.{NotesStand}
use Rattle.loom_world.proofs.InvariantReadings.{not_true, not_false}
use Rattle.loom_world.proofs.LongerBook.{under_way}
use Rattle.loom_world.proofs.StandsBehind.{not_running}
use Rattle.loom_world.proofs.Turning.{flags_up, flags_down}
use Rattle.loom_world.proofs.book.Book.live.Goals as goal
use Rattle.loom_world.proofs.book.Book.live.Goals.{else-not-thread-via-then-not-thread+else-has, else-not-thread-via-else-not-thread}

pub returns-then-is_closed-clause-err : goal.returns-then-is_closed-clause-err
returns-then-is_closed-clause-err c = (c.is_closed.ensures.closed c.if-is_closed.true, refl)

pub returns-in-None-clause-err : goal.returns-in-None-clause-err
returns-in-None-clause-err c =
    ((c.is_closed.ensures.open c.if-is_closed.false, subst (λ (b : Book). thread_at b.store c.args.t ≡ None) c.self.view_is c.in-None.ensures.none), refl)

pub returns-then-thread-clause-err : goal.returns-then-thread-clause-err
returns-then-thread-clause-err c =
    let x : ThreadState = state_of c.in-Some.thread in
    let is : thread_at c.args.self.now.store c.args.t ≡ Some x = subst (λ (b : Book). thread_at b.store c.args.t ≡ Some x) c.self.view_is c.in-Some.ensures.some in
    ((c.is_closed.ensures.open c.if-is_closed.false, record { state = x; is = is; ended = c.if-thread.true }), refl)

pub returns-then-is_command_first-clause-err : goal.returns-then-is_command_first-clause-err
returns-then-is_command_first-clause-err c =
    let x : ThreadState = state_of c.in-Some.thread in
    let is : thread_at c.args.self.now.store c.args.t ≡ Some x = subst (λ (b : Book). thread_at b.store c.args.t ≡ Some x) c.self.view_is c.in-Some.ensures.some in
    ((c.is_closed.ensures.open c.if-is_closed.false, (record { state = x; is = is; not_ended = c.if-thread.false }, c.is_command_first.ensures.yes c.if-is_command_first.true)), refl)

pub returns-then-has-clause-err : goal.returns-then-has-clause-err
returns-then-has-clause-err c =
    let b : Book = c.args.self.now in
    let x : ThreadState = state_of c.in-Some.thread in
    let is : thread_at b.store c.args.t ≡ Some x = subst (λ (z : Book). thread_at z.store c.args.t ≡ Some x) c.self.view_is c.in-Some.ensures.some in
    let no_command : CommandGoesFirst b → ⊥ = c.is_command_first.ensures.no c.if-is_command_first.false in
    let unborn : running_thread (thread_at b.store c.args.t) ≡ None = ap running_thread is ∙ not_running x (not_true c.in-Some.thread.begun c.if-not-thread.true) in
    let now : IsFlaggedNow b nowhere = flags_up b c.flags.result.now c.flags.ensures (under_way b no_command) 0 nowhere refl (sym c.has.ensures ∙ c.if-has.true) in (
      (
        record { goes_on = c.is_closed.ensures.open c.if-is_closed.false; no_command = no_command; lives = record { state = x; is = is; not_ended = c.if-thread.false } },
        subst (λ (o : Option ThreadState). IsAtFlagBy b c.args.t 0 o) (sym unborn) (refl, now),
        λ j h. (let no : None ≡ Some h.state = sym unborn ∙ h.runs in cc),
      ),
      subst (λ (o : Option ThreadState). NotesStand b c.args.t 0 o b) (sym unborn) refl,
    )

pub returns-else-not-thread-clause-ok : goal.returns-else-not-thread-clause-ok
returns-else-not-thread-clause-ok c =
    let b : Book = c.args.self.now in
    let x : ThreadState = state_of c.in-Some.thread in
    let is : thread_at b.store c.args.t ≡ Some x = subst (λ (z : Book). thread_at z.store c.args.t ≡ Some x) c.self.view_is c.in-Some.ensures.some in
    let far = c.self.invariant.far c.args.t x c.in-Some.ensures.some in
    let unflagged : x.begun ≡ false → IsFlaggedNow b nowhere → ⊥ =
    λ unborn now.
    elim c.else-not-thread.branch [
      | else-not-thread-via-then-not-thread+else-has w ↦ flags_down b w.flags.result.now w.flags.ensures 0 nowhere refl (sym w.has.ensures ∙ w.if-has.false) now
      | else-not-thread-via-else-not-thread w ↦ let no : true ≡ false = sym (not_false c.in-Some.thread.begun w.if-not-thread.false) ∙ unborn in cc
    ]
    in
    record {
      goes_on = c.is_closed.ensures.open c.if-is_closed.false;
      no_command = c.is_command_first.ensures.no c.if-is_command_first.false;
      lives = record { state = x; is = is; not_ended = c.if-thread.false };
      func = refl;
      args = refl;
      function = subst (λ (z : Book). IsFunctionWith z.program x.func x.args) c.self.view_is (c.self.invariant.functions c.args.t x c.in-Some.ensures.some);
      not_ended = subst (λ (z : Book). has_ended (entries_of c.args.t z.entries) ≡ false) c.self.view_is (sym (IsAsFar.ended far) ∙ c.if-thread.false);
      begins = unflagged;
      begun = subst (λ (z : Book). x.begun ≡ not (has_none (entries_of c.args.t z.entries))) c.self.view_is (IsAsFar.begun far);
    }
