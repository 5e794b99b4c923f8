use Rattle.std.proofs.Common.{◌-◌, not, None, sym, ap, ◌∙◌, subst, arith}
use Rattle.std.specs.Prelude.{slice_set}
use Rattle.loom_trace.specs.Limits.{thread_limit}
use Rattle.loom_event.specs.Replay.{Store}
use Rattle.loom_law.specs.Lawful.{IsBlocked}
use Rattle.loom_store.specs.Answer.{CanAnswer}
use Rattle.loom_store.proofs.Sizes.{always_answers}
use Rattle.loom_world.specs.Book.{Book, setting, front}
use Rattle.loom_world.specs.Idle.{IsClosed, CommandGoesFirst}
use Rattle.loom_world.specs.Asking.{Asks, MakesAnswer}
use Rattle.loom_world.specs.contracts.book.Book.{the_view}
use Rattle.loom_world.specs.BookInvariant.{IsAsFar, BookInvariant}
use Rattle.loom_world.proofs.States.{most_threads}
use Rattle.loom_world.proofs.InvariantReadings.{not_finished, room_left}
use Rattle.loom_world.proofs.OpenTurns.{IsAsking}
use Rattle.loom_world.proofs.LongerBook.{asking, outcome, kept_more, answered_so}
use Rattle.loom_world.proofs.Operable.{can_operate}
use Rattle.loom_world.proofs.StandsBehind.{forgotten_is}
use Rattle.loom_world.proofs.book.Book.answer.Goals as goal

pub push-requires : goal.push-requires
push-requires c =
    let b : Book = the_view c.self.inside in
    let goes_on : IsClosed b → ⊥ = subst (λ (z : Book). IsClosed z → ⊥) (sym c.self.view_is) c.requires.goes_on in
    room_left b _ c.self.invariant (not_finished b _ c.self.invariant goes_on)

pub perform-made-requires-clause-acts : goal.perform-made-requires-clause-acts
perform-made-requires-clause-acts c act =
    let b : Book = the_view c.self.inside in
    let asks : Asks b c.args.t c.args.request.now = subst (λ (z : Book). Asks z c.args.t c.args.request.now) (sym c.self.view_is) c.requires.asks in
    let far = c.self.invariant.far c.args.t asks.state asks.there in
    record {
      thread = record { state = asks.state; is = asks.there; lives = asks.lives; begun = IsAsFar.begun far ∙ ap not (sym asks.begins) };
      numbers = subst (λ (s : Store). CanAnswer s c.args.request.now) c.self.invariant.journal.store
          (always_answers b.program thread_limit c.self.invariant.journal.lawful.events c.args.request.now (asks.numbers act));
      few = c.self.invariant.few_threads;
      most = omega (arith, most_threads b.program c.self.invariant.journal.lawful.events c.self.inside.store c.self.invariant.journal.store);
    }

pub perform-made-requires-clause-operates : goal.perform-made-requires-clause-operates
perform-made-requires-clause-operates c operates =
    let b : Book = the_view c.self.inside in
    let asks : Asks b c.args.t c.args.request.now = subst (λ (z : Book). Asks z c.args.t c.args.request.now) (sym c.self.view_is) c.requires.asks in
    can_operate b _ c.self.invariant c.args.t c.args.request.now c.requires.first c.requires.last asks operates

pub invariant_of-self : goal.invariant_of-self
invariant_of-self c =
    let b : Book = the_view c.self.inside in
    let asks : Asks b c.args.t c.args.request.now = subst (λ (z : Book). Asks z c.args.t c.args.request.now) (sym c.self.view_is) c.requires.asks in
    let goes_on : IsClosed b → ⊥ = subst (λ (z : Book). IsClosed z → ⊥) (sym c.self.view_is) c.requires.goes_on in
    let no_command : CommandGoesFirst b → ⊥ = subst (λ (z : Book). CommandGoesFirst z → ⊥) (sym c.self.view_is) c.requires.no_command in
    let free : IsBlocked (setting b) (front b) c.args.t → ⊥ = subst (λ (z : Book). IsBlocked (setting z) (front z) c.args.t → ⊥) (sym c.self.view_is) (c.is_blocked.ensures.free c.if-is_blocked.false) in
    let h : IsAsking b c.args.t c.args.request.now = asking b _ c.self.invariant goes_on no_command c.args.t c.args.request.now asks free in
    let x = outcome b _ c.self.invariant c.args.t c.args.request.now h free c.perform-made.result c.perform-made.new.store c.perform-made.new.ops c.perform-made.ensures.acts c.perform-made.ensures.operates in
    rw (c.push.ensures.appended, c.copy.ensures, forgotten_is c.self.inside.stands.items c.args.t c.requires.first)
    (kept_more b _ c.self.invariant goes_on c.args.t c.args.request.now c.requires.first (record { state = asks.state; is = asks.there; not_ended = asks.lives }) free c.perform-made.result
    c.perform-made.new.store c.perform-made.new.ops c.push.new.self.room x c.push.ensures.room)

pub returns-clause-some : goal.returns-clause-some
returns-clause-some c =
    let b : Book = the_view c.self.inside in
    let asks : Asks b c.args.t c.args.request.now = subst (λ (z : Book). Asks z c.args.t c.args.request.now) (sym c.self.view_is) c.requires.asks in
    let goes_on : IsClosed b → ⊥ = subst (λ (z : Book). IsClosed z → ⊥) (sym c.self.view_is) c.requires.goes_on in
    let no_command : CommandGoesFirst b → ⊥ = subst (λ (z : Book). CommandGoesFirst z → ⊥) (sym c.self.view_is) c.requires.no_command in
    let free : IsBlocked (setting b) (front b) c.args.t → ⊥ = subst (λ (z : Book). IsBlocked (setting z) (front z) c.args.t → ⊥) (sym c.self.view_is) (c.is_blocked.ensures.free c.if-is_blocked.false) in
    let h : IsAsking b c.args.t c.args.request.now = asking b _ c.self.invariant goes_on no_command c.args.t c.args.request.now asks free in
    let x = outcome b _ c.self.invariant c.args.t c.args.request.now h free c.perform-made.result c.perform-made.new.store c.perform-made.new.ops c.perform-made.ensures.acts c.perform-made.ensures.operates in
    let new : Book = record b { entries = c.push.new.self.entries; store = c.perform-made.new.store; stands = slice_set b.stands (c.args.t - 1) None } in
    let told : MakesAnswer b c.args.t c.args.request.now c.perform-made.result.entry new =
    rw (c.push.ensures.appended, c.copy.ensures, forgotten_is c.self.inside.stands.items c.args.t c.requires.first)
    (answered_so b _ c.self.invariant goes_on no_command c.args.t c.args.request.now free c.perform-made.result c.perform-made.new.store c.perform-made.new.ops x) in
    subst (λ (z : Book). MakesAnswer z c.args.t c.args.request.now c.perform-made.result.entry new) c.self.view_is told

pub returns-clause-lawful : goal.returns-clause-lawful
returns-clause-lawful c = BookInvariant.journal (invariant_of-self c)
