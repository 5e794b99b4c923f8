-- A book with a note of where a thread stands.
use Rattle.std.proofs.Common.{ℕ, ◌≡◌, ◌≤◌, Bool, true, false, Some, arith}
use Rattle.std.specs.List.{AllByRecursion}
use Rattle.loom_trace.specs.Limits.{thread_limit}
use Rattle.loom_event.specs.Replay.{ThreadState, thread_at}
use Rattle.loom_law.specs.Control.{listed_places}
use Rattle.loom_law.specs.Lawful.{running_thread}
use Rattle.loom_world.specs.Book.{Book, IsStandOf}
use Rattle.loom_world.specs.BookInvariant.{Notes, IsAtEnd, BookInvariant}
use Rattle.loom_world.proofs.StandsBehind.{book_noted, stands_noted}

same_end : (b : Book) (t k : ℕ) (f : Bool) → IsAtEnd b f → IsAtEnd (book_noted b t k) f
same_end b t k true h = h
same_end b t k false h = h

pub noted_kept : (b : Book) (n : Notes) → BookInvariant b n → (t k : ℕ) → 1 ≤ t → t ≤ thread_limit
    → ((z : ThreadState) → running_thread (thread_at b.store t) ≡ Some z → IsStandOf b t z k) → AllByRecursion (λ j. j ≡ k) (listed_places t b.entries) → BookInvariant (book_noted b t k) n
noted_kept b n i t k first last stands listed = record {
  journal = record {
    rules = i.journal.rules;
    lawful = i.journal.lawful;
    store = i.journal.store;
    plans = record { filters = i.journal.plans.filters; same = i.journal.plans.same; there = i.journal.plans.there; exclusions = i.journal.plans.exclusions };
    stands = stands_noted b t k first i.journal.stands stands listed (omega (arith, last, i.journal.stands.count));
  };
  least = i.least;
  most = i.most;
  entry_count = i.entry_count;
  few = i.few;
  end = same_end b t k n.finished i.end;
  commands = record {
    few = i.commands.few;
    next = i.commands.next;
    asked = i.commands.asked;
    closing = i.commands.closing;
    first = i.commands.first;
    last = i.commands.last;
    before = i.commands.before;
    count = i.commands.count;
    room = i.commands.room;
    ends = i.commands.ends;
  };
  far = i.far;
  functions = i.functions;
  version = record {
    version = i.version.version;
    ops = i.version.ops;
    below = i.version.below;
    number = i.version.number;
    names = i.version.names;
    there = i.version.there;
  };
  flags = record { each = i.flags.each; there = i.flags.there; all = i.flags.all; none = i.flags.none };
  few_threads = i.few_threads;
  waits = record { count = i.waits.count; each = i.waits.each; can = i.waits.can };
}
