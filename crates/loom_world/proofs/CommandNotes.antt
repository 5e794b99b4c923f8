-- What a book notes of its commands, with one entry more.
use Rattle.std.proofs.Common.{ℕ, ◌+◌, ◌≤◌, ◌≡◌, true, false, [], ◌∷◌, ◌++◌, length, length-append, sym, ◌∙◌, arith}
use Rattle.loom_command.specs.Script.{most_commands}
use Rattle.loom_trace.specs.Limits.{control_limit}
use Rattle.loom_trace.specs.declared.entry.Entry.{Entry}
use Rattle.loom_event.specs.Entries.{thread_entries}
use Rattle.loom_event.specs.Replay.{Store}
use Rattle.loom_law.specs.Control.{Control}
use Rattle.loom_law.specs.Laws.{IsUnfinished}
use Rattle.loom_world.specs.Book.{Book, setting, front, HasLawfulJournal}
use Rattle.loom_world.specs.BookInvariant.{Notes, NoneGoesOn, HasCommands}
use Rattle.loom_world.proofs.ControlState.{numbered, counted}

abbrev pub book_with : Book → Entry → Store → Book
book_with b x st = record b { entries = b.entries ++ x ∷ []; store = st }

-- the room that is left
pub room_with : (b : Book) (x : Entry) (old room : ℕ) → length b.entries + old ≡ b.limit + control_limit → room + 1 ≡ old → length (b.entries ++ x ∷ []) + room ≡ b.limit + control_limit
room_with b x old room all left = omega (arith, all, left, length-append b.entries (x ∷ []))

-- The numbers of commands, and how many entries there are, follow from the journal.
pub noted : (b : Book) (n : Notes) → HasLawfulJournal b → length b.commands ≤ most_commands → n.entry_count ≡ thread_entries b.entries → n.next ≡ Control.next (front b).control
    → n.asked ≡ Control.asked (front b).control → n.closing ≡ Control.closing (front b).control → length b.entries + n.room ≡ b.limit + control_limit
    → (n.finished ≡ false → IsUnfinished b.entries) → (n.closing ≡ true → NoneGoesOn b) → HasCommands b n
noted b n h few made next asked closing room unfinished ends =
    let m = numbered (setting b) b.entries h.lawful in
    record {
      few = few;
      next = next;
      asked = asked;
      closing = closing;
      first = omega (arith, next, m.first);
      last = omega (arith, next, m.last);
      before = λ k is. (let was = m.before k (sym asked ∙ is) in (was.0, was.1 ∙ sym next));
      count = λ is. (let c = counted (setting b) b.entries h.lawful (unfinished is) in let all = c.count in omega (arith, all, made, next));
      room = room;
      ends = ends;
    }
