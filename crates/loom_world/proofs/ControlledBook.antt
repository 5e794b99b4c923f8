-- A book that is new, and one with one more control entry.
use Rattle.std.proofs.Common.{ℕ, zero, suc, ◌+◌, ◌<◌, ◌≤◌, ◌≡◌, inl, inr, Bool, true, false, List, [], ◌∷◌, ◌++◌, length, slice_get, Option, Some, None, refl, sym, ap, ◌∙◌, subst, arith, codes}
use Rattle.std.specs.List.{AllByRecursion}
use Rattle.std.specs.Option.{option_flatten}
use Rattle.loom_tree.specs.Tree.{Source}
use Rattle.loom_lang.specs.Rules.{KeepsRules}
use Rattle.loom_lang.specs.Numbers.{function_number}
use Rattle.loom_trace.specs.declared.entry.Entry.{Entry}
use Rattle.loom_trace.specs.declared.entry.Entry.TheVariants as e
use Rattle.loom_trace.specs.declared.entry.Ending.{Ending}
use Rattle.loom_trace.specs.declared.entry.What.{What}
use Rattle.loom_event.specs.Answer.{IsFunctionWith}
use Rattle.loom_event.specs.Entries.{thread_of, last_of_thread}
use Rattle.loom_trace.specs.Limits.{thread_limit, entry_limit, control_limit}
use Rattle.loom_event.specs.Replay.{ThreadState, new_thread, main_thread, start, thread_at, replay}
use Rattle.loom_command.specs.Script.{most_commands}
use Rattle.loom_law.specs.Filter.{Plan, has}
use Rattle.loom_law.specs.Walk.{Version}
use Rattle.loom_law.specs.Control.{Command, command_at, install, remove, means, have_one_name, Control, first_control, control, listed_places}
use Rattle.loom_law.specs.TurnLaws.{is_blocked_entry}
use Rattle.loom_law.specs.Lawful.{plans, run_is_over, is_installed, is_name_used, refusal, IsDue, Ends, EndsSo, MayControl}
use Rattle.loom_law.specs.Laws.{IsUnfinished}
use Rattle.loom_law.proofs.Lawful.{beginning}
use Rattle.loom_law.proofs.NoCommands.{none_unfinished}
use Rattle.loom_lang.proofs.MainFunction.{main_found, main_function}
use Rattle.loom_plan.specs.Compiled.{Compiled}
use Rattle.loom_version.specs.Version.{version_with, version_without}
use Rattle.loom_ops.specs.Ops.{Ops, no_filters, with_filter, without_filter, KeepsLocks}
use Rattle.loom_ops.specs.Laws.{HasReplay}
use Rattle.loom_ops.proofs.LockReplay.{replay as locks}
use Rattle.loom_world.specs.declared.choice.Choice.TheVariants as choice
use Rattle.loom_world.specs.declared.choice.Turned.TheVariants as turned
use Rattle.loom_world.specs.declared.choice.Why.{Why}
use Rattle.loom_world.specs.declared.choice.Why.TheVariants as why
use Rattle.loom_world.specs.Answers.{AreFound, IsFoundStalled, StandsNext}
use Rattle.loom_world.specs.Book.{Book, setting_of, setting, front, HasFilterPlans, HasStands, HasLawfulJournal, AreNoStands, stand_at, found_place}
use Rattle.loom_world.specs.Flags.{HasFlagSets}
use Rattle.loom_world.specs.Idle.{IsIdleControl}
use Rattle.loom_world.specs.Turned.{NotesBy, Turns}
use Rattle.loom_world.specs.BookInvariant.{Notes, IsAsFar, IsAtEnd, NoneGoesOn, wait_in, wait_unless, HasWaits, AreNoWaits, latest, HasVersion, HasCommands, BookInvariant}
use Rattle.loom_world.proofs.Ends.{none_goes_on}
use Rattle.loom_world.proofs.ControlState.{numbered}
use Rattle.loom_world.proofs.ControlTurns.{may_refuse, may_cut, may_ask, may_leave_out, may_finish}
use Rattle.loom_world.proofs.Switches.{may_install, may_remove, may_stall}
use Rattle.loom_world.proofs.InvariantReadings.{not_written}
use Rattle.loom_world.proofs.CommandNotes.{room_with, noted}
use Rattle.loom_world.proofs.ControlEntries.{control_book, control_is, entries_stay, count_stays, IsQuiet, quiet_asked, quiet_refused, quiet_stalled, quiet_cut, quiet_unreached, quiet_finish, still_none, quiet_waits, switch_installed, switch_removed, switch_waits, quiet_journal, switch_journal}
use Rattle.loom_world.proofs.VersionNotes.{with_notes, with_version, latest_is, quiet_version, installed_version, removed_version}

-- With a control entry

-- A book keeps what it keeps.
controlled_kept : (b : Book) (n m : Notes) → BookInvariant b n → (x : Entry) → thread_of x ≡ None → HasLawfulJournal (control_book b x)
    → m.entry_count ≡ n.entry_count → m.flags ≡ n.flags → m.all_places ≡ n.all_places → m.no_places ≡ n.no_places
    → IsAtEnd (control_book b x) m.finished → HasCommands (control_book b x) m → HasVersion (control_book b x) m → HasWaits (control_book b x) m.waits → BookInvariant (control_book b x) m
controlled_kept b n m k x of h count flags all none end commands version waits = record {
  journal = h;
  least = k.least;
  most = k.most;
  entry_count = count ∙ (k.entry_count ∙ sym (count_stays b x of));
  few = subst (λ z. z ≤ b.limit) (sym count) k.few;
  end = end;
  commands = commands;
  far = λ t z is. subst (λ es. IsAsFar es z) (sym (entries_stay b x of t)) (k.far t z is);
  functions = k.functions;
  version = version;
  flags = flags_kept;
  few_threads = k.few_threads;
  waits = waits;
}
  where
    flags_kept : HasFlagSets (control_book b x) m.flags m.all_places m.no_places
    flags_kept = rw (flags, all, none) (record { each = k.flags.each; there = k.flags.there; all = k.flags.all; none = k.flags.none })

-- The last entry

never_empty : (xs : List Entry) (x : Entry) → [] ≡ xs ++ x ∷ [] → ⊥
never_empty [] x h = cc
never_empty (y ∷ xs) x h = cc

same_last : (xs ys : List Entry) (x y : Entry) → xs ++ x ∷ [] ≡ ys ++ y ∷ [] → x ≡ y
same_last [] [] x y h = cc
same_last [] (z ∷ ys) x y h = let no : [] ≡ ys ++ y ∷ [] = cc in absurd (never_empty ys y no)
same_last (z ∷ xs) [] x y h = let no : [] ≡ xs ++ x ∷ [] = cc in absurd (never_empty xs x no)
same_last (z ∷ xs) (u ∷ ys) x y h = let others : xs ++ x ∷ [] ≡ ys ++ y ∷ [] = cc in same_last xs ys x y others

other_unfinished : (es : List Entry) (x : Entry) → ((kind : Ending) → x ≡ e.Finish kind → ⊥) → IsUnfinished (es ++ x ∷ [])
other_unfinished es x other kind h = other kind (same_last es h.front x (e.Finish kind) h.is)

goes_on_at_end : (b : Book) (f : Bool) → f ≡ false → IsUnfinished b.entries → IsAtEnd b f
goes_on_at_end b f is h = subst (λ z. IsAtEnd b z) (sym is) h

pub unfinished : (b : Book) (n : Notes) → BookInvariant b n → n.finished ≡ false → IsUnfinished b.entries
unfinished b n k is kind h = not_written b n k is (kind, h)

-- The command that is asked

is_asked : (b : Book) (n : Notes) → BookInvariant b n → (j : ℕ) → Control.asked (front b).control ≡ Some j → n.asked ≡ Some j
is_asked b n k j is = k.commands.asked ∙ is

-- It is the latest one, and the next one stands behind it.
pub latest_asked : (b : Book) (n : Notes) → BookInvariant b n → (j : ℕ) → Control.asked (front b).control ≡ Some j → latest n ≡ j
latest_asked b n k j is = latest_is n (Some j) (is_asked b n k j is)

pub next_behind : (b : Book) (n : Notes) → BookInvariant b n → (j : ℕ) → Control.asked (front b).control ≡ Some j → n.next ≡ suc j
next_behind b n k j is = let before = k.commands.before j (is_asked b n k j is) in sym before.1

-- The end isn't chosen.
still_open : (b : Book) (n : Notes) → BookInvariant b n → (j : ℕ) → Control.asked (front b).control ≡ Some j → n.closing ≡ true → ⊥
still_open b n k j is shut =
    let m = numbered (setting b) b.entries k.journal.lawful in
    let no : true ≡ false = sym shut ∙ (k.commands.closing ∙ m.not_closing j is) in cc

-- where none is asked the next one is the latest
latest_none : (b : Book) (n : Notes) → BookInvariant b n → Control.asked (front b).control ≡ None → latest n ≡ n.next
latest_none b n k none = latest_is n None (k.commands.asked ∙ none)

-- behind an answer
later_answered : (b : Book) (n : Notes) → BookInvariant b n → (j : ℕ) → Control.asked (front b).control ≡ Some j → latest n ≤ n.next
later_answered b n k j is = omega (arith, latest_asked b n k j is, next_behind b n k j is)

-- The command that is asked gets an answer that changes no version: it is refused, cut or stalled.
answered_kept : (b : Book) (n : Notes) → BookInvariant b n → n.finished ≡ false → (x : Entry) → IsQuiet b x → ((kind : Ending) → x ≡ e.Finish kind → ⊥) → MayControl (setting b) (front b) x []
    → (j : ℕ) → Control.asked (front b).control ≡ Some j → (closing : Bool)
    → Control.next (front (control_book b x)).control ≡ Control.next (front b).control → Control.asked (front (control_book b x)).control ≡ None
    → closing ≡ Control.closing (front (control_book b x)).control → (closing ≡ true → NoneGoesOn (control_book b x))
    → (room : ℕ) → room + 1 ≡ n.room → BookInvariant (control_book b x) (with_notes n n.finished room n.next None closing)
answered_kept b n k open_ x q other may j is closing next none shut ends room left =
    let h = quiet_journal b k.journal x (unfinished b n k open_) q may in
    let goes_on : IsUnfinished (b.entries ++ x ∷ []) = other_unfinished b.entries x other in
    let m : Notes = with_notes n n.finished room n.next None closing in
    controlled_kept b n m k x q.of h refl refl refl refl (goes_on_at_end (control_book b x) n.finished open_ goes_on)
    (noted (control_book b x) m h k.commands.few (k.entry_count ∙ sym (count_stays b x q.of)) (k.commands.next ∙ sym next) (sym none) shut (room_with b x n.room room k.commands.room left) (λ _. goes_on) ends)
    (quiet_version b x n m q k.version refl refl (later_answered b n k j is)) (quiet_waits b x n.waits q k.waits)

-- Refused
pub refused_kept : (b : Book) (n : Notes) → BookInvariant b n → n.finished ≡ false → (j m c : ℕ) → Control.asked (front b).control ≡ Some j → refusal (setting b) (front b).control j ≡ Some (m, c)
    → (room : ℕ) → room + 1 ≡ n.room → BookInvariant (control_book b (e.Refused j m c)) (with_notes n n.finished room n.next None n.closing)
refused_kept b n k open_ j m c is why room left =
    let x : Entry = e.Refused j m c in
    let behind = control_is b x in
    answered_kept b n k open_ x (quiet_refused b j m c) (λ kind same. cc) (may_refuse b j m c is why) j is n.closing (ap Control.next behind) (ap Control.asked behind)
    (k.commands.closing ∙ sym (ap Control.closing behind)) (λ shut. absurd (still_open b n k j is shut)) room left

-- stalled
pub stalled_kept : (b : Book) (n : Notes) → BookInvariant b n → n.finished ≡ false → (j t l : ℕ) → Control.asked (front b).control ≡ Some j → refusal (setting b) (front b).control j ≡ None
    → run_is_over (setting b) (front b) ≡ false → IsFoundStalled b j t l
    → (room : ℕ) → room + 1 ≡ n.room → BookInvariant (control_book b (e.Stalled j t l)) (with_notes n n.finished room n.next None n.closing)
stalled_kept b n k open_ j t l is accepted goes_on found room left =
    let x : Entry = e.Stalled j t l in
    let behind = control_is b x in
    answered_kept b n k open_ x (quiet_stalled b j t l) (λ kind same. cc) (may_stall b k.journal j t l is accepted goes_on found) j is n.closing (ap Control.next behind) (ap Control.asked behind)
    (k.commands.closing ∙ sym (ap Control.closing behind)) (λ shut. absurd (still_open b n k j is shut)) room left

-- and cut
pub cut_kept : (b : Book) (n : Notes) → BookInvariant b n → n.finished ≡ false → (j : ℕ) → Control.asked (front b).control ≡ Some j → run_is_over (setting b) (front b) ≡ true
    → (room : ℕ) → room + 1 ≡ n.room → BookInvariant (control_book b (e.Cut j)) (with_notes n n.finished room n.next None true)
cut_kept b n k open_ j is over room left =
    let x : Entry = e.Cut j in
    let behind = control_is b x in
    answered_kept b n k open_ x (quiet_cut b j) (λ kind same. cc) (may_cut b j is over) j is true (ap Control.next behind) (ap Control.asked behind)
    (sym (ap Control.closing behind)) (λ _. still_none b x k.journal (quiet_cut b j) (inl over)) room left

-- The next command is asked.
pub asked_kept : (b : Book) (n : Notes) → BookInvariant b n → n.finished ≡ false → IsDue (setting b) (front b) → (room : ℕ) → room + 1 ≡ n.room
    → BookInvariant (control_book b (e.Asked n.next)) (with_notes n n.finished room (n.next + 1) (Some n.next) n.closing)
asked_kept b n k open_ due room left =
    let x : Entry = e.Asked n.next in
    let q = quiet_asked b n.next in
    let h = quiet_journal b k.journal x (unfinished b n k open_) q (may_ask b due n.next k.commands.next) in
    let goes_on : IsUnfinished (b.entries ++ x ∷ []) = other_unfinished b.entries x (λ kind same. cc) in
    let behind = control_is b x in
    let one : n.next + 1 ≡ suc n.next = omega arith in
    let m : Notes = with_notes n n.finished room (n.next + 1) (Some n.next) n.closing in
    let same : latest n ≡ n.next = latest_none b n k due.answered in
    controlled_kept b n m k x refl h refl refl refl refl (goes_on_at_end (control_book b x) n.finished open_ goes_on)
    (noted (control_book b x) m h k.commands.few (k.entry_count ∙ sym (count_stays b x refl)) (one ∙ sym (ap Control.next behind)) (sym (ap Control.asked behind))
    (k.commands.closing ∙ sym (ap Control.closing behind)) (room_with b x n.room room k.commands.room left) (λ _. goes_on)
    (λ shut. let no : true ≡ false = sym shut ∙ (k.commands.closing ∙ due.not_closing) in cc))
    (quiet_version b x n m q k.version refl refl (omega (arith, same))) (quiet_waits b x n.waits q k.waits)

-- The next command isn't reached.
pub unreached_kept : (b : Book) (n : Notes) → BookInvariant b n → n.finished ≡ false → Control.asked (front b).control ≡ None → Control.next (front b).control ≤ length b.commands
    → EndsSo (setting b) (front b) → (room : ℕ) → room + 1 ≡ n.room → BookInvariant (control_book b (e.Unreached n.next)) (with_notes n n.finished room (n.next + 1) n.asked true)
unreached_kept b n k open_ none most ends room left =
    let x : Entry = e.Unreached n.next in
    let q = quiet_unreached b n.next in
    let h = quiet_journal b k.journal x (unfinished b n k open_) q (may_leave_out b none n.next k.commands.next most ends) in
    let goes_on : IsUnfinished (b.entries ++ x ∷ []) = other_unfinished b.entries x (λ kind same. cc) in
    let behind = control_is b x in
    let one : n.next + 1 ≡ suc n.next = omega arith in
    let m : Notes = with_notes n n.finished room (n.next + 1) n.asked true in
    let same : latest n ≡ n.next = latest_none b n k none in
    let later : latest m ≡ n.next + 1 = latest_is m None (k.commands.asked ∙ none) in
    controlled_kept b n m k x refl h refl refl refl refl (goes_on_at_end (control_book b x) n.finished open_ goes_on)
    (noted (control_book b x) m h k.commands.few (k.entry_count ∙ sym (count_stays b x refl)) (one ∙ sym (ap Control.next behind)) (k.commands.asked ∙ sym (ap Control.asked behind))
    (sym (ap Control.closing behind)) (room_with b x n.room room k.commands.room left) (λ _. goes_on) (λ _. still_none b x k.journal q (none_goes_on b k.journal ends.0 ends.1)))
    (quiet_version b x n m q k.version refl refl (omega (arith, same, later))) (quiet_waits b x n.waits q k.waits)

-- The journal is finished.
pub finished_kept : (b : Book) (n : Notes) → BookInvariant b n → n.finished ≡ false → Control.asked (front b).control ≡ None → length b.commands < Control.next (front b).control
    → (kind : Ending) → Ends (setting b) (front b) kind → (room : ℕ) → room + 1 ≡ n.room → BookInvariant (control_book b (e.Finish kind)) (with_notes n true room n.next n.asked n.closing)
finished_kept b n k open_ none all kind ends room left =
    let x : Entry = e.Finish kind in
    let q = quiet_finish b kind in
    let h = quiet_journal b k.journal x (unfinished b n k open_) q (may_finish b none all kind ends) in
    let behind = control_is b x in
    let m : Notes = with_notes n true room n.next n.asked n.closing in
    controlled_kept b n m k x refl h refl refl refl refl (kind, record { front = b.entries; is = refl })
    (noted (control_book b x) m h k.commands.few (k.entry_count ∙ sym (count_stays b x refl)) (k.commands.next ∙ sym (ap Control.next behind)) (k.commands.asked ∙ sym (ap Control.asked behind))
    (k.commands.closing ∙ sym (ap Control.closing behind)) (room_with b x n.room room k.commands.room left) (λ no. cc) (λ shut. still_none b x k.journal q (k.commands.ends shut)))
    (quiet_version b x n m q k.version refl refl (omega arith)) (quiet_waits b x n.waits q k.waits)

-- A new version

-- behind an entry that makes one
switched_commands : (b : Book) (n : Notes) → BookInvariant b n → (x : Entry) → thread_of x ≡ None → HasLawfulJournal (control_book b x) → IsUnfinished (b.entries ++ x ∷ [])
    → (j : ℕ) → Control.asked (front b).control ≡ Some j → Control.next (front (control_book b x)).control ≡ Control.next (front b).control → Control.asked (front (control_book b x)).control ≡ None
    → Control.closing (front (control_book b x)).control ≡ Control.closing (front b).control → (room : ℕ) → room + 1 ≡ n.room → (v : Version) (o : Ops) (ws : List (Option What))
    → HasCommands (control_book b x) (with_version n room v o ws)
switched_commands b n k x of h goes_on j is next none closing room left v o ws =
    noted (control_book b x) (with_version n room v o ws) h k.commands.few (k.entry_count ∙ sym (count_stays b x of)) (k.commands.next ∙ sym next) (sym none)
    (k.commands.closing ∙ sym closing) (room_with b x n.room room k.commands.room left) (λ _. goes_on) (λ shut. absurd (still_open b n k j is shut))

pub installed_kept : (b : Book) (n : Notes) → BookInvariant b n → n.finished ≡ false → (j v : ℕ) (c : Command) (f : Plan) (row : List ℕ) → command_at b.commands j ≡ Some c → c.action ≡ install (means f)
    → Control.asked (front b).control ≡ Some j → refusal (setting b) (front b).control j ≡ None → run_is_over (setting b) (front b) ≡ false → is_name_used (setting b) (front b).control j ≡ false
    → AreFound b j row → v ≡ suc (Version.number n.version) → (room : ℕ) → room + 1 ≡ n.room → (ws : List (Option What)) → AreNoWaits ws
    → BookInvariant (control_book b (e.Installed j v row)) (with_version n room (version_with n.version j) (with_filter n.ops j (plans (setting b) j)) ws)
installed_kept b n k open_ j v c f row is installs asked accepted goes_on unused found number room left ws none =
    let x : Entry = e.Installed j v row in
    let told : v ≡ suc (Version.number (Control.version (front b).control)) = number ∙ ap (λ (u : Version). suc u.number) k.version.version in
    let may = may_install b k.journal j v c f row is installs asked accepted goes_on told found in
    let h = switch_journal b k.journal x j row (unfinished b n k open_) (switch_installed b j v row) may found in
    let longer : IsUnfinished (b.entries ++ x ∷ []) = other_unfinished b.entries x (λ kind same. cc) in
    let behind = control_is b x in
    let m : Notes = with_version n room (version_with n.version j) (with_filter n.ops j (plans (setting b) j)) ws in
    controlled_kept b n m k x refl h refl refl refl refl (goes_on_at_end (control_book b x) n.finished open_ longer)
    (switched_commands b n k x refl h longer j asked (ap Control.next behind) (ap Control.asked behind) (ap Control.closing behind) room left _ _ ws)
    (installed_version b n m j v row c f k.version (latest_asked b n k j asked) is installs unused number refl refl (next_behind b n k j asked))
    (switch_waits b x row ws (switch_installed b j v row) found.count none)

pub removed_kept : (b : Book) (n : Notes) → BookInvariant b n → n.finished ≡ false → KeepsLocks n.ops → (j v i : ℕ) (c : Command) (row : List ℕ) → command_at b.commands j ≡ Some c → c.action ≡ remove
    → Control.asked (front b).control ≡ Some j → refusal (setting b) (front b).control j ≡ None → run_is_over (setting b) (front b) ≡ false → is_installed (front b).control i ≡ true
    → have_one_name b.commands i j ≡ true → AreFound b j row → v ≡ suc (Version.number n.version) → (room : ℕ) → room + 1 ≡ n.room → (ws : List (Option What)) → AreNoWaits ws
    → BookInvariant (control_book b (e.Removed j v row)) (with_version n room (version_without n.version i) (without_filter n.ops i) ws)
removed_kept b n k open_ keeps j v i c row is removes asked accepted goes_on there named found number room left ws none =
    let x : Entry = e.Removed j v row in
    let told : v ≡ suc (Version.number (Control.version (front b).control)) = number ∙ ap (λ (u : Version). suc u.number) k.version.version in
    let may = may_remove b k.journal j v c row is removes asked accepted goes_on told found in
    let h = switch_journal b k.journal x j row (unfinished b n k open_) (switch_removed b j v row) may found in
    let longer : IsUnfinished (b.entries ++ x ∷ []) = other_unfinished b.entries x (λ kind same. cc) in
    let behind = control_is b x in
    let m : Notes = with_version n room (version_without n.version i) (without_filter n.ops i) ws in
    controlled_kept b n m k x refl h refl refl refl refl (goes_on_at_end (control_book b x) n.finished open_ longer)
    (switched_commands b n k x refl h longer j asked (ap Control.next behind) (ap Control.asked behind) (ap Control.closing behind) room left _ _ ws)
    (removed_version b n m j v i row k.version keeps (latest_asked b n k j asked) there named number refl refl (next_behind b n k j asked))
    (switch_waits b x row ws (switch_removed b j v row) found.count none)

-- A turn of control that makes an entry

not_idle : (b : Book) (n : Notes) → BookInvariant b n → n.finished ≡ false → (x : Entry) → thread_of x ≡ None → StandsNext b x → (w : Why) → IsIdleControl b w → ⊥
not_idle b n k open_ x of next why.Nothing (inl written) = not_written b n k open_ written
not_idle b n k open_ x of next why.Nothing (inr none) = none x of next
not_idle b n k open_ x of next why.Over h = h
not_idle b n k open_ x of next why.Ended h = h
not_idle b n k open_ x of next why.Unborn h = h
not_idle b n k open_ x of next why.Due h = h
not_idle b n k open_ x of next (why.Flagged j) h = h
not_idle b n k open_ x of next why.Blocked h = h

pub control_moves : (b : Book) (n : Notes) → BookInvariant b n → n.finished ≡ false → (x : Entry) → thread_of x ≡ None → StandsNext b x
    → (es : List Entry) → es ≡ b.entries ++ x ∷ [] → Turns b choice.Control (record b { entries = es }) turned.Moved
control_moves b n k open_ x of next es is = (record { makes = record { entry = x; one = is; maker = of }; next = next; notes = subst (λ o. NotesBy b o (is_blocked_entry x) (record b { entries = es })) (sym of) refl; unflagged = tt }, not_idle b n k open_ x of next)

-- Before the first entry

only_main : (f : Option ℕ) (t : ℕ) (x : ThreadState) → slice_get (main_thread thread_limit f) t ≡ Some x → (g : ℕ) × (f ≡ Some g) × (new_thread g [] ≡ x)
only_main None t x h = cc
only_main (Some g) zero x h = let same : new_thread g [] ≡ x = cc in (g, refl, same)
only_main (Some g) (suc t) x h = cc

first_thread : (p : Source) (t : ℕ) (x : ThreadState) → thread_at (start p thread_limit) t ≡ Some x → (g : ℕ) × (function_number p (codes "main") ≡ Some g) × (new_thread g [] ≡ x)
first_thread p zero x h = cc
first_thread p (suc t) x h = only_main (function_number p (codes "main")) t x h

few_first : (f : Option ℕ) → length (main_thread thread_limit f) ≤ thread_limit
few_first None = omega arith
few_first (Some g) = omega arith

first_far : (p : Source) (t : ℕ) (x : ThreadState) → thread_at (start p thread_limit) t ≡ Some x → IsAsFar [] x
first_far p t x h =
    let m = first_thread p t x h in
    subst (IsAsFar []) m.2 (record { begun = refl; ended = refl })

first_functions : (p : Source) → KeepsRules p → (t : ℕ) (x : ThreadState) → thread_at (start p thread_limit) t ≡ Some x → IsFunctionWith p x.func x.args
first_functions p rules t x h =
    let m = first_thread p t x h in
    subst (λ (z : ThreadState). IsFunctionWith p z.func z.args) m.2 (main_function p m.0 (main_found p rules) m.1)

first_waits : (b : Book) (ws : List (Option What)) → b.entries ≡ [] → AreNoWaits ws → HasWaits b ws
first_waits b ws none h = record {
  count = h.0;
  each = λ i w is. h.1 i w is ∙ sym (ap (λ zs. wait_unless (listed_places (suc i) zs) (wait_in (last_of_thread (suc i) None zs))) none);
  can = λ i w is. (let no : Some w ≡ None = h.1 i (Some w) is in cc);
}

-- before it: these commands with their filters, and nobody was found anywhere
abbrev pub first_book : Source → List (Option Compiled) → List Command → ℕ → List (Option ℕ) → Book
first_book p fs cs limit xs = record { program = p; filters = fs; commands = cs; limit = limit; entries = []; store = start p thread_limit; stands = xs }

abbrev pub first_notes : ℕ → List (Option What) → List (Option (List ℕ)) → List ℕ → List ℕ → Notes
first_notes room ws sets all none = record {
  entry_count = 0;
  finished = false;
  room = room;
  next = 1;
  asked = None;
  closing = false;
  waits = ws;
  version = first_control.version;
  ops = no_filters;
  flags = sets;
  all_places = all;
  no_places = none;
}

none_noted : (xs : List (Option ℕ)) → AreNoStands xs → (t : ℕ) (x : ℕ) → stand_at xs t ≡ Some x → ⊥
none_noted xs h zero x is = cc
none_noted xs h (suc i) x is = by_slot (slice_get xs i) refl
  where
    by_note : (o : Option ℕ) → slice_get xs i ≡ Some o → o ≡ None → ⊥
    by_note o at none = let no : None ≡ Some x = sym none ∙ (sym (ap option_flatten at) ∙ is) in cc

    by_slot : (o : Option (Option ℕ)) → slice_get xs i ≡ o → ⊥
    by_slot None at = let no : None ≡ Some x = sym (ap option_flatten at) ∙ is in cc
    by_slot (Some o) at = by_note o at (h.1 i o at)

first_stands : (b : Book) → b.entries ≡ [] → AreNoStands b.stands → HasStands b
first_stands b none h = record {
  count = h.0;
  each = λ t z x runs noted. absurd (none_noted b.stands h t x noted);
  listed = λ t. subst (λ es. AllByRecursion (λ k. found_place b t ≡ Some k) (listed_places t es)) (sym none) tt;
}

first_journal : (p : Source) (fs : List (Option Compiled)) (cs : List Command) (limit : ℕ) (xs : List (Option ℕ)) → KeepsRules p → HasFilterPlans (first_book p fs cs limit xs) → AreNoStands xs
    → HasLawfulJournal (first_book p fs cs limit xs)
first_journal p fs cs limit xs rules filters stands =
    let h = beginning (setting_of p cs limit) in
    record { rules = rules; lawful = h.0; store = ap (replay (start p thread_limit)) h.1; plans = filters; stands = first_stands (first_book p fs cs limit xs) refl stands }

first_version : (b : Book) (n : Notes) → b.entries ≡ [] → n.version ≡ first_control.version → n.ops ≡ no_filters → n.asked ≡ None → n.next ≡ 1 → HasVersion b n
first_version b n none version ops asked next =
    let first : (front b).control ≡ first_control = ap (control b.commands) none in
    let now : latest n ≡ 1 = latest_is n None asked ∙ next in
    record {
      version = version ∙ ap Control.version (sym first);
      ops = rw (ops, first) (HasReplay.first locks (plans (setting b)));
      below = λ j there. (let no : false ≡ true = subst (λ (v : Version). has v.active j ≡ true) version there in cc);
      number = (let zero_so : Version.number n.version ≡ 0 = ap Version.number version in omega (arith, zero_so, now));
      names = λ i j a c one. (let no : false ≡ true = subst (λ (d : Control). is_installed d i ≡ true) first a in cc);
      there = λ k is. (let no : false ≡ true = subst (λ (d : Control). is_installed d k ≡ true) first is in cc);
    }

-- A new book keeps all of it.
pub new_kept : (p : Source) (fs : List (Option Compiled)) (cs : List Command) (limit room : ℕ) (xs : List (Option ℕ)) (ws : List (Option What)) (sets : List (Option (List ℕ))) (all none : List ℕ)
    → KeepsRules p → HasFilterPlans (first_book p fs cs limit xs) → HasFlagSets (first_book p fs cs limit xs) sets all none → length cs ≤ most_commands → 1 ≤ limit → limit ≤ entry_limit
    → room ≡ limit + control_limit → AreNoStands xs → AreNoWaits ws → BookInvariant (first_book p fs cs limit xs) (first_notes room ws sets all none)
new_kept p fs cs limit room xs ws sets all none rules filters flags small least most left stands waits =
    let b : Book = first_book p fs cs limit xs in
    let n : Notes = first_notes room ws sets all none in
    let h = first_journal p fs cs limit xs rules filters stands in
    let whole : 0 + room ≡ limit + control_limit = omega (arith, left) in
    record {
      journal = h;
      least = least;
      most = most;
      entry_count = refl;
      few = omega arith;
      end = none_unfinished;
      commands = noted b n h small refl refl refl refl whole (λ is. none_unfinished) (λ is. cc);
      far = first_far p;
      functions = first_functions p rules;
      version = first_version b n refl refl refl refl refl;
      flags = flags;
      few_threads = few_first (function_number p (codes "main"));
      waits = first_waits b ws refl waits;
    }
