-- The version that a thread has taken last, and the newest one: over any number of switches it is a later one, or the same.
use Rattle.std.proofs.Common.{ℕ, suc, ◌+◌, ◌<◌, ◌≤◌, ◌≡◌, Bool, true, false, not, List, [], ◌∷◌, ◌++◌, Option, Some, None, refl, sym, ap, ◌∙◌, subst, arith}
use Rattle.std.specs.List.{filter}
use Rattle.loom_trace.specs.declared.entry.Entry.{Entry}
use Rattle.loom_trace.specs.declared.entry.Entry.TheVariants as e
use Rattle.loom_event.specs.Entries.{thread_of, is_thread}
use Rattle.loom_law.specs.Filter.{has}
use Rattle.loom_law.specs.Walk.{Version, new_filters}
use Rattle.loom_law.specs.Control.{Command, have_one_name, Control, first_control, after_entry, control, versions_of}
use Rattle.loom_law.specs.Lawful.{Setting, Front, front_at, MayControl, MayFollowBy, IsLawful}
use Rattle.loom_law.specs.Laws.{with_newest}
use Rattle.loom_law.proofs.Holdings.{either_of}
use Rattle.loom_law.proofs.OnePart.{append_none}
use Rattle.loom_law.proofs.Obedience.{control_after_last, append_one}
use Rattle.loom_law.proofs.Longer.{not_taken, newest_taken}
use Rattle.loom_law.proofs.Lawful.{fronts}
use Rattle.loom_strand.specs.Strand.{IsLater, IsLaterThanLast}
use Rattle.loom_version.proofs.ActiveNumbers.{has_more, has_filter}
use Rattle.loom_trace.specs.Limits.{thread_limit}
use Rattle.loom_world.specs.Book.{Book, setting, front, HasLawfulJournal}
use Rattle.loom_world.proofs.ControlState.{owed_answers, HasSameCommand, thread_keeps, IsNumbered, numbered}
use Rattle.loom_world.proofs.FilterLists.{order_same, order_with, order_without}
use Rattle.loom_world.proofs.OwnVersions.{version_stays}

-- Each filter of a version was installed: its number is below that of the next command, and of the one that is asked.
abbrev pub AreBelowNext : Control → List ℕ → Type 0
AreBelowNext c ks = (j : ℕ) → has ks j ≡ true → j + owed_answers c.asked < c.next

-- the newest version is a later one than this, or the same
pub record HasLater (c : Control) (u : Version) : Type 0 where
  pub later : IsLater u c.version
  pub below : AreBelowNext c u.active

-- so it is with the last one of these, if there is any
abbrev pub HasLaterLast : Control → List Version → Type 0
HasLaterLast c [] = Unit {0}
HasLaterLast c (u ∷ []) = HasLater c u
HasLaterLast c (u ∷ x ∷ us) = HasLaterLast c (x ∷ us)

last_for_all : (c d : Control) (us : List Version) → ((u : Version) → HasLater c u → HasLater d u) → HasLaterLast c us → HasLaterLast d us
last_for_all c d [] f h = tt
last_for_all c d (u ∷ []) f h = f u h
last_for_all c d (u ∷ x ∷ us) f h = last_for_all c d (x ∷ us) f h

last_is_new : (c : Control) (us : List Version) (v : Version) → HasLater c v → HasLaterLast c (us ++ v ∷ [])
last_is_new c [] v h = h
last_is_new c (u ∷ []) v h = h
last_is_new c (u ∷ x ∷ us) v h = last_is_new c (x ∷ us) v h

later_last : (c : Control) (us : List Version) → HasLaterLast c us → IsLaterThanLast us c.version
later_last c [] h = tt
later_last c (u ∷ []) h = h.later
later_last c (u ∷ x ∷ us) h = later_last c (x ∷ us) h

-- The filters of the newest version have been installed, and the last version of a thread is behind it.
pub record AreOrdered (c : Control) (us : List Version) : Type 0 where
  pub newest : AreBelowNext c (Version.active c.version)
  pub last : HasLaterLast c us

same_later : (v : Version) → IsLater v v
same_later v = record { number = omega arith; same = λ h. refl; order = order_same v.active }

-- The numbers stay below: no fewer commands were asked and answered

answer_counts : (c d : Control) → d.next ≡ c.next → d.asked ≡ None → c.next + owed_answers d.asked ≤ d.next + owed_answers c.asked
answer_counts c d next none = let paid : owed_answers d.asked ≡ 0 = ap owed_answers none in omega (arith, next, paid)

ask_counts : (c d : Control) (k : ℕ) → c.asked ≡ None → k ≡ c.next → d.next ≡ suc k → d.asked ≡ Some k → c.next + owed_answers d.asked ≤ d.next + owed_answers c.asked
ask_counts c d k none number next asked =
    let paid : owed_answers c.asked ≡ 0 = ap owed_answers none in
    let owed : owed_answers d.asked ≡ 1 = ap owed_answers asked in
    omega (arith, number, next, paid, owed)

unreached_counts : (c d : Control) (k : ℕ) → k ≡ c.next → d.next ≡ suc k → d.asked ≡ c.asked → c.next + owed_answers d.asked ≤ d.next + owed_answers c.asked
unreached_counts c d k number next asked =
    let same : owed_answers d.asked ≡ owed_answers c.asked = ap owed_answers asked in
    omega (arith, number, next, same)

same_counts : (c d : Control) → HasSameCommand c d → c.next + owed_answers d.asked ≤ d.next + owed_answers c.asked
same_counts c d h =
    let next : d.next ≡ c.next = h.0 in
    let same : owed_answers d.asked ≡ owed_answers c.asked = ap owed_answers h.1.0 in
    omega (arith, next, same)

still_below : (c d : Control) (ks : List ℕ) → c.next + owed_answers d.asked ≤ d.next + owed_answers c.asked → AreBelowNext c ks → AreBelowNext d ks
still_below c d ks counts h j m = let was : j + owed_answers c.asked < c.next = h j m in omega (arith, was, counts)

-- Entries of threads, and those of control that leave the version

stays_behind : (c d : Control) (u : Version) → Control.version d ≡ c.version → c.next + owed_answers d.asked ≤ d.next + owed_answers c.asked → HasLater c u → HasLater d u
stays_behind c d u same counts h = record { later = subst (λ v. IsLater u v) (sym same) h.later; below = still_below c d u.active counts h.below }

stay : (c d : Control) (us : List Version) → Control.version d ≡ c.version → c.next + owed_answers d.asked ≤ d.next + owed_answers c.asked → AreOrdered c us → AreOrdered d us
stay c d us same counts h = record {
  newest = subst (λ (v : Version). AreBelowNext d v.active) (sym same) (still_below c d (Version.active c.version) counts h.newest);
  last = last_for_all c d us (λ u g. stays_behind c d u same counts g) h.last;
}

-- a thread takes the newest version
newest_comes : (c : Control) (us : List Version) → AreOrdered c us → AreOrdered c (us ++ c.version ∷ [])
newest_comes c us h = record {
  newest = h.newest;
  last = last_is_new c us c.version (record { later = same_later c.version; below = h.newest });
}

by_entry : (c : Control) (us : List Version) (x : Entry) → AreOrdered c us → AreOrdered c (with_newest x c.version us)
by_entry c us (e.Begin t l) h = newest_comes c us h
by_entry c us (e.Cross t l y n m) h = newest_comes c us h
by_entry c us _ h = h

-- Switches

-- to a version of the next number
behind_switch : (c d : Control) (u : Version) → Version.number d.version ≡ suc (Version.number c.version)
    → Version.active d.version ≡ filter (has (Version.active d.version)) u.active ++ new_filters u.active (Version.active d.version)
    → c.next + owed_answers d.asked ≤ d.next + owed_answers c.asked → HasLater c u → HasLater d u
behind_switch c d u next order counts h =
    let most : u.number ≤ Version.number c.version = h.later.number in
    record {
      later = record {
        number = omega (arith, most, next);
        same = λ g. absurd (let no : ⊥ = omega (arith, most, next, g) in no);
        order = order;
      };
      below = still_below c d u.active counts h.below;
    }

no_true : (b : Bool) → (b ≡ true → ⊥) → b ≡ false
no_true true h = absurd (h refl)
no_true false h = refl

-- the command that is asked has not been installed
is_fresh : (c : Control) (k : ℕ) (ks : List ℕ) → c.asked ≡ Some k → suc k ≡ c.next → AreBelowNext c ks → has ks k ≡ false
is_fresh c k ks asked next h =
    let owed : owed_answers c.asked ≡ 1 = ap owed_answers asked in
    no_true (has ks k) (λ m. (let was : k + owed_answers c.asked < c.next = h k m in let no : ⊥ = omega (arith, was, owed, next) in no))

more_below : (c d : Control) (ks : List ℕ) (k : ℕ) → suc k ≡ c.next → d.next ≡ c.next → d.asked ≡ None → AreBelowNext c ks → AreBelowNext d (ks ++ k ∷ [])
more_below c d ks k number next none h j m =
    let paid : owed_answers d.asked ≡ 0 = ap owed_answers none in
    either_of (has_more ks k j m) (λ g. still_below c d ks (answer_counts c d next none) h j g) (λ g. omega (arith, g, number, next, paid))

fewer_below : (c d : Control) (q : ℕ → Bool) (ks : List ℕ) → c.next + owed_answers d.asked ≤ d.next + owed_answers c.asked → AreBelowNext c ks → AreBelowNext d (filter q ks)
fewer_below c d q ks counts h j m = still_below c d ks counts h j (has_filter q ks j m)

with_install : (cs : List Command) (c : Control) (us : List Version) (k v : ℕ) (row : List ℕ) → IsNumbered cs c → c.asked ≡ Some k → v ≡ suc (Version.number c.version)
    → AreOrdered c us → AreOrdered (after_entry cs c (e.Installed k v row)) us
with_install cs c us k v row numbers asked next h =
    let d : Control = after_entry cs c (e.Installed k v row) in
    let number : (1 ≤ k) × (suc k ≡ c.next) = numbers.before k asked in
    record {
      newest = more_below c d (Version.active c.version) k number.1 refl refl h.newest;
      last = last_for_all c d us
          (λ u g. behind_switch c d u next (order_with u.active (Version.active c.version) k g.later.order (is_fresh c k u.active asked number.1 g.below)) (answer_counts c d refl refl) g)
          h.last;
    }

with_removal : (cs : List Command) (c : Control) (us : List Version) (k v : ℕ) (row : List ℕ) → v ≡ suc (Version.number c.version)
    → AreOrdered c us → AreOrdered (after_entry cs c (e.Removed k v row)) us
with_removal cs c us k v row next h =
    let d : Control = after_entry cs c (e.Removed k v row) in
    let stays : ℕ → Bool = λ (j : ℕ). not (have_one_name cs j k) in
    record {
      newest = fewer_below c d stays (Version.active c.version) (answer_counts c d refl refl) h.newest;
      last = last_for_all c d us (λ u g. behind_switch c d u next (order_without u.active (Version.active c.version) stays g.later.order) (answer_counts c d refl refl) g) h.last;
    }

behind_control : (s : Setting) (f : Front) (us : List Version) (x : Entry) (rest : List Entry) → IsNumbered s.commands f.control → MayControl s f x rest
    → AreOrdered f.control us → AreOrdered (after_entry s.commands f.control x) us
behind_control s f us (e.Installed k v row) rest numbers may h = with_install s.commands f.control us k v row numbers may.1.asked may.1.version h
behind_control s f us (e.Removed k v row) rest numbers may h = with_removal s.commands f.control us k v row may.1.version h
behind_control s f us (e.Asked k) rest numbers may h =
    let d : Control = after_entry s.commands f.control (e.Asked k) in
    stay f.control d us refl (ask_counts f.control d k may.0.answered may.1 refl refl) h
behind_control s f us (e.Refused k n m) rest numbers may h =
    let d : Control = after_entry s.commands f.control (e.Refused k n m) in
    stay f.control d us refl (answer_counts f.control d refl refl) h
behind_control s f us (e.Stalled k t l) rest numbers may h =
    let d : Control = after_entry s.commands f.control (e.Stalled k t l) in
    stay f.control d us refl (answer_counts f.control d refl refl) h
behind_control s f us (e.Cut k) rest numbers may h =
    let d : Control = after_entry s.commands f.control (e.Cut k) in
    stay f.control d us refl (answer_counts f.control d refl refl) h
behind_control s f us (e.Unreached k) rest numbers may h =
    let d : Control = after_entry s.commands f.control (e.Unreached k) in
    stay f.control d us refl (unreached_counts f.control d k may.1.0 refl refl) h
behind_control s f us (e.Finish k) rest numbers may h = h
behind_control s f us _ rest numbers may h = absurd may

-- Journals

abbrev AreOrderedIn : Setting → ℕ → List Entry → Type 0
AreOrderedIn s t es = AreOrdered (control s.commands es) (versions_of s.commands t es)

in_same : (c d : Control) (us vs : List Version) → d ≡ c → vs ≡ us → AreOrdered c us → AreOrdered d vs
in_same c d us vs dc vu h = subst (λ z. AreOrdered z vs) (sym dc) (subst (λ z. AreOrdered c z) (sym vu) h)

-- behind an entry of a thread, where these are the versions of thread t
behind_thread : (s : Setting) (front : List Entry) (x : Entry) (t w : ℕ) (us : List Version) → thread_of x ≡ Some w → versions_of s.commands t (front ++ x ∷ []) ≡ us
    → AreOrdered (control s.commands front) us → AreOrderedIn s t (front ++ x ∷ [])
behind_thread s front x t w us of are h =
    let cs : List Command = s.commands in
    let c : Control = control cs front in
    let d : Control = after_entry cs c x in
    in_same d (control cs (front ++ x ∷ [])) us (versions_of cs t (front ++ x ∷ [])) (control_after_last cs first_control front x) are
    (stay c d us (version_stays cs c x w of) (same_counts c d (thread_keeps cs c x w of)) h)

by_thread : (s : Setting) (front : List Entry) (x : Entry) (t w : ℕ) (b : Bool) → is_thread t (thread_of x) ≡ b → thread_of x ≡ Some w → AreOrderedIn s t front
    → AreOrderedIn s t (front ++ x ∷ [])
by_thread s front x t w true its of h =
    behind_thread s front x t w (with_newest x (Control.version (control s.commands front)) (versions_of s.commands t front)) of (newest_taken s.commands t x front its)
    (by_entry (control s.commands front) (versions_of s.commands t front) x h)
by_thread s front x t w false its of h = behind_thread s front x t w (versions_of s.commands t front) of (not_taken s.commands t x front its) h

-- behind one more entry, where the commands before it have numbers
one_more : (s : Setting) (es : List Entry) (h : IsLawful s es) (t : ℕ) (front : List Entry) (x : Entry) (rest : List Entry) → es ≡ front ++ x ∷ rest
    → IsNumbered s.commands (control s.commands front) → AreOrderedIn s t front → (o : Option ℕ) → thread_of x ≡ o → AreOrderedIn s t (front ++ x ∷ [])
one_more s es h t front x rest is numbers so (Some w) of = by_thread s front x t w (is_thread t (thread_of x)) refl of so
one_more s es h t front x rest is numbers so None of =
    let may : MayControl s (front_at s h.events front) x rest = subst (λ o. MayFollowBy s (front_at s h.events front) x rest o) of (h.follows front x rest is) in
    in_same (after_entry s.commands (control s.commands front) x) (control s.commands (front ++ x ∷ [])) (versions_of s.commands t front) (versions_of s.commands t (front ++ x ∷ []))
    (control_after_last s.commands first_control front x) (not_taken s.commands t x front (ap (is_thread t) of))
    (behind_control s (front_at s h.events front) (versions_of s.commands t front) x rest numbers may so)

-- what stands before an entry of a lawful journal gives its commands numbers
numbers_before : (s : Setting) (es : List Entry) → IsLawful s es → (front : List Entry) (x : Entry) (rest : List Entry) → es ≡ front ++ x ∷ rest
    → IsNumbered s.commands (control s.commands front)
numbers_before s es h front x rest is = numbered s front (fronts s front (x ∷ rest) (subst (λ zs. IsLawful s zs) is h))

ordered_from : (s : Setting) (es : List Entry) (h : IsLawful s es) (t : ℕ) (front todo : List Entry) → es ≡ front ++ todo → AreOrderedIn s t front → AreOrderedIn s t es
ordered_from s es h t front [] is so = subst (AreOrderedIn s t) (sym (is ∙ append_none front)) so
ordered_from s es h t front (x ∷ rest) is so =
    ordered_from s es h t (front ++ x ∷ []) rest (is ∙ sym (append_one front x rest))
    (one_more s es h t front x rest is (numbers_before s es h front x rest is) so (thread_of x) refl)

none_ordered : (s : Setting) (t : ℕ) → AreOrderedIn s t []
none_ordered s t = record { newest = λ j m. absurd (let no : false ≡ true = m in cc); last = tt }

pub later_in : (s : Setting) (es : List Entry) → IsLawful s es → (t : ℕ) → IsLaterThanLast (versions_of s.commands t es) (Control.version (control s.commands es))
later_in s es h t =
    let so : AreOrderedIn s t es = ordered_from s es h t [] es refl (none_ordered s t) in
    later_last (control s.commands es) (versions_of s.commands t es) so.last

-- So it is in each lawful journal.
pub later_than_last : (b : Book) → HasLawfulJournal b → (t : ℕ) → 1 ≤ t → t ≤ thread_limit → IsLaterThanLast (versions_of b.commands t b.entries) (Control.version (front b).control)
later_than_last b h t first last = later_in (setting b) b.entries h.lawful t
