-- A book with one more control entry: what that leaves of threads, of where they stand, and of what they are blocked at.
use Rattle.std.proofs.Common.{ℕ, zero, suc, ◌<◌, ◌≡◌, inl, inr, ◌==◌, true, false, ◌&&◌, List, [], ◌∷◌, ◌++◌, length, slice_get, Option, Some, None, refl, sym, ap, ◌∙◌, subst, arith}
use Rattle.std.specs.List.{AllByRecursion, list_any}
use Rattle.std.proofs.lemmas.Option.{slice_get_within}
use Rattle.loom_trace.specs.Limits.{thread_limit}
use Rattle.loom_trace.specs.declared.entry.Entry.{Entry}
use Rattle.loom_trace.specs.declared.entry.Entry.TheVariants as e
use Rattle.loom_trace.specs.declared.entry.What.{What}
use Rattle.loom_trace.specs.declared.entry.What.TheVariants as w
use Rattle.loom_trace.specs.declared.entry.Ending.{Ending}
use Rattle.loom_event.specs.Entries.{thread_of, is_thread, is_some_thread, thread_entries, last_of_thread}
use Rattle.loom_event.specs.Replay.{ThreadState, start, replay, IsDisabled}
use Rattle.loom_law.specs.ThreadPart.{Own, ComesTo}
use Rattle.loom_law.specs.Control.{Holder, Control, first_control, after_entry, versions_of, entries_of, row_at, listed_places}
use Rattle.loom_law.specs.Lawful.{Setting, Front, front_of, plans, own, IsDisabledFor, IsBlockedBy, IsBlocked, MayControl, MayFollowBy}
use Rattle.loom_law.specs.Laws.{IsUnfinished}
use Rattle.loom_law.proofs.Lawful.{control_turns}
use Rattle.loom_law.proofs.Longer.{not_mine, not_taken}
use Rattle.loom_law.proofs.Obedience.{control_after_last}
use Rattle.loom_world.specs.Answers.{AreFound}
use Rattle.loom_world.specs.Book.{Book, setting, front, found_place, IsStandOf, HasStands, HasLawfulJournal}
use Rattle.loom_world.specs.BookInvariant.{wait_in, wait_unless, HasWaits, NoneGoesOn, AreNoWaits}
use Rattle.loom_world.proofs.Counts.{count_same}
use Rattle.loom_world.proofs.Ends.{front_is, over_is}
use Rattle.loom_world.proofs.NoOrders.{nobody_lacks}
use Rattle.loom_world.proofs.LastEntries.{last_other}
use Rattle.loom_world.proofs.OwnVersions.{listed_last, one_row}

abbrev pub control_book : Book → Entry → Book
control_book b x = record b { entries = b.entries ++ x ∷ [] }

-- Threads

not_its : (x : Entry) → thread_of x ≡ None → (t : ℕ) → is_thread t (thread_of x) ≡ false
not_its x of t = ap (is_thread t) of

-- what is a thread's own stays so
own_stays : (b : Book) (x : Entry) → thread_of x ≡ None → (t : ℕ) (z : ThreadState) → own (setting b) (b.entries ++ x ∷ []) t z ≡ own (setting b) b.entries t z
own_stays b x of t z =
    ap (λ vs. record { thread = t; func = z.func; args = z.args; versions = vs; entries = entries_of t (b.entries ++ x ∷ []) }) (not_taken b.commands t x b.entries (not_its x of t))
    ∙ ap (λ es. record { thread = t; func = z.func; args = z.args; versions = versions_of b.commands t b.entries; entries = es }) (not_mine t x b.entries (not_its x of t))

pub entries_stay : (b : Book) (x : Entry) → thread_of x ≡ None → (t : ℕ) → entries_of t (b.entries ++ x ∷ []) ≡ entries_of t b.entries
entries_stay b x of t = not_mine t x b.entries (not_its x of t)

last_stays : (b : Book) (x : Entry) → thread_of x ≡ None → (t : ℕ) → last_of_thread t None (b.entries ++ x ∷ []) ≡ last_of_thread t None b.entries
last_stays b x of t = last_other t None b.entries x (not_its x of t)

pub count_stays : (b : Book) (x : Entry) → thread_of x ≡ None → thread_entries (b.entries ++ x ∷ []) ≡ thread_entries b.entries
count_stays b x of = count_same b.entries x (ap is_some_thread of)

-- where it stood it stands
stands_stay : (b : Book) (x : Entry) → thread_of x ≡ None → (t : ℕ) (z : ThreadState) (k : ℕ) → IsStandOf b t z k → IsStandOf (control_book b x) t z k
stands_stay b x of t z k s = record {
  place = s.place;
  number = s.number;
  comes = subst (λ (v : Own). ComesTo b.program (plans (setting b)) v s.place) (sym (own_stays b x of t z)) s.comes;
}

pub control_is : (b : Book) (x : Entry) → (front (control_book b x)).control ≡ after_entry b.commands (front b).control x
control_is b x = control_after_last b.commands first_control b.entries x

-- Entries that change no version

-- nobody gets another clause, and no place is listed
pub record IsQuiet (b : Book) (x : Entry) : Type 0 where
  pub of : thread_of x ≡ None
  pub version : Control.version (front (control_book b x)).control ≡ Control.version (front b).control
  pub holders : Control.holders (front (control_book b x)).control ≡ Control.holders (front b).control
  pub listed : (t : ℕ) → listed_places t (b.entries ++ x ∷ []) ≡ listed_places t b.entries

-- by what it does to the control
quiet_by : (b : Book) (x : Entry) → thread_of x ≡ None → Control.version (after_entry b.commands (front b).control x) ≡ Control.version (front b).control
    → Control.holders (after_entry b.commands (front b).control x) ≡ Control.holders (front b).control
    → ((t : ℕ) → listed_places t (b.entries ++ x ∷ []) ≡ listed_places t b.entries) → IsQuiet b x
quiet_by b x of version holders listed = record {
  of = of;
  version = ap Control.version (control_is b x) ∙ version;
  holders = ap Control.holders (control_is b x) ∙ holders;
  listed = listed;
}

pub quiet_asked : (b : Book) (k : ℕ) → IsQuiet b (e.Asked k)
quiet_asked b k = quiet_by b (e.Asked k) refl refl refl (λ t. listed_last t [] b.entries (e.Asked k))

pub quiet_refused : (b : Book) (k n m : ℕ) → IsQuiet b (e.Refused k n m)
quiet_refused b k n m = quiet_by b (e.Refused k n m) refl refl refl (λ t. listed_last t [] b.entries (e.Refused k n m))

pub quiet_stalled : (b : Book) (k t l : ℕ) → IsQuiet b (e.Stalled k t l)
quiet_stalled b k u l = quiet_by b (e.Stalled k u l) refl refl refl (λ t. listed_last t [] b.entries (e.Stalled k u l))

pub quiet_cut : (b : Book) (k : ℕ) → IsQuiet b (e.Cut k)
quiet_cut b k = quiet_by b (e.Cut k) refl refl refl (λ t. listed_last t [] b.entries (e.Cut k))

pub quiet_unreached : (b : Book) (k : ℕ) → IsQuiet b (e.Unreached k)
quiet_unreached b k = quiet_by b (e.Unreached k) refl refl refl (λ t. listed_last t [] b.entries (e.Unreached k))

pub quiet_finish : (b : Book) (kind : Ending) → IsQuiet b (e.Finish kind)
quiet_finish b kind = quiet_by b (e.Finish kind) refl refl refl (λ t. listed_last t [] b.entries (e.Finish kind))

-- Behind them the same threads are blocked

disabled_stays : (b c : Book) → HasLawfulJournal b → Control.holders (front c).control ≡ Control.holders (front b).control → c.store ≡ b.store → (t : ℕ) (what : What)
    → IsDisabledFor (setting b) (front b) t what → IsDisabledFor (setting b) (front c) t what
disabled_stays b c h same store t (w.Enter k n) d = record {
  by = d.by;
  other = d.other;
  holds = subst (λ (hs : List Holder). list_any (λ (g : Holder). (g.filter == k) && ((g.clause == n) && (g.thread == d.by))) hs ≡ true) (sym same) d.holds;
}
disabled_stays b c h same store t (w.Wait k n) d = absurd (nobody_lacks (setting b) (front b) h.plans.exclusions k n d)
disabled_stays b c h same store t (w.Lock m) d = subst (λ s. IsDisabled s (w.Lock m)) (sym store) d
disabled_stays b c h same store t (w.Down m) d = subst (λ s. IsDisabled s (w.Down m)) (sym store) d
disabled_stays b c h same store t (w.Join u) d = subst (λ s. IsDisabled s (w.Join u)) (sym store) d

-- from the one end of a journal to the other
blocked_by : (s : Setting) (f g : Front) (t : ℕ) (o : Option Entry) → ((what : What) → IsDisabledFor s f t what → IsDisabledFor s g t what)
    → listed_places t g.entries ≡ listed_places t f.entries → IsBlockedBy s f t o → IsBlockedBy s g t o
blocked_by s f g t (Some (e.Blocked u l what)) d ls h = (d what h.0, ls ∙ h.1)
blocked_by s f g t _ d ls h = absurd h

pub blocked_behind : (b : Book) (x : Entry) → HasLawfulJournal b → IsQuiet b x → (t : ℕ) → IsBlocked (setting b) (front b) t → IsBlocked (setting b) (front (control_book b x)) t
blocked_behind b x h q t blocked =
    subst (IsBlockedBy (setting b) (front (control_book b x)) t) (sym (last_stays b x q.of t))
    (blocked_by (setting b) (front b) (front (control_book b x)) t (last_of_thread t None b.entries) (disabled_stays b (control_book b x) h q.holders refl t) (q.listed t) blocked)

-- Where no thread goes on, none does behind such an entry.
pub still_none : (b : Book) (x : Entry) → HasLawfulJournal b → IsQuiet b x → NoneGoesOn b → NoneGoesOn (control_book b x)
still_none b x h q (inl over) = inl (over_is (control_book b x) ∙ (ap (λ z. z == b.limit) (count_stays b x q.of) ∙ (sym (over_is b) ∙ over)))
still_none b x h q (inr blocked) = inr (λ t lives. blocked_behind b x h q t (blocked t lives))

quiet_stands : (b : Book) (x : Entry) → HasLawfulJournal b → IsQuiet b x → HasStands (control_book b x)
quiet_stands b x h q = record {
  count = h.stands.count;
  each = λ t z y runs noted. stands_stay b x q.of t z y (h.stands.each t z y runs noted);
  listed = λ t. subst (AllByRecursion (λ k. found_place b t ≡ Some k)) (sym (q.listed t)) (h.stands.listed t);
}

pub quiet_waits : (b : Book) (x : Entry) (ws : List (Option What)) → IsQuiet b x → HasWaits b ws → HasWaits (control_book b x) ws
quiet_waits b x ws q h = record {
  count = h.count;
  each = λ i o is. h.each i o is
      ∙ (ap (λ ls. wait_unless ls (wait_in (last_of_thread (suc i) None b.entries))) (sym (q.listed (suc i)))
      ∙ ap (λ z. wait_unless (listed_places (suc i) (b.entries ++ x ∷ [])) (wait_in z)) (sym (last_stays b x q.of (suc i))));
  can = h.can;
}

-- Entries that list places

-- the places of a row are listed behind those that were
pub record IsSwitch (b : Book) (x : Entry) (row : List ℕ) : Type 0 where
  pub of : thread_of x ≡ None
  pub listed : (t : ℕ) → listed_places t (b.entries ++ x ∷ []) ≡ listed_places t b.entries ++ row_at row t

pub switch_installed : (b : Book) (k v : ℕ) (row : List ℕ) → IsSwitch b (e.Installed k v row) row
switch_installed b k v row = record { of = refl; listed = λ t. listed_last t [] b.entries (e.Installed k v row) }

pub switch_removed : (b : Book) (k v : ℕ) (row : List ℕ) → IsSwitch b (e.Removed k v row) row
switch_removed b k v row = record { of = refl; listed = λ t. listed_last t [] b.entries (e.Removed k v row) }

all_both : {A : Type 0} (P : A → Type 0) (xs ys : List A) → AllByRecursion P xs → AllByRecursion P ys → AllByRecursion P (xs ++ ys)
all_both P [] ys h g = g
all_both P (x ∷ xs) ys h g = (h.0, all_both P xs ys h.1 g)

row_all : (P : ℕ → Type 0) (row : List ℕ) (i : ℕ) → ((y : ℕ) → slice_get row i ≡ Some y → P y) → AllByRecursion P (row_at row (suc i))
row_all P [] i h = tt
row_all P (x ∷ row) zero h = (h x refl, tt)
row_all P (x ∷ row) (suc i) h = row_all P row i h

row_none : (P : ℕ → Type 0) (row : List ℕ) → AllByRecursion P (row_at row zero)
row_none P [] = tt
row_none P (x ∷ row) = tt

row_found : (b : Book) (k : ℕ) (row : List ℕ) → AreFound b k row → (t : ℕ) → AllByRecursion (λ y. found_place b t ≡ Some y) (row_at row t)
row_found b k row found zero = row_none (λ y. found_place b zero ≡ Some y) row
row_found b k row found (suc i) =
    row_all (λ y. found_place b (suc i) ≡ Some y) row i
    (λ y is.
    let within : i < length row = slice_get_within row i y is in
    found.listed (suc i) (omega arith) (omega (arith, within, found.count)) ∙ is)

switch_stands : (b : Book) (x : Entry) (k : ℕ) (row : List ℕ) → HasLawfulJournal b → IsSwitch b x row → AreFound b k row → HasStands (control_book b x)
switch_stands b x k row h q found = record {
  count = h.stands.count;
  each = λ t z y runs noted. stands_stay b x q.of t z y (h.stands.each t z y runs noted);
  listed = λ t. subst (AllByRecursion (λ y. found_place b t ≡ Some y)) (sym (q.listed t))
      (all_both (λ y. found_place b t ≡ Some y) (listed_places t b.entries) (row_at row t) (h.stands.listed t) (row_found b k row found t));
}

none_waits : (ls : List ℕ) (y : ℕ) (o : Option What) → wait_unless (ls ++ y ∷ []) o ≡ None
none_waits [] y o = refl
none_waits (x ∷ ls) y o = refl

-- Nobody is blocked: each goes over to the new version first.
pub switch_waits : (b : Book) (x : Entry) (row : List ℕ) (ws : List (Option What)) → IsSwitch b x row → length row ≡ thread_limit → AreNoWaits ws → HasWaits (control_book b x) ws
switch_waits b x row ws q many none = record {
  count = none.0;
  each = each;
  can = λ i o is. (let no : Some o ≡ None = none.1 i (Some o) is in cc);
}
  where
    each : (i : ℕ) (o : Option What) → slice_get ws i ≡ Some o → o ≡ wait_unless (listed_places (suc i) (b.entries ++ x ∷ [])) (wait_in (last_of_thread (suc i) None (b.entries ++ x ∷ [])))
    each i o is =
        let within : i < length ws = slice_get_within ws i o is in
        let one = one_row row i (omega (arith, within, none.0, many)) in
        let last : Option What = wait_in (last_of_thread (suc i) None (b.entries ++ x ∷ [])) in
        none.1 i o is ∙ sym (ap (λ ls. wait_unless ls last) (q.listed (suc i) ∙ ap (λ ls. listed_places (suc i) b.entries ++ ls) one.1) ∙ none_waits (listed_places (suc i) b.entries) one.0 last)

-- Journals

-- it is lawful with an entry that stands next
longer_journal : (b : Book) (h : HasLawfulJournal b) (x : Entry) → IsUnfinished b.entries → thread_of x ≡ None → MayControl (setting b) (front b) x [] → HasStands (control_book b x)
    → HasLawfulJournal (control_book b x)
longer_journal b h x goes_on of may stands =
    let may_so : MayControl (setting b) (front_of (setting b) b.entries h.lawful.events) x [] = subst (λ z. MayControl (setting b) z x []) (sym (front_is b h)) may in
    let more = control_turns (setting b) b.entries h.lawful goes_on x of (subst (λ o. MayFollowBy (setting b) (front_of (setting b) b.entries h.lawful.events) x [] o) (sym of) may_so) in
    record {
      rules = h.rules;
      lawful = more.0;
      store = ap (replay (start b.program thread_limit)) more.1 ∙ h.store;
      plans = record { filters = h.plans.filters; same = h.plans.same; there = h.plans.there; exclusions = h.plans.exclusions };
      stands = stands;
    }

pub quiet_journal : (b : Book) (h : HasLawfulJournal b) (x : Entry) → IsUnfinished b.entries → IsQuiet b x → MayControl (setting b) (front b) x [] → HasLawfulJournal (control_book b x)
quiet_journal b h x goes_on q may = longer_journal b h x goes_on q.of may (quiet_stands b x h q)

pub switch_journal : (b : Book) (h : HasLawfulJournal b) (x : Entry) (k : ℕ) (row : List ℕ) → IsUnfinished b.entries → IsSwitch b x row → MayControl (setting b) (front b) x [] → AreFound b k row
    → HasLawfulJournal (control_book b x)
switch_journal b h x k row goes_on q may found = longer_journal b h x goes_on q.of may (switch_stands b x k row h q found)
