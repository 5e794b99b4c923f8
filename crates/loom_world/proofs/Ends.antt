-- Where a run ends, and where it goes on.
use Rattle.std.proofs.Common.{ℕ, ◌≡◌, ◌⊎◌, inl, inr, ◌==◌, Bool, true, false, ◌||◌, List, [], ◌∷◌, Option, Some, None, refl, sym, ap, ◌∙◌, subst}
use Rattle.loom_trace.specs.declared.entry.Entry.{Entry}
use Rattle.loom_trace.specs.declared.entry.Entry.TheVariants as e
use Rattle.loom_trace.specs.declared.entry.Ending.{Ending}
use Rattle.loom_trace.specs.declared.entry.Ending.TheVariants as k
use Rattle.loom_trace.specs.declared.entry.What.{What}
use Rattle.loom_event.specs.Entries.{thread_entries, last_of_thread}
use Rattle.loom_event.specs.Replay.{Store, AllEnded}
use Rattle.loom_event.proofs.Stops.{never_stopped}
use Rattle.loom_law.specs.Control.{control, listed_places}
use Rattle.loom_law.specs.Lawful.{front_of, run_is_over, Lives, IsDisabledFor, IsBlockedBy, IsBlocked, IsHeldOff, IsDue, Ends}
use Rattle.loom_world.specs.Book.{Book, setting, front, HasLawfulJournal}
use Rattle.loom_world.specs.Idle.{CanGoOn}
use Rattle.loom_world.specs.BookInvariant.{wait_in, wait_unless, NoneGoesOn}
use Rattle.loom_world.proofs.NoOrders.{nobody_off}
use Rattle.loom_world.proofs.LastEntries.{blocked_entry}

-- The end of a book's journal is that of its entries and events.
pub front_is : (b : Book) (h : HasLawfulJournal b) → front_of (setting b) b.entries h.lawful.events ≡ front b
front_is b h = ap (λ z. record { entries = b.entries; store = z; control = control b.commands b.entries }) h.store

-- It is over where as many entries stand as may.
pub over_is : (b : Book) → run_is_over (setting b) (front b) ≡ (thread_entries b.entries == b.limit)
over_is b = ap (λ z. z || (thread_entries b.entries == b.limit)) (never_stopped b.entries)

pub not_yes : (c : Bool) → (c ≡ true → ⊥) → c ≡ false
not_yes true h = absurd (h refl)
not_yes false h = refl

-- Nobody is held off.
pub not_held_off : (b : Book) (h : HasLawfulJournal b) (t : ℕ) → IsHeldOff (setting b) (front b) t → ⊥
not_held_off b h t g = nobody_off (setting b) (front b) h.plans.exclusions t g

-- Blocked threads

-- it is noted where no place is listed alone
record WaitsFor (ls : List ℕ) (o : Option What) (what : What) : Type 0 where
  none : ls ≡ []
  is : o ≡ Some what

waits_for : (ls : List ℕ) (o : Option What) (what : What) → wait_unless ls o ≡ Some what → WaitsFor ls o what
waits_for [] o what h = record { none = refl; is = h }
waits_for (y ∷ ys) o what h = cc

-- by what is noted
pub blocked_by : (b : Book) (t : ℕ) (what : What) → wait_unless (listed_places t b.entries) (wait_in (last_of_thread t None b.entries)) ≡ Some what
    → IsDisabledFor (setting b) (front b) t what → IsBlocked (setting b) (front b) t
blocked_by b t what says disabled =
    let x = waits_for (listed_places t b.entries) (wait_in (last_of_thread t None b.entries)) what says in
    let o = blocked_entry (last_of_thread t None b.entries) what x.is in
    subst (λ z. IsBlockedBy (setting b) (front b) t z) (sym o.is) (disabled, x.none)

pub free_by : (b : Book) (t : ℕ) (what : What) → wait_unless (listed_places t b.entries) (wait_in (last_of_thread t None b.entries)) ≡ Some what
    → (IsDisabledFor (setting b) (front b) t what → ⊥) → IsBlocked (setting b) (front b) t → ⊥
free_by b t what says enabled blocked =
    let x = waits_for (listed_places t b.entries) (wait_in (last_of_thread t None b.entries)) what says in
    let o = blocked_entry (last_of_thread t None b.entries) what x.is in
    enabled (subst (λ z. IsBlockedBy (setting b) (front b) t z) o.is blocked).0

pub free_without : (b : Book) (t : ℕ) (o : Option Entry) → wait_in o ≡ None → IsBlockedBy (setting b) (front b) t o → ⊥
free_without b t None says blocked = absurd blocked
free_without b t (Some (e.Begin u l)) says blocked = absurd blocked
free_without b t (Some (e.End u l)) says blocked = absurd blocked
free_without b t (Some (e.Trap u l r)) says blocked = absurd blocked
free_without b t (Some (e.Read u l x v)) says blocked = absurd blocked
free_without b t (Some (e.Write u l x v)) says blocked = absurd blocked
free_without b t (Some (e.Lock u l m)) says blocked = absurd blocked
free_without b t (Some (e.Unlock u l m)) says blocked = absurd blocked
free_without b t (Some (e.Down u l m)) says blocked = absurd blocked
free_without b t (Some (e.Up u l m)) says blocked = absurd blocked
free_without b t (Some (e.Spawn u l d f vs)) says blocked = absurd blocked
free_without b t (Some (e.Join u l d)) says blocked = absurd blocked
free_without b t (Some (e.Print u l v)) says blocked = absurd blocked
free_without b t (Some (e.Tick u l k)) says blocked = absurd blocked
free_without b t (Some (e.Blocked u l y)) says blocked = cc
free_without b t (Some (e.At u l k ns)) says blocked = absurd blocked
free_without b t (Some (e.Past u l k ns)) says blocked = absurd blocked
free_without b t (Some (e.Back u l)) says blocked = absurd blocked
free_without b t (Some (e.Enter u l k n)) says blocked = absurd blocked
free_without b t (Some (e.Leave u l k n)) says blocked = absurd blocked
free_without b t (Some (e.Post u l k n)) says blocked = absurd blocked
free_without b t (Some (e.Wait u l k n)) says blocked = absurd blocked
free_without b t (Some (e.Cross u l x v n)) says blocked = absurd blocked
free_without b t (Some (e.Asked k)) says blocked = absurd blocked
free_without b t (Some (e.Refused k n m)) says blocked = absurd blocked
free_without b t (Some (e.Installed k v ps)) says blocked = absurd blocked
free_without b t (Some (e.Removed k v ps)) says blocked = absurd blocked
free_without b t (Some (e.Stalled k u l)) says blocked = absurd blocked
free_without b t (Some (e.Cut k)) says blocked = absurd blocked
free_without b t (Some (e.Unreached k)) says blocked = absurd blocked
free_without b t (Some (e.Finish kind)) says blocked = absurd blocked

-- where nothing is noted
pub free_unnoted : (b : Book) (t : ℕ) → wait_unless (listed_places t b.entries) (wait_in (last_of_thread t None b.entries)) ≡ None → IsBlocked (setting b) (front b) t → ⊥
free_unnoted b t says blocked = by_wait (wait_in (last_of_thread t None b.entries)) refl
  where
    by_wait : (w : Option What) → wait_in (last_of_thread t None b.entries) ≡ w → ⊥
    by_wait None is = free_without b t (last_of_thread t None b.entries) is blocked
    by_wait (Some what) is =
        let o = blocked_entry (last_of_thread t None b.entries) what is in
        let none : listed_places t b.entries ≡ [] = (subst (λ z. IsBlockedBy (setting b) (front b) t z) o.is blocked).1 in
        let no : Some what ≡ None = sym is ∙ (sym (ap (λ ls. wait_unless ls (wait_in (last_of_thread t None b.entries))) none) ∙ says) in cc

-- Ends

pub ends_at_limit : (b : Book) → (thread_entries b.entries == b.limit) ≡ true → Ends (setting b) (front b) k.Limit
ends_at_limit b full = (never_stopped b.entries, full)

pub ends_done : (b : Book) → (thread_entries b.entries == b.limit) ≡ false → (IsDue (setting b) (front b) → ⊥) → AllEnded b.store → Ends (setting b) (front b) k.Done
ends_done b less not_due ended = (over_is b ∙ less, (ended, not_due))

pub ends_stuck : (b : Book) → (thread_entries b.entries == b.limit) ≡ false → (IsDue (setting b) (front b) → ⊥) → (t : ℕ) → Lives b.store t → ((u : ℕ) → Lives b.store u → IsBlocked (setting b) (front b) u)
    → Ends (setting b) (front b) k.Stuck
ends_stuck b less not_due t lives blocked = (over_is b ∙ less, (record { live = t; lives = lives; stuck = λ u l. inl (blocked u l) }, not_due))

still_lives : (s : Store) (t : ℕ) → Lives s t → AllEnded s → ⊥
still_lives s t lives ended = let yes : lives.state.ended ≡ true = ended t lives.state lives.is in let no : true ≡ false = sym yes ∙ lives.not_ended in cc

-- Where a thread can go on, and the limit isn't reached, the run doesn't end.
pub goes_on : (b : Book) (h : HasLawfulJournal b) → (thread_entries b.entries == b.limit) ≡ false → (t : ℕ) → CanGoOn b t → (kind : Ending) → Ends (setting b) (front b) kind → ⊥
goes_on b h less t can k.Stopped ends = let no : false ≡ true = sym (never_stopped b.entries) ∙ ends in cc
goes_on b h less t can k.Limit ends = let no : false ≡ true = sym less ∙ ends.1 in cc
goes_on b h less t can k.Done ends = still_lives b.store t can.lives ends.1.0
goes_on b h less t can k.Stuck ends = stuck (ends.1.0.stuck t can.lives)
  where
    stuck : IsBlocked (setting b) (front b) t ⊎ IsHeldOff (setting b) (front b) t → ⊥
    stuck (inl g) = can.free g
    stuck (inr g) = not_held_off b h t g

-- Where the limit isn't reached and a command is due, it doesn't end either.
pub due_goes_on : (b : Book) → (thread_entries b.entries == b.limit) ≡ false → IsDue (setting b) (front b) → (kind : Ending) → Ends (setting b) (front b) kind → ⊥
due_goes_on b less due k.Stopped ends = let no : false ≡ true = sym (never_stopped b.entries) ∙ ends in cc
due_goes_on b less due k.Limit ends = let no : false ≡ true = sym less ∙ ends.1 in cc
due_goes_on b less due k.Done ends = ends.1.1 due
due_goes_on b less due k.Stuck ends = ends.1.1 due

-- Where it ends no thread goes on.
pub none_goes_on : (b : Book) → HasLawfulJournal b → (kind : Ending) → Ends (setting b) (front b) kind → NoneGoesOn b
none_goes_on b h k.Stopped ends = let no : false ≡ true = sym (never_stopped b.entries) ∙ ends in cc
none_goes_on b h k.Limit ends = inl (over_is b ∙ ends.1)
none_goes_on b h k.Done ends = inr (λ t lives. absurd (still_lives b.store t lives ends.1.0))
none_goes_on b h k.Stuck ends = inr (λ t lives. blocked t (ends.1.0.stuck t lives))
  where
    blocked : (t : ℕ) → IsBlocked (setting b) (front b) t ⊎ IsHeldOff (setting b) (front b) t → IsBlocked (setting b) (front b) t
    blocked t (inl g) = g
    blocked t (inr g) = absurd (not_held_off b h t g)
