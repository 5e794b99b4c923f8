-- What a book keeps, as its calls read it.
use Rattle.std.proofs.Common.{ℕ, zero, suc, ◌+◌, ◌-◌, ◌<◌, ◌≤◌, ◌≡◌, ◌⊎◌, inl, inr, ◌==◌, Bool, true, false, not, length, get_or, slice_get, Option, Some, None, refl, sym, ap, ◌∙◌, subst, arith}
use Rattle.std.proofs.lemmas.Option.{slice_get_read, slice_get_within}
use Rattle.loom_trace.specs.Limits.{thread_limit}
use Rattle.loom_trace.specs.declared.entry.What.{What}
use Rattle.loom_event.specs.Entries.{thread_entries, last_of_thread}
use Rattle.loom_event.specs.Replay.{ThreadState, Store, thread_at, AllEnded}
use Rattle.loom_law.specs.Control.{listed_places}
use Rattle.loom_law.specs.Lawful.{run_is_over, Lives, IsDisabledFor, IsBlocked}
use Rattle.loom_law.proofs.Earlier.{same_number}
use Rattle.loom_law.proofs.Turns.{eq_same}
use Rattle.loom_world.specs.Book.{Book, setting, front}
use Rattle.loom_world.specs.Idle.{HasFinish, IsClosed}
use Rattle.loom_world.specs.BookInvariant.{Notes, wait_in, wait_unless, CanAwait, IsAtEnd, BookInvariant}
use Rattle.loom_world.proofs.Ends.{over_is, blocked_by, free_by, free_unnoted}

end_if : (b : Book) (f c : Bool) → f ≡ c → IsAtEnd b f → IsAtEnd b c
end_if b f c is h = subst (λ z. IsAtEnd b z) is h

pub is_written : (b : Book) (n : Notes) → BookInvariant b n → n.finished ≡ true → HasFinish b
is_written b n k is = end_if b n.finished true is k.end

pub not_written : (b : Book) (n : Notes) → BookInvariant b n → n.finished ≡ false → HasFinish b → ⊥
not_written b n k is h = end_if b n.finished false is k.end h.0 h.1

pub unfinished_by : (b : Book) (n : Notes) → BookInvariant b n → (HasFinish b → ⊥) → n.finished ≡ false
unfinished_by b n k not = by_end n.finished refl
  where
    by_end : (c : Bool) → n.finished ≡ c → n.finished ≡ false
    by_end true e = absurd (not (is_written b n k e))
    by_end false e = e

-- The journal has room for one entry more.
pub room_left : (b : Book) (n : Notes) → BookInvariant b n → n.finished ≡ false → 0 < n.room
room_left b n k is =
    let count = k.commands.count is in
    omega (arith, count, k.commands.last, k.commands.few, k.commands.room, k.few)

pub count_is : (b : Book) (n : Notes) → BookInvariant b n → (n.entry_count == b.limit) ≡ (thread_entries b.entries == b.limit)
count_is b n k = ap (λ z. z == b.limit) k.entry_count

pub full_over : (b : Book) (n : Notes) → BookInvariant b n → (n.entry_count == b.limit) ≡ true → run_is_over (setting b) (front b) ≡ true
full_over b n k full = over_is b ∙ (sym (count_is b n k) ∙ full)

pub less_goes_on : (b : Book) (n : Notes) → BookInvariant b n → (n.entry_count == b.limit) ≡ false → run_is_over (setting b) (front b) ≡ false
less_goes_on b n k less = over_is b ∙ (sym (count_is b n k) ∙ less)

pub open_if : (b : Book) (n : Notes) → BookInvariant b n → n.finished ≡ false → (n.entry_count == b.limit) ≡ false → IsClosed b → ⊥
open_if b n k is less (inl over_so) = let same : true ≡ false = sym over_so ∙ less_goes_on b n k less in cc
open_if b n k is less (inr h) = not_written b n k is h

-- Where it goes on the limit isn't reached, and it isn't finished.
pub not_full : (b : Book) (n : Notes) → BookInvariant b n → (IsClosed b → ⊥) → n.entry_count < b.limit
not_full b n k goes_on = by_count (n.entry_count == b.limit) refl
  where
    by_count : (c : Bool) → (n.entry_count == b.limit) ≡ c → n.entry_count < b.limit
    by_count true e = absurd (goes_on (inl (full_over b n k e)))
    by_count false e =
        let ne : n.entry_count ≡ b.limit → ⊥ = λ g. (let same : true ≡ false = sym (eq_same b.limit) ∙ subst (λ z. (z == b.limit) ≡ false) g e in cc) in
        omega (arith, ne, k.few)

pub not_finished : (b : Book) (n : Notes) → BookInvariant b n → (IsClosed b → ⊥) → n.finished ≡ false
not_finished b n k goes_on = unfinished_by b n k (λ h. goes_on (inr h))

-- What a thread is blocked at

note_at : (b : Book) (n : Notes) (k : BookInvariant b n) (t : ℕ) (o w : Option What) → 1 ≤ t → t ≤ thread_limit → o ≡ get_or n.waits (t - 1) o → o ≡ w → slice_get n.waits (t - 1) ≡ Some w
note_at b n k t o w first last is same =
    slice_get_read n.waits (length n.waits) (t - 1) o refl (omega (arith, first, last, k.waits.count)) is ∙ ap Some same

next : (t : ℕ) → 1 ≤ t → suc (t - 1) ≡ t
next t h = omega (arith, h)

-- what is noted of a thread
abbrev pub wait_at : Book → ℕ → Option What
wait_at b t = wait_unless (listed_places t b.entries) (wait_in (last_of_thread t None b.entries))

pub note_says : (b : Book) (n : Notes) (k : BookInvariant b n) (t : ℕ) (o w : Option What) → 1 ≤ t → t ≤ thread_limit → o ≡ get_or n.waits (t - 1) o → o ≡ w → wait_at b t ≡ w
note_says b n k t o w first last is same =
    let each = k.waits.each (t - 1) w (note_at b n k t o w first last is same) in
    ap (wait_at b) (sym (next t first)) ∙ sym each

pub note_can : (b : Book) (n : Notes) (k : BookInvariant b n) (t : ℕ) (o : Option What) (w : What) → 1 ≤ t → t ≤ thread_limit → o ≡ get_or n.waits (t - 1) o → o ≡ Some w → CanAwait b.store w
note_can b n k t o w first last is same = k.waits.can (t - 1) w (note_at b n k t o (Some w) first last is same)

pub is_blocked_at : (b : Book) (n : Notes) (k : BookInvariant b n) (t : ℕ) (o : Option What) (w : What) → 1 ≤ t → t ≤ thread_limit → o ≡ get_or n.waits (t - 1) o → o ≡ Some w
    → IsDisabledFor (setting b) (front b) t w → IsBlocked (setting b) (front b) t
is_blocked_at b n k t o w first last is same disabled = blocked_by b t w (note_says b n k t o (Some w) first last is same) disabled

pub is_free_at : (b : Book) (n : Notes) (k : BookInvariant b n) (t : ℕ) (o : Option What) (w : What) → 1 ≤ t → t ≤ thread_limit → o ≡ get_or n.waits (t - 1) o → o ≡ Some w
    → (IsDisabledFor (setting b) (front b) t w → ⊥) → IsBlocked (setting b) (front b) t → ⊥
is_free_at b n k t o w first last is same enabled = free_by b t w (note_says b n k t o (Some w) first last is same) enabled

pub is_free_without : (b : Book) (n : Notes) (k : BookInvariant b n) (t : ℕ) (o : Option What) → 1 ≤ t → t ≤ thread_limit → o ≡ get_or n.waits (t - 1) o → o ≡ None
    → IsBlocked (setting b) (front b) t → ⊥
is_free_without b n k t o first last is same = free_unnoted b t (note_says b n k t o None first last is same)

-- Threads have the numbers that there may be.
pub live_number : (b : Book) (n : Notes) → BookInvariant b n → (t : ℕ) → Lives b.store t → (1 ≤ t) × (t ≤ thread_limit)
live_number b n k zero h = cc (h.is)
live_number b n k (suc i) h =
    let there : i < length b.store.spawned = slice_get_within b.store.spawned i h.state h.is in
    (omega arith, omega (arith, there, k.few_threads))

-- Loops over the threads

before_first : (u : ℕ) → u < 1 → u ≡ 0
before_first u h = omega (arith, h)

pub none_first : (s : Store) (u : ℕ) (x : ThreadState) → u < 1 → thread_at s u ≡ Some x → x.ended ≡ true
none_first s u x h is = let no : None ≡ Some x = sym (ap (thread_at s) (before_first u h)) ∙ is in cc

pub up_to : (u t : ℕ) → u < t + 1 → (u < t) ⊎ (u ≡ t)
up_to u t h = by_test (u == t) refl
  where
    by_test : (c : Bool) → (u == t) ≡ c → (u < t) ⊎ (u ≡ t)
    by_test true e = inr (same_number u t e)
    by_test false e = inl (let ne : u ≡ t → ⊥ = λ g. (let same : true ≡ false = sym (eq_same t) ∙ subst (λ z. (z == t) ≡ false) g e in cc) in omega (arith, ne, h))

pub ended_more : (s : Store) (t : ℕ) → ((u : ℕ) (x : ThreadState) → u < t → thread_at s u ≡ Some x → x.ended ≡ true) → ((x : ThreadState) → thread_at s t ≡ Some x → x.ended ≡ true)
    → (u : ℕ) (x : ThreadState) → u < t + 1 → thread_at s u ≡ Some x → x.ended ≡ true
ended_more s t before here u x less is = either (up_to u t less)
  where
    either : (u < t) ⊎ (u ≡ t) → x.ended ≡ true
    either (inl h) = before u x h is
    either (inr h) = here x (subst (λ z. thread_at s z ≡ Some x) h is)

pub blocked_first : (b : Book) (u : ℕ) → u < 1 → Lives b.store u → IsBlocked (setting b) (front b) u
blocked_first b u h lives = let no : None ≡ Some lives.state = sym (ap (thread_at b.store) (before_first u h)) ∙ lives.is in cc

pub blocked_more : (b : Book) (t : ℕ) → ((u : ℕ) → u < t → Lives b.store u → IsBlocked (setting b) (front b) u) → (Lives b.store t → IsBlocked (setting b) (front b) t)
    → (u : ℕ) → u < t + 1 → Lives b.store u → IsBlocked (setting b) (front b) u
blocked_more b t before here u less lives = either (up_to u t less)
  where
    either : (u < t) ⊎ (u ≡ t) → IsBlocked (setting b) (front b) u
    either (inl h) = before u h lives
    either (inr h) = subst (λ z. IsBlocked (setting b) (front b) z) (sym h) (here (subst (λ z. Lives b.store z) h lives))

thread_number : (s : Store) → length s.spawned ≤ thread_limit → (t : ℕ) (x : ThreadState) → thread_at s t ≡ Some x → t < suc thread_limit
thread_number s few zero x h = cc
thread_number s few (suc i) x h = let there : i < length s.spawned = slice_get_within s.spawned i x h in omega (arith, there, few)

pub all_ended : (s : Store) → length s.spawned ≤ thread_limit → (n : ℕ) → n ≡ suc thread_limit → ((u : ℕ) (x : ThreadState) → u < n → thread_at s u ≡ Some x → x.ended ≡ true) → AllEnded s
all_ended s few n is h t x there = h t x (omega (arith, is, thread_number s few t x there)) there

pub all_blocked : (b : Book) → length b.store.spawned ≤ thread_limit → (n : ℕ) → n ≡ suc thread_limit → ((u : ℕ) → u < n → Lives b.store u → IsBlocked (setting b) (front b) u)
    → (t : ℕ) → Lives b.store t → IsBlocked (setting b) (front b) t
all_blocked b few n is h t lives = h t (omega (arith, is, thread_number b.store few t lives.state lives.is)) lives

pub not_true : (c : Bool) → not c ≡ true → c ≡ false
not_true true h = cc
not_true false h = refl

pub not_false : (c : Bool) → not c ≡ false → c ≡ true
not_false true h = refl
not_false false h = cc

-- as many entries as there may be, or fewer
pub entries_at : (b : Book) (n : Notes) → BookInvariant b n → (c : Bool) → (n.entry_count == b.limit) ≡ c → (thread_entries b.entries == b.limit) ≡ c
entries_at b n k c h = sym (count_is b n k) ∙ h
