-- The last entry of a thread, and what it is blocked at by it.
use Rattle.std.proofs.Common.{ℕ, ◌≡◌, true, false, List, [], ◌∷◌, ◌++◌, Option, Some, None, refl, ap, if◌then◌else◌}
use Rattle.loom_trace.specs.declared.entry.Entry.{Entry}
use Rattle.loom_trace.specs.declared.entry.Entry.TheVariants as e
use Rattle.loom_trace.specs.declared.entry.What.{What}
use Rattle.loom_event.specs.Entries.{thread_of, is_thread, last_of_thread}
use Rattle.loom_world.specs.BookInvariant.{wait_in}

pub last_mine : (t : ℕ) (o : Option Entry) (es : List Entry) (x : Entry) → is_thread t (thread_of x) ≡ true → last_of_thread t o (es ++ x ∷ []) ≡ Some x
last_mine t o [] x h = rw h refl
last_mine t o (y ∷ es) x h = last_mine t (if is_thread t (thread_of y) then Some y else o) es x h

pub last_other : (t : ℕ) (o : Option Entry) (es : List Entry) (x : Entry) → is_thread t (thread_of x) ≡ false → last_of_thread t o (es ++ x ∷ []) ≡ last_of_thread t o es
last_other t o [] x h = rw h refl
last_other t o (y ∷ es) x h = last_other t (if is_thread t (thread_of y) then Some y else o) es x h

-- what a thread is blocked at by its last entry
pub record IsBlockedEntry (o : Option Entry) (what : What) : Type 0 where
  pub thread : ℕ
  pub line : ℕ
  pub is : o ≡ Some (e.Blocked thread line what)

pub blocked_entry : (o : Option Entry) (what : What) → wait_in o ≡ Some what → IsBlockedEntry o what
blocked_entry None what h = cc
blocked_entry (Some (e.Begin t l)) what h = cc
blocked_entry (Some (e.End t l)) what h = cc
blocked_entry (Some (e.Trap t l r)) what h = cc
blocked_entry (Some (e.Read t l x v)) what h = cc
blocked_entry (Some (e.Write t l x v)) what h = cc
blocked_entry (Some (e.Lock t l m)) what h = cc
blocked_entry (Some (e.Unlock t l m)) what h = cc
blocked_entry (Some (e.Down t l m)) what h = cc
blocked_entry (Some (e.Up t l m)) what h = cc
blocked_entry (Some (e.Spawn t l d f vs)) what h = cc
blocked_entry (Some (e.Join t l d)) what h = cc
blocked_entry (Some (e.Print t l v)) what h = cc
blocked_entry (Some (e.Tick t l k)) what h = cc
blocked_entry (Some (e.Blocked t l y)) what h = record { thread = t; line = l; is = let same : y ≡ what = cc in ap (λ z. Some (e.Blocked t l z)) same }
blocked_entry (Some (e.At t l k ns)) what h = cc
blocked_entry (Some (e.Past t l k ns)) what h = cc
blocked_entry (Some (e.Back t l)) what h = cc
blocked_entry (Some (e.Enter t l k n)) what h = cc
blocked_entry (Some (e.Leave t l k n)) what h = cc
blocked_entry (Some (e.Post t l k n)) what h = cc
blocked_entry (Some (e.Wait t l k n)) what h = cc
blocked_entry (Some (e.Cross t l x v n)) what h = cc
blocked_entry (Some (e.Asked k)) what h = cc
blocked_entry (Some (e.Refused k n m)) what h = cc
blocked_entry (Some (e.Installed k v ps)) what h = cc
blocked_entry (Some (e.Removed k v ps)) what h = cc
blocked_entry (Some (e.Stalled k t l)) what h = cc
blocked_entry (Some (e.Cut k)) what h = cc
blocked_entry (Some (e.Unreached k)) what h = cc
blocked_entry (Some (e.Finish kind)) what h = cc
