-- What each target entry of a journal tells.
use Rattle.std.specs.Prelude.{ℕ, ◌==◌, Bool, true, false, List, [], ◌∷◌, if◌then◌else◌}
use Rattle.loom_trace.specs.declared.entry.Entry.{Entry}
use Rattle.loom_trace.specs.declared.entry.Entry.TheVariants as e
use Rattle.loom_lang.specs.Trace.{Act, begin, end, trap, read, write, lock, unlock, down, up, spawn, join, print, reason}
use Rattle.loom_lang.specs.Acts.{Deed}

-- an act of a thread at a line
pub record TargetEvent : Type 0 where
  pub thread : ℕ
  pub line : ℕ
  pub act : Act

abbrev pub event_of_deed : ℕ → Deed → TargetEvent
event_of_deed t d = record { thread = t; line = d.line; act = d.act }

-- The entry of an event. Of a trap it tells the reason's number alone.
abbrev pub entry_by : ℕ → ℕ → Act → Entry
entry_by t l begin = e.Begin t l
entry_by t l end = e.End t l
entry_by t l (trap c) = e.Trap t l (reason c)
entry_by t l (read w v) = e.Read t l w v
entry_by t l (write w v) = e.Write t l w v
entry_by t l (lock m) = e.Lock t l m
entry_by t l (unlock m) = e.Unlock t l m
entry_by t l (down s) = e.Down t l s
entry_by t l (up s) = e.Up t l s
entry_by t l (spawn c f vs) = e.Spawn t l c f vs
entry_by t l (join c) = e.Join t l c
entry_by t l (print v) = e.Print t l v

abbrev pub entry_of : TargetEvent → Entry
entry_of x = entry_by x.thread x.line x.act

-- the target entries: those of a run of the program
abbrev pub is_target : Entry → Bool
is_target (e.Begin t l) = true
is_target (e.End t l) = true
is_target (e.Trap t l r) = true
is_target (e.Read t l w v) = true
is_target (e.Write t l w v) = true
is_target (e.Lock t l m) = true
is_target (e.Unlock t l m) = true
is_target (e.Down t l s) = true
is_target (e.Up t l s) = true
is_target (e.Spawn t l c f vs) = true
is_target (e.Join t l c) = true
is_target (e.Print t l v) = true
is_target _ = false

abbrev pub targets : List Entry → List Entry
targets [] = []
targets (x ∷ xs) = if is_target x then x ∷ targets xs else targets xs

-- what one thread did, in its order
abbrev pub deeds : ℕ → List TargetEvent → List Deed
deeds t [] = []
deeds t (x ∷ xs) = if x.thread == t then record { line = x.line; act = x.act } ∷ deeds t xs else deeds t xs
