-- Worked programs, their runs, and lists that are no run.
use Rattle.std.proofs.Common.{ℕ, ◌≡◌, inl, inr, pos, List, [], ◌∷◌, ◌++◌, map, Some, None, refl, ap, subst, codes, arith, rules}
use Rattle.loom_trace.specs.declared.entry.Entry.{Entry}
use Rattle.loom_trace.specs.declared.entry.Entry.TheVariants as e
use Rattle.loom_tree.specs.declared.expression.Op.TheVariants as o
use Rattle.loom_tree.specs.Tree.{num, var, bin, Right, Simple, let_, set, simple, while_, Source}
use Rattle.loom_tree.specs.Tree as tree
use Rattle.loom_lang.specs.Rules.{KeepsRules}
use Rattle.loom_lang.specs.Trace.{Act, begin, end, trap, threads, overflow, read, write, lock, spawn, join, print, Finished, Open}
use Rattle.loom_lang.specs.Acts.{Deed, IsAlike}
use Rattle.loom_lang.proofs.Examples.{tested}
use Rattle.loom_lang.proofs.NextAct.{one_next_act}
use Rattle.loom_lang.proofs.Examples.{calls}
use Rattle.loom_event.specs.TargetEvent.{TargetEvent}
use Rattle.loom_event.specs.Replay.{start, thread_at, replay, AreAllowed}
use Rattle.loom_event.specs.Run.{IsTraced, IsThreadTraced, IsRun}
use Rattle.loom_event.proofs.Runs.{next, given, threads_traced, begins, does, allowed_behind, event_of, events_told}

abbrev pub deed : ℕ → Act → Deed
deed l a = record { line = l; act = a }

abbrev pub event : ℕ → ℕ → Act → TargetEvent
event t l a = record { thread = t; line = l; act = a }

-- Two threads add to a word

-- 1  shared x;
-- 2  fn add() {
-- 3    x = x + 1;
-- 4  }
-- 5  fn main() {
-- 6    let a = spawn add();
-- 7    x = x + 1;
-- 8    join a;
-- 9    print x;
-- 10 }
abbrev pub adds : Source
adds = record {
  words = record { name = codes "x"; cells = None; first = pos 0 } ∷ [];
  mutexes = [];
  semas = [];
  funcs = record {
    name = codes "add";
    line = 2;
    params = [];
    body = simple 3 (set (codes "x") (Right.value (bin o.Add (var (codes "x")) (num (pos 1))))) tree.end;
  } ∷ record {
    name = codes "main";
    line = 5;
    params = [];
    body = simple 6 (let_ (codes "a") (Right.spawn (codes "add") []))
        (simple 7 (set (codes "x") (Right.value (bin o.Add (var (codes "x")) (num (pos 1)))))
        (simple 8 (tree.join (var (codes "a")))
        (simple 9 (tree.print (var (codes "x"))) tree.end)));
  } ∷ [];
}

pub adds_lawful : KeepsRules adds
adds_lawful = tested adds (search rules) refl

abbrev pub adds_events : List TargetEvent
adds_events =
    event 1 5 begin ∷ event 1 6 (spawn 2 0 []) ∷ event 2 2 begin ∷ event 1 7 (read 0 (pos 0)) ∷ event 2 3 (read 0 (pos 0))
    ∷ event 1 7 (write 0 (pos 1)) ∷ event 2 3 (write 0 (pos 1)) ∷ event 2 2 end ∷ event 1 8 (join 2) ∷ event 1 9 (read 0 (pos 1))
    ∷ event 1 9 (print (pos 1)) ∷ event 1 5 end ∷ []

abbrev pub adds_entries : List Entry
adds_entries =
    e.Begin 1 5 ∷ e.Spawn 1 6 2 0 [] ∷ e.Begin 2 2 ∷ e.Read 1 7 0 (pos 0) ∷ e.Read 2 3 0 (pos 0) ∷ e.Write 1 7 0 (pos 1) ∷ e.Write 2 3 0 (pos 1)
    ∷ e.End 2 2 ∷ e.Join 1 8 2 ∷ e.Read 1 9 0 (pos 1) ∷ e.Print 1 9 (pos 1) ∷ e.End 1 5 ∷ []

-- what `add` does where it reads 0
add_traced : IsTraced adds 0 [] (deed 2 begin ∷ deed 3 (read 0 (pos 0)) ∷ deed 3 (write 0 (pos 1)) ∷ deed 2 end ∷ [])
add_traced = record {
  items = _;
  outcome = Finished;
  trace = record {
    most_turns = 0;
    gives =
        next (next
        (next (given (pos 0) (next (next (next
        (next (next (refl, inl refl)))))))));
  };
  same = refl;
}

adding_traced : IsTraced adds 1 [] (deed 5 begin ∷ deed 6 (spawn 2 0 []) ∷ deed 7 (read 0 (pos 0)) ∷ deed 7 (write 0 (pos 1)) ∷ deed 8 (join 2)
    ∷ deed 9 (read 0 (pos 1)) ∷ deed 9 (print (pos 1)) ∷ deed 5 end ∷ [])
adding_traced = record {
  items = _;
  outcome = Finished;
  trace = record {
    most_turns = 0;
    gives =
        next (next
        (next (inr (given 2 (next (next
        (next (given (pos 0) (next (next (next
        (next (inr (next (next
        (next (given (pos 1) (next (next (next
        (next (next (refl, inl refl)))))))))))))))))))))));
  };
  same = refl;
}

pub adds_run : IsRun adds 8 adds_entries
adds_run = record {
  events = adds_events;
  told = refl;
  run = record {
    traced = threads_traced adds 8 adds_events (adding_traced, (add_traced, tt)) refl refl;
    allowed =
        begins refl refl (does refl (refl, omega arith) (begins refl refl (does refl refl (does refl refl (does refl tt (does refl tt (does refl tt
        (does refl (record { state = _; is = refl; ended = refl }) (does refl refl (does refl tt (does refl tt tt)))))))))));
  };
}

-- The write of thread 2 is lost: behind its read it asks for a write, and not for its end.
abbrev pub lost_events : List TargetEvent
lost_events =
    event 1 5 begin ∷ event 1 6 (spawn 2 0 []) ∷ event 2 2 begin ∷ event 1 7 (read 0 (pos 0)) ∷ event 2 3 (read 0 (pos 0))
    ∷ event 1 7 (write 0 (pos 1)) ∷ event 2 2 end ∷ event 1 8 (join 2) ∷ event 1 9 (read 0 (pos 1)) ∷ event 1 9 (print (pos 1)) ∷ event 1 5 end ∷ []

abbrev pub lost_entries : List Entry
lost_entries =
    e.Begin 1 5 ∷ e.Spawn 1 6 2 0 [] ∷ e.Begin 2 2 ∷ e.Read 1 7 0 (pos 0) ∷ e.Read 2 3 0 (pos 0) ∷ e.Write 1 7 0 (pos 1) ∷ e.End 2 2 ∷ e.Join 1 8 2
    ∷ e.Read 1 9 0 (pos 1) ∷ e.Print 1 9 (pos 1) ∷ e.End 1 5 ∷ []

pub lost_is_no_run : IsRun adds 8 lost_entries → ⊥
lost_is_no_run h =
    let same : h.events ≡ lost_events = events_told h.events lost_events (ap (map event_of) h.told) in
    let P : List TargetEvent → Type 0 = λ xs. IsThreadTraced adds xs 2 (thread_at (replay (start adds 8) xs) 2) in
    let lost : IsTraced adds 0 [] (deed 2 begin ∷ deed 3 (read 0 (pos 0)) ∷ deed 2 end ∷ []) = subst P same (h.run.traced 2) in
    let good = add_traced in
    let front : List Deed = deed 2 begin ∷ deed 3 (read 0 (pos 0)) ∷ [] in
    let alike : IsAlike (deed 3 (write 0 (pos 1))) (deed 2 end) =
    one_next_act adds 0 [] good.items lost.items good.outcome lost.outcome good.trace lost.trace front _ _ _ _ good.same lost.same in
    let equal : write 0 (pos 1) ≡ end = alike.act in
    cc

-- The last read gives 7, where the word is 1.
abbrev pub changed_front : List TargetEvent
changed_front =
    event 1 5 begin ∷ event 1 6 (spawn 2 0 []) ∷ event 2 2 begin ∷ event 1 7 (read 0 (pos 0)) ∷ event 2 3 (read 0 (pos 0))
    ∷ event 1 7 (write 0 (pos 1)) ∷ event 2 3 (write 0 (pos 1)) ∷ event 2 2 end ∷ event 1 8 (join 2) ∷ []

abbrev pub changed_rest : List TargetEvent
changed_rest = event 1 9 (read 0 (pos 7)) ∷ event 1 9 (print (pos 7)) ∷ event 1 5 end ∷ []

abbrev pub changed_entries : List Entry
changed_entries =
    e.Begin 1 5 ∷ e.Spawn 1 6 2 0 [] ∷ e.Begin 2 2 ∷ e.Read 1 7 0 (pos 0) ∷ e.Read 2 3 0 (pos 0) ∷ e.Write 1 7 0 (pos 1) ∷ e.Write 2 3 0 (pos 1)
    ∷ e.End 2 2 ∷ e.Join 1 8 2 ∷ e.Read 1 9 0 (pos 7) ∷ e.Print 1 9 (pos 7) ∷ e.End 1 5 ∷ []

pub changed_is_no_run : IsRun adds 8 changed_entries → ⊥
changed_is_no_run h =
    let same : h.events ≡ changed_front ++ changed_rest = events_told h.events (changed_front ++ changed_rest) (ap (map event_of) h.told) in
    let allowed : AreAllowed (start adds 8) (changed_front ++ changed_rest) = subst (AreAllowed (start adds 8)) same h.run.allowed in
    let behind : AreAllowed (replay (start adds 8) changed_front) changed_rest = allowed_behind (start adds 8) changed_front changed_rest allowed in
    let word : Some (pos 1) ≡ Some (pos 7) = behind.0.1 in
    cc

-- One thread calls, loops and counts

abbrev pub calls_events : List TargetEvent
calls_events =
    event 1 5 begin ∷ event 1 3 (read 0 (pos 0)) ∷ event 1 3 (write 0 (pos 1)) ∷ event 1 9 (read 0 (pos 1)) ∷ event 1 9 (write 0 (pos 2))
    ∷ event 1 3 (read 0 (pos 2)) ∷ event 1 3 (write 0 (pos 3)) ∷ event 1 9 (read 0 (pos 3)) ∷ event 1 9 (write 0 (pos 6)) ∷ event 1 3 (read 0 (pos 6))
    ∷ event 1 3 (write 0 (pos 7)) ∷ event 1 9 (read 0 (pos 7)) ∷ event 1 9 (write 0 (pos 14)) ∷ event 1 12 (read 0 (pos 14))
    ∷ event 1 12 (print (pos 14)) ∷ event 1 5 end ∷ []

abbrev pub calls_entries : List Entry
calls_entries =
    e.Begin 1 5 ∷ e.Read 1 3 0 (pos 0) ∷ e.Write 1 3 0 (pos 1) ∷ e.Read 1 9 0 (pos 1) ∷ e.Write 1 9 0 (pos 2) ∷ e.Read 1 3 0 (pos 2)
    ∷ e.Write 1 3 0 (pos 3) ∷ e.Read 1 9 0 (pos 3) ∷ e.Write 1 9 0 (pos 6) ∷ e.Read 1 3 0 (pos 6) ∷ e.Write 1 3 0 (pos 7) ∷ e.Read 1 9 0 (pos 7)
    ∷ e.Write 1 9 0 (pos 14) ∷ e.Read 1 12 0 (pos 14) ∷ e.Print 1 12 (pos 14) ∷ e.End 1 5 ∷ []

calling_traced : IsTraced calls 1 [] (deed 5 begin ∷ deed 3 (read 0 (pos 0)) ∷ deed 3 (write 0 (pos 1)) ∷ deed 9 (read 0 (pos 1))
    ∷ deed 9 (write 0 (pos 2)) ∷ deed 3 (read 0 (pos 2)) ∷ deed 3 (write 0 (pos 3)) ∷ deed 9 (read 0 (pos 3)) ∷ deed 9 (write 0 (pos 6))
    ∷ deed 3 (read 0 (pos 6)) ∷ deed 3 (write 0 (pos 7)) ∷ deed 9 (read 0 (pos 7)) ∷ deed 9 (write 0 (pos 14)) ∷ deed 12 (read 0 (pos 14))
    ∷ deed 12 (print (pos 14)) ∷ deed 5 end ∷ [])
calling_traced = record {
  items = _;
  outcome = Finished;
  trace = record {
    most_turns = 4;
    gives =
        next (next
        (next (next
        (next
        (next (next (next (given (pos 0) (next (next (next (next (next
        (next (given (pos 1) (next (next (next
        (next (next (next
        (next (next (next (given (pos 2) (next (next (next (next (next
        (next (given (pos 3) (next (next (next
        (next (next (next
        (next (next (next (given (pos 6) (next (next (next (next (next
        (next (given (pos 7) (next (next (next
        (next (next (next
        (next
        (next (given (pos 14) (next (next (next
        (next (next (refl, inl refl))))))))))))))))))))))))))))))))))))))))))))))))))))))))))))))));
  };
  same = refl;
}

pub calls_run : IsRun calls 8 calls_entries
calls_run = record {
  events = calls_events;
  told = refl;
  run = record {
    traced = threads_traced calls 8 calls_events (calling_traced, tt) refl refl;
    allowed =
        begins refl refl (does refl refl (does refl tt (does refl refl (does refl tt (does refl refl (does refl tt (does refl refl (does refl tt
        (does refl refl (does refl tt (does refl refl (does refl tt (does refl refl (does refl tt (does refl tt tt)))))))))))))));
  };
}

-- A loop spawns until there are eight threads, and the next `spawn` traps

-- 1  fn w() {
-- 2  }
-- 3  fn main() {
-- 4    let i = 0;
-- 5    while (i < 9) {
-- 6      let t = spawn w();
-- 7      i = i + 1;
-- 8    }
-- 9  }
abbrev pub spawns : Source
spawns = record {
  words = [];
  mutexes = [];
  semas = [];
  funcs = record { name = codes "w"; line = 1; params = []; body = tree.end } ∷ record {
    name = codes "main";
    line = 3;
    params = [];
    body = simple 4 (let_ (codes "i") (Right.value (num (pos 0))))
        (while_ 5 (bin o.Lt (var (codes "i")) (num (pos 9)))
        (simple 6 (let_ (codes "t") (Right.spawn (codes "w") []))
        (simple 7 (set (codes "i") (Right.value (bin o.Add (var (codes "i")) (num (pos 1))))) tree.end))
        tree.end);
  } ∷ [];
}

pub spawns_lawful : KeepsRules spawns
spawns_lawful = tested spawns (search rules) refl

abbrev pub spawns_events : List TargetEvent
spawns_events =
    event 1 3 begin ∷ event 1 6 (spawn 2 0 []) ∷ event 2 1 begin ∷ event 1 6 (spawn 3 0 []) ∷ event 2 1 end ∷ event 3 1 begin
    ∷ event 1 6 (spawn 4 0 []) ∷ event 3 1 end ∷ event 4 1 begin ∷ event 1 6 (spawn 5 0 []) ∷ event 4 1 end ∷ event 5 1 begin
    ∷ event 1 6 (spawn 6 0 []) ∷ event 5 1 end ∷ event 6 1 begin ∷ event 1 6 (spawn 7 0 []) ∷ event 6 1 end ∷ event 7 1 begin
    ∷ event 1 6 (spawn 8 0 []) ∷ event 7 1 end ∷ event 8 1 begin ∷ event 1 6 (trap threads) ∷ event 8 1 end ∷ event 1 3 end ∷ []

abbrev pub spawns_entries : List Entry
spawns_entries =
    e.Begin 1 3 ∷ e.Spawn 1 6 2 0 [] ∷ e.Begin 2 1 ∷ e.Spawn 1 6 3 0 [] ∷ e.End 2 1 ∷ e.Begin 3 1 ∷ e.Spawn 1 6 4 0 [] ∷ e.End 3 1 ∷ e.Begin 4 1
    ∷ e.Spawn 1 6 5 0 [] ∷ e.End 4 1 ∷ e.Begin 5 1 ∷ e.Spawn 1 6 6 0 [] ∷ e.End 5 1 ∷ e.Begin 6 1 ∷ e.Spawn 1 6 7 0 [] ∷ e.End 6 1 ∷ e.Begin 7 1
    ∷ e.Spawn 1 6 8 0 [] ∷ e.End 7 1 ∷ e.Begin 8 1 ∷ e.Trap 1 6 5 ∷ e.End 8 1 ∷ e.End 1 3 ∷ []

w_traced : IsTraced spawns 0 [] (deed 1 begin ∷ deed 1 end ∷ [])
w_traced = record {
  items = _;
  outcome = Finished;
  trace = record {
    most_turns = 0;
    gives =
        next (next
        (next (next (refl, inl refl))));
  };
  same = refl;
}

spawning_traced : IsTraced spawns 1 [] (deed 3 begin ∷ deed 6 (spawn 2 0 []) ∷ deed 6 (spawn 3 0 []) ∷ deed 6 (spawn 4 0 []) ∷ deed 6 (spawn 5 0 [])
    ∷ deed 6 (spawn 6 0 []) ∷ deed 6 (spawn 7 0 []) ∷ deed 6 (spawn 8 0 []) ∷ deed 6 (trap threads) ∷ deed 3 end ∷ [])
spawning_traced = record {
  items = _;
  outcome = Finished;
  trace = record {
    most_turns = 8;
    gives =
        next (next
        (next (next
        (next
        (next (inr (given 2 (next (next (next (next (next
        (next (inr (given 3 (next (next (next (next (next
        (next (inr (given 4 (next (next (next (next (next
        (next (inr (given 5 (next (next (next (next (next
        (next (inr (given 6 (next (next (next (next (next
        (next (inr (given 7 (next (next (next (next (next
        (next (inr (given 8 (next (next (next (next (next
        (next (inl (next (next (refl, inl refl)))))))))))))))))))))))))))))))))))))))))))))))))))))))))))))))));
  };
  same = refl;
}

pub spawns_run : IsRun spawns 8 spawns_entries
spawns_run = record {
  events = spawns_events;
  told = refl;
  run = record {
    traced = threads_traced spawns 8 spawns_events (spawning_traced, (w_traced, (w_traced, (w_traced, (w_traced, (w_traced, (w_traced, (w_traced, tt)))))))) refl refl;
    allowed =
        begins refl refl (does refl (refl, omega arith) (begins refl refl (does refl (refl, omega arith) (does refl tt (begins refl refl
        (does refl (refl, omega arith) (does refl tt (begins refl refl (does refl (refl, omega arith) (does refl tt (begins refl refl
        (does refl (refl, omega arith) (does refl tt (begins refl refl (does refl (refl, omega arith) (does refl tt (begins refl refl
        (does refl (refl, omega arith) (does refl tt (begins refl refl (does refl (omega arith) (does refl tt (does refl tt tt)))))))))))))))))))))));
  };
}

-- A semaphore at its greatest value traps

-- 1  sema s = 2147483647;
-- 2  fn main() {
-- 3    up s;
-- 4  }
abbrev pub full : Source
full = record {
  words = [];
  mutexes = [];
  semas = record { name = codes "s"; first = 2147483647 } ∷ [];
  funcs = record { name = codes "main"; line = 2; params = []; body = simple 3 (tree.up (codes "s")) tree.end } ∷ [];
}

pub full_lawful : KeepsRules full
full_lawful = tested full (search rules) refl

abbrev pub full_events : List TargetEvent
full_events =
    event 1 2 begin ∷ event 1 3 (trap (overflow 0)) ∷ event 1 2 end ∷ []

abbrev pub full_entries : List Entry
full_entries =
    e.Begin 1 2 ∷ e.Trap 1 3 7 ∷ e.End 1 2 ∷ []

raising_traced : IsTraced full 0 [] (deed 2 begin ∷ deed 3 (trap (overflow 0)) ∷ deed 2 end ∷ [])
raising_traced = record {
  items = _;
  outcome = Finished;
  trace = record {
    most_turns = 0;
    gives =
        next (next
        (next (inl (next (next (refl, inl refl))))));
  };
  same = refl;
}

pub full_run : IsRun full 8 full_entries
full_run = record {
  events = full_events;
  told = refl;
  run = record {
    traced = threads_traced full 8 full_events (raising_traced, tt) refl refl;
    allowed =
        begins refl refl (does refl refl (does refl tt tt));
  };
}

-- A thread waits for its own mutex: its trace breaks off

-- 1  mutex m;
-- 2  fn main() {
-- 3    lock m;
-- 4    lock m;
-- 5  }
abbrev pub locks : Source
locks = record {
  words = [];
  mutexes = codes "m" ∷ [];
  semas = [];
  funcs = record { name = codes "main"; line = 2; params = []; body = simple 3 (tree.lock (codes "m")) (simple 4 (tree.lock (codes "m")) tree.end) } ∷ [];
}

pub locks_lawful : KeepsRules locks
locks_lawful = tested locks (search rules) refl

abbrev pub locks_events : List TargetEvent
locks_events =
    event 1 2 begin ∷ event 1 3 (lock 0) ∷ []

abbrev pub locks_entries : List Entry
locks_entries =
    e.Begin 1 2 ∷ e.Lock 1 3 0 ∷ []

locking_traced : IsTraced locks 0 [] (deed 2 begin ∷ deed 3 (lock 0) ∷ [])
locking_traced = record {
  items = _;
  outcome = Open;
  trace = record {
    most_turns = 0;
    gives =
        next (next
        (next (next (next
        (next (inl (refl, refl)))))));
  };
  same = refl;
}

pub locks_run : IsRun locks 8 locks_entries
locks_run = record {
  events = locks_events;
  told = refl;
  run = record {
    traced = threads_traced locks 8 locks_events (locking_traced, tt) refl refl;
    allowed =
        begins refl refl (does refl refl tt);
  };
}
