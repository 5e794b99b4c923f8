-- A request that is disabled: the thread may be told so, and asks for the same again.
use Rattle.std.proofs.Common.{ℕ, ◌≡◌, inl, false, List, [], ◌∷◌, ◌++◌, pos, negsuc, Option, Some, None, refl, sym, ap, subst, ◌∙◌, append-nil}
use Rattle.loom_tree.specs.Tree.{Source}
use Rattle.loom_trace.specs.declared.entry.Entry.TheVariants as e
use Rattle.loom_trace.specs.declared.entry.What.{What}
use Rattle.loom_trace.specs.declared.entry.What.TheVariants as w
use Rattle.loom_trace.specs.declared.request.Request.{Request}
use Rattle.loom_trace.specs.declared.request.Request.TheVariants as r
use Rattle.loom_lang.specs.Trace.{Act, trap, lock, down, join, Item, made, not_spawned, Open, IsTrace}
use Rattle.loom_lang.specs.Acts.{Deed}
use Rattle.loom_event.specs.Answer.{grant_deed, trap_deed, IsBlockedFor}
use Rattle.loom_law.specs.Walk.{blocked, Queue, PartStep, makes, items, Walk, unborn, walk_from, Acts, AsksFor, AreWoven}
use Rattle.loom_law.specs.ThreadPart.{Own, walk_of, with_entry, AsksToAct, GoesOn}
use Rattle.loom_law.specs.TurnLaws.{blocked_behind, HasBlocks, HasSameRequest}
use Rattle.loom_law.proofs.OnePart.{told_append}
use Rattle.loom_law.proofs.Earlier.{items_ahead}
use Rattle.loom_law.proofs.Answers.{goes_with, woven_ahead, walk_append, woven_last}
use Rattle.loom_law.proofs.Makings.{walk_blocked}

-- the act that grants such a request: where it comes next, the thread may be told as blocked
record CanWait (q : Request) (l : ℕ) (what : What) : Type 0 where
  act : Act
  grants : grant_deed q (pos 0) ≡ Some (record { line = l; act = act })
  no_trap : (c : ℕ) → act ≡ trap (not_spawned (pos c)) → ⊥
  asks : (z : Walk) → z.owed ≡ [] → AsksFor z (made l act ∷ []) l what

acts_there : (os : Queue) (l : ℕ) (a : Act) → os ≡ [] → Acts os (made l a ∷ []) l a
acts_there [] l a h = refl
acts_there (o ∷ os) l a h = cc

can_wait : (t l : ℕ) (what : What) (q : Request) → IsBlockedFor t q (e.Blocked t l what) → CanWait q l what
can_wait t l what (r.Lock n m) h =
    let line : n ≡ l = cc in
    let same : w.Lock m ≡ what = cc in
    subst (CanWait (r.Lock n m) l) same (subst (λ k. CanWait (r.Lock n m) k (w.Lock m)) line
    (record { act = lock m; grants = refl; no_trap = λ c g. cc; asks = λ z none. acts_there z.owed n (lock m) none }))
can_wait t l what (r.Down n m) h =
    let line : n ≡ l = cc in
    let same : w.Down m ≡ what = cc in
    subst (CanWait (r.Down n m) l) same (subst (λ k. CanWait (r.Down n m) k (w.Down m)) line
    (record { act = down m; grants = refl; no_trap = λ c g. cc; asks = λ z none. acts_there z.owed n (down m) none }))
can_wait t l what (r.Join n (pos d)) h =
    let line : n ≡ l = cc in
    let same : w.Join d ≡ what = cc in
    subst (CanWait (r.Join n (pos d)) l) same (subst (λ k. CanWait (r.Join n (pos d)) k (w.Join d)) line
    (record { act = join d; grants = refl; no_trap = λ c g. cc; asks = λ z none. acts_there z.owed n (join d) none }))
can_wait t l what (r.Join n (negsuc d)) h = absurd h
can_wait t l what _ h = absurd h

-- an operation is no item of the trace
same_items : (ss : List PartStep) (l : ℕ) (what : What) → items (ss ++ makes l (blocked what) ∷ []) ≡ items ss
same_items ss l what = sym (append-nil (items (ss ++ makes l (blocked what) ∷ []))) ∙ (items_ahead ss (makes l (blocked what) ∷ []) [] ∙ append-nil (items ss))

goes_on : (p : Source) (x : Own) (l : ℕ) (what : What) (ss : List PartStep) (o : Option Deed) → GoesOn p x ss o
    → GoesOn p (with_entry x (e.Blocked x.thread l what)) (ss ++ makes l (blocked what) ∷ []) o
goes_on p x l what ss None h = h
goes_on p x l what ss (Some d) h = subst (λ is. IsTrace p x.func x.args (is ++ made d.line d.act ∷ []) Open) (sym (same_items ss l what)) h

pub same_request : HasSameRequest
same_request p plans x q l what h is free =
    let c : CanWait q l what = can_wait x.thread l what q is in
    let d : Deed = record { line = l; act = c.act } in
    let steps : List PartStep = h.steps in
    let last : List PartStep = makes l (blocked what) ∷ [] in
    let ahead : List Item = made l c.act ∷ [] in
    let trace : IsTrace p x.func x.args (items steps ++ ahead) Open = goes_with p plans x q d h (inl (pos 0, c.grants)) in
    let woven : AreWoven p plans (unborn x.versions) steps ahead =
    woven_ahead p plans x q d h (inl (pos 0, c.grants)) (λ before m e behind whole trap_deed. c.no_trap e trap_deed) in
    let not_yet : Walk.is_blocked (walk_of p plans x steps) ≡ false =
    walk_blocked p plans x.thread (unborn x.versions) steps ahead woven ∙ (ap (blocked_behind false) h.tells ∙ free) in
    let behind : walk_from p plans (unborn x.versions) (steps ++ last) ≡ walk_from p plans (walk_of p plans x steps) last = walk_append p plans (unborn x.versions) steps last in
    record {
      steps = steps ++ last;
      next = made l c.act;
      trace = subst (λ us. IsTrace p x.func x.args us Open) (sym (items_ahead steps last ahead)) trace;
      woven = woven_last p plans (unborn x.versions) steps (makes l (blocked what)) ahead woven (record { asks = c.asks (walk_of p plans x steps) h.rests; not_yet = not_yet });
      tells = told_append x.thread steps last ∙ ap (λ us. us ++ e.Blocked x.thread l what ∷ []) h.tells;
      taken = ap (λ z. Walk.coming z) behind ∙ h.taken;
      rests = ap (λ z. Walk.owed z) behind ∙ h.rests;
      granted = λ v. goes_on p x l what steps (grant_deed q v) (h.granted v);
      trapped = goes_on p x l what steps (trap_deed q) h.trapped;
    }

-- so what it is told is a part
pub blocks : HasBlocks
blocks p plans x q l what h is free =
    let a : AsksToAct p plans (with_entry x (e.Blocked x.thread l what)) q = same_request p plans x q l what h is free in
    record { steps = a.steps; ahead = a.next ∷ []; outcome = Open; trace = a.trace; woven = a.woven; tells = a.tells; taken = a.taken }
