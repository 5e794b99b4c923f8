-- The way of a thread behind an entry that tells that its request is disabled.
use Rattle.std.proofs.Common.{ℕ, ◌≡◌, ◌⊎◌, false, List, [], ◌∷◌, ◌++◌, ℤ, pos, negsuc, Option, Some, None, refl, inl, inr, sym, subst}
use Rattle.loom_lang.specs.Trace as trace
use Rattle.loom_lang.specs.Trace.{Item, Outcome, Lists, made, not_spawned, emit, thread_end}
use Rattle.loom_trace.specs.declared.entry.Entry.{Entry}
use Rattle.loom_trace.specs.declared.entry.Entry.TheVariants as e
use Rattle.loom_trace.specs.declared.entry.What.{What}
use Rattle.loom_trace.specs.declared.entry.What.TheVariants as stop
use Rattle.loom_trace.specs.declared.request.Request.{Request}
use Rattle.loom_trace.specs.declared.request.Request.TheVariants as r
use Rattle.loom_event.specs.Answer.{IsBlockedAt}
use Rattle.loom_flow.specs.Flow.{Flow}
use Rattle.loom_flow.specs.FlatTrace.{runs}
use Rattle.loom_flow.specs.Position.{Position}
use Rattle.loom_flow.specs.Question.{Question, read, write, lock, unlock, down, up, spawn, join, print}
use Rattle.loom_flow.specs.Progress.{Progress, goes, asks, traps, ends, nothing}
use Rattle.loom_law.specs.Walk.{Version, Plans, Operation, wait, enters, at, past, post, leave, back, tick, cross, blocked, PartStep, makes, Queue, Owes, Acts, MayStand}
use Rattle.loom_law.specs.ThreadPart.{Own, walk_of, with_entry}
use Rattle.loom_strand.specs.PositionRequest.{question_request, request_at}
use Rattle.loom_strand.specs.Way.{thread_with, MayCome, Look, looks_nowhere, looks_ahead, looks_for_grant, IsNoTrap, IsSeen, IsJoining, IsWay, end_line}
use Rattle.loom_strand.specs.StrandInvariant.{operation_request, IsAsked, asks_act, asks_owed, asks_version}
use Rattle.loom_strand.proofs.Ways.{way_makes}
use Rattle.loom_strand.proofs.Openings.{IsLookedAt}

-- The entry tells of what the thread asked for, and the way goes on behind it.
pub record HasBlock (c : Flow) (plans : Plans) (x : Own) (w : Progress) (steps : List PartStep) (y : Entry) : Type 0 where
  pub line : ℕ
  pub what : What
  pub entry : y ≡ e.Blocked x.thread line what
  pub look : Look
  pub looks : IsLookedAt look w
  pub rests : (look ≡ looks_nowhere) ⊎ ((walk_of c.program plans x steps).owed ≡ [])
  -- a grant is looked for where the end of a thread is waited for
  pub joins : look ≡ looks_for_grant → (n : ℕ) × (what ≡ stop.Join n)
  pub way : IsWay c plans (with_entry x y) w look (steps ++ makes line (blocked what) ∷ [])

-- Acts

-- where an act alone may come, it does
act_first : (l : ℕ) (a : trace.Act) (M : Lists) (i : Item) (is : List Item) (q : Outcome) → emit (made l a) M (i ∷ is) q → i ≡ made l a
act_first l a M i is q (inl h) = let no : i ∷ is ≡ [] = h.0 in cc
act_first l a M i is q (inr (js, same, g)) = cc

acts_there : (os : Queue) (i : Item) (is : List Item) (l : ℕ) (a : trace.Act) → os ≡ [] → i ≡ made l a → Acts os (i ∷ is) l a
acts_there os i is l a none same = subst (λ us. Acts us (i ∷ is) l a) (sym none) same

lock_stands : (c : Flow) (plans : Plans) (x : Own) (line m : ℕ) (behind : ℤ → Position) (steps : List PartStep) (is : List Item) (q : Outcome) (n : ℕ) → (walk_of c.program plans x steps).owed ≡ []
    → (walk_of c.program plans x steps).is_blocked ≡ false → MayCome c x.func (asks line (lock m) behind) n is q → IsSeen looks_ahead is
    → MayStand c.program (walk_of c.program plans x steps) (makes line (blocked (stop.Lock m))) is
lock_stands c plans x line m behind steps [] q n none free g seen = absurd seen
lock_stands c plans x line m behind steps (i ∷ is) q n none free g seen =
    record { asks = acts_there (walk_of c.program plans x steps).owed i is line (trace.lock m) none (act_first line (trace.lock m) (runs c (thread_with c.program x.func) n (behind (pos 0))) i is q g); not_yet = free }

down_stands : (c : Flow) (plans : Plans) (x : Own) (line m : ℕ) (behind : ℤ → Position) (steps : List PartStep) (is : List Item) (q : Outcome) (n : ℕ) → (walk_of c.program plans x steps).owed ≡ []
    → (walk_of c.program plans x steps).is_blocked ≡ false → MayCome c x.func (asks line (down m) behind) n is q → IsSeen looks_ahead is
    → MayStand c.program (walk_of c.program plans x steps) (makes line (blocked (stop.Down m))) is
down_stands c plans x line m behind steps [] q n none free g seen = absurd seen
down_stands c plans x line m behind steps (i ∷ is) q n none free g seen =
    record { asks = acts_there (walk_of c.program plans x steps).owed i is line (trace.down m) none (act_first line (trace.down m) (runs c (thread_with c.program x.func) n (behind (pos 0))) i is q g); not_yet = free }

join_stands : (c : Flow) (plans : Plans) (x : Own) (line m : ℕ) (behind : ℤ → Position) (steps : List PartStep) (is : List Item) (q : Outcome) (n : ℕ) → (walk_of c.program plans x steps).owed ≡ []
    → (walk_of c.program plans x steps).is_blocked ≡ false → MayCome c x.func (asks line (join (pos m)) behind) n is q → IsSeen looks_for_grant is
    → MayStand c.program (walk_of c.program plans x steps) (makes line (blocked (stop.Join m))) is
join_stands c plans x line m behind steps [] q n none free g seen = absurd seen
join_stands c plans x line m behind steps (i ∷ is) q n none free (inl g) seen =
    absurd (subst IsNoTrap (act_first line (trace.trap (not_spawned (pos m))) (thread_end (end_line c.program x.func)) i is q g) seen)
join_stands c plans x line m behind steps (i ∷ is) q n none free (inr g) seen =
    record { asks = acts_there (walk_of c.program plans x steps).owed i is line (trace.join m) none (act_first line (trace.join m) (runs c (thread_with c.program x.func) n (behind (pos 0))) i is q g); not_yet = free }

-- A step that looks for no grant lets the thread look ahead.
seen_ahead : (look : Look) (w : Progress) (is : List Item) → IsLookedAt look w → (IsJoining w → ⊥) → IsSeen looks_ahead is → IsSeen look is
seen_ahead looks_nowhere w is h other g = tt
seen_ahead looks_ahead w is h other g = g
seen_ahead looks_for_grant w is h other g = absurd (other h)

seen_grant : (look : Look) (is : List Item) → IsSeen looks_for_grant is → IsSeen look is
seen_grant looks_nowhere is g = tt
seen_grant looks_ahead [] g = g
seen_grant looks_ahead (i ∷ is) g = tt
seen_grant looks_for_grant is g = g

ahead_no_grant : (what : What) → looks_ahead ≡ looks_for_grant → (n : ℕ) × (what ≡ stop.Join n)
ahead_no_grant what h = cc

blocks_lock : (c : Flow) (plans : Plans) (x : Own) (line m : ℕ) (behind : ℤ → Position) (look : Look) (steps : List PartStep) (y : Entry) → IsLookedAt look (asks line (lock m) behind)
    → (walk_of c.program plans x steps).owed ≡ [] → (walk_of c.program plans x steps).is_blocked ≡ false → y ≡ e.Blocked x.thread line (stop.Lock m) → IsWay c plans x (asks line (lock m) behind) look steps
    → HasBlock c plans x (asks line (lock m) behind) steps y
blocks_lock c plans x line m behind look steps y looks none free is h = record {
  line = line;
  what = stop.Lock m;
  entry = is;
  look = looks_ahead;
  looks = tt;
  rests = inr none;
  joins = ahead_no_grant (stop.Lock m);
  way = subst (λ u. IsWay c plans (with_entry x u) (asks line (lock m) behind) looks_ahead (steps ++ makes line (blocked (stop.Lock m)) ∷ [])) (sym is)
      (way_makes c plans x (asks line (lock m) behind) line (blocked (stop.Lock m)) look looks_ahead steps
      (λ us q n g seen. (seen_ahead look (asks line (lock m) behind) us looks (λ j. j) seen, lock_stands c plans x line m behind steps us q n none free g seen)) refl h);
}

blocks_down : (c : Flow) (plans : Plans) (x : Own) (line m : ℕ) (behind : ℤ → Position) (look : Look) (steps : List PartStep) (y : Entry) → IsLookedAt look (asks line (down m) behind)
    → (walk_of c.program plans x steps).owed ≡ [] → (walk_of c.program plans x steps).is_blocked ≡ false → y ≡ e.Blocked x.thread line (stop.Down m) → IsWay c plans x (asks line (down m) behind) look steps
    → HasBlock c plans x (asks line (down m) behind) steps y
blocks_down c plans x line m behind look steps y looks none free is h = record {
  line = line;
  what = stop.Down m;
  entry = is;
  look = looks_ahead;
  looks = tt;
  rests = inr none;
  joins = ahead_no_grant (stop.Down m);
  way = subst (λ u. IsWay c plans (with_entry x u) (asks line (down m) behind) looks_ahead (steps ++ makes line (blocked (stop.Down m)) ∷ [])) (sym is)
      (way_makes c plans x (asks line (down m) behind) line (blocked (stop.Down m)) look looks_ahead steps
      (λ us q n g seen. (seen_ahead look (asks line (down m) behind) us looks (λ j. j) seen, down_stands c plans x line m behind steps us q n none free g seen)) refl h);
}

blocks_join : (c : Flow) (plans : Plans) (x : Own) (line m : ℕ) (behind : ℤ → Position) (look : Look) (steps : List PartStep) (y : Entry) → (walk_of c.program plans x steps).owed ≡ []
    → (walk_of c.program plans x steps).is_blocked ≡ false → y ≡ e.Blocked x.thread line (stop.Join m) → IsWay c plans x (asks line (join (pos m)) behind) look steps
    → HasBlock c plans x (asks line (join (pos m)) behind) steps y
blocks_join c plans x line m behind look steps y none free is h = record {
  line = line;
  what = stop.Join m;
  entry = is;
  look = looks_for_grant;
  looks = tt;
  rests = inr none;
  joins = λ g. (m, refl);
  way = subst (λ u. IsWay c plans (with_entry x u) (asks line (join (pos m)) behind) looks_for_grant (steps ++ makes line (blocked (stop.Join m)) ∷ [])) (sym is)
      (way_makes c plans x (asks line (join (pos m)) behind) line (blocked (stop.Join m)) look looks_for_grant steps
      (λ us q n g seen. (seen_grant look us seen, join_stands c plans x line m behind steps us q n none free g seen)) refl h);
}

-- What is owed

blocks_owed : (c : Flow) (plans : Plans) (x : Own) (w : Progress) (look : Look) (steps : List PartStep) (y : Entry) (l : ℕ) (what : What) → look ≡ looks_nowhere → y ≡ e.Blocked x.thread l what
    → ((is : List Item) → MayStand c.program (walk_of c.program plans x steps) (makes l (blocked what)) is) → IsWay c plans x w look steps → HasBlock c plans x w steps y
blocks_owed c plans x w look steps y l what none is stands h = record {
  line = l;
  what = what;
  entry = is;
  look = looks_nowhere;
  looks = tt;
  rests = inl refl;
  joins = λ g. cc;
  way = subst (λ u. IsWay c plans (with_entry x u) w looks_nowhere (steps ++ makes l (blocked what) ∷ [])) (sym is)
      (way_makes c plans x w l (blocked what) looks_nowhere looks_nowhere steps (λ us q n g seen. (tt, stands us)) refl (subst (λ k. IsWay c plans x w k steps) none h));
}

owed_nowhere : (os : Queue) (look : Look) (l : ℕ) (o : Operation) → Owes os l o → (look ≡ looks_nowhere) ⊎ (os ≡ []) → look ≡ looks_nowhere
owed_nowhere os look l o h (inl e) = e
owed_nowhere [] look l o h (inr e) = absurd h
owed_nowhere (o' ∷ os) look l o h (inr e) = cc

-- Requests

some_request : (a b : Request) → ◌≡◌ {A = Option Request} (Some a) (Some b) → a ≡ b
some_request a b h = cc

no_request : (q : Request) → ◌≡◌ {A = Option Request} None (Some q) → ⊥
no_request q h = cc

question_blocks : (c : Flow) (plans : Plans) (x : Own) (line : ℕ) (u : Question) (behind : ℤ → Position) (look : Look) (steps : List PartStep) (y : Entry) → IsLookedAt look (asks line u behind)
    → (walk_of c.program plans x steps).owed ≡ [] → (walk_of c.program plans x steps).is_blocked ≡ false → IsBlockedAt x.thread (question_request line u) y → IsWay c plans x (asks line u behind) look steps
    → HasBlock c plans x (asks line u behind) steps y
question_blocks c plans x line (read n) behind look steps y looks none free is h = absurd is
question_blocks c plans x line (write n v) behind look steps y looks none free is h = absurd is
question_blocks c plans x line (lock m) behind look steps y looks none free is h = blocks_lock c plans x line m behind look steps y looks none free is h
question_blocks c plans x line (unlock m) behind look steps y looks none free is h = absurd is
question_blocks c plans x line (down m) behind look steps y looks none free is h = blocks_down c plans x line m behind look steps y looks none free is h
question_blocks c plans x line (up m) behind look steps y looks none free is h = absurd is
question_blocks c plans x line (spawn f vs) behind look steps y looks none free is h = absurd is
question_blocks c plans x line (join (pos m)) behind look steps y looks none free is h = blocks_join c plans x line m behind look steps y none free is h
question_blocks c plans x line (join (negsuc m)) behind look steps y looks none free is h = absurd is
question_blocks c plans x line (print v) behind look steps y looks none free is h = absurd is

act_blocks : (c : Flow) (plans : Plans) (x : Own) (w : Progress) (look : Look) (steps : List PartStep) (line : ℕ) (q : Request) (y : Entry) → IsLookedAt look w → (walk_of c.program plans x steps).owed ≡ []
    → (walk_of c.program plans x steps).is_blocked ≡ false → request_at line w ≡ Some q → IsBlockedAt x.thread q y → IsWay c plans x w look steps → HasBlock c plans x w steps y
act_blocks c plans x (goes mark v) look steps line q y looks none free is told h = absurd (no_request q is)
act_blocks c plans x nothing look steps line q y looks none free is told h = absurd (no_request q is)
act_blocks c plans x (asks n u behind) look steps line q y looks none free is told h =
    question_blocks c plans x n u behind look steps y looks none free (subst (λ k. IsBlockedAt x.thread k y) (sym (some_request (question_request n u) q is)) told) h
act_blocks c plans x (traps n k) look steps line q y looks none free is told h = absurd (subst (λ u. IsBlockedAt x.thread u y) (sym (some_request (r.Trap n (trace.reason k)) q is)) told)
act_blocks c plans x ends look steps line q y looks none free is told h = absurd (subst (λ u. IsBlockedAt x.thread u y) (sym (some_request (r.End line) q is)) told)

operation_blocks : (c : Flow) (plans : Plans) (x : Own) (w : Progress) (look : Look) (steps : List PartStep) (l : ℕ) (o : Operation) (q : Request) (y : Entry) → look ≡ looks_nowhere
    → (walk_of c.program plans x steps).is_blocked ≡ false → Owes (walk_of c.program plans x steps).owed l o → operation_request l o ≡ Some q → IsBlockedAt x.thread q y → IsWay c plans x w look steps
    → HasBlock c plans x w steps y
operation_blocks c plans x w look steps l (wait k n) q y none free owes is told h =
    blocks_owed c plans x w look steps y l (stop.Wait k n) none (subst (λ u. IsBlockedAt x.thread u y) (sym (some_request (r.Wait l k n) q is)) told) (λ us. record { asks = owes; not_yet = free }) h
operation_blocks c plans x w look steps l (enters k n) q y none free owes is told h =
    blocks_owed c plans x w look steps y l (stop.Enter k n) none (subst (λ u. IsBlockedAt x.thread u y) (sym (some_request (r.Enter l k n) q is)) told) (λ us. record { asks = owes; not_yet = free }) h
operation_blocks c plans x w look steps l (at k ns) q y none free owes is told h = absurd (subst (λ u. IsBlockedAt x.thread u y) (sym (some_request (r.At l k ns) q is)) told)
operation_blocks c plans x w look steps l (past k ns) q y none free owes is told h = absurd (subst (λ u. IsBlockedAt x.thread u y) (sym (some_request (r.Past l k ns) q is)) told)
operation_blocks c plans x w look steps l (post k n) q y none free owes is told h = absurd (subst (λ u. IsBlockedAt x.thread u y) (sym (some_request (r.Post l k n) q is)) told)
operation_blocks c plans x w look steps l (leave k n) q y none free owes is told h = absurd (subst (λ u. IsBlockedAt x.thread u y) (sym (some_request (r.Leave l k n) q is)) told)
operation_blocks c plans x w look steps l back q y none free owes is told h = absurd (subst (λ u. IsBlockedAt x.thread u y) (sym (some_request (r.Back l) q is)) told)
operation_blocks c plans x w look steps l (tick k) q y none free owes is told h = absurd (subst (λ u. IsBlockedAt x.thread u y) (sym (some_request (r.Tick l k) q is)) told)
operation_blocks c plans x w look steps l (cross k v n) q y none free owes is told h = absurd (no_request q is)
operation_blocks c plans x w look steps l (blocked what) q y none free owes is told h = absurd (no_request q is)

-- What was asked for is told as disabled.
pub way_blocks : (c : Flow) (plans : Plans) (x : Own) (w : Progress) (look : Look) (steps : List PartStep) (k : ℕ) (v : Version) (q : Request) (y : Entry) → IsLookedAt look w
    → (look ≡ looks_nowhere) ⊎ ((walk_of c.program plans x steps).owed ≡ []) → (walk_of c.program plans x steps).is_blocked ≡ false
    → IsAsked c.program (walk_of c.program plans x steps) w (end_line c.program x.func) k v q → IsBlockedAt x.thread q y → IsWay c plans x w look steps → HasBlock c plans x w steps y
way_blocks c plans x w look steps k v q y looks rests free (asks_act none is there) told h = act_blocks c plans x w look steps (end_line c.program x.func) q y looks none free is told h
way_blocks c plans x w look steps k v q y looks rests free (asks_owed l o owes is) told h =
    operation_blocks c plans x w look steps l o q y (owed_nowhere (walk_of c.program plans x steps).owed look l o owes rests) free owes is told h
way_blocks c plans x w look steps k v q y looks rests free (asks_version z there number is) told h = absurd (subst (λ u. IsBlockedAt x.thread u y) is told)
