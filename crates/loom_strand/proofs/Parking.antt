-- What a thread asks for keeps it away from places that it passed by.
use Rattle.std.proofs.Common.{ℕ, ◌≡◌, ◌⊎◌, false, List, [], ◌∷◌, ◌++◌, length, Option, Some, None, refl, inl, inr, sym, ap, subst, ◌∙◌}
use Rattle.loom_tree.specs.Tree.{Source}
use Rattle.loom_lang.specs.Places.{Place, place_at, line_of_place}
use Rattle.loom_lang.specs.Trace.{made, begins, done, edge, enter, out, reason}
use Rattle.loom_trace.specs.declared.entry.Entry.{Entry}
use Rattle.loom_trace.specs.declared.request.Request.{Request}
use Rattle.loom_trace.specs.declared.request.Request.TheVariants as r
use Rattle.loom_event.specs.Answer.{IsBlockedAt}
use Rattle.loom_flow.specs.Flow.{Flow}
use Rattle.loom_flow.specs.Code.{IsLowered}
use Rattle.loom_flow.specs.Question.{Question, read, write, lock, unlock, down, up, spawn, join, print}
use Rattle.loom_flow.specs.Progress.{Progress, goes, asks, traps, ends, nothing}
use Rattle.loom_law.specs.Walk.{Version, Plans, Operation, wait, enters, at, past, post, leave, back, tick, cross, blocked, PartStep, makes, filter_entries, entry_of_operation, Queue, Walk, request_place, unborn, walk_from, Owes}
use Rattle.loom_law.specs.Walk as walk
use Rattle.loom_law.specs.ThreadPart.{Own, walk_of, with_entry}
use Rattle.loom_law.proofs.Earlier.{to_take}
use Rattle.loom_law.proofs.PlaceNumbers.{one_number}
use Rattle.loom_strand.specs.PositionRequest.{question_request, request_at}
use Rattle.loom_strand.specs.Way.{Look, looks_nowhere, IsWay, IsPlaceAhead, end_line}
use Rattle.loom_strand.specs.StrandInvariant.{operation_request, IsAsked, asks_act, asks_owed, asks_version}
use Rattle.loom_strand.specs.Strand.{KeepsAwayFrom, StaysFrom, ActsAway, AsksAway}
use Rattle.loom_strand.proofs.Steps.{walk_append, told_append}
use Rattle.loom_strand.proofs.Openings.{IsLookedAt}
use Rattle.loom_strand.proofs.RequestWays.{HasAhead, nothing_ahead, moved_of, crossed_look, with_version, more_walk, way_crosses, ActsFrom, asks_here}
use Rattle.loom_strand.proofs.NextRequests.{way_owes, ahead_there, ahead_behind}
use Rattle.loom_strand.proofs.BlockWays.{HasBlock, way_blocks}

same_request : (a b : Request) → ◌≡◌ {A = Option Request} (Some a) (Some b) → a ≡ b
same_request a b h = cc

no_request : (q : Request) → ◌≡◌ {A = Option Request} None (Some q) → ⊥
no_request q h = cc

-- Acts

question_away : (p : Source) (plans : Plans) (x : Own) (v : Version) (places : List ℕ) (line : ℕ) (u : Question) → ActsAway p plans x (question_request line u) places → AsksAway p plans x v (question_request line u) places
question_away p plans x v places line (read w) h = h
question_away p plans x v places line (write w n) h = h
question_away p plans x v places line (lock m) h = h
question_away p plans x v places line (unlock m) h = h
question_away p plans x v places line (down m) h = h
question_away p plans x v places line (up m) h = h
question_away p plans x v places line (spawn f vs) h = h
question_away p plans x v places line (join n) h = h
question_away p plans x v places line (print n) h = h

acts_asked : (p : Source) (plans : Plans) (x : Own) (v : Version) (places : List ℕ) (line : ℕ) (w : Progress) (q : Request) → request_at line w ≡ Some q → ActsAway p plans x q places → AsksAway p plans x v q places
acts_asked p plans x v places line (goes mark y) q e h = absurd (no_request q e)
acts_asked p plans x v places line nothing q e h = absurd (no_request q e)
acts_asked p plans x v places line (asks n u behind) q e h =
    let same : question_request n u ≡ q = same_request (question_request n u) q e in
    subst (λ k. AsksAway p plans x v k places) same (question_away p plans x v places n u (subst (λ k. ActsAway p plans x k places) (sym same) h))
acts_asked p plans x v places line (traps n k) q e h =
    let same : r.Trap n (reason k) ≡ q = same_request (r.Trap n (reason k)) q e in
    subst (λ u. AsksAway p plans x v u places) same (subst (λ u. ActsAway p plans x u places) (sym same) h)
acts_asked p plans x v places line ends q e h =
    let same : r.End line ≡ q = same_request (r.End line) q e in
    subst (λ u. AsksAway p plans x v u places) same (subst (λ u. ActsAway p plans x u places) (sym same) h)

acts_away : (c : Flow) (plans : Plans) (x : Own) (w : Progress) (look : Look) (steps : List PartStep) (q : Request) (places : List ℕ) → IsLowered c → (walk_of c.program plans x steps).owed ≡ [] → IsLookedAt look w
    → request_at (end_line c.program x.func) w ≡ Some q → KeepsAwayFrom c.program places (walk_of c.program plans x steps) → IsWay c plans x w look steps → ActsAway c.program plans x q places
acts_away c plans x w look steps q places l none looks is away h =
    let a : ActsFrom c.program plans x q steps = asks_here c plans x w look steps q l none looks is h in
    record { asks = a.asks; away = subst (λ ss. KeepsAwayFrom c.program places (walk_of c.program plans x ss)) (sym a.same) away }

-- Operations

owed_nowhere : (os : Queue) (look : Look) (l : ℕ) (o : Operation) → Owes os l o → (look ≡ looks_nowhere) ⊎ (os ≡ []) → look ≡ looks_nowhere
owed_nowhere os look l o h (inl e) = e
owed_nowhere [] look l o h (inr e) = absurd h
owed_nowhere (y ∷ os) look l o h (inr e) = cc

makes_away : (c : Flow) (plans : Plans) (x : Own) (w : Progress) (look : Look) (steps : List PartStep) (l : ℕ) (o : Operation) (q : Request) (places : List ℕ) → IsLowered c → operation_request l o ≡ Some q
    → Owes (walk_of c.program plans x steps).owed l o → look ≡ looks_nowhere → KeepsAwayFrom c.program places (walk_of c.program plans x steps) → IsWay c plans x w look steps
    → StaysFrom c.program plans (with_entry x (entry_of_operation x.thread l o)) places
makes_away c plans x w look steps l o q places low e owes free away h = record {
  steps = steps;
  moved = moved_of c plans (with_entry x (entry_of_operation x.thread l o)) w looks_nowhere steps (makes l o) (entry_of_operation x.thread l o) low (nothing_ahead c x.func w) refl
      (way_owes c plans x w looks_nowhere steps l o q e owes (subst (λ k. IsWay c plans x w k steps) free h));
  away = away;
}

makes_asked : (p : Source) (plans : Plans) (x : Own) (v : Version) (places : List ℕ) (l : ℕ) (o : Operation) (q : Request) → operation_request l o ≡ Some q
    → StaysFrom p plans (with_entry x (entry_of_operation x.thread l o)) places → AsksAway p plans x v q places
makes_asked p plans x v places l (wait k n) q e h = subst (λ u. AsksAway p plans x v u places) (same_request (r.Wait l k n) q e) h
makes_asked p plans x v places l (enters k n) q e h = subst (λ u. AsksAway p plans x v u places) (same_request (r.Enter l k n) q e) h
makes_asked p plans x v places l (at k ns) q e h = subst (λ u. AsksAway p plans x v u places) (same_request (r.At l k ns) q e) h
makes_asked p plans x v places l (past k ns) q e h = subst (λ u. AsksAway p plans x v u places) (same_request (r.Past l k ns) q e) h
makes_asked p plans x v places l (post k n) q e h = subst (λ u. AsksAway p plans x v u places) (same_request (r.Post l k n) q e) h
makes_asked p plans x v places l (leave k n) q e h = subst (λ u. AsksAway p plans x v u places) (same_request (r.Leave l k n) q e) h
makes_asked p plans x v places l back q e h = subst (λ u. AsksAway p plans x v u places) (same_request (r.Back l) q e) h
makes_asked p plans x v places l (tick k) q e h = subst (λ u. AsksAway p plans x v u places) (same_request (r.Tick l k) q e) h
makes_asked p plans x v places l (cross y i n) q e h = absurd (no_request q e)
makes_asked p plans x v places l (blocked what) q e h = absurd (no_request q e)

-- A newer version

away_taking : (p : Source) (places : List ℕ) (z : Walk) (vs : List Version) → KeepsAwayFrom p places z → KeepsAwayFrom p places (to_take z vs)
away_taking p places z vs h = record { passed = h.passed; stood = h.stood }

crosses_away : (c : Flow) (plans : Plans) (x : Own) (w : Progress) (look : Look) (steps : List PartStep) (k : ℕ) (v : Version) (y : Place) (places : List ℕ) → IsLowered c → IsLookedAt look w
    → (look ≡ looks_nowhere) ⊎ ((walk_of c.program plans x steps).owed ≡ []) → IsPlaceAhead (walk_of c.program plans x steps).owed (walk_of c.program plans x steps) w y → place_at c.program k ≡ Some y
    → KeepsAwayFrom c.program places (walk_of c.program plans x steps) → IsWay c plans x w look steps
    → AsksAway c.program plans x v (r.Cross (line_of_place c.program y) k v.number (length (walk_of c.program plans x steps).passed)) places
crosses_away c plans x w look steps k v y places l looks rests there number away h =
    let z : Walk = walk_of c.program plans x steps in
    let n : ℕ = length z.passed in
    let line : ℕ = line_of_place c.program y in
    let a : HasAhead c x.func w look = ahead_there c x.func w z z.owed y look looks rests there in
    record {
      steps = steps;
      moved = moved_of c plans (with_version x v line k n) w (crossed_look z.owed look) steps (makes line (cross k v.number n)) (entry_of_operation x.thread line (cross k v.number n)) l
          (ahead_behind c x.func w z z.owed y look looks rests there) refl (way_crosses c plans x w look steps v y line k n a there (sym (one_number c.program l.lawful k y number)) refl refl h);
      away = subst (KeepsAwayFrom c.program places) (sym (more_walk c plans x w look steps v a h)) (away_taking c.program places z (v ∷ []) away);
    }

-- What is asked for keeps the thread away from where its way keeps it away.
pub asked_away : (c : Flow) (plans : Plans) (x : Own) (w : Progress) (look : Look) (steps : List PartStep) (k : ℕ) (v : Version) (q : Request) (places : List ℕ) → IsLowered c → IsLookedAt look w
    → (look ≡ looks_nowhere) ⊎ ((walk_of c.program plans x steps).owed ≡ []) → IsAsked c.program (walk_of c.program plans x steps) w (end_line c.program x.func) k v q
    → KeepsAwayFrom c.program places (walk_of c.program plans x steps) → IsWay c plans x w look steps → AsksAway c.program plans x v q places
asked_away c plans x w look steps k v q places l looks rests (asks_act none is there) away h =
    acts_asked c.program plans x v places (end_line c.program x.func) w q is (acts_away c plans x w look steps q places l none looks is away h)
asked_away c plans x w look steps k v q places l looks rests (asks_owed n o owes is) away h =
    makes_asked c.program plans x v places n o q is (makes_away c plans x w look steps n o q places l is owes (owed_nowhere (walk_of c.program plans x steps).owed look n o owes rests) away h)
asked_away c plans x w look steps k v q places l looks rests (asks_version y there number is) away h =
    subst (λ u. AsksAway c.program plans x v u places) (sym is) (crosses_away c plans x w look steps k v y places l looks rests there number away h)

-- and so does the entry that tells that it is disabled
pub blocked_away : (c : Flow) (plans : Plans) (x : Own) (w : Progress) (look : Look) (steps : List PartStep) (k : ℕ) (v : Version) (q : Request) (y : Entry) (s : Place) (places : List ℕ) → IsLowered c → IsLookedAt look w
    → (look ≡ looks_nowhere) ⊎ ((walk_of c.program plans x steps).owed ≡ []) → IsPlaceAhead (walk_of c.program plans x steps).owed (walk_of c.program plans x steps) w s
    → (walk_of c.program plans x steps).is_blocked ≡ false → IsAsked c.program (walk_of c.program plans x steps) w (end_line c.program x.func) k v q → IsBlockedAt x.thread q y
    → KeepsAwayFrom c.program places (walk_of c.program plans x steps) → IsWay c plans x w look steps → StaysFrom c.program plans (with_entry x y) places
blocked_away c plans x w look steps k v q y s places l looks rests there free asked told away h =
    let z : Walk = walk_of c.program plans x steps in
    let b : HasBlock c plans x w steps y = way_blocks c plans x w look steps k v q y looks rests free asked told h in
    record {
      steps = steps;
      moved = moved_of c plans (with_entry x y) w b.look steps (makes b.line (blocked b.what)) y l (ahead_there c x.func w z z.owed s b.look b.looks b.rests there) (ap (λ (u : Entry). u ∷ []) (sym b.entry)) b.way;
      away = away;
    }

-- Marks leave it as it was that the last entry is `Blocked`.

nothing_more : {A : Type 0} (xs ys : List A) → xs ++ ys ≡ xs → ys ≡ []
nothing_more [] ys h = h
nothing_more (x ∷ xs) ys h = nothing_more xs ys (let e : xs ++ ys ≡ xs = cc in e)

marks_blocked : (p : Source) (plans : Plans) (t : ℕ) (z : Walk) (marks : List PartStep) → filter_entries t marks ≡ [] → Walk.is_blocked (walk_from p plans z marks) ≡ z.is_blocked
marks_blocked p plans t z [] h = refl
marks_blocked p plans t z (walk.goes (made l a) ∷ ss) h = cc
marks_blocked p plans t z (walk.goes (begins l env) ∷ ss) h = marks_blocked p plans t (walk.after_item p plans z (begins l env)) ss h
marks_blocked p plans t z (walk.goes (done l) ∷ ss) h = marks_blocked p plans t (walk.after_item p plans z (done l)) ss h
marks_blocked p plans t z (walk.goes (edge l) ∷ ss) h = marks_blocked p plans t (walk.after_item p plans z (edge l)) ss h
marks_blocked p plans t z (walk.goes (enter f env) ∷ ss) h = marks_blocked p plans t (walk.after_item p plans z (enter f env)) ss h
marks_blocked p plans t z (walk.goes (out f) ∷ ss) h = marks_blocked p plans t (walk.after_item p plans z (out f)) ss h
marks_blocked p plans t z (makes l o ∷ ss) h = cc

pub more_blocked : (p : Source) (plans : Plans) (x : Own) (steps marks : List PartStep) → filter_entries x.thread steps ≡ x.entries → filter_entries x.thread (steps ++ marks) ≡ x.entries
    → Walk.is_blocked (walk_of p plans x (steps ++ marks)) ≡ Walk.is_blocked (walk_of p plans x steps)
more_blocked p plans x steps marks f g =
    let none : filter_entries x.thread marks ≡ [] = nothing_more (filter_entries x.thread steps) (filter_entries x.thread marks) (sym (told_append x.thread steps marks) ∙ (g ∙ sym f)) in
    ap (λ (z : Walk). z.is_blocked) (walk_append p plans (unborn x.versions) steps marks) ∙ marks_blocked p plans x.thread (walk_of p plans x steps) marks none
