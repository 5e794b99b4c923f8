-- What a thread asks for next, by the law of parts, and where it stands with it.
use Rattle.std.proofs.Common.{ℕ, suc, zero, ◌≡◌, ◌<◌, ◌⊎◌, List, [], ◌∷◌, ◌++◌, Option, Some, None, length, refl, inl, inr, sym, subst, arith}
use Rattle.loom_tree.specs.Tree.{Source}
use Rattle.loom_lang.specs.Places.{Place, line_of_place}
use Rattle.loom_lang.specs.Trace.{Item, Open, reason}
use Rattle.loom_trace.specs.declared.request.Request.{Request}
use Rattle.loom_trace.specs.declared.request.Request.TheVariants as r
use Rattle.loom_flow.specs.Flow.{Flow}
use Rattle.loom_flow.specs.Code.{IsLowered}
use Rattle.loom_flow.specs.Position.{Position}
use Rattle.loom_flow.specs.Question.{Question, read, write, lock, unlock, down, up, spawn, join, print}
use Rattle.loom_flow.specs.Progress.{Progress, goes, asks, traps, ends, nothing, progress}
use Rattle.loom_law.specs.Walk.{Version, Plans, Operation, wait, enters, at, past, post, leave, back, tick, cross, blocked, PartStep, makes, entry_of_operation, Queue, Walk, unborn, request_place, after_operation, Owes, MayStand}
use Rattle.loom_law.specs.ThreadPart.{Own, walk_of, with_entry, AsksToMake, AsksToCross, AsksToAct}
use Rattle.loom_law.proofs.PlaceNumbers.{one_number}
use Rattle.loom_strand.specs.PositionRequest.{question_request, request_at}
use Rattle.loom_strand.specs.Way.{MayCome, Look, looks_nowhere, looks_ahead, looks_for_grant, IsWay, IsNextPlace, IsPlaceAhead, end_line}
use Rattle.loom_strand.specs.StrandInvariant.{IsSoundPosition, operation_request, IsAsked, asks_act, asks_owed, asks_version}
use Rattle.loom_strand.specs.Strand.{AsksNext}
use Rattle.loom_strand.proofs.Falls.{left, falls}
use Rattle.loom_strand.proofs.Soundness.{Keeps, keeps}
use Rattle.loom_strand.proofs.Ways.{one_mark_comes, way_makes}
use Rattle.loom_strand.proofs.Openings.{IsOpening, IsLookedAt, next_opens}
use Rattle.loom_strand.proofs.RequestWays.{HasAhead, nothing_ahead, opening_ahead, part_of, crossed_look, with_version, ActsFrom, way_crosses, asks_here}

-- Something comes

-- After some steps past no mark an item comes.
pub record HasItem (c : Flow) (f : ℕ) (w : Progress) : Type 0 where
  pub item : Item
  pub count : ℕ
  pub comes : MayCome c f w count (item ∷ []) Open

opens : (c : Flow) (f : ℕ) (w : Progress) (u : Walk) → IsNextPlace u w (request_place u) → HasItem c f w
opens c f w u next =
    let o : IsOpening c f w u (request_place u) looks_nowhere = next_opens c f w u (request_place u) looks_nowhere tt next in
    record { item = o.item; count = 0; comes = o.comes }

-- One step on, where an item comes from each position nearer to the next stop.
item_behind : (c : Flow) (f : ℕ) → IsLowered c → (k : ℕ) (z : Position) → IsSoundPosition c z → left c 0 z < suc k → ((y : Position) → IsSoundPosition c y → left c 0 y < k → HasItem c f (progress c y))
    → (w : Progress) → progress c z ≡ w → HasItem c f w
item_behind c f l k z h few more (goes None y) p =
    let sound : IsSoundPosition c y = subst (Keeps c) p (keeps c z l h) in
    let nearer : left c 0 y < left c 0 z = falls c z y None l h p refl 0 in
    let less : left c 0 y < k = omega (arith, nearer, few) in
    let d : HasItem c f (progress c y) = more y sound less in
    record { item = d.item; count = suc d.count; comes = d.comes }
item_behind c f l k z h few more (goes (Some i) y) p = record { item = i; count = 0; comes = one_mark_comes c f i y }
item_behind c f l k z h few more (asks line q behind) p = opens c f (asks line q behind) (unborn []) refl
item_behind c f l k z h few more (traps line q) p = opens c f (traps line q) (unborn []) refl
item_behind c f l k z h few more ends p = opens c f ends (unborn []) refl
item_behind c f l k z h few more nothing p = absurd (subst (Keeps c) p (keeps c z l h))

item_within : (c : Flow) (f : ℕ) → IsLowered c → (k : ℕ) (z : Position) → IsSoundPosition c z → left c 0 z < k → HasItem c f (progress c z)
item_within c f l zero z h few = absurd (omega (arith, few))
item_within c f l (suc k) z h few = item_behind c f l k z h few (λ y sound less. item_within c f l k y sound less) (progress c z) refl

pub has_item : (c : Flow) (f : ℕ) (z : Position) → IsLowered c → IsSoundPosition c z → HasItem c f (progress c z)
has_item c f z l h = item_within c f l (suc (left c 0 z)) z h (omega arith)

-- Owed operations

operation_stands : (p : Source) (z : Walk) (l : ℕ) (o : Operation) (q : Request) (is : List Item) → operation_request l o ≡ Some q → Owes z.owed l o → MayStand p z (makes l o) is
operation_stands p z l (wait k n) q is e h = h
operation_stands p z l (enters k n) q is e h = h
operation_stands p z l (at k ns) q is e h = h
operation_stands p z l (past k ns) q is e h = h
operation_stands p z l (post k n) q is e h = h
operation_stands p z l (leave k n) q is e h = h
operation_stands p z l back q is e h = h
operation_stands p z l (tick x) q is e h = h
operation_stands p z l (cross x v n) q is e h = cc
operation_stands p z l (blocked what) q is e h = cc

operation_coming : (p : Source) (plans : Plans) (z : Walk) (l : ℕ) (o : Operation) (q : Request) → operation_request l o ≡ Some q → Walk.coming (after_operation p plans z o) ≡ z.coming
operation_coming p plans z l (wait k n) q e = refl
operation_coming p plans z l (enters k n) q e = refl
operation_coming p plans z l (at k ns) q e = refl
operation_coming p plans z l (past k ns) q e = refl
operation_coming p plans z l (post k n) q e = refl
operation_coming p plans z l (leave k n) q e = refl
operation_coming p plans z l back q e = refl
operation_coming p plans z l (tick x) q e = refl
operation_coming p plans z l (cross x v n) q e = cc
operation_coming p plans z l (blocked what) q e = cc

-- What is owed first is made.
pub way_owes : (c : Flow) (plans : Plans) (x : Own) (w : Progress) (look : Look) (steps : List PartStep) (l : ℕ) (o : Operation) (q : Request) → operation_request l o ≡ Some q
    → Owes (walk_of c.program plans x steps).owed l o → IsWay c plans x w look steps → IsWay c plans (with_entry x (entry_of_operation x.thread l o)) w look (steps ++ makes l o ∷ [])
way_owes c plans x w look steps l o q e owes h =
    way_makes c plans x w l o look look steps (λ is u n g seen. (seen, operation_stands c.program (walk_of c.program plans x steps) l o q is e owes)) (operation_coming c.program plans (walk_of c.program plans x steps) l o q e) h

owing : (os : Queue) (l : ℕ) (o : Operation) → Owes os l o → os ≡ [] → ⊥
owing [] l o h e = h
owing (x ∷ os) l o h e = cc

pub asks_make : (c : Flow) (plans : Plans) (x : Own) (w : Progress) (look : Look) (steps : List PartStep) (l : ℕ) (o : Operation) (q : Request) → IsLowered c → operation_request l o ≡ Some q
    → Owes (walk_of c.program plans x steps).owed l o → look ≡ looks_nowhere → IsWay c plans x w look steps → AsksToMake c.program plans x l o
asks_make c plans x w look steps l o q low e owes free h =
    part_of c plans (with_entry x (entry_of_operation x.thread l o)) w looks_nowhere (steps ++ makes l o ∷ []) low (nothing_ahead c x.func w)
    (way_owes c plans x w looks_nowhere steps l o q e owes (subst (λ k. IsWay c plans x w k steps) free h))

same_request : (a b : Request) → ◌≡◌ {A = Option Request} (Some a) (Some b) → a ≡ b
same_request a b h = cc

no_request : (q : Request) → ◌≡◌ {A = Option Request} None (Some q) → ⊥
no_request q h = cc

next_makes : (c : Flow) (plans : Plans) (x : Own) (v : Version) (l : ℕ) (o : Operation) (q : Request) → operation_request l o ≡ Some q → AsksToMake c.program plans x l o → AsksNext c.program plans x v q
next_makes c plans x v l (wait k n) q e h = subst (AsksNext c.program plans x v) (same_request (r.Wait l k n) q e) h
next_makes c plans x v l (enters k n) q e h = subst (AsksNext c.program plans x v) (same_request (r.Enter l k n) q e) h
next_makes c plans x v l (at k ns) q e h = subst (AsksNext c.program plans x v) (same_request (r.At l k ns) q e) h
next_makes c plans x v l (past k ns) q e h = subst (AsksNext c.program plans x v) (same_request (r.Past l k ns) q e) h
next_makes c plans x v l (post k n) q e h = subst (AsksNext c.program plans x v) (same_request (r.Post l k n) q e) h
next_makes c plans x v l (leave k n) q e h = subst (AsksNext c.program plans x v) (same_request (r.Leave l k n) q e) h
next_makes c plans x v l back q e h = subst (AsksNext c.program plans x v) (same_request (r.Back l) q e) h
next_makes c plans x v l (tick k) q e h = subst (AsksNext c.program plans x v) (same_request (r.Tick l k) q e) h
next_makes c plans x v l (cross y i n) q e h = absurd (no_request q e)
next_makes c plans x v l (blocked what) q e h = absurd (no_request q e)

question_next : (c : Flow) (plans : Plans) (x : Own) (v : Version) (line : ℕ) (u : Question) → AsksToAct c.program plans x (question_request line u) → AsksNext c.program plans x v (question_request line u)
question_next c plans x v line (read w) h = h
question_next c plans x v line (write w n) h = h
question_next c plans x v line (lock m) h = h
question_next c plans x v line (unlock m) h = h
question_next c plans x v line (down m) h = h
question_next c plans x v line (up m) h = h
question_next c plans x v line (spawn f vs) h = h
question_next c plans x v line (join n) h = h
question_next c plans x v line (print n) h = h

next_acts : (c : Flow) (plans : Plans) (x : Own) (v : Version) (line : ℕ) (w : Progress) (q : Request) → request_at line w ≡ Some q → AsksToAct c.program plans x q → AsksNext c.program plans x v q
next_acts c plans x v line (goes mark y) q e h = absurd (no_request q e)
next_acts c plans x v line nothing q e h = absurd (no_request q e)
next_acts c plans x v line (asks n u behind) q e h =
    let same : question_request n u ≡ q = same_request (question_request n u) q e in
    subst (AsksNext c.program plans x v) same (question_next c plans x v n u (subst (AsksToAct c.program plans x) (sym same) h))
next_acts c plans x v line (traps n k) q e h =
    let same : r.Trap n (reason k) ≡ q = same_request _ q e in
    subst (AsksNext c.program plans x v) same (subst (AsksToAct c.program plans x) (sym same) h)
next_acts c plans x v line ends q e h =
    let same : r.End line ≡ q = same_request (r.End line) q e in
    subst (AsksNext c.program plans x v) same (subst (AsksToAct c.program plans x) (sym same) h)

-- What is ahead of a newer version.
pub ahead_there : (c : Flow) (f : ℕ) (w : Progress) (z : Walk) (os : Queue) (y : Place) (look : Look) → IsLookedAt look w → (look ≡ looks_nowhere) ⊎ (os ≡ []) → IsPlaceAhead os z w y → HasAhead c f w look
ahead_there c f w z [] y look looks rests h = opening_ahead c f w z y look (next_opens c f w z y look looks h)
ahead_there c f w z (o ∷ os) y look looks (inl free) h = subst (HasAhead c f w) (sym free) (nothing_ahead c f w)
ahead_there c f w z (o ∷ os) y look looks (inr none) h = cc

-- and of it, in turn
pub ahead_behind : (c : Flow) (f : ℕ) (w : Progress) (z : Walk) (os : Queue) (y : Place) (look : Look) → IsLookedAt look w → (look ≡ looks_nowhere) ⊎ (os ≡ []) → IsPlaceAhead os z w y
    → HasAhead c f w (crossed_look os look)
ahead_behind c f w z [] y looks_nowhere looks rests h = opening_ahead c f w z y looks_ahead (next_opens c f w z y looks_ahead tt h)
ahead_behind c f w z [] y looks_ahead looks rests h = opening_ahead c f w z y looks_ahead (next_opens c f w z y looks_ahead tt h)
ahead_behind c f w z [] y looks_for_grant looks rests h = opening_ahead c f w z y looks_for_grant (next_opens c f w z y looks_for_grant looks h)
ahead_behind c f w z (o ∷ os) y look looks (inl free) h = subst (HasAhead c f w) (sym free) (nothing_ahead c f w)
ahead_behind c f w z (o ∷ os) y look looks (inr none) h = cc

-- What is asked for is asked for next.
pub asked_next : (c : Flow) (plans : Plans) (x : Own) (w : Progress) (look : Look) (steps : List PartStep) (k : ℕ) (v : Version) (q : Request) → IsLowered c → IsLookedAt look w
    → (look ≡ looks_nowhere) ⊎ ((walk_of c.program plans x steps).owed ≡ []) → IsAsked c.program (walk_of c.program plans x steps) w (end_line c.program x.func) k v q → IsWay c plans x w look steps
    → AsksNext c.program plans x v q
asked_next c plans x w look steps k v q l looks rests (asks_act none is there) h = (let a : ActsFrom c.program plans x q steps = asks_here c plans x w look steps q l none looks is h in next_acts c plans x v (end_line c.program x.func) w q is a.asks)
asked_next c plans x w look steps k v q l looks rests (asks_owed line o owes is) h =
    next_makes c plans x v line o q is (asks_make c plans x w look steps line o q l is owes (nowhere rests) h)
  where
    nowhere : (look ≡ looks_nowhere) ⊎ ((walk_of c.program plans x steps).owed ≡ []) → look ≡ looks_nowhere
    nowhere (inl e) = e
    nowhere (inr e) = absurd (owing (walk_of c.program plans x steps).owed line o owes e)
asked_next c plans x w look steps k v q l looks rests (asks_version y there number is) h =
    let z : Walk = walk_of c.program plans x steps in
    let a : HasAhead c x.func w look = ahead_there c x.func w z z.owed y look looks rests there in
    let part : AsksToCross c.program plans x (line_of_place c.program y) k (length z.passed) v =
    part_of c plans (with_version x v (line_of_place c.program y) k (length z.passed)) w (crossed_look z.owed look)
    (steps ++ makes (line_of_place c.program y) (cross k v.number (length z.passed)) ∷ []) l (ahead_behind c x.func w z z.owed y look looks rests there)
    (way_crosses c plans x w look steps v y (line_of_place c.program y) k (length z.passed) a there (sym (one_number c.program l.lawful k y number)) refl refl h) in
    subst (AsksNext c.program plans x v) (sym is) (refl, part)
