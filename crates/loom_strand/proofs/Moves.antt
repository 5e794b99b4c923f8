-- Steps of the machine.
use Rattle.std.proofs.Common.{ℕ, ◌≡◌, ◌∙◌, Option, Some, refl, sym, ap, subst}
use Rattle.loom_lang.specs.Trace.{Item, reason}
use Rattle.loom_flow.specs.Flow.{Flow}
use Rattle.loom_flow.specs.Position.{Position, before, leaves, over}
use Rattle.loom_flow.specs.Progress.{Progress, goes, asks, traps, ends, nothing, progress}
use Rattle.loom_flow.specs.Code.{IsLowered}
use Rattle.loom_trace.specs.declared.request.Request.{Request}
use Rattle.loom_trace.specs.declared.request.Request.TheVariants as r
use Rattle.loom_strand.specs.declared.step_result.Mark.{Mark}
use Rattle.loom_strand.specs.declared.step_result.StepResult.TheVariants as t
use Rattle.loom_strand.specs.Machine.{Machine, position, with_position}
use Rattle.loom_strand.specs.PositionRequest.{question_request, request_at}
use Rattle.loom_strand.specs.StepResult.{place_here, mark_of, StepsTo, Advances}
use Rattle.loom_strand.specs.StrandInvariant.{IsSoundPosition, IsInOwn, HasRoom}
use Rattle.loom_strand.specs.PrivateRun.{IsRunning}
use Rattle.loom_strand.proofs.Soundness.{Keeps, keeps}
use Rattle.loom_strand.proofs.Owns.{Owns, owns}

pub with_position_at : (a : Machine) (z : Position) → position (with_position a z) ≡ z
with_position_at a (before z) = refl
with_position_at a (leaves z v) = refl
with_position_at a over = refl

pub with_position_room : (c : Flow) (a : Machine) (z : Position) → HasRoom c a → HasRoom c (with_position a z)
with_position_room c a (before z) h = record { values = h.values; frames = h.frames }
with_position_room c a (leaves z v) h = record { values = h.values; frames = h.frames }
with_position_room c a over h = record { values = h.values; frames = h.frames }

-- It was a step of this mark, to this position.
pub record IsMove (c : Flow) (a b : Machine) (mark : Option Mark) : Type 0 where
  pub item : Option Item
  pub behind : Position
  pub goes : progress c (position a) ≡ goes item behind
  pub marked : mark ≡ mark_of c (place_here c (position a)) item
  pub is : b ≡ with_position a behind

same_mark : (x y : Option Mark) → t.Goes x ≡ t.Goes y → x ≡ y
same_mark x y e = cc

came_moved : (c : Flow) (a b : Machine) (mark : Option Mark) (w : Progress) → progress c (position a) ≡ w → StepsTo c (place_here c (position a)) a b (t.Goes mark) w → IsMove c a b mark
came_moved c a b mark (goes item z) p h = record {
  item = item;
  behind = z;
  goes = p;
  marked = same_mark mark (mark_of c (place_here c (position a)) item) h.0;
  is = h.1;
}
came_moved c a b mark (asks line q behind) p h = let no : t.Goes mark ≡ t.Asks (question_request line q) = h.0 in absurd (let x : ⊥ = cc in x)
came_moved c a b mark (traps line cause) p h = let no : t.Goes mark ≡ t.Asks (r.Trap line (reason cause)) = h.0 in absurd (let x : ⊥ = cc in x)
came_moved c a b mark ends p h = let no : t.Goes mark ≡ t.Ends = h.0 in absurd (let x : ⊥ = cc in x)
came_moved c a b mark nothing p h = absurd h

pub moved : (c : Flow) (a b : Machine) (mark : Option Mark) → Advances c a b (t.Goes mark) → IsMove c a b mark
moved c a b mark h = came_moved c a b mark (progress c (position a)) refl h

pub move_at : (c : Flow) (a b : Machine) (mark : Option Mark) (w : IsMove c a b mark) → position b ≡ w.behind
move_at c a b mark w = ap position w.is ∙ with_position_at a w.behind

-- Behind it the machine runs still.
pub move_runs : (c : Flow) (a b : Machine) (mark : Option Mark) → IsLowered c → IsRunning c a → IsMove c a b mark → IsRunning c b
move_runs c a b mark l h w = record {
  sound = subst (IsSoundPosition c) (sym (move_at c a b mark w)) (subst (Keeps c) w.goes (keeps c (position a) l h.sound));
  own = subst (IsInOwn c) (sym (move_at c a b mark w)) (subst (Owns c) w.goes (owns c (position a) l h.sound h.own));
  room = subst (HasRoom c) (sym w.is) (with_position_room c a w.behind h.room);
}

-- It asks for something, or the thread is to end.

same_request : (x y : Request) → t.Asks x ≡ t.Asks y → x ≡ y
same_request x y e = cc

came_asked : (c : Flow) (a b : Machine) (q : Request) (w : Progress) → progress c (position a) ≡ w → StepsTo c (place_here c (position a)) a b (t.Asks q) w
    → (b ≡ a) × ((line : ℕ) → request_at line w ≡ Some q)
came_asked c a b q (goes item z) p h = let no : t.Asks q ≡ t.Goes (mark_of c (place_here c (position a)) item) = h.0 in absurd (let x : ⊥ = cc in x)
came_asked c a b q (asks l x behind) p h = (h.1, λ line. ap {B = Option Request} Some (sym (same_request q (question_request l x) h.0)))
came_asked c a b q (traps l x) p h = (h.1, λ line. ap {B = Option Request} Some (sym (same_request q (r.Trap l (reason x)) h.0)))
came_asked c a b q ends p h = let no : t.Asks q ≡ t.Ends = h.0 in absurd (let x : ⊥ = cc in x)
came_asked c a b q nothing p h = absurd h

pub asked : (c : Flow) (a b : Machine) (q : Request) → Advances c a b (t.Asks q) → (b ≡ a) × ((line : ℕ) → request_at line (progress c (position a)) ≡ Some q)
asked c a b q h = came_asked c a b q (progress c (position a)) refl h

came_ended : (c : Flow) (a b : Machine) (w : Progress) → progress c (position a) ≡ w → StepsTo c (place_here c (position a)) a b t.Ends w → (b ≡ a) × (w ≡ ends)
came_ended c a b (goes item z) p h = let no : t.Ends ≡ t.Goes (mark_of c (place_here c (position a)) item) = h.0 in absurd (let x : ⊥ = cc in x)
came_ended c a b (asks l x behind) p h = let no : t.Ends ≡ t.Asks (question_request l x) = h.0 in absurd (let y : ⊥ = cc in y)
came_ended c a b (traps l x) p h = let no : t.Ends ≡ t.Asks (r.Trap l (reason x)) = h.0 in absurd (let y : ⊥ = cc in y)
came_ended c a b ends p h = (h.1, refl)
came_ended c a b nothing p h = absurd h

pub ended : (c : Flow) (a b : Machine) → Advances c a b t.Ends → (b ≡ a) × (progress c (position a) ≡ ends)
ended c a b h = came_ended c a b (progress c (position a)) refl h
