-- Laws of traces on which a thread with filters rests.
use Rattle.std.proofs.Common.{ℕ, ◌≡◌, ◌≤◌, List, [], ◌∷◌, ◌++◌, Option, length, refl, ap, subst, ◌∙◌}
use Rattle.loom_tree.specs.Tree.{Body, Source}
use Rattle.loom_lang.specs.Rules.{KeepsRules}
use Rattle.loom_lang.specs.Places as site
use Rattle.loom_lang.specs.Trace.{Item, Act, begin, end, trap, read, write, lock, unlock, down, up, spawn, join, print, made, Outcome, IsTrace, frame_limit}
use Rattle.loom_law.specs.Filter.{Plan, plan_of}
use Rattle.loom_law.specs.FilterView.{nothing_seen}
use Rattle.loom_law.specs.OpenStatements.{frame_lines, StandsIn}
use Rattle.loom_law.specs.Paths.{Node, Begins}
use Rattle.loom_law.specs.Walk.{Plans, PartStep, items, OpenStatement, OpenFrame, Spot, elsewhere, beginning, entered, complete, left, trapped, Walk, unborn, innermost, place_of_request, request_place}
use Rattle.loom_law.specs.ThreadPart.{Own, walk_of}
use Rattle.loom_law.proofs.Course.{Level, Course, no_frames, AreNone, OnFirst, IsWithin, Acts, Runs, IsCourse, trace_is_course}
use Rattle.loom_law.proofs.FewFrames.{few_frames as few_open}
use Rattle.loom_law.proofs.OpenStatements.{nested_statements}
use Rattle.loom_law.proofs.Sight.{IsWellSited, one_line}
use Rattle.loom_law.proofs.Sites.{plan_sited}
use Rattle.loom_law.proofs.Sound.{SameLines, SameFrames, FitsSpot, Is, walk_keeps, start}

-- What may stand before an item, as far as open statements go.
pub nested : (p : Source) → KeepsRules p → (plans : Plans) (x : Own) (steps : List PartStep) (next : Item) (ahead : List Item) (q : Outcome)
    → IsTrace p x.func x.args (items steps ++ next ∷ ahead) q → StandsIn (frame_lines (walk_of p plans x steps).frames) next
nested p l plans x steps next ahead q t = nested_statements p l plans x steps next ahead q t

-- No more frames are open than the limit.
pub few_frames : (p : Source) (plans : Plans) (x : Own) (steps : List PartStep) (ahead : List Item) (q : Outcome)
    → IsTrace p x.func x.args (items steps ++ ahead) q → length (walk_of p plans x steps).frames ≤ frame_limit
few_frames p plans x steps ahead q t = few_open p plans x steps ahead q t

abbrev pub IsInstructionDeed : Act → Type 0
IsInstructionDeed begin = ⊥
IsInstructionDeed end = ⊥
IsInstructionDeed _ = Unit {0}

-- where a thread is in the tree behind some steps
record IsOnCourse (p : Source) (z : Walk) (ahead : List Item) : Type 0 where
  course : Course
  goes_on : IsCourse p course ahead
  same : SameFrames course.levels z.frames
  spot : FitsSpot course.levels course.gone z.spot

on_course : (p : Source) (plans : Plans) (x : Own) (steps : List PartStep) (ahead : List Item) (q : Outcome) → IsTrace p x.func x.args (items steps ++ ahead) q
    → IsOnCourse p (walk_of p plans x steps) ahead
on_course p plans x steps ahead q t =
    let f : Plan = plan_of p [] in
    let well : IsWellSited f = plan_sited p [] in
    let c : IsCourse p no_frames (items steps ++ ahead) = trace_is_course p x.func x.args (items steps ++ ahead) q t in
    let r = walk_keeps p plans f no_frames (unborn x.versions) nothing_seen steps ahead well (start p f x.versions) c in
    record { course = r.0; goes_on = r.1.0; same = Is.frames r.1.1; spot = Is.spot r.1.1 }

acts_next : (p : Source) (s : Course) (l : ℕ) (a : Act) (P : Course → Type 0) → IsInstructionDeed a → Runs p s (made l a) P → Acts s.levels l
acts_next p s l begin P h r = absurd h
acts_next p s l end P h r = absurd h
acts_next p s l (trap c) P h r = r.0
acts_next p s l (read w v) P h r = r.0
acts_next p s l (write w v) P h r = r.0
acts_next p s l (lock m) P h r = r.0
acts_next p s l (unlock m) P h r = r.0
acts_next p s l (down m) P h r = r.0
acts_next p s l (up m) P h r = r.0
acts_next p s l (spawn c f vs) P h r = r.0
acts_next p s l (join c) P h r = r.0
acts_next p s l (print v) P h r = r.0

innermost_at : (os : List Body) (y : OpenFrame) (l : ℕ) → OnFirst os (λ b bs. Begins b l) → SameLines os y.statements → innermost y.func y.statements ≡ site.inside l
innermost_at os y l h s = by_cases os y.statements h s
  where
    by_cases : (bs : List Body) (ss : List OpenStatement) → OnFirst bs (λ b cs. Begins b l) → SameLines bs ss → innermost y.func ss ≡ site.inside l
    by_cases [] ss f g = absurd f
    by_cases (b ∷ bs) [] f g = absurd g
    by_cases (b ∷ bs) (u ∷ us) f g = ap site.inside (one_line b u.line l g.0 f)

act_at : (ls gone : List Level) (fs : List OpenFrame) (t : Spot) (l : ℕ) → Acts ls l → SameFrames ls fs → FitsSpot ls gone t → place_of_request t [] fs ≡ site.inside l
act_at [] gone fs t l h s k = absurd h
act_at (x ∷ xs) gone [] t l h s k = absurd s
act_at (x ∷ xs) gone (y ∷ ys) elsewhere l h s k = innermost_at x.opened y l h.1 s.1.0
act_at (x ∷ xs) gone (y ∷ ys) (beginning m env) l h s k = innermost_at x.opened y l h.1 s.1.0
act_at (x ∷ xs) gone (y ∷ ys) (entered f env) l h s k = innermost_at x.opened y l h.1 s.1.0
act_at (x ∷ xs) gone (y ∷ ys) (complete m) l h s k =
    let P : Option Node → Type 0 = λ n. IsWithin n l in
    absurd (subst P k.1 h.0)
act_at (x ∷ xs) gone (y ∷ ys) (left f is) l h s k = innermost_at x.opened y l h.1 s.1.0
act_at (x ∷ xs) gone (y ∷ ys) (trapped m) l h s k = absurd k.0

-- An act that comes next, where nothing is owed, is asked for at the in place of the statement of its line.
pub act_place : (p : Source) → KeepsRules p → (plans : Plans) (x : Own) (steps : List PartStep) (l : ℕ) (a : Act) (ahead : List Item) (q : Outcome) → IsInstructionDeed a
    → (walk_of p plans x steps).owed ≡ [] → IsTrace p x.func x.args (items steps ++ made l a ∷ ahead) q → request_place (walk_of p plans x steps) ≡ site.inside l
act_place p rules plans x steps l a ahead q deed none t =
    let z : Walk = walk_of p plans x steps in
    let h : IsOnCourse p z (made l a ∷ ahead) = on_course p plans x steps (made l a ∷ ahead) q t in
    ap (λ os. place_of_request z.spot os z.frames) none
    ∙ act_at (Course.levels h.course) (Course.gone h.course) z.frames z.spot l (acts_next p h.course l a (λ s. IsCourse p s ahead) deed h.goes_on) h.same h.spot

none_open : (ls : List Level) (fs : List OpenFrame) → AreNone ls → SameFrames ls fs → fs ≡ []
none_open [] [] h s = refl
none_open [] (y ∷ ys) h s = absurd s
none_open (x ∷ xs) fs h s = absurd h

-- Where a thread is to end no frame is open.
pub end_frames : (p : Source) (plans : Plans) (x : Own) (steps : List PartStep) (l : ℕ) (ahead : List Item) (q : Outcome)
    → IsTrace p x.func x.args (items steps ++ made l end ∷ ahead) q → (walk_of p plans x steps).frames ≡ []
end_frames p plans x steps l ahead q t =
    let h : IsOnCourse p (walk_of p plans x steps) (made l end ∷ ahead) = on_course p plans x steps (made l end ∷ ahead) q t in
    none_open (Course.levels h.course) (walk_of p plans x steps).frames h.goes_on.0 h.same
