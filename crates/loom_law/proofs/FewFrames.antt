-- No more frames are open than the limit.
use Rattle.std.proofs.Common.{ℕ, zero, suc, ◌≤◌, ◌≡◌, List, [], ◌∷◌, ◌++◌, ℤ, length, refl, sym, subst, ◌∙◌, arith}
use Rattle.loom_tree.specs.Tree.{Source}
use Rattle.loom_lang.specs.Trace.{begin, end, trap, read, write, lock, unlock, down, up, spawn, join, print, Item, made, begins, done, edge, enter, out, Outcome, IsTrace, frame_limit}
use Rattle.loom_lang.proofs.Broken.{trace_begins}
use Rattle.loom_law.specs.Walk.{Version, Plans, Operation, wait, enters, at, past, post, leave, back, tick, cross, blocked, PartStep, goes, makes, items, Walk, unborn, open_statement, close_statement, completed, begun_at, taking, behind_entry, crossing, after_item, after_operation, walk_from}
use Rattle.loom_law.specs.OpenStatements.{HasFewFrames}
use Rattle.loom_law.proofs.Ends.{one_less, EndsWell, trace_ends}
use Rattle.loom_law.proofs.LastLeaves.{in_frame_length, without_length, less_length}

-- so many frames are open, with these items ahead
abbrev FrameCount : List Item → ℕ → Type 0
FrameCount rest n = (n ≤ frame_limit) × EndsWell n rest

abbrev IsFew : Walk → List Item → Type 0
IsFew z rest = FrameCount rest (length z.frames)

one_fewer : (n : ℕ) → n ≤ frame_limit → one_less n ≤ frame_limit
one_fewer zero h = h
one_fewer (suc n) h = omega (arith, h)

item_few : (p : Source) (plans : Plans) (z : Walk) (i : Item) (rest : List Item) → length z.frames ≤ frame_limit → EndsWell (length z.frames) (i ∷ rest) → IsFew (after_item p plans z i) rest
item_few p plans z (made l begin) rest h e = absurd e
item_few p plans z (made l end) rest h e = (h, e.1)
item_few p plans z (made l (trap c)) rest h e = (omega arith, e)
item_few p plans z (made l (read x v)) rest h e = (h, e)
item_few p plans z (made l (write x v)) rest h e = (h, e)
item_few p plans z (made l (lock m)) rest h e = (h, e)
item_few p plans z (made l (unlock m)) rest h e = (h, e)
item_few p plans z (made l (down x)) rest h e = (h, e)
item_few p plans z (made l (up x)) rest h e = (h, e)
item_few p plans z (made l (spawn c f vs)) rest h e = (h, e)
item_few p plans z (made l (join c)) rest h e = (h, e)
item_few p plans z (made l (print v)) rest h e = (h, e)
item_few p plans z (begins l env) rest h e = subst (FrameCount rest) (sym (in_frame_length (open_statement l) z.frames)) (h, e.1)
item_few p plans z (done l) rest h e = subst (FrameCount rest) (sym (in_frame_length close_statement z.frames)) (h, e.1)
item_few p plans z (edge l) rest h e = (h, e.1)
item_few p plans z (enter f env) rest h e = let few = e.0 in (omega (arith, few), e.1)
item_few p plans z (out f) rest h e = subst (FrameCount rest) (sym (less_length z.frames)) (one_fewer (length z.frames) h, e)

-- Operations open and close no frame

crossing_length : (p : Source) (plans : Plans) (z : Walk) (vs : List Version) → length (Walk.frames (crossing p plans z vs)) ≡ length z.frames
crossing_length p plans z [] = refl
crossing_length p plans z (v ∷ vs) = without_length v.active z.frames

operation_length : (p : Source) (plans : Plans) (z : Walk) (o : Operation) → length (Walk.frames (after_operation p plans z o)) ≡ length z.frames
operation_length p plans z (wait k n) = refl
operation_length p plans z (enters k c) = refl
operation_length p plans z (at k ns) = in_frame_length (begun_at (plans k) z.spot k ns) z.frames
operation_length p plans z (past k ns) = in_frame_length (completed k ns) z.frames
operation_length p plans z (post k n) = refl
operation_length p plans z (leave k c) = refl
operation_length p plans z back = refl
operation_length p plans z (tick x) = refl
operation_length p plans z (cross x v n) = crossing_length p plans z z.coming
operation_length p plans z (blocked what) = refl

walk_few : (p : Source) (plans : Plans) (z : Walk) (ss : List PartStep) (ahead : List Item) → IsFew z (items ss ++ ahead) → length (Walk.frames (walk_from p plans z ss)) ≤ frame_limit
walk_few p plans z [] ahead h = h.0
walk_few p plans z (goes i ∷ ss) ahead h = walk_few p plans (after_item p plans z i) ss ahead (item_few p plans z i (items ss ++ ahead) h.0 h.1)
walk_few p plans z (makes l o ∷ ss) ahead h =
    walk_few p plans (after_operation p plans z o) ss ahead (subst (FrameCount (items ss ++ ahead)) (sym (operation_length p plans z o)) h)

-- from the begin on

abbrev EndsWellBehind : List Item → Type 0
EndsWellBehind [] = Unit {0}
EndsWellBehind (i ∷ is) = ((l : ℕ) × (i ≡ made l begin)) × EndsWell 0 is

trace_behind : (p : Source) (f : ℕ) (vs : List ℤ) (is : List Item) (r : Outcome) → IsTrace p f vs is r → EndsWellBehind is
trace_behind p f vs [] r h = tt
trace_behind p f vs (i ∷ is) r h = (trace_begins p f vs i is r h, trace_ends p f vs i is r h)

taking_length : (z : Walk) (vs : List Version) → length (Walk.frames (taking z vs)) ≡ length z.frames
taking_length z [] = refl
taking_length z (v ∷ vs) = refl

first_few : (p : Source) (plans : Plans) (z : Walk) (ss : List PartStep) (ahead : List Item) → length z.frames ≡ 0 → EndsWellBehind (items ss ++ ahead)
    → length (Walk.frames (walk_from p plans z ss)) ≤ frame_limit
first_few p plans z [] ahead none h = omega (arith, none)
first_few p plans z (makes l o ∷ ss) ahead none h = first_few p plans (after_operation p plans z o) ss ahead (operation_length p plans z o ∙ none) h
first_few p plans z (goes i ∷ ss) ahead none h =
    let y : Walk = taking (behind_entry z) z.coming in
    let count : length (Walk.frames y) ≡ 0 = taking_length (behind_entry z) z.coming ∙ none in
    let start : IsFew y (items ss ++ ahead) = subst (FrameCount (items ss ++ ahead)) (sym count) (omega arith, h.1) in
    let P : Item → Type 0 = λ j. length (Walk.frames (walk_from p plans (after_item p plans z j) ss)) ≤ frame_limit in
    subst P (sym h.0.1) (walk_few p plans y ss ahead start)

pub few_frames : HasFewFrames
few_frames p plans x steps ahead q trace = first_few p plans (unborn x.versions) steps ahead refl (trace_behind p x.func x.args (items steps ++ ahead) q trace)
