-- Open statements nest along a thread's trace, and so do its frames, of which no more than the limit are open.
use Rattle.std.specs.Prelude.{ℕ, ◌≤◌, ◌≡◌, false, List, [], ◌∷◌, ◌++◌, length, map}
use Rattle.loom_tree.specs.Tree.{Source}
use Rattle.loom_lang.specs.Rules.{KeepsRules}
use Rattle.loom_lang.specs.Trace.{Item, begins, done, edge, out, Outcome, IsTrace, frame_limit}
use Rattle.loom_law.specs.Filter.{has}
use Rattle.loom_law.specs.Walk.{Plans, PartStep, items, OpenStatement, OpenFrame}
use Rattle.loom_law.specs.ThreadPart.{Own, walk_of}

-- the lines of the statements that are open in each frame, the innermost first
abbrev pub frame_lines : List OpenFrame → List (List ℕ)
frame_lines fs = map (λ (f : OpenFrame). map (λ (s : OpenStatement). s.line) f.statements) fs

-- What may stand before an item, as far as open statements go

-- a frame is open, and in the top one no statement of this line
abbrev pub MayBegin : List (List ℕ) → ℕ → Type 0
MayBegin [] l = ⊥
MayBegin (x ∷ xs) l = has x l ≡ false

-- the innermost statement of the top frame is that of this line, which is open there once
abbrev pub HasInnermost : List (List ℕ) → ℕ → Type 0
HasInnermost [] l = ⊥
HasInnermost ([] ∷ xs) l = ⊥
HasInnermost ((m ∷ ms) ∷ xs) l = (m ≡ l) × (has ms l ≡ false)

abbrev pub HasFrame : List (List ℕ) → Type 0
HasFrame [] = ⊥
HasFrame (x ∷ xs) = Unit {0}

-- A statement begins in a frame in which it isn't open. What is complete, or comes to its back edge, is the innermost one. A frame ends where there
-- is one.
abbrev pub StandsIn : List (List ℕ) → Item → Type 0
StandsIn ls (begins l env) = MayBegin ls l
StandsIn ls (done l) = HasInnermost ls l
StandsIn ls (edge l) = HasInnermost ls l
StandsIn ls (out f) = HasFrame ls
StandsIn ls _ = Unit {0}

-- So it is before each item of a trace, in a program that keeps the rules, whatever filters make the thread do between.
abbrev pub HasNestedStatements : Type 0
HasNestedStatements = (p : Source) → KeepsRules p → (plans : Plans) (x : Own) (steps : List PartStep) (next : Item) (ahead : List Item) (q : Outcome)
    → IsTrace p x.func x.args (items steps ++ next ∷ ahead) q → StandsIn (frame_lines (walk_of p plans x steps).frames) next

-- No more frames are open than the limit.
abbrev pub HasFewFrames : Type 0
HasFewFrames = (p : Source) (plans : Plans) (x : Own) (steps : List PartStep) (ahead : List Item) (q : Outcome)
    → IsTrace p x.func x.args (items steps ++ ahead) q → length (walk_of p plans x steps).frames ≤ frame_limit

-- the top frame is of this function
abbrev pub IsTopFrame : List OpenFrame → ℕ → Type 0
IsTopFrame [] g = ⊥
IsTopFrame (x ∷ xs) g = x.func ≡ g

-- Where a frame ends, it is the top one.
abbrev pub HasTopEnds : Type 0
HasTopEnds = (p : Source) (plans : Plans) (x : Own) (steps : List PartStep) (g : ℕ) (ahead : List Item) (q : Outcome)
    → IsTrace p x.func x.args (items steps ++ out g ∷ ahead) q → IsTopFrame (walk_of p plans x steps).frames g
