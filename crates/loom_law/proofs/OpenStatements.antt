-- Open statements nest: those that are open in a frame stand round each other, so each is on a line of its own.
use Rattle.std.proofs.Common.{ℕ, zero, suc, ◌<◌, ◌≤◌, ◌≡◌, ◌==◌, ◌⊎◌, inl, inr, nat_lt, true, false, List, [], ◌∷◌, ◌++◌, flat_map, map, slice_get, Some, refl, sym, subst, ◌∙◌, arith}
use Rattle.std.specs.List.{Contains}
use Rattle.std.proofs.lemmas.Bool.{and_from, and_parts, lt-ltb, ltb-true, ne_eqb, or_from}
use Rattle.std.proofs.lemmas.List.Elements.{Contains-append_cases}
use Rattle.loom_tree.specs.Tree.{Body, end, simple, if_, while_, Function, Source}
use Rattle.loom_lang.specs.Rules.{statement_lines, is_ascending, KeepsRules}
use Rattle.loom_lang.specs.Trace.{Item, made, begins, done, edge, enter, out, Outcome, IsTrace}
use Rattle.loom_law.specs.Filter.{Plan, has, plan_of}
use Rattle.loom_law.specs.Walk.{Plans, PartStep, items, OpenStatement, OpenFrame, Walk, unborn}
use Rattle.loom_law.specs.FilterView.{nothing_seen}
use Rattle.loom_law.specs.Paths.{statements, others, Begins}
use Rattle.loom_law.specs.ThreadPart.{Own, walk_of}
use Rattle.loom_law.specs.OpenStatements.{frame_lines, MayBegin, HasInnermost, HasFrame, StandsIn, HasNestedStatements, IsTopFrame, HasTopEnds}
use Rattle.loom_law.proofs.Course.{Level, Course, no_frames, OnFirst, IsNested, IsLoop, Runs, IsCourse, no_member, contains_cases, trace_is_course}
use Rattle.loom_law.proofs.Sight.{IsWellSited, AreOpened, AreGood, one_line, loop_begins}
use Rattle.loom_law.proofs.Sites.{plan_sited}
use Rattle.loom_law.proofs.Sound.{SameLines, SameFrames, Is, walk_keeps, start}

-- Ascending lines

ascends_lower : (a b : ℕ) (ls : List ℕ) → a ≤ b → is_ascending b ls ≡ true → is_ascending a ls ≡ true
ascends_lower a b [] less h = refl
ascends_lower a b (l ∷ ls) less h =
    let g = and_parts (nat_lt b l) (is_ascending l ls) h in
    let beyond : b < l = ltb-true b l g.0 in
    let far : a < l = omega (arith, less, beyond) in
    and_from (nat_lt a l) (is_ascending l ls) (lt-ltb a l far) g.1

ascending_parts : (xs ys : List ℕ) (b : ℕ) → is_ascending b (xs ++ ys) ≡ true → (is_ascending b xs ≡ true) × (is_ascending b ys ≡ true)
ascending_parts [] ys b h = (refl, h)
ascending_parts (x ∷ xs) ys b h =
    let g = and_parts (nat_lt b x) (is_ascending x (xs ++ ys)) h in
    let ih = ascending_parts xs ys x g.1 in
    let beyond : b < x = ltb-true b x g.0 in
    let less : b ≤ x = omega (arith, beyond) in
    (and_from (nat_lt b x) (is_ascending x xs) g.0 ih.0, ascends_lower b x ys less ih.1)

-- Statements that begin beyond a line

abbrev BeginBeyond : ℕ → List Body → Type 0
BeginBeyond b xs = (x : Body) (l : ℕ) → Contains xs x → Begins x l → b < l

none_beyond : (b : ℕ) → BeginBeyond b []
none_beyond b x l c begun = absurd (no_member x c)

first_beyond : (b m : ℕ) (y : Body) (ys : List Body) → Begins y m → b < m → BeginBeyond m ys → BeginBeyond b (y ∷ ys)
first_beyond b m y ys first less h x l c begun = by_cases (contains_cases y x ys c)
  where
    by_cases : (y ≡ x) ⊎ Contains ys x → b < l
    by_cases (inl e) =
        let P : Body → Type 0 = λ q. Begins q m in
        let same : m ≡ l = one_line x m l (subst P e first) begun in
        omega (arith, less, same)
    by_cases (inr d) =
        let beyond : m < l = h x l d begun in
        omega (arith, less, beyond)

both_beyond : (b : ℕ) (xs ys : List Body) → BeginBeyond b xs → BeginBeyond b ys → BeginBeyond b (xs ++ ys)
both_beyond b xs ys h k x l c begun = by_cases (Contains-append_cases xs ys x c)
  where
    by_cases : Contains xs x ⊎ Contains ys x → b < l
    by_cases (inl d) = h x l d begun
    by_cases (inr d) = k x l d begun

statements_beyond : (a : Body) (b : ℕ) → is_ascending b (statement_lines a) ≡ true → BeginBeyond b (statements a)
statements_beyond end b h = none_beyond b
statements_beyond (simple m s rest) b h =
    let g = and_parts (nat_lt b m) (is_ascending m (statement_lines rest)) h in
    first_beyond b m (simple m s end) (statements rest) refl (ltb-true b m g.0) (statements_beyond rest m g.1)
statements_beyond (if_ m e y z rest) b h =
    let g = and_parts (nat_lt b m) (is_ascending m (statement_lines y ++ (statement_lines z ++ statement_lines rest))) h in
    let one = ascending_parts (statement_lines y) (statement_lines z ++ statement_lines rest) m g.1 in
    let two = ascending_parts (statement_lines z) (statement_lines rest) m one.1 in
    first_beyond b m (if_ m e y z end) (statements y ++ (statements z ++ statements rest)) refl (ltb-true b m g.0)
    (both_beyond m (statements y) (statements z ++ statements rest) (statements_beyond y m one.0)
    (both_beyond m (statements z) (statements rest) (statements_beyond z m two.0) (statements_beyond rest m two.1)))
statements_beyond (while_ m e y rest) b h =
    let g = and_parts (nat_lt b m) (is_ascending m (statement_lines y ++ statement_lines rest)) h in
    let one = ascending_parts (statement_lines y) (statement_lines rest) m g.1 in
    first_beyond b m (while_ m e y end) (statements y ++ statements rest) refl (ltb-true b m g.0)
    (both_beyond m (statements y) (statements rest) (statements_beyond y m one.0) (statements_beyond rest m one.1))

-- what is nested in one of these begins beyond it
abbrev NestBeyond : List Body → Type 0
NestBeyond xs = (o : Body) (m : ℕ) → Contains xs o → Begins o m → BeginBeyond m (others (statements o))

none_nests : NestBeyond []
none_nests o m c begun = absurd (no_member o c)

first_nests : (m : ℕ) (y : Body) (ys : List Body) → Begins y m → BeginBeyond m (others (statements y)) → NestBeyond ys → NestBeyond (y ∷ ys)
first_nests m y ys first h k o n c begun = by_cases (contains_cases y o ys c)
  where
    by_cases : (y ≡ o) ⊎ Contains ys o → BeginBeyond n (others (statements o))
    by_cases (inl e) =
        let P : Body → Type 0 = λ q. Begins q m in
        let Q : Body → Type 0 = λ q. BeginBeyond m (others (statements q)) in
        let R : ℕ → Type 0 = λ q. BeginBeyond q (others (statements o)) in
        subst R (one_line o m n (subst P e first) begun) (subst Q e h)
    by_cases (inr d) = k o n d begun

both_nest : (xs ys : List Body) → NestBeyond xs → NestBeyond ys → NestBeyond (xs ++ ys)
both_nest xs ys h k o m c begun = by_cases (Contains-append_cases xs ys o c)
  where
    by_cases : Contains xs o ⊎ Contains ys o → BeginBeyond m (others (statements o))
    by_cases (inl d) = h o m d begun
    by_cases (inr d) = k o m d begun

statements_nest : (a : Body) (b : ℕ) → is_ascending b (statement_lines a) ≡ true → NestBeyond (statements a)
statements_nest end b h = none_nests
statements_nest (simple m s rest) b h =
    let g = and_parts (nat_lt b m) (is_ascending m (statement_lines rest)) h in
    first_nests m (simple m s end) (statements rest) refl (none_beyond m) (statements_nest rest m g.1)
statements_nest (if_ m e y z rest) b h =
    let g = and_parts (nat_lt b m) (is_ascending m (statement_lines y ++ (statement_lines z ++ statement_lines rest))) h in
    let one = ascending_parts (statement_lines y) (statement_lines z ++ statement_lines rest) m g.1 in
    let two = ascending_parts (statement_lines z) (statement_lines rest) m one.1 in
    first_nests m (if_ m e y z end) (statements y ++ (statements z ++ statements rest)) refl
    (both_beyond m (statements y) (statements z ++ []) (statements_beyond y m one.0) (both_beyond m (statements z) [] (statements_beyond z m two.0) (none_beyond m)))
    (both_nest (statements y) (statements z ++ statements rest) (statements_nest y m one.0)
    (both_nest (statements z) (statements rest) (statements_nest z m two.0) (statements_nest rest m two.1)))
statements_nest (while_ m e y rest) b h =
    let g = and_parts (nat_lt b m) (is_ascending m (statement_lines y ++ statement_lines rest)) h in
    let one = ascending_parts (statement_lines y) (statement_lines rest) m g.1 in
    first_nests m (while_ m e y end) (statements y ++ statements rest) refl
    (both_beyond m (statements y) [] (statements_beyond y m one.0) (none_beyond m))
    (both_nest (statements y) (statements rest) (statements_nest y m one.0) (statements_nest rest m one.1))

-- the lines of one function
function_ascends : (fs : List Function) (k b : ℕ) (f : Function) → is_ascending b (flat_map (λ (g : Function). statement_lines g.body) fs) ≡ true → slice_get fs k ≡ Some f
    → is_ascending b (statement_lines f.body) ≡ true
function_ascends [] k b f h e = cc
function_ascends (g ∷ fs) zero b f h e =
    let P : Function → Type 0 = λ q. is_ascending b (statement_lines q.body) ≡ true in
    let same : g ≡ f = cc in
    subst P same (ascending_parts (statement_lines g.body) (flat_map (λ (g : Function). statement_lines g.body) fs) b h).0
function_ascends (g ∷ fs) (suc k) b f h e =
    function_ascends fs k b f (ascending_parts (statement_lines g.body) (flat_map (λ (g : Function). statement_lines g.body) fs) b h).1 e

function_nests : (p : Source) → KeepsRules p → (k : ℕ) (f : Function) → slice_get p.funcs k ≡ Some f → NestBeyond (statements f.body)
function_nests p rules k f is = statements_nest f.body 0 (function_ascends p.funcs k 0 f rules.lines is)

-- The lines of a frame

abbrev lines_open : List OpenStatement → List ℕ
lines_open ss = map (λ (s : OpenStatement). s.line) ss

-- a statement that is nested in those that are open is on none of their lines
other_line : (f : Function) (os : List Body) (ss : List OpenStatement) (b : Body) (l : ℕ) → NestBeyond (statements f.body) → AreOpened f os → SameLines os ss → IsNested os b
    → Begins b l → has (lines_open ss) l ≡ false
other_line f [] [] b l nests opened same nested begun = refl
other_line f [] (s ∷ ss) b l nests opened same nested begun = absurd same
other_line f (o ∷ os) [] b l nests opened same nested begun = absurd same
other_line f (o ∷ os) (s ∷ ss) b l nests opened same nested begun =
    let beyond : s.line < l = nests o s.line opened.0 same.0 b l nested.0 begun in
    or_from (s.line == l) (has (lines_open ss) l) (ne_eqb s.line l (λ e. omega (arith, beyond, e))) (other_line f os ss b l nests opened.1.1 same.1 nested.1 begun)

-- the innermost one is on a line of its own
innermost_line : (f : Function) (os : List Body) (ss : List OpenStatement) (xs : List (List ℕ)) (l : ℕ) → NestBeyond (statements f.body) → AreOpened f os → SameLines os ss
    → OnFirst os (λ b bs. Begins b l) → HasInnermost (lines_open ss ∷ xs) l
innermost_line f [] ss xs l nests opened same first = absurd first
innermost_line f (o ∷ os) [] xs l nests opened same first = absurd same
innermost_line f (o ∷ os) (s ∷ ss) xs l nests opened same first =
    (one_line o s.line l same.0 first, other_line f os ss o l nests opened.1.1 same.1 opened.1.0 first)

-- Items

first_complete : (l : ℕ) (os : List Body) (Q : Body → List Body → Type 0) → OnFirst os (λ b bs. Begins b l × Q b bs) → OnFirst os (λ b bs. Begins b l)
first_complete l [] Q h = h
first_complete l (o ∷ os) Q h = h.0

first_loop : (l : ℕ) (os : List Body) (Q : Body → List Body → Type 0) → OnFirst os (λ b bs. IsLoop b l × Q b bs) → OnFirst os (λ b bs. Begins b l)
first_loop l [] Q h = h
first_loop l (o ∷ os) Q h = loop_begins o l h.0

begins_stands : (p : Source) → KeepsRules p → (ls : List Level) (zs : List OpenFrame) (l : ℕ) (Q : Level → List Level → Body → Type 0) → AreGood p ls → SameFrames ls zs
    → OnFirst ls (λ (x : Level) xs. (b : Body) × (Begins b l × ((Contains (statements (Function.body x.function)) b × IsNested x.opened b) × Q x xs b)))
    → MayBegin (frame_lines zs) l
begins_stands p rules [] zs l Q good same r = absurd r
begins_stands p rules (x ∷ xs) [] l Q good same r = absurd same
begins_stands p rules (x ∷ xs) (z ∷ zs) l Q good same (b, (begun, (there, rest))) =
    other_line x.function x.opened z.statements b l (function_nests p rules x.func x.function good.0.is) good.0.opened same.1.0 there.1 begun

innermost_stands : (p : Source) → KeepsRules p → (ls : List Level) (zs : List OpenFrame) (l : ℕ) → AreGood p ls → SameFrames ls zs
    → OnFirst ls (λ (x : Level) xs. OnFirst x.opened (λ b bs. Begins b l)) → HasInnermost (frame_lines zs) l
innermost_stands p rules [] zs l good same r = absurd r
innermost_stands p rules (x ∷ xs) [] l good same r = absurd same
innermost_stands p rules (x ∷ xs) (z ∷ zs) l good same r =
    innermost_line x.function x.opened z.statements (frame_lines zs) l (function_nests p rules x.func x.function good.0.is) good.0.opened same.1.0 r

out_stands : (ls : List Level) (zs : List OpenFrame) (h : ℕ) (Q : Level → List Level → Type 0) → SameFrames ls zs → OnFirst ls (λ (x : Level) xs. (h ≡ x.func) × Q x xs)
    → HasFrame (frame_lines zs) × IsTopFrame zs h
out_stands [] zs h Q same r = absurd r
out_stands (x ∷ xs) [] h Q same r = absurd same
out_stands (x ∷ xs) (z ∷ zs) h Q same r = (tt, same.0 ∙ sym r.0)

complete_top : (ls : List Level) (l : ℕ) (Q : Level → List Level → Body → List Body → Type 0)
    → OnFirst ls (λ (x : Level) xs. OnFirst x.opened (λ b bs. Begins b l × Q x xs b bs)) → OnFirst ls (λ (x : Level) xs. OnFirst x.opened (λ b bs. Begins b l))
complete_top [] l Q r = r
complete_top (x ∷ xs) l Q r = first_complete l x.opened (λ b bs. Q x xs b bs) r

loop_top : (ls : List Level) (l : ℕ) (Q : Level → List Level → Body → List Body → Type 0)
    → OnFirst ls (λ (x : Level) xs. OnFirst x.opened (λ b bs. IsLoop b l × Q x xs b bs)) → OnFirst ls (λ (x : Level) xs. OnFirst x.opened (λ b bs. Begins b l))
loop_top [] l Q r = r
loop_top (x ∷ xs) l Q r = first_loop l x.opened (λ b bs. Q x xs b bs) r

item_stands : (p : Source) → KeepsRules p → (s : Course) (zs : List OpenFrame) (i : Item) (P : Course → Type 0) → AreGood p s.levels → SameFrames s.levels zs → Runs p s i P
    → StandsIn (frame_lines zs) i
item_stands p rules s zs (made l a) P good same r = tt
item_stands p rules s zs (begins l env) P good same r = begins_stands p rules s.levels zs l _ good same r
item_stands p rules s zs (done l) P good same r = innermost_stands p rules s.levels zs l good same (complete_top s.levels l _ r)
item_stands p rules s zs (edge l) P good same r = innermost_stands p rules s.levels zs l good same (loop_top s.levels l _ r)
item_stands p rules s zs (enter g env) P good same r = tt
item_stands p rules s zs (out g) P good same r = (out_stands s.levels zs g _ same r).0

-- The laws

-- These frames are those of a course, which goes on with what the tree gives behind them.
pub record HasCourse (p : Source) (zs : List OpenFrame) (ahead : List Item) : Type 0 where
  pub course : Course
  pub goes_on : IsCourse p course ahead
  pub good : AreGood p course.levels
  pub same : SameFrames course.levels zs

-- So it is behind each of these steps, with filters or without.
pub course_behind : (p : Source) (plans : Plans) (x : Own) (steps : List PartStep) (ahead : List Item) (q : Outcome) → IsTrace p x.func x.args (items steps ++ ahead) q
    → HasCourse p (Walk.frames (walk_of p plans x steps)) ahead
course_behind p plans x steps ahead q trace =
    let f : Plan = plan_of p [] in
    let well : IsWellSited f = plan_sited p [] in
    let c : IsCourse p no_frames (items steps ++ ahead) = trace_is_course p x.func x.args (items steps ++ ahead) q trace in
    let r = walk_keeps p plans f no_frames (unborn x.versions) nothing_seen steps ahead well (start p f x.versions) c in
    record { course = r.0; goes_on = r.1.0; good = Is.good r.1.1; same = Is.frames r.1.1 }

pub nested_statements : HasNestedStatements
nested_statements p rules plans x steps next ahead q trace =
    let h = course_behind p plans x steps (next ∷ ahead) q trace in
    item_stands p rules h.course (Walk.frames (walk_of p plans x steps)) next (λ s. IsCourse p s ahead) h.good h.same h.goes_on

pub top_ends : HasTopEnds
top_ends p plans x steps g ahead q trace =
    let h = course_behind p plans x steps (out g ∷ ahead) q trace in
    (out_stands (Course.levels h.course) (Walk.frames (walk_of p plans x steps)) g _ h.same h.goes_on).1
