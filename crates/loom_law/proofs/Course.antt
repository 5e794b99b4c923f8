-- Where a thread is in the tree along its trace: its frames with the last node of each, and the statements that are open. Each trace is such a course.
use Rattle.std.proofs.Common.{ℕ, zero, suc, ◌+◌, ◌≡◌, ◌⊎◌, inl, inr, ◌&&◌, ◌||◌, ℤ, pos, negsuc, Bool, true, false, nat_lt, List, [], ◌∷◌, ◌++◌, slice_get, Option, Some, None, refl, sym, subst, arith}
use Rattle.std.specs.List.{Contains, list_any}
use Rattle.std.proofs.lemmas.List.Elements.{Contains-append_left, Contains-append_right}
use Rattle.loom_tree.specs.declared.expression.Op.{Op}
use Rattle.loom_tree.specs.Tree.{Expression, num, var, cell, neg, inverse, bin, Right, Simple, let_, set, set_cell, return, Body, simple, if_, while_, Function, Source}
use Rattle.loom_tree.specs.Tree as tree
use Rattle.loom_lang.specs.Numbers.{Cells, cells_named, mutex_number, sema_number, function_number}
use Rattle.loom_lang.specs.Values.{is_zero, op_value, divides, negated, inverted}
use Rattle.loom_lang.specs.Trace.{Locals, Cause, division, index, not_held, not_spawned, threads, frames, overflow, Act, begin, trap, read, write, lock, unlock, down, up, spawn, join, print, Item, made, begins, done, edge, enter, out, Outcome, Finished, Open, Lists, broken, finished, emit, choice, either, any, Thread, trap_lists, numbered, value_in, reading, reading_word, variable, within, at_index, operated, expression, each_argument, Calls, right, updated, writing_word, stored, join_of, effect, chosen, turns, body, frame_locals, framed, calls_to, frame_limit, thread_end, thread, IsTrace}
use Rattle.loom_lang.specs.Trace as trace
use Rattle.loom_law.specs.Paths.{Node, links, links_of, first_node, behind_simple, statements, others, is_return, has_return, Begins, called, called_right, called_by}
use Rattle.loom_law.specs.Paths as path

-- an open frame: its function, its last beginning, completion or back edge (none where it has just begun), and the statements that have begun and
-- aren't complete, the innermost first
pub record Level : Type 0 where
  pub func : ℕ
  pub function : Function
  pub node : Option Node
  pub opened : List Body

pub record Course : Type 0 where
  -- the open frames, the innermost first, and the one that was left directly before
  pub levels : List Level
  pub gone : List Level

abbrev pub no_frames : Course
no_frames = record { levels = []; gone = [] }

abbrev pub AreNone : {A : Type 0} → List A → Type 0
AreNone [] = Unit {0}
AreNone (x ∷ xs) = ⊥

abbrev pub OnFirst : {A : Type 0} → List A → (A → List A → Type 0) → Type 0
OnFirst [] P = ⊥
OnFirst (x ∷ xs) P = P x xs

abbrev pub Follows : Function → Option Node → Node → Type 0
Follows f None n = Unit {0}
Follows f (Some m) n = Contains (links_of f) (m, n)

-- acts of this line stand behind this node
abbrev pub IsWithin : Option Node → ℕ → Type 0
IsWithin None l = ⊥
IsWithin (Some (path.begins m)) l = m ≡ l
IsWithin (Some (path.complete m)) l = ⊥
IsWithin (Some (path.turns m)) l = m ≡ l
IsWithin (Some path.leaves) l = ⊥

abbrev pub Acts : List Level → ℕ → Type 0
Acts ls l = OnFirst ls (λ (x : Level) xs. IsWithin x.node l × OnFirst x.opened (λ b bs. Begins b l))

-- nested in each of these
abbrev pub IsNested : List Body → Body → Type 0
IsNested [] x = Unit {0}
IsNested (o ∷ os) x = Contains (others (statements o)) x × IsNested os x

abbrev pub AllReturn : List Body → Type 0
AllReturn [] = Unit {0}
AllReturn (o ∷ os) = (has_return o ≡ true) × AllReturn os

abbrev pub IsLoop : Body → ℕ → Type 0
IsLoop (while_ m e a rest) l = m ≡ l
IsLoop b l = ⊥

-- the innermost statement of this frame calls function h
pub record IsCaller (p : Source) (x : Level) (h : ℕ) : Type 0 where
  pub line : ℕ
  pub node : x.node ≡ Some (path.begins line)
  pub statement : OnFirst x.opened (λ b bs. Begins b line × ((name : List ℕ) × ((called_by b ≡ Some name) × (function_number p name ≡ Some h))))

abbrev pub IsCalledFrom : Source → List Level → ℕ → Type 0
IsCalledFrom p [] h = Unit {0}
IsCalledFrom p (x ∷ xs) h = IsCaller p x h

-- the frame goes on to a node, with these statements open
abbrev pub moved : Level → Node → List Body → Level
moved x n os = record x { node = Some n; opened = os }

abbrev pub at_level : Level → List Level → Course
at_level x xs = record { levels = x ∷ xs; gone = [] }

-- an item, and what holds of where it leads
abbrev pub Runs : Source → Course → Item → (Course → Type 0) → Type 0
Runs p s (made l begin) P = AreNone s.levels × (AreNone s.gone × P no_frames)
Runs p s (made l trace.end) P = AreNone s.levels × P no_frames
Runs p s (made l (trap c)) P = Acts s.levels l × P no_frames
Runs p s (made l a) P = Acts s.levels l × P (record s { gone = [] })
Runs p s (begins l env) P = OnFirst s.levels (λ x xs. (b : Body) × (Begins b l × ((Contains (statements (Function.body x.function)) b × IsNested x.opened b)
    × (Follows x.function x.node (path.begins l) × P (at_level (moved x (path.begins l) (b ∷ x.opened)) xs)))))
Runs p s (done l) P = OnFirst s.levels (λ x xs. OnFirst x.opened (λ b bs. Begins b l
    × (Follows x.function x.node (path.complete l) × P (at_level (moved x (path.complete l) bs) xs))))
Runs p s (edge l) P = OnFirst s.levels (λ x xs. OnFirst x.opened (λ b bs. IsLoop b l
    × (Follows x.function x.node (path.turns l) × P (at_level (moved x (path.turns l) (b ∷ bs)) xs))))
Runs p s (enter h env) P = IsCalledFrom p s.levels h × ((g : Function) × ((slice_get p.funcs h ≡ Some g)
    × P (at_level (record { func = h; function = g; node = None; opened = [] }) s.levels)))
Runs p s (out h) P = OnFirst s.levels (λ x xs. (h ≡ x.func) × (Follows x.function x.node path.leaves × (AllReturn x.opened × P (record { levels = xs; gone = x ∷ [] }))))

abbrev pub IsCourse : Source → Course → List Item → Type 0
IsCourse p s [] = Unit {0}
IsCourse p s (i ∷ is) = Runs p s i (λ s'. IsCourse p s' is)

-- each list of these is a course from there
abbrev pub Within : Source → Course → Lists → Type 0
Within p s M = (is : List Item) (r : Outcome) → M is r → IsCourse p s is

-- where a frame may have been left before
abbrev pub WithinFrames : Source → List Level → Lists → Type 0
WithinFrames p ls M = (g : List Level) → Within p (record { levels = ls; gone = g }) M

-- Lists

pub broken_within : (p : Source) (s : Course) → Within p s broken
broken_within p s is r h =
    let P : List Item → Type 0 = λ z. IsCourse p s z in
    subst P (sym h.0) tt

pub emit_within : (p : Source) (s : Course) (i : Item) (M : Lists) → ((is : List Item) (r : Outcome) → M is r → Runs p s i (λ s'. IsCourse p s' is)) → Within p s (emit i M)
emit_within p s i M m is r (inl b) = broken_within p s is r b
emit_within p s i M m is r (inr h) =
    let P : List Item → Type 0 = λ z. IsCourse p s z in
    subst P (sym h.1) (m h.0 r h.2)

abbrev Stops : Thread → Type 0
Stops t = Within t.program no_frames t.stopped

trapped_inside : (t : Thread) (ls : List Level) (l : ℕ) (c : Cause) → Acts ls l → Stops t → WithinFrames t.program ls (trap_lists t l c)
trapped_inside t ls l c a st g = emit_within t.program _ (made l (trap c)) t.stopped (λ is r h. (a, st is r h))

choice_inside : (p : Source) (ls : List Level) (b : Bool) (M N : Lists) → WithinFrames p ls M → WithinFrames p ls N → WithinFrames p ls (choice b M N)
choice_inside p ls true M N m n = m
choice_inside p ls false M N m n = n

numbered_inside : (p : Source) (ls : List Level) (n : Option ℕ) (more : ℕ → Lists) → ((k : ℕ) → (n ≡ Some k) → WithinFrames p ls (more k)) → WithinFrames p ls (numbered n more)
numbered_inside p ls None more m = λ g. broken_within p _
numbered_inside p ls (Some k) more m = m k refl

either_inside : (p : Source) (ls : List Level) (M N : Lists) → WithinFrames p ls M → WithinFrames p ls N → WithinFrames p ls (either M N)
either_inside p ls M N m n g is r (inl h) = m g is r h
either_inside p ls M N m n g is r (inr h) = n g is r h

-- Expressions

reading_inside : (p : Source) (ls : List Level) (l w : ℕ) (more : ℤ → Lists) → Acts ls l → ((v : ℤ) → WithinFrames p ls (more v)) → WithinFrames p ls (reading l w more)
reading_inside p ls l w more a m g is r h = emit_within p _ (made l (read w h.0)) (more h.0) (λ js q u. (a, m h.0 [] js q u)) is r h.1

reading_word_inside : (p : Source) (ls : List Level) (l : ℕ) (c : Option Cells) (more : ℤ → Lists) → Acts ls l → ((v : ℤ) → WithinFrames p ls (more v))
    → WithinFrames p ls (reading_word l c more)
reading_word_inside p ls l None more a m = λ g. broken_within p _
reading_word_inside p ls l (Some c) more a m = reading_inside p ls l c.first more a m

variable_inside : (t : Thread) (ls : List Level) (l : ℕ) (o : Option ℤ) (x : List ℕ) (more : ℤ → Lists) → Acts ls l → ((v : ℤ) → WithinFrames t.program ls (more v))
    → WithinFrames t.program ls (variable t l o x more)
variable_inside t ls l (Some v) x more a m = m v
variable_inside t ls l None x more a m = reading_word_inside t.program ls l (cells_named t.program x) more a m

within_inside : (t : Thread) (ls : List Level) (l from : ℕ) (n : Option ℕ) (v : ℤ) (more : ℕ → Lists) → Acts ls l → Stops t
    → ((w : ℕ) → WithinFrames t.program ls (more w)) → WithinFrames t.program ls (within t l from n v more)
within_inside t ls l from None v more a st m = λ g. broken_within t.program _
within_inside t ls l from (Some n) (pos i) more a st m = choice_inside t.program ls (nat_lt i n) _ _ (m (from + i)) (trapped_inside t ls l index a st)
within_inside t ls l from (Some n) (negsuc i) more a st m = trapped_inside t ls l index a st

indexed_inside : (t : Thread) (ls : List Level) (l : ℕ) (c : Option Cells) (v : ℤ) (more : ℕ → Lists) → Acts ls l → Stops t
    → ((w : ℕ) → WithinFrames t.program ls (more w)) → WithinFrames t.program ls (at_index t l c v more)
indexed_inside t ls l None v more a st m = λ g. broken_within t.program _
indexed_inside t ls l (Some c) v more a st m = within_inside t ls l c.first c.count v more a st m

operated_inside : (t : Thread) (ls : List Level) (l : ℕ) (o : Op) (x y : ℤ) (more : ℤ → Lists) → Acts ls l → Stops t
    → ((v : ℤ) → WithinFrames t.program ls (more v)) → WithinFrames t.program ls (operated t l o x y more)
operated_inside t ls l o x y more a st m = choice_inside t.program ls (divides o && is_zero y) _ _ (trapped_inside t ls l division a st) (m (op_value o x y))

expression_inside : (t : Thread) (ls : List Level) (l : ℕ) (env : Locals) (e : Expression) (more : ℤ → Lists) → Acts ls l → Stops t
    → ((v : ℤ) → WithinFrames t.program ls (more v)) → WithinFrames t.program ls (expression t l env e more)
expression_inside t ls l env (num n) more a st m = m n
expression_inside t ls l env (var x) more a st m = variable_inside t ls l (value_in env x) x more a m
expression_inside t ls l env (cell x i) more a st m =
    expression_inside t ls l env i _ a st (λ v. indexed_inside t ls l (cells_named t.program x) v _ a st (λ w. reading_inside t.program ls l w more a m))
expression_inside t ls l env (neg e) more a st m = expression_inside t ls l env e _ a st (λ v. m (negated v))
expression_inside t ls l env (inverse e) more a st m = expression_inside t ls l env e _ a st (λ v. m (inverted v))
expression_inside t ls l env (bin o e f) more a st m =
    expression_inside t ls l env e _ a st (λ v. expression_inside t ls l env f _ a st (λ w. operated_inside t ls l o v w more a st m))

arguments_inside : (t : Thread) (ls : List Level) (l : ℕ) (env : Locals) (es : List Expression) (more : List ℤ → Lists) → Acts ls l → Stops t
    → ((vs : List ℤ) → WithinFrames t.program ls (more vs)) → WithinFrames t.program ls (each_argument t l env es more)
arguments_inside t ls l env [] more a st m = m []
arguments_inside t ls l env (e ∷ es) more a st m =
    expression_inside t ls l env e _ a st (λ v. arguments_inside t ls l env es _ a st (λ vs. m (v ∷ vs)))

-- Statements

abbrev pub Sub : {A : Type 0} → List A → List A → Type 0
Sub {A} xs ys = (x : A) → Contains xs x → Contains ys x

pub contains_first : {A : Type 0} (x : A) (xs : List A) → Contains (x ∷ xs) x
contains_first x xs = (0, omega arith, refl)

pub contains_later : {A : Type 0} (y x : A) (xs : List A) → Contains xs x → Contains (y ∷ xs) x
contains_later y x xs h = let lt = h.1 in (suc h.0, omega arith, h.2)

pub no_member : {A : Type 0} (x : A) → Contains [] x → ⊥
no_member x h = let lt = h.1 in absurd (omega arith)

pub contains_cases : {A : Type 0} (y x : A) (xs : List A) → Contains (y ∷ xs) x → (y ≡ x) ⊎ Contains xs x
contains_cases y x xs (zero, lt, e) = inl e
contains_cases y x xs (suc k, lt, e) = inr (k, omega arith, e)

sub_later : {A : Type 0} (y : A) (xs ys : List A) → Sub (y ∷ xs) ys → Sub xs ys
sub_later y xs ys s x h = s x (contains_later y x xs h)

sub_left : {A : Type 0} (xs xs' ys : List A) → Sub (xs ++ xs') ys → Sub xs ys
sub_left xs xs' ys s x h = s x (Contains-append_left xs xs' x h)

sub_right : {A : Type 0} (xs xs' ys : List A) → Sub (xs ++ xs') ys → Sub xs' ys
sub_right xs xs' ys s x h = s x (Contains-append_right xs xs' x h)

-- all statements of the body are nested in each of these
abbrev pub AreNested : List Body → List Body → Type 0
AreNested [] xs = Unit {0}
AreNested (o ∷ os) xs = Sub xs (others (statements o)) × AreNested os xs

nested_less : (os xs ys : List Body) → Sub xs ys → AreNested os ys → AreNested os xs
nested_less [] xs ys s h = tt
nested_less (o ∷ os) xs ys s h = ((λ x c. h.0 x (s x c)), nested_less os xs ys s h.1)

nested_one : (os : List Body) (x : Body) (xs : List Body) → Contains xs x → AreNested os xs → IsNested os x
nested_one [] x xs c h = tt
nested_one (o ∷ os) x xs c h = (h.0 x c, nested_one os x xs c h.1)

pub not_return : (s : Simple Expression) (n : Node) → path.is_simple_return s ≡ false → behind_simple s n ≡ n
not_return (let_ x r) n e = refl
not_return (set x r) n e = refl
not_return (set_cell x i v) n e = refl
not_return (Simple.call g es) n e = refl
not_return (return v) n e = cc
not_return (tree.lock x) n e = refl
not_return (tree.unlock x) n e = refl
not_return (tree.down x) n e = refl
not_return (tree.up x) n e = refl
not_return (tree.join v) n e = refl
not_return (tree.print v) n e = refl
not_return tree.skip n e = refl

pub is_returning : (s : Simple Expression) (n : Node) → path.is_simple_return s ≡ true → behind_simple s n ≡ path.leaves
is_returning (let_ x r) n e = cc
is_returning (set x r) n e = cc
is_returning (set_cell x i v) n e = cc
is_returning (Simple.call g es) n e = cc
is_returning (return v) n e = refl
is_returning (tree.lock x) n e = cc
is_returning (tree.unlock x) n e = cc
is_returning (tree.down x) n e = cc
is_returning (tree.up x) n e = cc
is_returning (tree.join v) n e = cc
is_returning (tree.print v) n e = cc
is_returning tree.skip n e = cc

or_later : (a b : Bool) → b ≡ true → (a || b) ≡ true
or_later true b h = refl
or_later false b h = h

or_first : (a b : Bool) → a ≡ true → (a || b) ≡ true
or_first true b h = refl
or_first false b h = cc

pub any_contains : {A : Type 0} (test : A → Bool) (xs : List A) (x : A) → Contains xs x → test x ≡ true → list_any test xs ≡ true
any_contains test [] x c h = absurd (no_member x c)
any_contains {A} test (y ∷ ys) x (zero, lt, e) h =
    let P : A → Type 0 = λ z. test z ≡ true in
    or_first (test y) _ (subst P (sym e) h)
any_contains test (y ∷ ys) x (suc k, lt, e) h = or_later (test y) _ (any_contains test ys x (k, omega arith, e) h)

all_return : (os xs : List Body) (x : Body) → Contains xs x → is_return x ≡ true → AreNested os xs → AllReturn os
all_return [] xs x c h n = tt
all_return (o ∷ os) xs x c h n = (any_contains is_return (others (statements o)) x (n.0 x c) h, all_return os xs x c h n.1)

-- calls from there
abbrev CallsInside : Thread → Calls → Type 1
CallsInside t calls = (l h : ℕ) (vs : List ℤ) (x : Level) (xs : List Level) (more : ℤ → Lists) → IsCaller t.program x h → Acts (x ∷ xs) l
    → ((v : ℤ) → WithinFrames t.program (x ∷ xs) (more v)) → WithinFrames t.program (x ∷ xs) (calls l h vs more)

right_inside : (t : Thread) (calls : Calls) (l : ℕ) (env : Locals) (e : Right Expression) (x : Level) (xs : List Level) (more : ℤ → Lists) → Stops t → CallsInside t calls
    → Acts (x ∷ xs) l → ((name : List ℕ) (h : ℕ) → called_right e ≡ Some name → function_number t.program name ≡ Some h → IsCaller t.program x h)
    → ((name : List ℕ) → called_right e ≡ Some name → (v : ℤ) → WithinFrames t.program (x ∷ xs) (more v)) → ((v : ℤ) → WithinFrames t.program (x ∷ xs) (more v))
    → WithinFrames t.program (x ∷ xs) (right t calls l env e more)
right_inside t calls l env (Right.value e) x xs more st c a k b m = expression_inside t (x ∷ xs) l env e more a st m
right_inside t calls l env (Right.call f es) x xs more st c a k b m =
    arguments_inside t (x ∷ xs) l env es _ a st (λ vs. numbered_inside t.program (x ∷ xs) (function_number t.program f) _ (λ n is. c l n vs x xs more (k f n refl is) a (b f refl)))
right_inside t calls l env (Right.spawn f es) x xs more st c a k b m =
    arguments_inside t (x ∷ xs) l env es _ a st (λ vs. numbered_inside t.program (x ∷ xs) (function_number t.program f) _ (λ n is.
    either_inside t.program (x ∷ xs) _ _ (trapped_inside t (x ∷ xs) l threads a st)
    (λ g js r h. emit_within t.program _ (made l (spawn h.0 n vs)) (more (pos h.0)) (λ ks q w. (a, m (pos h.0) [] ks q w)) js r h.1)))

stored_inside : (t : Thread) (ls : List Level) (l : ℕ) (env : Locals) (o : Option ℤ) (x : List ℕ) (v : ℤ) (more : Locals → Lists) → Acts ls l
    → ((env' : Locals) → WithinFrames t.program ls (more env')) → WithinFrames t.program ls (stored t l env o x v more)
stored_inside t ls l env (Some old) x v more a m = m (updated env x v)
stored_inside t ls l env None x v more a m = in_word (cells_named t.program x)
  where
    in_word : (c : Option Cells) → WithinFrames t.program ls (writing_word l c v (more env))
    in_word None = λ g. broken_within t.program _
    in_word (Some c) = λ g. emit_within t.program _ (made l (write c.first v)) (more env) (λ is r h. (a, m env [] is r h))

joined_inside : (t : Thread) (ls : List Level) (l : ℕ) (v : ℤ) (M : Lists) → Acts ls l → Stops t → WithinFrames t.program ls M → WithinFrames t.program ls (join_of t l v M)
joined_inside t ls l (pos c) M a st m =
    either_inside t.program ls _ _ (trapped_inside t ls l (not_spawned (pos c)) a st) (λ g. emit_within t.program _ (made l (join c)) M (λ is r h. (a, m [] is r h)))
joined_inside t ls l (negsuc c) M a st m = trapped_inside t ls l (not_spawned (negsuc c)) a st

abbrev level : ℕ → Function → Option Node → List Body → Level
level h f m os = record { func = h; function = f; node = m; opened = os }

caller : (p : Source) (h : ℕ) (f : Function) (l : ℕ) (s : Simple Expression) (os : List Body) (name : List ℕ) (n : ℕ) → called s ≡ Some name
    → function_number p name ≡ Some n → IsCaller p (level h f (Some (path.begins l)) (simple l s tree.end ∷ os)) n
caller p h f l s os name n is number = record { line = l; node = refl; statement = (refl, (name, (is, number))) }

effect_inside : (t : Thread) (calls : Calls) (h : ℕ) (f : Function) (l : ℕ) (env : Locals) (s : Simple Expression) (os : List Body) (xs : List Level)
    (ret : ℤ → Lists) (more : Locals → Lists) → Stops t → CallsInside t calls
    → (path.is_simple_return s ≡ true → (v : ℤ) → WithinFrames t.program (level h f (Some (path.begins l)) (simple l s tree.end ∷ os) ∷ xs) (emit (done l) (ret v)))
    → (path.is_simple_return s ≡ false → (env' : Locals) → WithinFrames t.program (level h f (Some (path.begins l)) (simple l s tree.end ∷ os) ∷ xs) (more env'))
    → WithinFrames t.program (level h f (Some (path.begins l)) (simple l s tree.end ∷ os) ∷ xs) (effect t calls l env s ret more)
effect_inside t calls h f l env (let_ x e) os xs ret more st c b m =
    right_inside t calls l env e _ xs _ st c (refl, refl) (λ name n is number. caller t.program h f l (let_ x e) os name n is number)
    (λ name is v. stored_inside t _ l env (value_in env x) x v more (refl, refl) (m refl))
    (λ v. stored_inside t _ l env (value_in env x) x v more (refl, refl) (m refl))
effect_inside t calls h f l env (set x e) os xs ret more st c b m =
    right_inside t calls l env e _ xs _ st c (refl, refl) (λ name n is number. caller t.program h f l (set x e) os name n is number)
    (λ name is v. stored_inside t _ l env (value_in env x) x v more (refl, refl) (m refl))
    (λ v. stored_inside t _ l env (value_in env x) x v more (refl, refl) (m refl))
effect_inside t calls h f l env (set_cell x i e) os xs ret more st c b m =
    expression_inside t _ l env i _ (refl, refl) st (λ a. expression_inside t _ l env e _ (refl, refl) st (λ v.
    indexed_inside t _ l (cells_named t.program x) a _ (refl, refl) st (λ w g. emit_within t.program _ (made l (write w v)) (more env) (λ is r k. ((refl, refl), m refl env [] is r k)))))
effect_inside t calls h f l env (Simple.call g es) os xs ret more st c b m =
    arguments_inside t _ l env es _ (refl, refl) st (λ vs. numbered_inside t.program _ (function_number t.program g) _ (λ n is.
    c l n vs _ xs _ (caller t.program h f l (Simple.call g es) os g n refl is) (refl, refl) (λ v. m refl env)))
effect_inside t calls h f l env (return None) os xs ret more st c b m = b refl (pos 0)
effect_inside t calls h f l env (return (Some e)) os xs ret more st c b m = expression_inside t _ l env e _ (refl, refl) st (b refl)
effect_inside t calls h f l env (tree.lock x) os xs ret more st c b m =
    numbered_inside t.program _ (mutex_number t.program x) _ (λ k is g. emit_within t.program _ (made l (lock k)) (more env) (λ js r w. ((refl, refl), m refl env [] js r w)))
effect_inside t calls h f l env (tree.unlock x) os xs ret more st c b m =
    numbered_inside t.program _ (mutex_number t.program x) _ (λ k is.
    either_inside t.program _ _ _ (trapped_inside t _ l (not_held k) (refl, refl) st)
    (λ g. emit_within t.program _ (made l (unlock k)) (more env) (λ js r w. ((refl, refl), m refl env [] js r w))))
effect_inside t calls h f l env (tree.down x) os xs ret more st c b m =
    numbered_inside t.program _ (sema_number t.program x) _ (λ k is g. emit_within t.program _ (made l (down k)) (more env) (λ js r w. ((refl, refl), m refl env [] js r w)))
effect_inside t calls h f l env (tree.up x) os xs ret more st c b m =
    numbered_inside t.program _ (sema_number t.program x) _ (λ k is.
    either_inside t.program _ _ _ (trapped_inside t _ l (overflow k) (refl, refl) st)
    (λ g. emit_within t.program _ (made l (up k)) (more env) (λ js r w. ((refl, refl), m refl env [] js r w))))
effect_inside t calls h f l env (tree.join e) os xs ret more st c b m =
    expression_inside t _ l env e _ (refl, refl) st (λ v. joined_inside t _ l v (more env) (refl, refl) st (m refl env))
effect_inside t calls h f l env (tree.print e) os xs ret more st c b m =
    expression_inside t _ l env e _ (refl, refl) st (λ v g. emit_within t.program _ (made l (print v)) (more env) (λ js r w. ((refl, refl), m refl env [] js r w)))
effect_inside t calls h f l env tree.skip os xs ret more st c b m = m refl env

abbrev Turn : Type 1
Turn = Locals → (Locals → Lists) → (Locals → Lists) → Lists

turns_inside : (p : Source) (H : Option Node → Type 0) (at : Option Node → List Level) (turn : Turn)
    → ((env : Locals) (m : Option Node) (again leave : Locals → Lists) → H m → ((env' : Locals) (m' : Option Node) → H m' → WithinFrames p (at m') (again env'))
    → ((env' : Locals) (m' : Option Node) → H m' → WithinFrames p (at m') (leave env')) → WithinFrames p (at m) (turn env again leave))
    → (leave : Locals → Lists) → ((env' : Locals) (m' : Option Node) → H m' → WithinFrames p (at m') (leave env'))
    → (k : ℕ) (env : Locals) (m : Option Node) → H m → WithinFrames p (at m) (turns k turn leave env)
turns_inside p H at turn one leave last zero env m h = λ g. broken_within p _
turns_inside p H at turn one leave last (suc k) env m h = one env m _ _ h (λ env' m' h'. turns_inside p H at turn one leave last k env' m' h') last

-- what a body's statements come to where it stands in its function
record Stands (f : Function) (b : Body) (k : Node) (os : List Body) : Type 0 where
  links : Sub (path.links b k) (links_of f)
  statements : Sub (path.statements b) (path.statements f.body)
  nested : AreNested os (path.statements b)

abbrev Returns : Source → ℕ → Function → List Level → (ℤ → Lists) → Type 0
Returns p h f xs ret = (m : ℕ) (os : List Body) → AllReturn os → Follows f (Some (path.complete m)) path.leaves → (v : ℤ)
    → WithinFrames p (level h f (Some (path.complete m)) os ∷ xs) (ret v)

-- the statement itself is complete
done_inside : (p : Source) (h : ℕ) (f : Function) (m : Option Node) (b : Body) (os : List Body) (xs : List Level) (l : ℕ) (M : Lists) → Begins b l
    → Follows f m (path.complete l) → WithinFrames p (level h f (Some (path.complete l)) os ∷ xs) M → WithinFrames p (level h f m (b ∷ os) ∷ xs) (emit (done l) M)
done_inside p h f m b os xs l M begun fol n g = emit_within p _ (done l) M (λ is r w. (begun, (fol, n [] is r w)))

begins_inside : (p : Source) (h : ℕ) (f : Function) (m : Option Node) (b : Body) (os : List Body) (xs : List Level) (l : ℕ) (env : Locals) (M : Lists) → Begins b l
    → Contains (statements f.body) b → IsNested os b → Follows f m (path.begins l) → WithinFrames p (level h f (Some (path.begins l)) (b ∷ os) ∷ xs) M
    → WithinFrames p (level h f m os ∷ xs) (emit (begins l env) M)
begins_inside p h f m b os xs l env M begun there nested fol n g = emit_within p _ (begins l env) M (λ is r w. (b, (begun, ((there, nested), (fol, n [] is r w)))))

abbrev behind : {A : Type 0} → ℕ → List A → List A
behind zero xs = xs
behind (suc n) [] = []
behind (suc n) (x ∷ xs) = behind n xs

sub_behind : {A : Type 0} (n : ℕ) (xs ys : List A) → Sub xs ys → Sub (behind n xs) ys
sub_behind zero xs ys s = s
sub_behind (suc n) [] ys s = s
sub_behind (suc n) (x ∷ xs) ys s = sub_behind n xs ys (sub_later x xs ys s)

sub_itself : {A : Type 0} (xs : List A) → Sub xs xs
sub_itself xs x c = c

-- the parts of two lists, and of three, behind so many others
sub_one : {A : Type 0} (n : ℕ) (all xs ys zs : List A) → behind n all ≡ xs ++ ys → Sub all zs → Sub xs zs
sub_one {A} n all xs ys zs is s =
    let P : List A → Type 0 = λ z. Sub z zs in
    sub_left xs ys zs (subst P is (sub_behind n all zs s))

sub_two : {A : Type 0} (n : ℕ) (all xs ys zs : List A) → behind n all ≡ xs ++ ys → Sub all zs → Sub ys zs
sub_two {A} n all xs ys zs is s =
    let P : List A → Type 0 = λ z. Sub z zs in
    sub_right xs ys zs (subst P is (sub_behind n all zs s))

body_inside : (t : Thread) (calls : Calls) (n h : ℕ) (f : Function) (xs : List Level) (ret : ℤ → Lists) → Stops t → CallsInside t calls → Returns t.program h f xs ret
    → (env : Locals) (b : Body) (k : Node) (os : List Body) (m : Option Node) (more : Locals → Lists) → Stands f b k os → Follows f m (first_node b k)
    → ((m' : Option Node) → Follows f m' k → (env' : Locals) → WithinFrames t.program (level h f m' os ∷ xs) (more env'))
    → WithinFrames t.program (level h f m os ∷ xs) (body t calls n env b ret more)
body_inside t calls n h f xs ret st c r env tree.end k os m more a fol go = go m fol env
body_inside t calls n h f xs ret st c r env (simple l s rest) k os m more a fol go =
    let x : Body = simple l s tree.end in
    let all : List Body = statements (simple l s rest) in
    let begun : Follows f (Some (path.begins l)) (path.complete l) = a.links _ (0, omega arith, refl) in
    let goes_on : Follows f (Some (path.complete l)) (behind_simple s (first_node rest k)) = a.links _ (1, omega arith, refl) in
    let r_all : Sub (statements rest) all = sub_behind 1 all all (sub_itself all) in
    let others_stand : Stands f rest k os = record {
      links = sub_behind 2 (links (simple l s rest) k) (links_of f) a.links;
      statements = (λ e w. a.statements e (r_all e w));
      nested = nested_less os (statements rest) all r_all a.nested;
    } in
    let P : Node → Type 0 = λ z. Follows f (Some (path.complete l)) z in
    begins_inside t.program h f m x os xs l env _ refl (a.statements x (contains_first x _)) (nested_one os x all (contains_first x _) a.nested) fol
    (effect_inside t calls h f l env s os xs ret _ st c
    (λ is v. done_inside t.program h f (Some (path.begins l)) x os xs l _ refl begun
    (r l os (all_return os all x (contains_first x _) is a.nested) (subst P (is_returning s _ is) goes_on) v))
    (λ is env'. done_inside t.program h f (Some (path.begins l)) x os xs l _ refl begun
    (body_inside t calls n h f xs ret st c r env' rest k os (Some (path.complete l)) more others_stand (subst P (not_return s _ is) goes_on) go)))
body_inside t calls n h f xs ret st c r env (if_ l e y z rest) k os m more a fol go =
    let x : Body = if_ l e y z tree.end in
    let all : List Body = statements (if_ l e y z rest) in
    let cs : List (Node × Node) = links (if_ l e y z rest) k in
    let to_y : Follows f (Some (path.begins l)) (first_node y (path.complete l)) = a.links _ (0, omega arith, refl) in
    let to_z : Follows f (Some (path.begins l)) (first_node z (path.complete l)) = a.links _ (1, omega arith, refl) in
    let goes_on : Follows f (Some (path.complete l)) (first_node rest k) = a.links _ (2, omega arith, refl) in
    let ly : List (Node × Node) = links y (path.complete l) in
    let lz : List (Node × Node) = links z (path.complete l) in
    let lr : List (Node × Node) = links rest k in
    let sy : List Body = statements y in
    let sz : List Body = statements z in
    let sr : List Body = statements rest in
    let y_all : Sub sy all = sub_one 1 all sy (sz ++ sr) all refl (sub_itself all) in
    let z_all : Sub sz all = sub_left sz sr all (sub_two 1 all sy (sz ++ sr) all refl (sub_itself all)) in
    let r_all : Sub sr all = sub_right sz sr all (sub_two 1 all sy (sz ++ sr) all refl (sub_itself all)) in
    let y_in : Sub sy (others (statements x)) = λ e w. Contains-append_left sy (sz ++ []) e w in
    let z_in : Sub sz (others (statements x)) = λ e w. Contains-append_right sy (sz ++ []) e (Contains-append_left sz [] e w) in
    let y_stands : Stands f y (path.complete l) (x ∷ os) = record {
      links = sub_one 3 cs ly (lz ++ lr) (links_of f) refl a.links;
      statements = (λ e w. a.statements e (y_all e w));
      nested = (y_in, nested_less os sy all y_all a.nested);
    } in
    let z_stands : Stands f z (path.complete l) (x ∷ os) = record {
      links = sub_left lz lr (links_of f) (sub_two 3 cs ly (lz ++ lr) (links_of f) refl a.links);
      statements = (λ e w. a.statements e (z_all e w));
      nested = (z_in, nested_less os sz all z_all a.nested);
    } in
    let r_stands : Stands f rest k os = record {
      links = sub_right lz lr (links_of f) (sub_two 3 cs ly (lz ++ lr) (links_of f) refl a.links);
      statements = (λ e w. a.statements e (r_all e w));
      nested = nested_less os sr all r_all a.nested;
    } in
    let close : (m' : Option Node) → Follows f m' (path.complete l) → (env' : Locals)
    → WithinFrames t.program (level h f m' (x ∷ os) ∷ xs) (emit (done l) (body t calls n env' rest ret more)) = λ m' w env'.
    done_inside t.program h f m' x os xs l _ refl w (body_inside t calls n h f xs ret st c r env' rest k os (Some (path.complete l)) more r_stands goes_on go) in
    begins_inside t.program h f m x os xs l env _ refl (a.statements x (contains_first x _)) (nested_one os x all (contains_first x _) a.nested) fol
    (expression_inside t _ l env e _ (refl, refl) st (λ v. choice_inside t.program _ (is_zero v) _ _
    (body_inside t calls n h f xs ret st c r env z (path.complete l) (x ∷ os) (Some (path.begins l)) _ z_stands to_z close)
    (body_inside t calls n h f xs ret st c r env y (path.complete l) (x ∷ os) (Some (path.begins l)) _ y_stands to_y close)))
body_inside t calls n h f xs ret st c r env (while_ l e y rest) k os m more a fol go =
    let x : Body = while_ l e y tree.end in
    let all : List Body = statements (while_ l e y rest) in
    let ly : List (Node × Node) = links y (path.turns l) in
    let lr : List (Node × Node) = links rest k in
    let sy : List Body = statements y in
    let sr : List Body = statements rest in
    let y_all : Sub sy all = sub_one 1 all sy sr all refl (sub_itself all) in
    let r_all : Sub sr all = sub_two 1 all sy sr all refl (sub_itself all) in
    let y_in : Sub sy (others (statements x)) = λ e w. Contains-append_left sy [] e w in
    let H : Option Node → Type 0 = λ z. IsWithin z l × (Follows f z (first_node y (path.turns l)) × Follows f z (path.complete l)) in
    let begun : H (Some (path.begins l)) = (refl, (a.links _ (0, omega arith, refl), a.links _ (1, omega arith, refl))) in
    let turned : H (Some (path.turns l)) = (refl, (a.links _ (2, omega arith, refl), a.links _ (3, omega arith, refl))) in
    let goes_on : Follows f (Some (path.complete l)) (first_node rest k) = a.links _ (4, omega arith, refl) in
    let y_stands : Stands f y (path.turns l) (x ∷ os) = record {
      links = sub_one 5 (links (while_ l e y rest) k) ly lr (links_of f) refl a.links;
      statements = (λ e w. a.statements e (y_all e w));
      nested = (y_in, nested_less os sy all y_all a.nested);
    } in
    let r_stands : Stands f rest k os = record {
      links = sub_two 5 (links (while_ l e y rest) k) ly lr (links_of f) refl a.links;
      statements = (λ e w. a.statements e (r_all e w));
      nested = nested_less os sr all r_all a.nested;
    } in
    begins_inside t.program h f m x os xs l env _ refl (a.statements x (contains_first x _)) (nested_one os x all (contains_first x _) a.nested) fol
    (turns_inside t.program H (λ z. level h f z (x ∷ os) ∷ xs) _
    (λ env' m' again leave w on off. expression_inside t _ l env' e _ (w.0, refl) st (λ v. choice_inside t.program _ (is_zero v) _ _
    (off env' m' w)
    (body_inside t calls n h f xs ret st c r env' y (path.turns l) (x ∷ os) m' _ y_stands w.1.0
    (λ m'' w' env'' g. emit_within t.program _ (edge l) _ (λ is q u. (refl, (w', on env'' (Some (path.turns l)) turned [] is q u)))))))
    _ (λ env' m' w. done_inside t.program h f m' x os xs l _ refl w.1.1
    (body_inside t calls n h f xs ret st c r env' rest k os (Some (path.complete l)) more r_stands goes_on go))
    n env (Some (path.begins l)) begun)

-- Frames and threads

framed_inside : (t : Thread) (deeper : Calls) (n h : ℕ) (vs : List ℤ) (more : ℤ → Lists) (g : Option Function) (xs : List Level) → slice_get t.program.funcs h ≡ g
    → IsCalledFrom t.program xs h → Stops t → CallsInside t deeper → ((v : ℤ) → WithinFrames t.program xs (more v)) → WithinFrames t.program xs (framed t deeper n h vs more g)
framed_inside t deeper n h vs more None xs is called_from st c m = λ g. broken_within t.program _
framed_inside t deeper n h vs more (Some f) xs is called_from st c m =
    let outside : (m' : Option Node) (os : List Body) → AllReturn os → Follows f m' path.leaves → (v : ℤ) → WithinFrames t.program (level h f m' os ∷ xs) (emit (out h) (more v)) =
    λ m' os a fol v g. emit_within t.program _ (out h) (more v) (λ is r w. (refl, (fol, (a, m v (level h f m' os ∷ []) is r w)))) in
    let there : WithinFrames t.program (level h f None [] ∷ xs)
    (body t deeper n (frame_locals f vs) f.body (λ v. emit (out h) (more v)) (λ env. emit (out h) (more (pos 0)))) =
    body_inside t deeper n h f xs _ st c (λ m' os a fol v. outside (Some (path.complete m')) os a fol v) (frame_locals f vs) f.body path.leaves [] None _
    (record { links = (λ e w. w); statements = (λ e w. w); nested = tt }) tt (λ m' fol env'. outside m' [] tt fol (pos 0)) in
    λ g. emit_within t.program _ (enter h (frame_locals f vs)) _ (λ js r w. (called_from, (f, (is, there [] js r w))))

calls_inside : (t : Thread) (n d : ℕ) → Stops t → CallsInside t (calls_to t n d)
calls_inside t n zero st l h vs x xs more k a m = trapped_inside t (x ∷ xs) l frames a st
calls_inside t n (suc d) st l h vs x xs more k a m =
    framed_inside t (calls_to t n d) n h vs more (slice_get t.program.funcs h) (x ∷ xs) refl k st (calls_inside t n d st) m

finished_within : (p : Source) (s : Course) → Within p s finished
finished_within p s is r h =
    let P : List Item → Type 0 = λ z. IsCourse p s z in
    subst P (sym h.0) tt

ended_behind : (p : Source) (l : ℕ) → WithinFrames p [] (thread_end l)
ended_behind p l g = emit_within p _ (made l trace.end) finished (λ is r h. (tt, finished_within p no_frames is r h))

thread_within : (p : Source) (f : Option Function) (h : ℕ) (vs : List ℤ) (n : ℕ) → slice_get p.funcs h ≡ f → Within p no_frames (thread p f h vs n)
thread_within p None h vs n is = broken_within p no_frames
thread_within p (Some g) h vs n is =
    let t : Thread = record { program = p; stopped = thread_end g.line } in
    let st : Stops t = ended_behind p g.line [] in
    emit_within p no_frames (made g.line begin) _ (λ js r w. (
      tt,
      (
        tt,
        framed_inside t (calls_to t n 255) n h vs _ (slice_get p.funcs h) [] refl tt st (calls_inside t n 255 st) (λ v. ended_behind p g.line) [] js r w,
      ),
    ))

-- each trace of a thread is a course of its program
pub trace_is_course : (p : Source) (h : ℕ) (vs : List ℤ) (is : List Item) (r : Outcome) → IsTrace p h vs is r → IsCourse p no_frames is
trace_is_course p h vs is r t = thread_within p (slice_get p.funcs h) h vs t.most_turns refl is r t.gives
