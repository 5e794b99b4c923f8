-- In a lawful journal a thread holds what the journal says, and installed filters are obeyed.
use Rattle.std.proofs.Common.{ℕ, ◌≡◌, ◌==◌, Bool, true, false, List, [], ◌∷◌, ◌++◌, Option, Some, None, refl, sym, ap, subst, ◌∙◌, if◌then◌else◌, arith}
use Rattle.loom_tree.specs.Tree.{Source}
use Rattle.loom_trace.specs.declared.entry.Entry.{Entry}
use Rattle.loom_trace.specs.declared.entry.Entry.TheVariants as e
use Rattle.loom_lang.specs.Trace.{begin, end, trap, read, write, lock, unlock, down, up, spawn, join, print, made, begins, done, edge, enter, out}
use Rattle.loom_event.specs.Entries.{thread_of}
use Rattle.loom_event.specs.Replay.{ThreadState, thread_at}
use Rattle.loom_law.specs.Filter.{is_alone}
use Rattle.loom_law.specs.Walk.{Version, Plans, wait, enters, at, past, post, leave, back, tick, cross, blocked, PartStep, goes, makes, filter_entries, Walk, unborn, holds, without_clause, without_first, taking, behind_entry, crossing, walk_behind, walk_from}
use Rattle.loom_law.specs.ThreadPart.{walk_of, IsPart, IsInside}
use Rattle.loom_law.specs.Control.{Command, Control, first_control, after_entry, control_after, control, versions_from, versions_of, entries_of}
use Rattle.loom_law.specs.Lawful.{Setting, Front, plans, own, MayMove, IsHeldOff, is_held_by, is_installed, IsInsideIf, front_at, IsObeyed}
use Rattle.loom_law.proofs.Strict.{Stands, IsStrict, StandsBy}
use Rattle.loom_law.proofs.Inside.{inside_is_held}
use Rattle.loom_law.proofs.Balance.{held_in, Says, AreSaid, IsSound, first_sound, sound_along, held_from, IsBalanced, first_balanced, balanced_along}

-- What a thread holds is told by its entries and the versions that it takes

abbrev crossed_held : List Version → List (ℕ × ℕ) → List (ℕ × ℕ)
crossed_held [] hs = hs
crossed_held (v ∷ vs) hs = held_in v.active hs

abbrev held_with : List Version → List (ℕ × ℕ) → List Entry → List (ℕ × ℕ)
held_with vs hs [] = hs
held_with vs hs (e.Begin t l ∷ es) = held_with (without_first vs) hs es
held_with vs hs (e.Enter t l k c ∷ es) = held_with vs ((k, c) ∷ hs) es
held_with vs hs (e.Leave t l k c ∷ es) = held_with vs (without_clause k c hs) es
held_with vs hs (e.Cross t l x v n ∷ es) = held_with (without_first vs) (crossed_held vs hs) es
held_with vs hs (x ∷ es) = held_with vs hs es

taking_held : (z : Walk) (vs : List Version) → Walk.held (taking z vs) ≡ z.held
taking_held z [] = refl
taking_held z (v ∷ vs) = refl

taking_coming : (z : Walk) (vs : List Version) → z.coming ≡ vs → Walk.coming (taking z vs) ≡ without_first vs
taking_coming z [] is = is
taking_coming z (v ∷ vs) is = refl

crossing_held : (p : Source) (plans : Plans) (z : Walk) (vs : List Version) → Walk.held (crossing p plans z vs) ≡ crossed_held vs z.held
crossing_held p plans z [] = refl
crossing_held p plans z (v ∷ vs) = refl

crossing_coming : (p : Source) (plans : Plans) (z : Walk) (vs : List Version) → z.coming ≡ vs → Walk.coming (crossing p plans z vs) ≡ without_first vs
crossing_coming p plans z [] is = is
crossing_coming p plans z (v ∷ vs) is = refl

-- equal lists give the same
both_with : (vs vs' : List Version) (hs hs' : List (ℕ × ℕ)) (es : List Entry) → vs ≡ vs' → hs ≡ hs' → held_with vs hs es ≡ held_with vs' hs' es
both_with vs vs' hs hs' es v h = ap (λ x. held_with x hs es) v ∙ ap (λ x. held_with vs' x es) h

walk_held : (p : Source) (plans : Plans) (t : ℕ) (z : Walk) (ss : List PartStep) → Walk.held (walk_from p plans z ss) ≡ held_with z.coming z.held (filter_entries t ss)
walk_held p plans t z [] = refl
walk_held p plans t z (goes (made l begin) ∷ ss) =
    walk_held p plans t (taking (behind_entry z) z.coming) ss
    ∙ both_with _ _ _ _ (filter_entries t ss) (taking_coming (behind_entry z) z.coming refl) (taking_held (behind_entry z) z.coming)
walk_held p plans t z (goes (made l end) ∷ ss) = walk_held p plans t (walk_behind p plans z (goes (made l end))) ss
walk_held p plans t z (goes (made l (trap c)) ∷ ss) = walk_held p plans t (walk_behind p plans z (goes (made l (trap c)))) ss
walk_held p plans t z (goes (made l (read x v)) ∷ ss) = walk_held p plans t (walk_behind p plans z (goes (made l (read x v)))) ss
walk_held p plans t z (goes (made l (write x v)) ∷ ss) = walk_held p plans t (walk_behind p plans z (goes (made l (write x v)))) ss
walk_held p plans t z (goes (made l (lock m)) ∷ ss) = walk_held p plans t (walk_behind p plans z (goes (made l (lock m)))) ss
walk_held p plans t z (goes (made l (unlock m)) ∷ ss) = walk_held p plans t (walk_behind p plans z (goes (made l (unlock m)))) ss
walk_held p plans t z (goes (made l (down m)) ∷ ss) = walk_held p plans t (walk_behind p plans z (goes (made l (down m)))) ss
walk_held p plans t z (goes (made l (up m)) ∷ ss) = walk_held p plans t (walk_behind p plans z (goes (made l (up m)))) ss
walk_held p plans t z (goes (made l (spawn c f vs)) ∷ ss) = walk_held p plans t (walk_behind p plans z (goes (made l (spawn c f vs)))) ss
walk_held p plans t z (goes (made l (join c)) ∷ ss) = walk_held p plans t (walk_behind p plans z (goes (made l (join c)))) ss
walk_held p plans t z (goes (made l (print v)) ∷ ss) = walk_held p plans t (walk_behind p plans z (goes (made l (print v)))) ss
walk_held p plans t z (goes (begins l env) ∷ ss) = walk_held p plans t (walk_behind p plans z (goes (begins l env))) ss
walk_held p plans t z (goes (done l) ∷ ss) = walk_held p plans t (walk_behind p plans z (goes (done l))) ss
walk_held p plans t z (goes (edge l) ∷ ss) = walk_held p plans t (walk_behind p plans z (goes (edge l))) ss
walk_held p plans t z (goes (enter f env) ∷ ss) = walk_held p plans t (walk_behind p plans z (goes (enter f env))) ss
walk_held p plans t z (goes (out f) ∷ ss) = walk_held p plans t (walk_behind p plans z (goes (out f))) ss
walk_held p plans t z (makes l (wait k n) ∷ ss) = walk_held p plans t (walk_behind p plans z (makes l (wait k n))) ss
walk_held p plans t z (makes l (enters k c) ∷ ss) = walk_held p plans t (walk_behind p plans z (makes l (enters k c))) ss
walk_held p plans t z (makes l (at k ns) ∷ ss) = walk_held p plans t (walk_behind p plans z (makes l (at k ns))) ss
walk_held p plans t z (makes l (past k ns) ∷ ss) = walk_held p plans t (walk_behind p plans z (makes l (past k ns))) ss
walk_held p plans t z (makes l (post k n) ∷ ss) = walk_held p plans t (walk_behind p plans z (makes l (post k n))) ss
walk_held p plans t z (makes l (leave k c) ∷ ss) = walk_held p plans t (walk_behind p plans z (makes l (leave k c))) ss
walk_held p plans t z (makes l back ∷ ss) = walk_held p plans t (walk_behind p plans z (makes l back)) ss
walk_held p plans t z (makes l (tick x) ∷ ss) = walk_held p plans t (walk_behind p plans z (makes l (tick x))) ss
walk_held p plans t z (makes l (cross x v n) ∷ ss) =
    walk_held p plans t (crossing p plans z z.coming) ss
    ∙ both_with _ _ _ _ (filter_entries t ss) (crossing_coming p plans z z.coming refl) (crossing_held p plans z z.coming)
walk_held p plans t z (makes l (blocked what) ∷ ss) = walk_held p plans t (walk_behind p plans z (makes l (blocked what))) ss

-- The same, read off the journal

abbrev Gives : (List (ℕ × ℕ) → List (ℕ × ℕ)) → List Version → List (ℕ × ℕ) → List Entry → List (ℕ × ℕ) → Type 0
Gives f vs hs es hs' = held_with vs hs es ≡ f hs'

-- an entry by which the thread holds no more and no less
same_held : (f : List (ℕ × ℕ) → List (ℕ × ℕ)) (b : Bool) (vs : List Version) (hs : List (ℕ × ℕ)) (x : Entry) (es : List Entry) → held_with vs hs (x ∷ es) ≡ held_with vs hs es
    → held_with vs hs es ≡ f hs → held_with vs hs (if b then x ∷ es else es) ≡ f hs
same_held f true vs hs x es skips h = skips ∙ h
same_held f false vs hs x es skips h = h

one_held : (f : List (ℕ × ℕ) → List (ℕ × ℕ)) (b : Bool) (vs : List Version) (hs more : List (ℕ × ℕ)) (x : Entry) (es : List Entry)
    → held_with vs hs (x ∷ es) ≡ held_with vs more es → ((gs : List (ℕ × ℕ)) → held_with vs gs es ≡ f gs)
    → held_with vs hs (if b then x ∷ es else es) ≡ f (if b then more else hs)
one_held f true vs hs more x es steps h = steps ∙ h more
one_held f false vs hs more x es steps h = h hs

begun_held : (f : List (ℕ × ℕ) → List (ℕ × ℕ)) (b : Bool) (v : Version) (vs : List Version) (hs : List (ℕ × ℕ)) (t l : ℕ) (es : List Entry)
    → held_with vs hs es ≡ f hs → held_with (if b then v ∷ vs else vs) hs (if b then e.Begin t l ∷ es else es) ≡ f hs
begun_held f true v vs hs t l es h = h
begun_held f false v vs hs t l es h = h

crossed_over : (f : List (ℕ × ℕ) → List (ℕ × ℕ)) (b : Bool) (v : Version) (vs : List Version) (hs : List (ℕ × ℕ)) (t l x m n : ℕ) (es : List Entry)
    → ((gs : List (ℕ × ℕ)) → held_with vs gs es ≡ f gs)
    → held_with (if b then v ∷ vs else vs) hs (if b then e.Cross t l x m n ∷ es else es) ≡ f (if b then held_in v.active hs else hs)
crossed_over f true v vs hs t l x m n es h = h (held_in v.active hs)
crossed_over f false v vs hs t l x m n es h = h hs

pub told_held : (cs : List Command) (t : ℕ) (c : Control) (hs : List (ℕ × ℕ)) (es : List Entry) → held_with (versions_from cs t c es) hs (entries_of t es) ≡ held_from cs t c hs es
told_held cs t c hs [] = refl
told_held cs t c hs (e.Begin u l ∷ es) =
    begun_held (λ gs. held_from cs t c gs es) (u == t) c.version (versions_from cs t c es) hs u l (entries_of t es) (told_held cs t c hs es)
told_held cs t c hs (e.Cross u l x v n ∷ es) =
    crossed_over (λ gs. held_from cs t c gs es) (u == t) c.version (versions_from cs t c es) hs u l x v n (entries_of t es) (λ gs. told_held cs t c gs es)
told_held cs t c hs (e.Enter u l k n ∷ es) =
    let d : Control = after_entry cs c (e.Enter u l k n) in
    one_held (λ gs. held_from cs t d gs es) (u == t) (versions_from cs t d es) hs ((k, n) ∷ hs) (e.Enter u l k n) (entries_of t es) refl (λ gs. told_held cs t d gs es)
told_held cs t c hs (e.Leave u l k n ∷ es) =
    let d : Control = after_entry cs c (e.Leave u l k n) in
    one_held (λ gs. held_from cs t d gs es) (u == t) (versions_from cs t d es) hs (without_clause k n hs) (e.Leave u l k n) (entries_of t es) refl (λ gs. told_held cs t d gs es)
told_held cs t c hs (e.End u l ∷ es) = same_held (λ gs. held_from cs t c gs es) (u == t) (versions_from cs t c es) hs (e.End u l) (entries_of t es) refl (told_held cs t c hs es)
told_held cs t c hs (e.Trap u l r ∷ es) = same_held (λ gs. held_from cs t c gs es) (u == t) (versions_from cs t c es) hs (e.Trap u l r) (entries_of t es) refl (told_held cs t c hs es)
told_held cs t c hs (e.Read u l x v ∷ es) = same_held (λ gs. held_from cs t c gs es) (u == t) (versions_from cs t c es) hs (e.Read u l x v) (entries_of t es) refl (told_held cs t c hs es)
told_held cs t c hs (e.Write u l x v ∷ es) = same_held (λ gs. held_from cs t c gs es) (u == t) (versions_from cs t c es) hs (e.Write u l x v) (entries_of t es) refl (told_held cs t c hs es)
told_held cs t c hs (e.Lock u l m ∷ es) = same_held (λ gs. held_from cs t c gs es) (u == t) (versions_from cs t c es) hs (e.Lock u l m) (entries_of t es) refl (told_held cs t c hs es)
told_held cs t c hs (e.Unlock u l m ∷ es) = same_held (λ gs. held_from cs t c gs es) (u == t) (versions_from cs t c es) hs (e.Unlock u l m) (entries_of t es) refl (told_held cs t c hs es)
told_held cs t c hs (e.Down u l m ∷ es) = same_held (λ gs. held_from cs t c gs es) (u == t) (versions_from cs t c es) hs (e.Down u l m) (entries_of t es) refl (told_held cs t c hs es)
told_held cs t c hs (e.Up u l m ∷ es) = same_held (λ gs. held_from cs t c gs es) (u == t) (versions_from cs t c es) hs (e.Up u l m) (entries_of t es) refl (told_held cs t c hs es)
told_held cs t c hs (e.Spawn u l d f vs ∷ es) = same_held (λ gs. held_from cs t c gs es) (u == t) (versions_from cs t c es) hs (e.Spawn u l d f vs) (entries_of t es) refl (told_held cs t c hs es)
told_held cs t c hs (e.Join u l d ∷ es) = same_held (λ gs. held_from cs t c gs es) (u == t) (versions_from cs t c es) hs (e.Join u l d) (entries_of t es) refl (told_held cs t c hs es)
told_held cs t c hs (e.Print u l v ∷ es) = same_held (λ gs. held_from cs t c gs es) (u == t) (versions_from cs t c es) hs (e.Print u l v) (entries_of t es) refl (told_held cs t c hs es)
told_held cs t c hs (e.Tick u l y ∷ es) = same_held (λ gs. held_from cs t c gs es) (u == t) (versions_from cs t c es) hs (e.Tick u l y) (entries_of t es) refl (told_held cs t c hs es)
told_held cs t c hs (e.Blocked u l y ∷ es) = same_held (λ gs. held_from cs t c gs es) (u == t) (versions_from cs t c es) hs (e.Blocked u l y) (entries_of t es) refl (told_held cs t c hs es)
told_held cs t c hs (e.At u l k ns ∷ es) = same_held (λ gs. held_from cs t c gs es) (u == t) (versions_from cs t c es) hs (e.At u l k ns) (entries_of t es) refl (told_held cs t c hs es)
told_held cs t c hs (e.Past u l k ns ∷ es) = same_held (λ gs. held_from cs t c gs es) (u == t) (versions_from cs t c es) hs (e.Past u l k ns) (entries_of t es) refl (told_held cs t c hs es)
told_held cs t c hs (e.Back u l ∷ es) = same_held (λ gs. held_from cs t c gs es) (u == t) (versions_from cs t c es) hs (e.Back u l) (entries_of t es) refl (told_held cs t c hs es)
told_held cs t c hs (e.Post u l k n ∷ es) = same_held (λ gs. held_from cs t c gs es) (u == t) (versions_from cs t c es) hs (e.Post u l k n) (entries_of t es) refl (told_held cs t c hs es)
told_held cs t c hs (e.Wait u l k n ∷ es) = same_held (λ gs. held_from cs t c gs es) (u == t) (versions_from cs t c es) hs (e.Wait u l k n) (entries_of t es) refl (told_held cs t c hs es)
told_held cs t c hs (e.Asked k ∷ es) = told_held cs t (after_entry cs c (e.Asked k)) hs es
told_held cs t c hs (e.Refused k n m ∷ es) = told_held cs t (after_entry cs c (e.Refused k n m)) hs es
told_held cs t c hs (e.Installed k v ps ∷ es) = told_held cs t (after_entry cs c (e.Installed k v ps)) hs es
told_held cs t c hs (e.Removed k v ps ∷ es) = told_held cs t (after_entry cs c (e.Removed k v ps)) hs es
told_held cs t c hs (e.Stalled k u l ∷ es) = told_held cs t (after_entry cs c (e.Stalled k u l)) hs es
told_held cs t c hs (e.Cut k ∷ es) = told_held cs t (after_entry cs c (e.Cut k)) hs es
told_held cs t c hs (e.Unreached k ∷ es) = told_held cs t (after_entry cs c (e.Unreached k)) hs es
told_held cs t c hs (e.Finish k ∷ es) = told_held cs t c hs es

-- what a thread holds behind its part is what the journal gives
pub held_told : (s : Setting) (front : List Entry) (t : ℕ) (x : ThreadState) (h : IsPart s.program (plans s) (own s front t x))
    → Walk.held (walk_of s.program (plans s) (own s front t x) h.steps) ≡ held_from s.commands t first_control [] front
held_told s front t x h =
    walk_held s.program (plans s) t (unborn (versions_of s.commands t front)) h.steps
    ∙ (ap (λ es. held_with (versions_of s.commands t front) [] es) h.tells ∙ told_held s.commands t first_control [] front)

-- What stands says of the control

stands_says : (s : Setting) (f : Front) (x : Entry) (rest : List Entry) → Stands s f x rest → Says f.control x
stands_says s f (e.Enter t l k n) rest h = h.1
stands_says s f (e.Leave t l k n) rest h = h.1
stands_says s f (e.Asked k) rest h = h.1
stands_says s f (e.Installed k v ps) rest h = h.1.asked
stands_says s f (e.Unreached k) rest h = h.1.0
stands_says s f _ rest h = tt

pub control_after_last : (cs : List Command) (c : Control) (xs : List Entry) (y : Entry) → control_after cs c (xs ++ y ∷ []) ≡ after_entry cs (control_after cs c xs) y
control_after_last cs c [] y = refl
control_after_last cs c (x ∷ xs) y = control_after_last cs (after_entry cs c x) xs y

pub append_one : (xs : List Entry) (y : Entry) (ys : List Entry) → (xs ++ y ∷ []) ++ ys ≡ xs ++ y ∷ ys
append_one [] y ys = refl
append_one (x ∷ xs) y ys = ap (◌∷◌ x) (append_one xs y ys)

said_from : (s : Setting) (es : List Entry) (h : IsStrict s es) (front todo rest : List Entry) → es ≡ front ++ (todo ++ rest) → AreSaid s.commands (control s.commands front) todo
said_from s es h front [] rest is = tt
said_from s es h front (x ∷ todo) rest is = (
  stands_says s (front_at s h.events front) x (todo ++ rest) (h.stands front x (todo ++ rest) is),
  subst (λ c. AreSaid s.commands c todo) (control_after_last s.commands first_control front x)
      (said_from s es h (front ++ x ∷ []) todo rest (is ∙ sym (append_one front x (todo ++ rest)))),
)

pub are_said : (s : Setting) (front rest : List Entry) → IsStrict s (front ++ rest) → AreSaid s.commands first_control front
are_said s front rest h = said_from s (front ++ rest) h [] front rest refl

balance_at : (s : Setting) (front rest : List Entry) → IsStrict s (front ++ rest) → (t : ℕ)
    → IsBalanced (control s.commands front) t (held_from s.commands t first_control [] front)
balance_at s front rest h t = balanced_along s.commands first_control t [] front (are_said s front rest h) first_sound (first_balanced t)

same_bools : (a b : Bool) → (a ≡ true → b ≡ true) → (b ≡ true → a ≡ true) → a ≡ b
same_bools true b f g = sym (f refl)
same_bools false true f g = g refl
same_bools false false f g = refl

pub balance : (s : Setting) (front rest : List Entry) → IsStrict s (front ++ rest) → (t : ℕ) (x : ThreadState) (h : IsPart s.program (plans s) (own s front t x)) (k c : ℕ)
    → is_installed (control s.commands front) k ≡ true
    → holds (walk_of s.program (plans s) (own s front t x) h.steps).held k c ≡ is_held_by (control s.commands front) k c t
balance s front rest h t x part k c i =
    let hs : List (ℕ × ℕ) = held_from s.commands t first_control [] front in
    let b : IsBalanced (control s.commands front) t hs = balance_at s front rest h t in
    ap (λ gs. holds gs k c) (held_told s front t x part)
    ∙ same_bools (holds hs k c) (is_held_by (control s.commands front) k c t) (λ y. b.there k c y i) (λ y. b.here k c y)

-- Filters are obeyed

inside_holder : (s : Setting) (front rest : List Entry) → IsStrict s (front ++ rest) → (t : ℕ) (x : ThreadState) (k c : ℕ) → is_installed (control s.commands front) k ≡ true
    → IsInside s.program (plans s) (own s front t x) k c → is_held_by (control s.commands front) k c t ≡ true
inside_holder s front rest h t x k c i inside =
    sym (balance s front rest h t x inside.part k c i) ∙ inside_is_held s.program (plans s) (own s front t x) k c inside

pub exclusion : (s : Setting) (front rest : List Entry) → IsStrict s (front ++ rest) → (k c t u : ℕ) (x y : ThreadState) → is_installed (control s.commands front) k ≡ true
    → IsInside s.program (plans s) (own s front t x) k c → IsInside s.program (plans s) (own s front u y) k c → t ≡ u
exclusion s front rest h k c t u x y i a b =
    let sound : IsSound (control s.commands front) = sound_along s.commands first_control front (are_said s front rest h) first_sound in
    sound.one k c t u (inside_holder s front rest h t x k c i a) (inside_holder s front rest h u y k c i b)

exclusion_if : (s : Setting) (front rest : List Entry) → IsStrict s (front ++ rest) → (k c t u : ℕ) (x y : Option ThreadState) → is_installed (control s.commands front) k ≡ true
    → IsInsideIf s front t x k c → IsInsideIf s front u y k c → t ≡ u
exclusion_if s front rest h k c t u None y i a b = absurd a
exclusion_if s front rest h k c t u (Some x) None i a b = absurd b
exclusion_if s front rest h k c t u (Some x) (Some y) i a b = exclusion s front rest h k c t u x y i a b

pub stands_moves : (s : Setting) (f : Front) (x : Entry) (rest : List Entry) (u : ℕ) → Stands s f x rest → thread_of x ≡ Some u → MayMove s f u x
stands_moves s f x rest u h is = let both : StandsBy s f x rest (Some u) = subst (StandsBy s f x rest) is h in both.0

same_number : (t u : ℕ) → (t == u) ≡ true → t ≡ u
same_number t u h = grind arith

by_test : (b : Bool) (P : Type 0) → (b ≡ true → P) → (b ≡ false → P) → P
by_test true P f g = f refl
by_test false P f g = g refl

alone_if : (s : Setting) (f : Front) (rest : List Entry) → IsStrict s (f.entries ++ rest) → f.control ≡ control s.commands f.entries → (k c t u : ℕ) (x : Option ThreadState)
    → is_installed f.control k ≡ true → is_alone (plans s k) c ≡ true → IsInsideIf s f.entries t x k c → (IsHeldOff s f u → ⊥) → t ≡ u
alone_if s f rest h same k c t u None i alone a free = absurd a
alone_if s f rest h same k c t u (Some x) i alone a free =
    by_test (t == u) (t ≡ u) (λ y. same_number t u y)
    (λ y. absurd (free (record {
      filter = k;
      clause = c;
      alone = alone;
      held = record {
        by = t;
        other = y;
        holds = subst (λ d. is_held_by d k c t ≡ true) (sym same) (inside_holder s f.entries rest h t x k c (subst (λ d. is_installed d k ≡ true) same i) a);
      };
    })))

pub always_obeyed : (s : Setting) (es : List Entry) (h : IsStrict s es) (front : List Entry) (x : Entry) (rest : List Entry) → es ≡ front ++ x ∷ rest
    → IsObeyed s (front_at s h.events front) x
always_obeyed s es h front x rest is =
    let f : Front = front_at s h.events front in
    let g : IsStrict s (front ++ x ∷ rest) = subst (IsStrict s) is h in
    record {
      one = λ k c t u i a b. exclusion_if s front (x ∷ rest) g k c t u (thread_at f.store t) (thread_at f.store u) i a b;
      alone = λ k c t u i alone a mover.
          let moves : MayMove s f u x = stands_moves s f x rest u (h.stands front x rest is) mover in
          alone_if s f (x ∷ rest) g refl k c t u (thread_at f.store t) i alone a moves.not_held_off;
    }
