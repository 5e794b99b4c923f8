-- A begun thread that owes no `Cross` has the newest version.
use Rattle.std.proofs.Common.{ℕ, zero, suc, ◌<◌, ◌≡◌, ◌==◌, Bool, true, false, List, [], ◌∷◌, ◌++◌, length, Option, Some, None, refl, sym, ap, subst, ◌∙◌, if◌then◌else◌, arith}
use Rattle.loom_tree.specs.Tree.{Source}
use Rattle.loom_trace.specs.declared.entry.Entry.{Entry}
use Rattle.loom_trace.specs.declared.entry.Entry.TheVariants as e
use Rattle.loom_lang.specs.Trace.{begin, end, trap, read, write, lock, unlock, down, up, spawn, join, print, made, begins, done, edge, enter, out}
use Rattle.loom_event.specs.Entries.{thread_of, is_thread}
use Rattle.loom_event.specs.Replay.{ThreadState}
use Rattle.loom_law.specs.Walk.{Version, Plans, wait, enters, at, past, post, leave, back, tick, cross, blocked, PartStep, goes, makes, filter_entries, Walk, unborn, without_first, taking, behind_entry, crossing, walk_behind, walk_from}
use Rattle.loom_law.specs.ThreadPart.{walk_of, IsPart}
use Rattle.loom_law.specs.Control.{Command, Control, first_control, after_entry, control_after, versions_from, versions_of, entries_of, row_at, listed_places_after, listed_places_from, listed_places, control}
use Rattle.loom_law.specs.Lawful.{Setting, Front, plans, own, MayMove, is_cross, owes_cross, front_at}
use Rattle.loom_law.proofs.Strict.{Stands, IsStrict}
use Rattle.loom_law.proofs.Obedience.{stands_moves}
use Rattle.loom_law.proofs.Earlier.{IsBegin, first_begins}

-- The filters of a thread's version are told by its entries and the versions that it takes

abbrev pub taken_active : List Version → List ℕ → List ℕ
taken_active [] ks = ks
taken_active (v ∷ vs) ks = v.active

abbrev pub active_with : List Version → List ℕ → List Entry → List ℕ
active_with vs ks [] = ks
active_with vs ks (e.Begin t l ∷ es) = active_with (without_first vs) (taken_active vs ks) es
active_with vs ks (e.Cross t l x v n ∷ es) = active_with (without_first vs) (taken_active vs ks) es
active_with vs ks (x ∷ es) = active_with vs ks es

taking_active : (z : Walk) (vs : List Version) → Walk.active (taking z vs) ≡ taken_active vs z.active
taking_active z [] = refl
taking_active z (v ∷ vs) = refl

pub taking_coming : (z : Walk) (vs : List Version) → z.coming ≡ vs → Walk.coming (taking z vs) ≡ without_first vs
taking_coming z [] is = is
taking_coming z (v ∷ vs) is = refl

crossing_active : (p : Source) (plans : Plans) (z : Walk) (vs : List Version) → Walk.active (crossing p plans z vs) ≡ taken_active vs z.active
crossing_active p plans z [] = refl
crossing_active p plans z (v ∷ vs) = refl

pub crossing_coming : (p : Source) (plans : Plans) (z : Walk) (vs : List Version) → z.coming ≡ vs → Walk.coming (crossing p plans z vs) ≡ without_first vs
crossing_coming p plans z [] is = is
crossing_coming p plans z (v ∷ vs) is = refl

both_with : (vs vs' : List Version) (ks ks' : List ℕ) (es : List Entry) → vs ≡ vs' → ks ≡ ks' → active_with vs ks es ≡ active_with vs' ks' es
both_with vs vs' ks ks' es v h = ap (λ x. active_with x ks es) v ∙ ap (λ x. active_with vs' x es) h

pub walk_active : (p : Source) (plans : Plans) (t : ℕ) (z : Walk) (ss : List PartStep) → Walk.active (walk_from p plans z ss) ≡ active_with z.coming z.active (filter_entries t ss)
walk_active p plans t z [] = refl
walk_active p plans t z (goes (made l begin) ∷ ss) =
    walk_active p plans t (taking (behind_entry z) z.coming) ss
    ∙ both_with _ _ _ _ (filter_entries t ss) (taking_coming (behind_entry z) z.coming refl) (taking_active (behind_entry z) z.coming)
walk_active p plans t z (makes l (cross x v n) ∷ ss) =
    walk_active p plans t (crossing p plans z z.coming) ss
    ∙ both_with _ _ _ _ (filter_entries t ss) (crossing_coming p plans z z.coming refl) (crossing_active p plans z z.coming)
walk_active p plans t z (goes (made l end) ∷ ss) = walk_active p plans t (walk_behind p plans z (goes (made l end))) ss
walk_active p plans t z (goes (made l (trap c)) ∷ ss) = walk_active p plans t (walk_behind p plans z (goes (made l (trap c)))) ss
walk_active p plans t z (goes (made l (read x v)) ∷ ss) = walk_active p plans t (walk_behind p plans z (goes (made l (read x v)))) ss
walk_active p plans t z (goes (made l (write x v)) ∷ ss) = walk_active p plans t (walk_behind p plans z (goes (made l (write x v)))) ss
walk_active p plans t z (goes (made l (lock x)) ∷ ss) = walk_active p plans t (walk_behind p plans z (goes (made l (lock x)))) ss
walk_active p plans t z (goes (made l (unlock x)) ∷ ss) = walk_active p plans t (walk_behind p plans z (goes (made l (unlock x)))) ss
walk_active p plans t z (goes (made l (down x)) ∷ ss) = walk_active p plans t (walk_behind p plans z (goes (made l (down x)))) ss
walk_active p plans t z (goes (made l (up x)) ∷ ss) = walk_active p plans t (walk_behind p plans z (goes (made l (up x)))) ss
walk_active p plans t z (goes (made l (spawn c f ws)) ∷ ss) = walk_active p plans t (walk_behind p plans z (goes (made l (spawn c f ws)))) ss
walk_active p plans t z (goes (made l (join c)) ∷ ss) = walk_active p plans t (walk_behind p plans z (goes (made l (join c)))) ss
walk_active p plans t z (goes (made l (print v)) ∷ ss) = walk_active p plans t (walk_behind p plans z (goes (made l (print v)))) ss
walk_active p plans t z (goes (begins l env) ∷ ss) = walk_active p plans t (walk_behind p plans z (goes (begins l env))) ss
walk_active p plans t z (goes (done l) ∷ ss) = walk_active p plans t (walk_behind p plans z (goes (done l))) ss
walk_active p plans t z (goes (edge l) ∷ ss) = walk_active p plans t (walk_behind p plans z (goes (edge l))) ss
walk_active p plans t z (goes (enter f env) ∷ ss) = walk_active p plans t (walk_behind p plans z (goes (enter f env))) ss
walk_active p plans t z (goes (out f) ∷ ss) = walk_active p plans t (walk_behind p plans z (goes (out f))) ss
walk_active p plans t z (makes l (wait k n) ∷ ss) = walk_active p plans t (walk_behind p plans z (makes l (wait k n))) ss
walk_active p plans t z (makes l (enters k c) ∷ ss) = walk_active p plans t (walk_behind p plans z (makes l (enters k c))) ss
walk_active p plans t z (makes l (at k ns) ∷ ss) = walk_active p plans t (walk_behind p plans z (makes l (at k ns))) ss
walk_active p plans t z (makes l (past k ns) ∷ ss) = walk_active p plans t (walk_behind p plans z (makes l (past k ns))) ss
walk_active p plans t z (makes l (post k n) ∷ ss) = walk_active p plans t (walk_behind p plans z (makes l (post k n))) ss
walk_active p plans t z (makes l (leave k c) ∷ ss) = walk_active p plans t (walk_behind p plans z (makes l (leave k c))) ss
walk_active p plans t z (makes l back ∷ ss) = walk_active p plans t (walk_behind p plans z (makes l back)) ss
walk_active p plans t z (makes l (tick x) ∷ ss) = walk_active p plans t (walk_behind p plans z (makes l (tick x))) ss
walk_active p plans t z (makes l (blocked what) ∷ ss) = walk_active p plans t (walk_behind p plans z (makes l (blocked what))) ss

-- The same, read off the journal

abbrev pub active_behind : ℕ → Control → List ℕ → Entry → List ℕ
active_behind t c ks (e.Begin u l) = if u == t then Version.active c.version else ks
active_behind t c ks (e.Cross u l x v n) = if u == t then Version.active c.version else ks
active_behind t c ks _ = ks

abbrev pub active_from : List Command → ℕ → Control → List ℕ → List Entry → List ℕ
active_from cs t c ks [] = ks
active_from cs t c ks (x ∷ xs) = active_from cs t (after_entry cs c x) (active_behind t c ks x) xs

same_active : (f : List ℕ → List ℕ) (b : Bool) (vs : List Version) (ks : List ℕ) (x : Entry) (es : List Entry) → active_with vs ks (x ∷ es) ≡ active_with vs ks es
    → active_with vs ks es ≡ f ks → active_with vs ks (if b then x ∷ es else es) ≡ f ks
same_active f true vs ks x es skips h = skips ∙ h
same_active f false vs ks x es skips h = h

takes_over : (f : List ℕ → List ℕ) (b : Bool) (v : Version) (vs : List Version) (ks : List ℕ) (x : Entry) (es : List Entry)
    → active_with (v ∷ vs) ks (x ∷ es) ≡ active_with vs v.active es → ((js : List ℕ) → active_with vs js es ≡ f js)
    → active_with (if b then v ∷ vs else vs) ks (if b then x ∷ es else es) ≡ f (if b then v.active else ks)
takes_over f true v vs ks x es steps h = steps ∙ h v.active
takes_over f false v vs ks x es steps h = h ks

pub told_active : (cs : List Command) (t : ℕ) (c : Control) (ks : List ℕ) (es : List Entry) → active_with (versions_from cs t c es) ks (entries_of t es) ≡ active_from cs t c ks es
told_active cs t c ks [] = refl
told_active cs t c ks (e.Begin u l ∷ es) =
    takes_over (λ js. active_from cs t c js es) (u == t) c.version (versions_from cs t c es) ks (e.Begin u l) (entries_of t es) refl (λ js. told_active cs t c js es)
told_active cs t c ks (e.Cross u l x v n ∷ es) =
    takes_over (λ js. active_from cs t c js es) (u == t) c.version (versions_from cs t c es) ks (e.Cross u l x v n) (entries_of t es) refl (λ js. told_active cs t c js es)
told_active cs t c ks (e.End u l ∷ es) =
    let d : Control = after_entry cs c (e.End u l) in
    same_active (λ js. active_from cs t d js es) (u == t) (versions_from cs t d es) ks (e.End u l) (entries_of t es) refl (told_active cs t d ks es)
told_active cs t c ks (e.Trap u l r ∷ es) =
    let d : Control = after_entry cs c (e.Trap u l r) in
    same_active (λ js. active_from cs t d js es) (u == t) (versions_from cs t d es) ks (e.Trap u l r) (entries_of t es) refl (told_active cs t d ks es)
told_active cs t c ks (e.Read u l x v ∷ es) =
    let d : Control = after_entry cs c (e.Read u l x v) in
    same_active (λ js. active_from cs t d js es) (u == t) (versions_from cs t d es) ks (e.Read u l x v) (entries_of t es) refl (told_active cs t d ks es)
told_active cs t c ks (e.Write u l x v ∷ es) =
    let d : Control = after_entry cs c (e.Write u l x v) in
    same_active (λ js. active_from cs t d js es) (u == t) (versions_from cs t d es) ks (e.Write u l x v) (entries_of t es) refl (told_active cs t d ks es)
told_active cs t c ks (e.Lock u l y ∷ es) =
    let d : Control = after_entry cs c (e.Lock u l y) in
    same_active (λ js. active_from cs t d js es) (u == t) (versions_from cs t d es) ks (e.Lock u l y) (entries_of t es) refl (told_active cs t d ks es)
told_active cs t c ks (e.Unlock u l y ∷ es) =
    let d : Control = after_entry cs c (e.Unlock u l y) in
    same_active (λ js. active_from cs t d js es) (u == t) (versions_from cs t d es) ks (e.Unlock u l y) (entries_of t es) refl (told_active cs t d ks es)
told_active cs t c ks (e.Down u l y ∷ es) =
    let d : Control = after_entry cs c (e.Down u l y) in
    same_active (λ js. active_from cs t d js es) (u == t) (versions_from cs t d es) ks (e.Down u l y) (entries_of t es) refl (told_active cs t d ks es)
told_active cs t c ks (e.Up u l y ∷ es) =
    let d : Control = after_entry cs c (e.Up u l y) in
    same_active (λ js. active_from cs t d js es) (u == t) (versions_from cs t d es) ks (e.Up u l y) (entries_of t es) refl (told_active cs t d ks es)
told_active cs t c ks (e.Spawn u l q f vs ∷ es) =
    let d : Control = after_entry cs c (e.Spawn u l q f vs) in
    same_active (λ js. active_from cs t d js es) (u == t) (versions_from cs t d es) ks (e.Spawn u l q f vs) (entries_of t es) refl (told_active cs t d ks es)
told_active cs t c ks (e.Join u l q ∷ es) =
    let d : Control = after_entry cs c (e.Join u l q) in
    same_active (λ js. active_from cs t d js es) (u == t) (versions_from cs t d es) ks (e.Join u l q) (entries_of t es) refl (told_active cs t d ks es)
told_active cs t c ks (e.Print u l v ∷ es) =
    let d : Control = after_entry cs c (e.Print u l v) in
    same_active (λ js. active_from cs t d js es) (u == t) (versions_from cs t d es) ks (e.Print u l v) (entries_of t es) refl (told_active cs t d ks es)
told_active cs t c ks (e.Tick u l y ∷ es) =
    let d : Control = after_entry cs c (e.Tick u l y) in
    same_active (λ js. active_from cs t d js es) (u == t) (versions_from cs t d es) ks (e.Tick u l y) (entries_of t es) refl (told_active cs t d ks es)
told_active cs t c ks (e.Blocked u l y ∷ es) =
    let d : Control = after_entry cs c (e.Blocked u l y) in
    same_active (λ js. active_from cs t d js es) (u == t) (versions_from cs t d es) ks (e.Blocked u l y) (entries_of t es) refl (told_active cs t d ks es)
told_active cs t c ks (e.At u l k ns ∷ es) =
    let d : Control = after_entry cs c (e.At u l k ns) in
    same_active (λ js. active_from cs t d js es) (u == t) (versions_from cs t d es) ks (e.At u l k ns) (entries_of t es) refl (told_active cs t d ks es)
told_active cs t c ks (e.Past u l k ns ∷ es) =
    let d : Control = after_entry cs c (e.Past u l k ns) in
    same_active (λ js. active_from cs t d js es) (u == t) (versions_from cs t d es) ks (e.Past u l k ns) (entries_of t es) refl (told_active cs t d ks es)
told_active cs t c ks (e.Back u l ∷ es) =
    let d : Control = after_entry cs c (e.Back u l) in
    same_active (λ js. active_from cs t d js es) (u == t) (versions_from cs t d es) ks (e.Back u l) (entries_of t es) refl (told_active cs t d ks es)
told_active cs t c ks (e.Enter u l k n ∷ es) =
    let d : Control = after_entry cs c (e.Enter u l k n) in
    same_active (λ js. active_from cs t d js es) (u == t) (versions_from cs t d es) ks (e.Enter u l k n) (entries_of t es) refl (told_active cs t d ks es)
told_active cs t c ks (e.Leave u l k n ∷ es) =
    let d : Control = after_entry cs c (e.Leave u l k n) in
    same_active (λ js. active_from cs t d js es) (u == t) (versions_from cs t d es) ks (e.Leave u l k n) (entries_of t es) refl (told_active cs t d ks es)
told_active cs t c ks (e.Post u l k n ∷ es) =
    let d : Control = after_entry cs c (e.Post u l k n) in
    same_active (λ js. active_from cs t d js es) (u == t) (versions_from cs t d es) ks (e.Post u l k n) (entries_of t es) refl (told_active cs t d ks es)
told_active cs t c ks (e.Wait u l k n ∷ es) =
    let d : Control = after_entry cs c (e.Wait u l k n) in
    same_active (λ js. active_from cs t d js es) (u == t) (versions_from cs t d es) ks (e.Wait u l k n) (entries_of t es) refl (told_active cs t d ks es)
told_active cs t c ks (e.Asked k ∷ es) = told_active cs t (after_entry cs c (e.Asked k)) ks es
told_active cs t c ks (e.Refused k n y ∷ es) = told_active cs t (after_entry cs c (e.Refused k n y)) ks es
told_active cs t c ks (e.Stalled k u l ∷ es) = told_active cs t (after_entry cs c (e.Stalled k u l)) ks es
told_active cs t c ks (e.Cut k ∷ es) = told_active cs t (after_entry cs c (e.Cut k)) ks es
told_active cs t c ks (e.Unreached k ∷ es) = told_active cs t (after_entry cs c (e.Unreached k)) ks es
told_active cs t c ks (e.Finish k ∷ es) = told_active cs t (after_entry cs c (e.Finish k)) ks es
told_active cs t c ks (e.Installed k v ps ∷ es) = told_active cs t (after_entry cs c (e.Installed k v ps)) ks es
told_active cs t c ks (e.Removed k v ps ∷ es) = told_active cs t (after_entry cs c (e.Removed k v ps)) ks es

active_told : (s : Setting) (front : List Entry) (t : ℕ) (x : ThreadState) (h : IsPart s.program (plans s) (own s front t x))
    → Walk.active (walk_of s.program (plans s) (own s front t x) h.steps) ≡ active_from s.commands t first_control [] front
active_told s front t x h =
    walk_active s.program (plans s) t (unborn (versions_of s.commands t front)) h.steps
    ∙ (ap (λ es. active_with (versions_of s.commands t front) [] es) h.tells ∙ told_active s.commands t first_control [] front)

-- A thread crosses where a new version was listed for it, and each is listed for it

abbrev pub RowOf : ℕ → Entry → Type 0
RowOf size (e.Installed k v ps) = length ps ≡ size
RowOf size (e.Removed k v ps) = length ps ≡ size
RowOf size _ = Unit {0}

abbrev pub Moves : ℕ → ℕ → List ℕ → Entry → Type 0
Moves size t ls x = (is_thread t (thread_of x) ≡ true → is_cross x ≡ owes_cross x ls) × RowOf size x

abbrev pub AreMoves : ℕ → ℕ → List ℕ → List Entry → Type 0
AreMoves size t ls [] = Unit {0}
AreMoves size t ls (x ∷ xs) = Moves size t ls x × AreMoves size t (listed_places_after t ls x) xs

-- it has begun
abbrev begun_behind : ℕ → Bool → Entry → Bool
begun_behind t b (e.Begin u l) = if u == t then true else b
begun_behind t b _ = b

abbrev begun_from : ℕ → Bool → List Entry → Bool
begun_from t b [] = b
begun_from t b (x ∷ xs) = begun_from t (begun_behind t b x) xs

-- once it has begun, it has the newest version while nothing new is listed for it
abbrev IsNewest : Control → List ℕ → Bool → List ℕ → Type 0
IsNewest c ls b ks = b ≡ true → ls ≡ [] → ks ≡ Version.active c.version

takes_newest : (c : Control) (d b : Bool) (ls ks : List ℕ) → IsNewest c ls b ks
    → IsNewest c (if d then [] else ls) (if d then true else b) (if d then Version.active c.version else ks)
takes_newest c true b ls ks h g n = refl
takes_newest c false b ls ks h g n = h g n

crosses_newest : (c : Control) (d b : Bool) (ls ks : List ℕ) → IsNewest c ls b ks → IsNewest c (if d then [] else ls) b (if d then Version.active c.version else ks)
crosses_newest c true b ls ks h g n = refl
crosses_newest c false b ls ks h g n = h g n

not_owing : (ls : List ℕ) → false ≡ owes_cross (e.End 0 0) ls → ls ≡ []
not_owing [] h = refl
not_owing (x ∷ ls) h = cc

stays_newest : (c : Control) (d b : Bool) (ls ks : List ℕ) → (d ≡ true → false ≡ owes_cross (e.End 0 0) ls) → IsNewest c ls b ks → IsNewest c (if d then [] else ls) b ks
stays_newest c true b ls ks owes h g n = h g (not_owing ls (owes refl))
stays_newest c false b ls ks owes h g n = h g n

pub row_there : (ps : List ℕ) (i : ℕ) → i < length ps → row_at ps (suc i) ≡ [] → ⊥
row_there [] i h g = let no : ⊥ = omega arith in no
row_there (x ∷ ps) zero h g = cc
row_there (x ∷ ps) (suc i) h g = row_there ps i (omega arith) g

behind_empty : (xs ys : List ℕ) → xs ++ ys ≡ [] → ys ≡ []
behind_empty [] ys h = h
behind_empty (x ∷ xs) ys h = cc

new_listed : (size : ℕ) (ps ls : List ℕ) (i : ℕ) → i < size → length ps ≡ size → ls ++ row_at ps (suc i) ≡ [] → ⊥
new_listed size ps ls i small is h = row_there ps i (subst (λ n. i < n) (sym is) small) (behind_empty ls (row_at ps (suc i)) h)

newest_behind : (size : ℕ) (cs : List Command) (c : Control) (i : ℕ) (ls : List ℕ) (b : Bool) (ks : List ℕ) (x : Entry) → i < size → Moves size (suc i) ls x → IsNewest c ls b ks
    → IsNewest (after_entry cs c x) (listed_places_after (suc i) ls x) (begun_behind (suc i) b x) (active_behind (suc i) c ks x)
newest_behind size cs c i ls b ks (e.Begin u l) small m h = takes_newest c (u == suc i) b ls ks h
newest_behind size cs c i ls b ks (e.Cross u l x v n) small m h = crosses_newest c (u == suc i) b ls ks h
newest_behind size cs c i ls b ks (e.Installed k v ps) small m h = λ g n. absurd (new_listed size ps ls i small m.1 n)
newest_behind size cs c i ls b ks (e.Removed k v ps) small m h = λ g n. absurd (new_listed size ps ls i small m.1 n)
newest_behind size cs c i ls b ks (e.End u l) small m h = stays_newest c (u == suc i) b ls ks m.0 h
newest_behind size cs c i ls b ks (e.Trap u l r) small m h = stays_newest c (u == suc i) b ls ks m.0 h
newest_behind size cs c i ls b ks (e.Read u l x v) small m h = stays_newest c (u == suc i) b ls ks m.0 h
newest_behind size cs c i ls b ks (e.Write u l x v) small m h = stays_newest c (u == suc i) b ls ks m.0 h
newest_behind size cs c i ls b ks (e.Lock u l y) small m h = stays_newest c (u == suc i) b ls ks m.0 h
newest_behind size cs c i ls b ks (e.Unlock u l y) small m h = stays_newest c (u == suc i) b ls ks m.0 h
newest_behind size cs c i ls b ks (e.Down u l y) small m h = stays_newest c (u == suc i) b ls ks m.0 h
newest_behind size cs c i ls b ks (e.Up u l y) small m h = stays_newest c (u == suc i) b ls ks m.0 h
newest_behind size cs c i ls b ks (e.Spawn u l q f vs) small m h = stays_newest c (u == suc i) b ls ks m.0 h
newest_behind size cs c i ls b ks (e.Join u l q) small m h = stays_newest c (u == suc i) b ls ks m.0 h
newest_behind size cs c i ls b ks (e.Print u l v) small m h = stays_newest c (u == suc i) b ls ks m.0 h
newest_behind size cs c i ls b ks (e.Tick u l y) small m h = stays_newest c (u == suc i) b ls ks m.0 h
newest_behind size cs c i ls b ks (e.Blocked u l y) small m h = stays_newest c (u == suc i) b ls ks m.0 h
newest_behind size cs c i ls b ks (e.At u l k ns) small m h = stays_newest c (u == suc i) b ls ks m.0 h
newest_behind size cs c i ls b ks (e.Past u l k ns) small m h = stays_newest c (u == suc i) b ls ks m.0 h
newest_behind size cs c i ls b ks (e.Back u l) small m h = stays_newest c (u == suc i) b ls ks m.0 h
newest_behind size cs c i ls b ks (e.Enter u l k n) small m h = stays_newest c (u == suc i) b ls ks m.0 h
newest_behind size cs c i ls b ks (e.Leave u l k n) small m h = stays_newest c (u == suc i) b ls ks m.0 h
newest_behind size cs c i ls b ks (e.Post u l k n) small m h = stays_newest c (u == suc i) b ls ks m.0 h
newest_behind size cs c i ls b ks (e.Wait u l k n) small m h = stays_newest c (u == suc i) b ls ks m.0 h
newest_behind size cs c i ls b ks (e.Asked k) small m h = h
newest_behind size cs c i ls b ks (e.Refused k n y) small m h = h
newest_behind size cs c i ls b ks (e.Stalled k u l) small m h = h
newest_behind size cs c i ls b ks (e.Cut k) small m h = h
newest_behind size cs c i ls b ks (e.Unreached k) small m h = h
newest_behind size cs c i ls b ks (e.Finish k) small m h = h

newest_along : (size : ℕ) (cs : List Command) (c : Control) (i : ℕ) (ls : List ℕ) (b : Bool) (ks : List ℕ) (xs : List Entry) → i < size → AreMoves size (suc i) ls xs → IsNewest c ls b ks
    → IsNewest (control_after cs c xs) (listed_places_from (suc i) ls xs) (begun_from (suc i) b xs) (active_from cs (suc i) c ks xs)
newest_along size cs c i ls b ks [] small m h = h
newest_along size cs c i ls b ks (x ∷ xs) small m h =
    newest_along size cs (after_entry cs c x) i (listed_places_after (suc i) ls x) (begun_behind (suc i) b x) (active_behind (suc i) c ks x) xs small m.1
    (newest_behind size cs c i ls b ks x small m.0 h)

-- What stands moves so

row_of : (s : Setting) (f : Front) (x : Entry) (rest : List Entry) → Stands s f x rest → RowOf s.threads x
row_of s f (e.Installed k v ps) rest h = h.1.lists.count
row_of s f (e.Removed k v ps) rest h = h.1.lists.count
row_of s f _ rest h = tt

same_number : (t u : ℕ) → (t == u) ≡ true → t ≡ u
same_number t u h = grind arith

crosses_of : (s : Setting) (f : Front) (t : ℕ) (x : Entry) (o : Option ℕ) → thread_of x ≡ o → ((u : ℕ) → o ≡ Some u → MayMove s f u x) → is_thread t o ≡ true
    → is_cross x ≡ owes_cross x (listed_places t f.entries)
crosses_of s f t x None is m h = cc
crosses_of s f t x (Some u) is m h = subst (λ v. is_cross x ≡ owes_cross x (listed_places v f.entries)) (same_number u t h) ((m u refl).crosses)

pub moves_of : (s : Setting) (f : Front) (t : ℕ) (x : Entry) (rest : List Entry) → Stands s f x rest → Moves s.threads t (listed_places t f.entries) x
moves_of s f t x rest h = (
  (λ g. crosses_of s f t x (thread_of x) refl (λ u is. stands_moves s f x rest u h is) g),
  row_of s f x rest h,
)

pub listed_last : (t : ℕ) (ls : List ℕ) (xs : List Entry) (y : Entry) → listed_places_from t ls (xs ++ y ∷ []) ≡ listed_places_after t (listed_places_from t ls xs) y
listed_last t ls [] y = refl
listed_last t ls (x ∷ xs) y = listed_last t (listed_places_after t ls x) xs y

pub append_one : (xs : List Entry) (y : Entry) (ys : List Entry) → (xs ++ y ∷ []) ++ ys ≡ xs ++ y ∷ ys
append_one [] y ys = refl
append_one (x ∷ xs) y ys = ap (◌∷◌ x) (append_one xs y ys)

pub moves_from : (s : Setting) (es : List Entry) (h : IsStrict s es) (t : ℕ) (front todo rest : List Entry) → es ≡ front ++ (todo ++ rest) → AreMoves s.threads t (listed_places t front) todo
moves_from s es h t front [] rest is = tt
moves_from s es h t front (x ∷ todo) rest is = (
  moves_of s (front_at s h.events front) t x (todo ++ rest) (h.stands front x (todo ++ rest) is),
  subst (λ ls. AreMoves s.threads t ls todo) (listed_last t [] front x)
      (moves_from s es h t (front ++ x ∷ []) todo rest (is ∙ sym (append_one front x (todo ++ rest)))),
)

-- A thread that made an entry has begun

still_begun : (t : ℕ) (es : List Entry) → begun_from t true es ≡ true
still_begun t [] = refl
still_begun t (x ∷ es) = subst (λ b. begun_from t b es ≡ true) (sym (true_behind x)) (still_begun t es)
  where
    either_true : (b : Bool) → (if b then true else true) ≡ true
    either_true true = refl
    either_true false = refl

    true_behind : (y : Entry) → begun_behind t true y ≡ true
    true_behind (e.Begin u l) = either_true (u == t)
    true_behind _ = refl

if_true : {A : Type 0} (b : Bool) (x y : A) → b ≡ true → (if b then x else y) ≡ x
if_true true x y h = refl
if_true false x y h = cc

if_false : {A : Type 0} (b : Bool) (x y : A) → b ≡ false → (if b then x else y) ≡ y
if_false true x y h = cc
if_false false x y h = refl

by_test : (b : Bool) (P : Type 0) → (b ≡ true → P) → (b ≡ false → P) → P
by_test true P f g = f refl
by_test false P f g = g refl

begin_begun : (t : ℕ) (b : Bool) (x : Entry) (es : List Entry) → IsBegin x → is_thread t (thread_of x) ≡ true → begun_from t (begun_behind t b x) es ≡ true
begin_begun t b x es is h =
    let P : Entry → Type 0 = λ y. is_thread t (thread_of y) ≡ true in
    let mine : (is.0 == t) ≡ true = subst P is.1.1 h in
    let Q : Entry → Type 0 = λ y. begun_from t (begun_behind t b y) es ≡ true in
    subst Q (sym is.1.1) (subst (λ z. begun_from t z es ≡ true) (sym (if_true (is.0 == t) true b mine)) (still_begun t es))

first_begun : (t : ℕ) (b : Bool) (es : List Entry) (y : Entry) (ys : List Entry) → entries_of t es ≡ y ∷ ys → IsBegin y → begun_from t b es ≡ true
first_begun t b [] y ys h is = cc
first_begun t b (x ∷ es) y ys h is =
    by_test (is_thread t (thread_of x)) (begun_from t (begun_behind t b x) es ≡ true)
    (λ g.
    let same : x ∷ entries_of t es ≡ y ∷ ys = sym (if_true (is_thread t (thread_of x)) (x ∷ entries_of t es) (entries_of t es) g) ∙ h in
    let first : x ≡ y = cc in
    begin_begun t b x es (subst IsBegin (sym first) is) g)
    (λ g. first_begun t (begun_behind t b x) es y ys (sym (if_false (is_thread t (thread_of x)) (x ∷ entries_of t es) (entries_of t es) g) ∙ h) is)

pub newest : (s : Setting) (front rest : List Entry) → IsStrict s (front ++ rest) → (i : ℕ) → i < s.threads → (x : ThreadState)
    (h : IsPart s.program (plans s) (own s front (suc i) x)) (y : Entry) (ys : List Entry) → entries_of (suc i) front ≡ y ∷ ys → listed_places (suc i) front ≡ []
    → (walk_of s.program (plans s) (own s front (suc i) x) h.steps).active ≡ Version.active (control s.commands front).version
newest s front rest h i small x part y ys some none =
    let t : ℕ = suc i in
    let begins : IsBegin y =
    first_begins s.program (plans s) t x.func x.args (versions_of s.commands t front) part.steps part.ahead part.outcome y ys part.trace part.woven (part.tells ∙ some) in
    let begun : begun_from t false front ≡ true = first_begun t false front y ys some begins in
    let moves : AreMoves s.threads t [] front = moves_from s (front ++ rest) h t [] front rest refl in
    active_told s front t x part ∙ newest_along s.threads s.commands first_control i [] false [] front small moves (λ g n. cc) begun none
