-- In a lawful journal each filter that comes in with a `Cross` was listed for the thread with a place that is safe for it.
use Rattle.std.proofs.Common.{ℕ, zero, suc, ◌+◌, ◌<◌, ◌≡◌, ◌==◌, ◌⊎◌, inl, inr, Bool, true, false, List, [], ◌∷◌, ◌++◌, length, map, Option, Some, refl, sym, ap, subst, ◌∙◌, if◌then◌else◌, arith}
use Rattle.std.specs.List.{Contains, AllByRecursion}
use Rattle.std.proofs.lemmas.List.Elements.{Contains-append_left, Contains-append_right}
use Rattle.loom_tree.specs.Tree.{Source}
use Rattle.loom_trace.specs.declared.entry.Entry.{Entry}
use Rattle.loom_trace.specs.declared.entry.Entry.TheVariants as e
use Rattle.loom_lang.specs.Places.{Place, nowhere}
use Rattle.loom_lang.specs.Trace.{Item}
use Rattle.loom_event.specs.Entries.{thread_of, is_thread}
use Rattle.loom_event.specs.Replay.{ThreadState}
use Rattle.loom_command.specs.Filter.{Filter}
use Rattle.loom_law.specs.Filter.{Plan, has, numbers, plan_of}
use Rattle.loom_law.specs.Walk.{Version, Plans, cross, PartStep, makes, items, filter_entries, Walk, unborn, without_first, walk_behind, walk_from, place_number, MayCross, MayStand, AreWoven}
use Rattle.loom_law.specs.ThreadPart.{walk_of, IsPart}
use Rattle.loom_law.specs.Paths.{IsUnsafe}
use Rattle.loom_law.specs.Control.{Action, install, means, Command, Control, command_at, plan_in, first_control, after_entry, control_after, control, versions_from, versions_of, entries_of, row_at, listed_places_after, listed_places_from, listed_places}
use Rattle.loom_law.specs.Lawful.{Setting, Front, front_at, plans, own, IsFlaggedBy, ListsPlaces, owes_cross}
use Rattle.loom_law.specs.FilterRefusal.{IsPathFault}
use Rattle.loom_law.specs.Judgement.{HasNone}
use Rattle.loom_law.specs.OneRegion.{IsInOneRegion, ComesInSafely}
use Rattle.loom_law.proofs.Course.{no_member, contains_first, contains_cases}
use Rattle.loom_law.proofs.Strict.{Stands, IsStrict}
use Rattle.loom_law.proofs.Balance.{has_more, has_left}
use Rattle.loom_law.proofs.Earlier.{append_assoc, entries_append, taken_append, by_test, if_true, if_false, is_taking, takings, takings_taken}
use Rattle.loom_law.proofs.Newest.{taken_active, active_with, walk_active, active_behind, active_from, told_active, RowOf, Moves, AreMoves, moves_of, moves_from, listed_last, append_one, row_there}
use Rattle.loom_law.proofs.OnePart.{told_append}
use Rattle.loom_law.proofs.OwedEvents.{never_both}
use Rattle.loom_law.proofs.Sites.{nowhere_safe}
use Rattle.loom_law.proofs.UnsafePlaces.{unsafe_there, number_alone}
use Rattle.loom_law.proofs.OneRegion.{one_region}

-- The filters of a thread's version, behind some of its steps

active_step : (vs : List Version) (ks : List ℕ) (x : Entry) (es : List Entry)
    → active_with vs ks (x ∷ es) ≡ (if is_taking x then active_with (without_first vs) (taken_active vs ks) es else active_with vs ks es)
active_step vs ks (e.Begin t l) es = refl
active_step vs ks (e.Cross t l x v n) es = refl
active_step vs ks _ es = refl

step_takes : (vs : List Version) (ks : List ℕ) (x : Entry) (es : List Entry) → is_taking x ≡ true → active_with vs ks (x ∷ es) ≡ active_with (without_first vs) (taken_active vs ks) es
step_takes vs ks x es h = active_step vs ks x es ∙ if_true (is_taking x) (active_with (without_first vs) (taken_active vs ks) es) (active_with vs ks es) h

step_skips : (vs : List Version) (ks : List ℕ) (x : Entry) (es : List Entry) → is_taking x ≡ false → active_with vs ks (x ∷ es) ≡ active_with vs ks es
step_skips vs ks x es h = active_step vs ks x es ∙ if_false (is_taking x) (active_with (without_first vs) (taken_active vs ks) es) (active_with vs ks es) h

-- versions that are taken later don't matter
active_more : (vs us : List Version) (ks : List ℕ) (es : List Entry) → takings es ≡ length vs → active_with (vs ++ us) ks es ≡ active_with vs ks es
active_more vs us ks [] n = refl
active_more [] us ks (x ∷ es) n =
    by_test (is_taking x) (active_with us ks (x ∷ es) ≡ active_with [] ks (x ∷ es))
    (λ b. let many : suc (takings es) ≡ 0 = sym (if_true (is_taking x) (suc (takings es)) (takings es) b) ∙ n in
    let no : ⊥ = omega arith in absurd no)
    (λ b. step_skips us ks x es b ∙ (active_more [] us ks es (sym (if_false (is_taking x) (suc (takings es)) (takings es) b) ∙ n) ∙ sym (step_skips [] ks x es b)))
active_more (v ∷ vs) us ks (x ∷ es) n =
    by_test (is_taking x) (active_with (v ∷ (vs ++ us)) ks (x ∷ es) ≡ active_with (v ∷ vs) ks (x ∷ es))
    (λ b. let many : suc (takings es) ≡ suc (length vs) = sym (if_true (is_taking x) (suc (takings es)) (takings es) b) ∙ n in
    step_takes (v ∷ (vs ++ us)) ks x es b ∙ (active_more vs us v.active es (omega arith) ∙ sym (step_takes (v ∷ vs) ks x es b)))
    (λ b. step_skips (v ∷ (vs ++ us)) ks x es b
    ∙ (active_more (v ∷ vs) us ks es (sym (if_false (is_taking x) (suc (takings es)) (takings es) b) ∙ n) ∙ sym (step_skips (v ∷ vs) ks x es b)))

-- they are those of the journal up to there
active_at : (s : Setting) (t : ℕ) (es fs whole : List Entry) (us : List PartStep) → whole ≡ es ++ fs → filter_entries t us ≡ entries_of t es
    → Walk.active (walk_from s.program (plans s) (unborn (versions_of s.commands t whole)) us) ≡ active_from s.commands t first_control [] es
active_at s t es fs whole us is tells =
    let cs : List Command = s.commands in
    let vs : List Version = versions_of cs t es in
    let more : List Version = versions_from cs t (control_after cs first_control es) fs in
    let both : versions_of cs t whole ≡ vs ++ more = ap (versions_of cs t) is ∙ taken_append cs t first_control es fs in
    walk_active s.program (plans s) t (unborn (versions_of cs t whole)) us
    ∙ (ap (λ q. active_with (versions_of cs t whole) [] q) tells
    ∙ (ap (λ q. active_with q [] (entries_of t es)) both
    ∙ (active_more vs more [] (entries_of t es) (takings_taken cs t first_control es) ∙ told_active cs t first_control [] es)))

active_last : (cs : List Command) (t : ℕ) (c : Control) (ks : List ℕ) (es : List Entry) (y : Entry)
    → active_from cs t c ks (es ++ y ∷ []) ≡ active_behind t (control_after cs c es) (active_from cs t c ks es) y
active_last cs t c ks [] y = refl
active_last cs t c ks (x ∷ es) y = active_last cs t (after_entry cs c x) (active_behind t c ks x) es y

-- Where a thread's entry stands in the journal

record CutJournal (t : ℕ) (es xs : List Entry) (y : Entry) : Type 0 where
  front : List Entry
  behind : List Entry
  whole : es ≡ front ++ y ∷ behind
  same : entries_of t front ≡ xs

cut_journal : (t : ℕ) (es xs : List Entry) (y : Entry) (ys : List Entry) → entries_of t es ≡ xs ++ y ∷ ys → CutJournal t es xs y
cut_journal t [] [] y ys h = cc
cut_journal t [] (z ∷ zs) y ys h = cc
cut_journal t (x ∷ es) xs y ys h =
    by_test (is_thread t (thread_of x)) (CutJournal t (x ∷ es) xs y)
    (λ b. first_or xs b (sym (if_true (is_thread t (thread_of x)) (x ∷ entries_of t es) (entries_of t es) b) ∙ h) (λ zs g. cut_journal t es zs y ys g))
    (λ b. let c : CutJournal t es xs y = cut_journal t es xs y ys (sym (if_false (is_thread t (thread_of x)) (x ∷ entries_of t es) (entries_of t es) b) ∙ h) in
    record {
      front = x ∷ c.front;
      behind = c.behind;
      whole = ap (◌∷◌ x) c.whole;
      same = if_false (is_thread t (thread_of x)) (x ∷ entries_of t c.front) (entries_of t c.front) b ∙ c.same;
    })
  where
    first_or : (us : List Entry) → is_thread t (thread_of x) ≡ true → x ∷ entries_of t es ≡ us ++ y ∷ ys
        → ((zs : List Entry) → entries_of t es ≡ zs ++ y ∷ ys → CutJournal t es zs y) → CutJournal t (x ∷ es) us y
    first_or [] b g ih =
        let first : x ≡ y = cc in
        record { front = []; behind = es; whole = ap (λ z. z ∷ es) first; same = refl }
    first_or (u ∷ us) b g ih =
        let first : x ≡ u = cc in
        let others : entries_of t es ≡ us ++ y ∷ ys = cc in
        let c : CutJournal t es us y = ih us others in
        record {
          front = x ∷ c.front;
          behind = c.behind;
          whole = ap (◌∷◌ x) c.whole;
          same = if_true (is_thread t (thread_of x)) (x ∷ entries_of t c.front) (entries_of t c.front) b ∙ (ap (λ z. z ∷ entries_of t c.front) first ∙ ap (◌∷◌ u) c.same);
        }

step_stands : (p : Source) (plans : Plans) (z : Walk) (us : List PartStep) (s : PartStep) (vs : List PartStep) (ahead : List Item) → AreWoven p plans z (us ++ s ∷ vs) ahead
    → MayStand p (walk_from p plans z us) s (items vs ++ ahead)
step_stands p plans z [] s vs ahead h = h.0
step_stands p plans z (u ∷ us) s vs ahead h = step_stands p plans (walk_behind p plans z u) us s vs ahead h.1

walk_last : (p : Source) (plans : Plans) (z : Walk) (us : List PartStep) (s : PartStep) → walk_from p plans z (us ++ s ∷ []) ≡ walk_behind p plans (walk_from p plans z us) s
walk_last p plans z [] s = refl
walk_last p plans z (u ∷ us) s = walk_last p plans (walk_behind p plans z u) us s

-- What an installation lists for a thread

-- for an install of command k, the place is safe
abbrev IsSafe : Setting → ℕ → Place → Type 0
IsSafe s k y = (y ≡ nowhere) ⊎ (IsUnsafe s.program (plans s k) y → ⊥)

flagged_safe : (p : Source) (o : Option Command) (c : Command) (g : Plan) (y : Place) → o ≡ Some c → c.action ≡ install (means g) → IsFlaggedBy p o y
    → (y ≡ nowhere) ⊎ (IsUnsafe p (plan_in o) y → ⊥)
flagged_safe p o c g y is installs =
    let P : Option Command → Type 0 = λ q. IsFlaggedBy p q y → (y ≡ nowhere) ⊎ (IsUnsafe p (plan_in q) y → ⊥) in
    let Q : Action → Type 0 = λ a. IsFlaggedBy p (Some (record c { action = a })) y → (y ≡ nowhere) ⊎ (IsUnsafe p (plan_in (Some (record c { action = a }))) y → ⊥) in
    let known : Q (install (means g)) = λ h. h in
    subst P (sym is) (subst Q (sym installs) known)

abbrev IsListed : List ℕ → ℕ → Type 0
IsListed row n = (row ≡ []) ⊎ (row ≡ n ∷ [])

row_cases : (g : ℕ → ℕ) (n : ℕ) (xs : List ℕ) (i : ℕ) → IsListed (row_at (map g (numbers n xs)) (suc i)) (g (n + i))
row_cases g n [] i = inl refl
row_cases g n (x ∷ xs) zero = let same : n ≡ n + 0 = omega arith in inr (ap (λ q. g q ∷ []) same)
row_cases g n (x ∷ xs) (suc i) =
    let P : ℕ → Type 0 = λ q. IsListed (row_at (map g (numbers (suc n) xs)) (suc i)) (g q) in
    let same : suc n + i ≡ n + suc i = omega arith in
    subst P same (row_cases g (suc n) xs i)

abbrev Flags : Setting → ℕ → Entry → Type 0
Flags s i (e.Installed k v ps) = (y : Place) × (IsSafe s k y × IsListed (row_at ps (suc i)) (place_number s.program y))
Flags s i _ = Unit {0}

flags_of : (s : Setting) (f : Front) (i : ℕ) (x : Entry) (rest : List Entry) → Stands s f x rest → Flags s i x
flags_of s f i (e.Installed k v ps) rest h =
    let m = h.1 in
    let g : ℕ → ℕ = λ t. place_number s.program (ListsPlaces.place m.lists t) in
    let P : List ℕ → Type 0 = λ q. IsListed (row_at q (suc i)) (g (1 + i)) in (
      ListsPlaces.place m.lists (1 + i),
      (
        flagged_safe s.program (command_at s.commands k) m.command m.plan (ListsPlaces.place m.lists (1 + i)) m.is m.installs (ListsPlaces.flagged m.lists (1 + i)),
        subst P (sym (ListsPlaces.are m.lists)) (row_cases g 1 ps i),
      ),
    )
flags_of s f i _ rest h = tt

abbrev AreFacts : Setting → ℕ → List ℕ → List Entry → Type 0
AreFacts s i ls [] = Unit {0}
AreFacts s i ls (x ∷ xs) = (Moves s.threads (suc i) ls x × Flags s i x) × AreFacts s i (listed_places_after (suc i) ls x) xs

facts_from : (s : Setting) (es : List Entry) (h : IsStrict s es) (i : ℕ) (front todo rest : List Entry) → es ≡ front ++ (todo ++ rest) → AreFacts s i (listed_places (suc i) front) todo
facts_from s es h i front [] rest is = tt
facts_from s es h i front (x ∷ todo) rest is =
    let st : Stands s (front_at s h.events front) x (todo ++ rest) = h.stands front x (todo ++ rest) is in (
      (moves_of s (front_at s h.events front) (suc i) x (todo ++ rest) st, flags_of s (front_at s h.events front) i x (todo ++ rest) st),
      subst (λ ls. AreFacts s i ls todo) (listed_last (suc i) [] front x)
          (facts_from s es h i (front ++ x ∷ []) todo rest (is ∙ sym (append_one front x (todo ++ rest)))),
    )

-- Each filter of the newest version is one of the thread's, or it was listed for it with a safe place

abbrev Listed : Setting → List ℕ → ℕ → Type 0
Listed s ls k = (y : Place) × (IsSafe s k y × Contains ls (place_number s.program y))

abbrev IsKnownOrListed : Setting → Control → List ℕ → List ℕ → Type 0
IsKnownOrListed s c ls ks = (k : ℕ) → has (Version.active c.version) k ≡ true → (has ks k ≡ true) ⊎ Listed s ls k

takes_known : (s : Setting) (c : Control) (d : Bool) (ls ks : List ℕ) → IsKnownOrListed s c ls ks → IsKnownOrListed s c (if d then [] else ls) (if d then Version.active c.version else ks)
takes_known s c true ls ks h k g = inl g
takes_known s c false ls ks h k g = h k g

none_listed : (s : Setting) (ls : List ℕ) (k : ℕ) → false ≡ owes_cross (e.End 0 0) ls → Listed s ls k → ⊥
none_listed s [] k h m = no_member (place_number s.program m.0) m.1.1
none_listed s (x ∷ ls) k h m = cc

stays_known : (s : Setting) (c : Control) (d : Bool) (ls ks : List ℕ) → (d ≡ true → false ≡ owes_cross (e.End 0 0) ls) → IsKnownOrListed s c ls ks → IsKnownOrListed s c (if d then [] else ls) ks
stays_known s c false ls ks owes h k g = h k g
stays_known s c true ls ks owes h k g = by_cases (h k g)
  where
    by_cases : (has ks k ≡ true) ⊎ Listed s ls k → (has ks k ≡ true) ⊎ Listed s [] k
    by_cases (inl a) = inl a
    by_cases (inr m) = absurd (none_listed s ls k (owes refl) m)

more_listed : (s : Setting) (ls row ks : List ℕ) (k : ℕ) → (has ks k ≡ true) ⊎ Listed s ls k → (has ks k ≡ true) ⊎ Listed s (ls ++ row) k
more_listed s ls row ks k (inl a) = inl a
more_listed s ls row ks k (inr m) = inr (m.0, (m.1.0, Contains-append_left ls row (place_number s.program m.0) m.1.1))

installed_known : (s : Setting) (c : Control) (i j v : ℕ) (ps ls ks : List ℕ) → i < s.threads → length ps ≡ s.threads → Flags s i (e.Installed j v ps) → IsKnownOrListed s c ls ks
    → IsKnownOrListed s (after_entry s.commands c (e.Installed j v ps)) (ls ++ row_at ps (suc i)) ks
installed_known s c i j v ps ls ks small size f h k g = by_cases (has_more (Version.active c.version) j k g)
  where
    row_is : IsListed (row_at ps (suc i)) (place_number s.program f.0) → row_at ps (suc i) ≡ place_number s.program f.0 ∷ []
    row_is (inl none) = absurd (row_there ps i (subst (λ n. i < n) (sym size) small) none)
    row_is (inr one) = one

    P : List ℕ → Type 0
    P q = Contains (ls ++ q) (place_number s.program f.0)

    Q : ℕ → Type 0
    Q q = (has ks q ≡ true) ⊎ Listed s (ls ++ row_at ps (suc i)) q

    by_cases : (has (Version.active c.version) k ≡ true) ⊎ (j ≡ k) → (has ks k ≡ true) ⊎ Listed s (ls ++ row_at ps (suc i)) k
    by_cases (inl old) = more_listed s ls (row_at ps (suc i)) ks k (h k old)
    by_cases (inr same) =
        subst Q same (inr (
          f.0,
          (
            f.1.0,
            subst P (sym (row_is f.1.1))
                (Contains-append_right ls (place_number s.program f.0 ∷ []) (place_number s.program f.0) (contains_first (place_number s.program f.0) [])),
          ),
        ))

known_behind : (s : Setting) (c : Control) (i : ℕ) (ls ks : List ℕ) (x : Entry) → i < s.threads → Moves s.threads (suc i) ls x → Flags s i x → IsKnownOrListed s c ls ks
    → IsKnownOrListed s (after_entry s.commands c x) (listed_places_after (suc i) ls x) (active_behind (suc i) c ks x)
known_behind s c i ls ks (e.Begin u l) small m f h = takes_known s c (u == suc i) ls ks h
known_behind s c i ls ks (e.Cross u l x v n) small m f h = takes_known s c (u == suc i) ls ks h
known_behind s c i ls ks (e.Installed k v ps) small m f h = installed_known s c i k v ps ls ks small m.1 f h
known_behind s c i ls ks (e.Removed k v ps) small m f h = λ j g. more_listed s ls (row_at ps (suc i)) ks j (h j (has_left s.commands k (Version.active c.version) j g))
known_behind s c i ls ks (e.End u l) small m f h = stays_known s c (u == suc i) ls ks m.0 h
known_behind s c i ls ks (e.Trap u l r) small m f h = stays_known s c (u == suc i) ls ks m.0 h
known_behind s c i ls ks (e.Read u l x v) small m f h = stays_known s c (u == suc i) ls ks m.0 h
known_behind s c i ls ks (e.Write u l x v) small m f h = stays_known s c (u == suc i) ls ks m.0 h
known_behind s c i ls ks (e.Lock u l y) small m f h = stays_known s c (u == suc i) ls ks m.0 h
known_behind s c i ls ks (e.Unlock u l y) small m f h = stays_known s c (u == suc i) ls ks m.0 h
known_behind s c i ls ks (e.Down u l y) small m f h = stays_known s c (u == suc i) ls ks m.0 h
known_behind s c i ls ks (e.Up u l y) small m f h = stays_known s c (u == suc i) ls ks m.0 h
known_behind s c i ls ks (e.Spawn u l q g vs) small m f h = stays_known s c (u == suc i) ls ks m.0 h
known_behind s c i ls ks (e.Join u l q) small m f h = stays_known s c (u == suc i) ls ks m.0 h
known_behind s c i ls ks (e.Print u l v) small m f h = stays_known s c (u == suc i) ls ks m.0 h
known_behind s c i ls ks (e.Tick u l y) small m f h = stays_known s c (u == suc i) ls ks m.0 h
known_behind s c i ls ks (e.Blocked u l y) small m f h = stays_known s c (u == suc i) ls ks m.0 h
known_behind s c i ls ks (e.At u l k ns) small m f h = stays_known s c (u == suc i) ls ks m.0 h
known_behind s c i ls ks (e.Past u l k ns) small m f h = stays_known s c (u == suc i) ls ks m.0 h
known_behind s c i ls ks (e.Back u l) small m f h = stays_known s c (u == suc i) ls ks m.0 h
known_behind s c i ls ks (e.Enter u l k n) small m f h = stays_known s c (u == suc i) ls ks m.0 h
known_behind s c i ls ks (e.Leave u l k n) small m f h = stays_known s c (u == suc i) ls ks m.0 h
known_behind s c i ls ks (e.Post u l k n) small m f h = stays_known s c (u == suc i) ls ks m.0 h
known_behind s c i ls ks (e.Wait u l k n) small m f h = stays_known s c (u == suc i) ls ks m.0 h
known_behind s c i ls ks (e.Asked k) small m f h = h
known_behind s c i ls ks (e.Refused k n y) small m f h = h
known_behind s c i ls ks (e.Stalled k u l) small m f h = h
known_behind s c i ls ks (e.Cut k) small m f h = h
known_behind s c i ls ks (e.Unreached k) small m f h = h
known_behind s c i ls ks (e.Finish k) small m f h = h

known_along : (s : Setting) (c : Control) (i : ℕ) (ls ks : List ℕ) (xs : List Entry) → i < s.threads → AreFacts s i ls xs → IsKnownOrListed s c ls ks
    → IsKnownOrListed s (control_after s.commands c xs) (listed_places_from (suc i) ls xs) (active_from s.commands (suc i) c ks xs)
known_along s c i ls ks [] small f h = h
known_along s c i ls ks (x ∷ xs) small f h =
    known_along s (after_entry s.commands c x) i (listed_places_after (suc i) ls x) (active_behind (suc i) c ks x) xs small f.1
    (known_behind s c i ls ks x small f.0.0 f.0.1 h)

-- of a thread at a front of the journal
abbrev KnownAt : Setting → List Entry → ℕ → Type 0
KnownAt s front t = IsKnownOrListed s (control s.commands front) (listed_places t front) (active_from s.commands t first_control [] front)

-- Threads that there can't be are listed nowhere

abbrev IsNowhere : ℕ → ℕ → Type 0
IsNowhere size t = (row : List ℕ) → length row ≡ size → row_at row t ≡ []

row_zero : (row : List ℕ) → row_at row 0 ≡ []
row_zero [] = refl
row_zero (x ∷ xs) = refl

range_cases : (size t : ℕ) → IsNowhere size t ⊎ ((i : ℕ) × ((t ≡ suc i) × (i < size)))
range_cases size zero = inl (λ row h. row_zero row)
range_cases zero (suc i) = inl (λ row h. no_row row h)
  where
    no_row : (row : List ℕ) → length row ≡ 0 → row_at row (suc i) ≡ []
    no_row [] h = refl
    no_row (x ∷ xs) h = let no : ⊥ = omega arith in absurd no
range_cases (suc size) (suc zero) = inr (0, (refl, omega arith))
range_cases (suc size) (suc (suc i)) = by_cases (range_cases size (suc i))
  where
    later_row : IsNowhere size (suc i) → (row : List ℕ) → length row ≡ suc size → row_at row (suc (suc i)) ≡ []
    later_row h [] g = refl
    later_row h (x ∷ xs) g = h xs (omega arith)

    by_cases : IsNowhere size (suc i) ⊎ ((j : ℕ) × ((suc i ≡ suc j) × (j < size))) → IsNowhere (suc size) (suc (suc i)) ⊎ ((j : ℕ) × ((suc (suc i) ≡ suc j) × (j < suc size)))
    by_cases (inl h) = inl (later_row h)
    by_cases (inr h) = let same : suc i ≡ suc h.0 = h.1.0 in let lt : h.0 < size = h.1.1 in inr (suc h.0, (ap suc same, omega arith))

either_none : (b : Bool) (ls : List ℕ) → ls ≡ [] → (if b then [] else ls) ≡ []
either_none true ls is = refl
either_none false ls is = is

nowhere_behind : (size t : ℕ) (x : Entry) → IsNowhere size t → RowOf size x → listed_places_after t [] x ≡ []
nowhere_behind size t (e.Installed k v ps) h g = h ps g
nowhere_behind size t (e.Removed k v ps) h g = h ps g
nowhere_behind size t x h g = either_none (is_thread t (thread_of x)) [] refl

nowhere_along : (size t : ℕ) (ls : List ℕ) (xs : List Entry) → IsNowhere size t → ls ≡ [] → AreMoves size t ls xs → listed_places_from t ls xs ≡ []
nowhere_along size t ls [] h is m = is
nowhere_along size t ls (x ∷ xs) h is m =
    nowhere_along size t (listed_places_after t ls x) xs h (ap (λ q. listed_places_after t q x) is ∙ nowhere_behind size t x h m.0.1) m.1

-- A filter that comes in

all_member : (Q : ℕ → Type 0) (xs : List ℕ) (x : ℕ) → AllByRecursion Q xs → Contains xs x → Q x
all_member Q [] x h c = absurd (no_member x c)
all_member Q (y ∷ ys) x h c = by_cases (all_member Q ys x h.1) (contains_cases y x ys c)
  where
    by_cases : (Contains ys x → Q x) → (y ≡ x) ⊎ Contains ys x → Q x
    by_cases ih (inl e') = subst Q e' h.0
    by_cases ih (inr k) = ih k

some_same : (x y : Place) → Some x ≡ Some y → x ≡ y
some_same x y h = cc

eq_same : (n : ℕ) → (n == n) ≡ true
eq_same n = grind arith

-- the thread owes a `Cross`, so a place was listed for it
known_at : (s : Setting) (es : List Entry) (h : IsStrict s es) (front rest : List Entry) (t l y v n : ℕ) → es ≡ front ++ e.Cross t l y v n ∷ rest → KnownAt s front t
known_at s es h front rest t l y v n is = by_range (range_cases s.threads t)
  where
    st : Stands s (front_at s h.events front) (e.Cross t l y v n) rest
    st = h.stands front (e.Cross t l y v n) rest is

    by_range : IsNowhere s.threads t ⊎ ((i : ℕ) × ((t ≡ suc i) × (i < s.threads))) → KnownAt s front t
    by_range (inl none) =
        let moves : AreMoves s.threads t [] front = moves_from s es h t [] front (e.Cross t l y v n ∷ rest) is in
        let empty : listed_places t front ≡ [] = nowhere_along s.threads t [] front none refl moves in
        let P : List ℕ → Type 0 = λ q. true ≡ owes_cross (e.Cross t l y v n) q in
        let bad : true ≡ false = subst P empty st.0.crosses in
        absurd (never_both true refl bad)
    by_range (inr r) =
        let i : ℕ = r.0 in
        let facts : AreFacts s i [] front = facts_from s es h i [] front (e.Cross t l y v n ∷ rest) is in
        subst (KnownAt s front) (sym r.1.0) (known_along s first_control i [] [] front r.1.1 facts (λ k g. cc))

safe_unlike : (s : Setting) (k : ℕ) (place y : Place) → IsUnsafe s.program (plans s k) place → IsSafe s k y → place_number s.program place ≡ place_number s.program y → ⊥
safe_unlike s k place y unsafe safe same = by_cases safe
  where
    one : place ≡ y
    one = number_alone s.program place y (unsafe_there s.program (plans s k) place unsafe) same

    by_cases : IsSafe s k y → ⊥
    by_cases (inl none) = nowhere_safe s.program (plans s k) (subst (IsUnsafe s.program (plans s k)) (one ∙ none) unsafe)
    by_cases (inr not_unsafe) = not_unsafe (subst (IsUnsafe s.program (plans s k)) one unsafe)

-- where a `Cross` brings in the filter, its place is safe
crossing_safe : (s : Setting) (front rest : List Entry) → IsStrict s (front ++ rest) → (u : ℕ) (steps : List PartStep) (ahead : List Item) (k : ℕ)
    → AreWoven s.program (plans s) (unborn (versions_of s.commands u front)) steps ahead → filter_entries u steps ≡ entries_of u front
    → ComesInSafely s.program (plans s) (unborn (versions_of s.commands u front)) steps ahead k
crossing_safe s front rest h u steps ahead k woven tells before l y v n behind is out_ in_ place next unsafe = by_cases (known k in_version)
  where
    p : Source
    p = s.program

    z : Walk
    z = unborn (versions_of s.commands u front)

    entry : Entry
    entry = e.Cross u l y v n

    stands : MayCross p (walk_from p (plans s) z before) (items behind ++ ahead) l y v n
    stands = step_stands p (plans s) z before (makes l (cross y v n)) behind ahead (subst (λ q. AreWoven p (plans s) z q ahead) is woven)

    told : entries_of u front ≡ filter_entries u before ++ entry ∷ filter_entries u behind
    told = sym tells ∙ (ap (filter_entries u) is ∙ told_append u before (makes l (cross y v n) ∷ behind))

    cut : CutJournal u front (filter_entries u before) entry
    cut = cut_journal u front (filter_entries u before) entry (filter_entries u behind) told

    whole : front ++ rest ≡ cut.front ++ entry ∷ (cut.behind ++ rest)
    whole = ap (λ q. q ++ rest) cut.whole ∙ append_assoc cut.front (entry ∷ cut.behind) rest

    before_active : Walk.active (walk_from p (plans s) z before) ≡ active_from s.commands u first_control [] cut.front
    before_active = active_at s u cut.front (entry ∷ cut.behind) front before cut.whole (sym cut.same)

    one_more : filter_entries u (before ++ makes l (cross y v n) ∷ []) ≡ entries_of u (cut.front ++ entry ∷ [])
    one_more =
        told_append u before (makes l (cross y v n) ∷ [])
        ∙ (ap (λ q. q ++ entry ∷ []) (sym cut.same)
        ∙ (ap (λ q. entries_of u cut.front ++ q) (sym (if_true (u == u) (entry ∷ []) [] (eq_same u))) ∙ sym (entries_append u cut.front (entry ∷ []))))

    behind_active : Walk.active (walk_behind p (plans s) (walk_from p (plans s) z before) (makes l (cross y v n))) ≡ Version.active (Control.version (control s.commands cut.front))
    behind_active =
        ap (λ (q : Walk). q.active) (sym (walk_last p (plans s) z before (makes l (cross y v n))))
        ∙ (active_at s u (cut.front ++ entry ∷ []) cut.behind front (before ++ makes l (cross y v n) ∷ []) (cut.whole ∙ sym (append_one cut.front entry cut.behind)) one_more
        ∙ (active_last s.commands u first_control [] cut.front entry ∙ if_true (u == u) _ _ (eq_same u)))

    in_version : has (Version.active (Control.version (control s.commands cut.front))) k ≡ true
    in_version = subst (λ q. has q k ≡ true) behind_active in_

    known : KnownAt s cut.front u
    known = known_at s (front ++ rest) h cut.front (cut.behind ++ rest) u l y v n whole

    st : Stands s (front_at s (IsStrict.events h) cut.front) entry (cut.behind ++ rest)
    st = IsStrict.stands h cut.front entry (cut.behind ++ rest) whole

    by_cases : (has (active_from s.commands u first_control [] cut.front) k ≡ true) ⊎ Listed s (listed_places u cut.front) k → ⊥
    by_cases (inl old) = never_both (has (active_from s.commands u first_control [] cut.front) k) old (subst (λ q. has q k ≡ false) before_active out_)
    by_cases (inr m) =
        let there : place ≡ stands.place = some_same place stands.place (sym next ∙ stands.next) in
        let listed : place_number p m.0 ≡ y = all_member (λ q. q ≡ y) (listed_places u cut.front) (place_number p m.0) st.1.1 m.1.1 in
        safe_unlike s k place m.0 unsafe m.1.0 (ap (place_number p) there ∙ (sym stands.number ∙ sym listed))

-- So in a lawful journal a thread is inside at most one region of a clause at each point of its part.
pub in_one_region : (s : Setting) (front rest : List Entry) → IsStrict s (front ++ rest) → (u : ℕ) (x : ThreadState) (h : IsPart s.program (plans s) (own s front u x))
    (k : ℕ) (t : Filter) → plans s k ≡ plan_of s.program t → HasNone (IsPathFault s.program (plans s k))
    → (before behind : List PartStep) → h.steps ≡ before ++ behind → IsInOneRegion k (walk_of s.program (plans s) (own s front u x) before)
in_one_region s front rest strict u x h k t is none before behind split =
    one_region s.program (plans s) (own s front u x) h k t is none (crossing_safe s front rest strict u h.steps h.ahead k h.woven h.tells) before behind split
