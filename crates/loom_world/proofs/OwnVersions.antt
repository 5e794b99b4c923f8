-- A thread that began has the newest version where no place is listed for it, and an older one where some is.
use Rattle.std.proofs.Common.{ℕ, zero, suc, ◌<◌, ◌≡◌, ◌==◌, Bool, true, false, List, [], ◌∷◌, ◌++◌, length, Option, Some, None, refl, sym, ap, ◌∙◌, subst, arith, if◌then◌else◌}
use Rattle.loom_trace.specs.declared.entry.Entry.{Entry}
use Rattle.loom_trace.specs.declared.entry.Entry.TheVariants as e
use Rattle.loom_event.specs.Entries.{thread_of, is_thread}
use Rattle.loom_law.specs.Walk.{Version}
use Rattle.loom_law.specs.Control.{Command, Control, first_control, after_entry, control, versions_of, row_at, listed_places_after, listed_places_from, listed_places}
use Rattle.loom_law.specs.Lawful.{Setting, Front, front_at, is_cross, owes_cross, MayControl, MayMove, Permits, MayFollowBy, IsLawful}
use Rattle.loom_law.specs.Laws.{with_newest}
use Rattle.loom_law.proofs.Earlier.{same_number}
use Rattle.loom_law.proofs.OnePart.{append_none}
use Rattle.loom_law.proofs.Obedience.{control_after_last, append_one}
use Rattle.loom_law.proofs.Longer.{not_taken, newest_taken}

abbrev pub last_version : List Version → Option Version
last_version [] = None
last_version (v ∷ []) = Some v
last_version (v ∷ u ∷ vs) = last_version (u ∷ vs)

-- of the version that a thread has, the places that are listed for it, and the newest version
abbrev pub IsUpTo : Option Version → List ℕ → Version → Type 0
IsUpTo None ls v = Unit {0}
IsUpTo (Some u) [] v = u ≡ v
IsUpTo (Some u) (y ∷ ys) v = u.number < v.number

last_is : (vs : List Version) (v : Version) → last_version (vs ++ v ∷ []) ≡ Some v
last_is [] v = refl
last_is (u ∷ []) v = refl
last_is (u ∷ x ∷ vs) v = last_is (x ∷ vs) v

-- Entries of threads

pub version_stays : (cs : List Command) (c : Control) (x : Entry) (w : ℕ) → thread_of x ≡ Some w → Control.version (after_entry cs c x) ≡ c.version
version_stays cs c (e.Installed k v ps) w h = cc
version_stays cs c (e.Removed k v ps) w h = cc
version_stays cs c _ w h = refl

pub listed_by_thread : (t : ℕ) (ls : List ℕ) (x : Entry) (w : ℕ) → thread_of x ≡ Some w → listed_places_after t ls x ≡ (if w == t then [] else ls)
listed_by_thread t ls (e.Installed k v ps) w h = cc
listed_by_thread t ls (e.Removed k v ps) w h = cc
listed_by_thread t ls _ w h = ap (λ (o : Option ℕ). if is_thread t o then [] else ls) h

up_to_begin : (vs : List Version) (v : Version) → IsUpTo (last_version (vs ++ v ∷ [])) [] v
up_to_begin vs v = subst (λ o. IsUpTo o [] v) (sym (last_is vs v)) refl

-- none is listed where it makes no `Cross`
none_owed : (o : Option Version) (ls : List ℕ) (v : Version) (x : Entry) → ((y : ℕ) (ys : List ℕ) → owes_cross x (y ∷ ys) ≡ true) → is_cross x ≡ false → is_cross x ≡ owes_cross x ls
    → IsUpTo o ls v → IsUpTo o [] v
none_owed o [] v x owes other crosses h = h
none_owed o (y ∷ ys) v x owes other crosses h = let same : true ≡ false = sym (owes y ys) ∙ (sym crosses ∙ other) in cc

own_entry : (vs : List Version) (ls : List ℕ) (v : Version) (x : Entry) → is_cross x ≡ owes_cross x ls → IsUpTo (last_version vs) ls v
    → IsUpTo (last_version (with_newest x v vs)) [] v
own_entry vs ls v (e.Begin u l) crosses h = up_to_begin vs v
own_entry vs ls v (e.Cross u l y n m) crosses h = up_to_begin vs v
own_entry vs ls v (e.End u l) crosses h = none_owed (last_version vs) ls v (e.End u l) (λ y ys. refl) refl crosses h
own_entry vs ls v (e.Trap u l r) crosses h = none_owed (last_version vs) ls v (e.Trap u l r) (λ y ys. refl) refl crosses h
own_entry vs ls v (e.Read u l w n) crosses h = none_owed (last_version vs) ls v (e.Read u l w n) (λ y ys. refl) refl crosses h
own_entry vs ls v (e.Write u l w n) crosses h = none_owed (last_version vs) ls v (e.Write u l w n) (λ y ys. refl) refl crosses h
own_entry vs ls v (e.Lock u l m) crosses h = none_owed (last_version vs) ls v (e.Lock u l m) (λ y ys. refl) refl crosses h
own_entry vs ls v (e.Unlock u l m) crosses h = none_owed (last_version vs) ls v (e.Unlock u l m) (λ y ys. refl) refl crosses h
own_entry vs ls v (e.Down u l m) crosses h = none_owed (last_version vs) ls v (e.Down u l m) (λ y ys. refl) refl crosses h
own_entry vs ls v (e.Up u l m) crosses h = none_owed (last_version vs) ls v (e.Up u l m) (λ y ys. refl) refl crosses h
own_entry vs ls v (e.Spawn u l d g us) crosses h = none_owed (last_version vs) ls v (e.Spawn u l d g us) (λ y ys. refl) refl crosses h
own_entry vs ls v (e.Join u l d) crosses h = none_owed (last_version vs) ls v (e.Join u l d) (λ y ys. refl) refl crosses h
own_entry vs ls v (e.Print u l n) crosses h = none_owed (last_version vs) ls v (e.Print u l n) (λ y ys. refl) refl crosses h
own_entry vs ls v (e.Tick u l k) crosses h = none_owed (last_version vs) ls v (e.Tick u l k) (λ y ys. refl) refl crosses h
own_entry vs ls v (e.Blocked u l what) crosses h = none_owed (last_version vs) ls v (e.Blocked u l what) (λ y ys. refl) refl crosses h
own_entry vs ls v (e.At u l k ns) crosses h = none_owed (last_version vs) ls v (e.At u l k ns) (λ y ys. refl) refl crosses h
own_entry vs ls v (e.Past u l k ns) crosses h = none_owed (last_version vs) ls v (e.Past u l k ns) (λ y ys. refl) refl crosses h
own_entry vs ls v (e.Back u l) crosses h = none_owed (last_version vs) ls v (e.Back u l) (λ y ys. refl) refl crosses h
own_entry vs ls v (e.Enter u l k d) crosses h = none_owed (last_version vs) ls v (e.Enter u l k d) (λ y ys. refl) refl crosses h
own_entry vs ls v (e.Leave u l k d) crosses h = none_owed (last_version vs) ls v (e.Leave u l k d) (λ y ys. refl) refl crosses h
own_entry vs ls v (e.Post u l k n) crosses h = none_owed (last_version vs) ls v (e.Post u l k n) (λ y ys. refl) refl crosses h
own_entry vs ls v (e.Wait u l k n) crosses h = none_owed (last_version vs) ls v (e.Wait u l k n) (λ y ys. refl) refl crosses h
own_entry vs ls v (e.Asked k) crosses h = none_owed (last_version vs) ls v (e.Asked k) (λ y ys. refl) refl crosses h
own_entry vs ls v (e.Refused k n m) crosses h = none_owed (last_version vs) ls v (e.Refused k n m) (λ y ys. refl) refl crosses h
own_entry vs ls v (e.Installed k n ps) crosses h = none_owed (last_version vs) ls v (e.Installed k n ps) (λ y ys. refl) refl crosses h
own_entry vs ls v (e.Removed k n ps) crosses h = none_owed (last_version vs) ls v (e.Removed k n ps) (λ y ys. refl) refl crosses h
own_entry vs ls v (e.Stalled k u l) crosses h = none_owed (last_version vs) ls v (e.Stalled k u l) (λ y ys. refl) refl crosses h
own_entry vs ls v (e.Cut k) crosses h = none_owed (last_version vs) ls v (e.Cut k) (λ y ys. refl) refl crosses h
own_entry vs ls v (e.Unreached k) crosses h = none_owed (last_version vs) ls v (e.Unreached k) (λ y ys. refl) refl crosses h
own_entry vs ls v (e.Finish k) crosses h = none_owed (last_version vs) ls v (e.Finish k) (λ y ys. refl) refl crosses h

-- Entries of control

-- a row lists a place for each thread that it has room for
pub one_row : (row : List ℕ) (i : ℕ) → i < length row → (y : ℕ) × (row_at row (suc i) ≡ y ∷ [])
one_row [] i h = absurd (let no : ⊥ = omega (arith, h) in no)
one_row (x ∷ row) zero h = (x, refl)
one_row (x ∷ row) (suc i) h = one_row row i (omega (arith, h))

older : (o : Option Version) (ls : List ℕ) (v w : Version) (y : ℕ) → w.number ≡ suc v.number → IsUpTo o ls v → IsUpTo o (ls ++ y ∷ []) w
older None ls v w y next h = tt
older (Some u) [] v w y next h = let same : u.number ≡ v.number = ap (λ (z : Version). z.number) h in omega (arith, same, next)
older (Some u) (x ∷ ls) v w y next h = omega (arith, h, next)

switched : (o : Option Version) (ls : List ℕ) (v w : Version) (row : List ℕ) (i : ℕ) → i < length row → w.number ≡ suc v.number → IsUpTo o ls v
    → IsUpTo o (ls ++ row_at row (suc i)) w
switched o ls v w row i within next h =
    let one = one_row row i within in
    subst (λ zs. IsUpTo o (ls ++ zs) w) (sym one.1) (older o ls v w one.0 next h)

-- behind a control entry
controlled : (s : Setting) (f : Front) (x : Entry) (rest : List Entry) (i : ℕ) (o : Option Version) (ls : List ℕ) → i < s.threads → thread_of x ≡ None → MayControl s f x rest
    → IsUpTo o ls (Control.version f.control) → IsUpTo o (listed_places_after (suc i) ls x) (Control.version (after_entry s.commands f.control x))
controlled s f (e.Installed k v row) rest i o ls within of may h =
    let count : length row ≡ s.threads = may.1.lists.count in
    switched o ls (Control.version f.control) (Control.version (after_entry s.commands f.control (e.Installed k v row))) row i (omega (arith, within, count)) may.1.version h
controlled s f (e.Removed k v row) rest i o ls within of may h =
    let count : length row ≡ s.threads = may.1.lists.count in
    switched o ls (Control.version f.control) (Control.version (after_entry s.commands f.control (e.Removed k v row))) row i (omega (arith, within, count)) may.1.version h
controlled s f (e.Asked k) rest i o ls within of may h = h
controlled s f (e.Refused k n m) rest i o ls within of may h = h
controlled s f (e.Stalled k u l) rest i o ls within of may h = h
controlled s f (e.Cut k) rest i o ls within of may h = h
controlled s f (e.Unreached k) rest i o ls within of may h = h
controlled s f (e.Finish k) rest i o ls within of may h = h
controlled s f _ rest i o ls within of may h = absurd may

-- Journals

abbrev pub IsUpToDate : Setting → ℕ → List Entry → Type 0
IsUpToDate s t es = IsUpTo (last_version (versions_of s.commands t es)) (listed_places t es) (Control.version (control s.commands es))

pub listed_last : (t : ℕ) (so_far : List ℕ) (es : List Entry) (x : Entry) → listed_places_from t so_far (es ++ x ∷ []) ≡ listed_places_after t (listed_places_from t so_far es) x
listed_last t so_far [] x = refl
listed_last t so_far (y ∷ es) x = listed_last t (listed_places_after t so_far y) es x

-- put together from what is known of versions, places and the control
joined : {o o' : Option Version} {ls ls' : List ℕ} {v v' : Version} → o ≡ o' → ls ≡ ls' → v ≡ v' → IsUpTo o' ls' v' → IsUpTo o ls v
joined {o} {o'} {ls} {ls'} {v} {v'} a b c h =
    subst (λ z. IsUpTo z ls v) (sym a) (subst (λ z. IsUpTo o' z v) (sym b) (subst (λ z. IsUpTo o' ls' z) (sym c) h))

by_thread : (s : Setting) (front : List Entry) (x : Entry) (t w : ℕ) (b : Bool) → (w == t) ≡ b → thread_of x ≡ Some w
    → (is_cross x ≡ owes_cross x (listed_places w front)) → IsUpToDate s t front → IsUpToDate s t (front ++ x ∷ [])
by_thread s front x t w true is of crosses h =
    let cs : List Command = s.commands in
    let its : is_thread t (thread_of x) ≡ true = ap (is_thread t) of ∙ is in
    let ours : is_cross x ≡ owes_cross x (listed_places t front) = subst (λ z. is_cross x ≡ owes_cross x (listed_places z front)) (same_number w t is) crosses in
    joined (ap last_version (newest_taken cs t x front its))
    (listed_last t [] front x ∙ (listed_by_thread t (listed_places t front) x w of ∙ ap (λ (c : Bool). if c then [] else listed_places t front) is))
    (ap (λ (c : Control). c.version) (control_after_last cs first_control front x) ∙ version_stays cs (control cs front) x w of)
    (own_entry (versions_of cs t front) (listed_places t front) (Control.version (control cs front)) x ours h)
by_thread s front x t w false is of crosses h =
    let cs : List Command = s.commands in
    let not_its : is_thread t (thread_of x) ≡ false = ap (is_thread t) of ∙ is in
    joined (ap last_version (not_taken cs t x front not_its))
    (listed_last t [] front x ∙ (listed_by_thread t (listed_places t front) x w of ∙ ap (λ (c : Bool). if c then [] else listed_places t front) is))
    (ap (λ (c : Control). c.version) (control_after_last cs first_control front x) ∙ version_stays cs (control cs front) x w of) h

one_more : (s : Setting) (es : List Entry) (h : IsLawful s es) (i : ℕ) → i < s.threads → (front : List Entry) (x : Entry) (rest : List Entry) → es ≡ front ++ x ∷ rest
    → IsUpToDate s (suc i) front → (o : Option ℕ) → thread_of x ≡ o → IsUpToDate s (suc i) (front ++ x ∷ [])
one_more s es h i within front x rest is up (Some w) of =
    let may : MayMove s (front_at s h.events front) w x × Permits s (front_at s h.events front) x =
    subst (λ o. MayFollowBy s (front_at s h.events front) x rest o) of (h.follows front x rest is) in
    by_thread s front x (suc i) w (w == suc i) refl of may.0.crosses up
one_more s es h i within front x rest is up None of =
    let may : MayControl s (front_at s h.events front) x rest = subst (λ o. MayFollowBy s (front_at s h.events front) x rest o) of (h.follows front x rest is) in
    joined (ap last_version (not_taken s.commands (suc i) x front (ap (is_thread (suc i)) of))) (listed_last (suc i) [] front x)
    (ap (λ (c : Control). c.version) (control_after_last s.commands first_control front x))
    (controlled s (front_at s h.events front) x rest i (last_version (versions_of s.commands (suc i) front)) (listed_places (suc i) front) within of may up)

up_to_from : (s : Setting) (es : List Entry) (h : IsLawful s es) (i : ℕ) → i < s.threads → (front todo : List Entry) → es ≡ front ++ todo → IsUpToDate s (suc i) front
    → IsUpToDate s (suc i) es
up_to_from s es h i within front [] is up = subst (IsUpToDate s (suc i)) (sym (is ∙ append_none front)) up
up_to_from s es h i within front (x ∷ rest) is up =
    up_to_from s es h i within (front ++ x ∷ []) rest (is ∙ sym (append_one front x rest)) (one_more s es h i within front x rest is up (thread_of x) refl)

-- So it is in each lawful journal.
pub up_to_date : (s : Setting) (es : List Entry) → IsLawful s es → (i : ℕ) → i < s.threads → IsUpToDate s (suc i) es
up_to_date s es h i within = up_to_from s es h i within [] es refl tt
