-- A journal with one more entry: its lists, the parts of its threads, and one more control entry.
use Rattle.std.proofs.Common.{ℕ, zero, suc, ◌≤◌, ◌≡◌, ◌==◌, ◌⊎◌, inl, inr, Bool, true, false, ◌&&◌, List, [], ◌∷◌, ◌++◌, ℤ, length, map, take, Option, Some, None, slice_get, refl, sym, ap, subst, ◌∙◌, if◌then◌else◌, arith}
use Rattle.loom_tree.specs.Tree.{Source, Function}
use Rattle.loom_trace.specs.declared.entry.Entry.{Entry}
use Rattle.loom_trace.specs.declared.entry.Entry.TheVariants as e
use Rattle.loom_trace.specs.declared.entry.Ending.{Ending}
use Rattle.loom_lang.specs.Trace.{Open, thread, IsTrace}
use Rattle.loom_event.specs.TargetEvent.{TargetEvent, entry_of, is_target, targets}
use Rattle.loom_event.specs.Entries.{thread_of, is_thread}
use Rattle.loom_event.specs.Replay.{ThreadState, start, thread_at, replay}
use Rattle.loom_event.specs.Run.{IsThreadTraced, AreRun}
use Rattle.loom_law.specs.Walk.{Version, Plans}
use Rattle.loom_law.specs.ThreadPart.{IsPart}
use Rattle.loom_law.specs.Control.{Command, Control, control, first_control, control_after, takes_version, versions_of, entries_of}
use Rattle.loom_law.specs.Lawful.{Setting, Front, front_of, plans, HasPart, front_at, MayFollow, MayFollowBy}
use Rattle.loom_law.proofs.Strict.{Stands, IsStrict, StandsBy}
use Rattle.loom_law.specs.Laws.{IsUnfinished, with_newest, own_with}
use Rattle.loom_law.proofs.OnePart.{append_none}
use Rattle.loom_law.proofs.Earlier.{targets_append, length_append, entries_append, taken_append, IsOf, if_false, if_true, takes_is, is_taking, takings, takings_taken, none_left, an_own}

-- Lists

pub take_front : {A : Type 0} (n : ℕ) (xs ys : List A) → n ≤ length xs → take n (xs ++ ys) ≡ take n xs
take_front zero xs ys h = refl
take_front (suc n) [] ys h = let no : ⊥ = omega arith in absurd no
take_front (suc n) (x ∷ xs) ys h = ap (◌∷◌ x) (take_front n xs ys (omega arith))

pub take_whole : {A : Type 0} (n : ℕ) (xs ys : List A) → n ≡ length xs → take n (xs ++ ys) ≡ xs
take_whole zero [] ys h = refl
take_whole zero (x ∷ xs) ys h = let no : ⊥ = omega arith in absurd no
take_whole (suc n) [] ys h = let no : ⊥ = omega arith in absurd no
take_whole (suc n) (x ∷ xs) ys h = ap (◌∷◌ x) (take_whole n xs ys (omega arith))

pub map_length : {A B : Type 0} (f : A → B) (xs : List A) → length (map f xs) ≡ length xs
map_length f [] = refl
map_length f (x ∷ xs) = ap suc (map_length f xs)

pub map_append : {A B : Type 0} (f : A → B) (xs ys : List A) → map f (xs ++ ys) ≡ map f xs ++ map f ys
map_append f [] ys = refl
map_append f (x ∷ xs) ys = ap (◌∷◌ (f x)) (map_append f xs ys)

-- an entry of a longer journal is the last one, or stands in the journal before it
pub record IsLast (es : List Entry) (x : Entry) (front : List Entry) (y : Entry) (rest : List Entry) : Type 0 where
  pub front_is : es ≡ front
  pub entry_is : x ≡ y
  pub rest_is : rest ≡ []

pub record IsEarlier (es : List Entry) (x : Entry) (front : List Entry) (y : Entry) (rest : List Entry) : Type 0 where
  pub more : List Entry
  pub rest_is : rest ≡ more ++ x ∷ []
  pub whole : es ≡ front ++ y ∷ more

pub last_or_earlier : (es : List Entry) (x : Entry) (front : List Entry) (y : Entry) (rest : List Entry) → es ++ x ∷ [] ≡ front ++ y ∷ rest
    → IsLast es x front y rest ⊎ IsEarlier es x front y rest
last_or_earlier [] x [] y rest h = inl (record { front_is = refl; entry_is = cc; rest_is = cc })
last_or_earlier [] x (u ∷ front) y rest h = let no : [] ≡ front ++ y ∷ rest = cc in absurd (none front no)
  where
    none : (us : List Entry) → [] ≡ us ++ y ∷ rest → ⊥
    none [] g = cc
    none (v ∷ us) g = cc
last_or_earlier (z ∷ es) x [] y rest h =
    let first : z ≡ y = cc in
    let others : rest ≡ es ++ x ∷ [] = cc in
    inr (record { more = es; rest_is = others; whole = ap (λ u. u ∷ es) first })
last_or_earlier (z ∷ es) x (u ∷ front) y rest h =
    let first : z ≡ u = cc in
    let others : es ++ x ∷ [] ≡ front ++ y ∷ rest = cc in
    further (last_or_earlier es x front y rest others) first
  where
    further : IsLast es x front y rest ⊎ IsEarlier es x front y rest → z ≡ u → IsLast (z ∷ es) x (u ∷ front) y rest ⊎ IsEarlier (z ∷ es) x (u ∷ front) y rest
    further (inl g) f = inl (record { front_is = ap (λ v. v ∷ es) f ∙ ap (◌∷◌ u) g.front_is; entry_is = g.entry_is; rest_is = g.rest_is })
    further (inr g) f = inr (record { more = g.more; rest_is = g.rest_is; whole = ap (λ v. v ∷ es) f ∙ ap (◌∷◌ u) g.whole })

-- What stands in a journal stands so with more behind it

pub more_behind : (s : Setting) (f : Front) (x : Entry) (rest more : List Entry) → ((k : Ending) → x ≡ e.Finish k → rest ≡ [] → ⊥) → Stands s f x rest → Stands s f x (rest ++ more)
more_behind s f (e.Finish k) rest more none h = absurd (none k refl h.0)
more_behind s f _ rest more none h = h

pub longer : (s : Setting) (es : List Entry) (h : IsStrict s es) (x : Entry) (xs ys : List TargetEvent) → xs ≡ h.events ++ ys → IsUnfinished es → map entry_of ys ≡ targets (x ∷ [])
    → AreRun s.program s.threads xs → ((u : ℕ) → HasPart s (es ++ x ∷ []) u (thread_at (replay (start s.program s.threads) xs) u)) → Stands s (front_of s es h.events) x []
    → (h' : IsStrict s (es ++ x ∷ [])) × (h'.events ≡ xs)
longer s es h x xs ys is open_ tells run parts last = (
  record {
    events = xs;
    tells = ap (map entry_of) is ∙ (map_append entry_of h.events ys ∙ (ap (λ zs. zs ++ map entry_of ys) h.tells ∙ (ap (λ zs. targets es ++ zs) tells ∙ sym (targets_append es (x ∷ [])))));
    run = run;
    parts = parts;
    stands = λ front y rest whole. stood front y rest (last_or_earlier es x front y rest whole);
  },
  refl,
)
  where
    many : length (targets es) ≡ length h.events
    many = sym (ap length h.tells) ∙ map_length entry_of h.events

    stood : (front : List Entry) (y : Entry) (rest : List Entry) → IsLast es x front y rest ⊎ IsEarlier es x front y rest
        → Stands s (front_at s xs front) y rest
    stood front y rest (inl g) =
        let all : take (length (targets es)) xs ≡ h.events = ap (take (length (targets es))) is ∙ take_whole (length (targets es)) h.events ys many in
        let here : Stands s (front_at s xs es) x [] = subst (λ zs. Stands s (front_of s es zs) x []) (sym all) last in
        let there : Stands s (front_at s xs front) x [] =
        subst (λ fs. Stands s (front_at s xs fs) x []) g.front_is here in
        subst (Stands s (front_at s xs front) y) (sym g.rest_is)
        (subst (λ u. Stands s (front_at s xs front) u []) g.entry_is there)
    stood front y rest (inr g) =
        let n : ℕ = length (targets front) in
        let count : targets es ≡ targets front ++ targets (y ∷ g.more) = ap targets g.whole ∙ targets_append front (y ∷ g.more) in
        let few : n ≤ length (targets es) = subst (λ zs. n ≤ length zs) (sym count) (length_append (targets front) (targets (y ∷ g.more))) in
        let same : take n xs ≡ take n h.events = ap (take n) is ∙ take_front n h.events ys (subst (λ m. n ≤ m) many few) in
        let before : Stands s (front_of s front (take n h.events)) y g.more = h.stands front y g.more g.whole in
        let no : (k : Ending) → y ≡ e.Finish k → g.more ≡ [] → ⊥ = λ k a b. open_ k (record {
          front = front;
          is = g.whole ∙ (ap (λ us. front ++ y ∷ us) b ∙ ap (λ u. front ++ u ∷ []) a);
        }) in
        subst (Stands s (front_of s front (take n xs)) y) (sym g.rest_is)
        (subst (λ zs. Stands s (front_of s front zs) y (g.more ++ x ∷ [])) (sym same)
        (more_behind s (front_of s front (take n h.events)) y g.more (x ∷ []) no before))

-- A thread that did nothing

pub no_items : (p : Source) (g : Option Function) (f : ℕ) (vs : List ℤ) → thread p g f vs 0 [] Open
no_items p None f vs = (refl, refl)
no_items p (Some g) f vs = inl (refl, refl)

pub empty_trace : (p : Source) (f : ℕ) (vs : List ℤ) → IsTrace p f vs [] Open
empty_trace p f vs = record { most_turns = 0; gives = no_items p (slice_get p.funcs f) f vs }

pub empty_part : (p : Source) (plans : Plans) (t f : ℕ) (args : List ℤ) (vs : List Version) (es : List Entry) → es ≡ [] → vs ≡ [] → IsPart p plans (an_own t f args vs es)
empty_part p plans t f args vs es none new = record {
  steps = [];
  ahead = [];
  outcome = Open;
  trace = empty_trace p f args;
  woven = tt;
  tells = sym none;
  taken = new;
}

-- Parts with one more entry

pub not_mine : (t : ℕ) (x : Entry) (es : List Entry) → is_thread t (thread_of x) ≡ false → entries_of t (es ++ x ∷ []) ≡ entries_of t es
not_mine t x es h =
    entries_append t es (x ∷ []) ∙ (ap (λ zs. entries_of t es ++ zs) (if_false (is_thread t (thread_of x)) (x ∷ []) [] h) ∙ append_none (entries_of t es))

pub and_false : (a b : Bool) → b ≡ false → (a && b) ≡ false
and_false true b h = h
and_false false b h = refl

pub not_taken : (cs : List Command) (t : ℕ) (x : Entry) (es : List Entry) → is_thread t (thread_of x) ≡ false → versions_of cs t (es ++ x ∷ []) ≡ versions_of cs t es
not_taken cs t x es h =
    let v : Version = Control.version (control_after cs first_control es) in
    let no : takes_version t x ≡ false = takes_is t x ∙ and_false (is_taking x) (is_thread t (thread_of x)) h in
    taken_append cs t first_control es (x ∷ [])
    ∙ (ap (λ zs. versions_of cs t es ++ zs) (if_false (takes_version t x) (v ∷ []) [] no) ∙ append_none (versions_of cs t es))

pub others_part : (s : Setting) (es : List Entry) (x : Entry) (t : ℕ) (o o' : Option ThreadState) → IsOf o o' → is_thread t (thread_of x) ≡ false → HasPart s es t o
    → HasPart s (es ++ x ∷ []) t o'
others_part s es x t None None is other h = not_mine t x es other ∙ h
others_part s es x t None (Some z) is other h =
    let none : entries_of t (es ++ x ∷ []) ≡ [] = not_mine t x es other ∙ h in
    empty_part s.program (plans s) t z.func z.args (versions_of s.commands t (es ++ x ∷ [])) (entries_of t (es ++ x ∷ [])) none
    (none_left (versions_of s.commands t (es ++ x ∷ [])) (sym (ap takings none) ∙ takings_taken s.commands t first_control (es ++ x ∷ [])))
others_part s es x t (Some y) None is other h = absurd is
others_part s es x t (Some y) (Some z) is other h =
    let p : Source = s.program in
    let one : IsPart p (plans s) (an_own t z.func y.args (versions_of s.commands t es) (entries_of t es)) =
    subst (λ f. IsPart p (plans s) (an_own t f y.args (versions_of s.commands t es) (entries_of t es))) is.0 h in
    let two : IsPart p (plans s) (an_own t z.func z.args (versions_of s.commands t es) (entries_of t es)) =
    subst (λ vs. IsPart p (plans s) (an_own t z.func vs (versions_of s.commands t es) (entries_of t es))) is.1 one in
    let three : IsPart p (plans s) (an_own t z.func z.args (versions_of s.commands t (es ++ x ∷ [])) (entries_of t es)) =
    subst (λ vs. IsPart p (plans s) (an_own t z.func z.args vs (entries_of t es))) (sym (not_taken s.commands t x es other)) two in
    subst (λ zs. IsPart p (plans s) (an_own t z.func z.args (versions_of s.commands t (es ++ x ∷ [])) zs)) (sym (not_mine t x es other)) three

pub mine : (t : ℕ) (x : Entry) (es : List Entry) → is_thread t (thread_of x) ≡ true → entries_of t (es ++ x ∷ []) ≡ entries_of t es ++ x ∷ []
mine t x es h = entries_append t es (x ∷ []) ∙ ap (λ zs. entries_of t es ++ zs) (if_true (is_thread t (thread_of x)) (x ∷ []) [] h)

pub one_taken : (t : ℕ) (v : Version) (vs : List Version) (x : Entry) → is_thread t (thread_of x) ≡ true → vs ++ (if takes_version t x then v ∷ [] else []) ≡ with_newest x v vs
one_taken t v vs (e.Begin u l) h = ap (λ zs. vs ++ zs) (if_true (u == t) (v ∷ []) [] h)
one_taken t v vs (e.Cross u l x n m) h = ap (λ zs. vs ++ zs) (if_true (u == t) (v ∷ []) [] h)
one_taken t v vs _ h = append_none vs

pub newest_taken : (cs : List Command) (t : ℕ) (x : Entry) (es : List Entry) → is_thread t (thread_of x) ≡ true
    → versions_of cs t (es ++ x ∷ []) ≡ with_newest x (Control.version (control cs es)) (versions_of cs t es)
newest_taken cs t x es h = taken_append cs t first_control es (x ∷ []) ∙ one_taken t (Control.version (control cs es)) (versions_of cs t es) x h

pub own_part : (s : Setting) (es : List Entry) (x : Entry) (t : ℕ) (y : ThreadState) (o' : Option ThreadState) → IsOf (Some y) o' → is_thread t (thread_of x) ≡ true
    → IsPart s.program (plans s) (own_with s es t y x) → HasPart s (es ++ x ∷ []) t o'
own_part s es x t y None is self h = absurd is
own_part s es x t y (Some z) is self h =
    let p : Source = s.program in
    let vs : List Version = with_newest x (Control.version (control s.commands es)) (versions_of s.commands t es) in
    let us : List Entry = entries_of t es ++ x ∷ [] in
    let one : IsPart p (plans s) (an_own t z.func y.args vs us) = subst (λ f. IsPart p (plans s) (an_own t f y.args vs us)) is.0 h in
    let two : IsPart p (plans s) (an_own t z.func z.args vs us) = subst (λ ws. IsPart p (plans s) (an_own t z.func ws vs us)) is.1 one in
    let three : IsPart p (plans s) (an_own t z.func z.args (versions_of s.commands t (es ++ x ∷ [])) us) =
    subst (λ ws. IsPart p (plans s) (an_own t z.func z.args ws us)) (sym (newest_taken s.commands t x es self)) two in
    subst (λ zs. IsPart p (plans s) (an_own t z.func z.args (versions_of s.commands t (es ++ x ∷ [])) zs)) (sym (mine t x es self)) three

-- Control entries

pub of_itself : (o : Option ThreadState) → IsOf o o
of_itself None = tt
of_itself (Some x) = (refl, refl)

pub no_target : (x : Entry) → thread_of x ≡ None → is_target x ≡ false
no_target (e.Begin t l) h = cc
no_target (e.End t l) h = cc
no_target (e.Trap t l r) h = cc
no_target (e.Read t l y v) h = cc
no_target (e.Write t l y v) h = cc
no_target (e.Lock t l m) h = cc
no_target (e.Unlock t l m) h = cc
no_target (e.Down t l y) h = cc
no_target (e.Up t l y) h = cc
no_target (e.Spawn t l c f vs) h = cc
no_target (e.Join t l c) h = cc
no_target (e.Print t l v) h = cc
no_target _ h = refl

pub control_turns : (s : Setting) (es : List Entry) (h : IsStrict s es) → IsUnfinished es
    → (x : Entry) → thread_of x ≡ None → MayFollow s (front_of s es h.events) x []
    → (h' : IsStrict s (es ++ x ∷ [])) × (h'.events ≡ h.events)
control_turns s es h open_ x none follows =
    let f : Front = front_of s es h.events in
    let control_ : MayFollowBy s f x [] None = subst (MayFollowBy s f x []) none follows in
    longer s es h x h.events [] (sym (append_none h.events)) open_ (sym (if_false (is_target x) (x ∷ []) [] (no_target x none))) h.run
    (λ t. others_part s es x t (thread_at (replay (start s.program s.threads) h.events) t) (thread_at (replay (start s.program s.threads) h.events) t)
    (of_itself (thread_at (replay (start s.program s.threads) h.events) t)) (ap (is_thread t) none) (h.parts t))
    (subst (StandsBy s f x []) (sym none) control_)

-- A journal with no entry

pub no_deeds : (p : Source) (t : ℕ) (o : Option ThreadState) → IsThreadTraced p [] t o
no_deeds p t None = refl
no_deeds p t (Some x) = record { items = []; outcome = Open; trace = empty_trace p x.func x.args; same = refl }

pub no_part : (s : Setting) (t : ℕ) (o : Option ThreadState) → HasPart s [] t o
no_part s t None = refl
no_part s t (Some x) = empty_part s.program (plans s) t x.func x.args [] [] refl refl

pub no_entry : (front : List Entry) (x : Entry) (rest : List Entry) → [] ≡ front ++ x ∷ rest → ⊥
no_entry [] x rest h = cc
no_entry (y ∷ front) x rest h = cc

pub beginning : (s : Setting) → (h : IsStrict s []) × (h.events ≡ [])
beginning s = (
  record {
    events = [];
    tells = refl;
    run = record { traced = λ t. no_deeds s.program t (thread_at (start s.program s.threads) t); allowed = tt };
    parts = λ t. no_part s t (thread_at (start s.program s.threads) t);
    stands = λ front x rest is. absurd (no_entry front x rest is);
  },
  refl,
)
