-- A lawful journal is one of whose entries more is known.
use Rattle.std.proofs.Common.{ℕ, ◌≤◌, ◌≡◌, ◌==◌, true, false, List, [], ◌∷◌, ◌++◌, length, map, take, drop, Option, Some, None, refl, sym, ap, subst, ◌∙◌, zero, suc, arith}
use Rattle.std.specs.List.{list_any}
use Rattle.std.proofs.lemmas.List.{take-append-drop}
use Rattle.loom_tree.specs.Tree.{Source}
use Rattle.loom_trace.specs.declared.entry.Entry.{Entry}
use Rattle.loom_trace.specs.declared.entry.Entry.TheVariants as e
use Rattle.loom_lang.specs.Trace.{end, made, begins, done, edge, enter, out, IsTrace}
use Rattle.loom_event.specs.TargetEvent.{TargetEvent, entry_by, entry_of, is_target, targets}
use Rattle.loom_event.specs.Entries.{thread_of, is_thread}
use Rattle.loom_event.specs.Replay.{ThreadState, start, thread_at, replay}
use Rattle.loom_event.specs.Run.{AreRun}
use Rattle.loom_law.specs.Walk.{Version, PartStep, goes, makes, items, filter_entries, entry_of_operation, unborn, AreWoven}
use Rattle.loom_law.specs.ThreadPart.{Own, IsPart}
use Rattle.loom_law.specs.Control.{Holder, Control, control, first_control, versions_of, entries_of}
use Rattle.loom_law.specs.Lawful.{Setting, Front, front_of, plans, own, HasPart, MayMove, Permits, MayFollow, MayFollowBy, IsLawful}
use Rattle.loom_law.proofs.Strict.{Stands, IsStrict, StandsBy}
use Rattle.loom_law.specs.Laws.{IsUnfinished, own_with}
use Rattle.loom_law.proofs.OnePart.{told_append, append_none, never_empty}
use Rattle.loom_law.proofs.Earlier.{append_assoc, map_front, take_again, length_append, targets_append, run_front, has_part_front, stays, idle_entries, allowed_front, nothing_done, less_behind, if_false, items_ahead, woven_front, takings, takings_taken}
use Rattle.loom_law.proofs.Turns.{own_same, op_no_target, some_thread, event_stands, act_free, walk_coming, drop_all, eq_same}
use Rattle.loom_law.proofs.Longer.{longer, beginning, mine, map_length}

-- The last step that tells an entry

-- this step tells the entry
abbrev Tells : ℕ → Entry → PartStep → Type 0
Tells t x (makes l o) = x ≡ entry_of_operation t l o
Tells t x (goes (made l a)) = x ≡ entry_by t l a
Tells t x (goes _) = ⊥

record LastTold (t : ℕ) (ss : List PartStep) (es : List Entry) (x : Entry) : Type 0 where
  before : List PartStep
  step : PartStep
  behind : List PartStep
  whole : ss ≡ before ++ step ∷ behind
  same : filter_entries t before ≡ es
  tells : Tells t x step

with_mark : (t : ℕ) (s : PartStep) (ss : List PartStep) (es : List Entry) (x : Entry) → ((us : List PartStep) → filter_entries t (s ∷ us) ≡ filter_entries t us) → LastTold t ss es x → LastTold t (s ∷ ss) es x
with_mark t s ss es x skips h =
    record { before = s ∷ h.before; step = h.step; behind = h.behind; whole = ap (◌∷◌ s) h.whole; same = skips h.before ∙ h.same; tells = h.tells }

with_told : (t : ℕ) (s : PartStep) (ss : List PartStep) (u y : Entry) (es : List Entry) (x : Entry) → ((us : List PartStep) → filter_entries t (s ∷ us) ≡ u ∷ filter_entries t us)
    → u ∷ filter_entries t ss ≡ (y ∷ es) ++ x ∷ [] → (filter_entries t ss ≡ es ++ x ∷ [] → LastTold t ss es x) → LastTold t (s ∷ ss) (y ∷ es) x
with_told t s ss u y es x tells h go =
    let first : u ≡ y = cc in
    let others : filter_entries t ss ≡ es ++ x ∷ [] = cc in
    let c : LastTold t ss es x = go others in
    record {
      before = s ∷ c.before;
      step = c.step;
      behind = c.behind;
      whole = ap (◌∷◌ s) c.whole;
      same = tells c.before ∙ (ap (λ z. z ∷ filter_entries t c.before) first ∙ ap (◌∷◌ y) c.same);
      tells = c.tells;
    }

last_told : (t : ℕ) (ss : List PartStep) (es : List Entry) (x : Entry) → filter_entries t ss ≡ es ++ x ∷ [] → LastTold t ss es x
last_told t [] es x h = absurd (never_empty es x h)
last_told t (makes m q ∷ ss) [] x h = record { before = []; step = makes m q; behind = ss; whole = refl; same = refl; tells = cc }
last_told t (goes (made m a) ∷ ss) [] x h = record { before = []; step = goes (made m a); behind = ss; whole = refl; same = refl; tells = cc }
last_told t (makes m q ∷ ss) (y ∷ es) x h = with_told t (makes m q) ss (entry_of_operation t m q) y es x (λ us. refl) h (λ g. last_told t ss es x g)
last_told t (goes (made m a) ∷ ss) (y ∷ es) x h = with_told t (goes (made m a)) ss (entry_by t m a) y es x (λ us. refl) h (λ g. last_told t ss es x g)
last_told t (goes (begins m env) ∷ ss) es x h = with_mark t (goes (begins m env)) ss es x (λ us. refl) (last_told t ss es x h)
last_told t (goes (done m) ∷ ss) es x h = with_mark t (goes (done m)) ss es x (λ us. refl) (last_told t ss es x h)
last_told t (goes (edge m) ∷ ss) es x h = with_mark t (goes (edge m)) ss es x (λ us. refl) (last_told t ss es x h)
last_told t (goes (enter f env) ∷ ss) es x h = with_mark t (goes (enter f env)) ss es x (λ us. refl) (last_told t ss es x h)
last_told t (goes (out f) ∷ ss) es x h = with_mark t (goes (out f)) ss es x (λ us. refl) (last_told t ss es x h)

-- One entry more

none_there : (t : ℕ) (x : Entry) (es : List Entry) → is_thread t (thread_of x) ≡ true → entries_of t (es ++ x ∷ []) ≡ [] → ⊥
none_there t x es self h = never_empty (entries_of t es) x (sym h ∙ mine t x es self)

-- the part that ends with the step that tells the entry
cut_part : (s : Setting) (es : List Entry) (x : Entry) (t : ℕ) (z : ThreadState) (part : IsPart s.program (plans s) (own s (es ++ x ∷ []) t z)) (before : List PartStep) (step : PartStep)
    (behind : List PartStep) → part.steps ≡ before ++ step ∷ behind → filter_entries t (before ++ step ∷ []) ≡ entries_of t (es ++ x ∷ [])
    → (h : IsPart s.program (plans s) (own s (es ++ x ∷ []) t z)) × (h.steps ≡ before ++ step ∷ [])
cut_part s es x t z part before step behind is tells =
    let p : Source = s.program in
    let vs : List Version = versions_of s.commands t (es ++ x ∷ []) in
    let us : List PartStep = before ++ step ∷ [] in
    let split : part.steps ≡ us ++ behind = is ∙ sym (append_assoc before (step ∷ []) behind) in
    let trace : IsTrace p z.func z.args (items (us ++ behind) ++ part.ahead) part.outcome =
    subst (λ ss. IsTrace p z.func z.args (items ss ++ part.ahead) part.outcome) split part.trace in (
      record {
        steps = us;
        ahead = items behind ++ part.ahead;
        outcome = part.outcome;
        trace = subst (λ ws. IsTrace p z.func z.args ws part.outcome) (items_ahead us behind part.ahead) trace;
        woven = woven_front p (plans s) (unborn vs) us behind part.ahead (subst (λ ss. AreWoven p (plans s) (unborn vs) ss part.ahead) split part.woven);
        tells = tells;
        taken = walk_coming p (plans s) t (unborn vs) us
            ∙ drop_all (takings (filter_entries t us)) vs (ap takings tells ∙ takings_taken s.commands t first_control (es ++ x ∷ []));
      },
      refl,
    )

stands_by : (s : Setting) (es : List Entry) (h : IsStrict s es) (x : Entry) (t : ℕ) (z : ThreadState) → is_thread t (thread_of x) ≡ true
    → (is_target x ≡ false → thread_at (replay (start s.program s.threads) h.events) t ≡ Some z)
    → (part : IsPart s.program (plans s) (own s (es ++ x ∷ []) t z)) (before : List PartStep) (step : PartStep) (behind : List PartStep) → part.steps ≡ before ++ step ∷ behind
    → filter_entries t before ≡ entries_of t es → Tells t x step → MayMove s (front_of s es h.events) t x → Permits s (front_of s es h.events) x
    → Stands s (front_of s es h.events) x []
stands_by s es h x t z self there part before (makes l o) behind is same e m n =
    let q : entry_of_operation t l o ≡ x = sym e in
    let f : Front = front_of s es h.events in
    let made_part : IsPart s.program (plans s) (own_with s es t z x) = subst (IsPart s.program (plans s)) (sym (own_same s es x t z self)) part in
    subst (λ y. Stands s f y []) q
    (some_thread s es h t l o z (there (ap is_target e ∙ op_no_target t l o)) (subst (λ y. IsPart s.program (plans s) (own_with s es t z y)) e made_part)
    (subst (MayMove s f t) e m) (subst (Permits s f) e n))
stands_by s es h x t z self there part before (goes (made l a)) behind is same e m n =
    let f : Front = front_of s es h.events in
    let step : PartStep = goes (made l a) in
    let tells : filter_entries t (before ++ step ∷ []) ≡ entries_of t (es ++ x ∷ []) =
    told_append t before (step ∷ []) ∙ (ap (λ us. us ++ entry_by t l a ∷ []) same ∙ (ap (λ y. entries_of t es ++ y ∷ []) (sym e) ∙ sym (mine t x es self))) in
    let cut = cut_part s es x t z part before step behind is tells in
    subst (λ y. Stands s f y []) (sym e)
    (event_stands s f t l a (subst (MayMove s f t) e m)
    (free cut.0 cut.1))
  where
    free : (c : IsPart s.program (plans s) (own s (es ++ x ∷ []) t z)) → c.steps ≡ before ++ goes (made l a) ∷ [] → a ≡ end
        → list_any (λ (g : Holder). g.thread == t) (Control.holders (control s.commands es)) ≡ false
    free c k =
        let w : Own = own_with s es t z x in
        let both : (d : IsPart s.program (plans s) w) × (d.steps ≡ before ++ goes (made l a) ∷ []) =
        subst (λ (v : Own). (d : IsPart s.program (plans s) v) × (d.steps ≡ before ++ goes (made l a) ∷ [])) (sym (own_same s es x t z self)) (c, k) in
        let there' : (d : IsPart s.program (plans s) (own_with s es t z (entry_by t l a))) × (d.steps ≡ before ++ goes (made l a) ∷ []) =
        subst (λ y. (d : IsPart s.program (plans s) (own_with s es t z y)) × (d.steps ≡ before ++ goes (made l a) ∷ [])) e both in
        act_free s es h t l a z there'.0 before there'.1
stands_by s es h x t z self there part before (goes (begins l env)) behind is same e m n = absurd e
stands_by s es h x t z self there part before (goes (done l)) behind is same e m n = absurd e
stands_by s es h x t z self there part before (goes (edge l)) behind is same e m n = absurd e
stands_by s es h x t z self there part before (goes (enter f env)) behind is same e m n = absurd e
stands_by s es h x t z self there part before (goes (out f)) behind is same e m n = absurd e

stands_if : (s : Setting) (es : List Entry) (h : IsStrict s es) (x : Entry) (t : ℕ) (o : Option ThreadState) → is_thread t (thread_of x) ≡ true
    → (is_target x ≡ false → thread_at (replay (start s.program s.threads) h.events) t ≡ o) → HasPart s (es ++ x ∷ []) t o
    → MayMove s (front_of s es h.events) t x → Permits s (front_of s es h.events) x → Stands s (front_of s es h.events) x []
stands_if s es h x t None self there part m n = absurd (none_there t x es self part)
stands_if s es h x t (Some z) self there part m n =
    let c : LastTold t part.steps (entries_of t es) x = last_told t part.steps (entries_of t es) x (part.tells ∙ mine t x es self) in
    stands_by s es h x t z self there part c.before c.step c.behind c.whole c.same c.tells m n

map_behind : {A B : Type 0} (f : A → B) (xs : List A) (ys zs : List B) → map f xs ≡ ys ++ zs → map f (drop (length ys) xs) ≡ zs
map_behind f xs [] zs h = h
map_behind f [] (y ∷ ys) zs h = cc
map_behind f (x ∷ xs) (y ∷ ys) zs h = let others : map f xs ≡ ys ++ zs = cc in map_behind f xs ys zs others

map_empty : {A B : Type 0} (f : A → B) (xs : List A) → map f xs ≡ [] → xs ≡ []
map_empty f [] h = refl
map_empty f (x ∷ xs) h = cc

stood : (s : Setting) (es : List Entry) (h : IsStrict s es) (x : Entry) (rest : List Entry) (xs : List TargetEvent) → (is_target x ≡ false → h.events ≡ xs)
    → ((t : ℕ) → HasPart s (es ++ x ∷ []) t (thread_at (replay (start s.program s.threads) xs) t)) → (o : Option ℕ) → thread_of x ≡ o
    → MayFollowBy s (front_of s es h.events) x rest o → Stands s (front_of s es h.events) x []
stood s es h x rest xs same parts None of n =
    less_behind s (front_of s es h.events) x [] rest (subst (StandsBy s (front_of s es h.events) x rest) (sym of) n)
stood s es h x rest xs same parts (Some t) of n =
    stands_if s es h x t (thread_at (replay (start s.program s.threads) xs) t) (ap (is_thread t) of ∙ eq_same t)
    (λ no. ap (λ zs. thread_at (replay (start s.program s.threads) zs) t) (same no)) (parts t) n.0 n.1

grown : (s : Setting) (es : List Entry) (n : IsLawful s es) (before : List Entry) (x : Entry) (rest : List Entry) → es ≡ before ++ x ∷ rest → (h : IsStrict s before)
    → h.events ≡ take (length (targets before)) n.events → (h' : IsStrict s (before ++ x ∷ [])) × (h'.events ≡ take (length (targets (before ++ x ∷ []))) n.events)
grown s es n before x rest is h ev =
    let p : Source = s.program in
    let front : List Entry = before ++ x ∷ [] in
    let k : ℕ = length (targets front) in
    let m : ℕ = length (targets before) in
    let xs : List TargetEvent = take k n.events in
    let more : List TargetEvent = drop k n.events in
    let whole : xs ++ more ≡ n.events = take-append-drop k n.events in
    let there : es ≡ front ++ rest = is ∙ sym (append_assoc before (x ∷ []) rest) in
    let tells : map entry_of xs ≡ targets front = map_front entry_of n.events (targets front) (targets rest) (n.tells ∙ (ap targets there ∙ targets_append front rest)) in
    let longer_by : targets front ≡ targets before ++ targets (x ∷ []) = targets_append before (x ∷ []) in
    let few : m ≤ k = subst (λ zs. m ≤ length zs) (sym longer_by) (length_append (targets before) (targets (x ∷ []))) in
    let ys : List TargetEvent = drop m xs in
    let split : xs ≡ h.events ++ ys = sym (take-append-drop m xs) ∙ ap (λ zs. zs ++ ys) (take_again m k n.events few ∙ sym ev) in
    let last : map entry_of ys ≡ targets (x ∷ []) = map_behind entry_of xs (targets before) (targets (x ∷ [])) (tells ∙ longer_by) in
    let run : AreRun p s.threads (xs ++ more) = subst (AreRun p s.threads) (sym whole) n.run in
    let parts : (t : ℕ) → HasPart s front t (thread_at (replay (start p s.threads) xs) t) = λ t.
    has_part_front s front rest t (thread_at (replay (start p s.threads) xs) t) (thread_at (replay (start p s.threads) (xs ++ more)) t) (stays p s.threads xs more t)
    (λ none. subst (λ us. entries_of t us ≡ []) tells (idle_entries t xs (nothing_done (start p s.threads) t xs (allowed_front (start p s.threads) xs more run.allowed) none)))
    (subst (λ us. HasPart s us t (thread_at (replay (start p s.threads) (xs ++ more)) t)) there
    (subst (λ zs. HasPart s es t (thread_at (replay (start p s.threads) zs) t)) (sym whole) (n.parts t))) in
    let unfinished : IsUnfinished before = λ kind f.
    let bad : x ∷ rest ≡ [] = (n.follows f.front (e.Finish kind) (x ∷ rest)
    (is ∙ (ap (λ us. us ++ x ∷ rest) f.is ∙ append_assoc f.front (e.Finish kind ∷ []) (x ∷ rest)))).0 in
    cc in
    let here : MayFollow s (front_of s before h.events) x rest = subst (λ zs. MayFollow s (front_of s before zs) x rest) (sym ev) (n.follows before x rest is) in
    let same : is_target x ≡ false → h.events ≡ xs = λ no.
    sym (split ∙ (ap (λ zs. h.events ++ zs) (map_empty entry_of ys (last ∙ if_false (is_target x) (x ∷ []) [] no)) ∙ append_none h.events)) in
    longer s before h x xs ys split unfinished last (run_front p s.threads xs more run) parts (stood s before h x rest xs same parts (thread_of x) refl here)

take_all : {A : Type 0} (n : ℕ) (xs : List A) → n ≡ length xs → take n xs ≡ xs
take_all zero [] h = refl
take_all zero (x ∷ xs) h = let no : ⊥ = omega arith in absurd no
take_all (suc n) [] h = refl
take_all (suc n) (x ∷ xs) h = ap (◌∷◌ x) (take_all n xs (omega arith))

grow : (s : Setting) (es : List Entry) (n : IsLawful s es) (before todo : List Entry) → es ≡ before ++ todo → (h : IsStrict s before)
    → h.events ≡ take (length (targets before)) n.events → (h' : IsStrict s es) × (h'.events ≡ n.events)
grow s es n before [] is h ev =
    let same : es ≡ before = is ∙ append_none before in
    let many : length (targets before) ≡ length n.events =
    ap (λ us. length (targets us)) (sym same) ∙ (sym (ap length n.tells) ∙ map_length entry_of n.events) in
    subst (λ us. (h' : IsStrict s us) × (h'.events ≡ n.events)) (sym same) (h, ev ∙ take_all (length (targets before)) n.events many)
grow s es n before (x ∷ todo) is h ev =
    let g = grown s es n before x todo is h ev in
    grow s es n (before ++ x ∷ []) todo (is ∙ sym (append_assoc before (x ∷ []) todo)) g.0 g.1

-- Of the entries of a lawful journal more is known.
pub strict : (s : Setting) (es : List Entry) (h : IsLawful s es) → (h' : IsStrict s es) × (h'.events ≡ h.events)
strict s es h = let b = beginning s in grow s es h [] es refl b.0 b.1
