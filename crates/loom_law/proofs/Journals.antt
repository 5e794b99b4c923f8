-- Facts on lawful journals that are written out: what each entry of a thread needs, as one test.
use Rattle.std.proofs.Common.{ℕ, ◌≤◌, ◌<◌, ◌≡◌, ◌==◌, ◌⊎◌, inl, inr, Bool, true, false, not, ◌&&◌, ◌||◌, nat_lt, List, [], ◌∷◌, Option, Some, None, refl, sym, ap, subst, ◌∙◌, arith, zero, suc, length, slice_index_or}
use Rattle.std.proofs.lemmas.Bool.{and_parts, not-true, ltb-true}
use Rattle.std.specs.List.{Contains, list_any}
use Rattle.loom_trace.specs.declared.entry.Entry.{Entry}
use Rattle.loom_command.specs.Script.{Trigger, at, stall}
use Rattle.loom_event.specs.Entries.{thread_entries}
use Rattle.loom_law.specs.Filter.{is_alone}
use Rattle.loom_law.specs.Control.{Command, command_at, Holder, listed_places}
use Rattle.loom_law.specs.Lawful.{Setting, Front, plans, run_is_over, refusal, IsHeldOff, IsDue, IsTriggered, IsOpen, is_cross, owes_cross, IsParked, MayMove}
use Rattle.loom_law.proofs.Earlier.{same_number}

-- No command is due

abbrev pub is_early : ℕ → Bool → Option Command → Bool
is_early n asked None = true
is_early n asked (Some c) = asked || early_trigger n c.trigger
  where
    early_trigger : ℕ → Trigger → Bool
    early_trigger n (at m) = nat_lt n m
    early_trigger n stall = false

abbrev pub is_some : {A : Type 0} → Option A → Bool
is_some None = false
is_some (Some x) = true

abbrev pub none_due : Setting → Front → Bool
none_due s f = is_early (thread_entries f.entries) (is_some f.control.asked) (command_at s.commands f.control.next)

too_early : (s : Setting) (f : Front) (c : Command) → is_early (thread_entries f.entries) false (Some c) ≡ true → IsTriggered s f c.trigger → ⊥
too_early s f c h triggered = by_trigger c.trigger refl
  where
    by_trigger : (g : Trigger) → c.trigger ≡ g → ⊥
    by_trigger (at m) is =
        let early : is_early (thread_entries f.entries) false (Some (record c { trigger = at m })) ≡ true =
        subst (λ u. is_early (thread_entries f.entries) false (Some (record c { trigger = u })) ≡ true) is h in
        let below : thread_entries f.entries < m = ltb-true (thread_entries f.entries) m early in
        let there : m ≤ thread_entries f.entries = subst (IsTriggered s f) is triggered in
        omega arith
    by_trigger stall is =
        let early : false ≡ true = subst (λ u. is_early (thread_entries f.entries) false (Some (record c { trigger = u })) ≡ true) is h in
        cc

pub not_due : (s : Setting) (f : Front) → none_due s f ≡ true → IsDue s f → ⊥
not_due s f h due =
    let n : ℕ = thread_entries f.entries in
    let one : is_early n (is_some f.control.asked) (Some due.command) ≡ true = subst (λ o. is_early n (is_some f.control.asked) o ≡ true) due.is h in
    let two : is_early n false (Some due.command) ≡ true = subst (λ o. is_early n (is_some o) (Some due.command) ≡ true) due.answered one in
    too_early s f due.command two due.triggered

-- Nobody is held off

abbrev pub are_free : Setting → ℕ → List Holder → Bool
are_free s t [] = true
are_free s t (h ∷ hs) = ((h.thread == t) || not (is_alone (plans s h.filter) h.clause)) && are_free s t hs

or_parts : (a b : Bool) → (a || b) ≡ true → (a ≡ true) ⊎ (b ≡ true)
or_parts true b h = inl refl
or_parts false b h = inr h

no_not : (b : Bool) → b ≡ true → not b ≡ true → ⊥
no_not true h g = cc
no_not false h g = cc

free_holders : (s : Setting) (t k c by : ℕ) (hs : List Holder) → (by == t) ≡ false → is_alone (plans s k) c ≡ true → are_free s t hs ≡ true
    → list_any (λ (h : Holder). (h.filter == k) && ((h.clause == c) && (h.thread == by))) hs ≡ true → ⊥
free_holders s t k c by [] other alone free h = cc
free_holders s t k c by (g ∷ hs) other alone free h =
    let both = and_parts ((g.thread == t) || not (is_alone (plans s g.filter) g.clause)) (are_free s t hs) free in
    first (or_parts ((g.filter == k) && ((g.clause == c) && (g.thread == by))) (list_any (λ (h : Holder). (h.filter == k) && ((h.clause == c) && (h.thread == by))) hs) h) both
    (free_holders s t k c by hs other alone both.1)
  where
    here : (g.filter == k) && ((g.clause == c) && (g.thread == by)) ≡ true → ((g.thread == t) ≡ true) ⊎ (not (is_alone (plans s g.filter) g.clause) ≡ true) → ⊥
    here a (inl b) =
        let parts = and_parts (g.filter == k) ((g.clause == c) && (g.thread == by)) a in
        let more = and_parts (g.clause == c) (g.thread == by) parts.1 in
        let same : g.thread ≡ by = same_number g.thread by more.1 in
        let no : false ≡ true = sym other ∙ (ap (λ n. n == t) (sym same) ∙ b) in
        cc
    here a (inr b) =
        let parts = and_parts (g.filter == k) ((g.clause == c) && (g.thread == by)) a in
        let more = and_parts (g.clause == c) (g.thread == by) parts.1 in
        let filter : g.filter ≡ k = same_number g.filter k parts.0 in
        let clause : g.clause ≡ c = same_number g.clause c more.0 in
        let held : is_alone (plans s g.filter) g.clause ≡ true = ap (λ n. is_alone (plans s n) g.clause) filter ∙ (ap (λ n. is_alone (plans s k) n) clause ∙ alone) in
        no_not (is_alone (plans s g.filter) g.clause) held b

    first : (((g.filter == k) && ((g.clause == c) && (g.thread == by))) ≡ true) ⊎ (list_any (λ (h : Holder). (h.filter == k) && ((h.clause == c) && (h.thread == by))) hs ≡ true)
        → (((g.thread == t) || not (is_alone (plans s g.filter) g.clause)) ≡ true) × (are_free s t hs ≡ true)
        → (list_any (λ (h : Holder). (h.filter == k) && ((h.clause == c) && (h.thread == by))) hs ≡ true → ⊥) → ⊥
    first (inl a) both ih = here a (or_parts (g.thread == t) (not (is_alone (plans s g.filter) g.clause)) both.0)
    first (inr a) both ih = ih a

pub not_off : (s : Setting) (f : Front) (t : ℕ) → are_free s t f.control.holders ≡ true → IsHeldOff s f t → ⊥
not_off s f t free h = free_holders s t h.filter h.clause h.held.by f.control.holders h.held.other h.alone free h.held.holds

-- An entry of a thread may stand

abbrev pub same_bools : Bool → Bool → Bool
same_bools true b = b
same_bools false b = not b

abbrev pub is_none : {A : Type 0} → Option A → Bool
is_none None = true
is_none (Some x) = false

abbrev pub none_refused : Setting → Front → Option ℕ → Bool
none_refused s f None = true
none_refused s f (Some k) = is_none (refusal s f.control k)

abbrev pub is_quiet : Setting → Front → ℕ → Entry → Bool
is_quiet s f t x =
    (not (run_is_over s f) && not f.control.closing) && ((none_due s f && none_refused s f f.control.asked)
    && (are_free s t f.control.holders && same_bools (is_cross x) (owes_cross x (listed_places t f.entries))))

same_are : (a b : Bool) → same_bools a b ≡ true → a ≡ b
same_are true b h = sym h
same_are false true h = cc
same_are false false h = refl

not_refused : (s : Setting) (f : Front) (o : Option ℕ) → none_refused s f o ≡ true → (k : ℕ) → o ≡ Some k → refusal s f.control k ≡ None
not_refused s f None h k is = cc
not_refused s f (Some j) h k is = let same : j ≡ k = cc in none_there (refusal s f.control k) (subst (λ n. is_none (refusal s f.control n) ≡ true) same h)
  where
    none_there : (o : Option (ℕ × ℕ)) → is_none o ≡ true → o ≡ None
    none_there None h = refl
    none_there (Some x) h = cc

pub opens : {s : Setting} {f : Front} → run_is_over s f ≡ false → f.control.closing ≡ false → none_due s f ≡ true → none_refused s f f.control.asked ≡ true → IsOpen s f
opens {s = s} {f = f} runs closing due refused = record {
  runs = runs;
  not_closing = closing;
  not_due = not_due s f due;
  not_refused = not_refused s f f.control.asked refused;
}

pub moves : {s : Setting} {f : Front} {t : ℕ} {x : Entry} → is_quiet s f t x ≡ true → IsParked s f t x f.control.asked → MayMove s f t x
moves {s = s} {f = f} {t = t} {x = x} quiet parked =
    let a = and_parts (not (run_is_over s f) && not f.control.closing) _ quiet in
    let b = and_parts (not (run_is_over s f)) (not f.control.closing) a.0 in
    let c = and_parts (none_due s f && none_refused s f f.control.asked) _ a.1 in
    let d = and_parts (none_due s f) (none_refused s f f.control.asked) c.0 in
    let g = and_parts (are_free s t f.control.holders) _ c.1 in
    record {
      goes_on = opens {s = s} {f = f} (not-true (run_is_over s f) b.0) (not-true f.control.closing b.1) d.0 d.1;
      not_held_off = not_off s f t g.0;
      crosses = same_are (is_cross x) (owes_cross x (listed_places t f.entries)) g.1;
      parked = parked;
    }

-- What holds of each element of a list that is written out

abbrev pub AllOf : {A : Type 0} → (A → Type 0) → List A → Type 0
AllOf P [] = Unit {0}
AllOf P (x ∷ xs) = P x × AllOf P xs

pub each : {A : Type 0} (P : A → Type 0) (xs : List A) → AllOf P xs → (x : A) → Contains xs x → P x
each {A = A} P xs h x c = by_index xs h c.0 c.1 c.2
  where
    by_index : (ys : List A) → AllOf P ys → (n : ℕ) → n < length ys → slice_index_or ys n x ≡ x → P x
    by_index [] h n b e = let no : ⊥ = omega arith in absurd no
    by_index (y ∷ ys) h zero b e = subst P e h.0
    by_index (y ∷ ys) h (suc n) b e = by_index ys h.1 n (omega arith) e
