-- What the control entries of a journal leave, and how many entries it has, whatever its commands are.
use Rattle.std.proofs.Common.{ℕ, zero, suc, ◌+◌, ◌*◌, ◌<◌, ◌≤◌, ◌≡◌, ◌⊎◌, inl, inr, ◌==◌, Bool, true, false, ◌||◌, List, [], ◌∷◌, ◌++◌, length, length-append, Option, Some, None, refl, sym, ap, ◌∙◌, subst, arith}
use Rattle.std.proofs.lemmas.Option.{slice_get_within}
use Rattle.loom_trace.specs.declared.entry.Entry.{Entry}
use Rattle.loom_trace.specs.declared.entry.Entry.TheVariants as e
use Rattle.loom_trace.specs.declared.entry.Ending.{Ending}
use Rattle.loom_event.specs.Entries.{thread_of, is_some_thread, thread_entries, is_stopped}
use Rattle.loom_law.specs.Control.{Command, command_at, Control, control, first_control, after_entry}
use Rattle.loom_law.specs.Lawful.{Setting, Front, front_at, MayMove, Permits, MayControl, MayFollowBy, IsLawful}
use Rattle.loom_law.specs.Laws.{IsUnfinished}
use Rattle.loom_law.proofs.OnePart.{append_none}
use Rattle.loom_law.proofs.Obedience.{control_after_last, append_one}
use Rattle.loom_world.specs.Laws.{HasFewEntries}
use Rattle.loom_world.proofs.Counts.{count_last, count_same, not_equal}

-- how many answers are owed
abbrev pub owed_answers : Option ℕ → ℕ
owed_answers None = 0
owed_answers (Some k) = 1

-- The next command has a number, and the one that is asked stands before it; none is asked once the end is chosen.
pub record IsNumbered (cs : List Command) (c : Control) : Type 0 where
  pub first : 1 ≤ c.next
  pub last : c.next ≤ suc (length cs)
  pub before : (k : ℕ) → c.asked ≡ Some k → (1 ≤ k) × (suc k ≡ c.next)
  pub not_closing : (k : ℕ) → c.asked ≡ Some k → c.closing ≡ false

-- So many entries stand, and so many of threads: two control entries at most for each command before the next, and one fewer where an answer is owed.
pub record IsCounted (s : Setting) (c : Control) (all made : ℕ) : Type 0 where
  pub numbers : IsNumbered s.commands c
  pub few : made ≤ s.limit
  pub count : all + 2 + owed_answers c.asked ≤ made + 2 * c.next

-- it says the same of commands
abbrev pub HasSameCommand : Control → Control → Type 0
HasSameCommand c d = (d.next ≡ c.next) × ((d.asked ≡ c.asked) × (d.closing ≡ c.closing))

-- behind an entry of a thread
pub thread_keeps : (cs : List Command) (c : Control) (x : Entry) (t : ℕ) → thread_of x ≡ Some t → HasSameCommand c (after_entry cs c x)
thread_keeps cs c (e.Enter u l k n) t of = (refl, (refl, refl))
thread_keeps cs c (e.Leave u l k n) t of = (refl, (refl, refl))
thread_keeps cs c (e.Asked k) t of = cc
thread_keeps cs c (e.Refused k n m) t of = cc
thread_keeps cs c (e.Installed k v ps) t of = cc
thread_keeps cs c (e.Removed k v ps) t of = cc
thread_keeps cs c (e.Stalled k u l) t of = cc
thread_keeps cs c (e.Cut k) t of = cc
thread_keeps cs c (e.Unreached k) t of = cc
thread_keeps cs c _ t of = (refl, (refl, refl))

-- a command has a number up to theirs
pub number_within : (cs : List Command) (n : ℕ) (c : Command) → command_at cs n ≡ Some c → n ≤ length cs
number_within cs zero c h = omega arith
number_within cs (suc i) c h = let there : i < length cs = slice_get_within cs i c h in omega (arith, there)

-- With one more entry

recounted : (s : Setting) (c d : Control) (a b m n : ℕ) → IsCounted s c a m → d ≡ c → b ≡ a → n ≡ m → IsCounted s d b n
recounted s c d a b m n h dc ba nm = subst (λ z. IsCounted s z b n) (sym dc) (subst (λ z. IsCounted s c z n) (sym ba) (subst (λ z. IsCounted s c a z) (sym nm) h))

-- of a thread
moved : (s : Setting) (c d : Control) (all made : ℕ) → IsCounted s c all made → HasSameCommand c d → (made ≡ s.limit → ⊥) → IsCounted s d (suc all) (suc made)
moved s c d all made h same ne =
    let owed : owed_answers d.asked ≡ owed_answers c.asked = ap owed_answers same.1.0 in
    record {
      numbers = record {
        first = omega (arith, h.numbers.first, same.0);
        last = omega (arith, h.numbers.last, same.0);
        before = λ k g. (let was = h.numbers.before k (sym same.1.0 ∙ g) in (was.0, was.1 ∙ sym same.0));
        not_closing = λ k g. same.1.1 ∙ h.numbers.not_closing k (sym same.1.0 ∙ g);
      };
      few = omega (arith, ne, h.few);
      count = omega (arith, owed, same.0, h.count);
    }

-- of the command that is asked
asked_one : (s : Setting) (c : Control) (k all made : ℕ) → IsCounted s c all made → c.asked ≡ None → c.closing ≡ false → k ≡ c.next → c.next ≤ length s.commands
    → IsCounted s (record c { asked = Some k; next = suc k }) (suc all) made
asked_one s c k all made h none not_closing next most =
    let owed : owed_answers c.asked ≡ 0 = ap owed_answers none in
    record {
      numbers = record {
        first = omega arith;
        last = omega (arith, next, most);
        before = λ j g. (let same : k ≡ j = cc in (omega (arith, same, next, h.numbers.first), omega (arith, same)));
        not_closing = λ j g. not_closing;
      };
      few = h.few;
      count = omega (arith, owed, next, h.count);
    }

-- of its answer
answered_one : (s : Setting) (c d : Control) (k all made : ℕ) → IsCounted s c all made → c.asked ≡ Some k → d.next ≡ c.next → d.asked ≡ None → IsCounted s d (suc all) made
answered_one s c d k all made h is next none =
    let owed : owed_answers c.asked ≡ 1 = ap owed_answers is in
    let paid : owed_answers d.asked ≡ 0 = ap owed_answers none in
    record {
      numbers = record {
        first = omega (arith, h.numbers.first, next);
        last = omega (arith, h.numbers.last, next);
        before = λ j g. (let no : None ≡ Some j = sym none ∙ g in cc);
        not_closing = λ j g. (let no : None ≡ Some j = sym none ∙ g in cc);
      };
      few = h.few;
      count = omega (arith, owed, paid, next, h.count);
    }

-- of one that isn't reached
left_one : (s : Setting) (c d : Control) (k all made : ℕ) → IsCounted s c all made → c.asked ≡ None → k ≡ c.next → k ≤ length s.commands → d.next ≡ suc k → d.asked ≡ c.asked
    → IsCounted s d (suc all) made
left_one s c d k all made h none next most on same =
    let owed : owed_answers c.asked ≡ 0 = ap owed_answers none in
    let still : owed_answers d.asked ≡ 0 = ap owed_answers (same ∙ none) in
    record {
      numbers = record {
        first = omega (arith, on);
        last = omega (arith, on, most);
        before = λ j g. (let no : None ≡ Some j = sym (same ∙ none) ∙ g in cc);
        not_closing = λ j g. (let no : None ≡ Some j = sym (same ∙ none) ∙ g in cc);
      };
      few = h.few;
      count = omega (arith, owed, still, on, next, h.count);
    }

abbrev IsLast : Entry → List Entry → Type 0
IsLast x rest = (kind : Ending) × ((x ≡ e.Finish kind) × (rest ≡ []))

controlled : (s : Setting) (f : Front) (x : Entry) (rest : List Entry) (all made : ℕ) → IsCounted s f.control all made → MayControl s f x rest
    → IsLast x rest ⊎ IsCounted s (after_entry s.commands f.control x) (suc all) made
controlled s f (e.Finish kind) rest all made h may = inl (kind, (refl, may.0))
controlled s f (e.Asked k) rest all made h may =
    inr (asked_one s f.control k all made h may.0.answered may.0.not_closing may.1 (number_within s.commands f.control.next may.0.command may.0.is))
controlled s f (e.Refused k n m) rest all made h may = inr (answered_one s f.control _ k all made h may.0 refl refl)
controlled s f (e.Installed k v ps) rest all made h may = inr (answered_one s f.control _ k all made h may.1.asked refl refl)
controlled s f (e.Removed k v ps) rest all made h may = inr (answered_one s f.control _ k all made h may.1.asked refl refl)
controlled s f (e.Stalled k t l) rest all made h may = inr (answered_one s f.control _ k all made h may.1.asked refl refl)
controlled s f (e.Cut k) rest all made h may = inr (answered_one s f.control _ k all made h may.1 refl refl)
controlled s f (e.Unreached k) rest all made h may = inr (left_one s f.control _ k all made h may.0 may.1.0 may.1.1.0 refl refl)
controlled s f _ rest all made h may = absurd may

-- A whole journal

abbrev IsCountedSo : Setting → List Entry → Type 0
IsCountedSo s es = IsCounted s (control s.commands es) (length es) (thread_entries es)

-- It is finished, and what stands before `Finish` is counted.
record IsFinishedSo (s : Setting) (es : List Entry) : Type 0 where
  front : List Entry
  kind : Ending
  is : es ≡ front ++ e.Finish kind ∷ []
  counted : IsCountedSo s front

or_right : (a c : Bool) → (a || c) ≡ false → c ≡ false
or_right true c h = cc
or_right false c h = h

one_more : (s : Setting) (es : List Entry) (h : IsLawful s es) (front : List Entry) (x : Entry) (rest : List Entry) → es ≡ front ++ x ∷ rest → IsCountedSo s front
    → (IsCountedSo s (front ++ x ∷ []) → IsFinishedSo s es ⊎ IsCountedSo s es) → (o : Option ℕ) → thread_of x ≡ o → IsFinishedSo s es ⊎ IsCountedSo s es
one_more s es h front x rest is c go (Some t) of =
    let may : MayMove s (front_at s h.events front) t x × Permits s (front_at s h.events front) x =
    subst (λ o. MayFollowBy s (front_at s h.events front) x rest o) of (h.follows front x rest is) in
    let less : (thread_entries front == s.limit) ≡ false = or_right (is_stopped s.stop front) (thread_entries front == s.limit) may.0.goes_on.runs in
    let next : Control = after_entry s.commands (control s.commands front) x in
    let longer : length (front ++ x ∷ []) ≡ length front + 1 = length-append front (x ∷ []) in
    let more = moved s (control s.commands front) next (length front) (thread_entries front) c (thread_keeps s.commands (control s.commands front) x t of) (not_equal (thread_entries front) s.limit less) in
    go
    (recounted s next (control s.commands (front ++ x ∷ [])) (suc (length front)) (length (front ++ x ∷ [])) (suc (thread_entries front)) (thread_entries (front ++ x ∷ [])) more
    (control_after_last s.commands first_control front x) (omega (arith, longer)) (count_last front x (ap is_some_thread of)))
one_more s es h front x rest is c go None of =
    let may : MayControl s (front_at s h.events front) x rest = subst (λ o. MayFollowBy s (front_at s h.events front) x rest o) of (h.follows front x rest is) in
    by_step (controlled s (front_at s h.events front) x rest (length front) (thread_entries front) c may)
  where
    longer : length (front ++ x ∷ []) ≡ length front + 1
    longer = length-append front (x ∷ [])

    by_step : IsLast x rest ⊎ IsCounted s (after_entry s.commands (control s.commands front) x) (suc (length front)) (thread_entries front) → IsFinishedSo s es ⊎ IsCountedSo s es
    by_step (inl last) = inl (record { front = front; kind = last.0; is = is ∙ (ap (λ y. front ++ y ∷ rest) last.1.0 ∙ ap (λ ys. front ++ e.Finish last.0 ∷ ys) last.1.1); counted = c })
    by_step (inr more) =
        go
        (recounted s (after_entry s.commands (control s.commands front) x) (control s.commands (front ++ x ∷ [])) (suc (length front)) (length (front ++ x ∷ [])) (thread_entries front) (thread_entries (front ++ x ∷ [])) more
        (control_after_last s.commands first_control front x) (omega (arith, longer)) (count_same front x (ap is_some_thread of)))

counted_from : (s : Setting) (es : List Entry) → IsLawful s es → (front todo : List Entry) → es ≡ front ++ todo → IsCountedSo s front → IsFinishedSo s es ⊎ IsCountedSo s es
counted_from s es h front [] is c = inr (subst (IsCountedSo s) (sym (is ∙ append_none front)) c)
counted_from s es h front (x ∷ rest) is c =
    one_more s es h front x rest is c (λ more. counted_from s es h (front ++ x ∷ []) rest (is ∙ sym (append_one front x rest)) more) (thread_of x) refl

none_counted : (s : Setting) → IsCountedSo s []
none_counted s = record {
  numbers = record { first = omega arith; last = omega arith; before = λ k g. cc; not_closing = λ k g. cc };
  few = omega arith;
  count = omega arith;
}

counted_or_finished : (s : Setting) (es : List Entry) → IsLawful s es → IsFinishedSo s es ⊎ IsCountedSo s es
counted_or_finished s es h = counted_from s es h [] es refl (none_counted s)

pub counted : (s : Setting) (es : List Entry) → IsLawful s es → IsUnfinished es → IsCounted s (control s.commands es) (length es) (thread_entries es)
counted s es h unfinished = by_end (counted_or_finished s es h)
  where
    by_end : IsFinishedSo s es ⊎ IsCountedSo s es → IsCountedSo s es
    by_end (inl f) = absurd (unfinished f.kind (record { front = f.front; is = f.is }))
    by_end (inr c) = c

pub numbered : (s : Setting) (es : List Entry) → IsLawful s es → IsNumbered s.commands (control s.commands es)
numbered s es h = by_end (counted_or_finished s es h)
  where
    by_end : IsFinishedSo s es ⊎ IsCountedSo s es → IsNumbered s.commands (control s.commands es)
    by_end (inl f) =
        let same : control s.commands es ≡ control s.commands f.front = ap (control s.commands) f.is ∙ control_after_last s.commands first_control f.front (e.Finish f.kind) in
        subst (IsNumbered s.commands) (sym same) f.counted.numbers
    by_end (inr c) = c.numbers

pub few_entries : HasFewEntries
few_entries s es h = by_end (counted_or_finished s es h)
  where
    by_end : IsFinishedSo s es ⊎ IsCountedSo s es → length es ≤ suc (s.limit + 2 * length s.commands)
    by_end (inl f) =
        let longer : length es ≡ length f.front + 1 = ap (λ (zs : List Entry). length zs) f.is ∙ length-append f.front (e.Finish f.kind ∷ []) in
        omega (arith, longer, f.counted.count, f.counted.few, f.counted.numbers.last)
    by_end (inr c) = omega (arith, c.count, c.few, c.numbers.last)
