-- How many entries threads made.
use Rattle.std.proofs.Common.{ℕ, suc, ◌≡◌, ◌==◌, Bool, true, false, List, [], ◌∷◌, ◌++◌, refl, sym, ap, ◌∙◌, subst, if◌then◌else◌}
use Rattle.loom_trace.specs.declared.entry.Entry.{Entry}
use Rattle.loom_event.specs.Entries.{thread_of, is_some_thread, thread_entries}
use Rattle.loom_law.proofs.Turns.{eq_same}

-- with one more of a thread
pub count_last : (es : List Entry) (x : Entry) → is_some_thread (thread_of x) ≡ true → thread_entries (es ++ x ∷ []) ≡ suc (thread_entries es)
count_last [] x h = rw h refl
count_last (y ∷ es) x h = by_first (is_some_thread (thread_of y)) (count_last es x h)
  where
    by_first : (c : Bool) → thread_entries (es ++ x ∷ []) ≡ suc (thread_entries es)
        → (if c then suc (thread_entries (es ++ x ∷ [])) else thread_entries (es ++ x ∷ [])) ≡ suc (if c then suc (thread_entries es) else thread_entries es)
    by_first true i = ap suc i
    by_first false i = i

-- with one more of none
pub count_same : (es : List Entry) (x : Entry) → is_some_thread (thread_of x) ≡ false → thread_entries (es ++ x ∷ []) ≡ thread_entries es
count_same [] x h = rw h refl
count_same (y ∷ es) x h = by_first (is_some_thread (thread_of y)) (count_same es x h)
  where
    by_first : (c : Bool) → thread_entries (es ++ x ∷ []) ≡ thread_entries es
        → (if c then suc (thread_entries (es ++ x ∷ [])) else thread_entries (es ++ x ∷ [])) ≡ (if c then suc (thread_entries es) else thread_entries es)
    by_first true i = ap suc i
    by_first false i = i

pub not_equal : (m n : ℕ) → (m == n) ≡ false → m ≡ n → ⊥
not_equal m n h same = let no : true ≡ false = sym (eq_same n) ∙ subst (λ z. (z == n) ≡ false) same h in cc
