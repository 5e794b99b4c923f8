-- A clause of an installed filter has its lock.
use Rattle.std.proofs.Common.{ℕ, zero, suc, ◌+◌, ◌<◌, ◌≡◌, ◌==◌, Bool, true, ◌&&◌, List, [], ◌∷◌, map, slice_get, refl, sym, ap, ◌∙◌, subst, arith, ne_eqb}
use Rattle.std.specs.List.{list_any}
use Rattle.loom_law.specs.Filter.{Ruling, Plan, numbered_from, is_some, is_unilateral, has}
use Rattle.loom_law.specs.Walk.{Version, Plans}
use Rattle.loom_law.specs.Control.{Control}
use Rattle.loom_law.specs.Lawful.{is_installed}
use Rattle.loom_law.proofs.Holdings.{or_cases, or_left, or_right, either_of, same_number}
use Rattle.loom_law.proofs.LastLeaves.{or_rest, and_true}
use Rattle.loom_ops.specs.Ops.{FilterLocks, Ops, flag_of, has_lock, locks_in}
use Rattle.loom_ops.specs.Laws.{IsOpsOf}
use Rattle.loom_world.proofs.EnterFree.{has_clause}

-- clauses are counted from 1
none_zero : (n : ℕ) (rs : List Ruling) → 0 < n → list_any (λ (x : ℕ × Ruling). x.0 == 0) (numbered_from n rs) ≡ true → ⊥
none_zero n [] low h = cc
none_zero n (r ∷ rs) low h =
    none_zero (suc n) rs (omega arith) (or_rest (n == 0) (list_any (λ (x : ℕ × Ruling). x.0 == 0) (numbered_from (suc n) rs)) (ne_eqb n 0 (λ e. omega arith)) h)

flag_there : (rs : List Ruling) (n i m : ℕ) → m ≡ n + i → list_any (λ (x : ℕ × Ruling). x.0 == m) (numbered_from n rs) ≡ true
    → is_some (slice_get (map is_unilateral rs) i) ≡ true
flag_there [] n i m e h = cc
flag_there (r ∷ rs) n zero m e h = refl
flag_there (r ∷ rs) n (suc i) m e h =
    flag_there rs (suc n) i m (omega arith)
    (or_rest (n == m) (list_any (λ (x : ℕ × Ruling). x.0 == m) (numbered_from (suc n) rs)) (ne_eqb n m (λ q. omega arith)) h)

abbrev has_flag : Plans → ℕ → ℕ → Bool
has_flag plans k c = is_some (flag_of (map is_unilateral (Plan.rulings (plans k))) c)

clause_flag : (plans : Plans) (k c : ℕ) → has_clause plans k c ≡ true → has_flag plans k c ≡ true
clause_flag plans k zero h = absurd (none_zero 1 (Plan.rulings (plans k)) (omega arith) h)
clause_flag plans k (suc i) h = flag_there (Plan.rulings (plans k)) 1 i (suc i) (omega arith) h

abbrev all_locks : Plans → List ℕ → List FilterLocks
all_locks plans ks = map (λ (k : ℕ). locks_in k (plans k)) ks

lock_there : (plans : Plans) (ks : List ℕ) (k c : ℕ) → has ks k ≡ true → has_clause plans k c ≡ true → has_lock (all_locks plans ks) k c ≡ true
lock_there plans [] k c h g = cc
lock_there plans (j ∷ ks) k c h g =
    either_of (or_cases (j == k) (has ks k) h)
    (λ m. or_left ((j == k) && has_flag plans j c) (has_lock (all_locks plans ks) k c)
    (and_true (j == k) (has_flag plans j c) m (subst (λ (z : ℕ). has_flag plans z c ≡ true) (sym (same_number j k m)) (clause_flag plans k c g))))
    (λ m. or_right ((j == k) && has_flag plans j c) (has_lock (all_locks plans ks) k c) (lock_there plans ks k c m g))

-- So it is with the locks of a journal's filters.
pub lock_told : (plans : Plans) (c : Control) (o : Ops) (k n : ℕ) → IsOpsOf plans c o → is_installed c k ≡ true → has_clause plans k n ≡ true → has_lock o.filters k n ≡ true
lock_told plans c o k n is i g = ap (λ (z : List FilterLocks). has_lock z k n) is.filters ∙ lock_there plans (Version.active c.version) k n i g
