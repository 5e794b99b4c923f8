-- The values of semaphores.
use Rattle.std.proofs.Common.{ℕ, zero, suc, ◌≤◌, List, [], ◌∷◌, slice_index_or, arith}
use Rattle.std.specs.Prelude.{slice_set, map}
use Rattle.std.specs.List.{AllByRecursion}
use Rattle.loom_tree.specs.declared.item.Sema.{Sema}
use Rattle.loom_lang.specs.WellFormed.{IsWellFormedSema}
use Rattle.loom_syntax.specs.File.{sema_limit}
use Rattle.loom_store.specs.Parts.{AreCounts}

pub count_at : (ns : List ℕ) (k : ℕ) → AreCounts ns → slice_index_or ns k 0 ≤ sema_limit
count_at [] k h = omega arith
count_at (n ∷ ns) zero h = h.0
count_at (n ∷ ns) (suc k) h = count_at ns k h.1

pub counts_set : (ns : List ℕ) (k n : ℕ) → AreCounts ns → n ≤ sema_limit → AreCounts (slice_set ns k n)
counts_set [] k n h few = tt
counts_set (m ∷ ns) zero n h few = (few, h.1)
counts_set (m ∷ ns) (suc k) n h few = (h.0, counts_set ns k n h.1 few)

-- A program has semaphores that begin within the limit.
pub first_counts : (xs : List Sema) → AllByRecursion IsWellFormedSema xs → AreCounts (map (λ (x : Sema). x.first) xs)
first_counts [] h = tt
first_counts (x ∷ xs) h = (h.0, first_counts xs h.1)
