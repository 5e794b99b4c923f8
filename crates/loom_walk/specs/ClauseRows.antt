-- The clauses that a thread holds, a row for each filter of its version.
use Rattle.std.specs.Prelude.{ℕ, suc, ◌≡◌, ◌==◌, List, [], ◌∷◌, map, if◌then◌else◌}
use Rattle.std.specs.List.{filter}
use Rattle.loom_law.specs.Filter.{has}
use Rattle.loom_law.specs.Walk.{holds}
use Rattle.loom_plan.specs.declared.sets.ClauseSet.{ClauseSet}
use Rattle.loom_plan.specs.Sets.{clause_numbers}
use Rattle.loom_walk.specs.declared.clause_rows.ClauseRow.{ClauseRow}

abbrev pub filters_of : List ClauseRow → List ℕ
filters_of rs = map (λ (r : ClauseRow). r.filter) rs

-- the numbers of the clauses of filter k in the first row that it has
abbrev pub clauses_at : List ClauseRow → ℕ → List ℕ
clauses_at [] k = []
clauses_at (r ∷ rs) k = if r.filter == k then clause_numbers r.clauses else clauses_at rs k

-- a thread that holds these clauses holds those of the rows, and no others
abbrev pub AreHoldings : List ClauseRow → List (ℕ × ℕ) → Type 0
AreHoldings rs hs = (k c : ℕ) → holds hs k c ≡ has (clauses_at rs k) c

-- of these holdings those by these filters
abbrev pub holdings_of : List ℕ → List (ℕ × ℕ) → List (ℕ × ℕ)
holdings_of ks hs = filter (λ (h : ℕ × ℕ). has ks h.0) hs

-- the position of the first row that filter k has, or how many rows there are
abbrev pub row_index : List ClauseRow → ℕ → ℕ
row_index [] k = 0
row_index (r ∷ rs) k = if r.filter == k then 0 else suc (row_index rs k)

-- the rows with these clauses in the first row that filter k has
abbrev pub with_clauses : List ClauseRow → ℕ → ClauseSet → List ClauseRow
with_clauses [] k cs = []
with_clauses (r ∷ rs) k cs = if r.filter == k then record { filter = k; clauses = cs } ∷ rs else r ∷ with_clauses rs k cs

-- a row as numbers, and the row that filter k has in a version to which a thread goes over

abbrev pub numbers_in : ClauseRow → ℕ × List ℕ
numbers_in r = (r.filter, clause_numbers r.clauses)

abbrev pub numbers_for : List ClauseRow → ℕ → ℕ × List ℕ
numbers_for old k = (k, clauses_at old k)

-- These are rows for those filters, with the clauses that they have in the old rows.
abbrev pub AreRowsFor : List ClauseRow → List ℕ → List ClauseRow → Type 0
AreRowsFor old ks new = map numbers_in new ≡ map (numbers_for old) ks
