-- What a filter makes a thread do, as sets.
use Rattle.std.specs.Prelude.{ℕ, suc, ◌≡◌, ◌==◌, Bool, false, not, ◌&&◌, ◌||◌, List, [], ◌∷◌, if◌then◌else◌}
use Rattle.loom_law.specs.Filter.{Range, Ruling, Plan, has, share, entry_events, exit_events}
use Rattle.loom_law.specs.Walk.{Operation, wait, enters, at, past, post, leave, Inside, Queue, holds, begins_in, is_inside_clause}
use Rattle.loom_plan.specs.declared.sets.ClauseSet.{ClauseSet}
use Rattle.loom_plan.specs.declared.sets.RegionSet.{RegionSet}
use Rattle.loom_plan.specs.declared.operations.Before.{Before}
use Rattle.loom_plan.specs.declared.operations.Behind.{Behind}
use Rattle.loom_plan.specs.Sets.{event_numbers, clause_numbers, region_numbers}
use Rattle.loom_plan.specs.PlanParts.{plan_regions}

-- An operation for each number, and `more` behind them; one for all of them, if there are any.

abbrev pub with_each : ℕ → (ℕ → Operation) → List ℕ → Queue → Queue
with_each l o [] more = more
with_each l o (n ∷ ns) more = (l, o n) ∷ with_each l o ns more

abbrev pub with_all : ℕ → (List ℕ → Operation) → List ℕ → Queue → Queue
with_all l o [] more = more
with_all l o (n ∷ ns) more = (l, o (n ∷ ns)) ∷ more

-- the operations of filter k on a line, and `more` behind them

abbrev pub queue_before : ℕ → ℕ → Before → Queue → Queue
queue_before k l b more =
    with_each l (wait k) (event_numbers b.waits) (with_each l (enters k) (clause_numbers b.enters) (with_all l (at k) (event_numbers b.at) more))

abbrev pub queue_behind : ℕ → ℕ → Behind → Queue → Queue
queue_behind k l b more =
    with_all l (past k) (event_numbers b.past) (with_each l (post k) (event_numbers b.posts) (with_each l (leave k) (clause_numbers b.leaves) more))

abbrev pub queue_leaves : ℕ → ℕ → ClauseSet → Queue → Queue
queue_leaves k l cs more = with_each l (leave k) (clause_numbers cs) more

-- of filter k the thread holds these clauses, and no other ones
abbrev pub HoldsThese : List (ℕ × ℕ) → ℕ → ClauseSet → Type 0
HoldsThese hs k cs = (c : ℕ) → holds hs k c ≡ has (clause_numbers cs) c

-- of filter k these are the clauses one of whose regions is among them
abbrev pub IsInsideThese : List Inside → ℕ → ClauseSet → Type 0
IsInsideThese is k cs = (c : ℕ) → is_inside_clause is k c ≡ has (clause_numbers cs) c

-- the regions that have one of these numbers, the first having number n, as filter k puts a thread inside them
abbrev pub insides_from : ℕ → ℕ → List ℕ → List (ℕ × Range) → List Inside
insides_from k n rs [] = []
insides_from k n rs (x ∷ xs) =
    if has rs n then record { filter = k; clause = x.0; range = x.1 } ∷ insides_from k (suc n) rs xs else insides_from k (suc n) rs xs

abbrev pub insides : Plan → ℕ → RegionSet → List Inside
insides f k rs = insides_from k 1 (region_numbers rs) (plan_regions f)

-- the test of a clause that is to be entered with these events, where those clauses are held; and of one that is to be left
abbrev pub is_to_enter : List ℕ → (ℕ → Bool) → ℕ → Ruling → Bool
is_to_enter ns holding c r = begins_in r ns && not (holding c)

abbrev pub is_to_leave : (ℕ → Bool) → (ℕ → Bool) → ℕ → Ruling → Bool
is_to_leave holding inside c r = holding c && not (inside c)

-- the test of a region that is entered with these events; and of one that isn't left with them
abbrev pub is_entered : List ℕ → ℕ → (ℕ × Range) → Bool
is_entered ns n x = share (entry_events x.1) ns

abbrev pub is_staying : (ℕ → Bool) → List ℕ → ℕ → (ℕ × Range) → Bool
is_staying among ns n x = among n && not (share (exit_events x.1) ns)

-- a region of the clause is among those with these numbers
abbrev pub is_region_among : (ℕ → Bool) → ℕ → ℕ → List (ℕ × Range) → Bool
is_region_among among c n [] = false
is_region_among among c n (x ∷ xs) = (among n && (x.0 == c)) || is_region_among among c (suc n) xs
