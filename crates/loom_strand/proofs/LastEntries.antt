-- The last entry of a thread, and the last version that it took.
use Rattle.std.proofs.Common.{ℕ, suc, ◌+◌, ◌≡◌, ◌≤◌, ◌<◌, Bool, true, false, List, [], ◌∷◌, ◌++◌, length, length-append, refl, arith}
use Rattle.loom_trace.specs.declared.entry.Entry.{Entry}
use Rattle.loom_trace.specs.declared.entry.Entry.TheVariants as e
use Rattle.loom_law.specs.Walk.{Version}
use Rattle.loom_law.specs.TurnLaws.{is_blocked_entry, blocked_behind, ends_blocked}
use Rattle.loom_version.specs.Version.{version_limit}
use Rattle.loom_walk.specs.FilterWalk.{HasNewBehind}
use Rattle.loom_strand.specs.Life.{has_none, is_end, has_ended, awaits_behind, awaits_from, awaits_end}
use Rattle.loom_strand.specs.InPart.{last_active}
use Rattle.loom_strand.specs.Strand.{IsLaterThanLast, IsOutrun}
use Rattle.loom_strand.specs.StrandInvariant.{HaveNumbersFrom, HaveNumbers}

-- Entries

end_unblocked : (x : Entry) → is_end x ≡ true → is_blocked_entry x ≡ true → ⊥
end_unblocked (e.End t l) ended told = let no : false ≡ true = told in cc
end_unblocked (e.Blocked t l what) ended told = let no : false ≡ true = ended in cc
end_unblocked _ ended told = let no : false ≡ true = ended in cc

blocked_with : (b : Bool) (es : List Entry) (x : Entry) → blocked_behind b (es ++ x ∷ []) ≡ is_blocked_entry x
blocked_with b [] x = refl
blocked_with b (y ∷ es) x = blocked_with (is_blocked_entry y) es x

pub last_blocked : (es : List Entry) (x : Entry) → ends_blocked (es ++ x ∷ []) ≡ is_blocked_entry x
last_blocked es x = blocked_with false es x

awaits_with : (b : Bool) (es : List Entry) (x : Entry) → awaits_from b (es ++ x ∷ []) ≡ awaits_behind (awaits_from b es) x
awaits_with b [] x = refl
awaits_with b (y ∷ es) x = awaits_with (awaits_behind b y) es x

pub last_awaits : (es : List Entry) (x : Entry) → awaits_end (es ++ x ∷ []) ≡ awaits_behind (awaits_end es) x
last_awaits es x = awaits_with false es x

pub some_more : (es : List Entry) (x : Entry) → has_none (es ++ x ∷ []) ≡ false
some_more [] x = refl
some_more (y ∷ es) x = refl

pub last_ends : (es : List Entry) (x : Entry) → has_ended (es ++ x ∷ []) ≡ is_end x
last_ends [] x = refl
last_ends (y ∷ []) x = refl
last_ends (y ∷ z ∷ es) x = last_ends (z ∷ es) x

pub one_more : (es : List Entry) (x : Entry) → length (es ++ x ∷ []) ≡ suc (length es)
one_more es x = omega (arith, length-append es (x ∷ []))

-- behind its end a thread isn't blocked
ended_behind : (b : Bool) (es : List Entry) → has_ended es ≡ true → blocked_behind b es ≡ true → ⊥
ended_behind b [] ended told = let no : false ≡ true = ended in cc
ended_behind b (x ∷ []) ended told = end_unblocked x ended told
ended_behind b (x ∷ y ∷ es) ended told = ended_behind (is_blocked_entry x) (y ∷ es) ended told

pub ended_unblocked : (es : List Entry) → has_ended es ≡ true → ends_blocked es ≡ true → ⊥
ended_unblocked es ended told = ended_behind false es ended told

-- Versions

pub last_taken : (vs : List Version) (v : Version) → last_active (vs ++ v ∷ []) ≡ v.active
last_taken [] v = refl
last_taken (u ∷ []) v = refl
last_taken (u ∷ w ∷ vs) v = last_taken (w ∷ vs) v

-- a newer one is one more
numbers_from : (n : ℕ) (vs : List Version) (v : Version) → HaveNumbersFrom n vs → IsOutrun vs v → HaveNumbersFrom n (vs ++ v ∷ [])
numbers_from n [] v h less = absurd less
numbers_from n (u ∷ []) v h less =
    let few : n ≤ suc u.number = h in
    let below : u.number < v.number = less in
    let goal : suc n ≤ suc v.number = omega (arith, few, below) in goal
numbers_from n (u ∷ w ∷ vs) v h less = numbers_from (suc n) (w ∷ vs) v h less

pub numbers_more : (vs : List Version) (v : Version) → HaveNumbers vs → IsOutrun vs v → HaveNumbers (vs ++ v ∷ [])
numbers_more vs v h less = numbers_from 1 vs v h less

few_from : (n : ℕ) (vs : List Version) (v : Version) → HaveNumbersFrom n vs → IsOutrun vs v → length vs + n ≤ suc v.number
few_from n [] v h less = absurd less
few_from n (u ∷ []) v h less =
    let few : n ≤ suc u.number = h in
    let below : u.number < v.number = less in
    omega (arith, few, below)
few_from n (u ∷ w ∷ vs) v h less =
    let ih : length (w ∷ vs) + suc n ≤ suc v.number = few_from (suc n) (w ∷ vs) v h less in
    omega (arith, ih)

-- there is room for it
pub room_for_one : (vs : List Version) (v : Version) → HaveNumbers vs → IsOutrun vs v → v.number ≤ version_limit → length vs < suc version_limit
room_for_one vs v h less most = let few : length vs + 1 ≤ suc v.number = few_from 1 vs v h less in omega (arith, few, most)

-- its new filters stand behind those that stay
pub order_behind : (vs : List Version) (v : Version) → IsLaterThanLast vs v → IsOutrun vs v → HasNewBehind (last_active vs) v.active
order_behind [] v h less = absurd less
order_behind (u ∷ []) v h less = h.order
order_behind (u ∷ w ∷ vs) v h less = order_behind (w ∷ vs) v h less
