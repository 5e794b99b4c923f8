-- The life of a thread, by its entries and its requests.
use Rattle.std.specs.Prelude.{ℕ, ◌≡◌, Bool, true, false, List, [], ◌∷◌, ◌++◌}
use Rattle.loom_trace.specs.declared.entry.Entry.{Entry}
use Rattle.loom_trace.specs.declared.entry.Entry.TheVariants as e
use Rattle.loom_trace.specs.declared.entry.What.TheVariants as w
use Rattle.loom_trace.specs.declared.request.Request.{Request}
use Rattle.loom_trace.specs.declared.request.Request.TheVariants as r
use Rattle.loom_event.specs.Answer.{IsBlockedAt}
use Rattle.loom_law.specs.TurnLaws.{is_blocked_entry}

abbrev pub has_none : List Entry → Bool
has_none [] = true
has_none (x ∷ xs) = false

abbrev pub is_end : Entry → Bool
is_end (e.End t l) = true
is_end _ = false

-- the last entry is `End`
abbrev pub has_ended : List Entry → Bool
has_ended [] = false
has_ended (x ∷ []) = is_end x
has_ended (x ∷ y ∷ xs) = has_ended (y ∷ xs)

-- Where the last of these entries is `Blocked`, it is so for this request of thread `t`.
abbrev pub IsLastBlockedAt : ℕ → Request → List Entry → Type 0
IsLastBlockedAt t q es = (front : List Entry) (x : Entry) → es ≡ front ++ x ∷ [] → is_blocked_entry x ≡ true → IsBlockedAt t q x

-- The last entry, or the last before some `Cross`, tells that the thread waits for the end of another one: no trap can stand in the request's place
-- then.

abbrev pub awaits_behind : Bool → Entry → Bool
awaits_behind b (e.Cross t l y v n) = b
awaits_behind b (e.Blocked t l (w.Join c)) = true
awaits_behind b _ = false

abbrev pub awaits_from : Bool → List Entry → Bool
awaits_from b [] = b
awaits_from b (x ∷ xs) = awaits_from (awaits_behind b x) xs

abbrev pub awaits_end : List Entry → Bool
awaits_end es = awaits_from false es

-- It asks for a newer version.
abbrev pub asks_cross : Request → Bool
asks_cross (r.Cross l y v n) = true
asks_cross _ = false
