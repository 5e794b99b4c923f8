use Rattle.std.proofs.Common.{ℕ, suc, ◌≡◌, ◌||◌, ◌&&◌, nat_lt}
use Rattle.loom_trace.specs.Places.{has_place}
use Rattle.loom_sites.specs.Rows.{meets_at}
use Rattle.loom_sites.specs.Areas.{turns_there}
use Rattle.loom_sites.proofs.area.put_turns.Given as goal

abbrev pub invariant-places : goal.invariant-places
invariant-places l = (j : ℕ) → has_place l.places j ≡ (has_place l.fn.places j || (nat_lt (suc j) l.k && meets_at (turns_there l.reached) l.links (suc j)))
