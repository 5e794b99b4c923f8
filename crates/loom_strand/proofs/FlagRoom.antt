-- A set of flagged places has room for each place of a program.
use Rattle.std.proofs.Common.{ℕ, ◌≡◌, ◌<◌, length, Option, Some, None, slice_get, refl, sym, subst, arith}
use Rattle.std.proofs.lemmas.Option.{slice_get_within}
use Rattle.loom_lang.specs.Places.{Place, places, place_at}
use Rattle.loom_lang.specs.Places as site
use Rattle.loom_lang.specs.Trace.{made, begins, done, edge, enter, out}
use Rattle.loom_flow.specs.declared.code.Entrance.{Entrance}
use Rattle.loom_flow.specs.Flow.{Flow}
use Rattle.loom_flow.specs.Position.{Position}
use Rattle.loom_flow.specs.Progress.{Progress, goes, asks, traps, ends, nothing, progress}
use Rattle.loom_flow.specs.Code.{IsLowered}
use Rattle.loom_flow.proofs.FlowLaws.{few_sites, as_many_sites}
use Rattle.loom_trace.specs.Limits.{place_limit}
use Rattle.loom_strand.specs.Machine.{Machine, position}
use Rattle.loom_strand.specs.StepResult.{place_here, place_coming}
use Rattle.loom_strand.specs.StrandInvariant.{IsSoundPosition, IsInOwn}
use Rattle.loom_strand.specs.PrivateRun.{IsRunning}
use Rattle.loom_strand.proofs.Entrances.{entrance_place}
use Rattle.loom_strand.proofs.Marks.{mark_place}

pub flag_room : (c : Flow) (k : ℕ) → IsLowered c → k < length c.sites → k < place_limit
flag_room c k l h = let few = few_sites c l in omega (arith, few, h)

same_number : (k n : ℕ) → ◌≡◌ {A = Option ℕ} (Some k) (Some n) → k ≡ n
same_number k n h = cc

no_number : {A : Type 0} (k : ℕ) → ◌≡◌ {A = Option ℕ} None (Some k) → A
no_number k h = cc

-- What is passed next is a place of the program.
comes_at : (c : Flow) (z : Position) (k : ℕ) (w : Progress) → IsLowered c → IsSoundPosition c z → IsInOwn c z → progress c z ≡ w → place_coming c (place_here c z) w ≡ Some k
    → (x : Place) × (place_at c.program k ≡ Some x)
comes_at c z k (goes None y) l h own p is = no_number k is
comes_at c z k (goes (Some (made n a)) y) l h own p is = no_number k is
comes_at c z k (goes (Some (begins n env)) y) l h own p is = no_number k is
comes_at c z k (goes (Some (done n)) y) l h own p is = no_number k is
comes_at c z k (goes (Some (edge n)) y) l h own p is =
    (site.back_edge n, subst (λ j. place_at c.program j ≡ Some (site.back_edge n)) (same_number (place_here c z) k is) (mark_place c z y (Some (edge n)) l h own p).0)
comes_at c z k (goes (Some (enter f env)) y) l h own p is =
    (site.entry f, subst (λ j. place_at c.program j ≡ Some (site.entry f)) (same_number _ k is) (mark_place c z y (Some (enter f env)) l h own p).0)
comes_at c z k (goes (Some (out f)) y) l h own p is = no_number k is
comes_at c z k (asks line q behind) l h own p is = no_number k is
comes_at c z k (traps line q) l h own p is = no_number k is
comes_at c z k ends l h own p is = no_number k is
comes_at c z k nothing l h own p is = no_number k is

pub coming_room : (c : Flow) (m : Machine) (k : ℕ) → IsLowered c → IsRunning c m → place_coming c (place_here c (position m)) (progress c (position m)) ≡ Some k → k < place_limit
coming_room c m k l h is =
    let at : (x : Place) × (place_at c.program k ≡ Some x) = comes_at c (position m) k (progress c (position m)) l h.sound h.own refl is in
    flag_room c k l (subst (λ n. k < n) (sym (as_many_sites c l)) (slice_get_within (places c.program) k at.0 at.1))

pub entry_room : (c : Flow) (f : ℕ) (en : Entrance) → IsLowered c → slice_get c.entrances f ≡ Some en → en.place < place_limit
entry_room c f en l there = flag_room c en.place l (entrance_place c f en l there)
