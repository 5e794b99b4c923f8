-- Notes where open frames change otherwise.
use Rattle.std.proofs.Common.{ℕ, suc, ◌<◌, ◌≤◌, ◌≡◌, ◌==◌, Bool, ◌&&◌, List, [], ◌∷◌, ◌++◌, length, if◌then◌else◌, refl, sym, ap, ◌∙◌, arith}
use Rattle.std.specs.List.{AllByRecursion, list_any}
use Rattle.std.proofs.lemmas.Bool.{ne_eqb}
use Rattle.loom_lang.specs.Trace.{Locals}
use Rattle.loom_law.specs.Filter.{Plan}
use Rattle.loom_law.specs.Walk.{Plans, Inside, OpenFrame, Spot, beginning, entered, complete, left, trapped, elsewhere, in_frame, open_statement, close_statement, completed, begun_at, entered_regions, note_events, frames_without}
use Rattle.loom_plan.specs.Operations.{insides}
use Rattle.loom_walk.specs.declared.event_notes.EventNote.{EventNote}
use Rattle.loom_walk.specs.declared.region_notes.RegionNote.{RegionNote}
use Rattle.loom_walk.specs.Notes.{BegunEvents, begun_in, begun_in_frame, AreEventNotes, insides_at, HaveDepths, AreRegionNotes}
use Rattle.loom_walk.proofs.NoteDepths.{depths_all, depths_most}
use Rattle.loom_walk.proofs.RegionChanges.{as_many_frames}

-- a frame that begins
abbrev pub new_frame : ℕ → OpenFrame
new_frame f = record { func = f; statements = []; inside = [] }

-- Events

pub events_first : AreEventNotes [] []
events_first = refl

pub events_open : (notes : List EventNote) (l : ℕ) (fs : List OpenFrame) → AreEventNotes notes fs → AreEventNotes notes (in_frame (open_statement l) fs)
events_open notes l [] h = h
events_open notes l (x ∷ xs) h = h

pub events_enter : (notes : List EventNote) (f : ℕ) (fs : List OpenFrame) → AreEventNotes notes fs → AreEventNotes notes (new_frame f ∷ fs)
events_enter notes f fs h = h

pub events_completed : (notes : List EventNote) (k : ℕ) (ns : List ℕ) (fs : List OpenFrame) → AreEventNotes notes fs → AreEventNotes notes (in_frame (completed k ns) fs)
events_completed notes k ns [] h = h
events_completed notes k ns (x ∷ xs) h = h

without_begun : (ks : List ℕ) (fs : List OpenFrame) → begun_in (frames_without ks fs) ≡ begun_in fs
without_begun ks [] = refl
without_begun ks (x ∷ xs) =
    ap (λ (n : ℕ). begun_in_frame (suc n) x.statements ++ begun_in (frames_without ks xs)) (as_many_frames ks xs)
    ∙ ap (λ (bs : List BegunEvents). begun_in_frame (suc (length xs)) x.statements ++ bs) (without_begun ks xs)

pub events_without : (notes : List EventNote) (ks : List ℕ) (fs : List OpenFrame) → AreEventNotes notes fs → AreEventNotes notes (frames_without ks fs)
events_without notes ks fs h = h ∙ sym (without_begun ks fs)

-- events that match where a frame begins are noted nowhere, those where a statement begins with it
pub events_entered : (notes : List EventNote) (f : Plan) (g : ℕ) (env : Locals) (k : ℕ) (ns : List ℕ) (fs : List OpenFrame) → AreEventNotes notes fs
    → AreEventNotes notes (in_frame (begun_at f (entered g env) k ns) fs)
events_entered notes f g env k ns [] h = h
events_entered notes f g env k ns (x ∷ xs) h = h

pub events_beginning : (notes : List EventNote) (f : Plan) (l : ℕ) (env : Locals) (k : ℕ) (ns : List ℕ) (fs : List OpenFrame)
    → AreEventNotes notes (in_frame (λ (x : OpenFrame). record x { statements = note_events k ns x.statements }) fs)
    → AreEventNotes notes (in_frame (begun_at f (beginning l env) k ns) fs)
events_beginning notes f l env k ns [] h = h
events_beginning notes f l env k ns (x ∷ xs) h = h

-- Regions

pub regions_open : (plans : Plans) (notes : List RegionNote) (l : ℕ) (fs : List OpenFrame) → AreRegionNotes plans notes fs → AreRegionNotes plans notes (in_frame (open_statement l) fs)
regions_open plans notes l [] h = h
regions_open plans notes l (x ∷ xs) h = h

pub regions_close : (plans : Plans) (notes : List RegionNote) (fs : List OpenFrame) → AreRegionNotes plans notes fs → AreRegionNotes plans notes (in_frame close_statement fs)
regions_close plans notes [] h = h
regions_close plans notes (x ∷ xs) h = h

pub regions_begun : (plans : Plans) (notes : List RegionNote) (f : Plan) (s : Spot) (k : ℕ) (ns : List ℕ) (fs : List OpenFrame)
    → AreRegionNotes plans notes (in_frame (λ (x : OpenFrame). record x { inside = entered_regions f k ns ++ x.inside }) fs)
    → AreRegionNotes plans notes (in_frame (begun_at f s k ns) fs)
regions_begun plans notes f s k ns [] h = h
regions_begun plans notes f (beginning l env) k ns (x ∷ xs) h = h
regions_begun plans notes f (entered g env) k ns (x ∷ xs) h = h
regions_begun plans notes f (complete l) k ns (x ∷ xs) h = h
regions_begun plans notes f (left g is) k ns (x ∷ xs) h = h
regions_begun plans notes f (trapped l) k ns (x ∷ xs) h = h
regions_begun plans notes f elsewhere k ns (x ∷ xs) h = h

none_above : (g : Plan) (notes : List RegionNote) (d e k : ℕ) → AllByRecursion (λ (n : RegionNote). (1 ≤ n.depth) × (n.depth ≤ d)) notes → d < e → insides_at g notes e k ≡ []
none_above g [] d e k all h = refl
none_above g (n ∷ ns) d e k all h =
    let high = all.0.1 in
    ap (λ (t : Bool). if t && (n.filter == k) then insides g k n.regions ++ insides_at g ns e k else insides_at g ns e k) (ne_eqb n.depth e (λ z. omega arith))
    ∙ none_above g ns d e k all.1 h

pub regions_enter : (plans : Plans) (notes : List RegionNote) (f : ℕ) (fs : List OpenFrame) → HaveDepths 1 (length fs) notes → AreRegionNotes plans notes fs
    → AreRegionNotes plans notes (new_frame f ∷ fs)
regions_enter plans notes f fs depths h =
    ((λ k test. ap (λ (is : List Inside). list_any test is) (sym (none_above (plans k) notes (length fs) (suc (length fs)) k (depths_all 1 (length fs) notes depths) (omega arith)))), h)

pub depths_enter : (notes : List RegionNote) (d : ℕ) → HaveDepths 1 d notes → HaveDepths 1 (suc d) notes
depths_enter notes d h = depths_most 1 d (suc d) notes h (omega arith)
