-- Notes of open frames, where a mark or an operation changes the frames.
use Rattle.std.proofs.Common.{ℕ, suc, ◌+◌, ◌≤◌, ◌<◌, ◌≡◌, ◌&&◌, Bool, true, false, List, [], ◌∷◌, ◌++◌, length, Some, None, refl, sym, ap, subst, ◌∙◌, arith, if◌then◌else◌}
use Rattle.std.specs.Prelude.{◌==◌}
use Rattle.std.specs.List.{list_any}
use Rattle.std.proofs.lemmas.Bool.{ne_eqb}
use Rattle.loom_law.specs.Filter.{Plan}
use Rattle.loom_law.specs.Walk.{Plans, OpenStatement, Inside, OpenFrame, Spot, elsewhere, beginning, entered, complete, left, trapped, in_frame, completed, open_statement, close_statement, without_first, note_events, noted_at, begun_at, entered_regions, without_filters, frames_without, spot_without, left_behind}
use Rattle.loom_plan.specs.Operations.{insides}
use Rattle.loom_walk.specs.declared.event_notes.EventNote.{EventNote}
use Rattle.loom_walk.specs.declared.region_notes.RegionNote.{RegionNote}
use Rattle.loom_walk.specs.declared.spot.Spot.{Spot as ShortSpot}
use Rattle.loom_walk.specs.declared.spot.Spot.TheVariants as s
use Rattle.loom_walk.specs.Notes.{IsFirstStatement, IsTopStatement, BegunEvents, begun_in_frame, begun_in, AreEventNotes, insides_at, AreRegionNotes, HaveDepths}
use Rattle.loom_walk.specs.FilterWalk.{IsSpot, IsOnTop, beginning_line}
use Rattle.loom_tree.specs.Tree.{Source}

pub in_frame_length : (f : OpenFrame → OpenFrame) (fs : List OpenFrame) → length (in_frame f fs) ≡ length fs
in_frame_length f [] = refl
in_frame_length f (x ∷ xs) = refl

-- A statement begins

pub opened_events : (notes : List EventNote) (l : ℕ) (fs : List OpenFrame) → AreEventNotes notes fs → AreEventNotes notes (in_frame (open_statement l) fs)
opened_events notes l [] h = h
opened_events notes l (x ∷ xs) h = h

pub opened_regions : (plans : Plans) (notes : List RegionNote) (l : ℕ) (fs : List OpenFrame) → AreRegionNotes plans notes fs
    → AreRegionNotes plans notes (in_frame (open_statement l) fs)
opened_regions plans notes l [] h = h
opened_regions plans notes l (x ∷ xs) h = h

pub opened_top : (l : ℕ) (fs : List OpenFrame) → 1 ≤ length fs → IsTopStatement l (in_frame (open_statement l) fs)
opened_top l [] h = absurd (omega arith)
opened_top l (x ∷ xs) h = refl

-- It is complete

pub closed_regions : (plans : Plans) (notes : List RegionNote) (fs : List OpenFrame) → AreRegionNotes plans notes fs → AreRegionNotes plans notes (in_frame close_statement fs)
closed_regions plans notes [] h = h
closed_regions plans notes (x ∷ xs) h = h

-- A frame begins

pub wider_depths : (from most more : ℕ) (notes : List RegionNote) → most ≤ more → HaveDepths from most notes → HaveDepths from more notes
wider_depths from most more [] le h = tt
wider_depths from most more (n ∷ ns) le h = ((h.0.0, omega (arith, le, h.0.1)), wider_depths n.depth most more ns le h.1)

none_at : (f : Plan) (notes : List RegionNote) (d k from most : ℕ) → most < d → HaveDepths from most notes → insides_at f notes d k ≡ []
none_at f [] d k from most lt h = refl
none_at f (n ∷ ns) d k from most lt h =
    let most_here : n.depth ≤ most = h.0.1 in
    by (n.depth == d) (n.filter == k) (ne_eqb n.depth d (λ e. omega arith)) ∙ none_at f ns d k n.depth most lt h.1
  where
    by : (a b : Bool) → a ≡ false → (if a && b then insides f k n.regions ++ insides_at f ns d k else insides_at f ns d k) ≡ insides_at f ns d k
    by true b e = cc
    by false b e = refl

pub entered_notes : (plans : Plans) (notes : List RegionNote) (g : ℕ) (fs : List OpenFrame) → HaveDepths 1 (length fs) notes → AreRegionNotes plans notes fs
    → AreRegionNotes plans notes (record { func = g; statements = []; inside = [] } ∷ fs)
entered_notes plans notes g fs depths h =
    ((λ k test. ap (list_any test) (sym (none_at (plans k) notes (suc (length fs)) k 1 (length fs) (omega arith) depths))), h)

-- It ends

pub without_first_length : (fs : List OpenFrame) (d : ℕ) → length fs ≡ d → 1 ≤ d → length (without_first fs) + 1 ≡ d
without_first_length [] d e h = absurd (omega arith)
without_first_length (x ∷ xs) d e h = omega arith

-- Events begin

-- a spot with the line of a beginning is one
pub on_top : (p : Source) (spot : ShortSpot) (at : Spot) (fs : List OpenFrame) (l : ℕ) → beginning_line spot ≡ Some l → IsSpot p spot at → IsOnTop at fs → IsTopStatement l fs
on_top p s.Elsewhere at fs l e h t = absurd cc
on_top p (s.Beginning line place) (beginning m env) fs l e h t =
    let same : line ≡ l = cc in
    subst (λ (n : ℕ). IsTopStatement n fs) (sym h.0 ∙ same) t
on_top p (s.Beginning line place) elsewhere fs l e h t = absurd h
on_top p (s.Beginning line place) (entered f env) fs l e h t = absurd h
on_top p (s.Beginning line place) (complete m) fs l e h t = absurd h
on_top p (s.Beginning line place) (left f is) fs l e h t = absurd h
on_top p (s.Beginning line place) (trapped m) fs l e h t = absurd h
on_top p (s.Entered place) at fs l e h t = absurd cc
on_top p (s.Complete line) at fs l e h t = absurd cc
on_top p (s.Left func) at fs l e h t = absurd cc
on_top p (s.Trapped line) at fs l e h t = absurd cc

-- what is noted with the innermost statement
pub noted_beginning : (p : Source) (spot : ShortSpot) (at : Spot) (fs : List OpenFrame) (l k : ℕ) (ns : List ℕ) (notes : List EventNote) → beginning_line spot ≡ Some l → IsSpot p spot at
    → AreEventNotes notes (in_frame (λ (x : OpenFrame). record x { statements = note_events k ns x.statements }) fs) → AreEventNotes notes (in_frame (noted_at at k ns) fs)
noted_beginning p s.Elsewhere at fs l k ns notes e h m = absurd cc
noted_beginning p (s.Beginning line place) (beginning n env) fs l k ns notes e h m = m
noted_beginning p (s.Beginning line place) elsewhere fs l k ns notes e h m = absurd h
noted_beginning p (s.Beginning line place) (entered f env) fs l k ns notes e h m = absurd h
noted_beginning p (s.Beginning line place) (complete n) fs l k ns notes e h m = absurd h
noted_beginning p (s.Beginning line place) (left f is) fs l k ns notes e h m = absurd h
noted_beginning p (s.Beginning line place) (trapped n) fs l k ns notes e h m = absurd h
noted_beginning p (s.Entered place) at fs l k ns notes e h m = absurd cc
noted_beginning p (s.Complete line) at fs l k ns notes e h m = absurd cc
noted_beginning p (s.Left func) at fs l k ns notes e h m = absurd cc
noted_beginning p (s.Trapped line) at fs l k ns notes e h m = absurd cc

unchanged_first : (fs : List OpenFrame) → in_frame (λ (x : OpenFrame). x) fs ≡ fs
unchanged_first [] = refl
unchanged_first (x ∷ xs) = refl

-- and nothing, where none has begun
pub noted_elsewhere : (p : Source) (spot : ShortSpot) (at : Spot) (fs : List OpenFrame) (k : ℕ) (ns : List ℕ) → beginning_line spot ≡ None → IsSpot p spot at
    → in_frame (noted_at at k ns) fs ≡ fs
noted_elsewhere p spot elsewhere fs k ns e h = unchanged_first fs
noted_elsewhere p (s.Beginning line place) (beginning l env) fs k ns e h = absurd cc
noted_elsewhere p s.Elsewhere (beginning l env) fs k ns e h = absurd h
noted_elsewhere p (s.Entered place) (beginning l env) fs k ns e h = absurd h
noted_elsewhere p (s.Complete line) (beginning l env) fs k ns e h = absurd h
noted_elsewhere p (s.Left func) (beginning l env) fs k ns e h = absurd h
noted_elsewhere p (s.Trapped line) (beginning l env) fs k ns e h = absurd h
noted_elsewhere p spot (entered f env) fs k ns e h = unchanged_first fs
noted_elsewhere p spot (complete l) fs k ns e h = unchanged_first fs
noted_elsewhere p spot (left f is) fs k ns e h = unchanged_first fs
noted_elsewhere p spot (trapped l) fs k ns e h = unchanged_first fs

-- the regions that are entered change no statement
pub begun_events : (f : Plan) (at : Spot) (k : ℕ) (ns : List ℕ) (notes : List EventNote) (fs : List OpenFrame) → AreEventNotes notes (in_frame (noted_at at k ns) fs)
    → AreEventNotes notes (in_frame (begun_at f at k ns) fs)
begun_events f at k ns notes [] h = h
begun_events f elsewhere k ns notes (x ∷ xs) h = h
begun_events f (beginning l env) k ns notes (x ∷ xs) h = h
begun_events f (entered g env) k ns notes (x ∷ xs) h = h
begun_events f (complete l) k ns notes (x ∷ xs) h = h
begun_events f (left g is) k ns notes (x ∷ xs) h = h
begun_events f (trapped l) k ns notes (x ∷ xs) h = h

-- and what is noted changes no region
pub begun_regions : (plans : Plans) (f : Plan) (at : Spot) (k : ℕ) (ns : List ℕ) (notes : List RegionNote) (fs : List OpenFrame)
    → AreRegionNotes plans notes (in_frame (λ (x : OpenFrame). record x { inside = entered_regions f k ns ++ x.inside }) fs)
    → AreRegionNotes plans notes (in_frame (begun_at f at k ns) fs)
begun_regions plans f at k ns notes [] h = h
begun_regions plans f elsewhere k ns notes (x ∷ xs) h = h
begun_regions plans f (beginning l env) k ns notes (x ∷ xs) h = h
begun_regions plans f (entered g env) k ns notes (x ∷ xs) h = h
begun_regions plans f (complete l) k ns notes (x ∷ xs) h = h
begun_regions plans f (left g is) k ns notes (x ∷ xs) h = h
begun_regions plans f (trapped l) k ns notes (x ∷ xs) h = h

noted_first : (l k : ℕ) (ns : List ℕ) (ss : List OpenStatement) → IsFirstStatement l ss → IsFirstStatement l (note_events k ns ss)
noted_first l k ns [] h = h
noted_first l k ns (x ∷ ss) h = h

pub begun_top : (f : Plan) (at : Spot) (k : ℕ) (ns : List ℕ) (fs : List OpenFrame) → IsOnTop at fs → IsOnTop at (in_frame (begun_at f at k ns) fs)
begun_top f (beginning l env) k ns [] h = h
begun_top f (beginning l env) k ns (x ∷ xs) h = noted_first l k ns x.statements h
begun_top f elsewhere k ns fs h = tt
begun_top f (entered g env) k ns fs h = tt
begun_top f (complete l) k ns fs h = tt
begun_top f (left g is) k ns fs h = tt
begun_top f (trapped l) k ns fs h = tt

-- Events are complete

pub completed_events : (k : ℕ) (ns : List ℕ) (notes : List EventNote) (fs : List OpenFrame) → AreEventNotes notes fs → AreEventNotes notes (in_frame (completed k ns) fs)
completed_events k ns notes [] h = h
completed_events k ns notes (x ∷ xs) h = h

pub completed_top : (at : Spot) (k : ℕ) (ns : List ℕ) (fs : List OpenFrame) → IsOnTop at fs → IsOnTop at (in_frame (completed k ns) fs)
completed_top at k ns [] h = h
completed_top (beginning l env) k ns (x ∷ xs) h = h
completed_top elsewhere k ns (x ∷ xs) h = tt
completed_top (entered g env) k ns (x ∷ xs) h = tt
completed_top (complete l) k ns (x ∷ xs) h = tt
completed_top (left g is) k ns (x ∷ xs) h = tt
completed_top (trapped l) k ns (x ∷ xs) h = tt

-- Other spots

left_spot : (p : Source) (spot : ShortSpot) (f : ℕ) (is js : List Inside) → IsSpot p spot (left f is) → IsSpot p spot (left f js)
left_spot p s.Elsewhere f is js h = h
left_spot p (s.Beginning line place) f is js h = h
left_spot p (s.Entered place) f is js h = h
left_spot p (s.Complete line) f is js h = h
left_spot p (s.Left func) f is js h = h
left_spot p (s.Trapped line) f is js h = h

pub back_spot : (p : Source) (spot : ShortSpot) (at : Spot) → IsSpot p spot at → IsSpot p spot (left_behind at)
back_spot p spot (left f is) h = left_spot p spot f is [] h
back_spot p spot elsewhere h = h
back_spot p spot (beginning l env) h = h
back_spot p spot (entered f env) h = h
back_spot p spot (complete l) h = h
back_spot p spot (trapped l) h = h

pub back_top : (at : Spot) (fs : List OpenFrame) → IsOnTop at fs → IsOnTop (left_behind at) fs
back_top (left f is) fs h = tt
back_top elsewhere fs h = tt
back_top (beginning l env) fs h = h
back_top (entered f env) fs h = tt
back_top (complete l) fs h = tt
back_top (trapped l) fs h = tt

-- A new version

pub without_length : (ks : List ℕ) (fs : List OpenFrame) → length (frames_without ks fs) ≡ length fs
without_length ks [] = refl
without_length ks (x ∷ xs) = ap suc (without_length ks xs)

without_begun : (ks : List ℕ) (fs : List OpenFrame) → begun_in (frames_without ks fs) ≡ begun_in fs
without_begun ks [] = refl
without_begun ks (x ∷ xs) =
    ap (λ (n : ℕ). begun_in_frame (suc n) x.statements ++ begun_in (frames_without ks xs)) (without_length ks xs)
    ∙ ap (λ (bs : List BegunEvents). begun_in_frame (suc (length xs)) x.statements ++ bs) (without_begun ks xs)

pub without_events : (ks : List ℕ) (notes : List EventNote) (fs : List OpenFrame) → AreEventNotes notes fs → AreEventNotes notes (frames_without ks fs)
without_events ks notes fs h = h ∙ sym (without_begun ks fs)

pub without_spot : (p : Source) (ks : List ℕ) (spot : ShortSpot) (at : Spot) → IsSpot p spot at → IsSpot p spot (spot_without ks at)
without_spot p ks spot (left f is) h = left_spot p spot f is (without_filters ks is) h
without_spot p ks spot elsewhere h = h
without_spot p ks spot (beginning l env) h = h
without_spot p ks spot (entered f env) h = h
without_spot p ks spot (complete l) h = h
without_spot p ks spot (trapped l) h = h

without_first_statement : (ks : List ℕ) (l : ℕ) (fs : List OpenFrame) → IsTopStatement l fs → IsTopStatement l (frames_without ks fs)
without_first_statement ks l [] h = h
without_first_statement ks l (x ∷ xs) h = h

pub without_top : (ks : List ℕ) (at : Spot) (fs : List OpenFrame) → IsOnTop at fs → IsOnTop (spot_without ks at) (frames_without ks fs)
without_top ks (left f is) fs h = tt
without_top ks elsewhere fs h = tt
without_top ks (beginning l env) fs h = without_first_statement ks l fs h
without_top ks (entered f env) fs h = tt
without_top ks (complete l) fs h = tt
without_top ks (trapped l) fs h = tt
