-- What a filter that isn't installed would see of a thread: the regions that it is inside, and the events that are under way.
use Rattle.std.specs.Prelude.{ℕ, ◌≡◌, Bool, true, false, not, List, [], ◌∷◌, ◌++◌, flat_map, Some, if◌then◌else◌}
use Rattle.std.specs.List.{filter}
use Rattle.loom_tree.specs.Tree.{Source}
use Rattle.loom_lang.specs.Trace.{end, trap, Item, made, begins, done, edge, enter, out}
use Rattle.loom_law.specs.Filter.{Range, Plan, statement, function, matching, share, entry_events, exit_events, ranges_of}
use Rattle.loom_law.specs.Walk.{Version, Plans, back, PartStep, goes, makes, Queue, Walk, unborn, walk_behind, walk_from}

-- an open frame: the events under way, of each open statement, the innermost first, and last those of the function itself
pub record FrameView : Type 0 where
  pub under_way : List (List ℕ)
  pub inside : List Range

-- what the filter sees of a thread
pub record FilterView : Type 0 where
  -- the open frames, the innermost first, and the one that was left and waits for its `Back`
  pub frames : List FrameView
  pub leaving : List FrameView
  -- the events that match here; they begin where all is made that is owed here
  pub here : List ℕ

abbrev pub nothing_seen : FilterView
nothing_seen = record { frames = []; leaving = []; here = [] }

abbrev pub all_ranges : Plan → List Range
all_ranges f = flat_map ranges_of f.rulings

abbrev pub with_events : List ℕ → List (List ℕ) → List (List ℕ)
with_events ns [] = []
with_events ns (ms ∷ mss) = (ns ++ ms) ∷ mss

-- behind the beginning of these events in the top frame
abbrev pub with_begun : Plan → List ℕ → List FrameView → List FrameView
with_begun f ns [] = []
with_begun f ns (x ∷ xs) =
    record { under_way = with_events ns x.under_way; inside = filter (λ r. share (entry_events r) ns) (all_ranges f) ++ x.inside } ∷ xs

-- behind the completion of the events of the innermost statement
abbrev pub with_complete : List (List ℕ) → FrameView → FrameView
with_complete [] x = x
with_complete (ns ∷ nss) x = record { under_way = nss; inside = filter (λ r. not (share (exit_events r) ns)) x.inside }

abbrev pub with_all_complete : List FrameView → List FrameView
with_all_complete [] = []
with_all_complete (x ∷ xs) = with_complete x.under_way x ∷ xs

-- where all is made that is owed
abbrev pub settled : Plan → FilterView → FilterView
settled f w = record { frames = with_begun f w.here w.frames; leaving = []; here = [] }

-- behind the beginning of a statement
abbrev pub with_statement : List FrameView → List FrameView
with_statement [] = []
with_statement (x ∷ xs) = record x { under_way = [] ∷ x.under_way } ∷ xs

abbrev pub first_frame : List FrameView → List FrameView
first_frame [] = []
first_frame (x ∷ xs) = x ∷ []

abbrev pub other_frames : List FrameView → List FrameView
other_frames [] = []
other_frames (x ∷ xs) = xs

-- whether nothing is owed
abbrev pub is_empty : Queue → Bool
is_empty [] = true
is_empty (o ∷ os) = false

-- an item, behind which the thread is at `z`
abbrev pub seen_item : Plan → Walk → FilterView → Item → FilterView
seen_item f z w (made l (trap c)) = nothing_seen
seen_item f z w (made l end) = nothing_seen
seen_item f z w (made l a) = w
seen_item f z w (begins l env) = record w { frames = with_statement w.frames; here = matching f (statement l) env }
seen_item f z w (done l) = record w { frames = with_all_complete w.frames }
seen_item f z w (edge l) = w
seen_item f z w (enter g env) = record w { frames = record { under_way = [] ∷ []; inside = [] } ∷ w.frames; here = matching f (function (Some g)) env }
-- the frame stays open until its `Back`, where it owes one
seen_item f z w (out g) = record w { frames = other_frames w.frames; leaving = if is_empty z.owed then [] else first_frame w.frames }

abbrev pub seen_step : Plan → Walk → FilterView → PartStep → FilterView
seen_step f z w (goes i) = seen_item f z (settled f w) i
seen_step f z w (makes l back) = record w { leaving = [] }
seen_step f z w (makes l o) = w

abbrev pub seen_from : Source → Plans → Plan → Walk → FilterView → List PartStep → FilterView
seen_from p plans f z w [] = w
seen_from p plans f z w (s ∷ ss) = seen_from p plans f (walk_behind p plans z s) (seen_step f (walk_behind p plans z s) w s) ss

-- What it sees behind these steps. Where nothing is owed any more, the events that match there have begun, and a frame that was left is closed.
abbrev pub view_behind : Source → Plans → Plan → List Version → List PartStep → FilterView
view_behind p plans f vs steps =
    if is_empty (walk_from p plans (unborn vs) steps).owed then settled f (seen_from p plans f (unborn vs) nothing_seen steps)
    else seen_from p plans f (unborn vs) nothing_seen steps

abbrev pub all_of : List FrameView → List Range
all_of xs = flat_map (λ (x : FrameView). x.inside) xs

abbrev pub all_under_way : List FrameView → List ℕ
all_under_way xs = flat_map (λ (x : FrameView). flat_map (λ ns. ns) x.under_way) xs

-- no region is entered, and no event has begun that isn't complete
pub record IsClear (w : FilterView) : Type 0 where
  pub outside : all_of (w.frames ++ w.leaving) ≡ []
  pub at_rest : all_under_way (w.frames ++ w.leaving) ≡ []
