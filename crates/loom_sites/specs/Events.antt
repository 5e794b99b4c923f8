-- Where events begin, in a table of places.
use Rattle.std.specs.Prelude.{ℕ, suc, ◌-◌, ◌==◌, nat_lt, nat_le, Bool, true, false, not, ◌&&◌, ◌||◌, List, [], ◌∷◌, Option, Some, None}
use Rattle.loom_tree.specs.Tree.{Source}
use Rattle.loom_lang.specs.Places.{Place, place_at}
use Rattle.loom_law.specs.Filter.{Watch, function, Plan, share, is_site, is_some}
use Rattle.loom_law.specs.Paths.{watch_at}
use Rattle.loom_plan.specs.PlaceEvents.{site_at, watched}
use Rattle.loom_sites.specs.declared.links.PlaceLinks.{PlaceLinks}
use Rattle.loom_sites.specs.Nodes.{node_number}
use Rattle.loom_sites.specs.Links.{is_statement, is_return_kind, is_call_of}
use Rattle.loom_sites.specs.Rows.{RowTest, any_run}

-- the events that begin at a place

abbrev pub watched_if : Plan → Option Place → List ℕ
watched_if f None = []
watched_if f (Some y) = watched f (site_at y)

abbrev pub watched_at : Source → Plan → ℕ → List ℕ
watched_at p f k = watched_if f (place_at p k)

-- a statement with one of these events begins there
abbrev pub begins_there : Source → Plan → List ℕ → RowTest
begins_there p f ns k row = is_statement row.kind && share (watched_at p f k) ns

-- a statement with any event
abbrev pub are_some : List ℕ → Bool
are_some [] = false
are_some (n ∷ ns) = true

abbrev pub has_event : Source → Plan → RowTest
has_event p f k row = is_statement row.kind && are_some (watched_at p f k)

-- events by their numbers

abbrev pub is_untested_if : Option Watch → Bool
is_untested_if None = false
is_untested_if (Some w) = not (is_some w.test)

-- the event has no test
abbrev pub is_untested : Plan → ℕ → Bool
is_untested f n = is_untested_if (watch_at f n)

abbrev pub is_frame_if : ℕ → Option Watch → Bool
is_frame_if g None = false
is_frame_if g (Some w) = is_site (function (Some g)) w.site

-- the event begins where a frame of the function does
abbrev pub is_frame_event : Plan → ℕ → ℕ → Bool
is_frame_event f g n = is_frame_if g (watch_at f n)

-- What is unsafe by the events at one place, but for the functions that calls reach

-- from the first number on, and before the second
abbrev pub is_between : ℕ → ℕ → ℕ → Bool
is_between first end k = nat_le first k && nat_lt k end

-- place k is behind a `return` at the place
abbrev pub is_out : ℕ → RowTest
is_out k j row = is_return_kind row.kind && (node_number row.behind == k)

-- place k is unsafe by the statement of these places
abbrev pub is_unsafe_at : List PlaceLinks → ℕ → ℕ → ℕ → Bool
is_unsafe_at rows first end k = is_between first end k || any_run (is_out k) rows (suc first) (end - suc first)

abbrev pub makes_unsafe : Source → Plan → List PlaceLinks → ℕ → RowTest
makes_unsafe p f rows k j row = has_event p f j row && is_unsafe_at rows j row.end k

-- a statement of these places itself calls function g
abbrev pub calls_here : ℕ → RowTest
calls_here g k row = is_call_of g row.kind

abbrev pub calls_by_event : Source → Plan → List PlaceLinks → ℕ → RowTest
calls_by_event p f rows g j row = has_event p f j row && any_run (calls_here g) rows j (row.end - j)
