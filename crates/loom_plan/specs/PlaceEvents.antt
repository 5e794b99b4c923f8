-- What a filter watches at each place of a program.
use Rattle.std.specs.Prelude.{ℕ, ℤ, suc, ◌≡◌, ◌<◌, ◌≤◌, List, [], ◌∷◌, ◌++◌, map, slice_get, Option, Some, None, if◌then◌else◌}
use Rattle.loom_tree.specs.Tree.{Expression, Function, Source}
use Rattle.loom_lang.specs.Rules.{locals_of}
use Rattle.loom_lang.specs.Places.{Place, entry, inside, body_places, line_of_function}
use Rattle.loom_command.specs.FilterFault.{most_events}
use Rattle.loom_law.specs.Filter.{Site, statement, function, Watch, Plan, is_site}
use Rattle.loom_plan.specs.declared.plan.Pick.{Pick}
use Rattle.loom_plan.specs.declared.plan.WatchRow.{WatchRow}
use Rattle.loom_plan.specs.Sets.{event_numbers}
use Rattle.loom_plan.specs.Tests.{MeansIf, is_passed}

-- The site of events that begin where a thread stands at a place, before it goes on: the in place of a statement, or the entry place of a function.
abbrev pub site_at : Place → Option Site
site_at (inside l) = Some (statement l)
site_at (entry f) = Some (function (Some f))
site_at _ = None

-- the events of this site, the first of these having this number
abbrev pub watched_from : ℕ → Site → List Watch → List ℕ
watched_from n at [] = []
watched_from n at (w ∷ ws) = if is_site at w.site then n ∷ watched_from (suc n) at ws else watched_from (suc n) at ws

abbrev pub watched : Plan → Option Site → List ℕ
watched f None = []
watched f (Some at) = watched_from 1 at f.watches

-- The names of a frame's locals at each place, in the order of the places; where no frame is there are none.
abbrev pub names_from : List Function → List (List (List ℕ))
names_from [] = []
names_from (f ∷ fs) = locals_of f ∷ (map (λ (x : Place). locals_of f) (body_places f.body) ++ locals_of f ∷ names_from fs)

abbrev pub place_names : Source → List (List (List ℕ))
place_names p = [] ∷ names_from p.funcs

abbrev pub names_or_none : Option (List (List ℕ)) → List (List ℕ)
names_or_none None = []
names_or_none (Some xs) = xs

-- the names of the locals of the function in which the place of this number is
abbrev pub names_at : Source → ℕ → List (List ℕ)
names_at p k = names_or_none (slice_get (place_names p) k)

-- the line of an event: that of its statement, or of the `fn` of its function
abbrev pub line_of_site : Source → Site → ℕ
line_of_site p (statement l) = l
line_of_site p (function None) = 0
line_of_site p (function (Some f)) = line_of_function (slice_get p.funcs f)

-- What a row has

-- the events of a site with their tests
abbrev pub picks_from : ℕ → Site → List Watch → List (ℕ × Option Expression)
picks_from n at [] = []
picks_from n at (w ∷ ws) = if is_site at w.site then (n, w.test) ∷ picks_from (suc n) at ws else picks_from (suc n) at ws

abbrev pub picks_at : Plan → Option Site → List (ℕ × Option Expression)
picks_at f None = []
picks_at f (Some at) = picks_from 1 at f.watches

-- each is that event, and its test is that over locals of these names
abbrev pub ArePicks : List (List ℕ) → List Pick → List (ℕ × Option Expression) → Type 0
ArePicks names [] [] = Unit {0}
ArePicks names (x ∷ xs) (y ∷ ys) = ((x.event ≡ y.0) × MeansIf names x.test y.1) × ArePicks names xs ys
ArePicks names _ _ = ⊥

pub record IsWatchRow (f : Plan) (names : List (List ℕ)) (at : Option Site) (row : WatchRow) : Type 0 where
  pub events : event_numbers row.events ≡ watched f at
  pub picks : ArePicks names row.picks.items (picks_at f at)

-- a row for each place, in their order
abbrev pub AreRows : Plan → List (List (List ℕ)) → List Place → List WatchRow → Type 0
AreRows f [] [] [] = Unit {0}
AreRows f (names ∷ more) (x ∷ xs) (row ∷ rows) = IsWatchRow f names (site_at x) row × AreRows f more xs rows
AreRows f _ _ _ = ⊥

-- the events of those whose tests are met by these locals
abbrev pub picked : List ℤ → List Pick → List ℕ
picked vs [] = []
picked vs (x ∷ xs) = if is_passed vs x.test then x.event ∷ picked vs xs else picked vs xs

-- each event is behind the one before it
abbrev pub Ascend : ℕ → List Pick → Type 0
Ascend n [] = Unit {0}
Ascend n (x ∷ xs) = ((n < x.event) × (x.event ≤ most_events)) × Ascend x.event xs
