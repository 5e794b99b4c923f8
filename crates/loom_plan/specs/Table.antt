-- How the table of places is made.
use Rattle.std.specs.Prelude.{ℕ, ◌≤◌, length, List, [], ◌∷◌, ◌++◌, map, Option, Some, None, if◌then◌else◌}
use Rattle.loom_tree.specs.Tree.{Expression, Function, body_of}
use Rattle.loom_lang.specs.Limits.{local_limit}
use Rattle.loom_lang.specs.Rules.{locals_of}
use Rattle.loom_tree.specs.declared.statement.Kind.{Kind}
use Rattle.loom_tree.specs.declared.statement.Kind.TheVariants as k
use Rattle.loom_lang.specs.Places.{Place, back_edge, body_places}
use Rattle.loom_law.specs.Filter.{Site, Watch, Plan, is_site}
use Rattle.loom_plan.specs.declared.plan.EventSite.{EventSite}
use Rattle.loom_plan.specs.declared.plan.Pick.{Pick}
use Rattle.loom_plan.specs.declared.plan.WatchRow.{WatchRow}
use Rattle.loom_plan.specs.PlanView.{site_of}
use Rattle.loom_plan.specs.PlaceEvents.{site_at, ArePicks, IsWatchRow}

-- the sites of events at places

abbrev pub site_if : Option EventSite → Option Site
site_if None = None
site_if (Some s) = Some (site_of s)

abbrev pub sites_of : List (Option EventSite) → List (Option Site)
sites_of os = map site_if os

abbrev pub sites_at : List Place → List (Option Site)
sites_at xs = map site_at xs

-- the places in a statement behind its own
abbrev pub inner_places : Kind → List Place
inner_places (k.If e a b) = body_places (body_of a) ++ body_places (body_of b)
inner_places (k.While e a) = back_edge 0 ∷ body_places (body_of a)
inner_places _ = []

-- rows for sites, where the locals have these names
abbrev pub AreSiteRows : Plan → List (List (List ℕ)) → List (Option Site) → List WatchRow → Type 0
AreSiteRows f [] [] [] = Unit {0}
AreSiteRows f (names ∷ more) (o ∷ os) (row ∷ rows) = IsWatchRow f names o row × AreSiteRows f more os rows
AreSiteRows f _ _ _ = ⊥

-- the same names for each
abbrev pub same_names : List (List ℕ) → List (Option Site) → List (List (List ℕ))
same_names names os = map (λ (o : Option Site). names) os

-- The rows were for some sites, and are for these behind them.
abbrev pub GoOn : Plan → List WatchRow → List WatchRow → List (List (List ℕ)) → List (Option Site) → Type 0
GoOn f old new more os = (ns : List (List (List ℕ))) (ps : List (Option Site)) → AreSiteRows f ns ps old → AreSiteRows f (ns ++ more) (ps ++ os) new

-- an event of the site with its test, if it is one
abbrev pub pick_if : Site → ℕ → Watch → List (ℕ × Option Expression)
pick_if at n w = if is_site at w.site then (n, w.test) ∷ [] else []

-- The picks were some, and are that one behind them.
abbrev pub HasPick : List (List ℕ) → List Pick → List Pick → List (ℕ × Option Expression) → Type 0
HasPick names old new more = (ys : List (ℕ × Option Expression)) → ArePicks names old ys → ArePicks names new (ys ++ more)

abbrev pub HaveFewLocals : List Function → Type 0
HaveFewLocals [] = Unit {0}
HaveFewLocals (f ∷ fs) = (length (locals_of f) ≤ local_limit) × HaveFewLocals fs
