-- Functions of which a filter of a version watches something.
use Rattle.std.specs.Prelude.{ℕ, ◌≡◌, Bool, true, false, List, slice_get, Option, Some, None}
use Rattle.std.specs.List.{Contains, list_any}
use Rattle.loom_tree.specs.Tree.{Body, Function, Source}
use Rattle.loom_law.specs.Filter.{Site, statement, function, Watch, Plan, has, is_number}
use Rattle.loom_law.specs.Walk.{Plans}
use Rattle.loom_law.specs.Paths.{Begins, statements_of}
use Rattle.loom_plan.specs.Statements.{has_line}
use Rattle.loom_plan.specs.Compiled.{Compiled}
use Rattle.loom_version.specs.Plans.{compiled_at}

-- the site is a statement of function g, or the function itself
abbrev pub IsSiteIn : Source → ℕ → Site → Type 0
IsSiteIn p g (statement l) = (x : Body) × (Contains (statements_of p g) x × Begins x l)
IsSiteIn p g (function f) = f ≡ Some g

-- an event of the filter begins there
pub record WatchesFunction (p : Source) (f : Plan) (g : ℕ) : Type 0 where
  pub watch : Watch
  pub there : Contains f.watches watch
  pub site : IsSiteIn p g watch.site

-- so it is with one of these filters
pub record IsSlow (p : Source) (plans : Plans) (ks : List ℕ) (g : ℕ) : Type 0 where
  pub filter : ℕ
  pub active : has ks filter ≡ true
  pub watches : WatchesFunction p (plans filter) g

-- The tests of this

abbrev pub has_line_in : Option Function → ℕ → Bool
has_line_in None l = false
has_line_in (Some f) l = has_line f.body l

abbrev pub is_site_in : Source → ℕ → Site → Bool
is_site_in p g (statement l) = has_line_in (slice_get p.funcs g) l
is_site_in p g (function f) = is_number g f

abbrev pub watches_in : ℕ → Option Compiled → Bool
watches_in g None = false
watches_in g (Some c) = list_any (λ (w : Watch). is_site_in c.program g w.site) c.plan.watches

abbrev pub is_slow : List (Option Compiled) → List ℕ → ℕ → Bool
is_slow cs ks g = list_any (λ k. watches_in g (compiled_at cs k)) ks
