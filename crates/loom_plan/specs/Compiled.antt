-- A filter in a program, and how it is stored.
use Rattle.std.specs.Prelude.{ℕ, List, Option, ◌⊎◌, ◌≡◌, refl}
use Rattle.std.proofs.Common.{inl, inr}
use Rattle.std.specs.Coded.{Coded, code_by, coded×, coded⊎, coded_ℕ, coded_list, coded_option}
use Rattle.loom_tree.specs.Tree.{Expression, expression_of, Source}
use Rattle.loom_tree.specs.declared.expression.Expr.{Expr}
use Rattle.loom_tree.specs.contracts.expression.Expr as expr
use Rattle.loom_tree.specs.Code.{expr_of, expression_back, source_code}
use Rattle.loom_law.specs.Filter.{Site, statement, function, Watch, Range, between, whole, Ruling, order, exclusive, unilateral, Plan}

-- a program, and the plan of a filter in it
pub record Compiled : Type 0 where
  pub program : Source
  pub plan : Plan

abbrev pub expression_code : Coded Expression
expression_code = code_by Expr expr.the_row.coded expr_of expression_of expression_back

abbrev pub StoredSite : Type 0
StoredSite = ℕ ⊎ Option ℕ

abbrev pub site_stored : Site → StoredSite
site_stored (statement l) = inl l
site_stored (function f) = inr f

abbrev pub stored_site : StoredSite → Site
stored_site (inl l) = statement l
stored_site (inr f) = function f

pub site_back : (x : Site) → stored_site (site_stored x) ≡ x
site_back (statement l) = refl
site_back (function f) = refl

abbrev pub site_code : Coded Site
site_code = code_by StoredSite (coded⊎ coded_ℕ (coded_option coded_ℕ)) site_stored stored_site site_back

abbrev pub watch_code : Coded Watch
watch_code =
    code_by (Site × Option Expression) (coded× site_code (coded_option expression_code)) (λ w. (w.site, w.test)) (λ p. record { site = p.0; test = p.1 }) (λ _. refl)

abbrev pub StoredRange : Type 0
StoredRange = (List ℕ × List ℕ) ⊎ ℕ

abbrev pub range_stored : Range → StoredRange
range_stored (between es xs) = inl (es, xs)
range_stored (whole n) = inr n

abbrev pub stored_range : StoredRange → Range
stored_range (inl p) = between p.0 p.1
stored_range (inr n) = whole n

pub range_back : (x : Range) → stored_range (range_stored x) ≡ x
range_back (between es xs) = refl
range_back (whole n) = refl

abbrev pub range_code : Coded Range
range_code = code_by StoredRange (coded⊎ (coded× (coded_list coded_ℕ) (coded_list coded_ℕ)) coded_ℕ) range_stored stored_range range_back

abbrev pub StoredRuling : Type 0
StoredRuling = List (ℕ × ℕ) ⊎ (List Range ⊎ Range)

abbrev pub ruling_stored : Ruling → StoredRuling
ruling_stored (order ss) = inl ss
ruling_stored (exclusive rs) = inr (inl rs)
ruling_stored (unilateral r) = inr (inr r)

abbrev pub stored_ruling : StoredRuling → Ruling
stored_ruling (inl ss) = order ss
stored_ruling (inr (inl rs)) = exclusive rs
stored_ruling (inr (inr r)) = unilateral r

pub ruling_back : (x : Ruling) → stored_ruling (ruling_stored x) ≡ x
ruling_back (order ss) = refl
ruling_back (exclusive rs) = refl
ruling_back (unilateral r) = refl

abbrev pub ruling_code : Coded Ruling
ruling_code =
    code_by StoredRuling (coded⊎ (coded_list (coded× coded_ℕ coded_ℕ)) (coded⊎ (coded_list range_code) range_code)) ruling_stored stored_ruling ruling_back

abbrev pub compiled_code : Coded Compiled
compiled_code =
    code_by (Source × (List Watch × List Ruling)) (coded× source_code (coded× (coded_list watch_code) (coded_list ruling_code)))
    (λ c. (c.program, (c.plan.watches, c.plan.rulings))) (λ q. record { program = q.0; plan = record { watches = q.1.0; rulings = q.1.1 } }) (λ _. refl)
