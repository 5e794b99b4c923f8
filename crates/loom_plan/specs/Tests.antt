-- What tests over numbered locals give.
use Rattle.std.specs.Prelude.{ℕ, ◌≡◌, Bool, true, slice_get, List, ℤ, Option, Some, None}
use Rattle.loom_tree.specs.Tree.{Expression}
use Rattle.loom_lang.specs.Values.{negated, inverted}
use Rattle.loom_flow.specs.State.{named}
use Rattle.loom_law.specs.Filter.{quotient, with_value, tested, is_met, passes}
use Rattle.loom_plan.specs.declared.plan.LocalTest.{LocalTest}
use Rattle.loom_plan.specs.declared.plan.LocalTest.TheVariants as t

-- the value of a test over locals by their numbers, if it has one
abbrev pub test_value : List ℤ → LocalTest → Option ℤ
test_value vs t.Nothing = None
test_value vs (t.Number n) = Some n
test_value vs (t.Local x) = slice_get vs x
test_value vs (t.Negated' p a) = with_value (test_value vs a) (λ v. Some (negated v))
test_value vs (t.Inverted' p a) = with_value (test_value vs a) (λ v. Some (inverted v))
test_value vs (t.Applied' o p a q b) = with_value (test_value vs a) (λ v. with_value (test_value vs b) (λ w. quotient o v w))

abbrev pub is_passed : List ℤ → Option LocalTest → Bool
is_passed vs None = true
is_passed vs (Some x) = is_met (test_value vs x)

-- Over locals of these names the test is that expression.
abbrev pub Means : List (List ℕ) → LocalTest → Expression → Type 0
Means names x e = (vs : List ℤ) → test_value vs x ≡ tested (named names vs) e

abbrev pub MeansIf : List (List ℕ) → Option LocalTest → Option Expression → Type 0
MeansIf names x e = (vs : List ℤ) → is_passed vs x ≡ passes (named names vs) e
