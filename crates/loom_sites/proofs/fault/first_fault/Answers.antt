use Rattle.std.proofs.Common.{ℕ, suc, ◌+◌, ◌-◌, ◌<◌, ◌≤◌, ◌≡◌, List, Option, Some, None, rules, sym, ap, ◌∙◌, arith}
use Rattle.loom_command.specs.FilterFault.{FilterFault}
use Rattle.loom_plan.specs.Fault.{fault_at}
use Rattle.loom_sites.specs.declared.area.Area.{Area}
use Rattle.loom_sites.specs.Faults.{area_fault, first_among}
use Rattle.loom_sites.proofs.fault.first_fault.Goals as goal

here : (xs : List Area) (i n : ℕ) → i < n → first_among xs (suc i) (n - i) ≡ fault_at (suc i) (area_fault xs (suc i)) (first_among xs (suc (suc i)) (n - suc i))
here xs i n low = let left : n - i ≡ suc (n - suc i) = omega arith in ap (λ (m : ℕ). first_among xs (suc i) m) left

first_on : (xs : List Area) (i j n : ℕ) (all : Option FilterFault) → j ≡ suc i → i < n → area_fault xs j ≡ None → first_among xs (suc i) (n - i) ≡ all → first_among xs (suc j) (n - j) ≡ all
first_on xs i j n all e low none h =
    ap (λ (m : ℕ). first_among xs (suc m) (n - m)) e
    ∙ (sym (here xs i n low ∙ ap (λ (o : Option ℕ). fault_at (suc i) o (first_among xs (suc (suc i)) (n - suc i))) (ap (area_fault xs) (sym e) ∙ none)) ∙ h)

first_found : (xs : List Area) (i j n number : ℕ) (all : Option FilterFault) → j ≡ suc i → i < n → area_fault xs j ≡ Some number → first_among xs (suc i) (n - i) ≡ all → Some (record { clause = j; number = number }) ≡ all
first_found xs i j n number all e low some h =
    ap (λ (m : ℕ). Some (record { clause = m; number = number })) e
    ∙ (sym (here xs i n low ∙ ap (λ (o : Option ℕ). fault_at (suc i) o (first_among xs (suc (suc i)) (n - suc i))) (ap (area_fault xs) (sym e) ∙ some)) ∙ h)

first_none : (xs : List Area) (i n : ℕ) (all : Option FilterFault) → n ≤ i → first_among xs (suc i) (n - i) ≡ all → None ≡ all
first_none xs i n all low h = let left : n - i ≡ 0 = omega arith in sym (ap (λ (m : ℕ). first_among xs (suc i) m) left) ∙ h

pub clauses-preserved : goal.clauses-preserved
clauses-preserved c =
    let none : c.area_fault.result ≡ None = search rules in
    first_on c.args.areas.now c.clauses.i (c.clauses.i + 1) c.args.clauses _ (omega arith) c.clauses-test.true (sym c.area_fault.ensures ∙ none) c.clauses.invariant

pub returns-in-Some : goal.returns-in-Some
returns-in-Some c = first_found c.args.areas.now c.clauses.i (c.clauses.i + 1) c.args.clauses c.in-Some.number _ (omega arith) c.clauses-test.true (sym c.area_fault.ensures ∙ c.in-Some.is) c.clauses.invariant

pub returns : goal.returns
returns c = first_none c.args.areas.now c.clauses.i c.args.clauses _ c.clauses-test.false c.clauses.invariant
