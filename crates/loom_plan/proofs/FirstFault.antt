-- The first fault of a filter's clauses.
use Rattle.std.proofs.Common.{ℕ, suc, ◌≡◌, ◌≤◌, List, [], ◌∷◌, Option, Some, None, inl, inr, refl, sym, subst, arith}
use Rattle.loom_tree.specs.Tree.{Source}
use Rattle.loom_lang.specs.Rules.{KeepsRules}
use Rattle.loom_command.specs.Filter.{Clause, order, exclusive, unilateral, Filter}
use Rattle.loom_command.specs.FilterFault.{FilterFault}
use Rattle.loom_law.specs.FilterRefusal.{HasClauseFault, IsNameFaultFrom}
use Rattle.loom_law.proofs.Holdings.{either_of}
use Rattle.loom_plan.specs.Fault.{TellsFirst, TellsNameFault, clause_fault, fault_at, first_from}
use Rattle.loom_plan.proofs.Least.{TellsLeast}
use Rattle.loom_plan.proofs.EventFaults.{order_tells}
use Rattle.loom_plan.proofs.RegionFaults.{region_tells, regions_tell}

clause_tells : (p : Source) (file : List ℕ) → KeepsRules p → (c : Clause) → TellsLeast (HasClauseFault p file c) (clause_fault p file c)
clause_tells p file rules (order ss) = order_tells p file rules ss
clause_tells p file rules (exclusive rs) = regions_tell p file rules rs
clause_tells p file rules (unilateral r) = region_tells p file rules r

-- their clauses are those from n on
no_sooner : (p : Source) (file : List ℕ) (n : ℕ) (cs : Filter) (x : FilterFault) → IsNameFaultFrom p file n cs x → n ≤ x.clause
no_sooner p file n [] x h = absurd h
no_sooner p file n (c ∷ cs) x (inl h) = let e = h.0 in omega (arith, e)
no_sooner p file n (c ∷ cs) x (inr h) = let k = no_sooner p file (suc n) cs x h in omega (arith, k)

with_later : (p : Source) (file : List ℕ) (n : ℕ) (c : Clause) (cs : Filter) → ((m : ℕ) → HasClauseFault p file c m → ⊥) → (o : Option FilterFault)
    → TellsFirst (IsNameFaultFrom p file (suc n) cs) o → TellsFirst (IsNameFaultFrom p file n (c ∷ cs)) o
with_later p file n c cs none None h = λ x k. either_of k (λ i. none x.number i.1) (λ i. h x i)
with_later p file n c cs none (Some x) h = record { is = inr h.is; least = λ y k. either_of k (λ i. absurd (none y.number i.1)) (λ i. h.least y i) }

first_here : (p : Source) (file : List ℕ) (n : ℕ) (c : Clause) (cs : Filter) (o : Option ℕ) (behind : Option FilterFault) → TellsLeast (HasClauseFault p file c) o
    → TellsFirst (IsNameFaultFrom p file (suc n) cs) behind → TellsFirst (IsNameFaultFrom p file n (c ∷ cs)) (fault_at n o behind)
first_here p file n c cs None behind h k = with_later p file n c cs h behind k
first_here p file n c cs (Some m) behind h k = record {
  is = inl (refl, h.0);
  least = λ y i. either_of i (λ j. let s = h.1 y.number j.1 in inr (sym j.0, s)) (λ j. let s = no_sooner p file (suc n) cs y j in inl (omega (arith, s)));
}

first_tells : (p : Source) (file : List ℕ) → KeepsRules p → (n : ℕ) (cs : Filter) → TellsFirst (IsNameFaultFrom p file n cs) (first_from p file n cs)
first_tells p file rules n [] = λ x k. k
first_tells p file rules n (c ∷ cs) =
    first_here p file n c cs (clause_fault p file c) (first_from p file (suc n) cs) (clause_tells p file rules c) (first_tells p file rules (suc n) cs)

pub first_fault_told : (p : Source) (file : List ℕ) (f : Filter) (o : Option FilterFault) → KeepsRules p → o ≡ first_from p file 1 f → TellsNameFault p file f o
first_fault_told p file f o rules e = subst (λ z. TellsNameFault p file f z) (sym e) (first_tells p file rules 1 f)
