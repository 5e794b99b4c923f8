-- What the first fault of the clauses that were read tells of the text.
use Rattle.std.proofs.Common.{ℕ, ◌≡◌, List, [], ◌∷◌, Option, Some, None, refl, sym, ap, subst, ◌∙◌}
use Rattle.loom_command.specs.Filter as tree
use Rattle.loom_command.specs.FilterForm.{ClauseForm, clause_tree, filter_tree}
use Rattle.loom_command.specs.FilterFault as form
use Rattle.loom_command.specs.FilterFault.{FilterFault, IsFilter, IsFaultyFilter}
use Rattle.loom_filter.specs.declared.clause.CountedClause as rust
use Rattle.loom_filter.specs.Builders.{CountedClause, counted_clauses}
use Rattle.loom_filter.specs.ReaderView.{clauses_with}
use Rattle.loom_filter.specs.Fault.{IsFaultOf, TellsFault}
use Rattle.loom_filter.specs.FilterError.{AreClauses, clauses_tree}
use Rattle.loom_filter.proofs.Faults.{fault_tree, tree_fault}

form_trees : (cs : List ClauseForm) → clauses_tree (counted_clauses cs) ≡ filter_tree cs
form_trees [] = refl
form_trees (c ∷ cs) = ap (λ z. clause_tree c ∷ z) (form_trees cs)

-- a fault of the forms is one of what was read
fault_read : (bytes : List ℕ) (cs : List rust.CountedClause) (a : AreClauses bytes cs) (x : FilterFault) → form.IsFaultOf 1 0 (a.first ∷ a.others) x → IsFaultOf 1 0 (clauses_with cs) x
fault_read bytes cs a x i = subst (λ z. IsFaultOf 1 0 z x) (sym a.tree) (fault_tree 1 0 (a.first ∷ a.others) x i)

pub filter_told : (bytes : List ℕ) (cs : List rust.CountedClause) (told : Option FilterFault) (f : tree.Filter) → AreClauses bytes cs → told ≡ None → TellsFault 1 0 (clauses_with cs) told → f ≡ clauses_tree (clauses_with cs) → IsFilter bytes f
filter_told bytes cs told f a n t e =
    let none : TellsFault 1 0 (clauses_with cs) None = subst (TellsFault 1 0 (clauses_with cs)) n t in
    record {
      first = a.first;
      others = a.others;
      form = a.form;
      faultless = λ x i. none x (fault_read bytes cs a x i);
      tree = e ∙ ap clauses_tree a.tree ∙ form_trees (a.first ∷ a.others);
    }

pub faulty_told : (bytes : List ℕ) (cs : List rust.CountedClause) (told : Option FilterFault) (x : FilterFault) → AreClauses bytes cs → told ≡ Some x → TellsFault 1 0 (clauses_with cs) told → IsFaultyFilter bytes x
faulty_told bytes cs told x a n t =
    let one : TellsFault 1 0 (clauses_with cs) (Some x) = subst (TellsFault 1 0 (clauses_with cs)) n t in
    record {
      first = a.first;
      others = a.others;
      form = a.form;
      is = tree_fault 1 0 (a.first ∷ a.others) x (subst (λ z. IsFaultOf 1 0 z x) a.tree one.is);
      least = λ y i. one.least y (fault_read bytes cs a y i);
    }
