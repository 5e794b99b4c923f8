-- Stacks and their frames.
use Rattle.std.proofs.Common.{◌≡◌, List, [], ◌∷◌, ◌++◌, refl}
use Rattle.loom_tree.specs.Tree.{Expression}
use Rattle.loom_expression.specs.declared.part.Prefix.{Prefix}
use Rattle.loom_expression.specs.Reader as m
use Rattle.loom_expression.specs.ReaderView.{prefix_of, onto, stack_of}

pub onto_push : (fs : List Prefix) (x : Prefix) (k : List (m.Prefix Expression)) → onto (fs ++ x ∷ []) k ≡ prefix_of x ∷ onto fs k
onto_push [] x k = refl
onto_push (g ∷ fs) x k = onto_push fs x (prefix_of g ∷ k)

pub stack_push : (fs : List Prefix) (x : Prefix) → stack_of (fs ++ x ∷ []) ≡ prefix_of x ∷ stack_of fs
stack_push fs x = onto_push fs x []
