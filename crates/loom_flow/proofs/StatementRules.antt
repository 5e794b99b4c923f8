-- What the rules say of the parts of a statement.
use Rattle.std.proofs.Common.{ℕ, ◌≤◌, ◌≡◌, ◌==◌, ◌&&◌, true, List, [], ◌∷◌, length, inl, inr, arith}
use Rattle.std.specs.Cmp.Lexicographic.{pointwise}
use Rattle.std.proofs.lemmas.Bool.{eqb-true}
use Rattle.std.proofs.lemmas.List.{length-map}
use Rattle.loom_tree.specs.declared.expression.Expr.{Expr}
use Rattle.loom_tree.specs.Tree.{expression_of, expressions_of, Function, Source}
use Rattle.loom_lang.specs.Limits.{param_limit}
use Rattle.loom_lang.specs.Rules.{KeepsRules, FunctionsKeepRules, takes}
use Rattle.loom_flow.proofs.Truths.{second_of, or_else}

-- a call has as many arguments as a function has parameters
pub few_in : (p : Source) (fs : List Function) (x : List ℕ) (n : ℕ) → FunctionsKeepRules p fs → takes fs x n ≡ true → n ≤ param_limit
few_in p [] x n l h = cc
few_in p (f ∷ fs) x n l h =
    let few = l.0.params in
    elim (or_else (pointwise ◌==◌ f.name x && length f.params == n) (takes fs x n) h)
    [ inl here ↦ (let is = eqb-true (length f.params) n (second_of (pointwise ◌==◌ f.name x) (length f.params == n) here) in omega arith) | inr there ↦ few_in p fs x n l.1 there ]

pub few_arguments : (p : Source) (x : List ℕ) (es : List Expr) → KeepsRules p → takes p.funcs x (length (expressions_of es)) ≡ true → length es ≤ param_limit
few_arguments p x es l h = let few = few_in p p.funcs x _ l.functions h in let many = length-map es expression_of in omega arith
