-- A statement, and the statements behind it.
use Rattle.std.proofs.Common.{ℕ, ◌≡◌, List, ◌++◌, Option, refl, ap, ◌∙◌, append_assoc}
use Rattle.std.proofs.lemmas.List.{append-nil}
use Rattle.loom_tree.specs.declared.statement.Kind.{Kind}
use Rattle.loom_tree.specs.declared.statement.Kind.TheVariants as k
use Rattle.loom_tree.specs.Tree.{Body, end, behind, Source}
use Rattle.loom_lang.specs.declared.refusal.Reason.{Reason}
use Rattle.loom_lang.specs.declared.refusal.LangRefusal.{LangRefusal}
use Rattle.loom_lang.specs.Rules.{statement_lines}
use Rattle.loom_lang.specs.Refusal.{lets_at, unknown_lines, miscounted_lines}
use Rattle.loom_lang.specs.Fault.{behind_faults}
use Rattle.loom_lang.proofs.Faults.{noted_on}

pub lines_behind : (l : ℕ) (s : Kind) (rest : Body) → statement_lines (behind l s rest) ≡ statement_lines (behind l s end) ++ statement_lines rest
lines_behind l (k.If e a b) rest = simp (append-nil, append_assoc)
lines_behind l (k.While e a) rest = simp append-nil
lines_behind l _ rest = refl

pub lets_behind : (l : ℕ) (s : Kind) (rest : Body) → lets_at (behind l s rest) ≡ lets_at (behind l s end) ++ lets_at rest
lets_behind l (k.If e a b) rest = simp (append-nil, append_assoc)
lets_behind l (k.While e a) rest = simp append-nil
lets_behind l _ rest = refl

unknown_behind : (p : Source) (locals : List (List ℕ)) (l : ℕ) (s : Kind) (rest : Body) → unknown_lines p locals (behind l s rest) ≡ unknown_lines p locals (behind l s end) ++ unknown_lines p locals rest
unknown_behind p locals l (k.If e a b) rest = simp (append-nil, append_assoc)
unknown_behind p locals l (k.While e a) rest = simp (append-nil, append_assoc)
unknown_behind p locals l k.Skip rest = refl
unknown_behind p locals l _ rest = simp append-nil

miscounted_behind : (p : Source) (l : ℕ) (s : Kind) (rest : Body) → miscounted_lines p (behind l s rest) ≡ miscounted_lines p (behind l s end) ++ miscounted_lines p rest
miscounted_behind p l (k.If e a b) rest = simp (append-nil, append_assoc)
miscounted_behind p l (k.While e a) rest = simp append-nil
miscounted_behind p l (k.Let x r) rest = simp append-nil
miscounted_behind p l (k.Set x r) rest = simp append-nil
miscounted_behind p l (k.Call f es) rest = simp append-nil
miscounted_behind p l _ rest = refl

-- the steps of walks, at statements that are a first one and a rest

pub unknown_step : (first new : Option LangRefusal) (why : Reason) (p : Source) (locals : List (List ℕ)) (l : ℕ) (s : Kind) (all rest : Body) → all ≡ behind l s rest → new ≡ behind_faults first why (unknown_lines p locals (behind l s end)) → behind_faults new why (unknown_lines p locals rest) ≡ behind_faults first why (unknown_lines p locals all)
unknown_step first new why p locals l s all rest e h = noted_on first new why (unknown_lines p locals (behind l s end)) (unknown_lines p locals rest) _ (ap (unknown_lines p locals) e ∙ unknown_behind p locals l s rest) h

pub miscounted_step : (first new : Option LangRefusal) (why : Reason) (p : Source) (l : ℕ) (s : Kind) (all rest : Body) → all ≡ behind l s rest → new ≡ behind_faults first why (miscounted_lines p (behind l s end)) → behind_faults new why (miscounted_lines p rest) ≡ behind_faults first why (miscounted_lines p all)
miscounted_step first new why p l s all rest e h = noted_on first new why (miscounted_lines p (behind l s end)) (miscounted_lines p rest) _ (ap (miscounted_lines p) e ∙ miscounted_behind p l s rest) h
