-- A statement's copy, and statements one after another.
use Rattle.std.proofs.Common.{ℕ, ◌≡◌, List, [], ◌∷◌, ◌++◌, refl, ap, sym, ◌∙◌}
use Rattle.loom_tree.specs.declared.statement.Kind.{Kind}
use Rattle.loom_tree.specs.declared.statement.Kind.TheVariants as k
use Rattle.loom_tree.specs.declared.statement.Stmt.{Stmt}
use Rattle.loom_tree.specs.Tree.{Body, end, simple, if_, while_, behind}
use Rattle.loom_tree.specs.Chain.{before}

-- the first statement, on another line and before other statements
moved : ℕ → Body → Body → Body
moved l rest end = end
moved l rest (simple m s b) = simple l s rest
moved l rest (if_ m e x y b) = if_ l e x y rest
moved l rest (while_ m e x b) = while_ l e x rest

moved_behind : (l : ℕ) (kind : Kind) (rest : Body) → behind l kind rest ≡ moved l rest (behind 0 kind end)
unfolding moved
moved_behind l (k.Let x e) rest = refl
moved_behind l (k.Set x e) rest = refl
moved_behind l (k.SetCell x i e) rest = refl
moved_behind l (k.If e a b) rest = refl
moved_behind l (k.While e a) rest = refl
moved_behind l (k.Call f es) rest = refl
moved_behind l (k.Return e) rest = refl
moved_behind l (k.Lock x) rest = refl
moved_behind l (k.Unlock x) rest = refl
moved_behind l (k.Down x) rest = refl
moved_behind l (k.Up x) rest = refl
moved_behind l (k.Join e) rest = refl
moved_behind l (k.Print e) rest = refl
moved_behind l k.Skip rest = refl

-- what is the same statement is so on each line and before all statements
pub same_behind : (l : ℕ) (a b : Kind) (rest : Body) → behind 0 a end ≡ behind 0 b end → behind l a rest ≡ behind l b rest
same_behind l a b rest h = moved_behind l a rest ∙ ap (moved l rest) h ∙ sym (moved_behind l b rest)

pub before_last : (ss : List Stmt) (s : Stmt) (rest : Body) → before (ss ++ s ∷ []) rest ≡ before ss (behind s.line s.kind rest)
before_last [] s rest = refl
before_last (t ∷ ss) s rest = ap (behind t.line t.kind) (before_last ss s rest)

-- one statement more is copied
pub copied_one : (ss ts : List Stmt) (l : ℕ) (a b : Kind) (all rest : Body) → ts ≡ ss ++ (record { line = l; kind = a }) ∷ [] → all ≡ behind l b rest → behind 0 a end ≡ behind 0 b end → before ts rest ≡ before ss all
copied_one ss ts l a b all rest g e h =
    ap (λ z. before z rest) g ∙ before_last ss (record { line = l; kind = a }) rest ∙ ap (before ss) (same_behind l a b rest h ∙ sym e)
