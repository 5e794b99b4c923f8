-- Statements of a block, and open blocks.
use Rattle.std.proofs.Common.{ℕ, suc, ◌+◌, ◌≡◌, List, [], ◌∷◌, ◌++◌, length, nat_lt, refl, ap, arith}
use Rattle.loom_tree.specs.declared.statement.Kind.{Kind}
use Rattle.loom_tree.specs.declared.statement.Kind.TheVariants as k
use Rattle.loom_tree.specs.declared.statement.Stmt.{Stmt}
use Rattle.loom_tree.specs.Tree.{Expression, Body, behind}
use Rattle.loom_syntax.specs.declared.block.OpenBlock.{OpenBlock}
use Rattle.loom_syntax.specs.View.{Statement, chain, plain}
use Rattle.loom_syntax.specs.BlockView.{statement_by, statement_of, statements_of, opened_of, onto, stack_of}
use Rattle.loom_syntax.specs.FileReader as m

pub chain_of : (l : ℕ) (kind : Kind) (rest : Body) → behind l kind rest ≡ chain (statement_by l kind) rest
chain_of l (k.Let x e) rest = refl
chain_of l (k.Set x e) rest = refl
chain_of l (k.SetCell x i e) rest = refl
chain_of l (k.If e a b) rest = refl
chain_of l (k.While e a) rest = refl
chain_of l (k.Call f es) rest = refl
chain_of l (k.Return e) rest = refl
chain_of l (k.Lock x) rest = refl
chain_of l (k.Unlock x) rest = refl
chain_of l (k.Down x) rest = refl
chain_of l (k.Up x) rest = refl
chain_of l (k.Join e) rest = refl
chain_of l (k.Print e) rest = refl
chain_of l k.Skip rest = refl

-- these statements, and those behind them
abbrev pub before : List Statement → Body → Body
before [] rest = rest
before (s ∷ ss) rest = chain s (before ss rest)

pub close_before : (ss : List Statement) → m.close plain ss ≡ before ss Body.end
close_before [] = refl
close_before (s ∷ ss) = ap (chain s) (close_before ss)

pub before_last : (ss : List Stmt) (s : Stmt) (rest : Body) → before (statements_of (ss ++ s ∷ [])) rest ≡ before (statements_of ss) (chain (statement_of s) rest)
before_last [] s rest = refl
before_last (t ∷ ss) s rest = ap (chain (statement_of t)) (before_last ss s rest)

pub onto_push : (os : List OpenBlock) (o : OpenBlock) (k : List (m.OpenBlock Expression Statement Body)) → onto (os ++ o ∷ []) k ≡ opened_of o ∷ onto os k
onto_push [] o k = refl
onto_push (p ∷ os) o k = onto_push os o (opened_of p ∷ k)

pub stack_push : (os : List OpenBlock) (o : OpenBlock) → stack_of (os ++ o ∷ []) ≡ opened_of o ∷ stack_of os
stack_push os o = onto_push os o []

pub onto_length : (os : List OpenBlock) (k : List (m.OpenBlock Expression Statement Body)) → length (onto os k) ≡ length os + length k
onto_length [] k = omega arith
onto_length (o ∷ os) k = let ih = onto_length os (opened_of o ∷ k) in omega (arith, ih)

pub room_of : (os : List OpenBlock) → m.room (stack_of os) ≡ nat_lt (length os + 1) 32
room_of os =
    let is = onto_length os [] in
    let next : suc (length (stack_of os)) ≡ length os + 1 = omega (arith, is) in
    ap (λ n. nat_lt n 32) next
