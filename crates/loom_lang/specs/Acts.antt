-- What a thread does without its marks, and when two acts answer the same request.
use Rattle.std.specs.Prelude.{ℕ, ◌≡◌, pos, List, [], ◌∷◌}
use Rattle.loom_lang.specs.Trace.{not_held, not_spawned, threads, overflow, Act, trap, read, unlock, up, spawn, join, Item, made, begins, done, edge, enter, out}

-- what a thread did at a line
pub record Deed : Type 0 where
  pub line : ℕ
  pub act : Act

-- the acts of a trace, without its marks
abbrev pub acts : List Item → List Deed
acts [] = []
acts (made l a ∷ is) = record { line = l; act = a } ∷ acts is
acts (begins l env ∷ is) = acts is
acts (done l ∷ is) = acts is
acts (edge l ∷ is) = acts is
acts (enter f env ∷ is) = acts is
acts (out f ∷ is) = acts is

-- Two acts answer the same request. A read may be answered by any value, a `spawn` by any new thread, and the store may
-- answer `unlock`, `up`, `spawn` and `join` by a trap. What asks for anything else has one answer.
abbrev pub AnswerTheSame : Act → Act → Type 0
AnswerTheSame (read w v) (read x u) = w ≡ x
AnswerTheSame (spawn c f vs) (spawn d g us) = (f ≡ g) × (vs ≡ us)
AnswerTheSame (spawn c f vs) (trap threads) = Unit {0}
AnswerTheSame (trap threads) (spawn c f vs) = Unit {0}
AnswerTheSame (unlock m) (trap (not_held n)) = m ≡ n
AnswerTheSame (trap (not_held n)) (unlock m) = m ≡ n
AnswerTheSame (up s) (trap (overflow k)) = s ≡ k
AnswerTheSame (trap (overflow k)) (up s) = s ≡ k
AnswerTheSame (join c) (trap (not_spawned v)) = v ≡ pos c
AnswerTheSame (trap (not_spawned v)) (join c) = v ≡ pos c
AnswerTheSame a b = a ≡ b

pub record IsAlike (x y : Deed) : Type 0 where
  pub line : x.line ≡ y.line
  pub act : AnswerTheSame x.act y.act
