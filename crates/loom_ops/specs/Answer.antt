-- How a thread is answered that wants to enter a clause, or waits for an event of an order.
use Rattle.std.specs.Prelude.{ℕ, ◌≡◌, ◌<◌, ◌≤◌, ◌==◌, Bool, true, false, Option, Some, None}
use Rattle.loom_trace.specs.declared.entry.What.{What}
use Rattle.loom_trace.specs.declared.entry.What.TheVariants as w
use Rattle.loom_ops.specs.declared.answer.OpAnswer.{OpAnswer}
use Rattle.loom_ops.specs.declared.answer.OpAnswer.TheVariants as a
use Rattle.loom_ops.specs.Ops.{Ops, has_holder, is_holder, with_holder}

-- Thread t enters where nobody holds the clause. Else another thread is named that holds it, and nothing changes.
abbrev pub AnswersEnter : Ops → ℕ → ℕ → ℕ → OpAnswer → Ops → Type 0
AnswersEnter old t k c a.Granted new = (has_holder old.holders k c ≡ false) × (new ≡ with_holder old k c t)
AnswersEnter old t k c (a.Held m by) new = (m ≡ c) × (((by == t) ≡ false) × ((is_holder old.holders k c by ≡ true) × (new ≡ old)))
AnswersEnter old t k c (a.Short m n) new = ⊥

-- the event before was posted as often as it must be
abbrev pub IsPosted : Option (ℕ × ℕ) → (ℕ → ℕ) → Type 0
IsPosted None posted = Unit {0}
IsPosted (Some x) posted = x.1 ≤ posted x.0

-- it is event m, which was posted n times, and that is too seldom
abbrev pub IsTooSeldom : Option (ℕ × ℕ) → (ℕ → ℕ) → ℕ → ℕ → Type 0
IsTooSeldom None posted m n = ⊥
IsTooSeldom (Some x) posted m n = (m ≡ x.0) × ((n ≡ posted x.0) × (n < x.1))

-- A wait is over where the event before was posted as often as it must be. Else that event is named, and how often it was posted. What waits for no
-- other event is over at once.
abbrev pub AnswersWait : Option (ℕ × ℕ) → (ℕ → ℕ) → OpAnswer → Type 0
AnswersWait b posted a.Granted = IsPosted b posted
AnswersWait b posted (a.Held m by) = ⊥
AnswersWait b posted (a.Short m n) = IsTooSeldom b posted m n

abbrev pub is_short : OpAnswer → Bool
is_short (a.Short m n) = true
is_short a.Granted = false
is_short (a.Held m by) = false

-- A thread wants to enter a clause, or waits for an event of an order.
abbrev pub IsForClause : What → Type 0
IsForClause (w.Enter k c) = Unit {0}
IsForClause (w.Wait k n) = Unit {0}
IsForClause _ = ⊥
