-- The least number that something has.
use Rattle.std.proofs.Common.{ℕ, ◌≡◌, ◌⊎◌, ◌≤◌, nat_lt, Option, Some, None, refl, inl, inr, arith}
use Rattle.std.proofs.lemmas.Bool.{ltb-true, ltb-false}
use Rattle.loom_law.proofs.Holdings.{either_of, pick}
use Rattle.loom_plan.specs.Fault.{lesser}

abbrev pub TellsLeast : (ℕ → Type 0) → Option ℕ → Type 0
TellsLeast Q None = (n : ℕ) → Q n → ⊥
TellsLeast Q (Some n) = Q n × ((m : ℕ) → Q m → n ≤ m)

-- the same numbers
pub same_numbers : (Q R : ℕ → Type 0) → ((n : ℕ) → Q n → R n) → ((n : ℕ) → R n → Q n) → (o : Option ℕ) → TellsLeast Q o → TellsLeast R o
same_numbers Q R f g None h = λ n k. h n (g n k)
same_numbers Q R f g (Some n) h = (f n h.0, λ m k. h.1 m (g m k))

-- the numbers of either
pub in_either : (Q R : ℕ → Type 0) (a b : Option ℕ) → TellsLeast Q a → TellsLeast R b → TellsLeast (λ n. Q n ⊎ R n) (lesser a b)
in_either Q R None None h k = λ n x. either_of x (λ q. h n q) (λ r. k n r)
in_either Q R None (Some b) h k = (inr k.0, λ m x. either_of x (λ q. absurd (h m q)) (λ r. k.1 m r))
in_either Q R (Some a) None h k = (inl h.0, λ m x. either_of x (λ q. h.1 m q) (λ r. absurd (k m r)))
in_either Q R (Some a) (Some b) h k =
    pick (TellsLeast (λ n. Q n ⊎ R n)) (nat_lt b a) (Some b) (Some a)
    (λ e. let less = ltb-true b a e in (inr k.0, λ m x. either_of x (λ q. let g = h.1 m q in omega (arith, less, g)) (λ r. k.1 m r)))
    (λ e. let less = ltb-false b a e in (inl h.0, λ m x. either_of x (λ q. h.1 m q) (λ r. let g = k.1 m r in omega (arith, less, g))))

-- one number, where something holds
pub that_number : (k : ℕ) (P : Type 0) → P → TellsLeast (λ n. (n ≡ k) × P) (Some k)
that_number k P p = ((refl, p), λ m x. let e = x.0 in omega (arith, e))

pub no_number : (k : ℕ) (P : Type 0) → (P → ⊥) → TellsLeast (λ n. (n ≡ k) × P) None
no_number k P f = λ n x. f x.1
