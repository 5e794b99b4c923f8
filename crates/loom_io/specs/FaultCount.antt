-- Counts of faults, by which an answer has its cause.
use Rattle.std.specs.Prelude.{ℕ, ◌+◌, ◌-◌, ◌^◌, ◌≤◌, min}

-- the next number of a count, which stands once it is at its end
abbrev pub next : ℕ → ℕ
next count = min (count + 1) (2 ^ 64 - 1)

-- a count rose, unless it stands at its end
abbrev pub Rose : ℕ → ℕ → Type 0
Rose before now = next before ≤ now
