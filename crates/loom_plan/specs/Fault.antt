-- What is told of a filter against a program: its first fault.
use Rattle.std.specs.Prelude.{ℕ, suc, ◌==◌, nat_lt, Bool, false, not, List, [], ◌∷◌, slice_get, Option, Some, None, if◌then◌else◌}
use Rattle.std.specs.Cmp.Lexicographic.{pointwise}
use Rattle.std.specs.Option.{option_or}
use Rattle.loom_tree.specs.Tree.{Expression, Function, Source}
use Rattle.loom_lang.specs.Rules.{locals_of}
use Rattle.loom_lang.specs.Numbers.{function_number}
use Rattle.loom_command.specs.Filter.{LineEvent, OrderStep, Region, between, whole, Clause, order, exclusive, unilateral, Filter}
use Rattle.loom_command.specs.FilterFault.{FilterFault}
use Rattle.loom_law.specs.FilterRefusal.{IsNameFault, names_only, params_at}
use Rattle.loom_law.specs.Judgement.{IsFirst, HasNone}
use Rattle.loom_plan.specs.declared.fault.Findings.{Findings}
use Rattle.loom_plan.specs.Statements.{function_on}

-- the first of such faults, or that there is none
abbrev pub TellsFirst : (FilterFault → Type 0) → Option FilterFault → Type 0
TellsFirst Q None = HasNone Q
TellsFirst Q (Some x) = IsFirst Q x

abbrev pub TellsNameFault : Source → List ℕ → Filter → Option FilterFault → Type 0
TellsNameFault p file f o = TellsFirst (IsNameFault p file f) o

-- The same by functions, which walk a filter as the code does.

-- a test names something else
abbrev pub is_foreign : List (List ℕ) → Option Expression → Bool
is_foreign xs None = false
is_foreign xs (Some e) = not (names_only xs e)

abbrev pub locals_if : Option Function → List (List ℕ)
locals_if None = []
locals_if (Some f) = locals_of f

-- the lesser of two numbers that may be there
abbrev pub lesser : Option ℕ → Option ℕ → Option ℕ
lesser None b = b
lesser (Some m) None = Some m
lesser (Some m) (Some n) = if nat_lt n m then Some n else Some m

-- the test of an event, in the function where its statement begins
abbrev pub test_fault : Source → Option ℕ → Option Expression → Option ℕ
test_fault p None test = Some 3
test_fault p (Some g) test = if is_foreign (locals_if (slice_get p.funcs g)) test then Some 4 else None

abbrev pub event_fault : Source → List ℕ → LineEvent → Option ℕ → Option ℕ
event_fault p file x at = if pointwise ◌==◌ x.file file then test_fault p at x.test else Some 2

-- an event in another function than one before it
abbrev pub split_fault : Option ℕ → Option ℕ → Option ℕ
split_fault None at = None
split_fault (Some g) None = None
split_fault (Some g) (Some h) = if g == h then None else Some 6

-- what events have shown: the least number so far, and the function of the first event at a statement
abbrev pub no_findings : Findings
no_findings = record { least = None; function = None }

abbrev pub with_event : Source → List ℕ → Findings → LineEvent → Option ℕ → Findings
with_event p file s x at =
    record { least = lesser s.least (lesser (event_fault p file x at) (split_fault s.function at)); function = option_or s.function at }

abbrev pub behind_events : Source → List ℕ → Findings → List LineEvent → Findings
behind_events p file s [] = s
behind_events p file s (x ∷ xs) = behind_events p file (with_event p file s x (function_on p x.line)) xs

-- the least number in an order
abbrev pub behind_steps : Source → List ℕ → Option ℕ → List OrderStep → Option ℕ
behind_steps p file least [] = least
behind_steps p file least (s ∷ ss) = behind_steps p file (lesser least (event_fault p file s.event (function_on p s.event.line))) ss

abbrev pub whole_fault : Source → Option ℕ → Option Expression → Option ℕ
whole_fault p None test = if is_foreign [] test then Some 4 else Some 10
whole_fault p (Some g) test = if is_foreign (params_at p (Some g)) test then Some 4 else None

abbrev pub region_fault : Source → List ℕ → Region → Option ℕ
region_fault p file (between es xs) = (behind_events p file (behind_events p file no_findings es) xs).least
region_fault p file (whole f test) = whole_fault p (function_number p f) test

abbrev pub behind_regions : Source → List ℕ → Option ℕ → List Region → Option ℕ
behind_regions p file least [] = least
behind_regions p file least (r ∷ rs) = behind_regions p file (lesser least (region_fault p file r)) rs

abbrev pub clause_fault : Source → List ℕ → Clause → Option ℕ
clause_fault p file (order ss) = behind_steps p file None ss
clause_fault p file (exclusive rs) = behind_regions p file None rs
clause_fault p file (unilateral r) = region_fault p file r

-- the clauses are counted from n
abbrev pub fault_at : ℕ → Option ℕ → Option FilterFault → Option FilterFault
fault_at n None behind = behind
fault_at n (Some number) behind = Some (record { clause = n; number = number })

abbrev pub first_from : Source → List ℕ → ℕ → Filter → Option FilterFault
first_from p file n [] = None
first_from p file n (c ∷ cs) = fault_at n (clause_fault p file c) (first_from p file (suc n) cs)
