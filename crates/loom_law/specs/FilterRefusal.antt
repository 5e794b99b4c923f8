-- Why a filter is refused for a program: what it names isn't there, or a region is entered again within itself, or two nest.
use Rattle.std.specs.Prelude.{ℕ, suc, ◌≡◌, ◌⊎◌, Bool, true, false, ◌&&◌, List, [], ◌∷◌, ◌++◌, map, slice_get, Option, Some, None}
use Rattle.std.specs.List.{Contains}
use Rattle.loom_tree.specs.Tree.{Expression, num, var, cell, neg, inverse, bin, Body, Function, Source}
use Rattle.loom_lang.specs.Numbers.{function_number}
use Rattle.loom_lang.specs.Rules.{is_in, locals_of}
use Rattle.loom_command.specs.Filter.{LineEvent, OrderStep, Region, between, whole, Clause, order, exclusive, unilateral, Filter}
use Rattle.loom_command.specs.FilterFault.{FilterFault}
use Rattle.loom_law.specs.Filter.{Watch, statement, function, Range, Ruling, Plan, entry_events, ranges_of}
use Rattle.loom_law.specs.Filter as plan
use Rattle.loom_law.specs.Paths.{Node, begins, links_of, IsStatement, statements_of, Reaches, watch_at, Comes}

-- Names

-- Tests name locals alone.
abbrev pub names_only : List (List ℕ) → Expression → Bool
names_only xs (num n) = true
names_only xs (var x) = is_in x xs
names_only xs (cell x i) = false
names_only xs (neg a) = names_only xs a
names_only xs (inverse a) = names_only xs a
names_only xs (bin o a b) = names_only xs a && names_only xs b

-- a statement of function g begins on the line
abbrev pub HasStatement : Source → ℕ → ℕ → Type 0
HasStatement p l g = (x : Body) × IsStatement p g l x

-- the names that a test may have at a line: the locals of its function, where there is one
abbrev pub AreLocalsAt : Source → ℕ → List (List ℕ) → Type 0
AreLocalsAt p l xs =
    ((g : ℕ) × ((f : Function) × ((slice_get p.funcs g ≡ Some f) × (HasStatement p l g × (xs ≡ locals_of f)))))
    ⊎ (((g : ℕ) → HasStatement p l g → ⊥) × (xs ≡ []))

-- and for a function: its parameters
abbrev pub params_in : Option Function → List (List ℕ)
params_in None = []
params_in (Some f) = f.params

abbrev pub params_at : Source → Option ℕ → List (List ℕ)
params_at p None = []
params_at p (Some g) = params_in (slice_get p.funcs g)

abbrev pub IsForeign : List (List ℕ) → Option Expression → Type 0
IsForeign xs None = ⊥
IsForeign xs (Some e) = names_only xs e ≡ false

-- An event is of another file; no statement begins on its line; its test names something else than a local.
abbrev pub HasEventFault : Source → List ℕ → LineEvent → ℕ → Type 0
HasEventFault p file x number =
    ((number ≡ 2) × (x.file ≡ file → ⊥))
    ⊎ (((number ≡ 3) × ((x.file ≡ file) × ((g : ℕ) → HasStatement p x.line g → ⊥)))
    ⊎ ((number ≡ 4) × ((xs : List (List ℕ)) × (AreLocalsAt p x.line xs × IsForeign xs x.test))))

abbrev pub HasEventFaults : Source → List ℕ → List LineEvent → ℕ → Type 0
HasEventFaults p file [] number = ⊥
HasEventFaults p file (x ∷ xs) number = HasEventFault p file x number ⊎ HasEventFaults p file xs number

-- Two events of a region stand in different functions.
pub record IsSplit (p : Source) (xs : List LineEvent) : Type 0 where
  pub one : LineEvent
  pub other : LineEvent
  pub has_one : Contains xs one
  pub has_other : Contains xs other
  pub first : ℕ
  pub second : ℕ
  pub at_first : HasStatement p one.line first
  pub at_second : HasStatement p other.line second
  pub apart : first ≡ second → ⊥

abbrev pub HasRegionFault : Source → List ℕ → Region → ℕ → Type 0
HasRegionFault p file (between es xs) number = HasEventFaults p file (es ++ xs) number ⊎ ((number ≡ 6) × IsSplit p (es ++ xs))
HasRegionFault p file (whole f test) number =
    ((number ≡ 4) × IsForeign (params_at p (function_number p f)) test) ⊎ ((number ≡ 10) × (function_number p f ≡ None))

abbrev pub HasRegionFaults : Source → List ℕ → List Region → ℕ → Type 0
HasRegionFaults p file [] number = ⊥
HasRegionFaults p file (r ∷ rs) number = HasRegionFault p file r number ⊎ HasRegionFaults p file rs number

abbrev pub HasClauseFault : Source → List ℕ → Clause → ℕ → Type 0
HasClauseFault p file (order ss) number = HasEventFaults p file (map (λ (s : OrderStep). s.event) ss) number
HasClauseFault p file (exclusive rs) number = HasRegionFaults p file rs number
HasClauseFault p file (unilateral r) number = HasRegionFault p file r number

-- a clause of these has the fault; the first has this number
abbrev pub IsNameFaultFrom : Source → List ℕ → ℕ → Filter → FilterFault → Type 0
IsNameFaultFrom p file n [] x = ⊥
IsNameFaultFrom p file n (c ∷ cs) x = ((x.clause ≡ n) × HasClauseFault p file c x.number) ⊎ IsNameFaultFrom p file (suc n) cs x

-- What the filter names isn't in the program, or isn't where it says.
abbrev pub IsNameFault : Source → List ℕ → Filter → FilterFault → Type 0
IsNameFault p file f x = IsNameFaultFrom p file 1 f x

-- Regions

-- A path of function g comes to this node in the region, from one of its entry events.
pub record ComesInside (p : Source) (f : Plan) (es xs : List ℕ) (g : ℕ) (node : Node) : Type 0 where
  pub event : ℕ
  pub one : Contains es event
  pub watch : Watch
  pub is : watch_at f event ≡ Some watch
  pub line : ℕ
  pub site : watch.site ≡ statement line
  pub there : HasStatement p line g
  pub function : Function
  pub of_number : slice_get p.funcs g ≡ Some function
  pub comes : Comes (links_of function) f xs (begins line) node

-- the function of an event that watches it
abbrev pub IsWholeOf : Plan → ℕ → ℕ → Type 0
IsWholeOf f n g = (w : Watch) × ((watch_at f n ≡ Some w) × (w.site ≡ function (Some g)))

-- The region lies in function g.
abbrev pub LiesIn : Source → Plan → Range → ℕ → Type 0
LiesIn p f (plan.between es xs) g = (node : Node) × ComesInside p f es xs g node
LiesIn p f (plan.whole n) g = IsWholeOf f n g

-- Calls that are made inside the region reach function h.
abbrev pub CallsFrom : Source → Plan → Range → ℕ → Type 0
CallsFrom p f (plan.between es xs) h =
    (g : ℕ) × ((l : ℕ) × ((x : Body) × (ComesInside p f es xs g (begins l) × (IsStatement p g l x × Reaches p (x ∷ []) h))))
CallsFrom p f (plan.whole n) h = (g : ℕ) × (IsWholeOf f n g × Reaches p (statements_of p g) h)

-- The function of the region is reached by calls inside it.
abbrev pub IsReentered : Source → Plan → Range → Type 0
IsReentered p f r = (g : ℕ) × (LiesIn p f r g × CallsFrom p f r g)

-- a statement of function g on this line can begin inside the region, in its own frame
abbrev pub HasInside : Source → Plan → Range → ℕ → ℕ → Type 0
HasInside p f (plan.between es xs) g l = ComesInside p f es xs g (begins l)
HasInside p f (plan.whole n) g l = IsWholeOf f n g

-- both are the same function
abbrev pub AreWholeOf : Plan → Range → ℕ → ℕ → Type 0
AreWholeOf f (plan.between es xs) n g = ⊥
AreWholeOf f (plan.whole m) n g = IsWholeOf f m g

-- The event can begin inside the region: at a statement to which a path comes from the region's entry, or in a function that is called from there.
abbrev pub BeginsInside : Source → Plan → Range → ℕ → Type 0
BeginsInside p f r n =
    ((w : Watch) × ((l : ℕ) × ((g : ℕ) × ((watch_at f n ≡ Some w) × ((w.site ≡ statement l) × (HasStatement p l g × (HasInside p f r g l ⊎ CallsFrom p f r g)))))))
    ⊎ ((g : ℕ) × (IsWholeOf f n g × (AreWholeOf f r n g ⊎ CallsFrom p f r g)))

abbrev pub Nests : Source → Plan → Range → Range → Type 0
Nests p f r s = (n : ℕ) × (Contains (entry_events s) n × BeginsInside p f r n)

-- an entry event of one can begin inside another
abbrev pub NestsAmong : Source → Plan → Range → List Range → Type 0
NestsAmong p f r [] = ⊥
NestsAmong p f r (s ∷ ss) = (Nests p f r s ⊎ Nests p f s r) ⊎ NestsAmong p f r ss

abbrev pub AreNested : Source → Plan → List Range → Type 0
AreNested p f [] = ⊥
AreNested p f (r ∷ rs) = NestsAmong p f r rs ⊎ AreNested p f rs

abbrev pub HasReentered : Source → Plan → List Range → Type 0
HasReentered p f [] = ⊥
HasReentered p f (r ∷ rs) = IsReentered p f r ⊎ HasReentered p f rs

abbrev pub HasPathFault : Source → Plan → Ruling → ℕ → Type 0
HasPathFault p f r number = ((number ≡ 7) × HasReentered p f (ranges_of r)) ⊎ ((number ≡ 8) × AreNested p f (ranges_of r))

abbrev pub IsPathFaultFrom : Source → Plan → ℕ → List Ruling → FilterFault → Type 0
IsPathFaultFrom p f n [] x = ⊥
IsPathFaultFrom p f n (r ∷ rs) x = ((x.clause ≡ n) × HasPathFault p f r x.number) ⊎ IsPathFaultFrom p f (suc n) rs x

-- A region is entered again inside it, or two regions of a clause nest.
abbrev pub IsPathFault : Source → Plan → FilterFault → Type 0
IsPathFault p f x = IsPathFaultFrom p f 1 f.rulings x
