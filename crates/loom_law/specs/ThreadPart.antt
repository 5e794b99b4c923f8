-- The part of a thread, where it stands, and what it is inside.
use Rattle.std.specs.Prelude.{ℕ, ◌≡◌, Bool, true, List, [], ◌∷◌, ◌++◌, ℤ, Option, Some, None}
use Rattle.std.specs.List.{AllByRecursion}
use Rattle.loom_tree.specs.Tree.{Source}
use Rattle.loom_trace.specs.declared.entry.Entry.{Entry}
use Rattle.loom_lang.specs.Places.{Place}
use Rattle.loom_lang.specs.Trace.{Item, made, Outcome, Open, IsTrace}
use Rattle.loom_lang.specs.Acts.{Deed}
use Rattle.loom_trace.specs.declared.request.Request.{Request}
use Rattle.loom_event.specs.Answer.{grant_deed, trap_deed}
use Rattle.loom_law.specs.Walk.{Version, Plans, Operation, cross, entry_of_operation, PartStep, items, filter_entries, Inside, Spot, left, Walk, unborn, all_inside, is_inside_clause, walk_from, request_place, place_of_next, AreWoven}

-- what is a thread's own: its number, function and arguments, the versions that it went over to, and its entries
pub record Own : Type 0 where
  pub thread : ℕ
  pub func : ℕ
  pub args : List ℤ
  pub versions : List Version
  pub entries : List Entry

-- where these steps lead it
abbrev pub walk_of : Source → Plans → Own → List PartStep → Walk
walk_of p plans x steps = walk_from p plans (unborn x.versions) steps

-- Its entries are those of a full part: the items of a trace of its function with its arguments, and woven in what filters make it do. It has
-- taken these versions and no others.
pub record IsPart (p : Source) (plans : Plans) (x : Own) : Type 0 where
  pub steps : List PartStep
  -- what the tree gives behind them
  pub ahead : List Item
  pub outcome : Outcome
  pub trace : IsTrace p x.func x.args (items steps ++ ahead) outcome
  pub woven : AreWoven p plans (unborn x.versions) steps ahead
  pub tells : filter_entries x.thread steps ≡ x.entries
  pub taken : (walk_of p plans x steps).coming ≡ []

-- A point of the full part behind its last entry, with what comes next in the tree: there may be marks between.
pub record Point (p : Source) (plans : Plans) (x : Own) : Type 0 where
  pub steps : List PartStep
  pub next : Item
  pub trace : IsTrace p x.func x.args (items steps ++ next ∷ []) Open
  pub woven : AreWoven p plans (unborn x.versions) steps (next ∷ [])
  pub tells : filter_entries x.thread steps ≡ x.entries
  pub taken : (walk_of p plans x steps).coming ≡ []

-- The place at this point: that of the mark or the request that comes next. Before any other mark there is none.
abbrev pub IsPlaceOf : (p : Source) (plans : Plans) (x : Own) → Point p plans x → Place → Type 0
IsPlaceOf p plans x h y = place_of_next (walk_of p plans x h.steps) (walk_of p plans x h.steps).owed (h.next ∷ []) ≡ Some y

-- A begun thread stands at a place: it comes to it behind its last entry, before or with its next request.
pub record ComesTo (p : Source) (plans : Plans) (x : Own) (y : Place) : Type 0 where
  pub point : Point p plans x
  pub place : IsPlaceOf p plans x point y

-- The last step of a part is that of its last entry: these steps stand before it.
pub record HasMoved (p : Source) (plans : Plans) (x : Own) (before : List PartStep) : Type 0 where
  pub last : PartStep
  pub ahead : List Item
  pub outcome : Outcome
  pub trace : IsTrace p x.func x.args (items (before ++ last ∷ []) ++ ahead) outcome
  pub woven : AreWoven p plans (unborn x.versions) (before ++ last ∷ []) ahead
  pub entry : Entry
  pub is : filter_entries x.thread (last ∷ []) ≡ entry ∷ []
  pub tells : filter_entries x.thread (before ++ last ∷ []) ≡ x.entries

-- The thread keeps away from such places: since its last entry it passed none of them, and isn't blocked at one.
pub record KeepsAway (away : Place → Type 0) (z : Walk) : Type 0 where
  pub passed : AllByRecursion (λ y. away y → ⊥) z.passed
  pub stood : z.is_blocked ≡ true → away (request_place z) → ⊥

-- Inside a region of this clause

abbrev pub leaving : Spot → List Inside
leaving (left f is) = is
leaving _ = []

abbrev pub is_inside : Walk → ℕ → ℕ → Bool
is_inside z k c = is_inside_clause (all_inside z.frames ++ leaving z.spot) k c

pub record IsInside (p : Source) (plans : Plans) (x : Own) (k c : ℕ) : Type 0 where
  pub part : IsPart p plans x
  pub is : is_inside (walk_of p plans x part.steps) k c ≡ true

-- What it asks for next

abbrev pub with_entry : Own → Entry → Own
with_entry x y = record x { entries = x.entries ++ y ∷ [] }

-- an operation that needs no new version: with its entry the entries are a part
abbrev pub AsksToMake : Source → Plans → Own → ℕ → Operation → Type 0
AsksToMake p plans x l o = IsPart p plans (with_entry x (entry_of_operation x.thread l o))

-- a new version, with `Cross`
abbrev pub AsksToCross : Source → Plans → Own → ℕ → ℕ → ℕ → Version → Type 0
AsksToCross p plans x l y n v =
    IsPart p plans (record x { versions = x.versions ++ v ∷ []; entries = x.entries ++ entry_of_operation x.thread l (cross y v.number n) ∷ [] })

-- an act: nothing is owed, and each answer goes on the trace
abbrev pub GoesOn : Source → Own → List PartStep → Option Deed → Type 0
GoesOn p x steps None = Unit {0}
GoesOn p x steps (Some d) = IsTrace p x.func x.args (items steps ++ made d.line d.act ∷ []) Open

pub record AsksToAct (p : Source) (plans : Plans) (x : Own) (q : Request) : Type 0 where
  pub steps : List PartStep
  -- what stands before is as the tree gives it with this request next
  pub next : Item
  pub trace : IsTrace p x.func x.args (items steps ++ next ∷ []) Open
  pub woven : AreWoven p plans (unborn x.versions) steps (next ∷ [])
  pub tells : filter_entries x.thread steps ≡ x.entries
  pub taken : (walk_of p plans x steps).coming ≡ []
  pub rests : (walk_of p plans x steps).owed ≡ []
  pub granted : (v : ℤ) → GoesOn p x steps (grant_deed q v)
  pub trapped : GoesOn p x steps (trap_deed q)
