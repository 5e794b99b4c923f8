-- Paths of a function, and the places that are unsafe for a filter.
use Rattle.std.specs.Prelude.{ℕ, zero, suc, ◌≡◌, ◌⊎◌, Bool, true, false, List, [], ◌∷◌, ◌++◌, Option, Some, None, slice_get}
use Rattle.std.specs.List.{Contains, list_any}
use Rattle.loom_tree.specs.Tree.{Expression, Right, Simple, let_, set, set_cell, return, Body, simple, if_, while_, Function, Source}
use Rattle.loom_tree.specs.Tree as tree
use Rattle.loom_lang.specs.Numbers.{function_number}
use Rattle.loom_lang.specs.Places.{Place, entry, inside, back_edge, out, body_places}
use Rattle.loom_law.specs.Filter.{Watch, statement, function, between, whole, Plan}
use Rattle.loom_law.specs.FilterView.{all_ranges}

-- The successors of a body's beginnings, completions and back edges; calls are stepped over, and tests are ignored

pub data Node : Type 0 where
  begins : ℕ → Node
  complete : ℕ → Node
  turns : ℕ → Node
  leaves : Node

abbrev pub first_node : Body → Node → Node
first_node tree.end behind = behind
first_node (simple l s rest) behind = begins l
first_node (if_ l e a b rest) behind = begins l
first_node (while_ l e a rest) behind = begins l

-- behind a statement: a `return` leaves the function
abbrev pub behind_simple : Simple Expression → Node → Node
behind_simple (return e) next = leaves
behind_simple s next = next

abbrev pub links : Body → Node → List (Node × Node)
links tree.end behind = []
links (simple l s rest) behind = (begins l, complete l) ∷ (complete l, behind_simple s (first_node rest behind)) ∷ links rest behind
links (if_ l e a b rest) behind =
    (begins l, first_node a (complete l)) ∷ (begins l, first_node b (complete l)) ∷ (complete l, first_node rest behind)
    ∷ (links a (complete l) ++ (links b (complete l) ++ links rest behind))
links (while_ l e a rest) behind =
    (begins l, first_node a (turns l)) ∷ (begins l, complete l) ∷ (turns l, first_node a (turns l)) ∷ (turns l, complete l)
    ∷ (complete l, first_node rest behind) ∷ (links a (turns l) ++ links rest behind)

abbrev pub links_of : Function → List (Node × Node)
links_of f = links f.body leaves

-- Statements

-- each statement of a body, those nested in others too, as a body of its own
abbrev pub statements : Body → List Body
statements tree.end = []
statements (simple l s rest) = simple l s tree.end ∷ statements rest
statements (if_ l e a b rest) = if_ l e a b tree.end ∷ (statements a ++ (statements b ++ statements rest))
statements (while_ l e a rest) = while_ l e a tree.end ∷ (statements a ++ statements rest)

abbrev pub others : List Body → List Body
others [] = []
others (x ∷ xs) = xs

abbrev pub is_simple_return : Simple Expression → Bool
is_simple_return (return e) = true
is_simple_return s = false

abbrev pub is_return : Body → Bool
is_return (simple l s rest) = is_simple_return s
is_return b = false

-- a `return` is nested in the statement, which isn't itself one
abbrev pub has_return : Body → Bool
has_return x = list_any is_return (others (statements x))

abbrev pub Begins : Body → ℕ → Type 0
Begins tree.end l = ⊥
Begins (simple m s rest) l = m ≡ l
Begins (if_ m e a b rest) l = m ≡ l
Begins (while_ m e a rest) l = m ≡ l

-- a statement of function g, which begins on line l
pub record IsStatement (p : Source) (g l : ℕ) (x : Body) : Type 0 where
  pub function : Function
  pub is : slice_get p.funcs g ≡ Some function
  pub there : Contains (statements function.body) x
  pub line : Begins x l

-- Functions that calls reach

abbrev pub called_right : Right Expression → Option (List ℕ)
called_right (Right.value e) = None
called_right (Right.call f es) = Some f
-- a `spawn` is no call
called_right (Right.spawn f es) = None

abbrev pub called : Simple Expression → Option (List ℕ)
called (let_ x r) = called_right r
called (set x r) = called_right r
called (Simple.call f es) = Some f
called _ = None

abbrev pub called_by : Body → Option (List ℕ)
called_by (simple l s rest) = called s
called_by b = None

-- one of these statements calls function h
pub record CallsFunction (p : Source) (xs : List Body) (h : ℕ) : Type 0 where
  pub statement : Body
  pub there : Contains xs statement
  pub name : List ℕ
  pub calls : called_by statement ≡ Some name
  pub number : function_number p name ≡ Some h

abbrev pub statements_in : Option Function → List Body
statements_in None = []
statements_in (Some f) = statements f.body

abbrev pub statements_of : Source → ℕ → List Body
statements_of p g = statements_in (slice_get p.funcs g)

-- calls in these statements reach function h
pub data Reaches (p : Source) (xs : List Body) : ℕ → Type 0 where
  calls : {h : ℕ} → CallsFunction p xs h → Reaches p xs h
  through : {g h : ℕ} → Reaches p xs g → CallsFunction p (statements_of p g) h → Reaches p xs h

abbrev pub places_in : ℕ → Option Function → List Place
places_in g None = []
places_in g (Some f) = entry g ∷ (body_places f.body ++ out g ∷ [])

abbrev pub places_of : Source → ℕ → List Place
places_of p g = places_in g (slice_get p.funcs g)

-- the place is one of a function that calls in these statements reach
pub record IsReached (p : Source) (xs : List Body) (y : Place) : Type 0 where
  pub function : ℕ
  pub reached : Reaches p xs function
  pub there : Contains (places_of p function) y

-- Unsafe places

-- what an event watches
abbrev pub watch_at : Plan → ℕ → Option Watch
watch_at f zero = None
watch_at f (suc n) = slice_get f.watches n

-- by an event with a line: the places of its statement and of the statements inside it, the out place if a `return` stands inside the statement, and
-- all places of the functions that their calls reach
pub record IsUnsafeByEvent (p : Source) (f : Plan) (y : Place) : Type 0 where
  pub event : ℕ
  pub watch : Watch
  pub is : watch_at f event ≡ Some watch
  pub line : ℕ
  pub site : watch.site ≡ statement line
  pub function : ℕ
  pub body : Body
  pub there : IsStatement p function line body
  pub place : Contains (body_places body) y ⊎ (((has_return body ≡ true) × (y ≡ out function)) ⊎ IsReached p (statements body) y)

-- an exit event of these that has no test is complete there
pub record IsExit (f : Plan) (xs : List ℕ) (l : ℕ) : Type 0 where
  pub event : ℕ
  pub one : Contains xs event
  pub is : watch_at f event ≡ Some (record { site = statement l; test = None })

abbrev pub Halts : Plan → List ℕ → Node → Type 0
Halts f xs (complete l) = IsExit f xs l
Halts f xs _ = ⊥

-- a path, without the completion of such an exit event
pub data Comes (ls : List (Node × Node)) (f : Plan) (xs : List ℕ) (start : Node) : Node → Type 0 where
  here : Comes ls f xs start start
  goes : {m n : Node} → Comes ls f xs start m → Contains ls (m, n) → (Halts f xs n → ⊥) → Comes ls f xs start n

-- The places that a path reaches with a node. A statement that begins or is complete has its own; at a back edge the loop has both.
abbrev pub node_places : ℕ → Node → List Place
node_places g (begins l) = inside l ∷ []
node_places g (complete l) = inside l ∷ []
node_places g (turns l) = back_edge l ∷ inside l ∷ []
node_places g leaves = out g ∷ []

-- the place is one of a function that calls at this node reach
abbrev pub IsReachedAt : Source → ℕ → Node → Place → Type 0
IsReachedAt p g (begins l) y = (x : Body) × IsStatement p g l x × IsReached p (x ∷ []) y
IsReachedAt p g n y = ⊥

-- by a region between events: what a path from one of its entry events reaches
pub record IsUnsafeByPath (p : Source) (f : Plan) (y : Place) : Type 0 where
  pub entries : List ℕ
  pub exits : List ℕ
  pub region : Contains (all_ranges f) (between entries exits)
  pub event : ℕ
  pub one : Contains entries event
  pub watch : Watch
  pub is : watch_at f event ≡ Some watch
  pub line : ℕ
  pub site : watch.site ≡ statement line
  pub function : Function
  pub number : ℕ
  pub of_number : slice_get p.funcs number ≡ Some function
  pub there : (x : Body) × IsStatement p number line x
  pub node : Node
  pub comes : Comes (links_of function) f exits (begins line) node
  pub place : Contains (node_places number node) y ⊎ IsReachedAt p number node y

-- by a region that is a function: each of its places but the entry place
pub record IsUnsafeByFunction (p : Source) (f : Plan) (y : Place) : Type 0 where
  pub event : ℕ
  pub region : Contains (all_ranges f) (whole event)
  pub watch : Watch
  pub is : watch_at f event ≡ Some watch
  pub number : ℕ
  pub site : watch.site ≡ function (Some number)
  pub place : (Contains (places_of p number) y × (y ≡ entry number → ⊥)) ⊎ IsReached p (statements_of p number) y

abbrev pub IsUnsafe : Source → Plan → Place → Type 0
IsUnsafe p f y = IsUnsafeByEvent p f y ⊎ (IsUnsafeByPath p f y ⊎ IsUnsafeByFunction p f y)
