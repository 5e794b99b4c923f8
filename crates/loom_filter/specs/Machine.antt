-- A reader of one token after another, for whatever it builds: forms, or trees with what is asked of counts.
use Rattle.std.specs.Prelude.{ℕ, Bool, true, false, not, ◌&&◌, if◌then◌else◌, List, [], ◌∷◌, ◌++◌, Option, Some, None}
use Rattle.loom_expression.specs.Reader.{after}
use Rattle.loom_filter.specs.declared.scan.FilterSign.{FilterSign}
use Rattle.loom_filter.specs.declared.scan.FilterSign.TheVariants as g
use Rattle.loom_filter.specs.Words.{number_by}
use Rattle.loom_filter.specs.Token.{FilterToken, name, word, sign, test}

-- How the parts of a filter are put together: tests T, events E, steps S, regions R, clauses C. A number comes as its
-- digits and as its value; lists come as what stands before the last, and the last.
pub record FilterBuilder (T E S R C : Type 0) : Type 0 where
  pub event : List ℕ → List ℕ → ℕ → E
  pub tested : E → T → E
  pub uncounted : E → S
  pub counted : E → List ℕ → ℕ → S
  pub between : List S → S → List S → S → R
  pub function : List ℕ → Option T → R
  -- the first step, those behind it, and the last
  pub order : S → List S → S → C
  pub exclusive : List R → R → C
  pub unilateral : R → C

-- Steps: what was read, named by what must follow

pub data StepReader (E S : Type 0) : Type 0 where
  File : StepReader E S
  Colon : List ℕ → StepReader E S
  Line : List ℕ → StepReader E S
  -- a test, a count, or what is behind the step
  Untested : E → StepReader E S
  Tested : E → StepReader E S
  Count : E → StepReader E S
  CountEnd : S → StepReader E S
  Counted : S → StepReader E S

abbrev pub line_of : {T E S R C : Type 0} → FilterBuilder T E S R C → List ℕ → List ℕ → Option ℕ → Option (StepReader E S)
line_of b f w None = None
line_of b f w (Some n) = Some (Untested (b.event f w n))

abbrev pub step_with_count : {T E S R C : Type 0} → FilterBuilder T E S R C → E → List ℕ → Option ℕ → Option (StepReader E S)
step_with_count b e w None = None
step_with_count b e w (Some n) = Some (CountEnd (b.counted e w n))

-- a sign behind an event, with a test or without
abbrev pub event_sign : {E S : Type 0} → E → FilterSign → Option (StepReader E S)
event_sign e g.BraceOpen = Some (Count e)
event_sign e _ = None

abbrev pub colon_sign : {E S : Type 0} → List ℕ → FilterSign → Option (StepReader E S)
colon_sign f g.Colon = Some (Line f)
colon_sign f _ = None

abbrev pub count_end : {E S : Type 0} → S → FilterSign → Option (StepReader E S)
count_end s g.BraceClose = Some (Counted s)
count_end s _ = None

abbrev pub feed_step : {T E S R C : Type 0} → FilterBuilder T E S R C → StepReader E S → FilterToken T → Option (StepReader E S)
feed_step b File (name f) = Some (Colon f)
feed_step b File (word f) = Some (Colon f)
feed_step b File (sign s) = None
feed_step b File (test x) = None
feed_step b (Colon f) (name w) = None
feed_step b (Colon f) (word w) = None
feed_step b (Colon f) (sign s) = colon_sign f s
feed_step b (Colon f) (test x) = None
feed_step b (Line f) (name w) = None
feed_step b (Line f) (word w) = line_of b f w (number_by w)
feed_step b (Line f) (sign s) = None
feed_step b (Line f) (test x) = None
feed_step b (Untested e) (name w) = None
feed_step b (Untested e) (word w) = None
feed_step b (Untested e) (sign s) = event_sign e s
feed_step b (Untested e) (test x) = Some (Tested (b.tested e x))
feed_step b (Tested e) (name w) = None
feed_step b (Tested e) (word w) = None
feed_step b (Tested e) (sign s) = event_sign e s
feed_step b (Tested e) (test x) = None
feed_step b (Count e) (name w) = None
feed_step b (Count e) (word w) = step_with_count b e w (number_by w)
feed_step b (Count e) (sign s) = None
feed_step b (Count e) (test x) = None
feed_step b (CountEnd s) (name w) = None
feed_step b (CountEnd s) (word w) = None
feed_step b (CountEnd s) (sign z) = count_end s z
feed_step b (CountEnd s) (test x) = None
feed_step b (Counted s) t = None

-- the step that ends here
abbrev pub finish_step : {T E S R C : Type 0} → FilterBuilder T E S R C → StepReader E S → Option S
finish_step b (Untested e) = Some (b.uncounted e)
finish_step b (Tested e) = Some (b.uncounted e)
finish_step b (Counted s) = Some s
finish_step b _ = None

abbrev pub is_in_count : {E S : Type 0} → StepReader E S → Bool
is_in_count (CountEnd s) = true
is_in_count _ = false

-- Regions

pub data RegionReader (E S R : Type 0) : Type 0 where
  Region : RegionReader E S R
  Call : List ℕ → RegionReader E S R
  -- a test, or what is behind the region
  Bare : List ℕ → RegionReader E S R
  -- the entries before this one
  Entries : List S → StepReader E S → RegionReader E S R
  -- the entries, and the exits before this one
  Exits : List S → S → List S → StepReader E S → RegionReader E S R
  Whole : R → RegionReader E S R

abbrev pub region_sign : {E S R : Type 0} → FilterSign → Option (RegionReader E S R)
region_sign g.BraceOpen = Some (Entries [] File)
region_sign _ = None

abbrev pub call_sign : {E S R : Type 0} → List ℕ → FilterSign → Option (RegionReader E S R)
call_sign f g.Call = Some (Bare f)
call_sign f _ = None

-- the step of a region goes on
abbrev pub entries_by : {E S R : Type 0} → List S → Option (StepReader E S) → Option (RegionReader E S R)
entries_by es z = after z (λ r. Some (Entries es r))

abbrev pub exit_by : {E S R : Type 0} → List S → S → List S → Option (StepReader E S) → Option (RegionReader E S R)
exit_by es e xs z = after z (λ r. Some (Exits es e xs r))

abbrev pub entries_sign : {T E S R C : Type 0} → FilterBuilder T E S R C → List S → StepReader E S → FilterSign → Option (RegionReader E S R)
entries_sign b es r g.Comma = after (finish_step b r) (λ e. Some (Entries (es ++ e ∷ []) File))
entries_sign b es r g.Semicolon = after (finish_step b r) (λ e. Some (Exits es e [] File))
entries_sign b es r s = entries_by es (feed_step b r (sign s))

abbrev pub exits_close : {T E S R C : Type 0} → FilterBuilder T E S R C → List S → S → List S → StepReader E S → Option (RegionReader E S R)
exits_close b es e xs r =
    if is_in_count r then exit_by es e xs (feed_step b r (sign g.BraceClose))
    else after (finish_step b r) (λ x. Some (Whole (b.between es e xs x)))

abbrev pub exits_sign : {T E S R C : Type 0} → FilterBuilder T E S R C → List S → S → List S → StepReader E S → FilterSign → Option (RegionReader E S R)
exits_sign b es e xs r g.Comma = after (finish_step b r) (λ x. Some (Exits es e (xs ++ x ∷ []) File))
exits_sign b es e xs r g.BraceClose = exits_close b es e xs r
exits_sign b es e xs r s = exit_by es e xs (feed_step b r (sign s))

abbrev pub entries_token : {T E S R C : Type 0} → FilterBuilder T E S R C → List S → StepReader E S → FilterToken T → Option (RegionReader E S R)
entries_token b es r (sign s) = entries_sign b es r s
entries_token b es r t = entries_by es (feed_step b r t)

abbrev pub exits_token : {T E S R C : Type 0} → FilterBuilder T E S R C → List S → S → List S → StepReader E S → FilterToken T → Option (RegionReader E S R)
exits_token b es e xs r (sign s) = exits_sign b es e xs r s
exits_token b es e xs r t = exit_by es e xs (feed_step b r t)

abbrev pub feed_region : {T E S R C : Type 0} → FilterBuilder T E S R C → RegionReader E S R → FilterToken T → Option (RegionReader E S R)
feed_region b Region (name f) = Some (Call f)
feed_region b Region (word w) = None
feed_region b Region (sign s) = region_sign s
feed_region b Region (test x) = None
feed_region b (Call f) (name w) = None
feed_region b (Call f) (word w) = None
feed_region b (Call f) (sign s) = call_sign f s
feed_region b (Call f) (test x) = None
feed_region b (Bare f) (name w) = None
feed_region b (Bare f) (word w) = None
feed_region b (Bare f) (sign s) = None
feed_region b (Bare f) (test x) = Some (Whole (b.function f (Some x)))
feed_region b (Entries es r) t = entries_token b es r t
feed_region b (Exits es e xs r) t = exits_token b es e xs r t
feed_region b (Whole x) t = None

abbrev pub finish_region : {T E S R C : Type 0} → FilterBuilder T E S R C → RegionReader E S R → Option R
finish_region b (Bare f) = Some (b.function f None)
finish_region b (Whole x) = Some x
finish_region b _ = None

abbrev pub is_in_braces : {E S R : Type 0} → RegionReader E S R → Bool
is_in_braces (Entries es r) = true
is_in_braces (Exits es e xs r) = true
is_in_braces _ = false

-- Clauses

pub data ClauseReader (E S R : Type 0) : Type 0 where
  Begin : ClauseReader E S R
  -- a name: of a file, or of a function
  Named : List ℕ → ClauseReader E S R
  Order : List S → StepReader E S → ClauseReader E S R
  Regions : List R → RegionReader E S R → ClauseReader E S R
  Unilateral : R → ClauseReader E S R

pub data ClauseNext (E S R C : Type 0) : Type 0 where
  Goes : ClauseReader E S R → ClauseNext E S R C
  Ends : C → ClauseNext E S R C

abbrev pub begin_sign : {E S R : Type 0} → FilterSign → Option (ClauseReader E S R)
begin_sign g.BraceOpen = Some (Regions [] (Entries [] File))
begin_sign _ = None

abbrev pub named_sign : {E S R : Type 0} → List ℕ → FilterSign → Option (ClauseReader E S R)
named_sign f g.Colon = Some (Order [] (Line f))
named_sign f g.Call = Some (Regions [] (Bare f))
named_sign f _ = None

abbrev pub order_by : {E S R : Type 0} → List S → Option (StepReader E S) → Option (ClauseReader E S R)
order_by ss z = after z (λ r. Some (Order ss r))

abbrev pub order_sign : {T E S R C : Type 0} → FilterBuilder T E S R C → List S → StepReader E S → FilterSign → Option (ClauseReader E S R)
order_sign b ss r g.Before = after (finish_step b r) (λ s. Some (Order (ss ++ s ∷ []) File))
order_sign b ss r s = order_by ss (feed_step b r (sign s))

abbrev pub order_token : {T E S R C : Type 0} → FilterBuilder T E S R C → List S → StepReader E S → FilterToken T → Option (ClauseReader E S R)
order_token b ss r (sign s) = order_sign b ss r s
order_token b ss r t = order_by ss (feed_step b r t)

abbrev pub regions_by : {E S R : Type 0} → List R → Option (RegionReader E S R) → Option (ClauseReader E S R)
regions_by rs z = after z (λ r. Some (Regions rs r))

-- the only one of these
abbrev pub sole : {A : Type 0} → List A → Option A
sole (x ∷ []) = Some x
sole _ = None

-- `*`, which may stand behind one region with `<>`
abbrev pub all_sign : {E S R : Type 0} → List R → RegionReader E S R → Option (ClauseReader E S R)
all_sign rs Region = after (sole rs) (λ x. Some (Unilateral x))
all_sign rs _ = None

abbrev pub regions_sign : {T E S R C : Type 0} → FilterBuilder T E S R C → List R → RegionReader E S R → FilterSign → Option (ClauseReader E S R)
regions_sign b rs r g.Apart = after (finish_region b r) (λ x. Some (Regions (rs ++ x ∷ []) Region))
regions_sign b rs r g.All = all_sign rs r
regions_sign b rs r s = regions_by rs (feed_region b r (sign s))

abbrev pub regions_token : {T E S R C : Type 0} → FilterBuilder T E S R C → List R → RegionReader E S R → FilterToken T → Option (ClauseReader E S R)
regions_token b rs r (sign s) = regions_sign b rs r s
regions_token b rs r t = regions_by rs (feed_region b r t)

-- behind a token that isn't the `;` of the clause
abbrev pub step_clause : {T E S R C : Type 0} → FilterBuilder T E S R C → ClauseReader E S R → FilterToken T → Option (ClauseReader E S R)
step_clause b Begin (name f) = Some (Named f)
step_clause b Begin (word f) = Some (Order [] (Colon f))
step_clause b Begin (sign s) = begin_sign s
step_clause b Begin (test x) = None
step_clause b (Named f) (name w) = None
step_clause b (Named f) (word w) = None
step_clause b (Named f) (sign s) = named_sign f s
step_clause b (Named f) (test x) = None
step_clause b (Order ss r) t = order_token b ss r t
step_clause b (Regions rs r) t = regions_token b rs r t
step_clause b (Unilateral x) t = None

abbrev pub order_end : {T E S R C : Type 0} → FilterBuilder T E S R C → List S → S → Option C
order_end b [] s = None
order_end b (a ∷ ss) s = Some (b.order a ss s)

-- the clause that ends here
abbrev pub finish_clause : {T E S R C : Type 0} → FilterBuilder T E S R C → ClauseReader E S R → Option C
finish_clause b Begin = None
finish_clause b (Named f) = None
finish_clause b (Order ss r) = after (finish_step b r) (λ s. order_end b ss s)
finish_clause b (Regions rs r) = after (finish_region b r) (λ x. Some (b.exclusive rs x))
finish_clause b (Unilateral x) = Some (b.unilateral x)

-- A `;` would end the clause.
abbrev pub is_outside : {E S R : Type 0} → ClauseReader E S R → Bool
is_outside (Regions rs r) = not (is_in_braces r)
is_outside _ = true

abbrev pub is_semicolon : {T : Type 0} → FilterToken T → Bool
is_semicolon (sign g.Semicolon) = true
is_semicolon _ = false

-- what is behind a token; None where it can't follow
abbrev pub feed : {T E S R C : Type 0} → FilterBuilder T E S R C → ClauseReader E S R → FilterToken T → Option (ClauseNext E S R C)
feed b r t =
    if is_semicolon t && is_outside r then after (finish_clause b r) (λ c. Some (Ends c))
    else after (step_clause b r t) (λ s. Some (Goes s))

-- Filters: the whole clauses so far, and the one that was begun

pub record FilterReader (E S R C : Type 0) : Type 0 where
  pub clauses : List C
  pub reader : ClauseReader E S R

abbrev pub fresh : {E S R C : Type 0} → FilterReader E S R C
fresh = record { clauses = []; reader = Begin }

abbrev pub next : {E S R C : Type 0} → List C → ClauseNext E S R C → FilterReader E S R C
next cs (Goes r) = record { clauses = cs; reader = r }
next cs (Ends c) = record { clauses = cs ++ c ∷ []; reader = Begin }

abbrev pub feed_filter : {T E S R C : Type 0} → FilterBuilder T E S R C → FilterReader E S R C → FilterToken T → Option (FilterReader E S R C)
feed_filter b z t = after (feed b z.reader t) (λ n. Some (next z.clauses n))

abbrev pub feed_all : {T E S R C : Type 0} → FilterBuilder T E S R C → FilterReader E S R C → List (FilterToken T) → Option (FilterReader E S R C)
feed_all b z [] = Some z
feed_all b z (t ∷ ts) = after (feed_filter b z t) (λ y. feed_all b y ts)

-- the clauses before the last, and the last, of a filter that ends here
abbrev pub finish : {T E S R C : Type 0} → FilterBuilder T E S R C → FilterReader E S R C → Option (List C)
finish b z = after (finish_clause b z.reader) (λ c. Some (z.clauses ++ c ∷ []))
