-- Filters as they are written: what the grammar has, before anything is asked of it.
use Rattle.std.specs.Prelude.{ℕ, ◌≤◌, ◌≡◌, Bool, true, false, not, ◌||◌, nat_eq, List, [], ◌∷◌, map, Option, Some, None}
use Rattle.std.specs.List.{AllByRecursion}
use Rattle.loom_tree.specs.Tree.{Expression}
use Rattle.loom_tree.specs.Token.{LineToken}
use Rattle.loom_lexer.specs.declared.lexeme.LexemeKind.{LexemeKind}
use Rattle.loom_lexer.specs.declared.lexeme.LexemeKind.TheVariants as k
use Rattle.loom_lexer.specs.Lexeme.{Lexeme, Each, is_digit, is_part, IsLexed}
use Rattle.loom_lexer.specs.Name.{IsName}
use Rattle.loom_lexer.specs.Tokens.{value_from, tokens_from}
use Rattle.loom_expression.specs.Text.{IsExpression}
use Rattle.loom_command.specs.Filter as tree
use Rattle.loom_command.specs.Filter.{Filter}

-- an expression: its bytes, and the tree that they are
pub record TestForm : Type 0 where
  pub bytes : List ℕ
  pub tree : Expression

-- a number is its digits
pub record EventForm : Type 0 where
  pub file : List ℕ
  pub line : List ℕ
  pub test : Option TestForm

pub record StepForm : Type 0 where
  pub event : EventForm
  pub count : Option (List ℕ)

pub data RegionForm : Type 0 where
  -- the first event at which it is entered, and the others; the first at which it is left, and the others
  between : StepForm → List StepForm → StepForm → List StepForm → RegionForm
  whole : List ℕ → Option TestForm → RegionForm

pub data ClauseForm : Type 0 where
  -- the first step, the second, and the others
  order : StepForm → StepForm → List StepForm → ClauseForm
  -- the first region, and the others
  exclusive : RegionForm → List RegionForm → ClauseForm
  unilateral : RegionForm → ClauseForm

-- What may stand where

-- what may stand in a file's name behind its first byte, which is a letter, a digit or `_`
-- (46 is `.`, 45 is `-`)
abbrev pub is_file_part : ℕ → Bool
is_file_part b = is_part b || nat_eq b 46 || nat_eq b 45

abbrev pub IsFileWord : List ℕ → Type 0
IsFileWord [] = ⊥
IsFileWord (b ∷ bs) = (is_part b ≡ true) × Each is_file_part bs

abbrev pub filter_number_limit : ℕ
filter_number_limit = 1000000

-- digits of a number from 1 to the largest; zeros may lead
pub record IsNumber (digits : List ℕ) : Type 0 where
  pub digits_alone : Each is_digit digits
  pub least : 1 ≤ value_from 0 digits
  pub most : value_from 0 digits ≤ filter_number_limit

abbrev pub is_comment : LexemeKind → Bool
is_comment k.Comment = true
is_comment _ = false

-- the bytes are an expression of the language, on one line and without a comment
pub record IsTest (x : TestForm) : Type 0 where
  pub lexemes : List Lexeme
  pub lexed : IsLexed lexemes x.bytes
  pub one_line : Each (λ b. not (nat_eq b 10)) x.bytes
  pub no_comment : AllByRecursion (λ (l : Lexeme). is_comment l.kind ≡ false) lexemes
  pub is : IsExpression (map (λ (t : LineToken). t.token) (tokens_from 1 lexemes)) x.tree

abbrev pub IsTestIf : Option TestForm → Type 0
IsTestIf None = Unit {0}
IsTestIf (Some x) = IsTest x

pub record IsEvent (x : EventForm) : Type 0 where
  pub file : IsFileWord x.file
  pub line : IsNumber x.line
  pub test : IsTestIf x.test

abbrev pub IsCountIf : Option (List ℕ) → Type 0
IsCountIf None = Unit {0}
IsCountIf (Some digits) = IsNumber digits

pub record IsStep (x : StepForm) : Type 0 where
  pub event : IsEvent x.event
  pub count : IsCountIf x.count

abbrev pub IsRegion : RegionForm → Type 0
IsRegion (between e es x xs) = AllByRecursion IsStep (e ∷ es) × AllByRecursion IsStep (x ∷ xs)
IsRegion (whole f test) = IsName f × IsTestIf test

abbrev pub IsClause : ClauseForm → Type 0
IsClause (order a b ss) = IsStep a × IsStep b × AllByRecursion IsStep ss
IsClause (exclusive r rs) = IsRegion r × AllByRecursion IsRegion rs
IsClause (unilateral r) = IsRegion r

-- The tree that a written filter is. Where no count is written it is 1; the tree of a region has none.

abbrev pub test_tree : Option TestForm → Option Expression
test_tree None = None
test_tree (Some x) = Some x.tree

abbrev pub event_tree : EventForm → tree.LineEvent
event_tree x = record { file = x.file; line = value_from 0 x.line; test = test_tree x.test }

abbrev pub count_value : Option (List ℕ) → ℕ
count_value None = 1
count_value (Some digits) = value_from 0 digits

abbrev pub step_tree : StepForm → tree.OrderStep
step_tree x = record { event = event_tree x.event; count = count_value x.count }

abbrev pub events_tree : List StepForm → List tree.LineEvent
events_tree ss = map (λ (s : StepForm). event_tree s.event) ss

abbrev pub region_tree : RegionForm → tree.Region
region_tree (between e es x xs) = tree.between (events_tree (e ∷ es)) (events_tree (x ∷ xs))
region_tree (whole f test) = tree.whole f (test_tree test)

abbrev pub clause_tree : ClauseForm → tree.Clause
clause_tree (order a b ss) = tree.order (step_tree a ∷ step_tree b ∷ map step_tree ss)
clause_tree (exclusive r rs) = tree.exclusive (region_tree r ∷ map region_tree rs)
clause_tree (unilateral r) = tree.unilateral (region_tree r)

abbrev pub filter_tree : List ClauseForm → Filter
filter_tree cs = map clause_tree cs
