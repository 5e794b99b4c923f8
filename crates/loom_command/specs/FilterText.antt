-- The text of a filter: tokens with blanks before, between and behind them.
use Rattle.std.specs.Prelude.{ℕ, ◌≡◌, List, [], ◌∷◌, ◌++◌, length, map, Option, Some, None, codes, Bool, ◌||◌, nat_eq}
use Rattle.std.specs.List.{AllByRecursion}
use Rattle.loom_lexer.specs.Lexeme.{Each, BeginsWithout}
use Rattle.loom_command.specs.FilterForm.{TestForm, EventForm, StepForm, RegionForm, between, whole, ClauseForm, order, exclusive, unilateral, is_file_part, IsClause}

-- space and tab
abbrev pub is_blank : ℕ → Bool
is_blank b = nat_eq b 32 || nat_eq b 9

pub data Piece : Type 0 where
  -- a file's name, a name or a number: it goes on as long as it can
  word : List ℕ → Piece
  sign : List ℕ → Piece
  -- a test with its parentheses: all that stands between them is the test's, white space too
  test : List ℕ → Piece

abbrev pub piece_bytes : Piece → List ℕ
piece_bytes (word bs) = bs
piece_bytes (sign bs) = bs
piece_bytes (test bs) = codes "(" ++ (bs ++ codes ")")

-- with this behind it
abbrev pub Stands : Piece → List ℕ → Type 0
Stands (word bs) rest = BeginsWithout is_file_part rest
Stands _ rest = Unit {0}

-- the bytes are these pieces, one behind the other, and then the rest
abbrev pub AreWritten : List Piece → List ℕ → List ℕ → Type 0
AreWritten [] rest bytes = bytes ≡ rest
AreWritten (x ∷ xs) rest bytes =
    (blanks : List ℕ) × (more : List ℕ) × (bytes ≡ blanks ++ (piece_bytes x ++ more)) × Each is_blank blanks × Stands x more × AreWritten xs rest more

-- The pieces of a filter, in the order of its grammar

abbrev pub with_glue : List Piece → List (List Piece) → List Piece
with_glue glue [] = []
with_glue glue (x ∷ []) = x
with_glue glue (x ∷ y ∷ xs) = x ++ (glue ++ with_glue glue (y ∷ xs))

abbrev pub sign_piece : List ℕ → List Piece
sign_piece bs = sign bs ∷ []

abbrev pub test_pieces : Option TestForm → List Piece
test_pieces None = []
test_pieces (Some x) = test x.bytes ∷ []

abbrev pub event_pieces : EventForm → List Piece
event_pieces x = word x.file ∷ sign (codes ":") ∷ word x.line ∷ test_pieces x.test

abbrev pub count_pieces : Option (List ℕ) → List Piece
count_pieces None = []
count_pieces (Some digits) = sign (codes "{") ∷ word digits ∷ sign (codes "}") ∷ []

abbrev pub step_pieces : StepForm → List Piece
step_pieces x = event_pieces x.event ++ count_pieces x.count

abbrev pub events_pieces : List StepForm → List Piece
events_pieces ss = with_glue (sign_piece (codes ",")) (map step_pieces ss)

abbrev pub region_pieces : RegionForm → List Piece
region_pieces (between e es x xs) = sign (codes "{") ∷ events_pieces (e ∷ es) ++ (sign (codes ";") ∷ events_pieces (x ∷ xs) ++ sign_piece (codes "}"))
region_pieces (whole f x) = word f ∷ sign (codes "(") ∷ sign (codes ")") ∷ test_pieces x

abbrev pub clause_pieces : ClauseForm → List Piece
clause_pieces (order a b ss) = with_glue (sign_piece (codes ">")) (map step_pieces (a ∷ b ∷ ss))
clause_pieces (exclusive r rs) = with_glue (sign_piece (codes "<>")) (map region_pieces (r ∷ rs))
clause_pieces (unilateral r) = region_pieces r ++ (sign (codes "<>") ∷ sign_piece (codes "*"))

abbrev pub filter_pieces : List ClauseForm → List Piece
filter_pieces cs = with_glue (sign_piece (codes ";")) (map clause_pieces cs)

-- clauses, each with its `;`
abbrev pub whole_pieces : List ClauseForm → List Piece
whole_pieces [] = []
whole_pieces (c ∷ cs) = clause_pieces c ++ (sign (codes ";") ∷ whole_pieces cs)

-- The bytes are the text of these clauses, of which there is at least one.
pub record IsForm (bytes : List ℕ) (c : ClauseForm) (cs : List ClauseForm) : Type 0 where
  pub rules : AllByRecursion IsClause (c ∷ cs)
  pub blanks : List ℕ
  pub written : AreWritten (filter_pieces (c ∷ cs)) blanks bytes
  pub blank : Each is_blank blanks

-- They are a text of the grammar.
pub record IsTextOfFilter (bytes : List ℕ) : Type 0 where
  pub first : ClauseForm
  pub others : List ClauseForm
  pub form : IsForm bytes first others

-- They begin with so many whole clauses, each with its `;`.
pub record BeginsWith (bytes : List ℕ) (n : ℕ) : Type 0 where
  pub clauses : List ClauseForm
  pub rules : AllByRecursion IsClause clauses
  pub count : length clauses ≡ n
  pub rest : List ℕ
  pub written : AreWritten (whole_pieces clauses) rest bytes
