-- What it means to read a filter.
use Rattle.std.specs.Prelude.{ℕ, ◌+◌, ◌≤◌, ◌≡◌, ◌⊎◌, List, ◌∷◌, length, drop, map, Result, Ok, Err, Option, Some, None, Vec}
use Rattle.std.specs.Global.{Global}
use Rattle.loom_command.specs.Filter as tree
use Rattle.loom_command.specs.FilterForm.{ClauseForm}
use Rattle.loom_lexer.specs.Scan.{run_len}
use Rattle.loom_command.specs.FilterText.{is_blank, IsTextOfFilter, IsForm, BeginsWith}
use Rattle.loom_command.specs.FilterFault.{FilterFault, IsRefusedText, IsFilter}
use Rattle.loom_filter.specs.declared.filter.Filter.{Filter}
use Rattle.loom_filter.specs.declared.clause.CountedClause as rust
use Rattle.loom_filter.specs.declared.scan.TokenSpot.{TokenSpot}
use Rattle.loom_filter.specs.declared.parse.FilterRefusal.{FilterRefusal}
use Rattle.loom_filter.specs.declared.parse.FilterError.{FilterError}
use Rattle.loom_filter.specs.declared.parse.FilterError.TheVariants as e
use Rattle.loom_filter.specs.declared.parse.ReadError.{ReadError}
use Rattle.loom_filter.specs.declared.parse.ReadError.TheVariants as read
use Rattle.loom_filter.specs.View.{filter_of}
use Rattle.loom_filter.specs.Token.{BeginsNone}
use Rattle.loom_filter.specs.Builders.{CountedClause, counted_clauses, plain}
use Rattle.loom_filter.specs.Machine.{feed_filter}
use Rattle.loom_filter.specs.ReaderView.{token_of, IsSpot, FilterReader, clauses_with}

-- how many bytes a text has at most
abbrev pub text_limit : ℕ
text_limit = 65536

abbrev pub fault_of : FilterRefusal → FilterFault
fault_of r = record { clause = r.clause; number = r.number }

abbrev pub fault_if : Option FilterRefusal → Option FilterFault
fault_if None = None
fault_if (Some r) = Some (fault_of r)

abbrev pub clauses_tree : List CountedClause → List tree.Clause
clauses_tree cs = map (λ (c : CountedClause). c.clause) cs

-- The bytes are a text of the grammar, with these clauses.
pub record AreClauses (bytes : List ℕ) (cs : List rust.CountedClause) : Type 0 where
  pub first : ClauseForm
  pub others : List ClauseForm
  pub form : IsForm bytes first others
  pub tree : clauses_with cs ≡ counted_clauses (first ∷ others)

-- They leave the grammar behind so many whole clauses.
pub record LeavesBehind (bytes : List ℕ) (whole : ℕ) : Type 0 where
  pub no_text : IsTextOfFilter bytes → ⊥
  pub begins : BeginsWith bytes whole
  pub most : (n : ℕ) → BeginsWith bytes n → n ≤ whole

-- The reader took the token at this place; the next token stands at the second place, or nothing does.
pub record IsTokenTaken (bytes : List ℕ) (at : ℕ) (z y : FilterReader) (on : ℕ) : Type 0 where
  pub spot : TokenSpot
  pub is : IsSpot (drop at bytes) (drop spot.end bytes) spot.token
  pub within : spot.end ≤ length bytes
  pub on_is : on ≡ spot.end + run_len is_blank (drop spot.end bytes)
  pub at_most : on ≤ length bytes
  pub feeds : Some y ≡ feed_filter plain z (token_of spot.token)

-- The token at this place can't follow.
pub record IsUnfit (bytes : List ℕ) (at : ℕ) (z : FilterReader) : Type 0 where
  pub spot : TokenSpot
  pub is : IsSpot (drop at bytes) (drop spot.end bytes) spot.token
  pub feeds : None ≡ feed_filter plain z (token_of spot.token)

-- what is told of the token at a place, and the reader behind it
abbrev pub TellsToken : List ℕ → ℕ → FilterReader → FilterReader → Result ℕ ReadError → Type 0
TellsToken bytes at z y (Ok on) = IsTokenTaken bytes at z y on
TellsToken bytes at z y (Err (read.Syntax n)) = (n ≡ length z.clauses) × (BeginsNone (drop at bytes) ⊎ IsUnfit bytes at z)
TellsToken bytes at z y (Err read.NoMemory) = Unit {0}

abbrev pub TellsClauses : List ℕ → Result (Vec rust.CountedClause Global) ReadError → Type 0
TellsClauses bytes (Ok cs) = AreClauses bytes cs.items
TellsClauses bytes (Err (read.Syntax n)) = LeavesBehind bytes n
TellsClauses bytes (Err read.NoMemory) = Unit {0}

abbrev pub TellsFilter : List ℕ → Result Filter FilterError → Type 0
TellsFilter bytes (Ok f) = IsFilter bytes (filter_of f)
TellsFilter bytes (Err (e.Refused r)) = IsRefusedText bytes (fault_of r)
TellsFilter bytes (Err e.NoMemory) = Unit {0}
