-- What the reader's variables stand for.
use Rattle.std.specs.Prelude.{ℕ, ◌≡◌, List, drop, map, Bool, true, false, Option, Some, None, Vec}
use Rattle.std.specs.Global.{Global}
use Rattle.loom_tree.specs.declared.expression.Expr.{Expr}
use Rattle.loom_tree.specs.Tree.{Expression, expression_of}
use Rattle.loom_command.specs.Filter as tree
use Rattle.loom_command.specs.FilterForm.{TestForm, IsTest}
use Rattle.loom_command.specs.FilterText.{AreWritten}
use Rattle.loom_filter.specs.declared.scan.FilterToken as rust_token
use Rattle.loom_filter.specs.declared.scan.FilterToken.TheVariants as t
use Rattle.loom_filter.specs.declared.scan.TokenSpot.{TokenSpot}
use Rattle.loom_filter.specs.declared.step.CountedEvent as rust_event
use Rattle.loom_filter.specs.declared.step.StepReader as rust_step
use Rattle.loom_filter.specs.declared.step.StepReader.TheVariants as s
use Rattle.loom_filter.specs.declared.region.CountedRegion as rust_counted
use Rattle.loom_filter.specs.declared.region.RegionReader as rust_region
use Rattle.loom_filter.specs.declared.region.RegionReader.TheVariants as r
use Rattle.loom_filter.specs.declared.clause.CountedClause as rust_clause
use Rattle.loom_filter.specs.declared.clause.ClauseReader as rust_reader
use Rattle.loom_filter.specs.declared.clause.ClauseReader.TheVariants as c
use Rattle.loom_filter.specs.declared.clause.ClauseNext as rust_next
use Rattle.loom_filter.specs.declared.clause.ClauseNext.TheVariants as n
use Rattle.loom_filter.specs.declared.reader.FilterReader as rust_filter
use Rattle.loom_filter.specs.View.{event_of, region_of, clause_of}
use Rattle.loom_filter.specs.Token.{FilterToken, name, word, sign, test, IsToken, token_pieces, BeginsNone}
use Rattle.loom_filter.specs.Builders.{CountedEvent, CountedRegion, CountedClause, plain}
use Rattle.loom_filter.specs.Machine as m

-- Tokens

abbrev pub token_of : rust_token.FilterToken → FilterToken Expression
token_of (t.Name w) = name w
token_of (t.Word w) = word w
token_of (t.Sign s) = sign s
token_of (t.Test e) = test (expression_of e)

-- the token with the tree of its test
abbrev pub plain_token : FilterToken TestForm → FilterToken Expression
plain_token (name w) = name w
plain_token (word w) = word w
plain_token (sign s) = sign s
plain_token (test x) = test x.tree

-- This is the token with which the bytes begin, and the rest is behind it.
pub record IsSpot (bytes rest : List ℕ) (x : rust_token.FilterToken) : Type 0 where
  pub token : FilterToken TestForm
  pub is : IsToken token
  pub stands : plain_token token ≡ token_of x
  pub written : AreWritten (token_pieces token) rest bytes

-- the token at a place of the bytes, with the place behind it
abbrev pub TellsSpot : List ℕ → ℕ → Option TokenSpot → Type 0
TellsSpot bytes at None = BeginsNone (drop at bytes)
TellsSpot bytes at (Some x) = IsSpot (drop at bytes) (drop x.end bytes) x.token

-- the test that the bytes are
abbrev pub TellsTest : List ℕ → Option Expr → Type 0
TellsTest bytes None = (e : Expression) → IsTest (record { bytes = bytes; tree = e }) → ⊥
TellsTest bytes (Some e) = IsTest (record { bytes = bytes; tree = expression_of e })

-- Steps

abbrev pub counted_of : rust_event.CountedEvent → CountedEvent
counted_of x = record { event = event_of x.event; count = x.count }

abbrev pub counts_of : List rust_event.CountedEvent → List CountedEvent
counts_of xs = map counted_of xs

abbrev pub counted_if : Option rust_event.CountedEvent → Option CountedEvent
counted_if None = None
counted_if (Some x) = Some (counted_of x)

abbrev pub StepReader : Type 0
StepReader = m.StepReader tree.LineEvent CountedEvent

abbrev pub step_reader_of : rust_step.StepReader → StepReader
step_reader_of s.File = m.File
step_reader_of (s.Colon f) = m.Colon f
step_reader_of (s.Line f) = m.Line f
step_reader_of (s.Untested e) = m.Untested (event_of e)
step_reader_of (s.Tested e) = m.Tested (event_of e)
step_reader_of (s.Count e) = m.Count (event_of e)
step_reader_of (s.CountEnd x) = m.CountEnd (counted_of x)
step_reader_of (s.Counted x) = m.Counted (counted_of x)

abbrev pub step_if : Option rust_step.StepReader → Option StepReader
step_if None = None
step_if (Some x) = Some (step_reader_of x)

-- Regions

abbrev pub region_with : rust_counted.CountedRegion → CountedRegion
region_with x = record { region = region_of x.region; is_counted = x.is_counted }

abbrev pub regions_with : List rust_counted.CountedRegion → List CountedRegion
regions_with xs = map region_with xs

abbrev pub region_with_if : Option rust_counted.CountedRegion → Option CountedRegion
region_with_if None = None
region_with_if (Some x) = Some (region_with x)

abbrev pub RegionReader : Type 0
RegionReader = m.RegionReader tree.LineEvent CountedEvent CountedRegion

abbrev pub region_reader : rust_region.RegionReader → RegionReader
region_reader r.Region = m.Region
region_reader (r.Call f) = m.Call f
region_reader (r.Bare f) = m.Bare f
region_reader (r.Entries es x) = m.Entries (counts_of es.items) (step_reader_of x)
region_reader (r.Exits es e xs x) = m.Exits (counts_of es.items) (counted_of e) (counts_of xs.items) (step_reader_of x)
region_reader (r.Whole x) = m.Whole (region_with x)

abbrev pub region_if : Option rust_region.RegionReader → Option RegionReader
region_if None = None
region_if (Some x) = Some (region_reader x)

-- Clauses

abbrev pub clause_with : rust_clause.CountedClause → CountedClause
clause_with x = record { clause = clause_of x.clause; is_miscounted = x.is_miscounted }

abbrev pub clauses_with : List rust_clause.CountedClause → List CountedClause
clauses_with xs = map clause_with xs

abbrev pub clause_with_if : Option rust_clause.CountedClause → Option CountedClause
clause_with_if None = None
clause_with_if (Some x) = Some (clause_with x)

abbrev pub ClauseReader : Type 0
ClauseReader = m.ClauseReader tree.LineEvent CountedEvent CountedRegion

abbrev pub clause_reader : rust_reader.ClauseReader → ClauseReader
clause_reader c.Begin = m.Begin
clause_reader (c.Named f) = m.Named f
clause_reader (c.Order ss x) = m.Order (counts_of ss.items) (step_reader_of x)
clause_reader (c.Regions rs x) = m.Regions (regions_with rs.items) (region_reader x)
clause_reader (c.Unilateral x) = m.Unilateral (region_with x)

abbrev pub clause_if : Option rust_reader.ClauseReader → Option ClauseReader
clause_if None = None
clause_if (Some x) = Some (clause_reader x)

abbrev pub ClauseNext : Type 0
ClauseNext = m.ClauseNext tree.LineEvent CountedEvent CountedRegion CountedClause

abbrev pub next_of : rust_next.ClauseNext → ClauseNext
next_of (n.Goes x) = m.Goes (clause_reader x)
next_of (n.Ends x) = m.Ends (clause_with x)

abbrev pub next_if : Option rust_next.ClauseNext → Option ClauseNext
next_if None = None
next_if (Some x) = Some (next_of x)

-- Filters

abbrev pub clauses_if : Option (Vec rust_clause.CountedClause Global) → Option (List CountedClause)
clauses_if None = None
clauses_if (Some xs) = Some (clauses_with xs.items)

abbrev pub FilterReader : Type 0
FilterReader = m.FilterReader tree.LineEvent CountedEvent CountedRegion CountedClause

abbrev pub filter_reader : rust_filter.FilterReader → FilterReader
filter_reader z = record { clauses = clauses_with z.clauses.items; reader = clause_reader z.reader }

-- whether the token can follow, and then what is behind it
abbrev pub TellsFed : FilterReader → FilterToken Expression → FilterReader → Bool → Type 0
TellsFed z t y true = Some y ≡ m.feed_filter plain z t
TellsFed z t y false = None ≡ m.feed_filter plain z t
