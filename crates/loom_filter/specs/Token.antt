-- The tokens of a filter's text.
use Rattle.std.specs.Prelude.{ℕ, ◌≡◌, List, [], ◌∷◌, ◌++◌, codes, false, if◌then◌else◌, Option, Some, None}
use Rattle.std.specs.List.{AllByRecursion}
use Rattle.loom_lexer.specs.Name.{IsName}
use Rattle.loom_command.specs.FilterForm.{TestForm, EventForm, StepForm, RegionForm, between, whole, ClauseForm, order, exclusive, unilateral, IsFileWord, IsTest}
use Rattle.loom_command.specs.FilterText.{Piece, AreWritten}
use Rattle.loom_command.specs.FilterText as piece
use Rattle.loom_filter.specs.declared.scan.FilterSign.{FilterSign}
use Rattle.loom_filter.specs.declared.scan.FilterSign.TheVariants as g
use Rattle.loom_filter.specs.Words.{is_name}

-- A test is a tree, or its bytes with the tree.
pub data FilterToken (T : Type 0) : Type 0 where
  -- a word that is a name of the language, and another word
  name : List ℕ → FilterToken T
  word : List ℕ → FilterToken T
  sign : FilterSign → FilterToken T
  test : T → FilterToken T

abbrev pub sign_pieces : FilterSign → List Piece
sign_pieces g.Colon = piece.sign_piece (codes ":")
sign_pieces g.Comma = piece.sign_piece (codes ",")
sign_pieces g.Semicolon = piece.sign_piece (codes ";")
sign_pieces g.Before = piece.sign_piece (codes ">")
sign_pieces g.Apart = piece.sign_piece (codes "<>")
sign_pieces g.All = piece.sign_piece (codes "*")
sign_pieces g.BraceOpen = piece.sign_piece (codes "{")
sign_pieces g.BraceClose = piece.sign_piece (codes "}")
sign_pieces g.Call = piece.sign (codes "(") ∷ piece.sign_piece (codes ")")

abbrev pub token_pieces : FilterToken TestForm → List Piece
token_pieces (name w) = piece.word w ∷ []
token_pieces (word w) = piece.word w ∷ []
token_pieces (sign s) = sign_pieces s
token_pieces (test x) = piece.test x.bytes ∷ []

abbrev pub tokens_pieces : List (FilterToken TestForm) → List Piece
tokens_pieces [] = []
tokens_pieces (t ∷ ts) = token_pieces t ++ tokens_pieces ts

abbrev pub IsToken : FilterToken TestForm → Type 0
IsToken (name w) = IsName w
IsToken (word w) = IsFileWord w × (is_name w ≡ false)
IsToken (sign s) = Unit {0}
IsToken (test x) = IsTest x

-- the bytes are these tokens, and then the rest
pub record AreFilterTokens (ts : List (FilterToken TestForm)) (rest bytes : List ℕ) : Type 0 where
  pub each : AllByRecursion IsToken ts
  pub written : AreWritten (tokens_pieces ts) rest bytes

-- no token begins there
abbrev pub BeginsNone : List ℕ → Type 0
BeginsNone bytes = (t : FilterToken TestForm) (rest : List ℕ) → IsToken t → AreWritten (token_pieces t) rest bytes → ⊥

-- The tokens of what is written

abbrev pub word_token : List ℕ → FilterToken TestForm
word_token w = if is_name w then name w else word w

abbrev pub test_tokens : Option TestForm → List (FilterToken TestForm)
test_tokens None = []
test_tokens (Some x) = test x ∷ []

abbrev pub event_tokens : EventForm → List (FilterToken TestForm)
event_tokens x = word_token x.file ∷ sign g.Colon ∷ word x.line ∷ test_tokens x.test

abbrev pub count_tokens : Option (List ℕ) → List (FilterToken TestForm)
count_tokens None = []
count_tokens (Some digits) = sign g.BraceOpen ∷ word digits ∷ sign g.BraceClose ∷ []

abbrev pub step_tokens : StepForm → List (FilterToken TestForm)
step_tokens x = event_tokens x.event ++ count_tokens x.count

-- each with the sign behind it
abbrev pub with_each_sign : {A : Type 0} → FilterSign → (A → List (FilterToken TestForm)) → List A → List (FilterToken TestForm)
with_each_sign s f [] = []
with_each_sign s f (x ∷ xs) = f x ++ sign s ∷ with_each_sign s f xs

-- with the sign between them
abbrev pub separated : {A : Type 0} → FilterSign → (A → List (FilterToken TestForm)) → A → List A → List (FilterToken TestForm)
separated s f x [] = f x
separated s f x (y ∷ ys) = f x ++ sign s ∷ separated s f y ys

abbrev pub steps_tokens : StepForm → List StepForm → List (FilterToken TestForm)
steps_tokens x xs = separated g.Comma step_tokens x xs

abbrev pub region_tokens : RegionForm → List (FilterToken TestForm)
region_tokens (between e es x xs) = sign g.BraceOpen ∷ steps_tokens e es ++ (sign g.Semicolon ∷ steps_tokens x xs ++ (sign g.BraceClose ∷ []))
region_tokens (whole f x) = name f ∷ sign g.Call ∷ test_tokens x

abbrev pub clause_tokens : ClauseForm → List (FilterToken TestForm)
clause_tokens (order a b ss) = separated g.Before step_tokens a (b ∷ ss)
clause_tokens (exclusive r rs) = separated g.Apart region_tokens r rs
clause_tokens (unilateral r) = region_tokens r ++ (sign g.Apart ∷ sign g.All ∷ [])

abbrev pub filter_tokens : ClauseForm → List ClauseForm → List (FilterToken TestForm)
filter_tokens c cs = separated g.Semicolon clause_tokens c cs

-- clauses, each with its `;`
abbrev pub whole_tokens : List ClauseForm → List (FilterToken TestForm)
whole_tokens cs = with_each_sign g.Semicolon clause_tokens cs
