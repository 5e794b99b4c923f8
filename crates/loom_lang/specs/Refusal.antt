-- Why bytes are no program, and at which line.
use Rattle.std.specs.Prelude.{ℕ, ◌+◌, ◌<◌, ◌≤◌, ◌≡◌, ◌⊎◌, ◌==◌, nat_lt, Bool, not, ◌&&◌, cond, List, [], ◌∷◌, ◌++◌, length, map, flat_map, take, drop, slice_get, Option, Some, None, codes}
use Rattle.std.specs.Cmp.Lexicographic.{pointwise}
use Rattle.loom_tree.specs.Token.{LineToken}
use Rattle.loom_tree.specs.Tree.{Body, end, simple, if_, while_, Function, FileItem, word, mutex, sema, func, Source}
use Rattle.loom_lexer.specs.Tokens.{AreTokens, last_line}
use Rattle.loom_syntax.specs.File.{IsRefusedAt}
use Rattle.loom_lang.specs.declared.local.Local.{Local}
use Rattle.loom_lang.specs.declared.refusal.Which.TheVariants as which
use Rattle.loom_lang.specs.declared.refusal.Reason.{Reason}
use Rattle.loom_lang.specs.declared.refusal.Reason.TheVariants as reason
use Rattle.loom_lang.specs.Limits.{function_limit, param_limit, local_limit, name_limit, cell_limit, statement_limit}
use Rattle.loom_lang.specs.Rules.{is_in, is_function, knows, knows_simple, counts_simple, let_names, locals_of, lines_of, cells_in}
use Rattle.loom_lang.specs.FileItems.{source_of_items}
use Rattle.loom_lang.specs.Program.{IsTextOf}

-- The lines at which each reason stands. That of a statement is the one on which it begins.

abbrev pub line_if : Bool → ℕ → List ℕ
line_if b line = cond b (line ∷ []) []

-- `SecondOnLine`: a statement doesn't begin behind the line of the one before it
abbrev pub second_lines : ℕ → List ℕ → List ℕ
second_lines before [] = []
second_lines before (l ∷ ls) = line_if (not (nat_lt before l)) l ++ second_lines l ls

-- `UnknownName`: a statement names what isn't known in that role. A condition belongs to the statement.
abbrev pub unknown_lines : Source → List (List ℕ) → Body → List ℕ
unknown_lines p locals end = []
unknown_lines p locals (simple l s rest) = line_if (not (knows_simple p locals s)) l ++ unknown_lines p locals rest
unknown_lines p locals (if_ l e a b rest) = line_if (not (knows p locals e)) l ++ (unknown_lines p locals a ++ (unknown_lines p locals b ++ unknown_lines p locals rest))
unknown_lines p locals (while_ l e a rest) = line_if (not (knows p locals e)) l ++ (unknown_lines p locals a ++ unknown_lines p locals rest)

-- `WrongCount`: a call or a spawn has another number of arguments than the function has parameters
abbrev pub miscounted_lines : Source → Body → List ℕ
miscounted_lines p end = []
miscounted_lines p (simple l s rest) = line_if (not (counts_simple p s)) l ++ miscounted_lines p rest
miscounted_lines p (if_ l e a b rest) = miscounted_lines p a ++ (miscounted_lines p b ++ miscounted_lines p rest)
miscounted_lines p (while_ l e a rest) = miscounted_lines p a ++ miscounted_lines p rest

-- and each `main` that has parameters
abbrev pub main_lines : Source → List ℕ
main_lines p = flat_map (λ (f : Function). line_if (pointwise ◌==◌ f.name (codes "main") && not (length f.params == 0)) f.line) p.funcs

-- names that are declared at this line
abbrev pub at_line : ℕ → List (List ℕ) → List Local
at_line l names = map (λ (x : List ℕ). record { name = x; line = l }) names

-- the names of the `let` statements, and their lines
abbrev pub lets_at : Body → List Local
lets_at end = []
lets_at (simple l s rest) = at_line l (let_names s) ++ lets_at rest
lets_at (if_ l e a b rest) = lets_at a ++ (lets_at b ++ lets_at rest)
lets_at (while_ l e a rest) = lets_at a ++ lets_at rest

-- the locals of a function, and their lines: a parameter stands at that of the `fn`
abbrev pub locals_at : Function → List Local
locals_at f = at_line f.line f.params ++ lets_at f.body

-- the lines of those names that are among the ones before
abbrev pub repeated : List (List ℕ) → List Local → List ℕ
repeated before [] = []
repeated before (d ∷ ds) = line_if (is_in d.name before) d.line ++ repeated (d.name ∷ before) ds

-- `NameTwice`, at the later of two declarations: an item, where an item before it or a local of a function before it
-- has its name; a local, where an item up to its own function or an earlier local of that function has its name
abbrev pub twice_lines : List (List ℕ) → List (List ℕ) → List FileItem → List ℕ
twice_lines names locals [] = []
twice_lines names locals (word l w ∷ is) = line_if (is_in w.name (names ++ locals)) l ++ twice_lines (w.name ∷ names) locals is
twice_lines names locals (mutex l x ∷ is) = line_if (is_in x (names ++ locals)) l ++ twice_lines (x ∷ names) locals is
twice_lines names locals (sema l s ∷ is) = line_if (is_in s.name (names ++ locals)) l ++ twice_lines (s.name ∷ names) locals is
twice_lines names locals (func f ∷ is) = line_if (is_in f.name (names ++ locals)) f.line ++ (repeated (f.name ∷ names) (locals_at f) ++ twice_lines (f.name ∷ names) (locals_of f ++ locals) is)

-- `TooMany`: the first beyond the limit
abbrev pub first_excess : ℕ → List ℕ → List ℕ
first_excess most lines = take 1 (drop most lines)

-- the lines of the words, arrays, mutexes and semaphores
abbrev pub shared_lines : List FileItem → List ℕ
shared_lines [] = []
shared_lines (word l w ∷ is) = l ∷ shared_lines is
shared_lines (mutex l x ∷ is) = l ∷ shared_lines is
shared_lines (sema l s ∷ is) = l ∷ shared_lines is
shared_lines (func f ∷ is) = shared_lines is

-- the first word or array with which there are more cells than there may be, so many being before it
abbrev pub cells_over : ℕ → List FileItem → List ℕ
cells_over before [] = []
cells_over before (word l w ∷ is) = cond (nat_lt cell_limit (before + cells_in w)) (l ∷ []) (cells_over (before + cells_in w) is)
cells_over before (_ ∷ is) = cells_over before is

-- The lines at which a reason stands in the items of a file that ends on this line. Where the grammar is left is told by the tokens.
abbrev pub lines_of_reason : List FileItem → ℕ → Reason → List ℕ
lines_of_reason items last reason.Syntax = []
lines_of_reason items last reason.SecondOnLine = second_lines 0 (lines_of (source_of_items items))
lines_of_reason items last reason.UnknownName = flat_map (λ (f : Function). unknown_lines (source_of_items items) (locals_of f) f.body) (source_of_items items).funcs
lines_of_reason items last reason.NameTwice = twice_lines [] [] items
lines_of_reason items last reason.WrongCount = main_lines (source_of_items items) ++ flat_map (λ (f : Function). miscounted_lines (source_of_items items) f.body) (source_of_items items).funcs
lines_of_reason items last reason.NoMain = line_if (not (is_function (source_of_items items).funcs (codes "main"))) last
lines_of_reason items last (reason.TooMany which.Functions) = first_excess function_limit (map (λ (f : Function). f.line) (source_of_items items).funcs)
lines_of_reason items last (reason.TooMany which.Params) = flat_map (λ (f : Function). line_if (nat_lt param_limit (length f.params)) f.line) (source_of_items items).funcs
lines_of_reason items last (reason.TooMany which.Locals) = flat_map (λ (f : Function). first_excess local_limit (map (λ (d : Local). d.line) (locals_at f))) (source_of_items items).funcs
lines_of_reason items last (reason.TooMany which.Names) = first_excess name_limit (shared_lines items)
lines_of_reason items last (reason.TooMany which.Cells) = cells_over 0 items
lines_of_reason items last (reason.TooMany which.Statements) = first_excess statement_limit (lines_of (source_of_items items))

-- The order of the reasons, and of what there is too much of. It is an order only: `TooMany` is the seventh reason whatever there is too much of.
abbrev pub rank : Reason → ℕ
rank reason.Syntax = 1
rank reason.SecondOnLine = 2
rank reason.UnknownName = 3
rank reason.NameTwice = 4
rank reason.WrongCount = 5
rank reason.NoMain = 6
rank (reason.TooMany which.Functions) = 7
rank (reason.TooMany which.Params) = 8
rank (reason.TooMany which.Locals) = 9
rank (reason.TooMany which.Names) = 10
rank (reason.TooMany which.Cells) = 11
rank (reason.TooMany which.Statements) = 12

abbrev pub IsAmong : ℕ → List ℕ → Type 0
IsAmong l [] = ⊥
IsAmong l (k ∷ ks) = (l ≡ k) ⊎ IsAmong l ks

-- The rules are broken nowhere.
abbrev pub IsFaultless : List FileItem → ℕ → Type 0
IsFaultless items last = (line : ℕ) (why : Reason) → IsAmong line (lines_of_reason items last why) → ⊥

-- The rules are broken at this line for this reason, and nowhere before: the least line counts, then the least reason.
pub record IsFirstFault (items : List FileItem) (last : ℕ) (line : ℕ) (why : Reason) : Type 0 where
  pub stands : IsAmong line (lines_of_reason items last why)
  pub first : (l : ℕ) (r : Reason) → IsAmong l (lines_of_reason items last r) → (line < l) ⊎ ((line ≡ l) × (rank why ≤ rank r))

-- The bytes leave the grammar at this line: that of the first token behind which no file can follow, or the last line, where the file ends
-- too early.
abbrev pub line_at : ℕ → Option LineToken → ℕ
line_at last None = last
line_at last (Some t) = t.line

pub record IsNoFile (bytes : List ℕ) (line : ℕ) : Type 0 where
  pub tokens : List LineToken
  pub lexed : AreTokens bytes tokens
  pub token : ℕ
  pub refused : IsRefusedAt tokens token
  pub stands : line ≡ line_at (last_line bytes) (slice_get tokens token)

-- The bytes are in the grammar, and the rules are broken.
pub record IsFaultyProgram (bytes : List ℕ) (line : ℕ) (why : Reason) : Type 0 where
  pub items : List FileItem
  pub text : IsTextOf bytes items
  pub fault : IsFirstFault items (last_line bytes) line why

-- The bytes are no program, for this reason at this line.
abbrev pub IsRefusedProgram : List ℕ → ℕ → Reason → Type 0
IsRefusedProgram bytes line reason.Syntax = IsNoFile bytes line
IsRefusedProgram bytes line why = IsFaultyProgram bytes line why
