-- The first of the faults, as they are noted one after another.
use Rattle.std.specs.Prelude.{ℕ, nat_lt, nat_eq, Bool, true, ◌&&◌, ◌||◌, cond, List, [], ◌∷◌, map, Option, Some, None}
use Rattle.loom_tree.specs.Tree.{Body, end, simple, if_, while_, FileItem, word, mutex, sema, func, Source}
use Rattle.loom_lang.specs.declared.local.Local.{Local}
use Rattle.loom_lang.specs.declared.refusal.Which.TheVariants as which
use Rattle.loom_lang.specs.declared.refusal.Reason.{Reason}
use Rattle.loom_lang.specs.declared.refusal.Reason.TheVariants as reason
use Rattle.loom_lang.specs.declared.refusal.LangRefusal.{LangRefusal}
use Rattle.loom_lang.specs.Rules.{knows, knows_simple, counts_simple}
use Rattle.loom_lang.specs.Refusal.{locals_at, lines_of_reason, rank}

-- at a lower line, or for a lesser reason at the same one
abbrev pub is_before : LangRefusal → LangRefusal → Bool
is_before f g = nat_lt f.line g.line || (nat_eq f.line g.line && nat_lt (rank f.reason) (rank g.reason))

abbrev pub sooner : Option LangRefusal → LangRefusal → LangRefusal
sooner None f = f
sooner (Some g) f = cond (is_before f g) f g

-- behind faults for one reason at these lines
abbrev pub behind_faults : Option LangRefusal → Reason → List ℕ → Option LangRefusal
behind_faults first why [] = first
behind_faults first why (l ∷ ls) = behind_faults (Some (sooner first (record { line = l; reason = why }))) why ls

-- behind all faults for these reasons
abbrev pub noted_all : List FileItem → ℕ → Option LangRefusal → List Reason → Option LangRefusal
noted_all items last first [] = first
noted_all items last first (why ∷ whys) = noted_all items last (behind_faults first why (lines_of_reason items last why)) whys

-- the reasons, in the order in which they are looked for
abbrev pub reasons : List Reason
reasons =
    reason.SecondOnLine ∷ reason.TooMany which.Statements ∷ reason.UnknownName ∷ reason.NameTwice ∷ reason.WrongCount ∷ reason.NoMain ∷
    reason.TooMany which.Functions ∷ reason.TooMany which.Params ∷ reason.TooMany which.Locals ∷ reason.TooMany which.Names ∷ reason.TooMany which.Cells ∷ []

-- The rules at one statement, without the blocks in it and the statements behind it.

abbrev pub knows_head : Source → List (List ℕ) → Body → Bool
knows_head p locals end = true
knows_head p locals (simple l s rest) = knows_simple p locals s
knows_head p locals (if_ l e a b rest) = knows p locals e
knows_head p locals (while_ l e a rest) = knows p locals e

abbrev pub counts_head : Source → Body → Bool
counts_head p end = true
counts_head p (simple l s rest) = counts_simple p s
counts_head p (if_ l e a b rest) = true
counts_head p (while_ l e a rest) = true

-- the names of locals
abbrev pub names_of : List Local → List (List ℕ)
names_of locals = map (λ (d : Local). d.name) locals

-- What an item declares: its name, its line, and of a function its locals.

abbrev pub name_of : FileItem → List ℕ
name_of (word l w) = w.name
name_of (mutex l x) = x
name_of (sema l s) = s.name
name_of (func f) = f.name

abbrev pub line_of : FileItem → ℕ
line_of (word l w) = l
line_of (mutex l x) = l
line_of (sema l s) = l
line_of (func f) = f.line

abbrev pub locals_in : FileItem → List Local
locals_in (word l w) = []
locals_in (mutex l x) = []
locals_in (sema l s) = []
locals_in (func f) = locals_at f
