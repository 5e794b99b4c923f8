-- The lines of items, written one by one.
use Rattle.std.proofs.Common.{ℕ, ◌+◌, ◌≡◌, ◌<◌, List, [], ◌∷◌, ◌++◌, length, map, get_or, drop, append_assoc}
use Rattle.std.specs.List.{AllByRecursion}
use Rattle.loom_tree.specs.declared.statement.Func.{Func}
use Rattle.loom_tree.specs.Tree.{Function, Source, body_of, function_of, functions_of}
use Rattle.loom_tree.specs.Lines.{ended}
use Rattle.loom_lang.specs.Rules.{FunctionsKeepRules}
use Rattle.loom_lang.specs.WellFormed.{IsWellFormedBlock}
use Rattle.loom_lang.specs.Canonical.{function_lines, functions_lines}
use Rattle.loom_lang.proofs.Faults.{drop_at}
use Rattle.loom_canonical.proofs.BlockText.{ended_append}

-- one line more is written
pub lines_more : {X : Type 0} (line : X → List ℕ) (xs : List X) (i : ℕ) (x : X) (old new : List ℕ) → i < length xs → x ≡ get_or xs i x → new ≡ old ++ ended (line x ∷ []) → new ++ ended (map line (drop (i + 1) xs)) ≡ old ++ ended (map line (drop i xs))
lines_more line xs i x old new l e h =
    rw (drop_at xs i x l e, h) (simp append_assoc)

-- one function more is written
pub functions_more : (fs : List Func) (i : ℕ) (f : Func) (old new : List ℕ) → i < length fs → f ≡ get_or fs i f → new ≡ old ++ ended (function_lines (function_of f)) → new ++ ended (functions_lines (functions_of (drop (i + 1) fs))) ≡ old ++ ended (functions_lines (functions_of (drop i fs)))
functions_more fs i f old new l e h =
    rw (drop_at fs i f l e, h, ended_append (function_lines (function_of f)) (functions_lines (functions_of (drop (i + 1) fs)))) (simp append_assoc)

-- Each body has the form of a first block.

abbrev pub HaveForms : List Function → Type 0
HaveForms fs = AllByRecursion (λ f. IsWellFormedBlock 1 f.body) fs

pub form_at : (fs : List Func) (i : ℕ) (f : Func) → i < length fs → f ≡ get_or fs i f → HaveForms (functions_of (drop i fs)) → IsWellFormedBlock 1 (body_of f.body) × HaveForms (functions_of (drop (i + 1) fs))
form_at fs i f l e h = rw (drop_at fs i f l e) at h

pub have_forms : (p : Source) (fs : List Function) → FunctionsKeepRules p fs → HaveForms fs
have_forms p [] h = tt
have_forms p (f ∷ fs) h = (h.0.form, have_forms p fs h.1)
