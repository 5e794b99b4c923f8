-- Items are without a fault exactly where they keep the rules.
use Rattle.std.proofs.Common.{ℕ, ◌+◌, ◌≤◌, ◌≡◌, Bool, true, false, not, ◌&&◌, nat_lt, List, [], ◌∷◌, length, map, zero-le, refl, ap, sym, ◌∙◌, arith}
use Rattle.std.specs.Prelude.{flat_map, codes}
use Rattle.std.specs.List.{AllByRecursion}
use Rattle.std.proofs.lemmas.Bool.{le-ltb, ltb-false}
use Rattle.std.proofs.lemmas.List.{length-map}
use Rattle.loom_tree.specs.Tree.{Function, FileItem, Source}
use Rattle.loom_lang.specs.declared.local.Local.{Local}
use Rattle.loom_lang.specs.declared.refusal.Which.TheVariants as which
use Rattle.loom_lang.specs.declared.refusal.Reason.{Reason}
use Rattle.loom_lang.specs.declared.refusal.Reason.TheVariants as reason
use Rattle.loom_lang.specs.Limits.{function_limit, param_limit, local_limit, name_limit, cell_limit, statement_limit}
use Rattle.loom_lang.specs.Rules.{is_distinct, is_apart, locals_of, lines_of, cell_count, shared_names, file_names, KeepsRules, FunctionKeepsRules, FunctionsKeepRules}
use Rattle.loom_lang.specs.FileItems.{source_of_items}
use Rattle.loom_lang.specs.Refusal.{line_if, unknown_lines, miscounted_lines, main_lines, locals_at, first_excess, shared_lines, lines_of_reason, IsFaultless}
use Rattle.loom_lang.specs.Program.{IsTextOf}
use Rattle.loom_lang.proofs.WellFormed.{IsFormedFunction, HasForm, text_formed}
use Rattle.loom_lang.proofs.Empty.{is_empty, empty_append, none_among, among_none}
use Rattle.loom_lang.proofs.Distinct.{apart_nil, distinct_behind}
use Rattle.loom_lang.proofs.OneDeclaration.{names_in, have_own, twice_empty}
use Rattle.loom_lang.proofs.NoLine.{empty_functions, second_empty, unknown_empty, miscounted_empty, takes_function, fit_taken, taken_fit, over_kept, kept_over, local_count, shared_count, cells_kept, kept_cells}

both : (a b : Bool) → (a && b) ≡ true → (a ≡ true) × (b ≡ true)
both true b h = (refl, h)
both false b h = cc

and_of : (a b : Bool) → a ≡ true → b ≡ true → (a && b) ≡ true
and_of true b h g = g
and_of false b h g = cc

-- what is looked for in each function

abbrev unknown_in : Source → Function → List ℕ
unknown_in p f = unknown_lines p (locals_of f) f.body

abbrev miscounted_in : Source → Function → List ℕ
miscounted_in p f = miscounted_lines p f.body

abbrev params_in : Function → List ℕ
params_in f = line_if (nat_lt param_limit (length f.params)) f.line

abbrev over_in : Function → List ℕ
over_in f = first_excess local_limit (map (λ (d : Local). d.line) (locals_at f))

params_kept : (f : Function) → is_empty (params_in f) ≡ true → length f.params ≤ param_limit
params_kept f h = ltb-false param_limit (length f.params) (go (nat_lt param_limit (length f.params)) h)
  where
    go : (b : Bool) → is_empty (line_if b f.line) ≡ true → b ≡ false
    go true k = cc
    go false k = refl

kept_params : (f : Function) → length f.params ≤ param_limit → is_empty (params_in f) ≡ true
kept_params f h = ap (λ b. is_empty (line_if b f.line)) (le-ltb param_limit (length f.params) h)

functions_kept : (p : Source) (fs : List Function) → AllByRecursion IsFormedFunction fs → is_empty (flat_map (unknown_in p) fs) ≡ true → is_empty (flat_map (miscounted_in p) fs) ≡ true → is_empty (flat_map params_in fs) ≡ true → is_empty (flat_map over_in fs) ≡ true → have_own (file_names p) fs ≡ true → FunctionsKeepRules p fs
functions_kept p [] form u m a l o = tt
functions_kept p (f ∷ fs) form u m a l o =
    let u' : (is_empty (unknown_in p f) ≡ true) × (is_empty (flat_map (unknown_in p) fs) ≡ true) = both _ _ (sym (empty_functions (unknown_in p) f fs) ∙ u) in
    let m' : (is_empty (miscounted_in p f) ≡ true) × (is_empty (flat_map (miscounted_in p) fs) ≡ true) = both _ _ (sym (empty_functions (miscounted_in p) f fs) ∙ m) in
    let a' : (is_empty (params_in f) ≡ true) × (is_empty (flat_map params_in fs) ≡ true) = both _ _ (sym (empty_functions params_in f fs) ∙ a) in
    let l' : (is_empty (over_in f) ≡ true) × (is_empty (flat_map over_in fs) ≡ true) = both _ _ (sym (empty_functions over_in f fs) ∙ l) in
    let o' : ((is_distinct (locals_of f) && is_apart (locals_of f) (file_names p)) ≡ true) × (have_own (file_names p) fs ≡ true) = both _ _ o in
    let own : (is_distinct (locals_of f) ≡ true) × (is_apart (locals_of f) (file_names p) ≡ true) = both _ _ o'.0 in
    let lawful : FunctionKeepsRules p f = record {
      once = own.0;
      apart = own.1;
      known = sym (unknown_empty p (locals_of f) f.body) ∙ u'.0;
      counted = sym (miscounted_empty p f.body) ∙ m'.0;
      params = params_kept f a'.0;
      locals = rw (← local_count f) (over_kept local_limit _ l'.0);
      names = form.0.names;
      form = form.0.form;
    } in
    (lawful, functions_kept p fs form.1 u'.1 m'.1 a'.1 l'.1 o'.1)

-- and the other way

kept_each : (g : Function → List ℕ) (p : Source) → ((f : Function) → FunctionKeepsRules p f → is_empty (g f) ≡ true) → (fs : List Function) → FunctionsKeepRules p fs → is_empty (flat_map g fs) ≡ true
kept_each g p h [] k = refl
kept_each g p h (f ∷ fs) k = empty_functions g f fs ∙ and_of _ _ (h f k.0) (kept_each g p h fs k.1)

kept_own : (p : Source) (fs : List Function) → FunctionsKeepRules p fs → have_own (file_names p) fs ≡ true
kept_own p [] k = refl
kept_own p (f ∷ fs) k = and_of _ _ (and_of _ _ k.0.once k.0.apart) (kept_own p fs k.1)

no_main_kept : (b : Bool) (l : ℕ) → is_empty (line_if (not b) l) ≡ true → b ≡ true
no_main_kept true l h = refl
no_main_kept false l h = cc

-- Items of a text without a fault keep the rules.
pub faultless_lawful : (bytes : List ℕ) (items : List FileItem) (last : ℕ) → IsTextOf bytes items → IsFaultless items last → KeepsRules (source_of_items items)
faultless_lawful bytes items last text h =
    let p : Source = source_of_items items in
    let form : HasForm p = text_formed bytes items text in
    let none : (why : Reason) → is_empty (lines_of_reason items last why) ≡ true = λ why. none_among (lines_of_reason items last why) (λ l a. h l why a) in
    let counts : (is_empty (main_lines p) ≡ true) × (is_empty (flat_map (miscounted_in p) p.funcs) ≡ true) = both _ _ (sym (empty_append (main_lines p) (flat_map (miscounted_in p) p.funcs)) ∙ none reason.WrongCount) in
    let names : (is_distinct (names_in items) ≡ true) × ((is_apart (names_in items) [] && have_own (names_in items) p.funcs) ≡ true) = both _ _ (sym (twice_empty [] [] items) ∙ none reason.NameTwice) in
    let own : (is_apart (names_in items) [] ≡ true) × (have_own (names_in items) p.funcs ≡ true) = both _ _ names.1 in
    let functions : length (map (λ (f : Function). f.line) p.funcs) ≤ function_limit = over_kept function_limit _ (none (reason.TooMany which.Functions)) in
    let shared : length (shared_lines items) ≤ name_limit = over_kept name_limit _ (none (reason.TooMany which.Names)) in
    let cells : 0 + cell_count p.words ≤ cell_limit = cells_kept 0 items zero-le (none (reason.TooMany which.Cells)) in
    record {
      once = names.0;
      functions = functions_kept p p.funcs form.functions (none reason.UnknownName) counts.1 (none (reason.TooMany which.Params)) (none (reason.TooMany which.Locals)) own.1;
      main = fit_taken (codes "main") 0 p.funcs counts.0 (no_main_kept _ last (none reason.NoMain));
      lines = sym (second_empty 0 (lines_of p)) ∙ none reason.SecondOnLine;
      function_count = simp length-map at functions;
      name_count = rw (← shared_count items) shared;
      cells = omega arith;
      statements = over_kept statement_limit _ (none (reason.TooMany which.Statements));
      names = form.names;
      words = form.words;
      semas = form.semas;
    }

kept : (items : List FileItem) (last : ℕ) → KeepsRules (source_of_items items) → (why : Reason) → is_empty (lines_of_reason items last why) ≡ true
kept items last h reason.Syntax = refl
kept items last h reason.SecondOnLine = second_empty 0 (lines_of (source_of_items items)) ∙ h.lines
kept items last h reason.UnknownName = kept_each (unknown_in (source_of_items items)) (source_of_items items) (λ f k. unknown_empty (source_of_items items) (locals_of f) f.body ∙ k.known) (source_of_items items).funcs h.functions
kept items last h reason.NameTwice = twice_empty [] [] items ∙ and_of _ _ h.once (and_of _ _ (apart_nil (names_in items)) (kept_own (source_of_items items) (source_of_items items).funcs h.functions))
kept items last h reason.WrongCount =
    let p : Source = source_of_items items in
    empty_append (main_lines p) (flat_map (miscounted_in p) p.funcs)
    ∙ and_of _ _ (taken_fit (codes "main") 0 p.funcs (distinct_behind (shared_names p) (map (λ (f : Function). f.name) p.funcs) h.once) h.main) (kept_each (miscounted_in p) p (λ f k. miscounted_empty p f.body ∙ k.counted) p.funcs h.functions)
kept items last h reason.NoMain = ap (λ b. is_empty (line_if (not b) last)) (takes_function (source_of_items items).funcs (codes "main") 0 h.main)
kept items last h (reason.TooMany which.Functions) = kept_over function_limit (map (λ (f : Function). f.line) (source_of_items items).funcs) (simp length-map h.function_count)
kept items last h (reason.TooMany which.Params) = kept_each params_in (source_of_items items) (λ f k. kept_params f k.params) (source_of_items items).funcs h.functions
kept items last h (reason.TooMany which.Locals) = kept_each over_in (source_of_items items) (λ f k. kept_over local_limit (map (λ (d : Local). d.line) (locals_at f)) (rw (local_count f) k.locals)) (source_of_items items).funcs h.functions
kept items last h (reason.TooMany which.Names) = kept_over name_limit (shared_lines items) (rw (shared_count items) h.name_count)
kept items last h (reason.TooMany which.Cells) = let cells : cell_count (source_of_items items).words ≤ cell_limit = h.cells in kept_cells 0 items (omega arith)
kept items last h (reason.TooMany which.Statements) = kept_over statement_limit _ h.statements

-- Items that keep the rules have no fault.
pub lawful_faultless : (items : List FileItem) (last : ℕ) → KeepsRules (source_of_items items) → IsFaultless items last
lawful_faultless items last h line why a = among_none (lines_of_reason items last why) line (kept items last h why) a
