-- The canonical text of a program is a text of that program, with the lines of that text.
use Rattle.std.proofs.Common.{ℕ, ◌+◌, ◌≡◌, ◌≤◌, ℤ, List, [], ◌∷◌, ◌++◌, length, map, Option, Some, None, refl, ap, ◌∙◌, arith, append-nil}
use Rattle.std.specs.List.{AllByRecursion}
use Rattle.loom_tree.specs.declared.item.Word.{Word}
use Rattle.loom_tree.specs.declared.item.Sema.{Sema}
use Rattle.loom_tree.specs.Tree.{Function, Source}
use Rattle.loom_lexer.specs.Name.{IsName}
use Rattle.loom_lexer.specs.Tokens.{tokens_from}
use Rattle.loom_syntax.specs.File.{ItemForm, IsItem, item_tree}
use Rattle.loom_lang.specs.Limits.{cell_limit}
use Rattle.loom_lang.specs.WellFormed.{IsWellFormedWord, IsWellFormedSema}
use Rattle.loom_lang.specs.Rules.{cells_in, cell_count, locals_of, lets, KeepsRules, FunctionsKeepRules}
use Rattle.loom_lang.specs.Program.{IsTextOf, IsProgram}
use Rattle.loom_lang.specs.Canonical.{canonical_text, canonical_lines, functions_lines, with_canonical_lines}
use Rattle.loom_canonical.specs.Laws.{HasCanonicalText}
use Rattle.loom_canonical.proofs.KnownNames.{all_front, HasNameKinds, kinds_named, body_named}
use Rattle.loom_canonical.proofs.ItemTokens.{HasFewCells, IsWritableWord, IsWritableSema, IsWritableFunction, words_before, mutexes_before, semas_before, function_forms, HaveItems, words_marks, mutexes_marks, semas_marks, functions_marks, words_rules, mutexes_rules, semas_rules, functions_rules, source_of, words_source, mutexes_source, semas_source, functions_source}
use Rattle.loom_canonical.proofs.CanonicalRules.{canonical_rules}

-- What is asked of the items follows from the rules.

has_few_cells : (x : List ℕ) (c : Option ℕ) (z : ℤ) → cells_in (record { name = x; cells = c; first = z }) ≤ cell_limit → HasFewCells c
has_few_cells x None z h = tt
has_few_cells x (Some n) z h = omega arith

words_writable : (ws : List Word) → AllByRecursion IsName (map (λ (w : Word). w.name) ws) → AllByRecursion IsWellFormedWord ws → cell_count ws ≤ cell_limit → AllByRecursion IsWritableWord ws
words_writable [] h k l = tt
words_writable (w ∷ ws) h k l =
    let own : cells_in w ≤ cell_limit = omega arith in
    (record { name = h.0; form = k.0; cells = has_few_cells w.name w.cells w.first own }, words_writable ws h.1 k.1 (omega arith))

semas_writable : (ss : List Sema) → AllByRecursion IsName (map (λ (s : Sema). s.name) ss) → AllByRecursion IsWellFormedSema ss → AllByRecursion IsWritableSema ss
semas_writable [] h k = tt
semas_writable (s ∷ ss) h k = (record { name = h.0; form = k.0 }, semas_writable ss h.1 k.1)

functions_writable : (p : Source) → HasNameKinds p → (fs : List Function) → AllByRecursion IsName (map (λ (f : Function). f.name) fs) → FunctionsKeepRules p fs → AllByRecursion IsWritableFunction fs
functions_writable p names [] h k = tt
functions_writable p names (f ∷ fs) h k =
    let own : IsWritableFunction f = record {
      name = h.0;
      params = all_front IsName f.params (lets f.body) k.0.names;
      names = body_named p (locals_of f) names k.0.names f.body k.0.known;
      form = k.0.form;
    } in
    (own, functions_writable p names fs h.1 k.1)

-- The items of the canonical text

abbrev canonical_items : Source → List ItemForm
canonical_items p =
    words_before 1 p.words
    (mutexes_before (1 + length p.words) p.mutexes
    (semas_before (1 + length p.words + length p.mutexes) p.semas
    (function_forms (1 + length p.words + length p.mutexes + length p.semas) p.funcs)))

record HasWritableItems (p : Source) : Type 0 where
  pub words : AllByRecursion IsWritableWord p.words
  pub mutexes : AllByRecursion IsName p.mutexes
  pub semas : AllByRecursion IsWritableSema p.semas
  pub functions : AllByRecursion IsWritableFunction p.funcs

items_writable : (p : Source) → KeepsRules p → HasWritableItems p
items_writable p k =
    let names = kinds_named p k.names in
    record {
      words = words_writable p.words names.words k.words k.cells;
      mutexes = names.mutexes;
      semas = semas_writable p.semas names.semas k.semas;
      functions = functions_writable p names p.funcs names.functions k.functions;
    }

items_marks : (p : Source) → HasWritableItems p → HaveItems 1 (canonical_items p) (canonical_lines p)
items_marks p h =
    let first : ℕ = 1 + length p.words in
    let second : ℕ = first + length p.mutexes in
    let third : ℕ = second + length p.semas in
    let functions = functions_marks p.funcs third h.functions in
    let semas = semas_marks p.semas second third (function_forms third p.funcs) (functions_lines p.funcs) refl h.semas functions in
    let mutexes = mutexes_marks p.mutexes first second _ _ refl h.mutexes semas in
    words_marks p.words 1 first _ _ refl h.words mutexes

items_rules : (p : Source) → HasWritableItems p → AllByRecursion IsItem (canonical_items p)
items_rules p h =
    let first : ℕ = 1 + length p.words in
    let second : ℕ = first + length p.mutexes in
    let third : ℕ = second + length p.semas in
    words_rules p.words 1 _ (mutexes_rules p.mutexes first _ (semas_rules p.semas second _ h.semas (functions_rules p.funcs third h.functions)))

items_source : (p : Source) → HasWritableItems p → source_of (canonical_items p) ≡ with_canonical_lines p
items_source p h =
    let first : ℕ = 1 + length p.words in
    let second : ℕ = first + length p.mutexes in
    let third : ℕ = second + length p.semas in
    let F : List ItemForm = function_forms third p.funcs in
    let S : List ItemForm = semas_before second p.semas F in
    let M : List ItemForm = mutexes_before first p.mutexes S in
    words_source p.words 1 M h.words
    ∙ ap (λ (z : Source). record z { words = p.words ++ z.words }) (mutexes_source p.mutexes first S)
    ∙ ap (λ (z : Source). record z { words = p.words ++ z.words; mutexes = p.mutexes ++ z.mutexes }) (semas_source p.semas second F)
    ∙ ap (λ (z : Source). record z { words = p.words ++ z.words; mutexes = p.mutexes ++ z.mutexes; semas = p.semas ++ z.semas }) (functions_source p.funcs third h.functions)
    ∙ ap (λ z. record (with_canonical_lines p) { words = z; mutexes = p.mutexes ++ []; semas = p.semas ++ [] }) (append-nil p.words)
    ∙ ap (λ z. record (with_canonical_lines p) { mutexes = z; semas = p.semas ++ [] }) (append-nil p.mutexes)
    ∙ ap (λ z. record (with_canonical_lines p) { semas = z }) (append-nil p.semas)

text_of_items : (p : Source) → HasWritableItems p → IsTextOf (canonical_text p) (map item_tree (canonical_items p))
text_of_items p h =
    let m = items_marks p h in
    record {
      tokens = tokens_from 1 m.lexemes;
      lexed = record { lexemes = m.lexemes; lexed = m.lexed; theirs = refl };
      file = record { written = canonical_items p; rules = items_rules p h; spelled = m.fits; stands = refl };
    }

-- A program that keeps the rules has its canonical text.
pub canonical_program : (p : Source) → KeepsRules p → IsProgram (canonical_text p) (with_canonical_lines p)
canonical_program p k =
    let h = items_writable p k in
    record { items = map item_tree (canonical_items p); text = text_of_items p h; gathered = items_source p h; lawful = canonical_rules p k }

pub canonical_text_is_text : HasCanonicalText
canonical_text_is_text bytes p h size = canonical_program p h.lawful
