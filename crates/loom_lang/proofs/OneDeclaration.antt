-- The names of a file are declared once where none is declared a second time in the order of the text.
use Rattle.std.proofs.Common.{ℕ, ◌≡◌, Bool, true, not, ◌&&◌, List, [], ◌∷◌, ◌++◌, map, refl, ap, sym, ◌∙◌, arith, append_assoc}
use Rattle.loom_tree.specs.declared.item.Word.{Word}
use Rattle.loom_tree.specs.declared.item.Sema.{Sema}
use Rattle.loom_tree.specs.Tree.{Function, FileItem, word, mutex, sema, func, Source}
use Rattle.loom_lang.specs.declared.local.Local.{Local}
use Rattle.loom_lang.specs.Rules.{is_in, is_distinct, is_apart, locals_of, file_names}
use Rattle.loom_lang.specs.FileItems.{source_of_items}
use Rattle.loom_lang.specs.Refusal.{line_if, repeated, twice_lines}
use Rattle.loom_lang.specs.Fault.{name_of, line_of, locals_in}
use Rattle.loom_lang.proofs.Distinct.{AreSame, same_append, same_inserted, apart_same, apart_more, apart_append, apart_swapped, distinct_inserted}
use Rattle.loom_lang.specs.Fault.{names_of}
use Rattle.loom_lang.proofs.Repetition.{locals_names, twice_step}
use Rattle.loom_lang.proofs.Empty.{is_empty, empty_append, empty_line_if}

-- the names of a file of these items
abbrev pub names_in : List FileItem → List (List ℕ)
names_in items = file_names (source_of_items items)

-- One item more puts its name somewhere among those of the items behind it.
pub record IsInserted (y : List ℕ) (more names : List (List ℕ)) : Type 0 where
  pub before : List (List ℕ)
  pub behind : List (List ℕ)
  pub without : names ≡ before ++ behind
  pub with : more ≡ before ++ y ∷ behind

inserted : (i : FileItem) (is : List FileItem) → IsInserted (name_of i) (names_in (i ∷ is)) (names_in is)
inserted (word l w) is = record { before = []; behind = names_in is; without = refl; with = refl }
inserted (mutex l x) is =
    let p : Source = source_of_items is in
    let W : List (List ℕ) = map (λ (w : Word). w.name) p.words in
    let M : List (List ℕ) = p.mutexes ++ map (λ (s : Sema). s.name) p.semas in
    let F : List (List ℕ) = map (λ (f : Function). f.name) p.funcs in
    record { before = W; behind = M ++ F; without = append_assoc W M F; with = append_assoc W (x ∷ M) F }
inserted (sema l s) is =
    let p : Source = source_of_items is in
    let W : List (List ℕ) = map (λ (w : Word). w.name) p.words in
    let M : List (List ℕ) = p.mutexes in
    let S : List (List ℕ) = map (λ (s : Sema). s.name) p.semas in
    let F : List (List ℕ) = map (λ (f : Function). f.name) p.funcs in
    record {
      before = W ++ M;
      behind = S ++ F;
      without = ap (λ z. z ++ F) (sym (append_assoc W M S)) ∙ append_assoc (W ++ M) S F;
      with = ap (λ z. z ++ F) (sym (append_assoc W M (s.name ∷ S))) ∙ append_assoc (W ++ M) (s.name ∷ S) F;
    }
inserted (func f) is =
    let p : Source = source_of_items is in
    record {
      before = map (λ (w : Word). w.name) p.words ++ (p.mutexes ++ map (λ (s : Sema). s.name) p.semas);
      behind = map (λ (f : Function). f.name) p.funcs;
      without = refl;
      with = refl;
    }

inserted_same : (y : List ℕ) (more names : List (List ℕ)) → IsInserted y more names → AreSame more (y ∷ names)
inserted_same y more names h x = ap (is_in x) h.with ∙ same_inserted h.before h.behind y x ∙ ap (λ z. is_in x (y ∷ z)) (sym h.without)

inserted_distinct : (y : List ℕ) (more names : List (List ℕ)) → IsInserted y more names → is_distinct more ≡ (not (is_in y names) && is_distinct names)
inserted_distinct y more names h = ap is_distinct h.with ∙ distinct_inserted h.before h.behind y ∙ ap (λ z. not (is_in y z) && is_distinct z) (sym h.without)

-- the locals of a function are declared once, and are none of these names
abbrev pub has_own : List (List ℕ) → List (List ℕ) → Bool
has_own names locals = is_distinct locals && is_apart locals names

abbrev pub have_own : List (List ℕ) → List Function → Bool
have_own names [] = true
have_own names (f ∷ fs) = has_own names (locals_of f) && have_own names fs

have_own_same : (fs : List Function) (xs ys : List (List ℕ)) → AreSame xs ys → have_own xs fs ≡ have_own ys fs
have_own_same [] xs ys h = refl
have_own_same (f ∷ fs) xs ys h = ap (λ z. (is_distinct (locals_of f) && z) && have_own xs fs) (apart_same (locals_of f) xs ys h) ∙ ap (λ z. has_own ys (locals_of f) && z) (have_own_same fs xs ys h)

have_own_item : (names : List (List ℕ)) (i : FileItem) (is : List FileItem) → have_own names (source_of_items (i ∷ is)).funcs ≡ (has_own names (names_of (locals_in i)) && have_own names (source_of_items is).funcs)
have_own_item names (word l w) is = refl
have_own_item names (mutex l x) is = refl
have_own_item names (sema l s) is = refl
have_own_item names (func f) is = ap (λ z. has_own names z && have_own names (source_of_items is).funcs) (sym (locals_names f))

repeated_empty : (names : List (List ℕ)) (ds : List Local) → is_empty (repeated names ds) ≡ has_own names (names_of ds)
repeated_empty names [] = refl
repeated_empty names (d ∷ ds) =
    let h : is_empty (repeated (d.name ∷ names) ds) ≡ has_own (d.name ∷ names) (names_of ds) = repeated_empty (d.name ∷ names) ds in
    let a : is_empty (line_if (is_in d.name names) d.line ++ repeated (d.name ∷ names) ds) ≡ (not (is_in d.name names) && is_empty (repeated (d.name ∷ names) ds)) = empty_append (line_if (is_in d.name names) d.line) _ ∙ ap (λ z. z && is_empty (repeated (d.name ∷ names) ds)) (empty_line_if (is_in d.name names) d.line) in
    let m : is_apart (names_of ds) (d.name ∷ names) ≡ (not (is_in d.name (names_of ds)) && is_apart (names_of ds) names) = apart_more (names_of ds) d.name names in
    grind arith

-- the names of these items are declared once, and are none of these names and locals; the locals of their functions are
-- declared once, and are none of these names and of those of the items
abbrev pub declare_once : List (List ℕ) → List (List ℕ) → List FileItem → Bool
declare_once names locals items = is_distinct (names_in items) && (is_apart (names_in items) (names ++ locals) && have_own (names ++ names_in items) (source_of_items items).funcs)

-- the tests of one item, and those of the items behind it
regrouped : (all head theirs tail distinct apart functions a b c d e f g h i j : Bool) → all ≡ (head && (theirs && tail)) → head ≡ a → theirs ≡ (b && (c && d)) → tail ≡ (e && ((f && (g && (h && i))) && j)) → distinct ≡ (f && e) → apart ≡ (a && (g && i)) → functions ≡ ((b && (d && (c && h))) && j) → all ≡ (distinct && (apart && functions))
regrouped all head theirs tail distinct apart functions a b c d e f g h i j e0 e1 e2 e3 e4 e5 e6 = grind arith

pub twice_empty : (names locals : List (List ℕ)) (items : List FileItem) → is_empty (twice_lines names locals items) ≡ declare_once names locals items
twice_empty names locals [] = refl
twice_empty names locals (i ∷ is) =
    let n : List ℕ = name_of i in
    let own : List (List ℕ) = names_of (locals_in i) in
    let all : List (List ℕ) = names_in (i ∷ is) in
    let rest : List (List ℕ) = names_in is in
    let fs : List Function = (source_of_items is).funcs in
    let same : AreSame all (n ∷ rest) = inserted_same n all rest (inserted i is) in
    let head : List ℕ = line_if (is_in n (names ++ locals)) (line_of i) in
    let theirs : List ℕ = repeated (n ∷ names) (locals_in i) in
    let tail : List ℕ = twice_lines (n ∷ names) (own ++ locals) is in
    let parts : is_empty (twice_lines names locals (i ∷ is)) ≡ (is_empty head && (is_empty theirs && is_empty tail)) = ap is_empty (twice_step names locals i is) ∙ empty_append head (theirs ++ tail) ∙ ap (λ z. is_empty head && z) (empty_append theirs tail) in
    let at_head : is_empty head ≡ not (is_in n (names ++ locals)) = empty_line_if (is_in n (names ++ locals)) (line_of i) in
    let at_theirs : is_empty theirs ≡ (is_distinct own && (not (is_in n own) && is_apart own names)) = repeated_empty (n ∷ names) (locals_in i) ∙ ap (λ z. is_distinct own && z) (apart_more own n names) in
    let far : is_apart rest (n ∷ (names ++ (own ++ locals))) ≡ (not (is_in n rest) && (is_apart rest names && (is_apart rest own && is_apart rest locals))) =
    apart_more rest n (names ++ (own ++ locals)) ∙ ap (λ z. not (is_in n rest) && z) (apart_append rest names (own ++ locals) ∙ ap (λ z. is_apart rest names && z) (apart_append rest own locals)) in
    let at_tail : is_empty tail ≡ (is_distinct rest && ((not (is_in n rest) && (is_apart rest names && (is_apart rest own && is_apart rest locals))) && have_own (n ∷ (names ++ rest)) fs)) = twice_empty (n ∷ names) (own ++ locals) is ∙ ap (λ z. is_distinct rest && (z && have_own (n ∷ (names ++ rest)) fs)) far in
    let distinct : is_distinct all ≡ (not (is_in n rest) && is_distinct rest) = inserted_distinct n all rest (inserted i is) in
    let apart : is_apart all (names ++ locals) ≡ (not (is_in n (names ++ locals)) && (is_apart rest names && is_apart rest locals)) =
    apart_swapped all (names ++ locals) ∙ apart_same (names ++ locals) all (n ∷ rest) same ∙ apart_more (names ++ locals) n rest
    ∙ ap (λ z. not (is_in n (names ++ locals)) && z) (apart_swapped (names ++ locals) rest ∙ apart_append rest names locals) in
    let apart_own : is_apart own (names ++ all) ≡ (is_apart own names && (not (is_in n own) && is_apart rest own)) =
    apart_append own names all ∙ ap (λ z. is_apart own names && z) (apart_same own all (n ∷ rest) same ∙ apart_more own n rest ∙ ap (λ z. not (is_in n own) && z) (apart_swapped own rest)) in
    let others : have_own (names ++ all) fs ≡ have_own (n ∷ (names ++ rest)) fs = have_own_same fs (names ++ all) (n ∷ (names ++ rest)) (λ x. same_append names names all (n ∷ rest) (λ y. refl) same x ∙ same_inserted names rest n x) in
    let functions : have_own (names ++ all) (source_of_items (i ∷ is)).funcs ≡ ((is_distinct own && (is_apart own names && (not (is_in n own) && is_apart rest own))) && have_own (n ∷ (names ++ rest)) fs) =
    have_own_item (names ++ all) i is ∙ ap (λ z. (is_distinct own && z) && have_own (names ++ all) fs) apart_own ∙ ap (λ z. (is_distinct own && (is_apart own names && (not (is_in n own) && is_apart rest own))) && z) others in
    regrouped _ (is_empty head) (is_empty theirs) (is_empty tail) (is_distinct all) (is_apart all (names ++ locals)) (have_own (names ++ all) (source_of_items (i ∷ is)).funcs)
    (not (is_in n (names ++ locals))) (is_distinct own) (not (is_in n own)) (is_apart own names) (is_distinct rest) (not (is_in n rest)) (is_apart rest names) (is_apart rest own) (is_apart rest locals) (have_own (n ∷ (names ++ rest)) fs)
    parts at_head at_theirs at_tail distinct apart functions
