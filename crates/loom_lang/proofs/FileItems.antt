-- Items that are gathered one after another are gathered by their kinds.
use Rattle.std.proofs.Common.{◌+◌, ◌≤◌, ◌≡◌, List, [], ◌∷◌, ◌++◌, ap, sym, ◌∙◌, arith, append_assoc}
use Rattle.std.specs.Prelude.{flat_map}
use Rattle.std.proofs.lemmas.List.{append-nil}
use Rattle.loom_tree.specs.declared.item.Word.{Word}
use Rattle.loom_tree.specs.Tree.{FileItem, word, mutex, sema, func, Source}
use Rattle.loom_lang.specs.Limits.{cell_limit}
use Rattle.loom_lang.specs.Rules.{cell_count}
use Rattle.loom_lang.specs.FileItems.{words_in, mutexes_in, semas_in, funcs_in, source_of_items, nothing, with_item, gathered}

-- the items of one behind those of the other
abbrev pub joined : Source → Source → Source
joined p q = record {
  words = p.words ++ q.words;
  mutexes = p.mutexes ++ q.mutexes;
  semas = p.semas ++ q.semas;
  funcs = p.funcs ++ q.funcs;
}

joined-item : (p : Source) (i : FileItem) (is : List FileItem) → joined (with_item p i) (source_of_items is) ≡ joined p (source_of_items (i ∷ is))
joined-item p (word l w) is = ap (λ z. record (joined p (source_of_items is)) { words = z }) (append_assoc p.words (w ∷ []) (flat_map words_in is))
joined-item p (mutex l x) is = ap (λ z. record (joined p (source_of_items is)) { mutexes = z }) (append_assoc p.mutexes (x ∷ []) (flat_map mutexes_in is))
joined-item p (sema l s) is = ap (λ z. record (joined p (source_of_items is)) { semas = z }) (append_assoc p.semas (s ∷ []) (flat_map semas_in is))
joined-item p (func f) is = ap (λ z. record (joined p (source_of_items is)) { funcs = z }) (append_assoc p.funcs (f ∷ []) (flat_map funcs_in is))

pub gathered-joined : (p : Source) (items : List FileItem) → gathered p items ≡ joined p (source_of_items items)
gathered-joined p [] = simp append-nil
gathered-joined p (i ∷ is) = gathered-joined (with_item p i) is ∙ joined-item p i is

pub gathered-all : (items : List FileItem) → gathered nothing items ≡ source_of_items items
gathered-all items = gathered-joined nothing items

cell_count-append : (xs ys : List Word) → cell_count (xs ++ ys) ≡ cell_count xs + cell_count ys
cell_count-append [] ys = omega arith
cell_count-append (x ∷ xs) ys = omega (arith, cell_count-append xs ys)

-- where all have few cells, one item has
pub few_cells : (p : Source) (i : FileItem) (is all : List FileItem) → gathered p (i ∷ is) ≡ gathered nothing all → cell_count (source_of_items all).words ≤ cell_limit → cell_count (words_in i) ≤ cell_limit
few_cells p i is all e h =
    let a : cell_count (p.words ++ (words_in i ++ flat_map words_in is)) ≡ cell_count p.words + (cell_count (words_in i) + cell_count (flat_map words_in is)) = cell_count-append p.words (words_in i ++ flat_map words_in is) ∙ ap (λ z. cell_count p.words + z) (cell_count-append (words_in i) (flat_map words_in is)) in
    let b : cell_count (p.words ++ (words_in i ++ flat_map words_in is)) ≡ cell_count (source_of_items all).words = ap (λ (z : Source). cell_count z.words) (sym (gathered-joined p (i ∷ is)) ∙ e ∙ gathered-all all) in
    omega arith
