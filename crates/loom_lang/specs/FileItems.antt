-- The items of a file by their kinds.
use Rattle.std.specs.Prelude.{ℕ, List, [], ◌∷◌, ◌++◌, flat_map}
use Rattle.loom_tree.specs.declared.item.Word.{Word}
use Rattle.loom_tree.specs.declared.item.Sema.{Sema}
use Rattle.loom_tree.specs.Tree.{FileItem, word, mutex, sema, func, Function, Source}

abbrev pub words_in : FileItem → List Word
words_in (word l w) = w ∷ []
words_in _ = []

abbrev pub mutexes_in : FileItem → List (List ℕ)
mutexes_in (mutex l x) = x ∷ []
mutexes_in _ = []

abbrev pub semas_in : FileItem → List Sema
semas_in (sema l s) = s ∷ []
semas_in _ = []

abbrev pub funcs_in : FileItem → List Function
funcs_in (func f) = f ∷ []
funcs_in _ = []

-- the program of these items: those of each kind in the order of the text
abbrev pub source_of_items : List FileItem → Source
source_of_items items = record {
  words = flat_map words_in items;
  mutexes = flat_map mutexes_in items;
  semas = flat_map semas_in items;
  funcs = flat_map funcs_in items;
}

-- one item after another

abbrev pub nothing : Source
nothing = record { words = []; mutexes = []; semas = []; funcs = [] }

abbrev pub with_item : Source → FileItem → Source
with_item p (word l w) = record p { words = p.words ++ w ∷ [] }
with_item p (mutex l x) = record p { mutexes = p.mutexes ++ x ∷ [] }
with_item p (sema l s) = record p { semas = p.semas ++ s ∷ [] }
with_item p (func f) = record p { funcs = p.funcs ++ f ∷ [] }

abbrev pub gathered : Source → List FileItem → Source
gathered p [] = p
gathered p (i ∷ is) = gathered (with_item p i) is
