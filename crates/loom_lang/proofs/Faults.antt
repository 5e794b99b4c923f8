-- Faults that are noted one after another.
use Rattle.std.proofs.Common.{ℕ, ◌+◌, suc, ◌<◌, ◌≡◌, List, [], ◌∷◌, ◌++◌, length, get_or, drop, Option, Some, refl, ap, sym, ◌∙◌, add-one, drop-cons, append_assoc}
use Rattle.std.specs.Prelude.{flat_map}
use Rattle.std.proofs.lemmas.Grind.{flat_map-append}
use Rattle.loom_tree.specs.declared.item.FileItem as rust_item
use Rattle.loom_tree.specs.Tree.{Function, item_of, items_of}
use Rattle.loom_lang.specs.declared.refusal.Reason.{Reason}
use Rattle.loom_lang.specs.declared.refusal.LangRefusal.{LangRefusal}
use Rattle.loom_lang.specs.FileItems.{funcs_in}
use Rattle.loom_lang.specs.Fault.{sooner, behind_faults}

pub noted_append : (first : Option LangRefusal) (why : Reason) (xs ys : List ℕ) → behind_faults first why (xs ++ ys) ≡ behind_faults (behind_faults first why xs) why ys
noted_append first why [] ys = refl
noted_append first why (x ∷ xs) ys = noted_append (Some (sooner first (record { line = x; reason = why }))) why xs ys

-- one part of the lines, and then the rest
pub noted_on : (first new : Option LangRefusal) (why : Reason) (xs ys all : List ℕ) → all ≡ xs ++ ys → new ≡ behind_faults first why xs → behind_faults new why ys ≡ behind_faults first why all
noted_on first new why xs ys all e h = ap (λ z. behind_faults z why ys) h ∙ sym (ap (behind_faults first why) e ∙ noted_append first why xs ys)

pub drop_at : {X : Type 0} (xs : List X) (i : ℕ) (x : X) → i < length xs → x ≡ get_or xs i x → drop i xs ≡ x ∷ drop (i + 1) xs
drop_at xs i x l e = rw add-one (drop-cons xs i x l ∙ ap (λ z. z ∷ drop (suc i) xs) (sym e))

-- the functions of one item, and those of the items behind it
functions_on : (g : Function → List ℕ) (items : List rust_item.FileItem) (i : ℕ) (item : rust_item.FileItem) → i < length items → item ≡ get_or items i item → flat_map g (flat_map funcs_in (items_of (drop i items))) ≡ flat_map g (funcs_in (item_of item)) ++ flat_map g (flat_map funcs_in (items_of (drop (i + 1) items)))
functions_on g items i item l e =
    ap (λ z. flat_map g (flat_map funcs_in (items_of z))) (drop_at items i item l e) ∙ flat_map-append g (funcs_in (item_of item)) (flat_map funcs_in (items_of (drop (i + 1) items)))

pub functions_step : (first new : Option LangRefusal) (why : Reason) (g : Function → List ℕ) (items : List rust_item.FileItem) (i : ℕ) (item : rust_item.FileItem) → i < length items → item ≡ get_or items i item → new ≡ behind_faults first why (flat_map g (funcs_in (item_of item))) → behind_faults new why (flat_map g (flat_map funcs_in (items_of (drop (i + 1) items)))) ≡ behind_faults first why (flat_map g (flat_map funcs_in (items_of (drop i items))))
functions_step first new why g items i item l e h = noted_on first new why (flat_map g (funcs_in (item_of item))) (flat_map g (flat_map funcs_in (items_of (drop (i + 1) items)))) _ (functions_on g items i item l e) h

-- what is put behind the elements so far
pub put_on : {A : Type 0} (new before xs ys zs all : List A) → zs ≡ xs ++ ys → new ≡ before ++ xs → before ++ zs ≡ all → new ++ ys ≡ all
put_on new before xs ys zs all e h i = ap (λ z. z ++ ys) h ∙ append_assoc before xs ys ∙ ap (λ z. before ++ z) (sym e) ∙ i
