-- Steps of a thread: what they tell, and where they lead.
use Rattle.std.proofs.Common.{ℕ, ◌≡◌, List, [], ◌∷◌, ◌++◌, refl, ap, ◌∙◌, append_assoc}
use Rattle.loom_tree.specs.Tree.{Source}
use Rattle.loom_trace.specs.declared.entry.Entry.{Entry}
use Rattle.loom_lang.specs.Trace.{Item, Act, begin, end, trap, read, write, lock, unlock, down, up, spawn, join, print, made, begins, done, edge, enter, out}
use Rattle.loom_law.specs.Walk.{Plans, PartStep, goes, makes, items, told_item, filter_entries, entry_of_operation, Walk, after_item, walk_behind, walk_from, MayStand}

-- Lists of steps

pub items_append : (ss us : List PartStep) → items (ss ++ us) ≡ items ss ++ items us
items_append [] us = refl
items_append (goes i ∷ ss) us = ap (◌∷◌ i) (items_append ss us)
items_append (makes l o ∷ ss) us = items_append ss us

pub walk_append : (p : Source) (plans : Plans) (z : Walk) (ss us : List PartStep) → walk_from p plans z (ss ++ us) ≡ walk_from p plans (walk_from p plans z ss) us
walk_append p plans z [] us = refl
walk_append p plans z (s ∷ ss) us = walk_append p plans (walk_behind p plans z s) ss us

told_item_append : (t : ℕ) (i : Item) (es fs : List Entry) → told_item t i (es ++ fs) ≡ told_item t i es ++ fs
told_item_append t (made l a) es fs = refl
told_item_append t (begins l env) es fs = refl
told_item_append t (done l) es fs = refl
told_item_append t (edge l) es fs = refl
told_item_append t (enter f env) es fs = refl
told_item_append t (out f) es fs = refl

pub told_append : (t : ℕ) (ss us : List PartStep) → filter_entries t (ss ++ us) ≡ filter_entries t ss ++ filter_entries t us
told_append t [] us = refl
told_append t (goes i ∷ ss) us = ap (told_item t i) (told_append t ss us) ∙ told_item_append t i (filter_entries t ss) (filter_entries t us)
told_append t (makes l o ∷ ss) us = ap (◌∷◌ (entry_of_operation t l o)) (told_append t ss us)

pub items_ahead : (ss us : List PartStep) (ahead : List Item) → items (ss ++ us) ++ ahead ≡ items ss ++ (items us ++ ahead)
items_ahead ss us ahead = ap (λ z. z ++ ahead) (items_append ss us) ∙ append_assoc (items ss) (items us) ahead

-- Marks

abbrev pub IsMark : Item → Type 0
IsMark (made l a) = ⊥
IsMark _ = Unit {0}

pub mark_untold : (t : ℕ) (i : Item) → IsMark i → filter_entries t (goes i ∷ []) ≡ []
mark_untold t (made l a) h = absurd h
mark_untold t (begins l env) h = refl
mark_untold t (done l) h = refl
mark_untold t (edge l) h = refl
mark_untold t (enter f env) h = refl
mark_untold t (out f) h = refl

pub mark_coming : (p : Source) (plans : Plans) (z : Walk) (i : Item) → IsMark i → Walk.coming (after_item p plans z i) ≡ z.coming
mark_coming p plans z (made l a) h = absurd h
mark_coming p plans z (begins l env) h = refl
mark_coming p plans z (done l) h = refl
mark_coming p plans z (edge l) h = refl
mark_coming p plans z (enter f env) h = refl
mark_coming p plans z (out f) h = refl

pub mark_active : (p : Source) (plans : Plans) (z : Walk) (i : Item) → IsMark i → Walk.active (after_item p plans z i) ≡ z.active
mark_active p plans z (made l a) h = absurd h
mark_active p plans z (begins l env) h = refl
mark_active p plans z (done l) h = refl
mark_active p plans z (edge l) h = refl
mark_active p plans z (enter f env) h = refl
mark_active p plans z (out f) h = refl

pub mark_stands : (p : Source) (z : Walk) (i : Item) (ahead : List Item) → IsMark i → z.owed ≡ [] → MayStand p z (goes i) ahead
mark_stands p z (made l a) ahead h none = absurd h
mark_stands p z (begins l env) ahead h none = none
mark_stands p z (done l) ahead h none = none
mark_stands p z (edge l) ahead h none = none
mark_stands p z (enter f env) ahead h none = none
mark_stands p z (out f) ahead h none = none

-- Acts

abbrev pub IsNoBegin : Act → Type 0
IsNoBegin begin = ⊥
IsNoBegin _ = Unit {0}

pub act_stands : (p : Source) (z : Walk) (l : ℕ) (a : Act) (ahead : List Item) → IsNoBegin a → z.owed ≡ [] → MayStand p z (goes (made l a)) ahead
act_stands p z l begin ahead h none = absurd h
act_stands p z l end ahead h none = none
act_stands p z l (trap c) ahead h none = none
act_stands p z l (read x v) ahead h none = none
act_stands p z l (write x v) ahead h none = none
act_stands p z l (lock m) ahead h none = none
act_stands p z l (unlock m) ahead h none = none
act_stands p z l (down m) ahead h none = none
act_stands p z l (up m) ahead h none = none
act_stands p z l (spawn c f vs) ahead h none = none
act_stands p z l (join c) ahead h none = none
act_stands p z l (print v) ahead h none = none

pub act_coming : (p : Source) (plans : Plans) (z : Walk) (l : ℕ) (a : Act) → IsNoBegin a → Walk.coming (after_item p plans z (made l a)) ≡ z.coming
act_coming p plans z l begin h = absurd h
act_coming p plans z l end h = refl
act_coming p plans z l (trap c) h = refl
act_coming p plans z l (read x v) h = refl
act_coming p plans z l (write x v) h = refl
act_coming p plans z l (lock m) h = refl
act_coming p plans z l (unlock m) h = refl
act_coming p plans z l (down m) h = refl
act_coming p plans z l (up m) h = refl
act_coming p plans z l (spawn c f vs) h = refl
act_coming p plans z l (join c) h = refl
act_coming p plans z l (print v) h = refl

pub act_active : (p : Source) (plans : Plans) (z : Walk) (l : ℕ) (a : Act) → IsNoBegin a → Walk.active (after_item p plans z (made l a)) ≡ z.active
act_active p plans z l begin h = absurd h
act_active p plans z l end h = refl
act_active p plans z l (trap c) h = refl
act_active p plans z l (read x v) h = refl
act_active p plans z l (write x v) h = refl
act_active p plans z l (lock m) h = refl
act_active p plans z l (unlock m) h = refl
act_active p plans z l (down m) h = refl
act_active p plans z l (up m) h = refl
act_active p plans z l (spawn c f vs) h = refl
act_active p plans z l (join c) h = refl
act_active p plans z l (print v) h = refl

pub act_passes_none : (p : Source) (plans : Plans) (z : Walk) (l : ℕ) (a : Act) → IsNoBegin a → Walk.passed (after_item p plans z (made l a)) ≡ []
act_passes_none p plans z l begin h = absurd h
act_passes_none p plans z l end h = refl
act_passes_none p plans z l (trap c) h = refl
act_passes_none p plans z l (read x v) h = refl
act_passes_none p plans z l (write x v) h = refl
act_passes_none p plans z l (lock m) h = refl
act_passes_none p plans z l (unlock m) h = refl
act_passes_none p plans z l (down m) h = refl
act_passes_none p plans z l (up m) h = refl
act_passes_none p plans z l (spawn c f vs) h = refl
act_passes_none p plans z l (join c) h = refl
act_passes_none p plans z l (print v) h = refl
