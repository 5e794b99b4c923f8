-- What the rows of the code stand for behind a change.
use Rattle.std.proofs.Common.{ℕ, ◌≡◌, ◌==◌, not, ◌&&◌, List, [], ◌∷◌, ◌++◌, refl, ap, ◌∙◌}
use Rattle.std.specs.List.{filter, insert}
use Rattle.std.proofs.lemmas.List.{map-append}
use Rattle.loom_law.specs.Control.{Holder}
use Rattle.loom_ops.specs.declared.rows.FilterRow.{FilterRow}
use Rattle.loom_ops.specs.declared.rows.HolderRow.{HolderRow}
use Rattle.loom_ops.specs.declared.rows.PostRow.{PostRow}
use Rattle.loom_ops.specs.Ops.{FilterLocks, PostTable, Ops, tables_with, without_filter, with_holder, free_clause, with_post}
use Rattle.loom_ops.specs.Rows.{locks_of, holder_of, table_of, filters_of_rows, holders_of_rows, tables_of, ops_of}
use Rattle.loom_ops.proofs.ListCuts.{map_cut}

abbrev with_parts : List FilterLocks → List Holder → List PostTable → Ops
with_parts fs hs ps = record { filters = fs; holders = hs; posts = ps }

three : {A B C : Type 0} (f : A → B → C → Ops) {a x : A} {b y : B} {c z : C} → a ≡ x → b ≡ y → c ≡ z → f a b c ≡ f x y z
three f {a} {x} {b} {y} {c} {z} d e g = ap (λ w. f w b c) d ∙ (ap (λ w. f x w c) e ∙ ap (f x y) g)

pub leave_rows : (fs : List FilterRow) (hs new : List HolderRow) (ps : List PostRow) (k c : ℕ) → new ≡ filter (λ (r : HolderRow). not ((r.filter == k) && (r.clause == c))) hs
    → ops_of fs new ps ≡ free_clause (ops_of fs hs ps) k c
leave_rows fs hs new ps k c e =
    ap (λ (z : List HolderRow). with_parts (filters_of_rows fs) (holders_of_rows z) (tables_of ps)) e
    ∙ ap (λ (z : List Holder). with_parts (filters_of_rows fs) z (tables_of ps)) (map_cut holder_of (λ (h : Holder). not ((h.filter == k) && (h.clause == c))) hs)

pub remove_rows : (fs less : List FilterRow) (hs new : List HolderRow) (ps rest : List PostRow) (k : ℕ) → less ≡ filter (λ (r : FilterRow). not (r.number == k)) fs
    → new ≡ filter (λ (r : HolderRow). not (r.filter == k)) hs → rest ≡ filter (λ (r : PostRow). not (r.number == k)) ps
    → ops_of less new rest ≡ without_filter (ops_of fs hs ps) k
remove_rows fs less hs new ps rest k d e g =
    three with_parts (ap filters_of_rows d ∙ map_cut locks_of (λ (f : FilterLocks). not (f.number == k)) fs)
    (ap holders_of_rows e ∙ map_cut holder_of (λ (h : Holder). not (h.filter == k)) hs)
    (ap tables_of g ∙ map_cut table_of (λ (t : PostTable). not (t.number == k)) ps)

insert_first : (hs : List HolderRow) (x : HolderRow) → insert hs 0 x ≡ x ∷ hs
insert_first [] x = refl
insert_first (y ∷ hs) x = refl

pub enter_rows : (fs : List FilterRow) (hs new : List HolderRow) (ps : List PostRow) (x : HolderRow) → new ≡ insert hs 0 x
    → ops_of fs new ps ≡ with_holder (ops_of fs hs ps) x.filter x.clause x.thread
enter_rows fs hs new ps x e = ap (λ (z : List HolderRow). with_parts (filters_of_rows fs) (holders_of_rows z) (tables_of ps)) (e ∙ insert_first hs x)

pub more_tables : (ps longer : List PostRow) (y : PostRow) (t : PostTable) → longer ≡ ps ++ y ∷ [] → table_of y ≡ t → tables_of longer ≡ tables_of ps ++ t ∷ []
more_tables ps longer y t e at = ap tables_of e ∙ (map-append table_of ps (y ∷ []) ∙ ap (λ (z : PostTable). tables_of ps ++ z ∷ []) at)

pub install_rows : (fs more : List FilterRow) (hs : List HolderRow) (ps longer : List PostRow) (x : FilterRow) (y : PostRow) (f : FilterLocks) (t : PostTable)
    → more ≡ fs ++ x ∷ [] → longer ≡ ps ++ y ∷ [] → locks_of x ≡ f → table_of y ≡ t
    → ops_of more hs longer ≡ record (ops_of fs hs ps) { filters = filters_of_rows fs ++ f ∷ []; posts = tables_of ps ++ t ∷ [] }
install_rows fs more hs ps longer x y f t d e is at =
    three with_parts
    (ap filters_of_rows d ∙ (map-append locks_of fs (x ∷ []) ∙ ap (λ (z : FilterLocks). filters_of_rows fs ++ z ∷ []) is)) refl
    (more_tables ps longer y t e at)

pub post_rows : (fs : List FilterRow) (hs : List HolderRow) (ps new : List PostRow) (k n : ℕ) → tables_of new ≡ tables_with (tables_of ps) k n
    → ops_of fs hs new ≡ with_post (ops_of fs hs ps) k n
post_rows fs hs ps new k n e = ap (with_parts (filters_of_rows fs) (holders_of_rows hs)) e
