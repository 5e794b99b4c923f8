-- The rows of the table stand beside the places.
use Rattle.std.proofs.Common.{ℕ, zero, suc, ◌+◌, ◌<◌, ◌≤◌, ◌≡◌, true, false, List, [], ◌∷◌, ◌++◌, length-append, slice_get, Option, Some, None, refl, sym, ap, subst, ◌∙◌, arith}
use Rattle.std.specs.List.{Contains}
use Rattle.std.proofs.lemmas.Bool.{cases_lt}
use Rattle.std.proofs.lemmas.List.Elements.{Contains-append_left, Contains-append_right, Contains-append_cases}
use Rattle.std.proofs.Math.Decide.{ℕ_discrete}
use Rattle.loom_tree.specs.Tree.{Expression, Right, Simple, let_, set, return, Body, simple, if_, while_, Function, Source}
use Rattle.loom_tree.specs.Tree as tree
use Rattle.loom_lang.specs.Numbers.{function_number}
use Rattle.loom_lang.specs.Places.{Place, nowhere, entry, inside, back_edge, out, body_places, places_from, places, place_at}
use Rattle.loom_flow.specs.FlatCode.{place_count}
use Rattle.loom_law.specs.Paths.{statements, Begins}
use Rattle.loom_law.proofs.Course.{contains_first, contains_later, contains_cases, no_member}
use Rattle.loom_law.proofs.Holdings.{either_of}
use Rattle.loom_sites.specs.declared.node.TableNode.{TableNode}
use Rattle.loom_sites.specs.declared.node.TableNode.TheVariants as n
use Rattle.loom_sites.specs.declared.links.PlaceKind.{PlaceKind}
use Rattle.loom_sites.specs.declared.links.PlaceKind.TheVariants as kind
use Rattle.loom_sites.specs.declared.links.PlaceLinks.{PlaceLinks}
use Rattle.loom_sites.specs.declared.links.Owner.{Owner}
use Rattle.loom_sites.specs.Links.{is_statement, kind_if, right_kind, simple_kind, first_at, body_rows, out_behind, functions_rows, program_rows}
use Rattle.loom_sites.proofs.Rows.{simple_split, if_split, while_split}
use Rattle.loom_sites.proofs.Stands.{IsAt, at_left, Stand, rest_of_simple, first_branch, second_branch, rest_of_if, loop_body, rest_of_loop, simple_here, if_here, while_here, turn_here}

-- what stands at a place
abbrev pub IsOfPlace : Place → PlaceKind → Type 0
IsOfPlace nowhere x = x ≡ kind.Entry
IsOfPlace (entry g) x = x ≡ kind.Entry
IsOfPlace (inside l) x = is_statement x ≡ true
IsOfPlace (back_edge l) x = x ≡ kind.Turn
IsOfPlace (out g) x = x ≡ kind.Out

abbrev pub AreAligned : List PlaceLinks → List Place → Type 0
AreAligned [] [] = Unit {0}
AreAligned (row ∷ rows) (y ∷ ys) = IsOfPlace y row.kind × AreAligned rows ys
AreAligned _ _ = ⊥

aligned_both : (xs zs : List PlaceLinks) (ys ws : List Place) → AreAligned xs ys → AreAligned zs ws → AreAligned (xs ++ zs) (ys ++ ws)
aligned_both [] zs [] ws h g = g
aligned_both (x ∷ xs) zs (y ∷ ys) ws h g = (h.0, aligned_both xs zs ys ws h.1 g)
aligned_both [] zs (y ∷ ys) ws h g = absurd h
aligned_both (x ∷ xs) zs [] ws h g = absurd h

number_kind : (o : Option ℕ) → is_statement (kind_if o) ≡ true
number_kind None = refl
number_kind (Some f) = refl

right_statement : (p : Source) (r : Right Expression) → is_statement (right_kind p r) ≡ true
right_statement p (Right.value e) = refl
right_statement p (Right.call f es) = number_kind (function_number p f)
right_statement p (Right.spawn f es) = refl

simple_statement : (p : Source) (s : Simple Expression) → is_statement (simple_kind p s) ≡ true
simple_statement p (let_ x r) = right_statement p r
simple_statement p (set x r) = right_statement p r
simple_statement p (Simple.call f es) = number_kind (function_number p f)
simple_statement p (return e) = refl
simple_statement p (tree.set_cell x i e) = refl
simple_statement p (tree.lock x) = refl
simple_statement p (tree.unlock x) = refl
simple_statement p (tree.down x) = refl
simple_statement p (tree.up x) = refl
simple_statement p (tree.join e) = refl
simple_statement p (tree.print e) = refl
simple_statement p tree.skip = refl

body_aligned : (p : Source) (o : Owner) (k : ℕ) (b : Body) (next : TableNode) → AreAligned (body_rows p o k b next) (body_places b)
body_aligned p o k tree.end next = tt
body_aligned p o k (simple l s rest) next = (simple_statement p s, body_aligned p o (suc k) rest next)
body_aligned p o k (if_ l e a b rest) next = (
  refl,
  aligned_both _ _ (body_places a) (body_places b ++ body_places rest) (body_aligned p o (suc k) a (n.Complete k))
      (aligned_both _ _ (body_places b) (body_places rest) (body_aligned p o (suc k + place_count a) b (n.Complete k)) (body_aligned p o (suc k + place_count a + place_count b) rest next)),
)
body_aligned p o k (while_ l e a rest) next =
    (refl, (refl, aligned_both _ _ (body_places a) (body_places rest) (body_aligned p o (suc (suc k)) a (n.Start (suc k))) (body_aligned p o (suc (suc k) + place_count a) rest next)))

functions_aligned : (p : Source) (m k : ℕ) (fs : List Function) → AreAligned (functions_rows p m k fs) (places_from m fs)
functions_aligned p m k [] = tt
functions_aligned p m k (f ∷ fs) = (
  refl,
  aligned_both _ _ (body_places f.body) (out m ∷ places_from (suc m) fs) (body_aligned p (record { number = m; out = out_behind k f }) (suc k) f.body (n.Start (out_behind k f)))
      (refl, functions_aligned p (suc m) (suc (out_behind k f)) fs),
)

pub program_aligned : (p : Source) → AreAligned (program_rows p) (places p)
program_aligned p = (refl, functions_aligned p 0 1 p.funcs)

pub row_place : (rows : List PlaceLinks) (ys : List Place) (k : ℕ) (row : PlaceLinks) → AreAligned rows ys → slice_get rows k ≡ Some row → (y : Place) × ((slice_get ys k ≡ Some y) × IsOfPlace y row.kind)
row_place [] [] k row h e = cc
row_place (x ∷ rows) (y ∷ ys) zero row h e = let same : x ≡ row = cc in (y, (refl, (let P : PlaceLinks → Type 0 = λ z. IsOfPlace y z.kind in subst P same h.0)))
row_place (x ∷ rows) (y ∷ ys) (suc k) row h e = row_place rows ys k row h.1 e
row_place [] (y ∷ ys) k row h e = absurd h
row_place (x ∷ rows) [] k row h e = absurd h

pub place_row : (rows : List PlaceLinks) (ys : List Place) (k : ℕ) (y : Place) → AreAligned rows ys → slice_get ys k ≡ Some y → (row : PlaceLinks) × ((slice_get rows k ≡ Some row) × IsOfPlace y row.kind)
place_row [] [] k y h e = cc
place_row (x ∷ rows) (z ∷ ys) zero y h e = let same : z ≡ y = cc in (x, (refl, (let P : Place → Type 0 = λ w. IsOfPlace w x.kind in subst P same h.0)))
place_row (x ∷ rows) (z ∷ ys) (suc k) y h e = place_row rows ys k y h.1 e
place_row [] (z ∷ ys) k y h e = absurd h
place_row (x ∷ rows) [] k y h e = absurd h

-- A statement's row is at a place inside it.
pub statement_place : (p : Source) (k : ℕ) (row : PlaceLinks) → slice_get (program_rows p) k ≡ Some row → is_statement row.kind ≡ true → (l : ℕ) × (place_at p k ≡ Some (inside l))
statement_place p k row e h = let found = row_place (program_rows p) (places p) k row (program_aligned p) e in by_place found.0 found.1.0 found.1.1
  where
    no_statement : {A : Type 0} (x : PlaceKind) → row.kind ≡ x → is_statement x ≡ false → A
    no_statement x same none = let clash : true ≡ false = sym h ∙ (ap is_statement same ∙ none) in cc

    by_place : (y : Place) → place_at p k ≡ Some y → IsOfPlace y row.kind → (l : ℕ) × (place_at p k ≡ Some (inside l))
    by_place nowhere q i = no_statement kind.Entry i refl
    by_place (entry g) q i = no_statement kind.Entry i refl
    by_place (inside l) q i = (l, q)
    by_place (back_edge l) q i = no_statement kind.Turn i refl
    by_place (out g) q i = no_statement kind.Out i refl

-- Statements stand in the table by themselves.

pub alone_simple : (p : Source) (o : Owner) (k l : ℕ) (s : Simple Expression) (rest : Body) (next : TableNode) → Stand p o k (simple l s rest) next → Stand p o k (simple l s tree.end) (first_at rest (suc k) next)
alone_simple p o k l s rest next h =
    let P : List PlaceLinks → Type 0 = λ z. IsAt (program_rows p) k z in
    record {
      rows = at_left (program_rows p) (body_rows p o k (simple l s tree.end) (first_at rest (suc k) next)) (body_rows p o (suc k) rest next) k (subst P (simple_split p o k (suc k) l s rest next refl) h.rows);
      places = at_left (places p) (inside l ∷ []) (body_places rest) k h.places;
    }

three : {A : Type 0} (xs ys zs : List A) → xs ++ (ys ++ zs) ≡ (xs ++ (ys ++ [])) ++ zs
three [] [] zs = refl
three [] (y ∷ ys) zs = ap (λ ws. y ∷ ws) (three [] ys zs)
three (x ∷ xs) ys zs = ap (λ ws. x ∷ ws) (three xs ys zs)

two : {A : Type 0} (xs zs : List A) → xs ++ zs ≡ (xs ++ []) ++ zs
two [] zs = refl
two (x ∷ xs) zs = ap (λ ws. x ∷ ws) (two xs zs)

pub alone_if : (p : Source) (o : Owner) (k l : ℕ) (e : Expression) (a b rest : Body) (next : TableNode) → Stand p o k (if_ l e a b rest) next
    → Stand p o k (if_ l e a b tree.end) (first_at rest (suc k + place_count a + place_count b) next)
alone_if p o k l e a b rest next h =
    let end : ℕ = suc k + place_count a + place_count b in
    let P : List PlaceLinks → Type 0 = λ z. IsAt (program_rows p) k z in
    let Q : List Place → Type 0 = λ z. IsAt (places p) k z in
    record {
      rows = at_left (program_rows p) (body_rows p o k (if_ l e a b tree.end) (first_at rest end next)) (body_rows p o end rest next) k (subst P (if_split p o k end l e a b rest next refl) h.rows);
      places = at_left (places p) (body_places (if_ l e a b tree.end)) (body_places rest) k (subst Q (ap (λ zs. inside l ∷ zs) (three (body_places a) (body_places b) (body_places rest))) h.places);
    }

pub alone_loop : (p : Source) (o : Owner) (k l : ℕ) (e : Expression) (a rest : Body) (next : TableNode) → Stand p o k (while_ l e a rest) next
    → Stand p o k (while_ l e a tree.end) (first_at rest (suc (suc k) + place_count a) next)
alone_loop p o k l e a rest next h =
    let end : ℕ = suc (suc k) + place_count a in
    let P : List PlaceLinks → Type 0 = λ z. IsAt (program_rows p) k z in
    let Q : List Place → Type 0 = λ z. IsAt (places p) k z in
    record {
      rows = at_left (program_rows p) (body_rows p o k (while_ l e a tree.end) (first_at rest end next)) (body_rows p o end rest next) k (subst P (while_split p o k end l e a rest next refl) h.rows);
      places = at_left (places p) (body_places (while_ l e a tree.end)) (body_places rest) k (subst Q (ap (λ zs. inside l ∷ (back_edge l ∷ zs)) (two (body_places a) (body_places rest))) h.places);
    }

-- where a statement of a body stands
pub record StatementStand (p : Source) (o : Owner) (low high : ℕ) (x : Body) (l : ℕ) : Type 0 where
  pub number : ℕ
  pub next : TableNode
  pub from : low ≤ number
  pub before : number < high
  pub place : place_at p number ≡ Some (inside l)
  pub stand : Stand p o number x next

wider : (p : Source) (o : Owner) (a b c d : ℕ) (x : Body) (l : ℕ) → c ≤ a → b ≤ d → StatementStand p o a b x l → StatementStand p o c d x l
wider p o a b c d x l low high h =
    let from = h.from in
    let before = h.before in
    record { number = h.number; next = h.next; from = omega (arith, low, from); before = omega (arith, high, before); place = h.place; stand = h.stand }

own_stand : (p : Source) (o : Owner) (k high m l : ℕ) (own x : Body) (next : TableNode) → own ≡ x → m ≡ l → k < high → place_at p k ≡ Some (inside m) → Stand p o k own next → StatementStand p o k high x l
own_stand p o k high m l own x next same line less here h =
    let P : Body → Type 0 = λ z. Stand p o k z next in
    let Q : ℕ → Type 0 = λ z. place_at p k ≡ Some (inside z) in
    record { number = k; next = next; from = omega arith; before = less; place = subst Q line here; stand = subst P same h }

pub statement_stands : (p : Source) (o : Owner) (k : ℕ) (b : Body) (next : TableNode) (x : Body) (l : ℕ) → Stand p o k b next → Contains (statements b) x → Begins x l → StatementStand p o k (k + place_count b) x l
statement_stands p o k tree.end next x l h c g = absurd (no_member x c)
statement_stands p o k (simple m s rest) next x l h c g =
    either_of (contains_cases (simple m s tree.end) x (statements rest) c)
    (λ e. let line : m ≡ l = (let P : Body → Type 0 = λ z. Begins z l in subst P (sym e) g) in
    own_stand p o k (k + place_count (simple m s rest)) m l (simple m s tree.end) x (first_at rest (suc k) next) e line (omega arith) (simple_here p o k m s rest next h).1 (alone_simple p o k m s rest next h))
    (λ d. wider p o (suc k) (suc k + place_count rest) k (k + place_count (simple m s rest)) x l (omega arith) (omega arith) (statement_stands p o (suc k) rest next x l (rest_of_simple p o k m s rest next h) d g))
statement_stands p o k (if_ m e a b rest) next x l h c g =
    let other : ℕ = suc k + place_count a in
    let end : ℕ = other + place_count b in
    let high : ℕ = k + place_count (if_ m e a b rest) in
    let many = length-append (body_places a) (body_places b ++ body_places rest) in
    let more = length-append (body_places b) (body_places rest) in
    either_of (contains_cases (if_ m e a b tree.end) x (statements a ++ (statements b ++ statements rest)) c)
    (λ q. let line : m ≡ l = (let P : Body → Type 0 = λ z. Begins z l in subst P (sym q) g) in
    own_stand p o k high m l (if_ m e a b tree.end) x (first_at rest end next) q line (omega arith) (if_here p o k m e a b rest next h).1 (alone_if p o k m e a b rest next h))
    (λ d. either_of (Contains-append_cases (statements a) (statements b ++ statements rest) x d)
    (λ i. wider p o (suc k) (suc k + place_count a) k high x l (omega arith) (omega (arith, many)) (statement_stands p o (suc k) a (n.Complete k) x l (first_branch p o k m e a b rest next h) i g))
    (λ i. either_of (Contains-append_cases (statements b) (statements rest) x i)
    (λ j. wider p o other (other + place_count b) k high x l (omega arith) (omega (arith, many, more)) (statement_stands p o other b (n.Complete k) x l (second_branch p o k m e a b rest next h) j g))
    (λ j. wider p o end (end + place_count rest) k high x l (omega arith) (omega (arith, many, more)) (statement_stands p o end rest next x l (rest_of_if p o k m e a b rest next h) j g))))
statement_stands p o k (while_ m e a rest) next x l h c g =
    let first : ℕ = suc (suc k) in
    let end : ℕ = first + place_count a in
    let high : ℕ = k + place_count (while_ m e a rest) in
    let many = length-append (body_places a) (body_places rest) in
    either_of (contains_cases (while_ m e a tree.end) x (statements a ++ statements rest) c)
    (λ q. let line : m ≡ l = (let P : Body → Type 0 = λ z. Begins z l in subst P (sym q) g) in
    own_stand p o k high m l (while_ m e a tree.end) x (first_at rest end next) q line (omega arith) (while_here p o k m e a rest next h).1 (alone_loop p o k m e a rest next h))
    (λ d. either_of (Contains-append_cases (statements a) (statements rest) x d)
    (λ i. wider p o first (first + place_count a) k high x l (omega arith) (omega (arith, many)) (statement_stands p o first a (n.Start (suc k)) x l (loop_body p o k m e a rest next h) i g))
    (λ i. wider p o end (end + place_count rest) k high x l (omega arith) (omega (arith, many)) (statement_stands p o end rest next x l (rest_of_loop p o k m e a rest next h) i g)))

-- and which statement stands at a place
pub record IsStatementAt (p : Source) (o : Owner) (b : Body) (i l : ℕ) : Type 0 where
  pub statement : Body
  pub next : TableNode
  pub there : Contains (statements b) statement
  pub line : Begins statement l
  pub stand : Stand p o i statement next

in_longer : (p : Source) (o : Owner) (a b : Body) (i l : ℕ) → ((x : Body) → Contains (statements a) x → Contains (statements b) x) → IsStatementAt p o a i l → IsStatementAt p o b i l
in_longer p o a b i l f h = record { statement = h.statement; next = h.next; there = f h.statement h.there; line = h.line; stand = h.stand }

same_line : (m l : ℕ) → Some (inside m) ≡ Some (inside l) → m ≡ l
same_line m l e = cc

pub statement_at : (p : Source) (o : Owner) (k : ℕ) (b : Body) (next : TableNode) (i l : ℕ) → Stand p o k b next → k ≤ i → i < k + place_count b → place_at p i ≡ Some (inside l) → IsStatementAt p o b i l
statement_at p o k tree.end next i l h low high e = absurd (omega arith)
statement_at p o k (simple m s rest) next i l h low high e =
    elim (ℕ_discrete k i) [
      | yes at ↦ (let P : ℕ → Type 0 = λ z. Stand p o z (simple m s tree.end) (first_at rest (suc k) next) in
          let here : place_at p i ≡ Some (inside m) = ap (place_at p) (sym at) ∙ (simple_here p o k m s rest next h).1 in
          record {
            statement = simple m s tree.end;
            next = first_at rest (suc k) next;
            there = contains_first (simple m s tree.end) (statements rest);
            line = same_line m l (sym here ∙ e);
            stand = subst P at (alone_simple p o k m s rest next h);
          })
      | no d ↦ in_longer p o rest (simple m s rest) i l (λ x c. contains_later (simple m s tree.end) x (statements rest) c) (statement_at p o (suc k) rest next i l (rest_of_simple p o k m s rest next h) (omega arith) (omega arith) e)
    ]
statement_at p o k (if_ m t a b rest) next i l h low high e =
    let other : ℕ = suc k + place_count a in
    let end : ℕ = other + place_count b in
    let many = length-append (body_places a) (body_places b ++ body_places rest) in
    let more = length-append (body_places b) (body_places rest) in
    let own : Body = if_ m t a b tree.end in
    let all : List Body = statements a ++ (statements b ++ statements rest) in
    elim (ℕ_discrete k i) [
      | yes at ↦ (let P : ℕ → Type 0 = λ z. Stand p o z own (first_at rest end next) in
          let here : place_at p i ≡ Some (inside m) = ap (place_at p) (sym at) ∙ (if_here p o k m t a b rest next h).1 in
          record { statement = own; next = first_at rest end next; there = contains_first own all; line = same_line m l (sym here ∙ e); stand = subst P at (alone_if p o k m t a b rest next h) })
      | no d ↦ either_of (cases_lt i other)
          (λ in_a. in_longer p o a (if_ m t a b rest) i l (λ x c. contains_later own x all (Contains-append_left (statements a) (statements b ++ statements rest) x c))
          (statement_at p o (suc k) a (n.Complete k) i l (first_branch p o k m t a b rest next h) (omega arith) in_a e))
          (λ past. either_of (cases_lt i end)
          (λ in_b. in_longer p o b (if_ m t a b rest) i l
          (λ x c. contains_later own x all (Contains-append_right (statements a) (statements b ++ statements rest) x (Contains-append_left (statements b) (statements rest) x c)))
          (statement_at p o other b (n.Complete k) i l (second_branch p o k m t a b rest next h) past in_b e))
          (λ last. in_longer p o rest (if_ m t a b rest) i l
          (λ x c. contains_later own x all (Contains-append_right (statements a) (statements b ++ statements rest) x (Contains-append_right (statements b) (statements rest) x c)))
          (statement_at p o end rest next i l (rest_of_if p o k m t a b rest next h) last (omega (arith, high, many, more)) e)))
    ]
statement_at p o k (while_ m t a rest) next i l h low high e =
    let first : ℕ = suc (suc k) in
    let end : ℕ = first + place_count a in
    let many = length-append (body_places a) (body_places rest) in
    let own : Body = while_ m t a tree.end in
    let all : List Body = statements a ++ statements rest in
    elim (ℕ_discrete k i) [
      | yes at ↦ (let P : ℕ → Type 0 = λ z. Stand p o z own (first_at rest end next) in
          let here : place_at p i ≡ Some (inside m) = ap (place_at p) (sym at) ∙ (while_here p o k m t a rest next h).1 in
          record { statement = own; next = first_at rest end next; there = contains_first own all; line = same_line m l (sym here ∙ e); stand = subst P at (alone_loop p o k m t a rest next h) })
      | no d ↦ elim (ℕ_discrete (suc k) i) [
        | yes at ↦ no_statement (ap (place_at p) (sym at) ∙ (turn_here p o k m t a rest next h).1)
        | no f ↦ either_of (cases_lt i end)
            (λ in_a. in_longer p o a (while_ m t a rest) i l (λ x c. contains_later own x all (Contains-append_left (statements a) (statements rest) x c))
            (statement_at p o first a (n.Start (suc k)) i l (loop_body p o k m t a rest next h) (omega arith) in_a e))
            (λ past. in_longer p o rest (while_ m t a rest) i l (λ x c. contains_later own x all (Contains-append_right (statements a) (statements rest) x c))
            (statement_at p o end rest next i l (rest_of_loop p o k m t a rest next h) past (omega (arith, high, many)) e))
      ]
    ]
  where
    no_statement : {A : Type 0} → place_at p i ≡ Some (back_edge m) → A
    no_statement back = let clash : Some (inside l) ≡ Some (back_edge m) = sym e ∙ back in cc
