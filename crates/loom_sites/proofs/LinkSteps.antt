-- How the rows of statements and functions are put one behind the others.
use Rattle.std.proofs.Common.{ℕ, suc, ◌+◌, ◌<◌, ◌≡◌, List, [], ◌∷◌, ◌++◌, length, length-append, append_assoc, drop, get_or, refl, sym, ap, ◌∙◌, arith}
use Rattle.std.proofs.lemmas.List.{append-nil}
use Rattle.loom_tree.specs.declared.statement.Func.{Func}
use Rattle.loom_tree.specs.declared.statement.Kind.{Kind}
use Rattle.loom_tree.specs.declared.statement.Kind.TheVariants as k
use Rattle.loom_tree.specs.Tree.{Expression, Body, if_, while_, Function, Source, behind, body_of, function_of, functions_of}
use Rattle.loom_tree.specs.Tree as tree
use Rattle.loom_lang.specs.Places.{body_places, places_from}
use Rattle.loom_lang.specs.Places as place
use Rattle.loom_flow.specs.FlatCode.{place_count}
use Rattle.loom_plan.specs.Table.{inner_places}
use Rattle.loom_sites.specs.declared.node.TableNode.{TableNode}
use Rattle.loom_sites.specs.declared.node.TableNode.TheVariants as n
use Rattle.loom_sites.specs.declared.links.PlaceKind.TheVariants as kind
use Rattle.loom_sites.specs.declared.links.PlaceLinks.{PlaceLinks}
use Rattle.loom_sites.specs.declared.links.Owner.{Owner}
use Rattle.loom_sites.specs.Links.{first_at, frame_row, block_row, body_rows, out_behind, functions_rows}
use Rattle.loom_sites.proofs.Passes.{drop_row}
use Rattle.loom_sites.proofs.Rows.{length_rows, rows_split, count_split}

-- one row more
pub one_more : {A : Type 0} (xs ys : List A) (x : A) → ys ≡ xs ++ x ∷ [] → length ys ≡ suc (length xs)
one_more xs ys x e = let long = ap length e in let many = length-append xs (x ∷ []) in omega arith

-- so many more
pub body_more : (p : Source) (o : Owner) (j : ℕ) (b : Body) (next : TableNode) (xs ys : List PlaceLinks) → ys ≡ xs ++ body_rows p o j b next → length ys ≡ length xs + place_count b
body_more p o j b next xs ys e =
    let long = ap length e in
    let many = length-append xs (body_rows p o j b next) in
    let own = length_rows p o j b next in
    omega arith

behind_one : {A : Type 0} (xs ys zs : List A) (x : A) → ((xs ++ x ∷ []) ++ ys) ++ zs ≡ xs ++ x ∷ (ys ++ (zs ++ []))
behind_one xs ys zs x = simp (append_assoc, append-nil)

behind_two : {A : Type 0} (xs ys : List A) (x y : A) → ((xs ++ x ∷ []) ++ y ∷ []) ++ ys ≡ xs ++ x ∷ y ∷ (ys ++ [])
behind_two xs ys x y = simp (append_assoc, append-nil)

-- The rows of an `if`

pub choice_rows : (p : Source) (o : Owner) (l : ℕ) (e : Expression) (a b : Body) (next first second : TableNode) (end : ℕ) (xs ones twos all : List PlaceLinks)
    → first ≡ first_at a (suc (length xs)) (n.Complete (length xs)) → second ≡ first_at b (suc (length xs) + place_count a) (n.Complete (length xs)) → end ≡ suc (length xs) + place_count a + place_count b
    → ones ≡ xs ++ block_row o kind.Plain first second next end ∷ [] → twos ≡ ones ++ body_rows p o (length ones) a (n.Complete (length xs)) → all ≡ twos ++ body_rows p o (length twos) b (n.Complete (length xs))
    → all ≡ xs ++ body_rows p o (length xs) (if_ l e a b tree.end) next
choice_rows p o l e a b next first second end xs ones twos all f s d h g i =
    let done : TableNode = n.Complete (length xs) in
    let one : length ones ≡ suc (length xs) = one_more xs ones (block_row o kind.Plain first second next end) h in
    let more = body_more p o (length ones) a done ones twos g in
    let two : length twos ≡ suc (length xs) + place_count a = omega arith in
    let ys : List PlaceLinks = body_rows p o (suc (length xs)) a done in
    let zs : List PlaceLinks = body_rows p o (suc (length xs) + place_count a) b done in
    i
    ∙ (ap (λ (m : ℕ). twos ++ body_rows p o m b done) two
    ∙ (ap (λ (ws : List PlaceLinks). ws ++ zs) (g ∙ (ap (λ (m : ℕ). ones ++ body_rows p o m a done) one ∙ ap (λ (ws : List PlaceLinks). ws ++ ys) h))
    ∙ (behind_one xs ys zs (block_row o kind.Plain first second next end)
    ∙ (ap (λ (t : TableNode). xs ++ block_row o kind.Plain t second next end ∷ (ys ++ (zs ++ []))) f
    ∙ (ap (λ (t : TableNode). xs ++ block_row o kind.Plain (first_at a (suc (length xs)) done) t next end ∷ (ys ++ (zs ++ []))) s
    ∙ ap (λ (t : ℕ). xs ++ block_row o kind.Plain (first_at a (suc (length xs)) done) (first_at b (suc (length xs) + place_count a) done) next t ∷ (ys ++ (zs ++ []))) d)))))

-- The rows of a `while`

pub loop_rows : (p : Source) (o : Owner) (l : ℕ) (e : Expression) (a : Body) (next first : TableNode) (end : ℕ) (xs ones twos all : List PlaceLinks)
    → first ≡ first_at a (suc (suc (length xs))) (n.Start (suc (length xs))) → end ≡ suc (suc (length xs)) + place_count a
    → ones ≡ xs ++ block_row o kind.Plain first (n.Complete (length xs)) next end ∷ [] → twos ≡ ones ++ block_row o kind.Turn first (n.Complete (length xs)) next end ∷ []
    → all ≡ twos ++ body_rows p o (length twos) a (n.Start (suc (length xs)))
    → all ≡ xs ++ body_rows p o (length xs) (while_ l e a tree.end) next
loop_rows p o l e a next first end xs ones twos all f d h g i =
    let done : TableNode = n.Complete (length xs) in
    let turn : TableNode = n.Start (suc (length xs)) in
    let one : length ones ≡ suc (length xs) = one_more xs ones (block_row o kind.Plain first done next end) h in
    let more : length twos ≡ suc (length ones) = one_more ones twos (block_row o kind.Turn first done next end) g in
    let two : length twos ≡ suc (suc (length xs)) = omega arith in
    let ys : List PlaceLinks = body_rows p o (suc (suc (length xs))) a turn in
    i
    ∙ (ap (λ (m : ℕ). twos ++ body_rows p o m a turn) two
    ∙ (ap (λ (ws : List PlaceLinks). ws ++ ys) (g ∙ ap (λ (ws : List PlaceLinks). ws ++ block_row o kind.Turn first done next end ∷ []) h)
    ∙ (behind_two xs ys (block_row o kind.Plain first done next end) (block_row o kind.Turn first done next end)
    ∙ (ap (λ (t : TableNode). xs ++ block_row o kind.Plain t done next end ∷ block_row o kind.Turn t done next end ∷ (ys ++ [])) f
    ∙ ap (λ (t : ℕ). xs ++ block_row o kind.Plain (first_at a (suc (suc (length xs))) turn) done next t ∷ block_row o kind.Turn (first_at a (suc (suc (length xs))) turn) done next t ∷ (ys ++ [])) d))))

-- A statement, and those behind it

-- its line is in no row
no_line : (p : Source) (o : Owner) (j l : ℕ) (s : Kind) (next : TableNode) → body_rows p o j (behind 0 s tree.end) next ≡ body_rows p o j (behind l s tree.end) next
no_line p o j l (k.If e a b) next = refl
no_line p o j l (k.While e a) next = refl
no_line p o j l (k.Let x e) next = refl
no_line p o j l (k.Set x e) next = refl
no_line p o j l (k.SetCell x y e) next = refl
no_line p o j l (k.Call x e) next = refl
no_line p o j l (k.Return e) next = refl
no_line p o j l (k.Lock x) next = refl
no_line p o j l (k.Unlock x) next = refl
no_line p o j l (k.Down x) next = refl
no_line p o j l (k.Up x) next = refl
no_line p o j l (k.Join e) next = refl
no_line p o j l (k.Print e) next = refl
no_line p o j l k.Skip next = refl

pub first_count : (l : ℕ) (s : Kind) (rest b : Body) → b ≡ behind l s rest → place_count b ≡ suc (length (inner_places s)) + place_count rest
first_count l s rest b e = ap place_count e ∙ count_split l s rest

pub statement_more : (p : Source) (o : Owner) (j : ℕ) (s : Kind) (next : TableNode) (xs ys : List PlaceLinks) → ys ≡ xs ++ body_rows p o j (behind 0 s tree.end) next
    → length ys ≡ length xs + suc (length (inner_places s))
statement_more p o j s next xs ys e =
    let more = body_more p o j (behind 0 s tree.end) next xs ys e in
    let many = count_split 0 s tree.end in
    omega arith

pub body_step : (p : Source) (o : Owner) (l i : ℕ) (s : Kind) (rest b : Body) (next first : TableNode) (xs ys : List PlaceLinks) → b ≡ behind l s rest → i ≡ length xs + suc (length (inner_places s)) → first ≡ first_at rest i next
    → ys ≡ xs ++ body_rows p o (length xs) (behind 0 s tree.end) first → ys ++ body_rows p o (length ys) rest next ≡ xs ++ body_rows p o (length xs) b next
body_step p o l i s rest b next first xs ys e at f h =
    let more = statement_more p o (length xs) s first xs ys h in
    let long : length ys ≡ i = omega arith in
    let own : List PlaceLinks = body_rows p o (length xs) (behind l s tree.end) (first_at rest i next) in
    ap (λ (m : ℕ). ys ++ body_rows p o m rest next) long
    ∙ (ap (λ (zs : List PlaceLinks). zs ++ body_rows p o i rest next)
    (h ∙ (ap (λ (t : TableNode). xs ++ body_rows p o (length xs) (behind 0 s tree.end) t) f ∙ ap (λ (zs : List PlaceLinks). xs ++ zs) (no_line p o (length xs) l s (first_at rest i next))))
    ∙ (append_assoc xs own (body_rows p o i rest next)
    ∙ (ap (λ (zs : List PlaceLinks). xs ++ zs) (sym (rows_split p o (length xs) i l s rest next at)) ∙ ap (λ (c : Body). xs ++ body_rows p o (length xs) c next) (sym e))))

-- A function, and those behind it

pub function_more : (p : Source) (m j : ℕ) (f : Function) (xs ys : List PlaceLinks) → ys ≡ xs ++ functions_rows p m j (f ∷ []) → length ys ≡ length xs + suc (suc (place_count f.body))
function_more p m j f xs ys e =
    let out : ℕ = out_behind j f in
    let own : List PlaceLinks = body_rows p (record { number = m; out = out }) (suc j) f.body (n.Start out) in
    let long = ap length e in
    let many = length-append xs (functions_rows p m j (f ∷ [])) in
    let inner = length-append own (frame_row kind.Out out m ∷ []) in
    let count = length_rows p (record { number = m; out = out }) (suc j) f.body (n.Start out) in
    omega arith

pub function_count : (m : ℕ) (f : Function) (fs : List Function) → length (places_from m (f ∷ fs)) ≡ suc (suc (place_count f.body)) + length (places_from (suc m) fs)
function_count m f fs = let many = length-append (body_places f.body) (place.out m ∷ places_from (suc m) fs) in omega arith

pub function_step : (p : Source) (m q : ℕ) (f : Function) (fs gs : List Function) (xs ys : List PlaceLinks) → gs ≡ f ∷ fs → q ≡ suc m → ys ≡ xs ++ functions_rows p m (length xs) (f ∷ [])
    → ys ++ functions_rows p q (length ys) fs ≡ xs ++ functions_rows p m (length xs) gs
function_step p m q f fs gs xs ys e next h =
    let out : ℕ = out_behind (length xs) f in
    let own : List PlaceLinks = body_rows p (record { number = m; out = out }) (suc (length xs)) f.body (n.Start out) in
    let rest : List PlaceLinks = functions_rows p (suc m) (suc out) fs in
    let more = function_more p m (length xs) f xs ys h in
    let long : length ys ≡ suc out = omega arith in
    ap (λ (z : ℕ). ys ++ functions_rows p z (length ys) fs) next
    ∙ (ap (λ (z : ℕ). ys ++ functions_rows p (suc m) z fs) long
    ∙ (ap (λ (zs : List PlaceLinks). zs ++ rest) h
    ∙ (append_assoc xs (functions_rows p m (length xs) (f ∷ [])) rest
    ∙ (ap (λ (zs : List PlaceLinks). xs ++ frame_row kind.Entry (length xs) m ∷ zs) (append_assoc own (frame_row kind.Out out m ∷ []) rest)
    ∙ ap (λ (hs : List Function). xs ++ functions_rows p m (length xs) hs) (sym e)))))

-- the functions from one on
pub functions_next : (fs : List Func) (i j : ℕ) (f : Func) → j ≡ suc i → i < length fs → f ≡ get_or fs i f → functions_of (drop i fs) ≡ function_of f ∷ functions_of (drop j fs)
functions_next fs i j f e low is =
    ap functions_of (drop_row fs i f low) ∙ (ap (λ (g : Func). function_of g ∷ functions_of (drop (suc i) fs)) (sym is) ∙ ap (λ (m : ℕ). function_of f ∷ functions_of (drop m fs)) (sym e))
