-- A place has one number, and a number one place.
use Rattle.std.proofs.Common.{ℕ, zero, suc, ◌<◌, ◌≤◌, ◌≡◌, nat_lt, true, false, ◌&&◌, List, [], ◌∷◌, ◌++◌, flat_map, Some, slice_get, refl, ap, subst, ◌∙◌, append_assoc, arith}
use Rattle.std.proofs.lemmas.Bool.{and_parts, ne_eqb, eq-eqb, ltb-true}
use Rattle.loom_tree.specs.Tree.{Body, end, simple, if_, while_, Function}
use Rattle.loom_lang.specs.Rules.{statement_lines, is_ascending}
use Rattle.loom_lang.specs.Places.{Place, nowhere, entry, inside, back_edge, out, body_places, places_from, places}
use Rattle.loom_law.specs.Walk.{is_same_place, position_of}
use Rattle.loom_law.specs.Laws.{HasOneNumber}

-- Lists in which no place stands twice

abbrev IsFresh : Place → List Place → Type 0
IsFresh x [] = Unit {0}
IsFresh x (y ∷ ys) = (is_same_place x y ≡ false) × IsFresh x ys

abbrev AreDistinct : List Place → Type 0
AreDistinct [] = Unit {0}
AreDistinct (x ∷ xs) = IsFresh x xs × AreDistinct xs

same_itself : (x : Place) → is_same_place x x ≡ true
same_itself nowhere = refl
same_itself (entry f) = eq-eqb f f refl
same_itself (inside l) = eq-eqb l l refl
same_itself (back_edge l) = eq-eqb l l refl
same_itself (out f) = eq-eqb f f refl

fresh_at : (y x : Place) (ys : List Place) (k : ℕ) → IsFresh y ys → slice_get ys k ≡ Some x → is_same_place y x ≡ false
fresh_at y x [] k h e = cc
fresh_at y x (z ∷ ys) zero h e = let s : z ≡ x = cc in subst (λ w. is_same_place y w ≡ false) s h.0
fresh_at y x (z ∷ ys) (suc k) h e = fresh_at y x ys k h.1 e

at_position : (xs : List Place) (k : ℕ) (x : Place) → AreDistinct xs → slice_get xs k ≡ Some x → position_of x xs ≡ k
at_position [] k x d e = cc
at_position (y ∷ ys) zero x d e = let s : y ≡ x = cc in rw (s, same_itself x) refl
at_position (y ∷ ys) (suc k) x d e = rw (fresh_at y x ys k d.0 e) (ap suc (at_position ys k x d.1 e))

-- Places beyond a line and from a function on, and those up to these

abbrev IsBeyond : ℕ → ℕ → Place → Type 0
IsBeyond b n nowhere = ⊥
IsBeyond b n (entry f) = n ≤ f
IsBeyond b n (inside l) = b < l
IsBeyond b n (back_edge l) = b < l
IsBeyond b n (out f) = n ≤ f

abbrev IsUpTo : ℕ → ℕ → Place → Type 0
IsUpTo b n nowhere = Unit {0}
IsUpTo b n (entry f) = f < n
IsUpTo b n (inside l) = l ≤ b
IsUpTo b n (back_edge l) = l ≤ b
IsUpTo b n (out f) = f < n

abbrev AllBeyond : ℕ → ℕ → List Place → Type 0
AllBeyond b n [] = Unit {0}
AllBeyond b n (x ∷ xs) = IsBeyond b n x × AllBeyond b n xs

abbrev AllUpTo : ℕ → ℕ → List Place → Type 0
AllUpTo b n [] = Unit {0}
AllUpTo b n (x ∷ xs) = IsUpTo b n x × AllUpTo b n xs

apart : (b n : ℕ) (x y : Place) → IsUpTo b n x → IsBeyond b n y → is_same_place x y ≡ false
apart b n x nowhere h k = absurd k
apart b n nowhere (entry g) h k = refl
apart b n nowhere (inside g) h k = refl
apart b n nowhere (back_edge g) h k = refl
apart b n nowhere (out g) h k = refl
apart b n (entry f) (entry g) h k = ne_eqb f g (λ e. omega (arith, h, k))
apart b n (entry f) (inside g) h k = refl
apart b n (entry f) (back_edge g) h k = refl
apart b n (entry f) (out g) h k = refl
apart b n (inside f) (entry g) h k = refl
apart b n (inside f) (inside g) h k = ne_eqb f g (λ e. omega (arith, h, k))
apart b n (inside f) (back_edge g) h k = refl
apart b n (inside f) (out g) h k = refl
apart b n (back_edge f) (entry g) h k = refl
apart b n (back_edge f) (inside g) h k = refl
apart b n (back_edge f) (back_edge g) h k = ne_eqb f g (λ e. omega (arith, h, k))
apart b n (back_edge f) (out g) h k = refl
apart b n (out f) (entry g) h k = refl
apart b n (out f) (inside g) h k = refl
apart b n (out f) (back_edge g) h k = refl
apart b n (out f) (out g) h k = ne_eqb f g (λ e. omega (arith, h, k))

fresh_beyond : (b n : ℕ) (x : Place) (ys : List Place) → IsUpTo b n x → AllBeyond b n ys → IsFresh x ys
fresh_beyond b n x [] h k = tt
fresh_beyond b n x (y ∷ ys) h k = (apart b n x y h k.0, fresh_beyond b n x ys h k.1)

fresh_both : (x : Place) (ys zs : List Place) → IsFresh x ys → IsFresh x zs → IsFresh x (ys ++ zs)
fresh_both x [] zs h k = k
fresh_both x (y ∷ ys) zs h k = (h.0, fresh_both x ys zs h.1 k)

distinct_both : (b n : ℕ) (xs ys : List Place) → AreDistinct xs → AllUpTo b n xs → AreDistinct ys → AllBeyond b n ys → AreDistinct (xs ++ ys)
distinct_both b n [] ys d u e k = e
distinct_both b n (x ∷ xs) ys d u e k = (fresh_both x xs ys d.0 (fresh_beyond b n x ys u.0 k), distinct_both b n xs ys d.1 u.1 e k)

beyond_both : (b n : ℕ) (xs ys : List Place) → AllBeyond b n xs → AllBeyond b n ys → AllBeyond b n (xs ++ ys)
beyond_both b n [] ys h k = k
beyond_both b n (x ∷ xs) ys h k = (h.0, beyond_both b n xs ys h.1 k)

up_to_both : (b n : ℕ) (xs ys : List Place) → AllUpTo b n xs → AllUpTo b n ys → AllUpTo b n (xs ++ ys)
up_to_both b n [] ys h k = k
up_to_both b n (x ∷ xs) ys h k = (h.0, up_to_both b n xs ys h.1 k)

nearer : (a b m n : ℕ) (x : Place) → a ≤ b → m ≤ n → IsBeyond b n x → IsBeyond a m x
nearer a b m n nowhere h g k = absurd k
nearer a b m n (entry f) h g k = omega (arith, g, k)
nearer a b m n (inside l) h g k = omega (arith, h, k)
nearer a b m n (back_edge l) h g k = omega (arith, h, k)
nearer a b m n (out f) h g k = omega (arith, g, k)

all_nearer : (a b m n : ℕ) (xs : List Place) → a ≤ b → m ≤ n → AllBeyond b n xs → AllBeyond a m xs
all_nearer a b m n [] h g k = tt
all_nearer a b m n (x ∷ xs) h g k = (nearer a b m n x h g k.0, all_nearer a b m n xs h g k.1)

further : (a b n : ℕ) (x : Place) → a ≤ b → IsUpTo a n x → IsUpTo b n x
further a b n nowhere h k = tt
further a b n (entry f) h k = k
further a b n (inside l) h k = omega (arith, h, k)
further a b n (back_edge l) h k = omega (arith, h, k)
further a b n (out f) h k = k

all_further : (a b n : ℕ) (xs : List Place) → a ≤ b → AllUpTo a n xs → AllUpTo b n xs
all_further a b n [] h k = tt
all_further a b n (x ∷ xs) h k = (further a b n x h k.0, all_further a b n xs h k.1)

-- Bodies: their places lie between two lines, of no function

record Lies (b n : ℕ) (rest : List ℕ) (xs : List Place) : Type 0 where
  last : ℕ
  from : b ≤ last
  ascends : is_ascending last rest ≡ true
  distinct : AreDistinct xs
  beyond : AllBeyond b n xs
  up_to : AllUpTo last n xs

behind : {b n : ℕ} {rest : List ℕ} {xs ys : List Place} (h : Lies b n rest xs) {more : List ℕ} → Lies h.last n more ys → Lies b n more (xs ++ ys)
behind {b = b} {n = n} {xs = xs} {ys = ys} h k = record {
  last = k.last;
  from = omega (arith, h.from, k.from);
  ascends = k.ascends;
  distinct = distinct_both h.last n xs ys h.distinct h.up_to k.distinct k.beyond;
  beyond = beyond_both b n xs ys h.beyond (all_nearer b h.last n n ys h.from (omega arith) k.beyond);
  up_to = up_to_both k.last n xs ys (all_further h.last k.last n xs k.from h.up_to) k.up_to;
}

nothing : (b n : ℕ) (rest : List ℕ) → is_ascending b rest ≡ true → Lies b n rest []
nothing b n rest h = record { last = b; from = omega arith; ascends = h; distinct = tt; beyond = tt; up_to = tt }

one : (b n l : ℕ) (rest : List ℕ) → (nat_lt b l && is_ascending l rest) ≡ true → Lies b n rest (inside l ∷ [])
one b n l rest h =
    let g = and_parts (nat_lt b l) (is_ascending l rest) h in
    let less : b < l = ltb-true b l g.0 in
    record { last = l; from = omega (arith, less); ascends = g.1; distinct = (tt, tt); beyond = (less, tt); up_to = (omega arith, tt) }

two : (b n l : ℕ) (rest : List ℕ) → (nat_lt b l && is_ascending l rest) ≡ true → Lies b n rest (inside l ∷ back_edge l ∷ [])
two b n l rest h =
    let g = and_parts (nat_lt b l) (is_ascending l rest) h in
    let less : b < l = ltb-true b l g.0 in
    record { last = l; from = omega (arith, less); ascends = g.1; distinct = ((refl, tt), (tt, tt)); beyond = (less, (less, tt)); up_to = (omega arith, (omega arith, tt)) }

-- in the order of the text; `rest` stands behind the body
body_lies : (a : Body) (b n : ℕ) (rest : List ℕ) → is_ascending b (statement_lines a ++ rest) ≡ true → Lies b n rest (body_places a)
body_lies end b n rest h = nothing b n rest h
body_lies (simple l s more) b n rest h =
    let first = one b n l (statement_lines more ++ rest) h in
    behind first (body_lies more first.last n rest first.ascends)
body_lies (if_ l e a c more) b n rest h =
    let first = one b n l ((statement_lines a ++ (statement_lines c ++ statement_lines more)) ++ rest) h in
    let g : is_ascending first.last (statement_lines a ++ (statement_lines c ++ (statement_lines more ++ rest))) ≡ true =
    subst (λ z. is_ascending first.last z ≡ true) (append_assoc (statement_lines a) (statement_lines c ++ statement_lines more) rest ∙ ap (λ z. statement_lines a ++ z) (append_assoc (statement_lines c) (statement_lines more) rest)) first.ascends in
    let yes_block = body_lies a first.last n (statement_lines c ++ (statement_lines more ++ rest)) g in
    let other = body_lies c yes_block.last n (statement_lines more ++ rest) yes_block.ascends in
    behind first (behind yes_block (behind other (body_lies more other.last n rest other.ascends)))
body_lies (while_ l e a more) b n rest h =
    let first = two b n l ((statement_lines a ++ statement_lines more) ++ rest) h in
    let g : is_ascending first.last (statement_lines a ++ (statement_lines more ++ rest)) ≡ true =
    subst (λ z. is_ascending first.last z ≡ true) (append_assoc (statement_lines a) (statement_lines more) rest) first.ascends in
    let inner = body_lies a first.last n (statement_lines more ++ rest) g in
    behind first (behind inner (body_lies more inner.last n rest inner.ascends))

-- Functions

abbrev AreOfBodies : List Place → Type 0
AreOfBodies [] = Unit {0}
AreOfBodies (nowhere ∷ xs) = ⊥
AreOfBodies (entry f ∷ xs) = ⊥
AreOfBodies (inside l ∷ xs) = AreOfBodies xs
AreOfBodies (back_edge l ∷ xs) = AreOfBodies xs
AreOfBodies (out f ∷ xs) = ⊥

of_both : (xs ys : List Place) → AreOfBodies xs → AreOfBodies ys → AreOfBodies (xs ++ ys)
of_both [] ys h k = k
of_both (nowhere ∷ xs) ys h k = absurd h
of_both (entry f ∷ xs) ys h k = absurd h
of_both (inside l ∷ xs) ys h k = of_both xs ys h k
of_both (back_edge l ∷ xs) ys h k = of_both xs ys h k
of_both (out f ∷ xs) ys h k = absurd h

of_body : (a : Body) → AreOfBodies (body_places a)
of_body end = tt
of_body (simple l s more) = of_body more
of_body (if_ l e a c more) = of_both (body_places a) _ (of_body a) (of_both (body_places c) (body_places more) (of_body c) (of_body more))
of_body (while_ l e a more) = of_both (body_places a) (body_places more) (of_body a) (of_body more)

entry_fresh : (f : ℕ) (xs : List Place) → AreOfBodies xs → IsFresh (entry f) xs
entry_fresh f [] h = tt
entry_fresh f (nowhere ∷ xs) h = absurd h
entry_fresh f (entry g ∷ xs) h = absurd h
entry_fresh f (inside l ∷ xs) h = (refl, entry_fresh f xs h)
entry_fresh f (back_edge l ∷ xs) h = (refl, entry_fresh f xs h)
entry_fresh f (out g ∷ xs) h = absurd h

with_out : (f : ℕ) (xs ys : List Place) → AreOfBodies xs → AreDistinct xs → IsFresh (out f) ys → AreDistinct ys → (b : ℕ) → AllUpTo b (suc f) xs → AllBeyond b (suc f) ys → AreDistinct (xs ++ out f ∷ ys)
with_out f [] ys h d k e b u v = (k, e)
with_out f (nowhere ∷ xs) ys h d k e b u v = absurd h
with_out f (entry g ∷ xs) ys h d k e b u v = absurd h
with_out f (inside l ∷ xs) ys h d k e b u v =
    (fresh_both (inside l) xs (out f ∷ ys) d.0 (refl, fresh_beyond b (suc f) (inside l) ys u.0 v), with_out f xs ys h d.1 k e b u.1 v)
with_out f (back_edge l ∷ xs) ys h d k e b u v =
    (fresh_both (back_edge l) xs (out f ∷ ys) d.0 (refl, fresh_beyond b (suc f) (back_edge l) ys u.0 v), with_out f xs ys h d.1 k e b u.1 v)
with_out f (out g ∷ xs) ys h d k e b u v = absurd h

record LieFrom (b n : ℕ) (xs : List Place) : Type 0 where
  distinct : AreDistinct xs
  beyond : AllBeyond b n xs

all_lie : (fs : List Function) (b n : ℕ) → is_ascending b (flat_map (λ (f : Function). statement_lines f.body) fs) ≡ true → LieFrom b n (places_from n fs)
all_lie [] b n h = record { distinct = tt; beyond = tt }
all_lie (f ∷ fs) b n h =
    let own = body_lies f.body b (suc n) (flat_map (λ (g : Function). statement_lines g.body) fs) h in
    let others = all_lie fs own.last (suc n) own.ascends in
    let fresh : IsFresh (out n) (places_from (suc n) fs) = fresh_beyond own.last (suc n) (out n) (places_from (suc n) fs) (omega arith) others.beyond in
    record {
      distinct = (
        fresh_both (entry n) (body_places f.body) (out n ∷ places_from (suc n) fs) (entry_fresh n (body_places f.body) (of_body f.body))
            (refl, fresh_beyond own.last (suc n) (entry n) (places_from (suc n) fs) (omega arith) others.beyond),
        with_out n (body_places f.body) (places_from (suc n) fs) (of_body f.body) own.distinct fresh others.distinct own.last own.up_to others.beyond,
      );
      beyond = (
        omega arith,
        beyond_both b n (body_places f.body) (out n ∷ places_from (suc n) fs) (all_nearer b b n (suc n) (body_places f.body) (omega arith) (omega arith) own.beyond)
            (omega arith, all_nearer b own.last n (suc n) (places_from (suc n) fs) own.from (omega arith) others.beyond),
      );
    }

nowhere_fresh : (b n : ℕ) (xs : List Place) → AllBeyond b n xs → IsFresh nowhere xs
nowhere_fresh b n xs h = fresh_beyond b n nowhere xs tt h

pub one_number : HasOneNumber
one_number p h k x e =
    let all = all_lie p.funcs 0 0 h.lines in
    at_position (places p) k x (nowhere_fresh 0 0 (places_from 0 p.funcs) all.beyond, all.distinct) e
