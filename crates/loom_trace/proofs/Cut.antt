-- Lists that are cut behind what meets a test.
use Rattle.std.proofs.Common.{ℕ, ◌≤◌, ◌≡◌, Bool, true, false, nat_lt, List, [], ◌∷◌, ◌++◌, refl, ap, arith}
use Rattle.std.proofs.lemmas.Bool.{lt-ltb, ltb-true}

-- each element meets the test
abbrev pub Each : {A : Type 0} → (A → Bool) → List A → Type 0
Each p [] = Unit {0}
Each p (x ∷ xs) = (p x ≡ true) × Each p xs

-- the list doesn't begin with what meets the test
abbrev pub Stops : {A : Type 0} → (A → Bool) → List A → Type 0
Stops p [] = Unit {0}
Stops p (x ∷ xs) = p x ≡ false

-- where two cuts are behind what meets a test and before what doesn't, they are one
pub one_cut : {A : Type 0} (p : A → Bool) (ks bs xs ys : List A) → Each p ks → Each p bs → Stops p xs → Stops p ys → ks ++ xs ≡ bs ++ ys → ks ≡ bs
one_cut p [] [] xs ys ha hb hx hy e = refl
one_cut p [] (b ∷ bs) [] ys ha hb hx hy e = cc
one_cut p [] (b ∷ bs) (x ∷ xs) ys ha hb hx hy e = let f : x ≡ b = cc in let g : p x ≡ p b = ap p f in let h = hb.0 in cc
one_cut p (a ∷ ks) [] xs [] ha hb hx hy e = cc
one_cut p (a ∷ ks) [] xs (y ∷ ys) ha hb hx hy e = let f : a ≡ y = cc in let g : p a ≡ p y = ap p f in let h = ha.0 in cc
one_cut p (a ∷ ks) (b ∷ bs) xs ys ha hb hx hy e =
    let i = one_cut p ks bs xs ys ha.1 hb.1 hx hy (let t : ks ++ xs ≡ bs ++ ys = cc in t) in
    cc

pub same_rest : {A : Type 0} (s t xs ys : List A) → s ≡ t → s ++ xs ≡ t ++ ys → xs ≡ ys
same_rest [] [] xs ys f e = e
same_rest [] (b ∷ t) xs ys f e = cc
same_rest (a ∷ s) [] xs ys f e = cc
same_rest (a ∷ s) (b ∷ t) xs ys f e = same_rest s t xs ys (let g : s ≡ t = cc in g) (let r : s ++ xs ≡ t ++ ys = cc in r)

pub each_append : {A : Type 0} (p : A → Bool) (xs ys : List A) → Each p xs → Each p ys → Each p (xs ++ ys)
each_append p [] ys h k = k
each_append p (x ∷ xs) ys h k = (h.0, each_append p xs ys h.1 k)

-- bytes above a number
abbrev pub above : ℕ → ℕ → Bool
above n b = nat_lt n b

pub each_weaker : (m n : ℕ) (bs : List ℕ) → m ≤ n → Each (above n) bs → Each (above m) bs
each_weaker m n [] l h = tt
each_weaker m n (b ∷ bs) l h = let k = ltb-true n b h.0 in (lt-ltb m b (omega (arith, l, k)), each_weaker m n bs l h.1)
