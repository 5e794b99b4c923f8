-- Events with one key are one.
use Rattle.std.proofs.Common.{ℕ, ◌≡◌, pos, negsuc, List, [], ◌∷◌, ◌++◌, length, Option, Some, None, refl, sym, ap, ◌∙◌, append_assoc, append-nil, nat_eq, if◌then◌else◌, arith}
use Rattle.loom_tree.specs.declared.expression.Op.{Op}
use Rattle.loom_tree.specs.declared.expression.Op.TheVariants as o
use Rattle.loom_tree.specs.Tree.{Expression, num, var, cell, neg, inverse, bin}
use Rattle.loom_command.specs.Filter as tree
use Rattle.loom_filter.specs.Key.{op_key, name_key, expression_key, test_key, event_key}

-- two things with one key, each with what is behind it, are one
pub record Alike {A : Type 0} (x y : A) (rest other : List ℕ) : Type 0 where
  pub same : x ≡ y
  pub behind : rest ≡ other

-- names: the length comes first

one_bytes : (x y rest other : List ℕ) → length x ≡ length y → x ++ rest ≡ y ++ other → Alike x y rest other
one_bytes [] [] rest other e h = record { same = refl; behind = h }
one_bytes [] (b ∷ y) rest other e h = cc
one_bytes (a ∷ x) [] rest other e h = cc
one_bytes (a ∷ x) (b ∷ y) rest other e h =
    let l : length x ≡ length y = cc in
    let f : a ≡ b = cc in
    let g : x ++ rest ≡ y ++ other = cc in
    let i = one_bytes x y rest other l g in
    let j = i.same in
    record { same = cc; behind = i.behind }

pub one_name : (x y rest other : List ℕ) → name_key x ++ rest ≡ name_key y ++ other → Alike x y rest other
one_name x y rest other h =
    let l : length x ≡ length y = cc in
    let g : x ++ rest ≡ y ++ other = cc in
    one_bytes x y rest other l g

-- operators

abbrev op_of : ℕ → Op
op_of n =
    if nat_eq n 0 then o.Or else
    if nat_eq n 1 then o.And else
    if nat_eq n 2 then o.Eq else
    if nat_eq n 3 then o.Ne else
    if nat_eq n 4 then o.Lt else
    if nat_eq n 5 then o.Le else
    if nat_eq n 6 then o.Gt else
    if nat_eq n 7 then o.Ge else
    if nat_eq n 8 then o.Add else
    if nat_eq n 9 then o.Sub else
    if nat_eq n 10 then o.Mul else
    if nat_eq n 11 then o.Div else
    o.Rem

op_back : (p : Op) → op_of (op_key p) ≡ p
op_back o.Or = refl
op_back o.And = refl
op_back o.Eq = refl
op_back o.Ne = refl
op_back o.Lt = refl
op_back o.Le = refl
op_back o.Gt = refl
op_back o.Ge = refl
op_back o.Add = refl
op_back o.Sub = refl
op_back o.Mul = refl
op_back o.Div = refl
op_back o.Rem = refl

one_op : (p q : Op) → op_key p ≡ op_key q → p ≡ q
one_op p q e = sym (op_back p) ∙ ap op_of e ∙ op_back q

-- expressions: what one is comes first

other_tag : (m n : ℕ) (xs ys : List ℕ) → m ∷ xs ≡ n ∷ ys → (m ≡ n → ⊥) → ⊥
other_tag m n xs ys h f = f (let e : m ≡ n = cc in e)

pair_same : {A B C : Type 0} {x y : A} {z w : B} (f : A → B → C) → x ≡ y → z ≡ w → f x z ≡ f y w
pair_same {y = y} {z = z} f e g = ap (λ v. f v z) e ∙ ap (f y) g

pub one_expression : (a b : Expression) (rest other : List ℕ) → expression_key a ++ rest ≡ expression_key b ++ other → Alike a b rest other
one_expression (num (pos n)) (num (pos m)) rest other h =
    let e : n ≡ m = cc in
    let f : rest ≡ other = cc in
    record { same = ap (λ z. num (pos z)) e; behind = f }
one_expression (num (pos n)) (num (negsuc m)) rest other h = absurd (other_tag 0 6 _ _ h (λ e. absurd (omega arith)))
one_expression (num (pos n)) (var y) rest other h = absurd (other_tag 0 1 _ _ h (λ e. absurd (omega arith)))
one_expression (num (pos n)) (cell y j) rest other h = absurd (other_tag 0 2 _ _ h (λ e. absurd (omega arith)))
one_expression (num (pos n)) (neg d) rest other h = absurd (other_tag 0 3 _ _ h (λ e. absurd (omega arith)))
one_expression (num (pos n)) (inverse d) rest other h = absurd (other_tag 0 4 _ _ h (λ e. absurd (omega arith)))
one_expression (num (pos n)) (bin q c d) rest other h = absurd (other_tag 0 5 _ _ h (λ e. absurd (omega arith)))
one_expression (num (negsuc n)) (num (pos m)) rest other h = absurd (other_tag 6 0 _ _ h (λ e. absurd (omega arith)))
one_expression (num (negsuc n)) (num (negsuc m)) rest other h =
    let e : n ≡ m = cc in
    let f : rest ≡ other = cc in
    record { same = ap (λ z. num (negsuc z)) e; behind = f }
one_expression (num (negsuc n)) (var y) rest other h = absurd (other_tag 6 1 _ _ h (λ e. absurd (omega arith)))
one_expression (num (negsuc n)) (cell y j) rest other h = absurd (other_tag 6 2 _ _ h (λ e. absurd (omega arith)))
one_expression (num (negsuc n)) (neg d) rest other h = absurd (other_tag 6 3 _ _ h (λ e. absurd (omega arith)))
one_expression (num (negsuc n)) (inverse d) rest other h = absurd (other_tag 6 4 _ _ h (λ e. absurd (omega arith)))
one_expression (num (negsuc n)) (bin q c d) rest other h = absurd (other_tag 6 5 _ _ h (λ e. absurd (omega arith)))
one_expression (var x) (num (pos m)) rest other h = absurd (other_tag 1 0 _ _ h (λ e. absurd (omega arith)))
one_expression (var x) (num (negsuc m)) rest other h = absurd (other_tag 1 6 _ _ h (λ e. absurd (omega arith)))
one_expression (var x) (var y) rest other h =
    let f : name_key x ++ rest ≡ name_key y ++ other = cc in
    let k = one_name x y rest other f in
    record { same = ap var k.same; behind = k.behind }
one_expression (var x) (cell y j) rest other h = absurd (other_tag 1 2 _ _ h (λ e. absurd (omega arith)))
one_expression (var x) (neg d) rest other h = absurd (other_tag 1 3 _ _ h (λ e. absurd (omega arith)))
one_expression (var x) (inverse d) rest other h = absurd (other_tag 1 4 _ _ h (λ e. absurd (omega arith)))
one_expression (var x) (bin q c d) rest other h = absurd (other_tag 1 5 _ _ h (λ e. absurd (omega arith)))
one_expression (cell x i) (num (pos m)) rest other h = absurd (other_tag 2 0 _ _ h (λ e. absurd (omega arith)))
one_expression (cell x i) (num (negsuc m)) rest other h = absurd (other_tag 2 6 _ _ h (λ e. absurd (omega arith)))
one_expression (cell x i) (var y) rest other h = absurd (other_tag 2 1 _ _ h (λ e. absurd (omega arith)))
one_expression (cell x i) (cell y j) rest other h =
    let f : (name_key x ++ expression_key i) ++ rest ≡ (name_key y ++ expression_key j) ++ other = cc in
    let k = one_name x y (expression_key i ++ rest) (expression_key j ++ other) (sym (append_assoc (name_key x) (expression_key i) rest) ∙ f ∙ append_assoc (name_key y) (expression_key j) other) in
    let l = one_expression i j rest other k.behind in
    record { same = pair_same cell k.same l.same; behind = l.behind }
one_expression (cell x i) (neg d) rest other h = absurd (other_tag 2 3 _ _ h (λ e. absurd (omega arith)))
one_expression (cell x i) (inverse d) rest other h = absurd (other_tag 2 4 _ _ h (λ e. absurd (omega arith)))
one_expression (cell x i) (bin q c d) rest other h = absurd (other_tag 2 5 _ _ h (λ e. absurd (omega arith)))
one_expression (neg a) (num (pos m)) rest other h = absurd (other_tag 3 0 _ _ h (λ e. absurd (omega arith)))
one_expression (neg a) (num (negsuc m)) rest other h = absurd (other_tag 3 6 _ _ h (λ e. absurd (omega arith)))
one_expression (neg a) (var y) rest other h = absurd (other_tag 3 1 _ _ h (λ e. absurd (omega arith)))
one_expression (neg a) (cell y j) rest other h = absurd (other_tag 3 2 _ _ h (λ e. absurd (omega arith)))
one_expression (neg a) (neg d) rest other h =
    let f : expression_key a ++ rest ≡ expression_key d ++ other = cc in
    let k = one_expression a d rest other f in
    record { same = ap neg k.same; behind = k.behind }
one_expression (neg a) (inverse d) rest other h = absurd (other_tag 3 4 _ _ h (λ e. absurd (omega arith)))
one_expression (neg a) (bin q c d) rest other h = absurd (other_tag 3 5 _ _ h (λ e. absurd (omega arith)))
one_expression (inverse a) (num (pos m)) rest other h = absurd (other_tag 4 0 _ _ h (λ e. absurd (omega arith)))
one_expression (inverse a) (num (negsuc m)) rest other h = absurd (other_tag 4 6 _ _ h (λ e. absurd (omega arith)))
one_expression (inverse a) (var y) rest other h = absurd (other_tag 4 1 _ _ h (λ e. absurd (omega arith)))
one_expression (inverse a) (cell y j) rest other h = absurd (other_tag 4 2 _ _ h (λ e. absurd (omega arith)))
one_expression (inverse a) (neg d) rest other h = absurd (other_tag 4 3 _ _ h (λ e. absurd (omega arith)))
one_expression (inverse a) (inverse d) rest other h =
    let f : expression_key a ++ rest ≡ expression_key d ++ other = cc in
    let k = one_expression a d rest other f in
    record { same = ap inverse k.same; behind = k.behind }
one_expression (inverse a) (bin q c d) rest other h = absurd (other_tag 4 5 _ _ h (λ e. absurd (omega arith)))
one_expression (bin p a b) (num (pos m)) rest other h = absurd (other_tag 5 0 _ _ h (λ e. absurd (omega arith)))
one_expression (bin p a b) (num (negsuc m)) rest other h = absurd (other_tag 5 6 _ _ h (λ e. absurd (omega arith)))
one_expression (bin p a b) (var y) rest other h = absurd (other_tag 5 1 _ _ h (λ e. absurd (omega arith)))
one_expression (bin p a b) (cell y j) rest other h = absurd (other_tag 5 2 _ _ h (λ e. absurd (omega arith)))
one_expression (bin p a b) (neg d) rest other h = absurd (other_tag 5 3 _ _ h (λ e. absurd (omega arith)))
one_expression (bin p a b) (inverse d) rest other h = absurd (other_tag 5 4 _ _ h (λ e. absurd (omega arith)))
one_expression (bin p a b) (bin q c d) rest other h =
    let e : op_key p ≡ op_key q = cc in
    let f : (expression_key a ++ expression_key b) ++ rest ≡ (expression_key c ++ expression_key d) ++ other = cc in
    let k = one_expression a c (expression_key b ++ rest) (expression_key d ++ other) (sym (append_assoc (expression_key a) (expression_key b) rest) ∙ f ∙ append_assoc (expression_key c) (expression_key d) other) in
    let l = one_expression b d rest other k.behind in
    record { same = ap (λ z. bin z a b) (one_op p q e) ∙ pair_same (bin q) k.same l.same; behind = l.behind }

-- the key of an expression isn't empty
key_not_empty : (e : Expression) → expression_key e ≡ [] → ⊥
key_not_empty (num (pos n)) h = cc
key_not_empty (num (negsuc n)) h = cc
key_not_empty (var x) h = cc
key_not_empty (cell x i) h = cc
key_not_empty (neg a) h = cc
key_not_empty (inverse a) h = cc
key_not_empty (bin p a b) h = cc

one_test : (a b : Option Expression) → test_key a ≡ test_key b → a ≡ b
one_test None None h = refl
one_test None (Some e) h = absurd (key_not_empty e (sym h))
one_test (Some e) None h = absurd (key_not_empty e h)
one_test (Some a) (Some b) h =
    let k = one_expression a b [] [] (append-nil (expression_key a) ∙ h ∙ sym (append-nil (expression_key b))) in
    ap Some k.same

same_event : (f g : List ℕ) (l m : ℕ) (s t : Option Expression) → f ≡ g → l ≡ m → s ≡ t → ◌≡◌ {A = tree.LineEvent} (record { file = f; line = l; test = s }) (record { file = g; line = m; test = t })
same_event f g l m s t e h i = rw (e, h, i) refl

pub one_event : (a b : tree.LineEvent) → event_key a ≡ event_key b → a ≡ b
one_event a b h =
    let l : a.line ≡ b.line = cc in
    let g : name_key a.file ++ test_key a.test ≡ name_key b.file ++ test_key b.test = cc in
    let n = one_name a.file b.file (test_key a.test) (test_key b.test) g in
    same_event a.file b.file a.line b.line a.test b.test n.same l (one_test a.test b.test n.behind)
