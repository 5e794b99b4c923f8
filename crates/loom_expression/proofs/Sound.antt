-- What the reader over written expressions keeps: it has read just the tokens that it was given.
use Rattle.std.proofs.Common.{ℕ, suc, ◌+◌, ◌-◌, ◌≤◌, ◌<◌, ◌≡◌, List, [], ◌∷◌, ◌++◌, Option, Some, None, Bool, true, false, nat_le, if◌then◌else◌, refl, sym, ap, subst, ◌∙◌, append_assoc, append-nil, arith, IfSome}
use Rattle.std.proofs.lemmas.Bool.{leb-true, leb-false, ltb-true}
use Rattle.loom_tree.specs.declared.expression.Op.{Op}
use Rattle.loom_tree.specs.declared.expression.Op.TheVariants as op
use Rattle.loom_tree.specs.declared.token.Sign.{Sign}
use Rattle.loom_tree.specs.declared.token.Sign.TheVariants as sign
use Rattle.loom_tree.specs.Token.{Token}
use Rattle.loom_expression.specs.Text.{Text, tokens, prec, HasLevel, depth, nodes, node_limit, nesting_limit, IsWritten}
use Rattle.loom_expression.specs.Reader.{Prefix, Left, Minus, Bang, Open, Index, Size, Phrase, Over, Reader, Want, Named, Have, fresh, signed, unsigned, opened, indexed, closed, has_room, may_nest, may_sign, have, reduce, behind, close_paren, close_bracket, begin_unary, begin_paren, begin_index, want_op, want_sign, have_op, have_sign, have_token, named_sign, feed, after, feed_all, sole, finish_operand, finish, written}

-- the tokens that were read

abbrev pub mark : Prefix Text → List Token
mark (Left o a) = tokens a ++ Token.op o ∷ []
mark Minus = Token.op op.Sub ∷ []
mark Bang = Token.sign sign.Bang ∷ []
mark Open = Token.sign sign.ParenOpen ∷ []
mark (Index x) = Token.name x ∷ Token.sign sign.BracketOpen ∷ []

abbrev pub front : List (Prefix Text) → List Token
front [] = []
front (f ∷ k) = front k ++ mark f

abbrev pub read_operand : Phrase Text → List Token
read_operand (Over e z k) = front k ++ tokens e

abbrev pub read : Reader Text → List Token
read (Want z k) = front k
read (Named x z k) = front k ++ Token.name x ∷ []
read (Have r) = read_operand r

-- the operator on top binds less tightly
abbrev pub Looser : ℕ → List (Prefix Text) → Type 0
Looser l [] = Unit {0}
Looser l (Left o a ∷ k) = prec o < l
Looser l (Minus ∷ k) = ⊥
Looser l (Bang ∷ k) = ⊥
Looser l (Open ∷ k) = Unit {0}
Looser l (Index x ∷ k) = Unit {0}

-- how tightly an operand must bind
abbrev pub right : List (Prefix Text) → ℕ
right [] = 0
right (Left o a ∷ k) = suc (prec o)
right (Minus ∷ k) = 6
right (Bang ∷ k) = 6
right (Open ∷ k) = 0
right (Index x ∷ k) = 0

-- No operator waits on top for its one operand.
abbrev pub Calm : List (Prefix Text) → Type 0
Calm [] = Unit {0}
Calm (Left o a ∷ k) = Unit {0}
Calm (Minus ∷ k) = ⊥
Calm (Bang ∷ k) = ⊥
Calm (Open ∷ k) = Unit {0}
Calm (Index x ∷ k) = Unit {0}

-- the sizes of what was begun

abbrev pub count : List (Prefix Text) → ℕ
count [] = 0
count (Left o a ∷ k) = suc (nodes a + count k)
count (Minus ∷ k) = suc (count k)
count (Bang ∷ k) = suc (count k)
count (Open ∷ k) = count k
count (Index x ∷ k) = suc (count k)

abbrev pub unaries_in : List (Prefix Text) → ℕ
unaries_in [] = 0
unaries_in (Left o a ∷ k) = unaries_in k
unaries_in (Minus ∷ k) = suc (unaries_in k)
unaries_in (Bang ∷ k) = suc (unaries_in k)
unaries_in (Open ∷ k) = unaries_in k
unaries_in (Index x ∷ k) = unaries_in k

abbrev pub brackets_in : List (Prefix Text) → ℕ
brackets_in [] = 0
brackets_in (Left o a ∷ k) = brackets_in k
brackets_in (Minus ∷ k) = brackets_in k
brackets_in (Bang ∷ k) = brackets_in k
brackets_in (Open ∷ k) = suc (brackets_in k)
brackets_in (Index x ∷ k) = suc (brackets_in k)

abbrev pub Good : List (Prefix Text) → Type 0
Good [] = Unit {0}
Good (Left o a ∷ k) = HasLevel (prec o) a × Looser (prec o) k × Good k × (unaries_in k + brackets_in k + depth a ≤ nesting_limit)
Good (Minus ∷ k) = Good k
Good (Bang ∷ k) = Good k
Good (Open ∷ k) = Good k
Good (Index x ∷ k) = Good k

-- The size is that of what was begun and of an operand with n nodes and the depth d, and within the limits.
pub record HasSize (z : Size) (k : List (Prefix Text)) (n d : ℕ) : Type 0 where
  pub nodes : z.nodes ≡ n + count k
  pub unary : z.unary ≡ unaries_in k
  pub brackets : z.brackets ≡ brackets_in k
  pub small : z.nodes ≤ node_limit
  pub nests : unaries_in k + brackets_in k + d ≤ nesting_limit

pub record GoodWant (z : Size) (k : List (Prefix Text)) : Type 0 where
  pub stack : Good k
  pub sized : HasSize z k 1 0

pub record GoodHave (e : Text) (z : Size) (k : List (Prefix Text)) : Type 0 where
  pub level : HasLevel 6 e
  pub calm : Calm k
  pub stack : Good k
  pub sized : HasSize z k (nodes e) (depth e)

abbrev pub GoodOperand : Phrase Text → Type 0
GoodOperand (Over e z k) = GoodHave e z k

abbrev pub GoodReader : Reader Text → Type 0
GoodReader (Want z k) = GoodWant z k
GoodReader (Named x z k) = GoodWant z k
GoodReader (Have r) = GoodOperand r

-- an operand that took the left ones of the operators that bind at least so tightly
pub record ReducedTo (l : ℕ) (e : Text) (z : Size) (k : List (Prefix Text)) : Type 0 where
  pub level : HasLevel l e
  pub fits : HasLevel (right k) e
  pub calm : Calm k
  pub looser : Looser l k
  pub stack : Good k
  pub sized : HasSize z k (nodes e) (depth e)

abbrev pub Reduced : ℕ → Phrase Text → Type 0
Reduced l (Over e z k) = ReducedTo l e z k

abbrev pub size_of : Phrase Text → Size
size_of (Over e z k) = z

-- s' is good, and ts with x were read
abbrev pub Reads : List Token → Token → Reader Text → Type 0
Reads ts x s' = GoodReader s' × (read s' ≡ ts ++ x ∷ [])

-- levels

pub lower : (l m : ℕ) (e : Text) → l ≤ m → HasLevel m e → HasLevel l e
lower l m (Text.num n) h p = tt
lower l m (Text.var x) h p = tt
lower l m (Text.cell x i) h p = p
lower l m (Text.neg a) h p = p
lower l m (Text.inverse a) h p = p
lower l m (Text.bin o a b) h p = (omega (arith, p.0), p.1, p.2)
lower l m (Text.paren a) h p = p

pub prec_small : (o : Op) → prec o ≤ 5
prec_small op.Or = omega arith
prec_small op.And = omega arith
prec_small op.Eq = omega arith
prec_small op.Ne = omega arith
prec_small op.Lt = omega arith
prec_small op.Le = omega arith
prec_small op.Gt = omega arith
prec_small op.Ge = omega arith
prec_small op.Add = omega arith
prec_small op.Sub = omega arith
prec_small op.Mul = omega arith
prec_small op.Div = omega arith
prec_small op.Rem = omega arith

pub right_small : (k : List (Prefix Text)) → right k ≤ 6
right_small [] = omega arith
right_small (Left o a ∷ k) = omega (arith, prec_small o)
right_small (Minus ∷ k) = omega arith
right_small (Bang ∷ k) = omega arith
right_small (Open ∷ k) = omega arith
right_small (Index x ∷ k) = omega arith

pub calm_of : (l : ℕ) (k : List (Prefix Text)) → Looser l k → Calm k
calm_of l [] h = tt
calm_of l (Left o a ∷ k) h = tt
calm_of l (Minus ∷ k) h = h
calm_of l (Bang ∷ k) h = h
calm_of l (Open ∷ k) h = tt
calm_of l (Index x ∷ k) h = tt

pub right_looser : (l : ℕ) (k : List (Prefix Text)) → Looser l k → right k ≤ l
right_looser l [] h = omega arith
right_looser l (Left o a ∷ k) h = omega (arith, h)
right_looser l (Minus ∷ k) h = absurd h
right_looser l (Bang ∷ k) h = absurd h
right_looser l (Open ∷ k) h = omega arith
right_looser l (Index x ∷ k) h = omega arith

-- the tests of the limits

pub if_some : (v : Bool) (s : Reader Text) (P : Reader Text → Type 0) → (v ≡ true → P s) → IfSome (if v then Some s else None) P
if_some true s P h = h refl
if_some false s P h = tt

pub nest_true : (z : Size) → may_nest z ≡ true → z.unary + z.brackets < nesting_limit
nest_true z is = omega (arith, ltb-true z.brackets (nesting_limit - z.unary) is)

pub sign_true : (z : Size) → may_sign z ≡ true → (suc z.nodes ≤ node_limit) × (z.unary + z.brackets < nesting_limit)
sign_true z is = go (has_room 1 z) refl is
  where
    go : (v : Bool) → has_room 1 z ≡ v → (if v then may_nest z else false) ≡ true → (suc z.nodes ≤ node_limit) × (z.unary + z.brackets < nesting_limit)
    go true room nest = (omega (arith, leb-true z.nodes (node_limit - 1) room), nest_true z nest)
    go false room nest = cc

pub room_true : (z : Size) → has_room 2 z ≡ true → z.nodes + 2 ≤ node_limit
room_true z is = omega (arith, leb-true z.nodes (node_limit - 2) is)

-- have and reduce

pub have_good : (e : Text) (z : Size) (k : List (Prefix Text)) → HasLevel 6 e → Good k → HasSize z k (nodes e) (depth e) → GoodOperand (have written e z k)
have_good e z [] p g h = record { level = p; calm = tt; stack = g; sized = h }
have_good e z (Left o a ∷ k) p g h = record { level = p; calm = tt; stack = g; sized = h }
have_good e z (Minus ∷ k) p g h =
    have_good (Text.neg e) (unsigned z) k p g
    (record { nodes = omega (arith, h.nodes); unary = omega (arith, h.unary); brackets = h.brackets; small = h.small; nests = omega (arith, h.nests) })
have_good e z (Bang ∷ k) p g h =
    have_good (Text.inverse e) (unsigned z) k p g
    (record { nodes = omega (arith, h.nodes); unary = omega (arith, h.unary); brackets = h.brackets; small = h.small; nests = omega (arith, h.nests) })
have_good e z (Open ∷ k) p g h = record { level = p; calm = tt; stack = g; sized = h }
have_good e z (Index x ∷ k) p g h = record { level = p; calm = tt; stack = g; sized = h }

pub have_read : (e : Text) (z : Size) (k : List (Prefix Text)) → read_operand (have written e z k) ≡ front k ++ tokens e
have_read e z [] = refl
have_read e z (Left o a ∷ k) = refl
have_read e z (Minus ∷ k) = have_read (Text.neg e) (unsigned z) k ∙ simp append_assoc
have_read e z (Bang ∷ k) = have_read (Text.inverse e) (unsigned z) k ∙ simp append_assoc
have_read e z (Open ∷ k) = refl
have_read e z (Index x ∷ k) = refl

pub reduce_read : (l : ℕ) (e : Text) (z : Size) (k : List (Prefix Text)) → read_operand (reduce written l e z k) ≡ front k ++ tokens e
reduce_read l e z [] = refl
reduce_read l e z (Left o a ∷ k) =
    elim (nat_le l (prec o)) as (λ v. read_operand (if v then reduce written l (Text.bin o a e) z k else Over e z (Left o a ∷ k)) ≡ front (Left o a ∷ k) ++ tokens e)
    [ true ↦ reduce_read l (Text.bin o a e) z k ∙ simp append_assoc | false ↦ refl ]
reduce_read l e z (Minus ∷ k) = refl
reduce_read l e z (Bang ∷ k) = refl
reduce_read l e z (Open ∷ k) = refl
reduce_read l e z (Index x ∷ k) = refl

pub reduce_size : (l : ℕ) (e : Text) (z : Size) (k : List (Prefix Text)) → size_of (reduce written l e z k) ≡ z
reduce_size l e z [] = refl
reduce_size l e z (Left o a ∷ k) =
    elim (nat_le l (prec o)) as (λ v. size_of (if v then reduce written l (Text.bin o a e) z k else Over e z (Left o a ∷ k)) ≡ z)
    [ true ↦ reduce_size l (Text.bin o a e) z k | false ↦ refl ]
reduce_size l e z (Minus ∷ k) = refl
reduce_size l e z (Bang ∷ k) = refl
reduce_size l e z (Open ∷ k) = refl
reduce_size l e z (Index x ∷ k) = refl

pub reduce_good : (l : ℕ) (e : Text) (z : Size) (k : List (Prefix Text)) → HasLevel l e → HasLevel (right k) e → Calm k → Good k → HasSize z k (nodes e) (depth e) → Reduced l (reduce written l e z k)
reduce_good l e z [] p q c g h = record { level = p; fits = q; calm = tt; looser = tt; stack = g; sized = h }
reduce_good l e z (Left o a ∷ k) p q c g h =
    go (nat_le l (prec o)) refl (λ le. reduce_good l (Text.bin o a e) z k (le, g.0, q) (omega (arith, right_looser (prec o) k g.1), g.0, q) (calm_of (prec o) k g.1) g.2
    (record { nodes = omega (arith, h.nodes); unary = h.unary; brackets = h.brackets; small = h.small; nests = omega (arith, g.3, h.nests) }))
  where
    go : (v : Bool) → nat_le l (prec o) ≡ v → (l ≤ prec o → Reduced l (reduce written l (Text.bin o a e) z k)) → Reduced l (if v then reduce written l (Text.bin o a e) z k else Over e z (Left o a ∷ k))
    go true is more = more (leb-true l (prec o) is)
    go false is more = record { level = p; fits = q; calm = tt; looser = leb-false l (prec o) is; stack = g; sized = h }
reduce_good l e z (Minus ∷ k) p q c g h = absurd c
reduce_good l e z (Bang ∷ k) p q c g h = absurd c
reduce_good l e z (Open ∷ k) p q c g h = record { level = p; fits = q; calm = tt; looser = tt; stack = g; sized = h }
reduce_good l e z (Index x ∷ k) p q c g h = record { level = p; fits = q; calm = tt; looser = tt; stack = g; sized = h }

pub reduced : (l : ℕ) (e : Text) (z : Size) (k : List (Prefix Text)) → l ≤ 6 → GoodHave e z k → Reduced l (reduce written l e z k)
reduced l e z k small h = reduce_good l e z k (lower l 6 e small h.level) (lower (right k) 6 e (right_small k) h.level) h.calm h.stack h.sized

-- steps

pub moved : (o : Option (Reader Text)) (a b : List Token) (x : Token) → a ≡ b → IfSome o (Reads a x) → IfSome o (Reads b x)
moved o a b x is h = subst (λ z. IfSome o (Reads z x)) is h

pub minus_good : (z : Size) (k : List (Prefix Text)) → GoodWant z k → IfSome (begin_unary Minus z k) (Reads (front k) (Token.op op.Sub))
minus_good z k h = if_some (may_sign z) (Want (signed z) (Minus ∷ k)) (Reads (front k) (Token.op op.Sub)) (λ is. let f = sign_true z is in (
  record {
    stack = h.stack;
    sized = record { nodes = omega (arith, h.sized.nodes); unary = omega (arith, h.sized.unary); brackets = h.sized.brackets; small = omega (arith, f.0); nests = omega (arith, f.1, h.sized.unary, h.sized.brackets) };
  },
  refl,
))

pub bang_good : (z : Size) (k : List (Prefix Text)) → GoodWant z k → IfSome (begin_unary Bang z k) (Reads (front k) (Token.sign sign.Bang))
bang_good z k h = if_some (may_sign z) (Want (signed z) (Bang ∷ k)) (Reads (front k) (Token.sign sign.Bang)) (λ is. let f = sign_true z is in (
  record {
    stack = h.stack;
    sized = record { nodes = omega (arith, h.sized.nodes); unary = omega (arith, h.sized.unary); brackets = h.sized.brackets; small = omega (arith, f.0); nests = omega (arith, f.1, h.sized.unary, h.sized.brackets) };
  },
  refl,
))

pub paren_good : (z : Size) (k : List (Prefix Text)) → GoodWant z k → IfSome (begin_paren z k) (Reads (front k) (Token.sign sign.ParenOpen))
paren_good z k h = if_some (may_nest z) (Want (opened z) (Open ∷ k)) (Reads (front k) (Token.sign sign.ParenOpen)) (λ is. let f = nest_true z is in (
  record {
    stack = h.stack;
    sized = record { nodes = h.sized.nodes; unary = h.sized.unary; brackets = omega (arith, h.sized.brackets); small = h.sized.small; nests = omega (arith, f, h.sized.unary, h.sized.brackets) };
  },
  refl,
))

pub index_good : (x : List ℕ) (z : Size) (k : List (Prefix Text)) → GoodWant z k → IfSome (begin_index x z k) (Reads (front k ++ Token.name x ∷ []) (Token.sign sign.BracketOpen))
index_good x z k h = if_some (may_sign z) (Want (indexed z) (Index x ∷ k)) (Reads (front k ++ Token.name x ∷ []) (Token.sign sign.BracketOpen)) (λ is. let f = sign_true z is in (
  record {
    stack = h.stack;
    sized = record { nodes = omega (arith, h.sized.nodes); unary = h.sized.unary; brackets = omega (arith, h.sized.brackets); small = omega (arith, f.0); nests = omega (arith, f.1, h.sized.unary, h.sized.brackets) };
  },
  simp append_assoc,
))

pub want_op_good : (o : Op) (z : Size) (k : List (Prefix Text)) → GoodWant z k → IfSome (want_op o z k) (Reads (front k) (Token.op o))
want_op_good op.Sub z k h = minus_good z k h
want_op_good _ z k h = tt

pub want_sign_good : (s : Sign) (z : Size) (k : List (Prefix Text)) → GoodWant z k → IfSome (want_sign s z k) (Reads (front k) (Token.sign s))
want_sign_good sign.Bang z k h = bang_good z k h
want_sign_good sign.ParenOpen z k h = paren_good z k h
want_sign_good _ z k h = tt

pub behind_good : (o : Op) (r : Phrase Text) (ts : List Token) → Reduced (prec o) r → (size_of r).nodes + 2 ≤ node_limit → read_operand r ≡ ts → Reads ts (Token.op o) (behind o r)
behind_good o (Over e z k) ts h n is = (
  record {
    stack = (h.level, h.looser, h.stack, h.sized.nests);
    sized = record { nodes = omega (arith, h.sized.nodes); unary = h.sized.unary; brackets = h.sized.brackets; small = n; nests = omega (arith, h.sized.nests) };
  },
  sym (append_assoc (front k) (tokens e) (Token.op o ∷ [])) ∙ ap (λ z. z ++ Token.op o ∷ []) is,
)

pub have_op_good : (o : Op) (r : Phrase Text) → GoodOperand r → IfSome (have_op written o r) (Reads (read_operand r) (Token.op o))
have_op_good o (Over e z k) h = if_some (has_room 2 z) (behind o (reduce written (prec o) e z k)) (Reads (front k ++ tokens e) (Token.op o)) (λ is.
    behind_good o (reduce written (prec o) e z k) (front k ++ tokens e) (reduced (prec o) e z k (omega (arith, prec_small o)) h) (rw (reduce_size (prec o) e z k) (room_true z is)) (reduce_read (prec o) e z k))

pub close_paren_good : (r : Phrase Text) → Reduced 0 r → IfSome (close_paren written r) (Reads (read_operand r) (Token.sign sign.ParenClose))
close_paren_good (Over e z []) h = tt
close_paren_good (Over e z (Left o a ∷ k)) h = tt
close_paren_good (Over e z (Minus ∷ k)) h = tt
close_paren_good (Over e z (Bang ∷ k)) h = tt
close_paren_good (Over e z (Open ∷ k)) h = (
  have_good (Text.paren e) (closed z) k h.level h.stack
      (record { nodes = h.sized.nodes; unary = h.sized.unary; brackets = omega (arith, h.sized.brackets); small = h.sized.small; nests = omega (arith, h.sized.nests) }),
  have_read (Text.paren e) (closed z) k ∙ simp append_assoc,
)
close_paren_good (Over e z (Index x ∷ k)) h = tt

pub close_bracket_good : (r : Phrase Text) → Reduced 0 r → IfSome (close_bracket written r) (Reads (read_operand r) (Token.sign sign.BracketClose))
close_bracket_good (Over e z []) h = tt
close_bracket_good (Over e z (Left o a ∷ k)) h = tt
close_bracket_good (Over e z (Minus ∷ k)) h = tt
close_bracket_good (Over e z (Bang ∷ k)) h = tt
close_bracket_good (Over e z (Open ∷ k)) h = tt
close_bracket_good (Over e z (Index x ∷ k)) h = (
  have_good (Text.cell x e) (closed z) k h.level h.stack
      (record { nodes = omega (arith, h.sized.nodes); unary = h.sized.unary; brackets = omega (arith, h.sized.brackets); small = h.sized.small; nests = omega (arith, h.sized.nests) }),
  have_read (Text.cell x e) (closed z) k ∙ simp append_assoc,
)

pub have_sign_good : (s : Sign) (r : Phrase Text) → GoodOperand r → IfSome (have_sign written s r) (Reads (read_operand r) (Token.sign s))
have_sign_good sign.ParenClose (Over e z k) h =
    moved (close_paren written (reduce written 0 e z k)) (read_operand (reduce written 0 e z k)) (front k ++ tokens e) (Token.sign sign.ParenClose) (reduce_read 0 e z k) (close_paren_good (reduce written 0 e z k) (reduced 0 e z k (omega arith) h))
have_sign_good sign.BracketClose (Over e z k) h =
    moved (close_bracket written (reduce written 0 e z k)) (read_operand (reduce written 0 e z k)) (front k ++ tokens e) (Token.sign sign.BracketClose) (reduce_read 0 e z k) (close_bracket_good (reduce written 0 e z k) (reduced 0 e z k (omega arith) h))
have_sign_good _ (Over e z k) h = tt

pub have_token_good : (t : Token) (r : Phrase Text) → GoodOperand r → IfSome (have_token written t r) (Reads (read_operand r) t)
have_token_good (Token.name x) r h = tt
have_token_good (Token.num n) r h = tt
have_token_good (Token.word w) r h = tt
have_token_good (Token.op o) r h = have_op_good o r h
have_token_good (Token.sign s) r h = have_sign_good s r h
have_token_good Token.bad r h = tt

pub name_good : (x : List ℕ) (z : Size) (k : List (Prefix Text)) → GoodWant z k → GoodOperand (have written (Text.var x) z k)
name_good x z k h = have_good (Text.var x) z k tt h.stack h.sized

pub named_sign_good : (s : Sign) (x : List ℕ) (z : Size) (k : List (Prefix Text)) → GoodWant z k → IfSome (named_sign written s x z k) (Reads (front k ++ Token.name x ∷ []) (Token.sign s))
named_sign_good sign.BracketOpen x z k h = index_good x z k h
named_sign_good s x z k h =
    moved (have_sign written s (have written (Text.var x) z k)) (read_operand (have written (Text.var x) z k)) (front k ++ Token.name x ∷ []) (Token.sign s) (have_read (Text.var x) z k) (have_sign_good s (have written (Text.var x) z k) (name_good x z k h))

-- A step keeps what is good, and reads its token.
pub step_good : (s : Reader Text) (x : Token) → GoodReader s → IfSome (feed written s x) (Reads (read s) x)
step_good (Want z k) (Token.name x) h = (h, refl)
step_good (Want z k) (Token.num n) h = (have_good (Text.num n) z k tt h.stack h.sized, have_read (Text.num n) z k)
step_good (Want z k) (Token.word w) h = tt
step_good (Want z k) (Token.op o) h = want_op_good o z k h
step_good (Want z k) (Token.sign s) h = want_sign_good s z k h
step_good (Want z k) Token.bad h = tt
step_good (Named x z k) (Token.name y) h = tt
step_good (Named x z k) (Token.num n) h = tt
step_good (Named x z k) (Token.word w) h = tt
step_good (Named x z k) (Token.op o) h =
    moved (have_op written o (have written (Text.var x) z k)) (read_operand (have written (Text.var x) z k)) (front k ++ Token.name x ∷ []) (Token.op o) (have_read (Text.var x) z k) (have_op_good o (have written (Text.var x) z k) (name_good x z k h))
step_good (Named x z k) (Token.sign s) h = named_sign_good s x z k h
step_good (Named x z k) Token.bad h = tt
step_good (Have r) x h = have_token_good x r h

-- from s the reader comes to s' by ts
abbrev pub Goes : Reader Text → List Token → Reader Text → Type 0
Goes s ts s' = GoodReader s' × (read s' ≡ read s ++ ts)

pub run_good : (s : Reader Text) (ts : List Token) → GoodReader s → IfSome (feed_all written s ts) (Goes s ts)
run_good s [] h = (h, sym (append-nil (read s)))
run_good s (x ∷ ts) h = go (feed written s x) (step_good s x h) (λ s'. run_good s' ts)
  where
    next : (o : Option (Reader Text)) (s' : Reader Text) → read s' ≡ read s ++ x ∷ [] → IfSome o (Goes s' ts) → IfSome o (Goes s (x ∷ ts))
    next None s' is g = tt
    next (Some s'') s' is g = (g.0, g.1 ∙ ap (λ z. z ++ ts) is ∙ append_assoc (read s) (x ∷ []) ts)

    go : (o : Option (Reader Text)) → IfSome o (Reads (read s) x) → ((s' : Reader Text) → GoodReader s' → IfSome (feed_all written s' ts) (Goes s' ts)) → IfSome (after o (λ s'. feed_all written s' ts)) (Goes s (x ∷ ts))
    go None g more = tt
    go (Some s') g more = next (feed_all written s' ts) s' g.1 (more s' g.0)

-- the end of what was read

abbrev pub Spells : List Token → Text → Type 0
Spells ts w = IsWritten w × (tokens w ≡ ts)

pub alone_good : (r : Phrase Text) (ts : List Token) → Reduced 0 r → read_operand r ≡ ts → IfSome (sole r) (Spells ts)
alone_good (Over e z []) ts h is = (record { level = h.level; small = omega (arith, h.sized.nodes, h.sized.small); nests = omega (arith, h.sized.nests) }, is)
alone_good (Over e z (f ∷ k)) ts h is = tt

pub finish_operand_good : (r : Phrase Text) → GoodOperand r → IfSome (finish_operand written r) (Spells (read_operand r))
finish_operand_good (Over e z k) h = alone_good (reduce written 0 e z k) (front k ++ tokens e) (reduced 0 e z k (omega arith) h) (reduce_read 0 e z k)

pub finish_good : (s : Reader Text) → GoodReader s → IfSome (finish written s) (Spells (read s))
finish_good (Want z k) h = tt
finish_good (Named x z k) h = subst (λ ts. IfSome (finish_operand written (have written (Text.var x) z k)) (Spells ts)) (have_read (Text.var x) z k) (finish_operand_good (have written (Text.var x) z k) (name_good x z k h))
finish_good (Have r) h = finish_operand_good r h

pub start_good : GoodReader fresh
start_good = record { stack = tt; sized = record { nodes = refl; unary = refl; brackets = refl; small = omega arith; nests = omega arith } }
