-- A reader of one token after another, over trees or over expressions as they are written.
use Rattle.std.specs.Prelude.{ℕ, pos, ◌+◌, ◌-◌, nat_eq, nat_le, nat_lt, if◌then◌else◌, List, [], ◌∷◌, Option, Some, None, Bool, false}
use Rattle.loom_tree.specs.declared.expression.Op.{Op}
use Rattle.loom_tree.specs.declared.expression.Op.TheVariants as op
use Rattle.loom_tree.specs.declared.token.Sign.{Sign}
use Rattle.loom_tree.specs.declared.token.Sign.TheVariants as sign
use Rattle.loom_tree.specs.Tree.{Expression}
use Rattle.loom_tree.specs.Token.{Token}
use Rattle.loom_expression.specs.Text.{Text, prec, node_limit, nesting_limit}

-- what was begun and isn't complete: a left operand with its operator, `-`, `!`, `(`, or `[` behind a name
pub data Prefix (A : Type 0) : Type 0 where
  Left : Op → A → Prefix A
  Minus : Prefix A
  Bang : Prefix A
  Open : Prefix A
  Index : List ℕ → Prefix A

-- How many nodes were read, an operand that must follow counting as one; how many operators before an operand wait for
-- it, and how many parentheses and brackets are open.
pub record Size : Type 0 where
  pub nodes : ℕ
  pub unary : ℕ
  pub brackets : ℕ

-- an operand, and what was begun before it
pub data Phrase (A : Type 0) : Type 0 where
  Over : A → Size → List (Prefix A) → Phrase A

-- An operand must follow; a name was read, which may be that of a cell; or an operand was read.
pub data Reader (A : Type 0) : Type 0 where
  Want : Size → List (Prefix A) → Reader A
  Named : List ℕ → Size → List (Prefix A) → Reader A
  Have : Phrase A → Reader A

-- how the parts of an expression are put together
pub record ExpressionBuilder (A : Type 0) : Type 0 where
  pub num : ℕ → A
  pub var : List ℕ → A
  pub cell : List ℕ → A → A
  pub neg : A → A
  pub inverse : A → A
  pub bin : Op → A → A → A
  pub paren : A → A

abbrev pub fresh : {A : Type 0} → Reader A
fresh = Want (record { nodes = 1; unary = 0; brackets = 0 }) []

-- the size behind what was begun, and behind its end

abbrev pub signed : Size → Size
signed z = record { nodes = z.nodes + 1; unary = z.unary + 1; brackets = z.brackets }

abbrev pub unsigned : Size → Size
unsigned z = record { nodes = z.nodes; unary = z.unary - 1; brackets = z.brackets }

abbrev pub opened : Size → Size
opened z = record { nodes = z.nodes; unary = z.unary; brackets = z.brackets + 1 }

abbrev pub indexed : Size → Size
indexed z = record { nodes = z.nodes + 1; unary = z.unary; brackets = z.brackets + 1 }

abbrev pub closed : Size → Size
closed z = record { nodes = z.nodes; unary = z.unary; brackets = z.brackets - 1 }

abbrev pub joined : Size → Size
joined z = record { nodes = z.nodes + 2; unary = z.unary; brackets = z.brackets }

-- So many nodes may be added.
abbrev pub has_room : ℕ → Size → Bool
has_room n z = nat_le z.nodes (node_limit - n)

-- Something that nests may begin.
abbrev pub may_nest : Size → Bool
may_nest z = nat_lt z.brackets (nesting_limit - z.unary)

abbrev pub may_sign : Size → Bool
may_sign z = if has_room 1 z then may_nest z else false

-- An operand takes the operators that stand before it.
abbrev pub have : {A : Type 0} → ExpressionBuilder A → A → Size → List (Prefix A) → Phrase A
have b e z [] = Over e z []
have b e z (Left o a ∷ k) = Over e z (Left o a ∷ k)
have b e z (Minus ∷ k) = have b (b.neg e) (unsigned z) k
have b e z (Bang ∷ k) = have b (b.inverse e) (unsigned z) k
have b e z (Open ∷ k) = Over e z (Open ∷ k)
have b e z (Index x ∷ k) = Over e z (Index x ∷ k)

-- An operand becomes the right one of the operators before it that bind at least so tightly.
abbrev pub reduce : {A : Type 0} → ExpressionBuilder A → ℕ → A → Size → List (Prefix A) → Phrase A
reduce b l e z [] = Over e z []
reduce b l e z (Left o a ∷ k) = if nat_le l (prec o) then reduce b l (b.bin o a e) z k else Over e z (Left o a ∷ k)
reduce b l e z (Minus ∷ k) = Over e z (Minus ∷ k)
reduce b l e z (Bang ∷ k) = Over e z (Bang ∷ k)
reduce b l e z (Open ∷ k) = Over e z (Open ∷ k)
reduce b l e z (Index x ∷ k) = Over e z (Index x ∷ k)

-- an operator behind an operand
abbrev pub behind : {A : Type 0} → Op → Phrase A → Reader A
behind o (Over e z k) = Want (joined z) (Left o e ∷ k)

abbrev pub close_paren : {A : Type 0} → ExpressionBuilder A → Phrase A → Option (Reader A)
close_paren b (Over e z []) = None
close_paren b (Over e z (Left o a ∷ k)) = None
close_paren b (Over e z (Minus ∷ k)) = None
close_paren b (Over e z (Bang ∷ k)) = None
close_paren b (Over e z (Open ∷ k)) = Some (Have (have b (b.paren e) (closed z) k))
close_paren b (Over e z (Index x ∷ k)) = None

abbrev pub close_bracket : {A : Type 0} → ExpressionBuilder A → Phrase A → Option (Reader A)
close_bracket b (Over e z []) = None
close_bracket b (Over e z (Left o a ∷ k)) = None
close_bracket b (Over e z (Minus ∷ k)) = None
close_bracket b (Over e z (Bang ∷ k)) = None
close_bracket b (Over e z (Open ∷ k)) = None
close_bracket b (Over e z (Index x ∷ k)) = Some (Have (have b (b.cell x e) (closed z) k))

abbrev pub begin_unary : {A : Type 0} → Prefix A → Size → List (Prefix A) → Option (Reader A)
begin_unary f z k = if may_sign z then Some (Want (signed z) (f ∷ k)) else None

abbrev pub begin_paren : {A : Type 0} → Size → List (Prefix A) → Option (Reader A)
begin_paren z k = if may_nest z then Some (Want (opened z) (Open ∷ k)) else None

abbrev pub begin_index : {A : Type 0} → List ℕ → Size → List (Prefix A) → Option (Reader A)
begin_index x z k = if may_sign z then Some (Want (indexed z) (Index x ∷ k)) else None

-- an operator and a sign where an operand must follow

abbrev pub want_op : {A : Type 0} → Op → Size → List (Prefix A) → Option (Reader A)
want_op op.Sub z k = begin_unary Minus z k
want_op _ z k = None

abbrev pub want_sign : {A : Type 0} → Sign → Size → List (Prefix A) → Option (Reader A)
want_sign sign.Bang z k = begin_unary Bang z k
want_sign sign.ParenOpen z k = begin_paren z k
want_sign _ z k = None

-- an operator and a sign behind an operand

abbrev pub have_op : {A : Type 0} → ExpressionBuilder A → Op → Phrase A → Option (Reader A)
have_op b o (Over e z k) = if has_room 2 z then Some (behind o (reduce b (prec o) e z k)) else None

abbrev pub have_sign : {A : Type 0} → ExpressionBuilder A → Sign → Phrase A → Option (Reader A)
have_sign b sign.ParenClose (Over e z k) = close_paren b (reduce b 0 e z k)
have_sign b sign.BracketClose (Over e z k) = close_bracket b (reduce b 0 e z k)
have_sign b _ (Over e z k) = None

abbrev pub have_token : {A : Type 0} → ExpressionBuilder A → Token → Phrase A → Option (Reader A)
have_token b (Token.name x) r = None
have_token b (Token.num n) r = None
have_token b (Token.word w) r = None
have_token b (Token.op o) r = have_op b o r
have_token b (Token.sign s) r = have_sign b s r
have_token b Token.bad r = None

-- a sign behind a name
abbrev pub named_sign : {A : Type 0} → ExpressionBuilder A → Sign → List ℕ → Size → List (Prefix A) → Option (Reader A)
named_sign b sign.BracketOpen x z k = begin_index x z k
named_sign b s x z k = have_sign b s (have b (b.var x) z k)

-- the state behind a token; None where none can follow
abbrev pub feed : {A : Type 0} → ExpressionBuilder A → Reader A → Token → Option (Reader A)
feed b (Want z k) (Token.name x) = Some (Named x z k)
feed b (Want z k) (Token.num n) = Some (Have (have b (b.num n) z k))
feed b (Want z k) (Token.word w) = None
feed b (Want z k) (Token.op o) = want_op o z k
feed b (Want z k) (Token.sign s) = want_sign s z k
feed b (Want z k) Token.bad = None
feed b (Named x z k) (Token.name y) = None
feed b (Named x z k) (Token.num n) = None
feed b (Named x z k) (Token.word w) = None
feed b (Named x z k) (Token.op o) = have_op b o (have b (b.var x) z k)
feed b (Named x z k) (Token.sign s) = named_sign b s x z k
feed b (Named x z k) Token.bad = None
feed b (Have r) t = have_token b t r

abbrev pub after : {A B : Type 0} → Option A → (A → Option B) → Option B
after None f = None
after (Some x) f = f x

abbrev pub feed_all : {A : Type 0} → ExpressionBuilder A → Reader A → List Token → Option (Reader A)
feed_all b s [] = Some s
feed_all b s (t ∷ ts) = after (feed b s t) (λ s'. feed_all b s' ts)

-- an operand before which nothing was begun
abbrev pub sole : {A : Type 0} → Phrase A → Option A
sole (Over e z []) = Some e
sole (Over e z (f ∷ k)) = None

abbrev pub finish_operand : {A : Type 0} → ExpressionBuilder A → Phrase A → Option A
finish_operand b (Over e z k) = sole (reduce b 0 e z k)

-- the expression at whose end a state stands
abbrev pub finish : {A : Type 0} → ExpressionBuilder A → Reader A → Option A
finish b (Want z k) = None
finish b (Named x z k) = finish_operand b (have b (b.var x) z k)
finish b (Have r) = finish_operand b r

-- An expression may end here.
abbrev pub is_whole : {A : Type 0} → Reader A → Bool
is_whole (Want z k) = false
is_whole (Named x z k) = nat_eq z.brackets 0
is_whole (Have (Over e z k)) = nat_eq z.brackets 0

-- expressions as they are written
abbrev pub written : ExpressionBuilder Text
written = record { num = Text.num; var = Text.var; cell = Text.cell; neg = Text.neg; inverse = Text.inverse; bin = Text.bin; paren = Text.paren }

-- trees
abbrev pub plain : ExpressionBuilder Expression
plain = record {
  num = λ n. Expression.num (pos n);
  var = Expression.var;
  cell = Expression.cell;
  neg = Expression.neg;
  inverse = Expression.inverse;
  bin = Expression.bin;
  paren = λ e. e;
}
