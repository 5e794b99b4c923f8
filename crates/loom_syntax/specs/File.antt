-- Files as they are written: items, statements and blocks.
use Rattle.std.specs.Prelude.{ℕ, suc, ◌+◌, ◌≤◌, ◌<◌, ◌≡◌, ℤ, pos, neg_ℤ, length, take, List, [], ◌∷◌, ◌++◌, map, flat_map, Option, Some, None}
use Rattle.std.specs.List.{AllByRecursion}
use Rattle.loom_tree.specs.declared.token.Keyword.{Keyword}
use Rattle.loom_tree.specs.declared.token.Keyword.TheVariants as w
use Rattle.loom_tree.specs.declared.token.Sign.TheVariants as g
use Rattle.loom_tree.specs.declared.expression.Op.TheVariants as o
use Rattle.loom_tree.specs.Token.{Token, LineToken}
use Rattle.loom_tree.specs.Tree as tree
use Rattle.loom_tree.specs.Tree.{Expression, Right, Simple, Body}
use Rattle.loom_expression.specs.Text as expression
use Rattle.loom_expression.specs.Text.{Text, tokens, IsWritten}
use Rattle.loom_syntax.specs.declared.block.TheConstants.{BLOCK_LIMIT}
use Rattle.loom_syntax.specs.declared.item.TheConstants.{SEMA_LIMIT}

-- A token of a written file. Where a statement or an item begins, the mark tells its line.
pub data Mark : Type 0 where
  on : Token → Mark
  at : ℕ → Token → Mark

-- The token stands there, on the line that the mark tells.
abbrev pub FitsMark : Mark → LineToken → Type 0
FitsMark (on t) p = p.token ≡ t
FitsMark (at l t) p = (p.token ≡ t) × (p.line ≡ l)

abbrev pub FitMarks : List Mark → List LineToken → Type 0
FitMarks [] [] = Unit {0}
FitMarks [] (p ∷ ps) = ⊥
FitMarks (m ∷ ms) [] = ⊥
FitMarks (m ∷ ms) (p ∷ ps) = FitsMark m p × FitMarks ms ps

-- statements, each with its line: an `if` with or without its `else`
pub data Block : Type 0 where
  end : Block
  simple : ℕ → Simple Text → Block → Block
  if_ : ℕ → Text → Block → Block → Block
  if_else : ℕ → Text → Block → Block → Block → Block
  while_ : ℕ → Text → Block → Block → Block

-- the first value of a word
pub data InitialValue : Type 0 where
  none : InitialValue
  plus : ℕ → InitialValue
  minus : ℕ → InitialValue

-- an item without a block
pub data Declaration : Type 0 where
  word : List ℕ → InitialValue → Declaration
  array : List ℕ → ℕ → Declaration
  mutex : List ℕ → Declaration
  sema : List ℕ → Option ℕ → Declaration

-- items, each with its line
pub data ItemForm : Type 0 where
  declared : ℕ → Declaration → ItemForm
  func : ℕ → List ℕ → List (List ℕ) → Block → ItemForm

-- what the tokens of a file are

abbrev pub behind_commas : List (List Token) → List Token
behind_commas [] = []
behind_commas (part ∷ parts) = Token.sign g.Comma ∷ part ++ behind_commas parts

abbrev pub with_commas : List (List Token) → List Token
with_commas [] = []
with_commas (part ∷ parts) = part ++ behind_commas parts

abbrev pub in_parens : List Token → List Token
in_parens ts = Token.sign g.ParenOpen ∷ ts ++ Token.sign g.ParenClose ∷ []

abbrev pub argument_tokens : List Text → List Token
argument_tokens es = in_parens (with_commas (map tokens es))

abbrev pub right_tokens : Right Text → List Token
right_tokens (Right.value e) = tokens e
right_tokens (Right.call f es) = Token.name f ∷ argument_tokens es
right_tokens (Right.spawn f es) = Token.word w.Spawn ∷ Token.name f ∷ argument_tokens es

-- a statement without its `;`
abbrev pub simple_tokens : Simple Text → List Token
simple_tokens (Simple.let_ x r) = Token.word w.Let ∷ Token.name x ∷ Token.sign g.Assign ∷ right_tokens r
simple_tokens (Simple.set x r) = Token.name x ∷ Token.sign g.Assign ∷ right_tokens r
simple_tokens (Simple.set_cell x i e) = Token.name x ∷ Token.sign g.BracketOpen ∷ tokens i ++ Token.sign g.BracketClose ∷ Token.sign g.Assign ∷ tokens e
simple_tokens (Simple.call f es) = Token.name f ∷ argument_tokens es
simple_tokens (Simple.return None) = Token.word w.Return ∷ []
simple_tokens (Simple.return (Some e)) = Token.word w.Return ∷ tokens e
simple_tokens (Simple.lock x) = Token.word w.Lock ∷ Token.name x ∷ []
simple_tokens (Simple.unlock x) = Token.word w.Unlock ∷ Token.name x ∷ []
simple_tokens (Simple.down x) = Token.word w.Down ∷ Token.name x ∷ []
simple_tokens (Simple.up x) = Token.word w.Up ∷ Token.name x ∷ []
simple_tokens (Simple.join e) = Token.word w.Join ∷ tokens e
simple_tokens (Simple.print e) = Token.word w.Print ∷ tokens e
simple_tokens Simple.skip = Token.word w.Skip ∷ []

-- `if` or `while`, and its condition
abbrev pub test_tokens : Keyword → Text → List Token
test_tokens k e = Token.word k ∷ in_parens (tokens e)

abbrev pub given_tokens : InitialValue → List Token
given_tokens none = []
given_tokens (plus n) = Token.sign g.Assign ∷ Token.num n ∷ []
given_tokens (minus n) = Token.sign g.Assign ∷ Token.op o.Sub ∷ Token.num n ∷ []

abbrev pub count_tokens : Option ℕ → List Token
count_tokens None = []
count_tokens (Some n) = Token.sign g.Assign ∷ Token.num n ∷ []

-- a declaration without its `;`
abbrev pub declaration_tokens : Declaration → List Token
declaration_tokens (Declaration.word x first) = Token.word w.Shared ∷ Token.name x ∷ given_tokens first
declaration_tokens (Declaration.array x n) = Token.word w.Shared ∷ Token.name x ∷ Token.sign g.BracketOpen ∷ Token.num n ∷ Token.sign g.BracketClose ∷ []
declaration_tokens (Declaration.mutex x) = Token.word w.Mutex ∷ Token.name x ∷ []
declaration_tokens (Declaration.sema x first) = Token.word w.Sema ∷ Token.name x ∷ count_tokens first

-- a function without its block
abbrev pub head_tokens : List ℕ → List (List ℕ) → List Token
head_tokens f params = Token.word w.Fn ∷ Token.name f ∷ in_parens (with_commas (map (λ x. Token.name x ∷ []) params))

-- The first token has its line.
abbrev pub begun : ℕ → List Token → List Mark
begun l [] = []
begun l (t ∷ ts) = at l t ∷ map on ts

abbrev pub with_semicolon : List Token → List Token
with_semicolon ts = ts ++ Token.sign g.Semicolon ∷ []

abbrev pub in_braces : List Mark → List Mark
in_braces ms = on (Token.sign g.BraceOpen) ∷ ms ++ on (Token.sign g.BraceClose) ∷ []

abbrev pub block_marks : Block → List Mark
block_marks end = []
block_marks (simple l s rest) = begun l (with_semicolon (simple_tokens s)) ++ block_marks rest
block_marks (if_ l e a rest) = (begun l (test_tokens w.If e) ++ in_braces (block_marks a)) ++ block_marks rest
block_marks (if_else l e a b rest) = (begun l (test_tokens w.If e) ++ in_braces (block_marks a) ++ on (Token.word w.Else) ∷ in_braces (block_marks b)) ++ block_marks rest
block_marks (while_ l e a rest) = (begun l (test_tokens w.While e) ++ in_braces (block_marks a)) ++ block_marks rest

abbrev pub item_marks : ItemForm → List Mark
item_marks (declared l d) = begun l (with_semicolon (declaration_tokens d))
item_marks (func l f params body) = begun l (head_tokens f params) ++ in_braces (block_marks body)

-- The rules that are part of the grammar: each expression is written by its rules, blocks nest no deeper than a limit, the
-- body of a function being the first, and a semaphore's first value has a limit.

abbrev pub block_limit : ℕ
block_limit = BLOCK_LIMIT

-- the greatest value of a semaphore
abbrev pub sema_limit : ℕ
sema_limit = SEMA_LIMIT

abbrev pub IsRight : Right Text → Type 0
IsRight (Right.value e) = IsWritten e
IsRight (Right.call f es) = AllByRecursion IsWritten es
IsRight (Right.spawn f es) = AllByRecursion IsWritten es

abbrev pub IsSimple : Simple Text → Type 0
IsSimple (Simple.let_ x r) = IsRight r
IsSimple (Simple.set x r) = IsRight r
IsSimple (Simple.set_cell x i e) = IsWritten i × IsWritten e
IsSimple (Simple.call f es) = AllByRecursion IsWritten es
IsSimple (Simple.return None) = Unit {0}
IsSimple (Simple.return (Some e)) = IsWritten e
IsSimple (Simple.lock x) = Unit {0}
IsSimple (Simple.unlock x) = Unit {0}
IsSimple (Simple.down x) = Unit {0}
IsSimple (Simple.up x) = Unit {0}
IsSimple (Simple.join e) = IsWritten e
IsSimple (Simple.print e) = IsWritten e
IsSimple Simple.skip = Unit {0}

-- It may stand where so many blocks are open.
abbrev pub IsBlock : ℕ → Block → Type 0
IsBlock n end = Unit {0}
IsBlock n (simple l s rest) = IsSimple s × IsBlock n rest
IsBlock n (if_ l e a rest) = (IsWritten e × (n < block_limit) × IsBlock (suc n) a) × IsBlock n rest
IsBlock n (if_else l e a b rest) = (IsWritten e × (n < block_limit) × IsBlock (suc n) a × IsBlock (suc n) b) × IsBlock n rest
IsBlock n (while_ l e a rest) = (IsWritten e × (n < block_limit) × IsBlock (suc n) a) × IsBlock n rest

abbrev pub IsDeclaration : Declaration → Type 0
IsDeclaration (Declaration.word x first) = Unit {0}
IsDeclaration (Declaration.array x n) = Unit {0}
IsDeclaration (Declaration.mutex x) = Unit {0}
IsDeclaration (Declaration.sema x None) = Unit {0}
IsDeclaration (Declaration.sema x (Some n)) = n ≤ sema_limit

abbrev pub IsItem : ItemForm → Type 0
IsItem (declared l d) = IsDeclaration d
IsItem (func l f params body) = IsBlock 1 body

-- the trees that written files stand for

abbrev pub right_tree : Right Text → Right Expression
right_tree (Right.value e) = Right.value (expression.tree e)
right_tree (Right.call f es) = Right.call f (map expression.tree es)
right_tree (Right.spawn f es) = Right.spawn f (map expression.tree es)

abbrev pub simple_tree : Simple Text → Simple Expression
simple_tree (Simple.let_ x r) = Simple.let_ x (right_tree r)
simple_tree (Simple.set x r) = Simple.set x (right_tree r)
simple_tree (Simple.set_cell x i e) = Simple.set_cell x (expression.tree i) (expression.tree e)
simple_tree (Simple.call f es) = Simple.call f (map expression.tree es)
simple_tree (Simple.return None) = Simple.return None
simple_tree (Simple.return (Some e)) = Simple.return (Some (expression.tree e))
simple_tree (Simple.lock x) = Simple.lock x
simple_tree (Simple.unlock x) = Simple.unlock x
simple_tree (Simple.down x) = Simple.down x
simple_tree (Simple.up x) = Simple.up x
simple_tree (Simple.join e) = Simple.join (expression.tree e)
simple_tree (Simple.print e) = Simple.print (expression.tree e)
simple_tree Simple.skip = Simple.skip

-- An `if` without `else` has no statement there.
abbrev pub block_tree : Block → Body
block_tree end = Body.end
block_tree (simple l s rest) = Body.simple l (simple_tree s) (block_tree rest)
block_tree (if_ l e a rest) = Body.if_ l (expression.tree e) (block_tree a) Body.end (block_tree rest)
block_tree (if_else l e a b rest) = Body.if_ l (expression.tree e) (block_tree a) (block_tree b) (block_tree rest)
block_tree (while_ l e a rest) = Body.while_ l (expression.tree e) (block_tree a) (block_tree rest)

-- A value that isn't given is 0.

abbrev pub given_value : InitialValue → ℤ
given_value none = pos 0
given_value (plus n) = pos n
given_value (minus n) = neg_ℤ (pos n)

abbrev pub value_or_zero : Option ℕ → ℕ
value_or_zero None = 0
value_or_zero (Some n) = n

abbrev pub declaration_tree : ℕ → Declaration → tree.FileItem
declaration_tree l (Declaration.word x first) = tree.FileItem.word l (record { name = x; cells = None; first = given_value first })
declaration_tree l (Declaration.array x n) = tree.FileItem.word l (record { name = x; cells = Some n; first = pos 0 })
declaration_tree l (Declaration.mutex x) = tree.FileItem.mutex l x
declaration_tree l (Declaration.sema x first) = tree.FileItem.sema l (record { name = x; first = value_or_zero first })

abbrev pub item_tree : ItemForm → tree.FileItem
item_tree (declared l d) = declaration_tree l d
item_tree (func l f params body) = tree.FileItem.func (record { name = f; line = l; params = params; body = block_tree body })

-- The tokens are the file of these items.
pub record IsFile (ps : List LineToken) (items : List tree.FileItem) : Type 0 where
  pub written : List ItemForm
  pub rules : AllByRecursion IsItem written
  pub spelled : FitMarks (flat_map item_marks written) ps
  pub stands : map item_tree written ≡ items

-- Some file begins with these tokens.
pub record IsViable (ps : List LineToken) : Type 0 where
  pub more : List LineToken
  pub items : List tree.FileItem
  pub whole : IsFile (ps ++ more) items

-- Reading is refused at the first token behind which no file can follow. The end stands behind the last token.
pub record IsRefusedAt (ps : List LineToken) (n : ℕ) : Type 0 where
  pub within : n ≤ length ps
  pub before : IsViable (take n ps)
  pub beyond : n < length ps → IsViable (take (n + 1) ps) → ⊥
  pub at_end : n ≡ length ps → (items : List tree.FileItem) → IsFile ps items → ⊥
