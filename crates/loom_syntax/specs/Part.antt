-- A reader of one token after another, for statements up to their blocks; over trees or over expressions as they are
-- written.
use Rattle.std.specs.Prelude.{ℕ, if◌then◌else◌, List, [], ◌∷◌, ◌++◌, Option, Some, None, Bool, true, false}
use Rattle.loom_tree.specs.declared.token.Keyword.{Keyword}
use Rattle.loom_tree.specs.declared.token.Keyword.TheVariants as w
use Rattle.loom_tree.specs.declared.token.Sign.TheVariants as g
use Rattle.loom_tree.specs.Token.{Token}
use Rattle.loom_tree.specs.Tree.{Right, Simple}
use Rattle.loom_expression.specs.Reader as expression
use Rattle.loom_expression.specs.Reader.{after, is_whole}
use Rattle.loom_syntax.specs.Tests.{is_keyword, is_sign, name_of}

-- what a value is written to
pub data Assignee : Type 0 where
  Let : List ℕ → Assignee
  Set : List ℕ → Assignee

-- what arguments are for
pub data Goal : Type 0 where
  Call : List ℕ → Goal
  RightCall : Assignee → List ℕ → Goal
  RightSpawn : Assignee → List ℕ → Goal

pub data Sync : Type 0 where
  Lock : Sync
  Unlock : Sync
  Down : Sync
  Up : Sync

-- the statements with a condition
pub data Test : Type 0 where
  If : Test
  While : Test

-- what an expression is for
pub data Purpose (A : Type 0) : Type 0 where
  Value : Assignee → Purpose A
  -- behind the arguments before it
  Argument : Goal → List A → Purpose A
  Index : List ℕ → Purpose A
  CellValue : List ℕ → A → Purpose A
  Condition : Test → Purpose A
  Return : Purpose A
  Join : Purpose A
  Print : Purpose A

-- What was read of a statement, named by what must follow.
pub data Part (A : Type 0) : Type 0 where
  LetName : Part A
  LetAssign : List ℕ → Part A
  -- `=`, `[` or `(` behind a name
  Started : List ℕ → Part A
  RightOf : Assignee → Part A
  -- a name was read, of a function if `(` follows, else of an expression
  RightNamed : Assignee → List ℕ → Part A
  SpawnName : Assignee → Part A
  SpawnOpen : Assignee → List ℕ → Part A
  SyncName : Sync → Part A
  TestOpen : Test → Part A
  -- the first argument, or `)`
  Arguments : Goal → Part A
  -- an expression or `;`
  Returned : Part A
  SetAssign : List ℕ → A → Part A
  -- the rest of an expression
  Reading : Purpose A → expression.Reader A → Part A
  -- the `;` of a statement
  Ending : Simple A → Part A
  TestBrace : Test → A → Part A

-- The statement goes on, or it is whole, or its block begins.
pub data PartNext (A : Type 0) : Type 0 where
  Goes : Part A → PartNext A
  Ends : Simple A → PartNext A
  Opens : Test → A → PartNext A

-- statements from their parts

abbrev pub assigned : {A : Type 0} → Assignee → Right A → Simple A
assigned (Let x) r = Simple.let_ x r
assigned (Set x) r = Simple.set x r

abbrev pub call_of : {A : Type 0} → Goal → List A → Simple A
call_of (Call f) es = Simple.call f es
call_of (RightCall target f) es = assigned target (Right.call f es)
call_of (RightSpawn target f) es = assigned target (Right.spawn f es)

abbrev pub synced : {A : Type 0} → Sync → List ℕ → Simple A
synced Lock x = Simple.lock x
synced Unlock x = Simple.unlock x
synced Down x = Simple.down x
synced Up x = Simple.up x

-- The token ends an expression of this purpose, where it is whole.
abbrev pub closes : {A : Type 0} → Purpose A → Token → Bool
closes (Value target) t = is_sign g.Semicolon t
closes (Argument goal before) t = if is_sign g.Comma t then true else is_sign g.ParenClose t
closes (Index x) t = is_sign g.BracketClose t
closes (CellValue x i) t = is_sign g.Semicolon t
closes (Condition test) t = is_sign g.ParenClose t
closes Return t = is_sign g.Semicolon t
closes Join t = is_sign g.Semicolon t
closes Print t = is_sign g.Semicolon t

abbrev pub behind_argument : {A : Type 0} → Goal → List A → Token → PartNext A
behind_argument goal es t = if is_sign g.Comma t then Goes (Reading (Argument goal es) expression.fresh) else Goes (Ending (call_of goal es))

-- what is behind an expression and the token that ends it
abbrev pub behind_expression : {A : Type 0} → Purpose A → A → Token → PartNext A
behind_expression (Value target) e t = Ends (assigned target (Right.value e))
behind_expression (Argument goal before) e t = behind_argument goal (before ++ e ∷ []) t
behind_expression (Index x) e t = Goes (SetAssign x e)
behind_expression (CellValue x i) e t = Ends (Simple.set_cell x i e)
behind_expression (Condition test) e t = Goes (TestBrace test e)
behind_expression Return e t = Ends (Simple.return (Some e))
behind_expression Join e t = Ends (Simple.join e)
behind_expression Print e t = Ends (Simple.print e)

abbrev pub ends_here : {A : Type 0} → Purpose A → expression.Reader A → Token → Bool
ends_here p s t = if is_whole s then closes p t else false

-- a token in an expression, or behind it
abbrev pub read_step : {A : Type 0} → expression.ExpressionBuilder A → Purpose A → expression.Reader A → Token → Option (PartNext A)
read_step b p s t =
    if ends_here p s t then after (expression.finish b s) (λ e. Some (behind_expression p e t)) else
    after (expression.feed b s t) (λ s'. Some (Goes (Reading p s')))

-- the first token of a statement, where a block may open and where none may

abbrev pub begin_test : {A : Type 0} → Bool → Test → Option (Part A)
begin_test room test = if room then Some (TestOpen test) else None

abbrev pub begin_keyword : {A : Type 0} → Bool → Keyword → Option (Part A)
begin_keyword room w.Shared = None
begin_keyword room w.Mutex = None
begin_keyword room w.Sema = None
begin_keyword room w.Fn = None
begin_keyword room w.Let = Some LetName
begin_keyword room w.If = begin_test room If
begin_keyword room w.Else = None
begin_keyword room w.While = begin_test room While
begin_keyword room w.Return = Some Returned
begin_keyword room w.Lock = Some (SyncName Lock)
begin_keyword room w.Unlock = Some (SyncName Unlock)
begin_keyword room w.Down = Some (SyncName Down)
begin_keyword room w.Up = Some (SyncName Up)
begin_keyword room w.Spawn = None
begin_keyword room w.Join = Some (Reading Join expression.fresh)
begin_keyword room w.Print = Some (Reading Print expression.fresh)
begin_keyword room w.Skip = Some (Ending Simple.skip)

abbrev pub begin_part : {A : Type 0} → Bool → Token → Option (Part A)
begin_part room (Token.name x) = Some (Started x)
begin_part room (Token.num n) = None
begin_part room (Token.word k) = begin_keyword room k
begin_part room (Token.op o) = None
begin_part room (Token.sign s) = None
begin_part room Token.bad = None

-- a token behind a part

abbrev pub behind_name : {A : Type 0} → List ℕ → Token → Option (PartNext A)
behind_name x t =
    if is_sign g.Assign t then Some (Goes (RightOf (Set x))) else
    if is_sign g.BracketOpen t then Some (Goes (Reading (Index x) expression.fresh)) else
    if is_sign g.ParenOpen t then Some (Goes (Arguments (Call x))) else None

abbrev pub right_value : {A : Type 0} → expression.ExpressionBuilder A → Assignee → Token → Option (List ℕ) → Option (PartNext A)
right_value b target t None = read_step b (Value target) expression.fresh t
right_value b target t (Some f) = Some (Goes (RightNamed target f))

abbrev pub right_of : {A : Type 0} → expression.ExpressionBuilder A → Assignee → Token → Option (PartNext A)
right_of b target t = if is_keyword w.Spawn t then Some (Goes (SpawnName target)) else right_value b target t (name_of t)

abbrev pub right_named : {A : Type 0} → expression.ExpressionBuilder A → Assignee → List ℕ → Token → Option (PartNext A)
right_named b target f t =
    if is_sign g.ParenOpen t then Some (Goes (Arguments (RightCall target f))) else
    after (expression.feed b expression.fresh (Token.name f)) (λ s. read_step b (Value target) s t)

abbrev pub arguments_step : {A : Type 0} → expression.ExpressionBuilder A → Goal → Token → Option (PartNext A)
arguments_step b goal t =
    if is_sign g.ParenClose t then Some (Goes (Ending (call_of goal []))) else
    read_step b (Argument goal []) expression.fresh t

abbrev pub return_step : {A : Type 0} → expression.ExpressionBuilder A → Token → Option (PartNext A)
return_step b t = if is_sign g.Semicolon t then Some (Ends (Simple.return None)) else read_step b Return expression.fresh t

-- what is behind a token; None where it can't follow
abbrev pub part_step : {A : Type 0} → expression.ExpressionBuilder A → Part A → Token → Option (PartNext A)
part_step b LetName t = after (name_of t) (λ x. Some (Goes (LetAssign x)))
part_step b (LetAssign x) t = if is_sign g.Assign t then Some (Goes (RightOf (Let x))) else None
part_step b (Started x) t = behind_name x t
part_step b (RightOf target) t = right_of b target t
part_step b (RightNamed target f) t = right_named b target f t
part_step b (SpawnName target) t = after (name_of t) (λ f. Some (Goes (SpawnOpen target f)))
part_step b (SpawnOpen target f) t = if is_sign g.ParenOpen t then Some (Goes (Arguments (RightSpawn target f))) else None
part_step b (SyncName sync) t = after (name_of t) (λ x. Some (Goes (Ending (synced sync x))))
part_step b (TestOpen test) t = if is_sign g.ParenOpen t then Some (Goes (Reading (Condition test) expression.fresh)) else None
part_step b (Arguments goal) t = arguments_step b goal t
part_step b Returned t = return_step b t
part_step b (SetAssign x i) t = if is_sign g.Assign t then Some (Goes (Reading (CellValue x i) expression.fresh)) else None
part_step b (Reading p s) t = read_step b p s t
part_step b (Ending s) t = if is_sign g.Semicolon t then Some (Ends s) else None
part_step b (TestBrace test e) t = if is_sign g.BraceOpen t then Some (Opens test e) else None
