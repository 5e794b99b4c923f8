-- A reader of one token after another, for declarations and for functions up to their block.
use Rattle.std.specs.Prelude.{ℕ, nat_le, if◌then◌else◌, List, [], ◌∷◌, ◌++◌, Option, Some, None}
use Rattle.loom_tree.specs.declared.token.Keyword.TheVariants as w
use Rattle.loom_tree.specs.declared.token.Sign.TheVariants as g
use Rattle.loom_tree.specs.Token.{Token}
use Rattle.loom_expression.specs.Reader.{after}
use Rattle.loom_syntax.specs.File.{none, plus, minus, Declaration, word, array, mutex, sema, sema_limit}
use Rattle.loom_syntax.specs.Tests.{is_keyword, is_sign, is_minus, name_of, number_of}

-- What was read of an item, named by what must follow.
pub data Head : Type 0 where
  SharedName : Head
  SharedNamed : List ℕ → Head
  SharedValue : List ℕ → Head
  SharedMinus : List ℕ → Head
  SharedCells : List ℕ → Head
  SharedClose : List ℕ → ℕ → Head
  MutexName : Head
  SemaName : Head
  SemaNamed : List ℕ → Head
  SemaValue : List ℕ → Head
  -- the `;` of a declaration
  Ending : Declaration → Head
  FnName : Head
  FnOpen : List ℕ → Head
  -- the first parameter, or `)`
  FnFirst : List ℕ → Head
  -- a parameter behind a comma
  FnParam : List ℕ → List (List ℕ) → Head
  -- a comma or `)` behind a parameter
  FnNext : List ℕ → List (List ℕ) → Head
  FnBrace : List ℕ → List (List ℕ) → Head

-- The item goes on, or it is a declaration, or a function whose block begins.
pub data HeadNext : Type 0 where
  Goes : Head → HeadNext
  Declares : Declaration → HeadNext
  Begins : List ℕ → List (List ℕ) → HeadNext

-- the first token of an item
abbrev pub begin_item : Token → Option Head
begin_item t =
    if is_keyword w.Shared t then Some SharedName else
    if is_keyword w.Mutex t then Some MutexName else
    if is_keyword w.Sema t then Some SemaName else
    if is_keyword w.Fn t then Some FnName else None

abbrev pub shared_named : List ℕ → Token → Option HeadNext
shared_named x t =
    if is_sign g.Semicolon t then Some (Declares (word x none)) else
    if is_sign g.Assign t then Some (Goes (SharedValue x)) else
    if is_sign g.BracketOpen t then Some (Goes (SharedCells x)) else None

abbrev pub shared_value : List ℕ → Token → Option HeadNext
shared_value x t =
    if is_minus t then Some (Goes (SharedMinus x)) else
    after (number_of t) (λ n. Some (Goes (Ending (word x (plus n)))))

abbrev pub sema_named : List ℕ → Token → Option HeadNext
sema_named x t =
    if is_sign g.Semicolon t then Some (Declares (sema x None)) else
    if is_sign g.Assign t then Some (Goes (SemaValue x)) else None

abbrev pub sema_value : List ℕ → ℕ → Option HeadNext
sema_value x n = if nat_le n sema_limit then Some (Goes (Ending (sema x (Some n)))) else None

abbrev pub function_first : List ℕ → Token → Option HeadNext
function_first f t =
    if is_sign g.ParenClose t then Some (Goes (FnBrace f [])) else
    after (name_of t) (λ x. Some (Goes (FnNext f (x ∷ []))))

abbrev pub function_next : List ℕ → List (List ℕ) → Token → Option HeadNext
function_next f params t =
    if is_sign g.Comma t then Some (Goes (FnParam f params)) else
    if is_sign g.ParenClose t then Some (Goes (FnBrace f params)) else None

-- what is behind a token; None where it can't follow
abbrev pub head_step : Head → Token → Option HeadNext
head_step SharedName t = after (name_of t) (λ x. Some (Goes (SharedNamed x)))
head_step (SharedNamed x) t = shared_named x t
head_step (SharedValue x) t = shared_value x t
head_step (SharedMinus x) t = after (number_of t) (λ n. Some (Goes (Ending (word x (minus n)))))
head_step (SharedCells x) t = after (number_of t) (λ n. Some (Goes (SharedClose x n)))
head_step (SharedClose x n) t = if is_sign g.BracketClose t then Some (Goes (Ending (array x n))) else None
head_step MutexName t = after (name_of t) (λ x. Some (Goes (Ending (mutex x))))
head_step SemaName t = after (name_of t) (λ x. Some (Goes (SemaNamed x)))
head_step (SemaNamed x) t = sema_named x t
head_step (SemaValue x) t = after (number_of t) (sema_value x)
head_step (Ending d) t = if is_sign g.Semicolon t then Some (Declares d) else None
head_step FnName t = after (name_of t) (λ f. Some (Goes (FnOpen f)))
head_step (FnOpen f) t = if is_sign g.ParenOpen t then Some (Goes (FnFirst f)) else None
head_step (FnFirst f) t = function_first f t
head_step (FnParam f params) t = after (name_of t) (λ x. Some (Goes (FnNext f (params ++ x ∷ []))))
head_step (FnNext f params) t = function_next f params t
head_step (FnBrace f params) t = if is_sign g.BraceOpen t then Some (Begins f params) else None
