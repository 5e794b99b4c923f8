-- A reader of files, one token after another; over trees or over files as they are written.
use Rattle.std.specs.Prelude.{ℕ, suc, nat_lt, if◌then◌else◌, List, [], ◌∷◌, ◌++◌, length, Option, Some, None, Bool}
use Rattle.loom_tree.specs.declared.token.Keyword.TheVariants as w
use Rattle.loom_tree.specs.declared.token.Sign.TheVariants as g
use Rattle.loom_tree.specs.Token.{LineToken}
use Rattle.loom_tree.specs.Tree.{Simple}
use Rattle.loom_expression.specs.Text.{Text}
use Rattle.loom_expression.specs.Reader as expression
use Rattle.loom_expression.specs.Reader.{after}
use Rattle.loom_syntax.specs.File as text
use Rattle.loom_syntax.specs.File.{Declaration, Block, block_limit}
use Rattle.loom_syntax.specs.Tests.{is_keyword, is_sign}
use Rattle.loom_syntax.specs.Head.{Head, HeadNext, begin_item, head_step}
use Rattle.loom_syntax.specs.Part.{Test, If, While, Part, PartNext, begin_part, part_step}

-- How the parts of a file are put together: expressions A, statements S, blocks B and items I.
pub record FileBuilder (A S B I : Type 0) : Type 0 where
  pub expressions : expression.ExpressionBuilder A
  pub simple : ℕ → Simple A → S
  pub if_ : ℕ → A → B → S
  pub if_else : ℕ → A → B → B → S
  pub while_ : ℕ → A → B → S
  pub end : B
  pub more : S → B → B
  pub declared : ℕ → Declaration → I
  pub func : ℕ → List ℕ → List (List ℕ) → B → I

-- what an open block is part of
pub data Around (A B : Type 0) : Type 0 where
  Then : A → Around A B
  Else : A → B → Around A B
  Loop : A → Around A B

-- an open block: the line of its statement, and the statements before that
pub record OpenBlock (A S B : Type 0) : Type 0 where
  pub line : ℕ
  pub around : Around A B
  pub before : List S

-- Where the reader is in a block: before a statement or `}`; behind the first block of an `if`; behind `else`; in a
-- statement of this line.
pub data BlockPosition (A B : Type 0) : Type 0 where
  Start : BlockPosition A B
  AfterIf : ℕ → A → B → BlockPosition A B
  ElseBrace : ℕ → A → B → BlockPosition A B
  Within : ℕ → Part A → BlockPosition A B

-- the open blocks, the innermost first, but for that of the function; the statements of the innermost; and where in it
pub data BlockReader (A S B : Type 0) : Type 0 where
  At : List (OpenBlock A S B) → List S → BlockPosition A B → BlockReader A S B

-- The function goes on, or its block is whole.
pub data BlockNext (A S B : Type 0) : Type 0 where
  Goes : BlockReader A S B → BlockNext A S B
  Ends : B → BlockNext A S B

pub record Header : Type 0 where
  pub line : ℕ
  pub name : List ℕ
  pub params : List (List ℕ)

-- Behind the items: an item may follow, or one was begun in this line, or the block of a function.
pub data FileReader (A S B I : Type 0) : Type 0 where
  Between : List I → FileReader A S B I
  Heading : List I → ℕ → Head → FileReader A S B I
  InFunction : List I → Header → BlockReader A S B → FileReader A S B I

abbrev pub fresh : {A S B I : Type 0} → FileReader A S B I
fresh = Between []

abbrev pub close : {A S B I : Type 0} → FileBuilder A S B I → List S → B
close b [] = b.end
close b (s ∷ ss) = b.more s (close b ss)

-- Behind these open blocks another may open.
abbrev pub room : {A S B : Type 0} → List (OpenBlock A S B) → Bool
room os = nat_lt (suc (length os)) block_limit

-- behind the `}` of a block
abbrev pub shut_in : {A S B I : Type 0} → FileBuilder A S B I → B → ℕ → Around A B → List S → List (OpenBlock A S B) → BlockReader A S B
shut_in b a l (Then e) ss os = At os ss (AfterIf l e a)
shut_in b a l (Else e first) ss os = At os (ss ++ b.if_else l e first a ∷ []) Start
shut_in b a l (Loop e) ss os = At os (ss ++ b.while_ l e a ∷ []) Start

abbrev pub shut : {A S B I : Type 0} → FileBuilder A S B I → B → List (OpenBlock A S B) → BlockNext A S B
shut b a [] = Ends a
shut b a (o ∷ os) = Goes (shut_in b a o.line o.around o.before os)

abbrev pub around : {A B : Type 0} → Test → A → Around A B
around If e = Then e
around While e = Loop e

-- behind a token of a statement
abbrev pub parted : {A S B I : Type 0} → FileBuilder A S B I → List (OpenBlock A S B) → List S → ℕ → PartNext A → BlockReader A S B
parted b os ss l (PartNext.Goes q) = At os ss (Within l q)
parted b os ss l (PartNext.Ends s) = At os (ss ++ b.simple l s ∷ []) Start
parted b os ss l (PartNext.Opens test e) = At (record { line = l; around = around test e; before = ss } ∷ os) [] Start

-- a token where a statement or `}` must follow
abbrev pub statement_step : {A S B I : Type 0} → FileBuilder A S B I → List (OpenBlock A S B) → List S → LineToken → Option (BlockNext A S B)
statement_step b os ss p =
    if is_sign g.BraceClose p.token then Some (shut b (close b ss) os) else
    after (begin_part (room os) p.token) (λ q. Some (Goes (At os ss (Within p.line q))))

-- a token in the block of a function
abbrev pub block_step : {A S B I : Type 0} → FileBuilder A S B I → BlockReader A S B → LineToken → Option (BlockNext A S B)
block_step b (At os ss Start) p = statement_step b os ss p
block_step b (At os ss (AfterIf l e a)) p =
    if is_keyword w.Else p.token then Some (Goes (At os ss (ElseBrace l e a))) else
    statement_step b os (ss ++ b.if_ l e a ∷ []) p
block_step b (At os ss (ElseBrace l e a)) p =
    if is_sign g.BraceOpen p.token then Some (Goes (At (record { line = l; around = Else e a; before = ss } ∷ os) [] Start)) else None
block_step b (At os ss (Within l q)) p = after (part_step b.expressions q p.token) (λ n. Some (Goes (parted b os ss l n)))

abbrev pub headed : {A S B I : Type 0} → FileBuilder A S B I → List I → ℕ → HeadNext → FileReader A S B I
headed b is l (HeadNext.Goes h) = Heading is l h
headed b is l (HeadNext.Declares d) = Between (is ++ b.declared l d ∷ [])
headed b is l (HeadNext.Begins f params) = InFunction is (record { line = l; name = f; params = params }) (At [] [] Start)

abbrev pub insided : {A S B I : Type 0} → FileBuilder A S B I → List I → Header → BlockNext A S B → FileReader A S B I
insided b is f (Goes i) = InFunction is f i
insided b is f (Ends a) = Between (is ++ b.func f.line f.name f.params a ∷ [])

-- what is behind a token; None where it can't follow
abbrev pub feed : {A S B I : Type 0} → FileBuilder A S B I → FileReader A S B I → LineToken → Option (FileReader A S B I)
feed b (Between is) p = after (begin_item p.token) (λ h. Some (Heading is p.line h))
feed b (Heading is l h) p = after (head_step h p.token) (λ n. Some (headed b is l n))
feed b (InFunction is f i) p = after (block_step b i p) (λ n. Some (insided b is f n))

abbrev pub feed_all : {A S B I : Type 0} → FileBuilder A S B I → FileReader A S B I → List LineToken → Option (FileReader A S B I)
feed_all b s [] = Some s
feed_all b s (p ∷ ps) = after (feed b s p) (λ s'. feed_all b s' ps)

-- the items at whose end a state stands
abbrev pub finish : {A S B I : Type 0} → FileReader A S B I → Option (List I)
finish (Between is) = Some is
finish (Heading is l h) = None
finish (InFunction is f i) = None

-- files as they are written

-- a statement of a block
pub data StatementForm : Type 0 where
  simple : ℕ → Simple Text → StatementForm
  if_ : ℕ → Text → Block → StatementForm
  if_else : ℕ → Text → Block → Block → StatementForm
  while_ : ℕ → Text → Block → StatementForm

abbrev pub chain : StatementForm → Block → Block
chain (simple l s) rest = Block.simple l s rest
chain (if_ l e a) rest = Block.if_ l e a rest
chain (if_else l e a b) rest = Block.if_else l e a b rest
chain (while_ l e a) rest = Block.while_ l e a rest

abbrev pub written : FileBuilder Text StatementForm Block text.ItemForm
written = record {
  expressions = expression.written;
  simple = simple;
  if_ = if_;
  if_else = if_else;
  while_ = while_;
  end = Block.end;
  more = chain;
  declared = text.ItemForm.declared;
  func = text.ItemForm.func;
}
