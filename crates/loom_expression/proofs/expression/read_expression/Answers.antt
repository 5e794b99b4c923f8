use Rattle.std.proofs.Common.{◌≡◌, arith, get_or, ap, sym, ◌∙◌}
use Rattle.loom_tree.specs.declared.token.Token as rust
use Rattle.loom_tree.specs.declared.token.TokenKind.TheVariants as k
use Rattle.loom_expression.specs.Reader as m
use Rattle.loom_expression.specs.ExpressionError.{token_of}
use Rattle.loom_expression.specs.ReaderView.{expression_if, reader_if, reader_of}
use Rattle.loom_expression.proofs.Refusal.{took_one, refused_at, refused_last, finished_last}
use Rattle.loom_expression.proofs.expression.read_expression.Goals as goal

-- stands for an element behind the end
abbrev none : rust.Token
none = record { kind = k.Name; start = 0; end = 0; line = 0 }

pub returns-in-None : goal.returns-in-None
returns-in-None c =
    let fed : reader_if c.in_ok-next.field-0 ≡ m.feed m.plain (reader_of c.read.reader) (token_of c.args.bytes.now (get_or c.args.tokens.now c.read.i none)) = c.in_ok-next.ensures in
    refused_at c.args.bytes.now c.args.tokens.now c.read.i none (reader_of c.read.reader) (omega arith) c.read.invariant (ap reader_if (sym c.in-None.is) ∙ fed)

pub read-preserved : goal.read-preserved
read-preserved c =
    let fed : reader_if c.in_ok-next.field-0 ≡ m.feed m.plain (reader_of c.read.reader) (token_of c.args.bytes.now (get_or c.args.tokens.now c.read.i none)) = c.in_ok-next.ensures in
    took_one c.args.bytes.now c.args.tokens.now c.read.i none (reader_of c.read.reader) _ (omega arith) c.read.invariant (ap reader_if (sym c.in-Some.is) ∙ fed)

pub returns-in-Some-2 : goal.returns-in-Some-2
returns-in-Some-2 c =
    finished_last c.args.bytes.now c.args.tokens.now c.read.i (reader_of c.read.reader) _ (omega arith) (omega arith) c.read.invariant (ap expression_if (sym c.in-Some-2.is) ∙ c.in_ok-e.ensures)

pub returns-in-None-2 : goal.returns-in-None-2
returns-in-None-2 c =
    refused_last c.args.bytes.now c.args.tokens.now c.read.i (reader_of c.read.reader) (omega arith) (omega arith) c.read.invariant (ap expression_if (sym c.in-None-2.is) ∙ c.in_ok-e.ensures)
