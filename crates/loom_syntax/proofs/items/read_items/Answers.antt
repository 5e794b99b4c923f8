use Rattle.std.proofs.Common.{◌≡◌, arith, get_or, ap, sym, ◌∙◌}
use Rattle.loom_tree.specs.declared.token.Token as rust
use Rattle.loom_tree.specs.declared.token.TokenKind.TheVariants as k
use Rattle.loom_tree.specs.Token.{line_token_of}
use Rattle.loom_syntax.specs.FileReader as m
use Rattle.loom_syntax.specs.View.{plain}
use Rattle.loom_syntax.specs.FileView.{items_if, reader_if, reader_of}
use Rattle.loom_syntax.proofs.Refusal.{took_one, refused_at, refused_last, parsed_last}
use Rattle.loom_syntax.proofs.items.read_items.Goals as goal

-- stands for an element behind the end
abbrev none : rust.Token
none = record { kind = k.Name; start = 0; end = 0; line = 0 }

pub returns-in-None : goal.returns-in-None
returns-in-None c =
    let stepped : reader_if c.in_ok-next.field-0 ≡ m.feed plain (reader_of c.read.reader) (line_token_of c.args.bytes.now (get_or c.args.tokens.now c.read.i none)) =
    c.in_ok-next.ensures ∙ ap (m.feed plain (reader_of c.read.reader)) c.new-in-read.ensures in
    refused_at c.args.bytes.now c.args.tokens.now c.read.i none (reader_of c.read.reader) (omega arith) c.read.invariant (ap reader_if (sym c.in-None.is) ∙ stepped)

pub read-preserved : goal.read-preserved
read-preserved c =
    let stepped : reader_if c.in_ok-next.field-0 ≡ m.feed plain (reader_of c.read.reader) (line_token_of c.args.bytes.now (get_or c.args.tokens.now c.read.i none)) =
    c.in_ok-next.ensures ∙ ap (m.feed plain (reader_of c.read.reader)) c.new-in-read.ensures in
    took_one c.args.bytes.now c.args.tokens.now c.read.i none (reader_of c.read.reader) _ (omega arith) c.read.invariant (ap reader_if (sym c.in-Some.is) ∙ stepped)

pub returns-in-Some-finish : goal.returns-in-Some-finish
returns-in-Some-finish c =
    parsed_last c.args.bytes.now c.args.tokens.now c.read.i (reader_of c.read.reader) _ (omega arith) (omega arith) c.read.invariant (ap items_if (sym c.in-Some-finish.is) ∙ c.finish.ensures)

pub returns-in-None-finish : goal.returns-in-None-finish
returns-in-None-finish c =
    refused_last c.args.bytes.now c.args.tokens.now c.read.i (reader_of c.read.reader) (omega arith) (omega arith) c.read.invariant (ap items_if (sym c.in-None-finish.is) ∙ c.finish.ensures)
