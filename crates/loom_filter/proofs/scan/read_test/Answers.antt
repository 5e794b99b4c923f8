use Rattle.std.proofs.Common.{map}
use Rattle.loom_tree.specs.Token.{line_token_of}
use Rattle.loom_tree.specs.Tree.{expression_of}
use Rattle.loom_lexer.specs.Tokens.{AreTokens}
use Rattle.loom_filter.proofs.Closing.{test_read, no_test_read}
use Rattle.loom_filter.proofs.scan.read_test.Goals as goal

pub returns-in-Ok : goal.returns-in-Ok
returns-in-Ok c =
    let bytes = c.args.bytes.now in
    let ts = c.deref.result.now in
    let told : AreTokens bytes (map (line_token_of bytes) ts) = rw (c.deref.ensures.value, c.tokens.view_is) c.in_ok-tokens.ensures.tokens in
    test_read bytes ts (expression_of c.in-Ok.e) told c.requires.one_line c.requires.no_comment c.in-Ok.ensures

pub returns-in-Err-Syntax : goal.returns-in-Err-Syntax
returns-in-Err-Syntax c =
    let bytes = c.args.bytes.now in
    let ts = c.deref.result.now in
    let told : AreTokens bytes (map (line_token_of bytes) ts) = rw (c.deref.ensures.value, c.tokens.view_is) c.in_ok-tokens.ensures.tokens in
    let refused = rw c.in-Err-Syntax.field-0-is at c.in-Err-Syntax.ensures in
    λ e. no_test_read bytes ts c.in-Err-Syntax.field-0-0 e told refused
