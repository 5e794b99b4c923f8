use Rattle.std.proofs.Common.{◌≡◌, map}
use Rattle.loom_tree.specs.Token.{line_token_of}
use Rattle.loom_tree.specs.Tree.{items_of}
use Rattle.loom_lexer.specs.Tokens.{AreTokens}
use Rattle.loom_lang.specs.Program.{IsTextOf}
use Rattle.loom_lang.specs.Refusal.{IsFaultless}
use Rattle.loom_lang.proofs.Faultless.{faultless_lawful}
use Rattle.loom_lang.proofs.parse.read.Goals as goal

pub returns-in-None : goal.returns-in-None
returns-in-None c =
    let same : c.in_ok-tokens.tokens ≡ c.deref.result.now = cc in
    let lexed : AreTokens c.args.bytes.now (map (line_token_of c.args.bytes.now) c.deref.result.now) = rw (← same) c.in_ok-tokens.ensures.tokens in
    let theirs : c.in-Ok.items ≡ c.deref-in-Ok.result.now = cc in
    let none : IsFaultless (items_of c.in-Ok.items) c.last_line-last_line.result = rw theirs (rw c.in-None.is at c.in_ok-first_fault-in-Ok.ensures) in
    let text : IsTextOf c.args.bytes.now (items_of c.in-Ok.items) = record { tokens = map (line_token_of c.args.bytes.now) c.deref.result.now; lexed = lexed; file = c.in-Ok.ensures } in
    (text, faultless_lawful c.args.bytes.now (items_of c.in-Ok.items) c.last_line-last_line.result text none)
