-- What tokens in their text stand for.
use Rattle.std.specs.Prelude.{ℕ, Option, Some, None}
use Rattle.loom_tree.specs.Token as t
use Rattle.loom_tree.specs.Token.{line_token_of}
use Rattle.loom_syntax.specs.declared.token.Number.{Number}
use Rattle.loom_syntax.specs.declared.token.TokenSpot.{TokenSpot}

abbrev pub spot_of : TokenSpot → t.LineToken
spot_of s = line_token_of s.bytes.now s.token

abbrev pub token_of : TokenSpot → t.Token
token_of s = (spot_of s).token

abbrev pub number_if : Option Number → Option ℕ
number_if None = None
number_if (Some n) = Some n.value
