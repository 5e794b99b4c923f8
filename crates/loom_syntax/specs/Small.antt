-- Tokens that a text may have.
use Rattle.std.specs.Coded.{Unit-prop, le_prop}
use Rattle.loom_tree.specs.declared.token.TokenKind.{TokenKind}
use Rattle.loom_tree.specs.declared.token.TokenKind.TheVariants as k
use Rattle.loom_tree.specs.Token.{IsSmall}

-- There is one way in which a number is small.
pub IsSmall-prop : (kind : TokenKind) → IsProp (IsSmall kind)
IsSmall-prop k.Name = Unit-prop
IsSmall-prop (k.Number n) = le_prop
IsSmall-prop (k.Keyword w) = Unit-prop
IsSmall-prop (k.Op o) = Unit-prop
IsSmall-prop (k.Sign s) = Unit-prop
IsSmall-prop k.Bad = Unit-prop
