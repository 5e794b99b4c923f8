use Rattle.std.proofs.Common.{List, [], ◌∷◌, map, refl}
use Rattle.loom_tree.specs.declared.token.Keyword.TheVariants as w
use Rattle.loom_tree.specs.declared.token.Sign.TheVariants as s
use Rattle.loom_tree.specs.declared.token.TokenKind.{TokenKind}
use Rattle.loom_tree.specs.declared.token.TokenKind.TheVariants as k
use Rattle.loom_tree.specs.declared.token.Token.{Token}
use Rattle.loom_syntax.proofs.Within.{all_within}
use Rattle.loom_language_tests.proofs.syntax.reads_blocks.Goals as goal

abbrev kinds : List TokenKind
kinds = (k.Keyword w.Fn) ∷ k.Name ∷ (k.Sign s.ParenOpen) ∷ (k.Sign s.ParenClose) ∷ (k.Sign s.BraceOpen) ∷ (k.Keyword w.If) ∷ (k.Sign s.ParenOpen) ∷ k.Name ∷ (k.Sign s.ParenClose) ∷ (k.Sign s.BraceOpen) ∷ (k.Sign s.BraceClose) ∷ (k.Keyword w.Else) ∷ (k.Sign s.BraceOpen) ∷ (k.Keyword w.Skip) ∷ (k.Sign s.Semicolon) ∷ (k.Sign s.BraceClose) ∷ (k.Sign s.BraceClose) ∷ []

abbrev token : TokenKind → Token
token kind = record { kind = kind; start = 0; end = 1; line = 1 }

pub read_items-requires-clause-within : goal.read_items-requires-clause-within
read_items-requires-clause-within g c = all_within (102 ∷ []) (map token kinds) refl
