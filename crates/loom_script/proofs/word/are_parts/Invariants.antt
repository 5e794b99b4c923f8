use Rattle.std.proofs.Common.{◌≡◌, drop}
use Rattle.std.specs.List.{list_all}
use Rattle.loom_lexer.specs.Lexeme.{is_part}
use Rattle.loom_script.proofs.word.are_parts.Given as goal

abbrev pub invariant-parts : goal.invariant-parts
invariant-parts l = list_all is_part (drop l.b-index l.bytes) ≡ list_all is_part l.bytes
