-- Bytes are a text of at most one list of items.
use Rattle.std.proofs.Common.{ℕ, ◌+◌, ◌<◌, ◌≤◌, ◌≡◌, List, length, drop, take-append-drop, ap, sym, ◌∙◌, subst, arith}
use Rattle.loom_tree.specs.Token.{LineToken}
use Rattle.loom_tree.specs.Tree.{FileItem, Source}
use Rattle.loom_lexer.specs.Tokens.{AreTokens}
use Rattle.loom_lexer.proofs.TokenList.{one_list_of_tokens}
use Rattle.loom_syntax.specs.File.{IsFile, IsRefusedAt}
use Rattle.loom_syntax.proofs.Viable.{one_file}
use Rattle.loom_lexer.specs.Tokens.{last_line}
use Rattle.loom_lang.specs.declared.refusal.Reason.{Reason}
use Rattle.loom_lang.specs.declared.refusal.Reason.TheVariants as reason
use Rattle.loom_lang.specs.FileItems.{source_of_items}
use Rattle.loom_lang.specs.Rules.{KeepsRules}
use Rattle.loom_lang.specs.Program.{IsTextOf, IsProgram}
use Rattle.loom_lang.specs.Refusal.{IsFaultyProgram, IsRefusedProgram}
use Rattle.loom_lang.specs.Laws.{HasOneProgram}
use Rattle.loom_lang.proofs.Faultless.{lawful_faultless}

-- all texts of the bytes are of these tokens
pub text_tokens : (bytes : List ℕ) (ps : List LineToken) (items : List FileItem) → AreTokens bytes ps → IsTextOf bytes items → IsFile ps items
text_tokens bytes ps items l t = let P : List LineToken → Type 0 = λ z. IsFile z items in subst P (one_list_of_tokens bytes t.tokens ps t.lexed l) t.file

pub one_text : (bytes : List ℕ) (a b : List FileItem) → IsTextOf bytes a → IsTextOf bytes b → a ≡ b
one_text bytes a b s t = one_file s.tokens a b s.file (text_tokens bytes s.tokens b s.lexed t)

pub program_of_text : (bytes : List ℕ) (items : List FileItem) (q : Source) → IsTextOf bytes items → IsProgram bytes q → source_of_items items ≡ q
program_of_text bytes items q t h = ap source_of_items (one_text bytes items h.items t h.text) ∙ h.gathered

pub one_program : HasOneProgram
one_program bytes p q h g = sym (program_of_text bytes g.items p g.text h) ∙ program_of_text bytes g.items q g.text g

no_file : (ps : List LineToken) (n : ℕ) (items : List FileItem) → IsRefusedAt ps n → IsFile ps items → ⊥
no_file ps n items r f =
    let P : List LineToken → Type 0 = λ z. IsFile z items in
    let not_before : n < length ps → ⊥ = λ h. r.beyond h (record { more = drop (n + 1) ps; items = items; whole = subst P (sym (take-append-drop (n + 1) ps)) f }) in
    let within : n ≤ length ps = r.within in
    let last : n ≡ length ps = omega arith in
    r.at_end last items f

-- nor where reading their tokens is refused
pub no_program_of_tokens : (bytes : List ℕ) (ps : List LineToken) (n : ℕ) → AreTokens bytes ps → IsRefusedAt ps n → (q : Source) → IsProgram bytes q → ⊥
no_program_of_tokens bytes ps n l r q h = no_file ps n h.items r (text_tokens bytes ps h.items l h.text)

-- bytes that are in the grammar and break the rules are no program
faulty_no_program : (bytes : List ℕ) (line : ℕ) (why : Reason) → IsFaultyProgram bytes line why → (q : Source) → IsProgram bytes q → ⊥
faulty_no_program bytes line why f q h =
    lawful_faultless f.items (last_line bytes) (subst KeepsRules (sym (program_of_text bytes f.items q f.text h)) h.lawful) line why f.fault.stands

pub refused_no_program : (bytes : List ℕ) (line : ℕ) (why : Reason) → IsRefusedProgram bytes line why → (q : Source) → IsProgram bytes q → ⊥
refused_no_program bytes line reason.Syntax r q h = no_program_of_tokens bytes r.tokens r.token r.lexed r.refused q h
refused_no_program bytes line why r q h = faulty_no_program bytes line why r q h
