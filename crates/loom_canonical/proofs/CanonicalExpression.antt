-- The canonical text of an expression is a text of that expression.
use Rattle.std.proofs.Common.{ℕ, suc, ◌+◌, ◌≡◌, ◌≤◌, List, [], ◌∷◌, ◌++◌, map, refl, sym, ap, subst, ◌∙◌, append-nil}
use Rattle.std.specs.List.{AllByRecursion}
use Rattle.loom_tree.specs.Token.{Token, LineToken}
use Rattle.loom_tree.specs.Tree.{Expression}
use Rattle.loom_lexer.specs.Lexeme.{IsLexed}
use Rattle.loom_lexer.specs.Name.{IsProper}
use Rattle.loom_lexer.specs.Tokens.{tokens_from}
use Rattle.loom_lexer.proofs.Proper.{AreProper, tokens_proper}
use Rattle.loom_expression.specs.Text.{Text, tokens, tree, nodes, node_limit, IsWritten}
use Rattle.loom_syntax.specs.File.{on, FitMarks}
use Rattle.loom_lang.specs.WellFormed.{node_count, HasProperNumbers, IsWellFormed}
use Rattle.loom_lang.specs.Expression.{IsExpressionText}
use Rattle.loom_lang.specs.Canonical.{expression_text}
use Rattle.loom_canonical.specs.Laws.{HasCanonicalExpression}
use Rattle.loom_canonical.proofs.LexemeMarks.{no_marks}
use Rattle.loom_canonical.proofs.ExpressionTokens.{expression_form, expression_tree, expression_written, HasNames, expression_tokens}
use Rattle.loom_canonical.proofs.KnownNames.{all_front, all_behind}

-- What is read from proper tokens is proper.

names_proper : (t : Text) → AllByRecursion IsProper (tokens t) → HasNames (tree t)
names_proper (Text.num n) a = tt
names_proper (Text.var x) a = a.0
names_proper (Text.cell x i) a = (a.0, names_proper i (all_front IsProper (tokens i) _ a.1.1))
names_proper (Text.neg b) a = names_proper b a.1
names_proper (Text.inverse b) a = names_proper b a.1
names_proper (Text.bin o b c) a = (names_proper b (all_front IsProper (tokens b) _ a), names_proper c (all_behind IsProper (tokens b) (Token.op o ∷ tokens c) a).1)
names_proper (Text.paren b) a = names_proper b (all_front IsProper (tokens b) _ a.1)

numbers_proper : (t : Text) → AllByRecursion IsProper (tokens t) → HasProperNumbers (tree t)
numbers_proper (Text.num n) a = a.0
numbers_proper (Text.var x) a = tt
numbers_proper (Text.cell x i) a = numbers_proper i (all_front IsProper (tokens i) _ a.1.1)
numbers_proper (Text.neg b) a = numbers_proper b a.1
numbers_proper (Text.inverse b) a = numbers_proper b a.1
numbers_proper (Text.bin o b c) a = (numbers_proper b (all_front IsProper (tokens b) _ a), numbers_proper c (all_behind IsProper (tokens b) (Token.op o ∷ tokens c) a).1)
numbers_proper (Text.paren b) a = numbers_proper b (all_front IsProper (tokens b) _ a.1)

tree_nodes : (t : Text) → node_count (tree t) ≡ nodes t
tree_nodes (Text.num n) = refl
tree_nodes (Text.var x) = refl
tree_nodes (Text.cell x i) = ap suc (tree_nodes i)
tree_nodes (Text.neg a) = ap suc (tree_nodes a)
tree_nodes (Text.inverse a) = ap suc (tree_nodes a)
tree_nodes (Text.bin o a b) = ap (λ n. suc (n + node_count (tree b))) (tree_nodes a) ∙ ap (λ n. suc (nodes a + n)) (tree_nodes b)
tree_nodes (Text.paren a) = tree_nodes a

-- what is asked of an expression
record IsWritableExpression (e : Expression) : Type 0 where
  pub names : HasNames e
  pub form : IsWellFormed e

text_writable : (t : Text) → IsWritten t → AllByRecursion IsProper (tokens t) → IsWritableExpression (tree t)
text_writable t h a = record { names = names_proper t a; form = record { nodes = subst (λ n. n ≤ node_limit) (sym (tree_nodes t)) h.small; numbers = numbers_proper t a } }

all_proper : (ps : List LineToken) → AreProper ps → AllByRecursion IsProper (map (λ (p : LineToken). p.token) ps)
all_proper [] h = tt
all_proper (p ∷ ps) h = (h.0, all_proper ps h.1)

expression_writable : (bytes : List ℕ) (e : Expression) → IsExpressionText bytes e → IsWritableExpression e
expression_writable bytes e h =
    let P : List Token → Type 0 = λ ts. AllByRecursion IsProper ts in
    subst IsWritableExpression h.is.stands (text_writable h.is.written h.is.rules (subst P (sym h.is.spelled) (all_proper h.tokens (tokens_proper bytes h.tokens h.lexed))))

-- Tokens that fit their marks are those of the marks.
marks_spell : (us : List Token) (ps : List LineToken) → FitMarks (map on us ++ []) ps → us ≡ map (λ (p : LineToken). p.token) ps
marks_spell [] [] h = refl
marks_spell [] (p ∷ ps) h = absurd h
marks_spell (u ∷ us) [] h = absurd h
marks_spell (u ∷ us) (p ∷ ps) h = let first : p.token ≡ u = h.0 in let rest = marks_spell us ps h.1 in cc

pub writable_text : (e : Expression) → HasNames e → IsWellFormed e → IsExpressionText (expression_text e) e
writable_text e names form =
    let w : Text = expression_form e in
    let m = expression_tokens e names form.numbers 1 [] [] [] tt (no_marks 1) in
    record {
      tokens = tokens_from 1 m.lexemes;
      lexed = record { lexemes = m.lexemes; lexed = subst (IsLexed m.lexemes) (append-nil (expression_text e)) m.lexed; theirs = refl };
      is = record {
        written = w;
        rules = expression_written e form;
        spelled = sym (append-nil (tokens w)) ∙ marks_spell (tokens w ++ []) (tokens_from 1 m.lexemes) m.fits;
        stands = expression_tree e form.numbers;
      };
    }

pub canonical_expression_is_text : HasCanonicalExpression
canonical_expression_is_text bytes e h = let k = expression_writable bytes e h in writable_text e k.names k.form
