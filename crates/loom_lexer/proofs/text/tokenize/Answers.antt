use Rattle.std.proofs.Common.{◌≡◌, ◌≤◌, ◌-◌, ◌++◌, arith, length, take, drop, length-drop, length-take, [], refl, append-nil, ap, ◌∙◌, Option, nat_eq}
use Rattle.std.proofs.lemmas.List.{drop_all}
use Rattle.std.proofs.lemmas.List.Sums.{count_by-le-length}
use Rattle.std.proofs.lemmas.List.Elements.{All-append}
use Rattle.loom_tree.specs.Token.{IsSmall}
use Rattle.loom_tree.specs.declared.token.Token as rust
use Rattle.loom_tree.specs.declared.token.TokenKind.{TokenKind}
use Rattle.loom_tree.specs.Token.{IsWithin}
use Rattle.loom_lexer.specs.Tokens.{kind_of, made, line_ends}
use Rattle.loom_lexer.proofs.Front.{some_len}
use Rattle.loom_lexer.proofs.Small.{kind_small, made_small, made_within}
use Rattle.loom_lexer.proofs.TokenList.{goes_on}
use Rattle.loom_lexer.proofs.text.tokenize.Goals as goal

pub all-smaller : goal.all-smaller
all-smaller c = omega (arith, c.scan-span.ensures.end, c.scan-span.ensures.within, some_len (drop c.all.at c.args.bytes.now) (omega (arith, length-drop c.all.at c.args.bytes.now)))

pub all-preserved : goal.all-preserved
all-preserved c =
    let bytes = c.args.bytes.now in
    let end = c.scan-span.result.end in
    let text = take (end - c.all.at) (drop c.all.at bytes) in
    let kind = c.scan-span.result.kind in
    let new = made (kind_of kind text) c.all.at end c.all.line in
    let items : c.put.new.tokens.items ≡ c.all.tokens.items ++ new =
    c.in_ok-put.ensures ∙ ap (λ (z : Option TokenKind). c.all.tokens.items ++ made z c.all.at end c.all.line) c.kind_of.ensures in
    let ends : c.line_ends-line.result ≡ line_ends text = c.line_ends-line.ensures in
    let forward : c.all.at ≤ end = omega (arith, c.scan-span.ensures.end) in
    let few : line_ends text ≤ length text = count_by-le-length (λ b. nat_eq b 10) text in
    let size : length text ≤ end - c.all.at = omega (arith, length-take (end - c.all.at) (drop c.all.at bytes)) in
    record {
      at_most = c.scan-span.ensures.within;
      lines = omega (arith, c.all.invariant.lines, ends, few, size, forward);
      tokens = λ qs h. rw (items, ends) (goes_on bytes c.all.tokens.items c.all.line c.all.at end kind text c.all-test.true c.scan-span.ensures.kind c.scan-span.ensures.end refl c.all.invariant.tokens qs h);
      small = rw items (All-append (λ (t : rust.Token). IsSmall t.kind) c.all.tokens.items new c.all.invariant.small (made_small (kind_of kind text) c.all.at end c.all.line (kind_small kind text)));
      within = rw items (All-append (IsWithin bytes) c.all.tokens.items new c.all.invariant.within (made_within bytes (kind_of kind text) c.all.at end c.all.line forward c.scan-span.ensures.within));
    }

pub returns-clause-tokens : goal.returns-clause-tokens
returns-clause-tokens c = rw (append-nil _) at (c.all.invariant.tokens [] (drop_all c.all.at c.args.bytes.now c.all-test.false))
