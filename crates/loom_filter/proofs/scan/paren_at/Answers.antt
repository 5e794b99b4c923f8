use Rattle.std.proofs.Common.{◌≡◌, ◌+◌, false, drop, sym, ◌∙◌, arith, rules}
use Rattle.loom_lexer.specs.Lexeme.{is}
use Rattle.loom_lexer.specs.Scan.{begins}
use Rattle.loom_filter.proofs.Spots.{call_spot, test_ends_at, test_spot, paren_none, no_test_end, no_read, none_next, other_next}
use Rattle.loom_filter.proofs.scan.paren_at.Goals as goal
use Rattle.loom_filter.proofs.scan.paren_at.Goals.{else-close-bytes-via-then-close-bytes+else-bytes-close-eq41, else-close-bytes-via-else-close-bytes}

pub returns-then-bytes-close-eq41-clause-spot : goal.returns-then-bytes-close-eq41-clause-spot
returns-then-bytes-close-eq41-clause-spot c =
    call_spot c.args.bytes.now c.args.at c.blanks_end-close.result c.requires.within c.requires.paren c.blanks_end-close.ensures.value c.if-close-bytes.true c.if-bytes-close-eq41.true

pub slice_bounds-read_test-end : goal.slice_bounds-read_test-end
slice_bounds-read_test-end c =
    let i = test_ends_at c.args.bytes.now (c.args.at + 1) c.in-Some.end (omega (arith, c.requires.within)) (sym c.in-Some.is ∙ c.test_end.ensures) in
    let after = i.after in
    let within = i.within in
    search (rules, after, within)

pub read_test-requires-clause-one_line : goal.read_test-requires-clause-one_line
read_test-requires-clause-one_line c =
    let i = test_ends_at c.args.bytes.now (c.args.at + 1) c.in-Some.end (omega (arith, c.requires.within)) (sym c.in-Some.is ∙ c.test_end.ensures) in
    i.one_line

pub read_test-requires-clause-no_comment : goal.read_test-requires-clause-no_comment
read_test-requires-clause-no_comment c =
    let i = test_ends_at c.args.bytes.now (c.args.at + 1) c.in-Some.end (omega (arith, c.requires.within)) (sym c.in-Some.is ∙ c.test_end.ensures) in
    i.no_comment

pub returns-in-Some-2-clause-spot : goal.returns-in-Some-2-clause-spot
returns-in-Some-2-clause-spot c =
    let i = test_ends_at c.args.bytes.now (c.args.at + 1) c.in-Some.end (omega (arith, c.requires.within)) (sym c.in-Some.is ∙ c.test_end.ensures) in
    test_spot c.args.bytes.now c.args.at c.in-Some.end c.in-Some-2.e c.requires.within c.requires.paren i (rw c.in-Some-2.is at c.in_ok-e-in-Some.ensures)

pub returns-in-Some-2-clause-within : goal.returns-in-Some-2-clause-within
returns-in-Some-2-clause-within c =
    let i = test_ends_at c.args.bytes.now (c.args.at + 1) c.in-Some.end (omega (arith, c.requires.within)) (sym c.in-Some.is ∙ c.test_end.ensures) in
    let within = i.within in
    omega (arith, within)

pub returns-in-None-2-clause-spot : goal.returns-in-None-2-clause-spot
returns-in-None-2-clause-spot c =
    let bytes = c.args.bytes.now in
    let close = c.blanks_end-close.result in
    let i = test_ends_at bytes (c.args.at + 1) c.in-Some.end (omega (arith, c.requires.within)) (sym c.in-Some.is ∙ c.test_end.ensures) in
    let other : begins (is 41) (drop close bytes) ≡ false =
    elim c.else-close-bytes.branch [
      | else-close-bytes-via-then-close-bytes+else-bytes-close-eq41 w ↦ (let l = w.if-close-bytes.true in let n = w.if-bytes-close-eq41.false in other_next bytes close 41 l n)
      | else-close-bytes-via-else-close-bytes w ↦ (let l = w.if-close-bytes.false in none_next (is 41) bytes close l)
    ] in
    paren_none bytes c.args.at close c.requires.within c.requires.paren c.blanks_end-close.ensures.value other (no_read bytes (c.args.at + 1) c.in-Some.end i (rw c.in-None-2.is at c.in_ok-e-in-Some.ensures))

pub returns-in-None-clause-spot : goal.returns-in-None-clause-spot
returns-in-None-clause-spot c =
    let bytes = c.args.bytes.now in
    let close = c.blanks_end-close.result in
    let other : begins (is 41) (drop close bytes) ≡ false =
    elim c.else-close-bytes.branch [
      | else-close-bytes-via-then-close-bytes+else-bytes-close-eq41 w ↦ (let l = w.if-close-bytes.true in let n = w.if-bytes-close-eq41.false in other_next bytes close 41 l n)
      | else-close-bytes-via-else-close-bytes w ↦ (let l = w.if-close-bytes.false in none_next (is 41) bytes close l)
    ] in
    paren_none bytes c.args.at close c.requires.within c.requires.paren c.blanks_end-close.ensures.value other (no_test_end (drop (c.args.at + 1) bytes) (c.args.at + 1) (sym c.in-None.is ∙ c.test_end.ensures))
