use Rattle.std.proofs.Common.{◌≡◌, ◌+◌, false, drop, get_or, Some, None, sym, ◌∙◌, arith}
use Rattle.loom_lexer.specs.Lexeme.{is}
use Rattle.loom_lexer.specs.Scan.{begins}
use Rattle.loom_filter.specs.Words.{first_sign}
use Rattle.loom_filter.proofs.Spots.{first_spot, apart_spot, none_there, none_next, other_next}
use Rattle.loom_filter.proofs.scan.sign_at.Goals as goal
use Rattle.loom_filter.proofs.scan.sign_at.Goals.{else-bytes-at-eq60-via-then-bytes-at-eq60+then-next-bytes+else-bytes-next-eq62, else-bytes-at-eq60-via-then-bytes-at-eq60+else-next-bytes, else-bytes-at-eq60-via-else-bytes-at-eq60}

pub returns-then-bytes-next-eq62-clause-spot : goal.returns-then-bytes-next-eq62-clause-spot
returns-then-bytes-next-eq62-clause-spot c = apart_spot c.args.bytes.now c.args.at (omega arith) c.if-bytes-at-eq60.true c.if-bytes-next-eq62.true

pub returns-in-Some-clause-spot : goal.returns-in-Some-clause-spot
returns-in-Some-clause-spot c =
    let told : first_sign (get_or c.args.bytes.now c.args.at 0) ≡ Some c.in-Some.sign = sym c.first_sign.ensures ∙ c.in-Some.is in
    first_spot c.args.bytes.now c.args.at c.in-Some.sign c.requires.within told

pub returns-in-None-clause-spot : goal.returns-in-None-clause-spot
returns-in-None-clause-spot c =
    let bytes = c.args.bytes.now in
    let told : first_sign (get_or bytes c.args.at 0) ≡ None = sym c.first_sign.ensures ∙ c.in-None.is in
    let apart : get_or bytes c.args.at 0 ≡ 60 → begins (is 62) (drop (c.args.at + 1) bytes) ≡ false =
    elim c.else-bytes-at-eq60.branch [
      | else-bytes-at-eq60-via-then-bytes-at-eq60+then-next-bytes+else-bytes-next-eq62 w ↦ (let l = w.if-next-bytes.true in let n = w.if-bytes-next-eq62.false in λ e. other_next bytes (c.args.at + 1) 62 l n)
      | else-bytes-at-eq60-via-then-bytes-at-eq60+else-next-bytes w ↦ (let l = w.if-next-bytes.false in λ e. none_next (is 62) bytes (c.args.at + 1) l)
      | else-bytes-at-eq60-via-else-bytes-at-eq60 w ↦ (let n = w.if-bytes-at-eq60.false in λ e. absurd (n e))
    ] in
    none_there bytes c.args.at c.requires.within c.requires.dark c.requires.no_word c.requires.no_paren told apart
