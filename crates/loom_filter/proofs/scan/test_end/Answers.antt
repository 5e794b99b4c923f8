use Rattle.std.proofs.Common.{◌≡◌, ◌≤◌, ◌+◌, length, false, nat_eq, ◌∷◌, drop, get_or, sym, ap, ◌∙◌, arith}
use Rattle.std.proofs.lemmas.Bool.{ne_eqb}
use Rattle.std.proofs.lemmas.List.{drop_more}
use Rattle.loom_filter.specs.Words.{begins_comment, one_more, closing}
use Rattle.loom_filter.proofs.Closing.{closing_close, closing_open, closing_other, closing_on}
use Rattle.loom_filter.proofs.scan.test_end.Goals as goal
use Rattle.loom_filter.proofs.scan.test_end.Goals.{then-b-eq41+else-depth-eq0, else-b-eq41, then-b-eq40, else-b-eq40}

pub scan-preserved : goal.scan-preserved
scan-preserved c =
    let bytes = c.args.bytes.now in
    let end = c.scan.end in
    let b = get_or bytes end 0 in
    let rest = drop (end + 1) bytes in
    let depth = c.scan.depth in
    let next = c.if-b-eq40.depth in
    let there : drop end bytes ≡ b ∷ rest = drop_more bytes end 0 c.scan-test.true in
    let line : nat_eq b 10 ≡ false = ne_eqb b 10 c.if-b-eq10.false in
    let free : begins_comment (b ∷ rest) ≡ false = ap begins_comment (sym there) ∙ sym c.is_comment.ensures ∙ c.if-is_comment.false in
    let told : closing depth (b ∷ rest) ≡ one_more (closing next rest) =
    elim c.if-b-eq41.branch [
      | then-b-eq41+else-depth-eq0 w ↦ (elim c.if-b-eq40.branch [
        | then-b-eq40 v ↦ (let e = w.if-b-eq41.true in let f = v.if-b-eq40.true in absurd (omega (arith, e, f)))
        | else-b-eq40 v ↦ (let d = w.depth-is in let i = v.depth-is in closing_close depth next b rest line free w.if-b-eq41.true w.if-depth-eq0.false (i ∙ d))
      ])
      | else-b-eq41 w ↦ (elim c.if-b-eq40.branch [
        | then-b-eq40 v ↦ (let d = w.depth-is in let i = v.depth-is in closing_open depth next b rest line free v.if-b-eq40.true (i ∙ ap (λ z. z + 1) d))
        | else-b-eq40 v ↦ (let d = w.depth-is in let i = v.depth-is in closing_other depth next b rest line free w.if-b-eq41.false v.if-b-eq40.false (i ∙ d))
      ])
    ] in
    let fewer : c.if-b-eq41.depth ≤ end =
    elim c.if-b-eq41.branch [
      | then-b-eq41+else-depth-eq0 w ↦ (let d = w.depth-is in omega (arith, d))
      | else-b-eq41 w ↦ (let d = w.depth-is in omega (arith, d))
    ] in
    let few : next ≤ end + 1 =
    elim c.if-b-eq40.branch [
      | then-b-eq40 v ↦ (let i = v.depth-is in omega (arith, i, fewer))
      | else-b-eq40 v ↦ (let i = v.depth-is in omega (arith, i, fewer))
    ] in
    let inside : end + 1 ≤ length bytes = omega (arith, c.scan-test.true) in
    record { within = inside; few = few; same = closing_on bytes c.args.at end depth next b there c.scan.invariant.same told }
