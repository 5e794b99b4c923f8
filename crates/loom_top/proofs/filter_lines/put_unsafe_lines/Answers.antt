use Rattle.std.proofs.Common.{◌≡◌, ◌+◌, ◌++◌, ℕ, List, [], ◌∷◌, length, ap, sym, ◌∙◌, arith}
use Rattle.loom_tree.specs.Lines.{ended}
use Rattle.loom_lang.specs.Places.{places}
use Rattle.loom_trace.specs.Places.{has_place}
use Rattle.loom_flow.proofs.FlowLaws.{as_many_sites}
use Rattle.loom_top.specs.ShowText.{unsafe_line, unsafe_lines}
use Rattle.loom_top.proofs.ShowLines.{unsafe_more, safe_more, all_places}
use Rattle.loom_top.proofs.filter_lines.put_unsafe_lines.Goals as goal
use Rattle.loom_top.proofs.filter_lines.put_unsafe_lines.Goals.{then-has+in_ok-put_unsafe_line, else-has}

pub numbers-preserved : goal.numbers-preserved
numbers-preserved c =
    let p = c.args.flow.now.program in
    let set : List ℕ = c.args.set.now in
    let place : ℕ = c.numbers.place in
    let all : List ℕ = c.args.out.now ++ ended (unsafe_lines p (has_place set) 0 (places p)) in
    elim c.if-has.branch [
      | then-has+in_ok-put_unsafe_line z ↦ record {
        left =
            rw (z.out-is)
            (unsafe_more p (has_place set) place (place + 1) z.place_line.result c.numbers.out z.put_unsafe_line.new.out all (omega arith) (sym c.has.ensures ∙ z.if-has.true) z.place_line.ensures
            (z.in_ok-put_unsafe_line.ensures ∙ ap (λ (n : ℕ). c.numbers.out ++ ended (unsafe_line n z.place_line.result ∷ [])) z.from.ensures) c.numbers.invariant.left);
      }
      | else-has z ↦ record {
        left = rw (z.out-is) (safe_more p (has_place set) place (place + 1) c.numbers.out all (omega arith) (sym c.has.ensures ∙ z.if-has.false) c.numbers.invariant.left);
      }
    ]

pub returns : goal.returns
returns c =
    let p = c.args.flow.now.program in
    let set : List ℕ = c.args.set.now in
    let same : length c.args.flow.now.sites ≡ length (places p) = as_many_sites c.args.flow.now c.sites.ensures.lowered in
    let all : List ℕ = c.args.out.now ++ ended (unsafe_lines p (has_place set) 0 (places p)) in
    all_places p (has_place set) c.numbers.place c.numbers.out all (omega (arith, same, ap length c.sites.ensures.sites, c.numbers-test.false)) c.numbers.invariant.left
