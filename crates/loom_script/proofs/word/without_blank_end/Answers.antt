use Rattle.std.proofs.Common.{◌≡◌, ◌-◌, true, false, get_or, sym, ◌∙◌, arith}
use Rattle.loom_command.specs.FilterText.{is_blank}
use Rattle.loom_script.proofs.Texts.{blank_there, dark_there}
use Rattle.loom_script.proofs.word.without_blank_end.Goals as goal

pub returns-then-not-is_blank : goal.returns-then-not-is_blank
returns-then-not-is_blank c =
    let dark : is_blank (get_or c.args.bytes.now (c.back.end - 1) 0) ≡ false = sym c.is_blank.ensures ∙ c.if-not-is_blank.true in
    dark_there c.args.bytes.now c.back.end c.back-test.true c.back.invariant.within dark c.back.invariant.same

pub back-preserved : goal.back-preserved
back-preserved c =
    let blank : is_blank (get_or c.args.bytes.now (c.back.end - 1) 0) ≡ true = sym c.is_blank.ensures ∙ c.if-not-is_blank.false in
    record {
      within = omega (arith, c.back.invariant.within);
      same = blank_there c.args.bytes.now c.back.end c.back-test.true c.back.invariant.within blank ∙ c.back.invariant.same;
    }
