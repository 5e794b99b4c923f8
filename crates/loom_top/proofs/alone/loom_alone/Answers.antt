use Rattle.std.proofs.Common.{◌≡◌, ◌⊎◌, ℕ, map, sym, subst}
use Rattle.loom_top.specs.TopCall.{EndsWith}
use Rattle.loom_top.proofs.Top.{complete, only_fault, only_script_fault}
use Rattle.loom_top.proofs.alone.loom_alone.Goals as goal

pub returns-clause-complete : goal.returns-clause-complete
returns-clause-complete g c valid =
    let P : ℕ → Type 0 = λ z. EndsWith valid.names.invocation.task z in
    subst P (sym c.code_of.ensures) (complete _ (map (λ w. w.now) c.args.words.now) c.answer.result c.answer.ensures.answers valid)

pub returns-clause-missing : goal.returns-clause-missing
returns-clause-missing g c missing =
    let P : ℕ → Type 0 = λ z. (z ≡ 4) ⊎ (z ≡ 5) in
    subst P (sym c.code_of.ensures) (only_fault _ (map (λ w. w.now) c.args.words.now) c.answer.result c.answer.ensures.answers missing)

pub returns-clause-missing_script : goal.returns-clause-missing_script
returns-clause-missing_script g c missing =
    let P : ℕ → Type 0 = λ z. (z ≡ 4) ⊎ ((z ≡ 5) ⊎ (z ≡ 6)) in
    subst P (sym c.code_of.ensures) (only_script_fault _ (map (λ w. w.now) c.args.words.now) c.answer.result c.answer.ensures.answers missing)
