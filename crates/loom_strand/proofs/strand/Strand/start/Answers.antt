use Rattle.std.proofs.Common.{length, subst}
use Rattle.loom_strand.specs.Strand.{Strand}
use Rattle.loom_strand.proofs.Few.{few_params}
use Rattle.loom_strand.proofs.strand.Strand.start.Goals as goal

pub args_of-args-requires : goal.args_of-args-requires
args_of-args-requires c =
    few_params c.args.self.now.program c.args.func (length c.args.args.now)
    (let P : Strand → Type 0 = λ s. Rattle.loom_lang.specs.Rules.KeepsRules s.program in subst P c.self.view_is c.self.invariant.kept.lawful) c.requires.function
