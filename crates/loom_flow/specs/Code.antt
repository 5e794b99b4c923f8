-- Flat code of a lawful program, and how it is stored.
use Rattle.std.specs.Prelude.{ℕ, List, ◌≡◌, refl}
use Rattle.std.specs.Coded.{Coded, code_by, coded×, coded_ℕ, coded_list}
use Rattle.loom_tree.specs.Tree.{Source}
use Rattle.loom_tree.specs.Code.{source_code}
use Rattle.loom_lang.specs.Rules.{KeepsRules}
use Rattle.loom_flow.specs.declared.code.Instr.{Instr}
use Rattle.loom_flow.specs.declared.code.Site.{Site}
use Rattle.loom_flow.specs.declared.code.Entrance.{Entrance}
use Rattle.loom_flow.specs.contracts.code.Instr as i
use Rattle.loom_flow.specs.contracts.code.Site as s
use Rattle.loom_flow.specs.contracts.code.Entrance as e
use Rattle.loom_flow.specs.Flow.{Flow}
use Rattle.loom_flow.specs.FlatCode.{lowered}

-- It is the flat code of its program, which keeps the rules.
pub record IsLowered (c : Flow) : Type 0 where
  pub lawful : KeepsRules c.program
  pub is : c ≡ lowered c.program

abbrev pub flat_code : Coded Flow
flat_code =
    code_by (Source × (List Instr × (List Site × (List Entrance × List ℕ))))
    (coded× source_code (coded× (coded_list i.the_row.coded) (coded× (coded_list s.the_row.coded) (coded× (coded_list e.the_row.coded) (coded_list coded_ℕ)))))
    (λ c. (c.program, (c.code, (c.sites, (c.entrances, c.calls)))))
    (λ q. record { program = q.0; code = q.1.0; sites = q.1.1.0; entrances = q.1.1.1.0; calls = q.1.1.1.1 }) (λ _. refl)
