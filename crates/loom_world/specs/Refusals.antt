-- Why a command is refused.
use Rattle.std.specs.Prelude.{ℕ, ◌≡◌, Option, option_map}
use Rattle.loom_filter.specs.declared.parse.FilterRefusal.{FilterRefusal}
use Rattle.loom_law.specs.Control.{no_plan}
use Rattle.loom_law.specs.Lawful.{text_refusal}
use Rattle.loom_world.specs.declared.command.Judged.{Judged}
use Rattle.loom_world.specs.CommandView.{judgement_of}

abbrev pub number_and_clause : FilterRefusal → ℕ × ℕ
number_and_clause r = (r.number, r.clause)

abbrev pub IsRefusal : Option FilterRefusal → Option (ℕ × ℕ) → Type 0
IsRefusal o x = option_map number_and_clause o ≡ x

abbrev pub IsTextRefusal : Judged → Option FilterRefusal → Type 0
IsTextRefusal x o = IsRefusal o (text_refusal (judgement_of no_plan x))
