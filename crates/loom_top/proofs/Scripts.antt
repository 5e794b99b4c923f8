-- Scripts that a run can take.
use Rattle.std.proofs.Common.{ℕ, ◌≤◌, List, [], ◌∷◌, length, arith}
use Rattle.loom_lang.specs.Limits.{file_limit}
use Rattle.loom_command.specs.Script.{ScriptCommand}
use Rattle.loom_filter.specs.FilterError.{text_limit}
use Rattle.loom_script.specs.Laws.{HaveShortTexts}
use Rattle.loom_script.specs.ScriptError.{IsScriptWithoutStall}
use Rattle.loom_script.proofs.ShortTexts.{texts_are_short}
use Rattle.loom_top.specs.Read.{CanBeRun}

shorter_texts : (m n : ℕ) (ss : List ScriptCommand) → m ≤ n → HaveShortTexts m ss → HaveShortTexts n ss
shorter_texts m n [] l h = tt
shorter_texts m n (s ∷ ss) l h = (omega (arith, l, h.0), shorter_texts m n ss l h.1)

-- The commands of a script's bytes can be run.
pub script_can_be_run : (bytes : List ℕ) (ss : List ScriptCommand) → length bytes ≤ file_limit → IsScriptWithoutStall bytes ss → CanBeRun ss
script_can_be_run bytes ss l h = record {
  few = h.script.few;
  short = shorter_texts (length bytes) text_limit ss (omega (arith, l)) (texts_are_short bytes ss h.script);
  no_stall = h.no_stall;
}

-- So can no command.
pub none_can_be_run : CanBeRun []
none_can_be_run = record { few = omega arith; short = tt; no_stall = tt }
