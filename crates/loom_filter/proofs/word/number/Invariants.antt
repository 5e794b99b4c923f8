use Rattle.std.proofs.Common.{◌≡◌, ◌≤◌, drop}
use Rattle.loom_command.specs.FilterForm.{filter_number_limit}
use Rattle.loom_filter.specs.Words.{number_from, number_by}
use Rattle.loom_filter.proofs.word.number.Given as goal

abbrev pub invariant-digits : goal.invariant-digits
invariant-digits l = record {
  same : number_from l.value (drop l.b-index l.word) ≡ number_by l.word;
  small : l.value ≤ filter_number_limit;
}
