use Rattle.std.proofs.Common.{rules}
use Rattle.serde_json.specs.declared.value.Value.{the_lemmas}
use Rattle.serde_json.proofs.OnLiterals.{serde_json_on_literals}
use Rattle.hcc_player.specs.Report.{sums_data}
use Rattle.hcc_player.proofs.report.sums_value.Goals as goal

pub returns-in-Ok-json-8 : goal.returns-in-Ok-json-8
unfolding serde_json_on_literals sums_data
returns-in-Ok-json-8 c = search (rules, the_lemmas)
