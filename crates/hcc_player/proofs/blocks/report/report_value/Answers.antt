use Rattle.std.proofs.Common.{rules}
use Rattle.serde_json.specs.declared.value.Value.{the_lemmas}
use Rattle.serde_json.proofs.OnLiterals.{serde_json_on_literals}
use Rattle.hcc_player.specs.BlocksReport.{report_data}
use Rattle.hcc_player.proofs.blocks.report.report_value.Goals as goal

pub returns-in-Ok-json-10 : goal.returns-in-Ok-json-10
unfolding serde_json_on_literals report_data
returns-in-Ok-json-10 c = search (rules, the_lemmas)
