use Rattle.std.proofs.Common.{rules}
use Rattle.serde_json.specs.declared.value.Value.{the_lemmas}
use Rattle.serde_json.proofs.OnLiterals.{serde_json_on_literals}
use Rattle.hcc_player.specs.BlocksReport.{client_data}
use Rattle.hcc_player.proofs.blocks.report.client_value.Goals as goal

pub returns-in-Ok-json-12 : goal.returns-in-Ok-json-12
unfolding serde_json_on_literals client_data
returns-in-Ok-json-12 c = search (rules, the_lemmas)
