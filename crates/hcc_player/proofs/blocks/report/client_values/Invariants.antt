use Rattle.std.proofs.Common.{◌≡◌, map, take}
use Rattle.serde_json.specs.View.{view}
use Rattle.hcc_player.specs.BlocksReport.{client_data}
use Rattle.hcc_player.proofs.blocks.report.client_values.Given as goal

abbrev pub invariant-loop-client : goal.invariant-loop-client
invariant-loop-client l = map view l.values.items ≡ map client_data (take l.client-index l.clients)
