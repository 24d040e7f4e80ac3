-- The sums as JSON.
use Rattle.std.proofs.Common.{◌≡◌, false, refl}
use Rattle.serde_json.proofs.OnLiterals.{serde_json_on_literals}
use Rattle.serde_json.specs.Written.{compact_text, has_float}
use Rattle.hcc_player.specs.declared.sums.Sums.{Sums}
use Rattle.hcc_player.specs.Report.{sums_data, sums_json}

pub sums_compact : (s : Sums) → compact_text (sums_data s) ≡ sums_json s
unfolding serde_json_on_literals sums_data sums_json
sums_compact s = refl

pub sums_whole : (s : Sums) → has_float (sums_data s) ≡ false
unfolding sums_data
sums_whole s = refl
