use Rattle.std.proofs.Common.{◌≡◌}
use Rattle.hcc_rule.specs.Seats.{view}
use Rattle.hcc_rule.specs.Records.{record_in}
use Rattle.hcc_table.proofs.Seeking.{seeks_read}
use Rattle.hcc_table.proofs.Values.{told_word}
use Rattle.hcc_table.proofs.readings.read_word.Goals as goal

pub returns-clause-word : goal.returns-clause-word
returns-clause-word g c =
    told_word (record_in c.args.held.pin.name (view c.args.seat.now).records) c.args.index
    c.read_at.result c.read_at.ensures.word

pub returns-clause-seeks : goal.returns-clause-seeks
returns-clause-seeks g c =
    seeks_read c.args.table.now c.args.held.pin.name (λ r. r.slot ≡ c.args.held.pin.slot)
    c.requires.holds c.read_at.ensures.event
