use Rattle.hcc_table.proofs.Seeking.{seeks_then}
use Rattle.hcc_table.proofs.readings.read_bytes.Goals as goal

pub returns-clause-seeks : goal.returns-clause-seeks
returns-clause-seeks g c =
    seeks_then c.args.table.now _ _ _ c.read_len-length.ensures.seeks c.copy_bytes.ensures.seeks
