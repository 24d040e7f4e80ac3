use Rattle.hcc_cache_tests.proofs.Staged.{known_set}
use Rattle.hcc_cache_tests.proofs.block.played.reads.Goals as goal

pub loop-number-preserved : goal.loop-number-preserved
loop-number-preserved g c =
    let was = c.loop-number.invariant in
    let read = c.read-answer.ensures in record {
      known = known_set c.args.cache.now c.loop-number.clients.items _ c.read-answer.new.client
          was.known read.known;
      tag = rw (read.content, read.size) was.tag;
      block = rw read.size was.block;
      room = rw read.size was.room;
    }
