use Rattle.hcc_block.proofs.Held.{holds_same}
use Rattle.hcc_block.proofs.Steps.{copy_within}
use Rattle.hcc_block.proofs.reading.copied.Goals as goal

pub returns-clause-same : goal.returns-clause-same
returns-clause-same g c =
    let finds = rw c.in-Ok-Some.field-0-is at c.in-Ok-Some.ensures.found in
    holds_same c.args.cache.now c.in-Ok-Some.handle _ c.args.client.now c.lookup.new.client
    c.read_value-count.new.client c.release.new.client finds.gains
    c.read_value-count.ensures.reads.keeps c.release.ensures.released.loses

pub returns-clause-copies : goal.returns-clause-copies
returns-clause-copies g c =
    let finds = rw c.in-Ok-Some.field-0-is at c.in-Ok-Some.ensures.found in
    record {
      handle = c.in-Ok-Some.handle;
      found = c.lookup.new.client;
      was = c.read_value-count.new.client;
      freed = c.release.result;
      finds = finds;
      searched = rw c.in-Ok-Some.field-0-is at c.in-Ok-Some.ensures.searched;
      counts = c.in-Ok-Some.ensures.counts;
      visits = c.in-Ok-Some.ensures.visits;
      looks = c.lookup.ensures.stays;
      reads = c.read_value-count.ensures.reads;
      copies = c.read_value-count.ensures.stays;
      takes = copy_within c.args.cache.now g.T.Tag.fits c.args.key c.in-Ok-Some.handle
          c.args.client.now c.lookup.new.client c.read_value-count.new.client
          c.read_value-count.result finds c.read_value-count.ensures.length
          c.read_value-count.ensures.steps;
      releases = c.release.ensures.released;
      gives = c.release.ensures.gives;
      by = c.release.ensures.by;
      standing = c.release.ensures.standing;
      counts_last = c.release.ensures.counts;
    }
