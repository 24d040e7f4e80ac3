use Rattle.std.proofs.Common.{◌*◌, ◌∙◌, ℕ, Ok, Err, arith, inl, inr, refl, subst}
use Rattle.hcc_cache.specs.Calls.{steps_by}
use Rattle.hcc_block.specs.Reads.{GoesThrough}
use Rattle.hcc_block.proofs.Counted.{same_reader}
use Rattle.hcc_block.proofs.Lying.{block_long, block_short, block_there}
use Rattle.hcc_block.proofs.Named.{fits_only}
use Rattle.hcc_block.proofs.Steps.{hit_within}
use Rattle.hcc_block.proofs.reader.BlockReader.read.Goals as goal

pub copied-requires-clause-room : goal.copied-requires-clause-room
copied-requires-clause-room g c value fits =
    let files = g.S.BlockSource.content c.args.self.now.source in
    let size = c.args.self.now.block in
    let block = fits_only (g.T.Tag.fits c.args.cache.now.tag) files size c.args.file c.args.index
    c.key_of.result value c.requires.tag c.key_of.ensures c.ranges.file.fits c.ranges.index.fits
    fits in
    let short = block_short files size c.args.file c.args.index value block in
    let room = c.requires.room in
    omega arith

pub returns-in-Some-copied-clause-answers : goal.returns-in-Some-copied-clause-answers
returns-in-Some-copied-clause-answers g c =
    let files = g.S.BlockSource.content c.args.self.now.source in
    let size = c.args.self.now.block in
    let found = c.in-Some-copied.ensures.some in
    let block = fits_only (g.T.Tag.fits c.args.cache.now.tag) files size c.args.file c.args.index
    c.key_of.result found.0 c.requires.tag c.key_of.ensures c.ranges.file.fits
    c.ranges.index.fits found.1 in
    (found.0, block, found.2, found.3)

pub returns-in-Some-copied-clause-steps : goal.returns-in-Some-copied-clause-steps
returns-in-Some-copied-clause-steps g c =
    let files = g.S.BlockSource.content c.args.self.now.source in
    let size = c.args.self.now.block in
    let found = c.in-Some-copied.ensures.some in
    let block = fits_only (g.T.Tag.fits c.args.cache.now.tag) files size c.args.file c.args.index
    c.key_of.result found.0 c.requires.tag c.key_of.ensures c.ranges.file.fits
    c.ranges.index.fits found.1 in
    let short = block_short files size c.args.file c.args.index found.0 block in
    let count = found.2 in
    let small = c.requires.block in
    let slots = c.args.cache.now.limits.some_slots in
    hit_within c.args.cache.now.geometry.slots c.args.cache.now.geometry.room
    c.in-Some-copied.count (steps_by c.args.client.now) (steps_by c.copied.new.client)
    (omega arith) (omega arith) c.in-Some-copied.ensures.steps

pub returns-in-Err-clause-answers : goal.returns-in-Err-clause-answers
returns-in-Err-clause-answers g c =
    let files = g.S.BlockSource.content c.args.self.now.source in
    let place = c.in-Some.ensures.some in (
      block_there files c.args.self.now.block c.args.file c.args.index _ _ place.1 place.0,
      c.in-Err.ensures.failed,
    )

pub returns-in_default-clause-through : goal.returns-in_default-clause-through
unfolding GoesThrough
returns-in_default-clause-through g c = refl

pub returns-in-Some-copied-clause-counts : goal.returns-in-Some-copied-clause-counts
returns-in-Some-copied-clause-counts g c =
    inl (same_reader c.args.self.now.source c.args.self.now.block _ _ _ _ _ _
    c.saturating_add-self.ensures refl)

pub returns-in-Ok-clause-counts : goal.returns-in-Ok-clause-counts
returns-in-Ok-clause-counts g c =
    inr (c.in-Ok.ensures.rest ∙ same_reader c.fill.new.self.source c.args.self.now.block
    _ _ _ _ _ _ refl c.saturating_add-self-2.ensures)

pub returns-in-Some-copied-clause-asks : goal.returns-in-Some-copied-clause-asks
returns-in-Some-copied-clause-asks g c =
    inl (same_reader c.args.self.now.source c.args.self.now.block _ _ _ _ _ _
    c.saturating_add-self.ensures refl)

pub returns-in-Ok-clause-asks : goal.returns-in-Ok-clause-asks
returns-in-Ok-clause-asks g c =
    let place = c.in-Some.ensures.some in
    inr (subst (λ from. g.S.BlockSource.reads c.args.self.now.source c.args.file from
    c.in-Some.place.count (Ok tt) c.fill.new.self.source) place.1.starts c.in-Ok.ensures.asks)

pub returns-in-Err-clause-asks : goal.returns-in-Err-clause-asks
returns-in-Err-clause-asks g c =
    let files = g.S.BlockSource.content c.args.self.now.source in
    let place = c.in-Some.ensures.some in
    let size = c.args.self.now.block in
    let read = λ (from count : ℕ). g.S.BlockSource.reads c.args.self.now.source c.args.file from
    count (Err (record {})) c.fill.new.self.source in
    block_long files size c.args.file c.args.index c.in-Some.place.from c.in-Some.place.count
    (read (c.args.index * size)) place.1
    (subst (λ from. read from c.in-Some.place.count) place.1.starts c.in-Err.ensures.asks)

pub returns-in-Ok-clause-refused : goal.returns-in-Ok-clause-refused
returns-in-Ok-clause-refused g c refused there =
    c.in-Ok.ensures.rest ∙ same_reader c.fill.new.self.source c.args.self.now.block
    _ _ _ _ _ _ refl c.saturating_add-self-2.ensures

pub returns-in-Some-copied-clause-through : goal.returns-in-Some-copied-clause-through
unfolding GoesThrough
returns-in-Some-copied-clause-through g c =
    inl (
      same_reader c.args.self.now.source c.args.self.now.block _ _ _ _ _ _
          c.saturating_add-self.ensures refl,
      rw c.key_of.ensures at c.in-Some-copied.ensures.copies,
      c.in-Some-copied.ensures.steps,
    )

pub returns-in-Ok-clause-through : goal.returns-in-Ok-clause-through
unfolding GoesThrough
returns-in-Ok-clause-through g c =
    inr (
      c.in-Ok.ensures.rest
          ∙ same_reader c.fill.new.self.source c.args.self.now.block _ _ _ _ _ _ refl
          c.saturating_add-self-2.ensures,
      record {
        value = c.fill.new.bytes;
        is = c.in-Ok.ensures.ok;
        looked = c.copied.new.client;
        lacks = rw c.key_of.ensures at c.in_default-copied.ensures.lacks;
        hands = c.in-Ok.ensures.hands;
      },
    )

pub returns-in-Err-clause-through : goal.returns-in-Err-clause-through
unfolding GoesThrough
returns-in-Err-clause-through g c =
    rw c.in-Err.ensures.nothing (rw c.key_of.ensures at c.in_default-copied.ensures.lacks)
