use Rattle.std.proofs.Common.{◌≡◌, Ok, Err, length, arith, refl, subst}
use Rattle.std.proofs.lemmas.Result.{err_from_is_err_and}
use Rattle.hcc_cache.specs.declared.priority.Priority.TheVariants.{Low}
use Rattle.hcc_block.specs.Reads.{Hands}
use Rattle.hcc_block.proofs.Counted.{same_reader}
use Rattle.hcc_block.proofs.Handed.{handed}
use Rattle.hcc_block.proofs.Held.{inserts_same}
use Rattle.hcc_block.proofs.reader.BlockReader.fill.Goals as goal

pub returns-clause-hands : goal.returns-clause-hands
returns-clause-hands g c =
    let cache = c.args.cache.now in
    let value = c.read.new.buffer in
    let did = c.insert.ensures in
    let count : c.args.place.count ≡ length value = omega arith in
    subst (λ key. Hands cache key g.T.Tag.fits value c.args.client.now c.insert.new.client)
    c.key_of.ensures
    (handed cache c.key_of.result g.T.Tag.fits value c.args.place.count c.insert.result
    c.args.client.now c.insert.new.client count did.spent did.large did.inserted did.evicts
    did.shown did.others did.frees did.steps)

pub returns-clause-asks : goal.returns-clause-asks
returns-clause-asks g c =
    subst (λ count. g.S.BlockSource.reads c.args.self.now.source c.args.file c.args.place.from
    count (Ok tt) c.read.new.self) c.requires.len c.in_ok-read.ensures.once

pub returns-in_err-read-clause-asks : goal.returns-in_err-read-clause-asks
returns-in_err-read-clause-asks g c =
    let failed = err_from_is_err_and c.from_residual.result c.from_residual.ensures.1 in
    rw failed.1
    (subst (λ count. g.S.BlockSource.reads c.args.self.now.source c.args.file c.args.place.from
    count (Err (record {})) c.read.new.self) c.requires.len c.in_err-read.ensures.once)

pub returns-clause-rest : goal.returns-clause-rest
returns-clause-rest g c =
    let was = c.args.self.now in
    same_reader c.read.new.self was.block was.hits was.hits was.misses was.misses _ _ refl refl

pub returns-clause-same : goal.returns-clause-same
returns-clause-same g c =
    inserts_same c.args.cache.now c.key_of.result c.args.place.count Low _ c.insert.result
    c.args.client.now c.insert.new.client c.insert.ensures.inserted
