use Rattle.std.proofs.Common.{◌∙◌, ap, refl, sym}
use Rattle.hcc_cache.specs.declared.object_cache.ObjectClient.{ObjectClient}
use Rattle.hcc_cache.specs.Objects.{object_bytes}
use Rattle.hcc_cache.proofs.HandedBack.ListsKept.{keeps_list}
use Rattle.hcc_cache.proofs.HandedBack.WordsOfObjects.{bytes_again}
use Rattle.hcc_cache.proofs.object_cache.ObjectCache.lookup.Goals as goal

pub returns-in-Some-clause-known : goal.returns-in-Some-clause-known
returns-in-Some-clause-known c =
    let old = c.args.client.now in
    let new : ObjectClient = record { client = c.lookup_word.new.client; gone = old.gone } in
    keeps_list c.args.self.now old new c.requires c.in_ok-handle.ensures.known
    c.in_ok-handle.ensures.alone refl

pub returns-in-Some-clause-found : goal.returns-in-Some-clause-found
returns-in-Some-clause-found c =
    let told = rw (c.in-Some.is) at c.in_ok-handle.ensures.found in
    let finds = told.0 in (
      finds,
      bytes_again finds.found.entry.value c.in-Some.word finds.right finds.finds.bytes told.1
          ∙ ap object_bytes (sym c.of.ensures),
    )

pub returns-in-None-clause-known : goal.returns-in-None-clause-known
returns-in-None-clause-known c =
    let old = c.args.client.now in
    let new : ObjectClient = record { client = c.lookup_word.new.client; gone = old.gone } in
    keeps_list c.args.self.now old new c.requires c.in_ok-handle.ensures.known
    c.in_ok-handle.ensures.alone refl
