use Rattle.std.proofs.Common.{◌≡◌, ◌∙◌, ◌++◌, Some, drop, replicate, sym, ap, refl, arith}
use Rattle.std.proofs.lemmas.List.{append-nil}
use Rattle.std.proofs.lemmas.Option.{same_Some}
use Rattle.std.specs.Int.{from_le_bytes}
use mir.Syntax.{w64}
use Rattle.hcc_rule.specs.Closing.{key_at, words_of}
use Rattle.hcc_cache.specs.Keys.{key_from}
use Rattle.hcc_cache.specs.Left.{length_of, value_of}
use Rattle.hcc_cache.specs.Objects.{object_of}
use Rattle.hcc_cache.proofs.objects_left.ObjectsLeft.object.Goals as goal

pub returns-in_err-entry : goal.returns-in_err-entry
returns-in_err-entry c =
    let told = c.in_err-entry.ensures in
    (told.0, told.1, rw (c.from_residual.ensures, told.2) refl)

pub value-requires-clause-entry : goal.value-requires-clause-entry
value-requires-clause-entry c =
    let told = c.in_ok-entry.ensures in
    let inside = rw (told.1) at c.requires in
    let long = c.args.self.now.words c.args.self.now.shard c.args.slot told.0 told.1 inside
    told.2.0 in
    (told.0, told.1, (told.2.0, omega (arith, long)))

pub returns : goal.returns
returns c =
    let told = c.in_ok-entry.ensures in
    let x = told.0 in
    let inside = rw (told.1) at c.requires in
    let long = c.args.self.now.words c.args.self.now.shard c.args.slot x told.1 inside told.2.0 in
    let read = c.value.ensures in
    let y = read.0 in
    let twice : Some (Some y) ≡ Some (Some x) = sym read.1 ∙ told.1 in
    let same : y ≡ x = same_Some _ _ (same_Some _ _ twice) in
    let count : c.value.result ≡ 8 = read.2.0 ∙ ap (length_of c.args.slot) same ∙ long in
    let bytes : c.value.new.buffer ≡ value_of c.args.slot x =
    read.2.1 ∙ ap (λ n. value_of c.args.slot y ++ drop n (replicate 8 0)) count
    ∙ append-nil (value_of c.args.slot y) ∙ ap (value_of c.args.slot) same in (
      x,
      told.1,
      rw (told.2.0) (ap Some (ap (λ k. (k, c.of.result)) told.2.1
          ∙ ap (λ o. (
            key_from c.args.self.now.closed.seed (key_at x.table.geometry.room
                (words_of x.table) c.args.slot),
            o,
          )) (c.of.ensures
          ∙ ap object_of (c.from_le_bytes.ensures ∙ ap (from_le_bytes w64) bytes)))),
    )
