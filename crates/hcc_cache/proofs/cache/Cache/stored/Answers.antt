use Rattle.std.proofs.Common.{◌≡◌, ◌∙◌, ◌-◌, None, length, get_or, slice_set, ap, refl, sym, arith}
use Rattle.hcc_rule.specs.declared.steps.shows.Draft.{Draft}
use Rattle.hcc_table.specs.Lists.{Hands}
use Rattle.hcc_charge.specs.Evicted.{turn_room}
use Rattle.hcc_shard.specs.Callers.{view_of}
use Rattle.hcc_shard.specs.Inserted.{InsertedBy}
use Rattle.hcc_cache.specs.declared.client.Client.{Client}
use Rattle.hcc_cache.specs.Calls.{capacities_of, shard_in}
use Rattle.hcc_cache.specs.Inserts.{draft_of}
use Rattle.hcc_cache.specs.Sharding.{shard_of}
use Rattle.hcc_cache.proofs.Clients.AtOneShard.{ChangesAt, did_at, is_at, only_at, seated_at}
use Rattle.hcc_cache.proofs.Insertions.KnownAfterInsertion.{IsAsked, frees_at, insertable_at, inserts_at, knows_asked, leaves_stored, stores_at, stores_did, told_as}
use Rattle.hcc_cache.proofs.Insertions.AnswersTold.{answers_small, answers_unspent, inserts_did, inserts_told}
use Rattle.hcc_cache.proofs.Clients.ShownAfterwards.{alone_at, knows_shown, was_placed}
use Rattle.hcc_cache.proofs.HandedBack.AloneAfterwards.{alone_same}
use Rattle.hcc_cache.proofs.cache.Cache.stored.Goals as goal

pub insert-requires-clause-seat : goal.insert-requires-clause-seat
insert-requires-clause-seat g c =
    let cache = c.args.self.now in
    let old = c.args.client.now in
    let i = c.shard_number-shard.result in
    let shard = c.index.result.now in
    let was = c.index_mut-seat.result.now in
    let rest = c.next_serial.ensures.rest in
    let at = is_at cache old i shard was c.requires.known c.shard_number-shard.ensures.inside
    c.index.ensures
    (c.index_mut-seat.ensures.value
    ∙ ap (λ (x : Client g.row.T.Denot). get_or x.seats.items i was) rest) in
    (seated_at cache old old i shard was was at).rests

pub insert-requires-clause-may : goal.insert-requires-clause-may
insert-requires-clause-may g c =
    let cache = c.args.self.now in
    let old = c.args.client.now in
    let i = c.shard_number-shard.result in
    let shard = c.index.result.now in
    let was = c.index_mut-seat.result.now in
    let rest = c.next_serial.ensures.rest in
    let at = is_at cache old i shard was c.requires.known c.shard_number-shard.ensures.inside
    c.index.ensures
    (c.index_mut-seat.ensures.value
    ∙ ap (λ (x : Client g.row.T.Denot). get_or x.seats.items i was) rest) in
    insertable_at cache old old i shard was was at g.T.Tag.fits c.args.key c.args.value.now _
    c.requires.fits c.requires.short (λ k inside. omega (arith, c.type_inv.value k))
    (c.requires.paid, c.ranges.charge.fits) c.countdown.ensures.within
    c.next_serial.ensures.serial c.key_to-seeded.ensures.undone
    (sym c.shard_number-shard.ensures.value) c.requires.some

pub returns : goal.returns
returns g c =
    let cache = c.args.self.now in
    let old = c.args.client.now in
    let i = c.shard_number-shard.result in
    let shard = c.index.result.now in
    let was = c.index_mut-seat.result.now in
    let is = c.insert.new.seat in
    let rest = c.next_serial.ensures.rest in
    let answer = c.insert.result in
    let at = is_at cache old i shard was c.requires.known c.shard_number-shard.ensures.inside
    c.index.ensures
    (c.index_mut-seat.ensures.value
    ∙ ap (λ (x : Client g.row.T.Denot). get_or x.seats.items i was) rest) in
    let words = c.key_to-seeded.ensures.words in
    let shards = length cache.shards.items in
    let here = c.shard_number-shard.ensures.value ∙ ap (λ k. shard_of k shards) words in
    let asked = draft_of cache c.args.key c.args.charge c.args.priority (λ x. None) old in
    let draft : Draft = record {
      key = c.key_to-seeded.result.in_shard;
      charge = c.args.charge;
      serial = c.next_serial.result;
      countdown = c.countdown.result;
      name = None;
    } in
    let same : draft ≡ asked = λ j. record {
      key = words j;
      charge = c.args.charge;
      serial = c.next_serial.ensures.serial j;
      countdown = c.countdown.ensures.exact j;
      name = None;
    } in
    let had = turn_room (g.L.FreedList.shelf c.args.list.now) in
    let has = turn_room (g.L.FreedList.shelf c.insert.new.list) in
    let told = told_as cache old old i shard was is at
    (λ s b p d. InsertedBy had has s b p d c.args.value.now answer (view_of was) (view_of is))
    draft
    asked same c.insert.ensures.view in
    let change : ChangesAt old _ i is = record {
      seats = ap (λ (x : Client g.row.T.Denot). slice_set x.seats.items i is) rest;
      number = ap (λ (x : Client g.row.T.Denot). x.number) rest;
      most = ap (λ (x : Client g.row.T.Denot). x.most) rest;
      seed = ap (λ (x : Client g.row.T.Denot). x.seed) rest;
      capacities = ap (λ (x : Client g.row.T.Denot). capacities_of x) rest;
    } in
    let some = c.requires.some in
    let less : c.next_serial.new.self.left ≡ old.left - 1 =
    ap (λ (x : Client g.row.T.Denot). x.left) rest in
    let changed : IsAsked old _ = record {
      handles = ap (λ (x : Client g.row.T.Denot). x.handles) rest;
      alone = ap (λ (x : Client g.row.T.Denot). x.alone) rest;
      held = ap (λ (x : Client g.row.T.Denot). x.held) rest;
      uses = (ap (λ (x : Client g.row.T.Denot). x.used) rest, omega arith);
    } in
    let left = leaves_stored had has cache.geometry.slots cache.capacity cache.strict asked
    c.args.value.now (view_of was) (view_of is) answer refl told in
    let small = answers_small had has cache.geometry.slots cache.capacity cache.strict asked
    c.args.value.now (view_of was) (view_of is) answer told c.requires.small in
    record {
      known =
          knows_asked cache old _ i shard was is at change c.insert.ensures.seat left changed
          c.args.key refl here;
      inserted =
          rw c.answered.ensures
          (inserts_told cache c.args.key c.args.charge c.args.priority c.args.value.now old _
          had has answer small
          (stores_at cache old _ i shard was is at change c.insert.ensures.seat left changed
          c.args.key c.args.charge c.args.priority c.args.value.now here had has answer told));
      evicts =
          rw c.answered.ensures
          (inserts_did cache c.args.key c.args.charge c.args.priority c.args.value.now old _
          g.T.Tag.fits had has answer small
          (stores_did cache old _ i shard was is at change g.T.Tag.fits c.args.key c.args.charge
          c.args.priority here had has draft same answer c.insert.ensures.evicts));
      shown = λ one placed.
          let shown = c.insert.ensures.shown
          (alone_at cache old _ i shard was is at change one)
          (was_placed answer (sym c.answered.ensures ∙ placed)) in
          knows_shown cache old _ i shard was is at change c.args.key
          c.key_to-seeded.result.in_shard shown.0 here words shown.1;
      no_spent = rw c.answered.ensures (answers_unspent answer);
      no_large = rw c.answered.ensures small;
      alone = alone_same old _ change.most changed.alone;
      list = did_at cache old _ i shard was is at change
          (λ z a b. Hands (g.L.FreedList.shelf c.args.list.now)
          (g.L.FreedList.shelf c.insert.new.list) (view_of a) (view_of b)) c.insert.ensures.list
          (shard_in cache c.args.key) here;
      others = only_at cache old _ i shard was is at change (shard_in cache c.args.key) here;
      frees =
          frees_at cache old _ i shard was is at change g.L.FreedList.loads (shard_in cache
          c.args.key) here
          c.insert.ensures.frees;
      steps = inserts_at cache old _ i shard was is at change g.L.FreedList.loads
          c.insert.ensures.steps;
    }
