use Rattle.std.proofs.Common.{◌≡◌, ◌+◌, [], ◌∷◌, ◌++◌, Some, take, refl, length, slice_get, add-one, arith}
use Rattle.std.proofs.lemmas.Option.{slice_get_read}
use Rattle.hcc_cache.specs.Clients.{held_by}
use Rattle.hcc_cache.proofs.Endings.LeastHolder.{holder_more}
use Rattle.hcc_cache.proofs.Basics.Lists.{take_snoc}
use Rattle.hcc_cache.proofs.closing.least_holder.Goals as goal

pub loop-client-preserved : goal.loop-client-preserved
loop-client-preserved g c =
    let clients = c.args.clients.now in
    let i = c.loop-client.client-index in
    let one = c.client-item.result in
    let at : slice_get clients i ≡ Some one =
    slice_get_read clients (length clients) i one refl (omega arith) c.client-item.is in
    let step : take (i + 1) clients ≡ take i clients ++ one ∷ [] =
    rw add-one (take_snoc clients i one at) in
    let more = holder_more held_by (λ x. x.number) (take i clients) one c.loop-client.least
    (held_by one) refl c.loop-client.invariant.found c.loop-client.invariant.none in
    record {
      found = rw (step, c.with_one-least.ensures) more.0;
      none = rw (step, c.with_one-least.ensures) more.1;
    }
