use Rattle.std.proofs.Common.{◌≡◌, ◌+◌, [], ◌∷◌, ◌++◌, Some, take, refl, length, slice_get, add-one, arith}
use Rattle.std.proofs.lemmas.Option.{slice_get_read}
use Rattle.hcc_cache.specs.ObjectsClosed.{handles_of}
use Rattle.hcc_cache.proofs.Endings.LeastHolder.{holder_more}
use Rattle.hcc_cache.proofs.Basics.Lists.{take_snoc}
use Rattle.hcc_cache.proofs.object_closing.least_holder.Goals as goal

pub loop-it-preserved : goal.loop-it-preserved
loop-it-preserved c =
    let clients = c.args.clients.now in
    let i = c.loop-it.it-index in
    let one = c.it-item.result in
    let at : slice_get clients i ≡ Some one =
    slice_get_read clients (length clients) i one refl (omega arith) c.it-item.is in
    let step : take (i + 1) clients ≡ take i clients ++ one ∷ [] =
    rw add-one (take_snoc clients i one at) in
    let more = holder_more handles_of (λ x. x.client.number) (take i clients) one c.loop-it.least
    (handles_of one) refl c.loop-it.invariant.found c.loop-it.invariant.none in
    record {
      found = rw (step, c.lower-least.ensures, c.held.ensures) more.0;
      none = rw (step, c.lower-least.ensures, c.held.ensures) more.1;
    }
