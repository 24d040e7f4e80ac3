use Rattle.std.proofs.Common.{◌≡◌, ◌+◌, [], ◌∷◌, ◌++◌, Some, option_to_list, refl, ap, ◌∙◌, length, length-set, slice_get, arith}
use Rattle.std.proofs.lemmas.List.{length_push}
use Rattle.std.proofs.lemmas.Option.{slice_get_read}
use Rattle.hcc_core.proofs.ListLemmas.{read_last}
use Rattle.hcc_cache.specs.declared.client.Client.{Client}
use Rattle.hcc_cache.specs.Opened.{AreGiven, Gains}
use Rattle.hcc_rule.proofs.Entries.ShowParts.{get_front}
use Rattle.hcc_cache.proofs.Beginnings.NewClientsDealt.{given_more}
use Rattle.hcc_cache.proofs.opening.deal.Goals as goal

pub loop-seat-preserved : goal.loop-seat-preserved
loop-seat-preserved g c =
    let kept = c.loop-seat.invariant in
    let short = kept.short in
    let count = kept.count in
    let old = c.args.clients.now.items in
    let seats = c.args.seats.items in
    let clients = c.loop-seat.clients.items in
    let left = c.pop.new.self.items in
    let seat = c.in-Some.seat in
    let was = c.index_mut-client.result.now in
    let is : Client g.row.T.Denot = record was { seats = c.push.new.self } in
    let n = c.len.result in
    let n_is : n ≡ length left = c.len.ensures ∙ c.pop.new.self.ok.0 in
    let popped = ap (λ o. left ++ option_to_list o) c.in-Some.is in
    let whole : c.loop-seat.seats.items ≡ left ++ seat ∷ [] = c.pop.ensures.items ∙ popped in
    let longer = ap length whole ∙ length_push left seat in
    let at : slice_get clients n ≡ Some was =
    slice_get_read clients (length clients) n was refl
    (omega arith) c.index_mut-client.ensures.value in
    let last = ap (slice_get (left ++ seat ∷ [])) n_is ∙ read_last left seat in
    let from : slice_get seats n ≡ Some seat =
    kept.front n seat (ap (λ xs. slice_get xs n) whole ∙ last) in
    let next : n + 1 ≡ length c.loop-seat.seats.items = omega arith in
    let given : AreGiven (n + 1) old seats clients = rw next kept.given in
    let gains : Gains was seat is = record { same = refl; gained = c.in_ok-push.ensures.items } in
    record {
      count = length-set clients n is ∙ count;
      short = omega arith;
      front = λ k s h.
          kept.front k s (ap (λ xs. slice_get xs k) whole ∙ get_front left (seat ∷ []) k s h);
      given = rw (← n_is) (given_more old clients seats n was is seat given at from gains);
    }
