use Rattle.std.proofs.Common.{[], inl, inr, refl, sym, subst}
use Rattle.std.proofs.lemmas.List.{append-nil}
use Rattle.hcc_cache.specs.Calls.{shard_in}
use Rattle.hcc_cache.specs.Following.{OnlyLoads}
use Rattle.hcc_cache.specs.Since.{GoesOnAt}
use Rattle.hcc_cache.proofs.Clients.HeldThrough.{goes_then}
use Rattle.hcc_cache_tests.specs.Chains.{IsHiddenFrom}
use Rattle.hcc_cache_tests.proofs.chains.finds_what_another_holds.Goals as goal

pub returns : goal.returns
returns g c = λ handle found missed.
    let began = c.in_ok-cache in
    let cache = began.cache in
    let key = c.args.key in
    let number = shard_in cache key in
    let within = began.ensures.began in
    let before = began.second in
    let holder = c.lookup-held.new.client in
    let known = c.lookup-held.ensures.known in
    let told = c.follow.new.client in
    let new = c.lookup-found.new.client in
    let last = c.follow-2.new.client in
    let of_second = c.witness-of_second in
    let of_first = c.witness-of_first in
    let loads : OnlyLoads cache number holder last =
    subst (λ z. OnlyLoads cache number z last) of_second.ensures.same
    (subst (λ n. OnlyLoads cache n of_second.new.client last) of_first.ensures.tells.number_is
    c.follow-2.ensures.loads) in
    let first : GoesOnAt number holder told =
    c.law_told.ensures cache key holder told of_second.result of_second.ensures.tells
    c.follow.ensures.follows in
    let then : GoesOnAt number new last =
    c.law_told.ensures cache key new last of_first.result of_first.ensures.tells
    c.follow-2.ensures.follows in
    let searched = rw missed at c.lookup-found.ensures.searched in
    subst (λ z. IsHiddenFrom cache key z) (sym of_first.ensures.same)
    (elim (c.law_found.ensures.held cache within key handle before holder began.ensures.second
    (rw found at c.lookup-held.ensures.searched)) [
      | inl knew ↦
          let at = c.lookup-found.ensures.stays.each number knew.shown.shard first.is
          knew.shown.shard_is first.seat_is in
          let middle : GoesOnAt number told new =
          record {
            was = first.is;
            is = at.0;
            seat_was = first.seat_is;
            seat_is = at.1;
            more = at.2.more;
            goes_on = at.2.goes_on;
          } in
          let rest = goes_then number told new last middle then in
          elim (c.law_shown_since.ensures.since cache within key holder told first knew.shown) [
            | inl now ↦
                let held =
                c.law_held_through.ensures cache within key before.used holder last known knew loads
                told now.0 now.1 first rest.0 middle.more then.more rest.1 in
                record {
                  before = before;
                  holder = holder;
                  told = told;
                  how = inr (inr (
                    now.0,
                    c.law_lookups.ensures.pinned cache within key told new c.follow.ensures.known
                        searched now.0 middle held,
                  ));
                }
            | inr taken ↦
                let all = goes_then number holder told last first rest.0 in
                let none : GoesOnAt number holder holder =
                record {
                  was = first.was;
                  is = first.was;
                  seat_was = first.seat_was;
                  seat_is = first.seat_was;
                  more = [];
                  goes_on = sym (append-nil _);
                } in
                let held =
                c.law_held_through.ensures cache within key before.used holder last known knew loads
                holder knew.shown refl none all.0 first.more rest.0.more all.1 in
                record {
                  before = before;
                  holder = holder;
                  told = told;
                  how = inr (inl (record {
                    name = before.used;
                    knew = knew;
                    goes = first;
                    taken = taken;
                    hid = c.law_shown_since.ensures.held cache within key holder knew.shown
                        first.more taken held;
                  }));
                }
          ]
      | inr lost ↦ record { before = before; holder = holder; told = told; how = inl lost }
    ])
