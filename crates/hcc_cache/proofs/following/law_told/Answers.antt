use Rattle.std.proofs.Common.{ap, sym, ◌∙◌, ◌++◌, slice_get}
use Rattle.hcc_cache.proofs.following.law_told.Goals as goal

pub returns : goal.returns
returns g c = λ cache key giver client witness tells follows. record {
  was = tells.seat;
  is = follows.seat;
  seat_was = ap (slice_get giver.seats.items) (sym tells.number_is) ∙ tells.seat_is;
  seat_is = ap (slice_get client.seats.items) (sym tells.number_is) ∙ follows.seat_is;
  more = follows.more;
  goes_on = follows.goes_on ∙ ap (λ ds. ds ++ follows.more) tells.told;
}
