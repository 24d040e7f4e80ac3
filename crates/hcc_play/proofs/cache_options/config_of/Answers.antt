use Rattle.std.proofs.Common.{sym}
use Rattle.hcc_play.proofs.Settling.{absent}
use Rattle.hcc_play.proofs.cache_options.config_of.Goals as goal

pub returns-in_err-number : goal.returns-in_err-number
returns-in_err-number c =
    rw c.from_residual.ensures
    (λ config given. absent _ config.slots c.in_err-number.ensures given.slots)

pub returns-in_err-number-2 : goal.returns-in_err-number-2
returns-in_err-number-2 c =
    rw c.from_residual-in_err-number-2.ensures
    (λ config given. absent _ config.room c.in_err-number-2.ensures given.room)

pub returns-in_err-number-3 : goal.returns-in_err-number-3
returns-in_err-number-3 c =
    rw c.from_residual-in_err-number-3.ensures
    (λ config given. absent _ config.clients c.in_err-number-3.ensures given.clients)

pub returns-in_err-number-4 : goal.returns-in_err-number-4
returns-in_err-number-4 c =
    rw c.from_residual-in_err-number-4.ensures
    (λ config given. absent _ config.handles c.in_err-number-4.ensures given.handles)

pub returns-in_err-number-5 : goal.returns-in_err-number-5
returns-in_err-number-5 c =
    rw c.from_residual-in_err-number-5.ensures
    (λ config given. absent _ config.shards c.in_err-number-5.ensures given.shards)

pub returns-in_err-wide_number : goal.returns-in_err-wide_number
returns-in_err-wide_number c =
    rw c.from_residual-in_err-wide_number.ensures
    (λ config given. absent _ config.capacity c.in_err-wide_number.ensures given.capacity)

pub returns-in_err-wide_number-2 : goal.returns-in_err-wide_number-2
returns-in_err-wide_number-2 c =
    rw c.from_residual-in_err-wide_number-2.ensures
    (λ config given. absent _ config.serials c.in_err-wide_number-2.ensures given.serials)

pub returns-in_err-wide_number-3 : goal.returns-in_err-wide_number-3
returns-in_err-wide_number-3 c =
    rw c.from_residual-in_err-wide_number-3.ensures
    (λ config given. absent _ config.seed c.in_err-wide_number-3.ensures given.seed)

pub returns : goal.returns
returns c = record {
  slots = sym c.in_ok-number.ensures;
  room = sym c.in_ok-number-2.ensures;
  clients = sym c.in_ok-number-3.ensures;
  handles = sym c.in_ok-number-4.ensures;
  shards = sym c.in_ok-number-5.ensures;
  capacity = sym c.in_ok-wide_number.ensures;
  strict = c.flag.ensures;
  marks = c.flag-2.ensures;
  serials = sym c.in_ok-wide_number-2.ensures;
  seed = sym c.in_ok-wide_number-3.ensures;
}
