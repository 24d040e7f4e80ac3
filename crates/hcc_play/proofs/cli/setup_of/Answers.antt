use Rattle.std.proofs.Common.{◌∙◌, sym}
use Rattle.hcc_play.proofs.Settling.{absent, not_played, opens}
use Rattle.hcc_play.proofs.cli.setup_of.Goals as goal

pub returns-in_err-number-clause-given : goal.returns-in_err-number-clause-given
returns-in_err-number-clause-given c =
    rw c.from_residual.ensures (λ setup h. absent _ setup.slots c.in_err-number.ensures h.0.slots)

pub returns-in_err-number-2-clause-given : goal.returns-in_err-number-2-clause-given
returns-in_err-number-2-clause-given c =
    rw c.from_residual-in_err-number-2.ensures
    (λ setup h. absent _ setup.clients c.in_err-number-2.ensures h.0.clients)

pub returns-in_err-wide_number-clause-given : goal.returns-in_err-wide_number-clause-given
returns-in_err-wide_number-clause-given c =
    rw c.from_residual-in_err-wide_number.ensures
    (λ setup h. absent _ setup.capacity c.in_err-wide_number.ensures h.0.capacity)

pub returns-then-is_played-clause-opens : goal.returns-then-is_played-clause-opens
returns-then-is_played-clause-opens c =
    opens _ (sym c.is_played.ensures ∙ c.if-is_played.true)

pub returns-then-is_played-clause-given : goal.returns-then-is_played-clause-given
returns-then-is_played-clause-given c = (
  record {
    slots = sym c.in_ok-number.ensures;
    clients = sym c.in_ok-number-2.ensures;
    capacity = sym c.in_ok-wide_number.ensures;
    strict = c.flag.ensures;
  },
  sym c.is_played.ensures ∙ c.if-is_played.true,
)

pub returns-else-is_played-clause-given : goal.returns-else-is_played-clause-given
returns-else-is_played-clause-given c =
    λ other h. not_played _ _ (record {
      slots = sym c.in_ok-number.ensures;
      clients = sym c.in_ok-number-2.ensures;
      capacity = sym c.in_ok-wide_number.ensures;
      strict = c.flag.ensures;
    }) (sym c.is_played.ensures ∙ c.if-is_played.false) other h
