use Rattle.std.proofs.Common.{sym}
use Rattle.hcc_play.proofs.Settling.{absent}
use Rattle.hcc_play.proofs.blocks_command.options_of.Goals as goal

pub returns-in_err-config_of : goal.returns-in_err-config_of
returns-in_err-config_of c =
    rw c.from_residual.ensures
    (λ options given. c.in_err-config_of.ensures options.config given.config)

pub returns-in_err-number : goal.returns-in_err-number
returns-in_err-number c =
    rw c.from_residual-in_err-number.ensures
    (λ options given. absent _ options.block c.in_err-number.ensures given.block)

pub returns : goal.returns
returns c = record { config = c.in_ok-config_of.ensures; block = sym c.in_ok-number.ensures }
