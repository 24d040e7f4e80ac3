use Rattle.std.proofs.Common.{◌∙◌}
use Rattle.hcc_player.proofs.NumberLemmas.{read_law, takes_decimal}
use Rattle.hcc_player.proofs.number.number.Goals as goal

pub returns-clause-read : goal.returns-clause-read
returns-clause-read c = read_law c.args.word.now c.numeral.result c.numeral.ensures

pub returns-clause-takes : goal.returns-clause-takes
returns-clause-takes c = λ n small e. c.numeral.ensures ∙ takes_decimal n c.args.word.now small e
