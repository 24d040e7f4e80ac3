use Rattle.std.proofs.Common.{◌∙◌, ap}
use Rattle.std.specs.Prelude.{option_and_then}
use Rattle.std.specs.Str.Parse.{ExplainsUnsignedError, HasUnsignedDigitsIfOk, ParsesUnsigned}
use Rattle.clap.proofs.WalkLemmas.{one_text-rows}
use Rattle.clap.specs.Words.{found_of}
use Rattle.hcc_play.proofs.Reading.{number_read}
use Rattle.hcc_play.specs.Values.{number_of}
use Rattle.hcc_play.proofs.values.number.Goals as goal

pub returns : goal.returns
returns c =
    number_read 32
    (λ t r. ParsesUnsigned 32 10 t r × ExplainsUnsignedError 10 t r × HasUnsignedDigitsIfOk t r)
    (λ t r given. given.0) _ c.get_one.result c.get_one.ensures.none c.get_one.ensures.value
    ∙ ap (option_and_then (number_of 32))
    (one_text-rows (found_of c.args.options.now) c.args.name.now)
