use Rattle.std.proofs.Common.{◌∙◌, ap, codes, false}
use Rattle.std.specs.Option.{option_map_or}
use Rattle.std.specs.Str.{bytes_eq}
use Rattle.clap.proofs.WalkLemmas.{one_text-rows}
use Rattle.clap.specs.Words.{found_of}
use Rattle.hcc_play.proofs.Reading.{flag_read}
use Rattle.hcc_play.proofs.values.flag.Goals as goal

pub returns : goal.returns
returns c =
    let get = c.get_one in
    c.unwrap_or.ensures ∙ flag_read _ _ get.result get.ensures.none get.ensures.value
    ∙ ap (λ o. option_map_or (λ t. bytes_eq t (codes "true")) o false)
    (one_text-rows (found_of c.args.options.now) c.args.name.now)
