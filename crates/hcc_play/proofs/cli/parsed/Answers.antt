use Rattle.std.proofs.Common.{map, string_bytes}
use Rattle.hcc_play.proofs.Parsing.{parsed_err, parsed_ok}
use Rattle.hcc_play.proofs.cli.parsed.Goals as goal

pub returns : goal.returns
returns c =
    let is = c.in_ok-command.ensures.0 in
    let words = map string_bytes c.args.words.now in
    let parse = c.try_get_matches_from in
    record {
      ok = parsed_ok _ words is parse.result parse.ensures.matches parse.ensures.kinds;
      err = parsed_err _ words is parse.result parse.ensures.kinds;
    }
