use Rattle.std.proofs.Common.{◌<◌, arith, length, map, string_bytes}
use Rattle.std.proofs.lemmas.List.{length-map}
use Rattle.hcc_play.proofs.Asking.{declines, found_asked, found_opens}
use Rattle.hcc_play.proofs.Lines.{runs_as, too_few}
use Rattle.hcc_play.specs.Requests.{request_of}
use Rattle.hcc_play.proofs.request.asked.Goals as goal

pub returns-then-words-le1-clause-line : goal.returns-then-words-le1-clause-line
returns-then-words-le1-clause-line g c =
    let words = map string_bytes c.args.words.now in
    λ name uses is are. too_few name uses are words is
    (omega (arith, length-map c.args.words.now string_bytes, c.if-words-le1.true))

pub returns-in-Ok : goal.returns-in-Ok
returns-in-Ok g c =
    let words = map string_bytes c.args.words.now in
    let given = c.in-Ok.ensures.ok in
    let more : 1 < length words =
    omega (arith, length-map c.args.words.now string_bytes, c.if-words-le1.false) in
    let asked = found_asked words _ more given.0 given.1 c.asked_by.result c.asked_by.ensures in
    record {
      opens = rw c.found.ensures (found_opens _ c.asked_by.result c.asked_by.ensures);
      asked = rw c.found.ensures asked;
      line = rw c.found.ensures (λ name uses is are. runs_as name uses are words is
          (request_of c.asked_by.result) asked);
    }

pub returns-in-Err : goal.returns-in-Err
returns-in-Err g c =
    let words = map string_bytes c.args.words.now in
    let more : 1 < length words =
    omega (arith, length-map c.args.words.now string_bytes, c.if-words-le1.false) in
    record {
      opens = tt;
      asked = (more, declines words _ _ c.in-Err.ensures.err c.refused.ensures);
      line = λ name uses is are. tt;
    }
