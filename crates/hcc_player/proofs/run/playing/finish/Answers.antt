use Rattle.std.proofs.Common.{◌≡◌, [], ◌++◌, string_bytes, ap, subst, ◌∙◌}
use Rattle.std.specs.Io.KnownBytes.{Appends}
use Rattle.hcc_player.specs.PlayRun.{Agree, Ended, EndedPart}
use Rattle.hcc_player.specs.Report.{sums_text}
use Rattle.hcc_player.proofs.ByteLemmas.{all_out, leaves_kept, leaves_none, on_error, on_ok}
use Rattle.hcc_player.proofs.ByteLemmas.{writes_nothing}
use Rattle.hcc_player.proofs.run.playing.finish.Goals as goal

pub returns-in_err-report-clause-part : goal.returns-in_err-report-clause-part
returns-in_err-report-clause-part g c =
    let contents = g.W.Write.contents c.args.writer.now in
    let sums = c.sums_of-sums.result in
    let agree : Agree sums = record {
      charged = c.sums_of-sums.ensures.charged;
      occupies = c.sums_of-sums.ensures.occupies;
    } in
    let ended : EndedPart contents contents (string_bytes c.args.pending.now) =
    (sums, agree, writes_nothing contents (string_bytes c.args.pending.now ++ sums_text sums)) in
    on_error c.from_residual.result _ ended

pub returns-in_err-push_str-clause-part : goal.returns-in_err-push_str-clause-part
returns-in_err-push_str-clause-part g c =
    let contents = g.W.Write.contents c.args.writer.now in
    let sums = c.sums_of-sums.result in
    let agree : Agree sums = record {
      charged = c.sums_of-sums.ensures.charged;
      occupies = c.sums_of-sums.ensures.occupies;
    } in
    let ended : EndedPart contents contents (string_bytes c.args.pending.now) =
    (sums, agree, writes_nothing contents (string_bytes c.args.pending.now ++ sums_text sums)) in
    on_error c.from_residual-in_err-push_str.result _ ended

pub returns-clause-part : goal.returns-clause-part
returns-clause-part g c =
    let sums = c.sums_of-sums.result in
    let pending = string_bytes c.args.pending.now in
    let old = g.W.Write.contents c.args.writer.now in
    let mid = g.W.Write.contents c.write_out.new.writer in
    let new = g.W.Write.contents c.flush.new.writer in
    let bytes = pending ++ sums_text sums in
    let agree : Agree sums = record {
      charged = c.sums_of-sums.ensures.charged;
      occupies = c.sums_of-sums.ensures.occupies;
    } in
    let whole : c.as_bytes.result.now ≡ bytes =
    c.as_bytes.ensures.value ∙ c.in_ok-push_str.ensures.bytes
    ∙ ap (λ b. pending ++ b) (c.deref.ensures ∙ c.in_ok-report.ensures) in
    let out : Appends old mid bytes = subst (Appends old mid) whole c.in_ok-write_out.ensures.ok in
    let ended : EndedPart old new pending = (
      sums,
      agree,
      (
        [],
        leaves_kept old mid new bytes [] (leaves_none old mid bytes out)
            c.flush.ensures.kept,
      ),
    ) in
    on_error c.flush.result _ ended

pub returns-clause-ok : goal.returns-clause-ok
returns-clause-ok g c =
    let sums = c.sums_of-sums.result in
    let pending = string_bytes c.args.pending.now in
    let old = g.W.Write.contents c.args.writer.now in
    let mid = g.W.Write.contents c.write_out.new.writer in
    let new = g.W.Write.contents c.flush.new.writer in
    let bytes = pending ++ sums_text sums in
    let agree : Agree sums = record {
      charged = c.sums_of-sums.ensures.charged;
      occupies = c.sums_of-sums.ensures.occupies;
    } in
    let whole : c.as_bytes.result.now ≡ bytes =
    c.as_bytes.ensures.value ∙ c.in_ok-push_str.ensures.bytes
    ∙ ap (λ b. pending ++ b) (c.deref.ensures ∙ c.in_ok-report.ensures) in
    let out : Appends old mid bytes = subst (Appends old mid) whole c.in_ok-write_out.ensures.ok in
    let ended : Ended g.T.Tag.fits c.args.cache c.args.clients.items c.args.registers.items old new
    pending = (
      sums,
      agree,
      (c.closed.result, c.closed.ensures, c.sums_of-sums.ensures.read),
      all_out old new bytes (leaves_kept old mid new bytes [] (leaves_none old mid bytes out)
          c.flush.ensures.kept),
    ) in
    on_ok c.flush.result _ ended
