use Rattle.hcc_c.proofs.image_exports.ferretgold_raw_reopen.Goals as goal

pub returns : goal.returns
returns c = record {
  reopens = (
    c.reopen-answer.result,
    rw (c.whole-image.ensures, c.config.ensures) at c.reopen-answer.ensures,
    c.told_reopened.ensures.status,
    c.told_reopened.ensures.place,
    c.told_reopened.ensures.left_out,
  );
}
