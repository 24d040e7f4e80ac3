use Rattle.std.proofs.Common.{IfOk, subst, sym}
use Rattle.clap.specs.Words.{Text, found_of, rows_of}
use Rattle.hcc_play.proofs.Asking.{no_other}
use Rattle.hcc_play.specs.Requests.{AsksFor}
use Rattle.hcc_play.specs.Settings.{Finds}
use Rattle.hcc_play.proofs.request.asked_of.Goals as goal

pub returns-in-core : goal.returns-in-core
returns-in-core c =
    let rows = rows_of (found_of c.args.options.now) in
    subst (λ (name : Text). Finds (AsksFor name rows) c.core_of.result) (sym c.in-core.is)
    c.core_of.ensures

pub returns-in-run : goal.returns-in-run
returns-in-run c =
    let rows = rows_of (found_of c.args.options.now) in
    subst (λ (name : Text). Finds (AsksFor name rows) c.calls_of.result) (sym c.in-run.is)
    c.calls_of.ensures

pub returns-in-blocks : goal.returns-in-blocks
returns-in-blocks c =
    let rows = rows_of (found_of c.args.options.now) in
    subst (λ (name : Text). IfOk c.reads_of.result (Finds (AsksFor name rows)))
    (sym c.in-blocks.is) c.reads_of.ensures

pub returns-in_default : goal.returns-in_default
returns-in_default c =
    no_other _ c.args.name.now c.in_default.not-core c.in_default.not-run c.in_default.not-blocks
