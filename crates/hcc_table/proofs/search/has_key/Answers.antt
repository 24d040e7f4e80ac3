use Rattle.std.proofs.Common.{◌≡◌, subst, sym}
use Rattle.std.specs.Prelude.{IsSomeAnd}
use Rattle.std.proofs.lemmas.Bool.{eqb-true, eqb-false}
use Rattle.hcc_rule.specs.declared.layout.TheConstants.{KEY0, KEY1}
use Rattle.hcc_rule.specs.Records.{record_in}
use Rattle.hcc_rule.specs.Seats.{view}
use Rattle.hcc_table.proofs.Logs.{unmarked_then, unmarked_zero}
use Rattle.hcc_table.proofs.Probings.{first_other, loads_key, second_other}
use Rattle.hcc_table.proofs.Searches.{read_there, sought_then}
use Rattle.hcc_table.proofs.Seeking.{seeks_read, seeks_then}
use Rattle.hcc_table.proofs.search.has_key.Goals as goal

pub returns-then-read_at-key-clause-view : goal.returns-then-read_at-key-clause-view
returns-then-read_at-key-clause-view g c =
    let before = (view c.args.seat.now) in
    let between = (view c.read_at.new.seat) in
    let after = (view c.read_at-then-read_at-key.new.seat) in
    sought_then before between after
    (read_there c.args.name KEY0 before between c.read_at.ensures.view)
    (read_there c.args.name KEY1 between after c.read_at-then-read_at-key.ensures.view)

pub returns-then-read_at-key-clause-loads : goal.returns-then-read_at-key-clause-loads
returns-then-read_at-key-clause-loads g c same =
    loads_key c.args.table.now c.args.at.slot c.read_at.ensures.step
    c.read_at-then-read_at-key.ensures.step c.if-read_at-key.true (eqb-true _ _ same)

pub returns-then-read_at-key-clause-differs : goal.returns-then-read_at-key-clause-differs
returns-then-read_at-key-clause-differs g c other =
    second_other c.args.table.now c.args.at.slot c.read_at.ensures.step
    c.read_at-then-read_at-key.ensures.step (eqb-false _ _ other)

pub returns-then-read_at-key-clause-adds : goal.returns-then-read_at-key-clause-adds
returns-then-read_at-key-clause-adds g c =
    unmarked_then (unmarked_zero c.read_at.ensures.step)
    (unmarked_zero c.read_at-then-read_at-key.ensures.step)

pub returns-else-read_at-key-clause-differs : goal.returns-else-read_at-key-clause-differs
returns-else-read_at-key-clause-differs g c _ =
    first_other c.args.table.now c.args.at.slot c.read_at.ensures.step c.if-read_at-key.false

pub returns-else-read_at-key-clause-adds : goal.returns-else-read_at-key-clause-adds
returns-else-read_at-key-clause-adds g c = unmarked_zero c.read_at.ensures.step

pub returns-then-read_at-key-clause-seeks : goal.returns-then-read_at-key-clause-seeks
returns-then-read_at-key-clause-seeks g c =
    seeks_then c.args.table.now c.args.seat.now c.read_at.new.seat
    c.read_at-then-read_at-key.new.seat (seeks_read c.args.table.now c.args.name
    (λ r. r.slot ≡ c.args.at.slot) c.requires.holds c.read_at.ensures.event)
    (seeks_read c.args.table.now c.args.name (λ r. r.slot ≡ c.args.at.slot) (subst
    (λ rs. IsSomeAnd (record_in c.args.name rs) (λ r. r.slot ≡ c.args.at.slot)) (sym
    (read_there c.args.name KEY0 (view c.args.seat.now) (view c.read_at.new.seat)
    c.read_at.ensures.view).records) c.requires.holds) c.read_at-then-read_at-key.ensures.event)

pub returns-else-read_at-key-clause-seeks : goal.returns-else-read_at-key-clause-seeks
returns-else-read_at-key-clause-seeks g c =
    seeks_read c.args.table.now c.args.name (λ r. r.slot ≡ c.args.at.slot) c.requires.holds
    c.read_at.ensures.event
