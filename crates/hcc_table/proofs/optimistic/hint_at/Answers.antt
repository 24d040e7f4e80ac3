use Rattle.std.proofs.Common.{sym, ◌∙◌}
use Rattle.hcc_rule.specs.Seats.{view}
use Rattle.hcc_table.proofs.Loads.{loads_then}
use Rattle.hcc_table.proofs.Moments.{lacks_within}
use Rattle.hcc_table.proofs.Peeks.{first_differs, first_held, peek_loads}
use Rattle.hcc_table.proofs.Probes.{buried_by_look}
use Rattle.hcc_table.proofs.ReadProbes.{buried_other, hints_read, look_lacks, look_reads, reads_led}
use Rattle.hcc_table.proofs.Seeking.{seeks_none}
use Rattle.hcc_table.proofs.optimistic.hint_at.Goals as goal

pub returns-then-not-is_shown-clause-by : goal.returns-then-not-is_shown-clause-by
returns-then-not-is_shown-clause-by g c =
    look_reads c.args.table.now c.look_at-seen.result c.look_at-seen.new.seat
    c.look_at-seen.ensures.view c.look_at-seen.ensures.event

pub returns-then-not-is_shown-clause-other : goal.returns-then-not-is_shown-clause-other
returns-then-not-is_shown-clause-other g c =
    let off = sym c.is_shown.ensures ∙ c.if-not-is_shown.true in (
      buried_by_look c.args.key off c.look_at-seen.ensures.backs c.look_at-seen.ensures.view,
      look_lacks c.args.table.now c.args.key c.look_at-seen.result c.look_at-seen.ensures.event off,
    )

pub returns-then-peek_at-key-clause-by : goal.returns-then-peek_at-key-clause-by
returns-then-peek_at-key-clause-by g c =
    hints_read c.args.table.now c.look_at-seen.result c.look_at-seen.new.seat
    c.look_at-seen.ensures.view c.look_at-seen.ensures.event c.peek_at.ensures.view
    (peek_loads c.args.table.now c.args.at.slot c.peek_at.new.seat c.peek_at.ensures.event)

pub returns-then-peek_at-key-clause-other : goal.returns-then-peek_at-key-clause-other
returns-then-peek_at-key-clause-other g c =
    let table = c.args.table.now in
    let seen = c.look_at-seen.new.seat in
    let look = look_reads table c.look_at-seen.result seen c.look_at-seen.ensures.view
    c.look_at-seen.ensures.event in (
      buried_other c.args.key c.args.at.slot (view c.args.seat.now) (view seen)
          (view c.peek_at.new.seat) look.sought.records (first_held c.args.key c.args.at.slot
          (view seen).records c.if-peek_at-key.true c.peek_at.ensures.held),
      lacks_within table (reads_led table look) (first_differs table c.args.at.slot
          c.peek_at.ensures.event c.peek_at.ensures.word c.if-peek_at-key.true)
          (seeks_none table c.peek_at.new.seat),
    )

pub returns-clause-by : goal.returns-clause-by
returns-clause-by g c =
    hints_read c.args.table.now c.look_at-seen.result c.look_at-seen.new.seat
    c.look_at-seen.ensures.view c.look_at-seen.ensures.event
    (c.peek_at-2.ensures.view ∙ c.peek_at.ensures.view) (loads_then c.args.table.now _ _ _
    (peek_loads c.args.table.now c.args.at.slot c.peek_at.new.seat c.peek_at.ensures.event)
    (peek_loads c.args.table.now c.args.at.slot c.peek_at-2.new.seat c.peek_at-2.ensures.event))
