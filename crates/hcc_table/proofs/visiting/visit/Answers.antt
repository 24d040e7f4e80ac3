use Rattle.std.proofs.Common.{ℕ, ap, ◌∙◌, rules}
use Rattle.hcc_rule.specs.declared.view.View.{View}
use Rattle.hcc_rule.specs.Callers.{room_of, slots_of}
use Rattle.hcc_rule.specs.Addresses.{address_of_meta}
use Rattle.hcc_rule.specs.Seats.{atomic, view}
use Rattle.hcc_table.specs.declared.visiting.ClockVisit.{ClockVisit}
use Rattle.hcc_table.specs.declared.visiting.ClockVisit.TheVariants as visits
use Rattle.hcc_table.specs.Searched.{Sought}
use Rattle.hcc_table.specs.Visited.{Swept, Visited}
use Rattle.hcc_word.specs.declared.layout.TheConstants.{CONSTRUCTION_WORD}
use Rattle.hcc_table.proofs.Gives.{freed_after}
use Rattle.hcc_table.proofs.Handed.{counted_none, hands_none}
use Rattle.hcc_table.proofs.Logs.{begins_with_two, makes_two}
use Rattle.hcc_table.proofs.Probes.{looked_at}
use Rattle.hcc_table.proofs.Searches.{sought_then}
use Rattle.hcc_table.proofs.visiting.visit.Goals as goal

pub returns-in-None-clause-visit : goal.returns-in-None-clause-visit
returns-in-None-clause-visit g c = by c.sweep.result c.sweep.ensures.visit
  where
    slots : ℕ
    slots = slots_of c.args.table.now

    room : ℕ
    room = room_of c.args.table.now

    address : ℕ
    address = address_of_meta c.args.table.now c.args.slot

    word : ℕ
    word = c.look_at-word.result

    looked : Sought (view c.args.seat.now) (view c.look_at-word.new.seat)
    looked =
        looked_at c.args.slot word (view c.args.seat.now) (view c.look_at-word.new.seat)
        c.look_at-word.ensures.view

    by : (visit : ClockVisit)
        → Swept g.T.Tag.fits slots room address c.args.slot word visit c.look_at-word.new.seat
        c.sweep.new.seat
        → Visited g.T.Tag.fits slots room address c.args.slot visit c.args.seat.now c.sweep.new.seat
    by visits.Passed swept = absurd swept
    by visits.Pinned swept = absurd swept
    by visits.Counted swept = absurd swept
    by visits.Lost swept =
        let lost = swept.0 in (
          word,
          CONSTRUCTION_WORD,
          lost.0,
          lost.1,
          makes_two (atomic address 0 0 word) (atomic address word CONSTRUCTION_WORD lost.0)
              c.args.seat.now c.look_at-word.new.seat c.sweep.new.seat
              c.look_at-word.ensures.step.step
              lost.2.step,
          sought_then _ _ _ looked swept.1,
          search rules,
          search rules,
        )
    by (visits.Freed charge hit) swept = (
      word,
      begins_with_two (atomic address 0 0 word) (atomic address word CONSTRUCTION_WORD word)
          c.args.seat.now c.look_at-word.new.seat c.sweep.new.seat c.look_at-word.ensures.step.step
          swept.0,
      swept.1,
      freed_after g.T.Tag.fits room (view c.sweep.new.seat) looked.searched
          (ap (λ (v : View g.row.T.Denot). v.met) c.look_at-word.ensures.view)
          (ap (λ (v : View g.row.T.Denot). v.glimpse) c.look_at-word.ensures.view) swept.2,
      search rules,
      search rules,
      search rules,
      search rules,
      search rules,
      search rules,
    )

pub returns-in-Some-clause-list : goal.returns-in-Some-clause-list
returns-in-Some-clause-list g c =
    hands_none (counted_none (address_of_meta c.args.table.now c.args.slot) c.look_at-word.result
    c.count_down.result c.look_at-word.new.seat c.count_down.new.seat c.count_down.ensures.visit
    ∙ ap (λ (v : View g.row.T.Denot). v.gone) c.look_at-word.ensures.view)

pub returns-then-refs-ne0-clause-list : goal.returns-then-refs-ne0-clause-list
returns-then-refs-ne0-clause-list g c =
    hands_none (ap (λ (v : View g.row.T.Denot). v.gone) c.look_at-word.ensures.view)
