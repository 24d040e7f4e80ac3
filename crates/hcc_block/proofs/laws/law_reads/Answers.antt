use Rattle.std.proofs.Common.{◌∙◌, inl, inr, true, ap, length}
use Rattle.std.specs.Prelude.{None}
use Rattle.hcc_rule.specs.declared.geometry.Geometry.{Geometry}
use Rattle.hcc_cache.specs.declared.priority.Priority.TheVariants.{Low}
use Rattle.hcc_block.specs.Reads.{GoesThrough}
use Rattle.hcc_block.proofs.Held.{holds_what}
use Rattle.hcc_block.proofs.laws.law_reads.Goals as goal

pub returns-clause-hits : goal.returns-clause-hits
unfolding GoesThrough
returns-clause-hits g c = λ config tag cache is_of one key block count before after old new through
    allowed shown. elim through [
      | inl hit ↦ hit.0
      | inr miss ↦ elim miss.1.lacks [
        | inl refused ↦ absurd (allowed refused.0)
        | inr lacks ↦
            let found = c.law_lookups.ensures.there config tag cache is_of one key None
            old miss.1.looked lacks.1 shown in cc
      ]
    ]

pub returns-clause-placed : goal.returns-clause-placed
returns-clause-placed g c = λ config tag cache is_of one key block old new h placed.
    h.hands.shown (ap (λ (x : Geometry). x.clients) is_of.geometry ∙ one) placed

pub returns-clause-kept : goal.returns-clause-kept
returns-clause-kept g c = λ config tag cache is_of one key other old new h shown.
    let stays = c.law_kept_shown.ensures.stays config tag cache is_of one other in
    c.law_kept_shown.ensures.unerased config tag cache is_of one h.handle true h.freed other h.was
    new (holds_what cache h.was h.handle h.releases.held h.releases.was) h.by h.standing
    (stays h.found h.was h.copies (stays old h.found h.looks shown))

pub returns-clause-missed : goal.returns-clause-missed
returns-clause-missed g c = λ config tag cache is_of one key other old new lacks shown.
    elim lacks [
      | inl refused ↦ rw (refused.1) shown
      | inr looked ↦
          c.law_kept_shown.ensures.stays config tag cache is_of one other old new looked.4 shown
    ]

pub returns-clause-filled : goal.returns-clause-filled
returns-clause-filled g c = λ config tag cache is_of one key other block old new h room shown.
    c.law_room.ensures.inserted config tag cache is_of one key (length h.value) Low h.hands.answer
    h.looked new h.hands.evicts room h.hands.others other
    (returns-clause-missed g c config tag cache is_of one key other old h.looked h.lacks shown)
