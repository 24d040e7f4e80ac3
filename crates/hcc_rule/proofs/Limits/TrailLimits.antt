-- The slots that an entry passed say so at every moment.
use Rattle.std.proofs.Common.{◌≡◌, ℕ, ◌<◌, ◌≤◌, true, List, ap, ◌∙◌, arith}
use Rattle.hcc_core.specs.declared.slot.Slot.{Slot}
use Rattle.hcc_core.specs.declared.slot.Slot.TheVariants as slots
use Rattle.hcc_core.specs.World.{times, trail_of}
use Rattle.hcc_core.proofs.SumLemmas.{total-member}
use Rattle.hcc_rule.specs.declared.key.Key.{Key}
use Rattle.hcc_rule.specs.declared.rule.Plan.{Plan}
use Rattle.hcc_rule.specs.Closing.{key_at}
use Rattle.hcc_rule.specs.Laws.{displacement_word, has_entry}
use Rattle.hcc_rule.specs.Probes.{probe_slot, trail_to}
use Rattle.hcc_rule.specs.Rule.{entry_in, Holds}
use Rattle.hcc_rule.specs.Seats.{IsPlanned}
use Rattle.hcc_rule.proofs.Limits.MadeEntries.{key_is, resident_at}
use Rattle.hcc_rule.proofs.Parts.SlotSteps.{Shard}
use Rattle.hcc_rule.proofs.Probes.ProbeLaws.{passed_before, probe_inside}

module _ {T : Type 0} (fits : T → Key → List ℕ → Type 0) (p : Plan T) (s : Shard fits p)
    (r : Holds fits p s) (planned : IsPlanned p.geometry p.capacity) (key : Key) (i j : ℕ)
    (first : j < i) (inside : i < p.geometry.slots) where
  abbrev slot : ℕ
  slot = probe_slot p.geometry.slots key i

  abbrev earlier : ℕ
  earlier = probe_slot p.geometry.slots key j

  -- where an entry of a key is at one of its probes, each probe before counts it
  pub trail_counted : has_entry p s slot ≡ true → key_at p.geometry.room s.words slot ≡ key
      → 1 ≤ displacement_word p s earlier
  trail_counted has asked =
      let some : 0 < p.geometry.slots = omega arith in
      let e = resident_at fits p s r slot (probe_inside p.geometry.slots key i some) has in
      let trail = r.trails.entries slot (slots.Shareable e.0) e.1
      ∙ ap (λ k. trail_to p.geometry.slots k slot)
      (key_is fits p s r slot e.0.entry (ap entry_in e.1) ∙ asked) in
      let passed = passed_before p.geometry.slots key planned.power j i first inside in
      let same = ap (times earlier) trail in
      let member = total-member (λ (x : Slot). times earlier (trail_of x)) r.world.slots slot
      (slots.Shareable e.0) e.1 in
      let word = r.trails.passed earlier (probe_inside p.geometry.slots key j some) in
      omega arith
