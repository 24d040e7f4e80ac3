-- What a shard shows while a call goes on there, whatever the call does.
use Rattle.std.specs.Prelude.{◌≡◌, ◌≢◌, ℕ, ◌<◌, List, ◌∷◌, ◌++◌, Some, option_map, slice_get}
use Rattle.hcc_core.specs.declared.event.Phase.TheVariants as phases
use Rattle.hcc_core.specs.declared.slot.Entry.{Entry}
use Rattle.hcc_core.specs.World.{State, phase_of}
use Rattle.hcc_rule.specs.declared.key.Key.{Key}
use Rattle.hcc_rule.specs.declared.table.RuleTable.{RuleTable}
use Rattle.hcc_rule.specs.declared.view.Done.{Done}
use Rattle.hcc_rule.specs.Acts.{IsStepBy, past, world_of}
use Rattle.hcc_rule.specs.Callers.{plan_of, slots_of}
use Rattle.hcc_rule.specs.Probes.{probe_slot}
use Rattle.hcc_rule.specs.Seats.{SeatOf, view}
use Rattle.hcc_rule.specs.Words.{key_of}
use Rattle.hcc_table.specs.declared.inserting.Insertion.{Insertion}
use Rattle.hcc_table.specs.declared.inserting.Insertion.TheVariants.{Placed, Matched, NoSlot}
use Rattle.hcc_table.specs.Standing.{ShowsKey, shown_at}

module _ {T A : Type 0} (table : RuleTable T A) (old new : SeatOf T) where
  -- These events came behind what a seat knew when its call began. One of them is a step of the
  -- seat's own client, and what the seat knew when the call ended goes on from them: so the world
  -- after them stood between the first and the last step of the call.
  pub record IsWithin (since : List Done) : Type 0 where
    pub before : List Done
    pub first : Done
    pub rest : List Done
    pub is : since ≡ before ++ first ∷ rest
    pub own : IsStepBy (view old).client first.event
    pub later : List Done
    pub goes_on : past new ≡ (past old ++ since) ++ later

  -- At some moment of the call this held of the world.
  pub record HoldsOnce (P : State → Type 0) : Type 0 where
    pub since : List Done
    pub within : IsWithin since
    pub holds : P (world_of (plan_of table) (past old ++ since))

  -- the slot didn't show the key then
  abbrev pub LacksWithin : Key → (slot : ℕ) → Type 0
  LacksWithin key slot = HoldsOnce (λ world. ¬ ShowsKey world key slot)

  -- the slot showed this entry then
  abbrev pub ShowsWithin : (slot : ℕ) → Entry → Type 0
  ShowsWithin slot entry = HoldsOnce (λ world. shown_at world slot ≡ Some entry)

  -- the slot wasn't empty then: it had an entry, or was a client's to build or to free
  abbrev pub TakenWithin : (slot : ℕ) → Type 0
  TakenWithin slot =
      HoldsOnce (λ world. option_map phase_of (slice_get world.slots slot) ≢ Some phases.Empty)

  -- the slot of each earlier probe lacked the key at some moment
  abbrev pub LacksBefore : Key → (i : ℕ) → Type 0
  LacksBefore key i = (j : ℕ) → j < i → LacksWithin key (probe_slot (slots_of table) key j)

  -- What an insertion met at the probes of its key, by its answer: the slot of each probe that it
  -- passed lacked the key at some moment. Matched: the slot where it ended showed an entry of the
  -- key at some. No slot: each slot lacked the key at some moment, and was taken at some.
  abbrev pub MeetsWithin : Key → Insertion → Type 0
  MeetsWithin key (Placed slot) =
      (i : ℕ) × (slot ≡ probe_slot (slots_of table) key i) × LacksBefore key i
  MeetsWithin key Matched =
      (i : ℕ) × (entry : Entry) × (key_of entry ≡ key)
      × ShowsWithin (probe_slot (slots_of table) key i) entry × LacksBefore key i
  MeetsWithin key NoSlot =
      (slot : ℕ) → slot < slots_of table → LacksWithin key slot × TakenWithin slot
