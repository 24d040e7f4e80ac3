-- A small shard, and what clients have between calls of `hcc_table`.
use Rattle.std.specs.Prelude.{◌≡◌, ℕ, ◌<◌, ◌≤◌, false, [], ◌∷◌, Option, Some, None}
use Rattle.hcc_core.specs.Opening.{new_client}
use Rattle.hcc_rule.specs.declared.rule.Plan.{Plan}
use Rattle.hcc_rule.specs.declared.view.Record.{Record}
use Rattle.hcc_rule.specs.declared.view.View.{View}
use Rattle.hcc_rule_tests.specs.Benches.{IsReady}
use Rattle.hcc_rule.specs.Work.{Carries}
use Rattle.hcc_table.specs.declared.pins.Pin.{Pin}
use Rattle.hcc_table.specs.Readings.{IsReadable}

-- the names of the first handle and of the second
abbrev pub first_name : ℕ
first_name = 7

abbrev pub second_name : ℕ
second_name = 9

-- a pin of this name on a slot of the shard
abbrev pub IsPin : (slots name : ℕ) → Pin → Type 0
IsPin slots name pin = (pin.slot < slots) × (pin.name ≡ name)

-- the pin's reference, on an entry whose value can be read
pub record IsHandle (pin : Pin) (r : Record) : Type 0 where
  pub on : r.slot ≡ pin.slot
  pub called : r.name ≡ pin.name
  pub single : r.weight ≡ 1
  pub counts : r.counting ≡ pin.counting
  pub readable : IsReadable 2 r

module _ {T : Type 0} where
  -- a shard of at least 8 slots, with 2 payload words for each, that is not strict
  pub record IsSmall (p : Plan T) : Type 0 where
    pub slots : 8 ≤ p.geometry.slots
    pub room : p.geometry.room ≡ 2
    pub lax : p.strict ≡ false

  -- one reference, and nothing else in hand
  pub record HoldsOne (pin : Pin) (v : View T) : Type 0 where
    pub one : Record
    pub carries : Carries new_client (one ∷ []) v
    pub is : IsHandle pin one

  -- two references, and nothing else in hand
  pub record HoldsTwo (pin other : Pin) (v : View T) : Type 0 where
    pub one : Record
    pub two : Record
    pub carries : Carries new_client (one ∷ two ∷ []) v
    pub is : IsHandle pin one
    pub other_is : IsHandle other two

  -- the handles that are there, and nothing else in hand
  abbrev pub Holds : ℕ → Option Pin → Option Pin → View T → Type 0
  Holds slots None other v = IsReady v
  Holds slots (Some pin) None v = IsPin slots first_name pin × HoldsOne pin v
  Holds slots (Some pin) (Some other) v =
      IsPin slots first_name pin × IsPin slots second_name other × HoldsTwo pin other v
