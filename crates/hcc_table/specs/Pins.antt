-- The reference that a pin stands for, and what is asked of its release.
use Rattle.std.specs.Prelude.{◌≡◌, Bool, true, false, Option, None, Some, IsSomeAnd}
use Rattle.hcc_rule.specs.declared.layout.TheConstants.{DATA}
use Rattle.hcc_rule.specs.declared.table.RuleTable.{RuleTable}
use Rattle.hcc_rule.specs.declared.view.Record.{Record}
use Rattle.hcc_rule.specs.declared.view.View.{View}
use Rattle.hcc_rule.specs.Callers.{IsSlotOf}
use Rattle.hcc_rule.specs.Records.{record_in}
use Rattle.hcc_rule.specs.Words.{field_at}
use Rattle.hcc_table.specs.declared.pins.IfLast.{IfLast}
use Rattle.hcc_table.specs.declared.pins.IfLast.TheVariants.{Keep, Erase}
use Rattle.hcc_table.specs.declared.pins.Pin.{Pin}
use Rattle.hcc_table.specs.declared.pins.PinAt.{PinAt}
use Rattle.hcc_table.specs.declared.pins.Use.{Use}
use Rattle.hcc_table.specs.declared.pins.Use.TheVariants.{Useful, NotUseful}

-- a single reference on the pin's slot, which counts as the pin says
abbrev pub IsOf : Pin → Record → Type 0
IsOf pin r = (r.slot ≡ pin.slot) × (r.weight ≡ 1) × (r.counting ≡ pin.counting)

-- the client holds the reference that the pin stands for
abbrev pub IsPinned : {T : Type 0} → Pin → View T → Type 0
IsPinned pin v = IsSomeAnd (record_in pin.name v.records) (λ r. IsOf pin r)

-- a pin on a slot of this table, with the address of the slot's first data word
abbrev pub IsPinAt : {T A : Type 0} → RuleTable T A → PinAt → Type 0
IsPinAt table held =
    IsSlotOf table held.pin.slot
    × (held.data ≡ field_at table.geometry.room held.pin.slot DATA)

-- the reference that a search acquired
abbrev pub pin_of : Option PinAt → Option Pin
pin_of None = None
pin_of (Some held) = Some held.pin

abbrev pub is_useful : Use → Bool
is_useful Useful = true
is_useful NotUseful = false

abbrev pub erases : IfLast → Bool
erases Keep = false
erases Erase = true
