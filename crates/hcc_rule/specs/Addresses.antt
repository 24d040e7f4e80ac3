-- Where the words of a slot stand, and the ledger words.
use Rattle.std.specs.Prelude.{ℕ, ◌+◌}
use Rattle.hcc_rule.specs.declared.layout.TheConstants.{META, DISPLACEMENT, DATA}
use Rattle.hcc_rule.specs.declared.table.RuleTable.{RuleTable}
use Rattle.hcc_rule.specs.Words.{field_at, ledger_at}

module _ {T A : Type 0} where
  -- where the words of a slot stand, and the ledger words
  abbrev pub address_of_meta : RuleTable T A → (slot : ℕ) → ℕ
  address_of_meta table slot = field_at table.geometry.room slot META

  abbrev pub address_of_displacement : RuleTable T A → (slot : ℕ) → ℕ
  address_of_displacement table slot = field_at table.geometry.room slot DISPLACEMENT

  abbrev pub address_of_data : RuleTable T A → (slot index : ℕ) → ℕ
  address_of_data table slot index = field_at table.geometry.room slot (DATA + index)

  abbrev pub address_of_ledger : RuleTable T A → (ledger : ℕ) → ℕ
  address_of_ledger table ledger = ledger_at table.geometry.slots table.geometry.room ledger
