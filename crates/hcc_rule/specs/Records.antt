-- What is read of a client's records, by name and by slot.
use Rattle.std.specs.Prelude.{ℕ, not, List, [], ◌∷◌, Option, filter, find, option_map}
use Rattle.hcc_core.specs.declared.slot.Stamp.{Stamp}
use Rattle.hcc_core.specs.Sums.{when, total}
use Rattle.hcc_rule.specs.declared.view.Record.{Record}
use Rattle.hcc_rule.specs.Views.{is_on, is_called}

-- what the records of a slot weigh
abbrev pub weight_on : ℕ → List Record → ℕ
weight_on slot = total (λ r. when (is_on slot r) r.weight)

-- the record of this name
abbrev pub record_in : ℕ → List Record → Option Record
record_in name records = find (is_called name) records

-- those of other slots
abbrev pub off : ℕ → List Record → List Record
off slot records = filter (λ r. not (is_on slot r)) records

-- The first record of each slot, in order. Records of one slot are on one entry, and those of two
-- slots on two, so these are one record for each entry that the client holds.
abbrev pub different : List Record → List Record
different [] = []
different (r ∷ rs) = r ∷ off r.slot (different rs)

-- the charges of the entries that they are on, each once
abbrev pub charge_held : List Record → ℕ
charge_held records = total (λ (r : Record). r.entry.charge) (different records)

-- the stamp of the entry that the records of a slot are on
abbrev pub stamp_on : ℕ → List Record → Option Stamp
stamp_on slot records = option_map (λ (r : Record). r.entry.stamp) (find (is_on slot) records)
