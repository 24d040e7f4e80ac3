-- How counts of calls rise: none of them falls.
use Rattle.std.specs.Prelude.{◌≡◌, ℕ}
use Rattle.hcc_table.specs.declared.efforts.Effort.{Effort}
use Rattle.hcc_table.specs.Rises.{Rose}

-- So many slots were visited, at least and at most; at most so many corrections were made, and as
-- many exchanges lost.
abbrev pub Took : (least most tries : ℕ) → Effort → Effort → Type 0
Took least most tries old new =
    Rose least most old.probes new.probes
    × Rose 0 tries old.corrections new.corrections
    × Rose 0 tries old.lost new.lost

-- Nothing rose but exchanges that lost.
abbrev pub Lost : (least most : ℕ) → Effort → Effort → Type 0
Lost least most old new =
    (new.probes ≡ old.probes) × (new.corrections ≡ old.corrections)
    × Rose least most old.lost new.lost

-- Nothing rose but the corrections that were made, by one.
abbrev pub Corrected : Effort → Effort → Type 0
Corrected old new =
    Rose 1 1 old.corrections new.corrections
    × (new.probes ≡ old.probes) × (new.lost ≡ old.lost)

-- Nothing rose but the slots that were visited, by so many.
abbrev pub VisitedSlots : (slots : ℕ) → Effort → Effort → Type 0
VisitedSlots slots old new =
    Rose slots slots old.probes new.probes
    × (new.corrections ≡ old.corrections) × (new.lost ≡ old.lost)
