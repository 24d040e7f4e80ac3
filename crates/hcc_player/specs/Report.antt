-- Lines of JSON, byte for byte, and the values that they write.
use Rattle.std.specs.Prelude.{ℕ, List, ◌++◌, codes, decimal}
use Rattle.serde_json.specs.Data.{Data, number, unsigned, object, member, no_members}
use Rattle.hcc_player.specs.declared.sums.Sums.{Sums}

-- a name, a number, and what follows
abbrev pub field : List ℕ → ℕ → List ℕ → List ℕ
field name n rest = name ++ (decimal n ++ rest)

-- the sums without a line feed
unfoldable pub sums_json : Sums → List ℕ
sums_json s =
    field (codes "{\"charges\":") s.charges
    (field (codes ",\"occupied\":") s.occupied
    (field (codes ",\"slots\":") s.slots
    (field (codes ",\"usage\":") s.usage (codes "}"))))

-- the sums, and a line feed
abbrev pub sums_text : Sums → List ℕ
sums_text s = sums_json s ++ codes "\n"

-- the value that this text writes
unfoldable pub sums_data : Sums → Data
sums_data s =
    object (member (codes "charges") (number (unsigned s.charges))
    (member (codes "occupied") (number (unsigned s.occupied))
    (member (codes "slots") (number (unsigned s.slots))
    (member (codes "usage") (number (unsigned s.usage)) no_members))))
