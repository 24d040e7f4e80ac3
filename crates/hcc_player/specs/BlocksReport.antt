-- The report of a play of block reads as JSON, byte for byte, and the values that it writes.
use Rattle.std.specs.Prelude.{ℕ, Bool, true, false, List, [], ◌∷◌, ◌++◌, codes, map}
use Rattle.std.specs.Prelude.{if◌then◌else◌}
use Rattle.serde_json.specs.Data.{Data, number, unsigned, array, object, member, no_members}
use Rattle.serde_json.specs.View.{items_of}
use Rattle.hcc_player.specs.declared.blocks.tally.ClientReport.{ClientReport}
use Rattle.hcc_player.specs.declared.sums.Sums.{Sums}
use Rattle.hcc_player.specs.Report.{field}

-- what one client reports
unfoldable pub client_text : ClientReport → List ℕ
client_text r =
    field (codes "{\"blocks\":") r.tally.blocks
    (field (codes ",\"faults\":") r.tally.faults
    (field (codes ",\"hits\":") r.hits
    (field (codes ",\"misses\":") r.misses
    (field (codes ",\"missing\":") r.tally.missing
    (field (codes ",\"sum\":") r.tally.sum (codes "}"))))))

-- The texts of clients up to the closing bracket, with a comma between two. The flag says whether
-- one stands before.
abbrev pub clients_text : (later : Bool) → List ClientReport → List ℕ
clients_text later [] = codes "]"
clients_text later (r ∷ rs) =
    (if later then codes "," else []) ++ (client_text r ++ clients_text true rs)

-- the report without a line feed
unfoldable pub report_json : Sums → List ClientReport → List ℕ
report_json s clients =
    field (codes "{\"charges\":") s.charges
    (codes ",\"clients\":[" ++ (clients_text false clients
    ++ field (codes ",\"occupied\":") s.occupied
    (field (codes ",\"slots\":") s.slots
    (field (codes ",\"usage\":") s.usage (codes "}")))))

-- the report, and a line feed
abbrev pub report_text : Sums → List ClientReport → List ℕ
report_text s clients = report_json s clients ++ codes "\n"

-- the values that these texts write
unfoldable pub client_data : ClientReport → Data
client_data r =
    object (member (codes "blocks") (number (unsigned r.tally.blocks))
    (member (codes "faults") (number (unsigned r.tally.faults))
    (member (codes "hits") (number (unsigned r.hits))
    (member (codes "misses") (number (unsigned r.misses))
    (member (codes "missing") (number (unsigned r.tally.missing))
    (member (codes "sum") (number (unsigned r.tally.sum)) no_members))))))

unfoldable pub report_data : Sums → List ClientReport → Data
report_data s clients =
    object (member (codes "charges") (number (unsigned s.charges))
    (member (codes "clients") (array (items_of (map client_data clients)))
    (member (codes "occupied") (number (unsigned s.occupied))
    (member (codes "slots") (number (unsigned s.slots))
    (member (codes "usage") (number (unsigned s.usage)) no_members)))))
