-- The text of a report of clients as JSON.
use Rattle.std.proofs.Common.{◌≡◌, List, [], ◌∷◌, ◌++◌, Bool, true, false, codes, map, refl, ap}
use Rattle.serde_json.proofs.OnLiterals.{serde_json_on_literals}
use Rattle.serde_json.specs.View.{items_of}
use Rattle.serde_json.specs.Written.{compact_text, items_text, has_float, items_have_float}
use Rattle.hcc_player.specs.declared.blocks.tally.ClientReport.{ClientReport}
use Rattle.hcc_player.specs.declared.sums.Sums.{Sums}
use Rattle.hcc_player.specs.BlocksReport.{client_data, client_text, clients_text, report_data, report_json}
use Rattle.hcc_player.specs.Report.{field}

client_compact : (r : ClientReport) → compact_text (client_data r) ≡ client_text r
unfolding serde_json_on_literals client_data client_text
client_compact r = refl

clients_compact : (later : Bool) (rs : List ClientReport)
    → items_text later (items_of (map client_data rs)) ≡ clients_text later rs
clients_compact later [] = refl
clients_compact true (r ∷ rs) = rw (client_compact r, clients_compact true rs) refl
clients_compact false (r ∷ rs) = rw (client_compact r, clients_compact true rs) refl

-- a report is written in the shortest way
pub report_compact : (s : Sums) (rs : List ClientReport)
    → compact_text (report_data s rs) ≡ report_json s rs
unfolding serde_json_on_literals report_data report_json
report_compact s rs =
    ap (λ l. field (codes "{\"charges\":") s.charges
    (codes ",\"clients\":[" ++ (l
    ++ field (codes ",\"occupied\":") s.occupied
    (field (codes ",\"slots\":") s.slots
    (field (codes ",\"usage\":") s.usage (codes "}"))))))
    (clients_compact false rs)

client_whole : (r : ClientReport) → has_float (client_data r) ≡ false
unfolding client_data
client_whole r = refl

clients_whole : (rs : List ClientReport)
    → items_have_float (items_of (map client_data rs)) ≡ false
clients_whole [] = refl
clients_whole (r ∷ rs) = rw (client_whole r) (clients_whole rs)

-- all its numbers are whole
pub report_whole : (s : Sums) (rs : List ClientReport) → has_float (report_data s rs) ≡ false
unfolding report_data
report_whole s rs = rw (clients_whole rs) refl
