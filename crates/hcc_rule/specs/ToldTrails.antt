-- What each step on a displacement word tells its seat, by the word that it found.
use Rattle.std.specs.Prelude.{◌≡◌, ℕ, ◌+◌, ◌-◌, ◌*◌, ◌≤◌, List, [], ◌∷◌, ◌++◌, ◌<◌, length, Option, Some}
use Rattle.atomic_table.specs.Table.{Step}
use Rattle.hcc_core.specs.declared.setup.Setup.{Setup}
use Rattle.hcc_core.specs.Sums.{total}
use Rattle.hcc_core.specs.World.{times, limit_of}
use Rattle.hcc_core.specs.Outcomes.{dropped}
use Rattle.hcc_core.specs.Trails.{is_slot}
use Rattle.hcc_rule.specs.declared.view.Record.{Record}
use Rattle.hcc_rule.specs.declared.view.Done.{Done}
use Rattle.hcc_rule.specs.declared.view.View.{View}
use Rattle.hcc_rule.specs.Probes.{trail_to}
use Rattle.hcc_rule.specs.Views.{Each}
use Rattle.hcc_rule.specs.Records.{different}
use Rattle.hcc_rule.specs.Words.{key_of}
use Rattle.hcc_rule.specs.Told.{Held}
use Rattle.hcc_rule.specs.Events.{count_done, pass_done, unpass_done}

-- how often a slot stands in the trails of the entries that records are on, each once
abbrev pub passed_held : (slots slot : ℕ) → List Record → ℕ
passed_held slots slot records =
    total (λ (r : Record). times slot (trail_to slots (key_of r.entry) r.slot)) (different records)

module _ {T : Type 0} where
  -- A load: the count has the client's own trail, and that of each entry on record, once. Any other
  -- entry has the slot in its trail once at most, and any other client as often as there are slots.
  -- In a shard of one client the other entries are those that it made and did not take.
  pub record Passed (setup : Setup) (slot : ℕ) (v : View T) (word : ℕ) : Type 0 where
    pub entries : times slot v.work.trail + passed_held setup.slots slot v.records ≤ word
    pub held : Each (λ (r : Record). times slot (trail_to setup.slots (key_of r.entry) r.slot)
        ≤ word) v.records
    -- each record is of a slot of the table
    pub within : Each (λ (r : Record). r.slot < setup.slots) v.records
    pub most : word + length (different v.records)
        ≤ times slot v.work.trail + passed_held setup.slots slot v.records
        + limit_of setup + setup.slots * (setup.clients - 1)
    pub alone : setup.clients ≡ 1 → word + v.takings + length (different v.records)
        ≤ times slot v.work.trail + passed_held setup.slots slot v.records + length v.made

  abbrev pub counts : Setup → (slot : ℕ) → Step (Unit {0}) → Held T → ℕ → Held T
      → Option Done → Type 0
  counts setup slot step me word after act =
      (after.1 ≡ me.1) × (after.0 ≡ me.0) × Passed setup slot me.0 word
      × (act ≡ Some (count_done slot word me.0))

  -- The slot joins the client's trail.
  abbrev pub after_pass : (slot : ℕ) → View T → View T
  after_pass slot v = record v { work = record v.work { trail = v.work.trail ++ slot ∷ [] } }

  abbrev pub passes : (slot : ℕ) → Step (Unit {0}) → Held T → ℕ → Held T → Option Done → Type 0
  passes slot step me word after act = (after.1 ≡ me.1) × (after.0 ≡ after_pass slot me.0)
      × (act ≡ Some (pass_done slot me.0))

  -- It leaves the trail once.
  abbrev pub after_unpass : (slot : ℕ) → View T → View T
  after_unpass slot v =
      record v { work = record v.work { trail = dropped (is_slot slot) v.work.trail } }

  abbrev pub unpasses : (slot : ℕ) → Step (Unit {0}) → Held T → ℕ → Held T → Option Done → Type 0
  unpasses slot step me word after act = (after.1 ≡ me.1) × (after.0 ≡ after_unpass slot me.0)
      × (act ≡ Some (unpass_done slot me.0))
