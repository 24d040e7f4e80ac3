-- A slot on which a view has a record: its entry, and what the record's client is told there.
use Rattle.std.proofs.Common.{◌≡◌, ℕ, true, List, Option, Some, None, slice_get, slice_index, sym, refl, ap, ◌∙◌}
use Rattle.hcc_core.specs.declared.slot.Entry.{Entry}
use Rattle.hcc_core.specs.declared.slot.Resident.{Resident}
use Rattle.hcc_core.specs.declared.slot.Slot.{Slot}
use Rattle.hcc_core.specs.declared.slot.Slot.TheVariants as slots
use Rattle.hcc_core.specs.World.{reference_in, slot_holding}
use Rattle.hcc_core.specs.References.{dead_to}
use Rattle.hcc_core.proofs.Opening.{is_lawful}
use Rattle.hcc_rule.specs.declared.key.Key.{Key}
use Rattle.hcc_rule.specs.declared.layout.TheConstants.{META}
use Rattle.hcc_rule.specs.declared.rule.Plan.{Plan}
use Rattle.hcc_rule.specs.declared.view.Record.{Record}
use Rattle.hcc_rule.specs.declared.view.View.{View}
use Rattle.hcc_rule.specs.Looked.{found_dead}
use Rattle.hcc_rule.specs.Views.{reference_of, is_called, is_seated}
use Rattle.hcc_rule.specs.Records.{record_in}
use Rattle.hcc_rule.specs.Words.{field_at, code_of}
use Rattle.hcc_rule.specs.Rule.{entry_in, IsRecorded, Holds}
use Rattle.hcc_rule.proofs.Parts.Clients.{dead_told}
use Rattle.hcc_rule.proofs.Basics.Findings.{find_each}
use Rattle.hcc_rule.proofs.Parts.HeldReferences.{slot_held, reference_held}
use Rattle.hcc_rule.proofs.Parts.SlotSteps.{Shard}

-- a slot that has an entry is Shown or Hidden
pub resident_in : (o : Option Slot) (e : Entry) → entry_in o ≡ Some e
    → (k : Resident) × (o ≡ Some (slots.Shareable k)) × (k.entry ≡ e)
resident_in None e h = cc
resident_in (Some (slots.Empty strays)) e h = cc
resident_in (Some (slots.Building client strays)) e h = cc
resident_in (Some (slots.Shareable k)) e h = (k, refl, (let same : k.entry ≡ e = cc in same))

module _ {T : Type 0} (fits : T → Key → List ℕ → Type 0) (p : Plan T) where
  -- the view's record of this name is on this slot's entry
  pub record OnEntry (s : Shard fits p) (r : Holds fits p s) (id i x : ℕ) (v : View T) (q : Record)
      (k : Resident) : Type 0 where
    pub at_view : slice_get s.views id ≡ Some v
    pub at_slot : slice_get r.world.slots i ≡ Some (slots.Shareable k)
    pub seated : is_seated v ≡ true
    pub called : record_in x v.records ≡ Some q
    pub on : q.slot ≡ i
    pub entry : k.entry ≡ q.entry

  -- each record is on an entry
  pub on_some : (s : Shard fits p) (r : Holds fits p s) (id i x : ℕ) (v : View T) (q : Record)
      → slice_get s.views id ≡ Some v → is_seated v ≡ true → record_in x v.records ≡ Some q
      → q.slot ≡ i
      → (k : Resident) × OnEntry s r id i x v q k
  on_some s r id i x v q at seated called on =
      let there = (find_each (is_called x) (IsRecorded r.world.slots) v.records q
      (r.holding id v at).recorded called).there in
      let found = resident_in (slice_get r.world.slots i) q.entry
      (ap (λ j. entry_in (slice_get r.world.slots j)) (sym on) ∙ there) in (
        found.0,
        record {
          at_view = at;
          at_slot = found.1;
          seated = seated;
          called = called;
          on = on;
          entry = found.2;
        },
      )

  module _ (s : Shard fits p) (r : Holds fits p s) (id i x : ℕ) (v : View T) (q : Record)
      (k : Resident) (o : OnEntry s r id i x v q k) where
    -- its client holds the name there
    pub name_held : slot_holding r.world.slots v.client x ≡ Some i
    name_held = slot_held p.tag r.world.slots r.world.clients r.books s.views r.references r.seats
        id v o.at_view o.seated x q o.called ((r.holding id v o.at_view).once x) (slots.Shareable k)
        i o.on o.at_slot

    -- by the record's reference
    pub reference_there : reference_in v.client x k.references ≡ Some (reference_of v.client q)
    reference_there = reference_held p.tag r.world.slots r.world.clients r.books s.views
        r.references r.seats id v o.at_view o.seated x q o.called
        ((r.holding id v o.at_view).once x) (slots.Shareable k) i o.on o.at_slot

    -- the word that a step finds there is the entry's code
    pub code_there : (a : ℕ) → a ≡ field_at p.geometry.room i META
        → slice_index s.words a ≡ code_of (slots.Shareable k)
    code_there a address = ap (slice_index s.words) address
        ∙ r.coded.meta i (slots.Shareable k) o.at_slot

    -- and it tells what the client has seen dead
    pub dead_there : found_dead i (code_of (slots.Shareable k)) v
        ≡ dead_to v.client (slots.Shareable k)
    dead_there = dead_told p.tag r.world r.books s.views id i v (slots.Shareable k)
        (is_lawful r.world r.lawful) r.references r.seats (r.holding id v o.at_view).recorded
        o.at_view o.seated o.at_slot
