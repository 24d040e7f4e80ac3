-- What holds of the words of a slot at every moment.
use Rattle.std.proofs.Common.{◌≡◌, ℕ, ◌<◌, true, false, List, Some, slice_get, slice_index, sym, ap, ◌∙◌}
use Rattle.hcc_word.specs.Word.{is_shareable, refs_of}
use Rattle.hcc_word.proofs.CodeLaws.{refs_of-shareable}
use Rattle.hcc_core.specs.declared.slot.Reference.{Reference}
use Rattle.hcc_core.specs.declared.slot.Slot.{Slot}
use Rattle.hcc_core.specs.declared.slot.Slot.TheVariants as slots
use Rattle.hcc_core.specs.Sums.{total}
use Rattle.hcc_core.proofs.Opening.{is_lawful}
use Rattle.hcc_rule.specs.declared.key.Key.{Key}
use Rattle.hcc_rule.specs.declared.rule.Plan.{Plan}
use Rattle.hcc_rule.specs.declared.view.Record.{Record}
use Rattle.hcc_rule.specs.declared.view.View.{View}
use Rattle.hcc_rule.specs.Laws.{has_entry, references_counted, references_held, HasWordsOf, HasWordsOfRecords}
use Rattle.hcc_rule.specs.Records.{weight_on}
use Rattle.hcc_rule.specs.Words.{code_of}
use Rattle.hcc_rule.specs.Rule.{IsRecorded, Holds}
use Rattle.hcc_rule.proofs.Parts.Addresses.{data_field}
use Rattle.hcc_rule.proofs.Parts.Codes.{tells_entry, is_near}
use Rattle.hcc_rule.proofs.Entries.DataWords.{data_word}
use Rattle.hcc_rule.proofs.Basics.Lists.{each_map}
use Rattle.hcc_rule.proofs.References.Looks.{slot_there}
use Rattle.hcc_rule.proofs.Parts.SlotSteps.{Shard}

module _ {T : Type 0} (fits : T → Key → List ℕ → Type 0) (p : Plan T) (s : Shard fits p)
    (r : Holds fits p s) where
  -- a word that is an entry's counts the references that stand on its slot
  pub counted_are : (i word : ℕ) (slot : Slot) → slice_get r.world.slots i ≡ Some slot
      → word ≡ code_of slot
      → is_shareable word ≡ true → refs_of word
      ≡ total (λ (v : View T). weight_on i v.records) s.views
  counted_are i word (slots.Empty strays) at is entry =
      let none = tells_entry r.world (is_lawful r.world r.lawful) i (slots.Empty strays) at in
      let bad : true ≡ false = sym entry ∙ (ap is_shareable is ∙ none) in cc
  counted_are i word (slots.Building client strays) at is entry =
      let none = tells_entry r.world (is_lawful r.world r.lawful) i (slots.Building client strays)
      at in
      let bad : true ≡ false = sym entry ∙ (ap is_shareable is ∙ none) in cc
  counted_are i word (slots.Shareable k) at is entry =
      ap refs_of is
      ∙ (refs_of-shareable k.hit k.shown (is_near r.world (is_lawful r.world r.lawful) i k at)
      ∙ r.references i (slots.Shareable k) at (λ (q : Reference). q.weight))

  -- so those that clients hold
  pub references_are : (i : ℕ) → i < p.geometry.slots → has_entry p s i ≡ true
      → references_counted p s i ≡ references_held p s i
  references_are i near entry =
      let slot = slot_there fits p s r i near in
      counted_are i _ slot.0 slot.1 (r.coded.meta i slot.0 slot.1) entry

  -- the words of a record's slot are its entry's
  words_are : (i id : ℕ) (v : View T) → slice_get s.views id ≡ Some v
      → (q : Record) → IsRecorded r.world.slots q → q.slot ≡ i → HasWordsOf p s i q.entry
  words_are i id v at q recorded on index other low =
      ap (slice_index s.words) (sym (data_field p.geometry.room i index))
      ∙ data_word fits p s r id i index v q at recorded on other low

  pub words_of_records : (i id : ℕ) (v : View T) → slice_get s.views id ≡ Some v
      → HasWordsOfRecords p s i v
  words_of_records i id v at =
      each_map (IsRecorded r.world.slots) (λ (q : Record). q.slot ≡ i → HasWordsOf p s i q.entry)
      (words_are i id v at) v.records (r.holding id v at).recorded
