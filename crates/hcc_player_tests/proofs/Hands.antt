-- What a client has in hand once it showed an entry, or took one to free it.
use Rattle.std.proofs.Common.{◌≡◌, ℕ, ◌-◌, List, [], ◌++◌, Option, ap, ◌∙◌, arith}
use Rattle.hcc_core.specs.declared.client.Client.{Client}
use Rattle.hcc_core.specs.declared.client.Owned.TheVariants.{ForBuilding}
use Rattle.hcc_core.specs.declared.client.Place.TheVariants.{Granted}
use Rattle.hcc_core.specs.declared.slot.Entry.{Entry}
use Rattle.hcc_core.specs.declared.slot.Stamp.{Stamp}
use Rattle.hcc_core.specs.Entries.{client_shown}
use Rattle.hcc_core.specs.Opening.{new_client}
use Rattle.hcc_rule.specs.declared.key.Key.{Key}
use Rattle.hcc_rule.specs.declared.view.Made.{Made}
use Rattle.hcc_rule.specs.declared.view.Record.{Record}
use Rattle.hcc_rule.specs.declared.view.View.{View}
use Rattle.hcc_rule.specs.ToldOwners.{after_show, first_records, records_left, shown_entry, Freed}
use Rattle.hcc_rule.specs.Work.{Carries, carrying}
use Rattle.hcc_rule.specs.Words.{made_words}
use Rattle.hcc_rule_tests.proofs.Hands.{freeing, taken}

-- what it had in hand before
abbrev pub building : (slot : ℕ) → (trail : List ℕ) → Made → Client
building slot trail made = record new_client {
  place = Granted;
  granted = made.charge;
  owned = ForBuilding slot;
  trail = trail;
}

-- It has nothing but the reference that it keeps.
pub shown : {T : Type 0} (slot : ℕ) (trail : List ℕ) (name : Option ℕ) (made : Made)
    (before after : View T) → Carries (building slot trail made) [] before
    → after ≡ after_show slot name made before
    → (entry : Entry) × Carries new_client (first_records slot name entry) after
shown slot trail name made before after d now =
    let none : made.charge - made.charge ≡ 0 = omega arith in
    let had : Client = carrying (building slot trail made) before.work in
    let left : Client = client_shown made.charge had in
    let with_granted : ℕ → Client = λ n. record left { granted = n } in (
      shown_entry before made,
      record {
        in_hand = rw now (ap (client_shown made.charge) d.in_hand ∙ ap with_granted none);
        records_are = ap (λ (v : View _). v.records) now
            ∙ ap (λ rs. rs ++ first_records slot name (shown_entry before made)) d.records_are;
      },
    )

-- An exchange that found the word that it asked for took some entry.
pub taken_by : {T : Type 0} {fits : T → Key → List ℕ → Type 0} {slots room slot old word : ℕ}
    {name : Option ℕ} {before after : View T}
    → Freed fits slots room slot old word name before after → (size : ℕ) (records : List Record)
    → slots ≡ size → Carries new_client records before → records_left name records ≡ []
    → word ≡ old
    → (stamp : Stamp) × (made : Made) × Carries (freeing size slot made) [] after
    × (after.written ≡ made_words stamp.client made)
taken_by freed size records sized d none found =
    taken _ _ _ size _ _ _ _ records _ _ sized d none freed found
