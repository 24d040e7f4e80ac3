-- What a client has in hand once it took an entry to free it, and after an acquire that went
-- astray.
use Rattle.std.proofs.Common.{◌≡◌, ℕ, ◌+◌, List, [], Option, None, zero-add, ap, ◌∙◌}
use Rattle.std.proofs.lemmas.Bool.{eq-eqb}
use Rattle.hcc_core.specs.declared.client.Client.{Client}
use Rattle.hcc_core.specs.declared.client.Owned.TheVariants.{ForFreeing}
use Rattle.hcc_core.specs.declared.slot.Stamp.{Stamp}
use Rattle.hcc_core.specs.References.{joined}
use Rattle.hcc_core.specs.Opening.{new_client}
use Rattle.hcc_rule.specs.declared.key.Key.{Key}
use Rattle.hcc_rule.specs.declared.view.Made.{Made}
use Rattle.hcc_rule.specs.declared.view.Record.{Record}
use Rattle.hcc_rule.specs.declared.view.View.{View}
use Rattle.hcc_rule.specs.Work.{Carries, carrying}
use Rattle.hcc_rule.specs.Probes.{trail_to}
use Rattle.hcc_rule.specs.Looked.{found_dead}
use Rattle.hcc_rule.specs.ToldOwners.{Freed, records_left}
use Rattle.hcc_rule.specs.ToldReferences.{after_stray}
use Rattle.hcc_rule.specs.Words.{made_words}

-- what an exchange that took this entry leaves in hand
abbrev pub freeing : (slots slot : ℕ) → Made → Client
freeing slots slot made = record new_client {
  owned = ForFreeing slot;
  trail = trail_to slots made.key slot;
  freed = made.charge;
  freed_slots = 1;
}

module _ {T : Type 0} where
  -- An exchange that found the word that it asked for took some entry; nothing else is in hand.
  pub taken : (fits : T → Key → List ℕ → Type 0) (slots room size slot old word : ℕ)
      (name : Option ℕ) (records : List Record) (before after : View T) → slots ≡ size
      → Carries new_client records before → records_left name records ≡ []
      → Freed fits slots room slot old word name before after → word ≡ old
      → (stamp : Stamp) × (made : Made) × Carries (freeing size slot made) [] after
      × (after.written ≡ made_words stamp.client made)
  taken fits slots room size slot old word name records before after sized d none freed found =
      let won = freed.won (eq-eqb word old found) in
      let now = rw sized at won.3 in
      let dead = found_dead slot word before in
      let took : Client → Client = λ h. record h {
        owned = ForFreeing slot;
        trail = trail_to size won.1.key slot;
        freed = h.freed + won.1.charge;
        freed_slots = h.freed_slots + 1;
        dead = joined h.dead dead;
      } in
      let with_freed : ℕ → Client =
      λ n. record (took (carrying new_client before.work)) { freed = n } in (
        won.0,
        won.1,
        record {
          in_hand = rw now (ap took d.in_hand ∙ ap with_freed (zero-add won.1.charge));
          records_are =
              ap (λ (v : View T). v.records) now ∙ (ap (records_left name) d.records_are ∙ none);
        },
        ap (λ (v : View T). v.written) now,
      )

  -- An acquire that went astray changes nothing in hand.
  pub strayed : (what : Client) (records : List Record) (before after : View T)
      → Carries what records before → after ≡ after_stray before → Carries what records after
  strayed what records before after d now = record {
    in_hand = rw now (ap (λ (h : Client). record h { looked = None }) d.in_hand);
    records_are = ap (λ (v : View T). v.records) now ∙ d.records_are;
  }
