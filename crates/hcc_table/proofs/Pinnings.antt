-- What is charged for an entry that a client holds.
use Rattle.std.proofs.Common.{◌≡◌, ◌≢◌, ℕ, ◌<◌, ◌&&◌, not, Bool, true, false, List, None, length, refl, sym, subst, ap, ◌∙◌, arith}
use Rattle.std.proofs.lemmas.Bool.{eq-eqb, ne_eqb}
use Rattle.hcc_word.specs.Word.{is_shareable, refs_of}
use Rattle.hcc_core.specs.declared.slot.Entry.{Entry}
use Rattle.hcc_rule.specs.declared.key.Key.{Key}
use Rattle.hcc_rule.specs.declared.layout.TheConstants.{CHARGE, STAMP}
use Rattle.hcc_rule.specs.declared.table.RuleTable.{RuleTable}
use Rattle.hcc_rule.specs.declared.view.Record.{Record}
use Rattle.hcc_rule.specs.Records.{record_in}
use Rattle.hcc_rule.specs.Seats.{SeatOf, view}
use Rattle.hcc_rule.specs.ToldOwners.{IsDataWord, entry_words}
use Rattle.hcc_rule.specs.Views.{Each}
use Rattle.hcc_rule.proofs.Basics.Lists.{each_map}
use Rattle.hcc_table.specs.declared.efforts.Effort.{Effort}
use Rattle.hcc_table.specs.Pinned.{CountsHeld, CountsReached, is_held}
use Rattle.hcc_table.specs.Seeking.{Seeks}
use Rattle.hcc_table.proofs.Probes.{holds_slot, looked_at}
use Rattle.hcc_table.proofs.Searches.{searched_refl}
use Rattle.hcc_table.proofs.Seeking.{seeks_one, seeks_then}
use Rattle.hcc_table.proofs.Still.{looks_reach, reads_give}

-- the word that was read is the entry's charge
pub charge_is : (entry : Entry) {word : ℕ} → IsDataWord entry CHARGE word → word ≡ entry.charge
charge_is entry told = told other long
  where
    other : CHARGE ≢ STAMP
    other = omega arith

    long : CHARGE < length (entry_words entry)
    long = omega arith

-- the word of an entry with references, and others
pub held_word : (word : ℕ) → is_shareable word ≡ true → ¬ (refs_of word ≡ 0)
    → is_held word ≡ true
held_word word has some = rw (has, ne_eqb (refs_of word) 0 some) refl

pub no_entry : (word : ℕ) → is_shareable word ≡ false → is_held word ≡ false
no_entry word away = rw away refl

pub no_references : (word : ℕ) → refs_of word ≡ 0 → is_held word ≡ false
no_references word none = rw (eq-eqb (refs_of word) 0 none) (by (is_shareable word))
  where
    by : (b : Bool) → (b && not true) ≡ false
    by true = refl
    by false = refl

-- so it is that of each record there
pub charged_each : (slot : ℕ) {charge : ℕ} (entry : Entry) (rs : List Record)
    → charge ≡ entry.charge
    → Each (λ (r : Record). r.slot ≡ slot → r.entry ≡ entry) rs
    → Each (λ (r : Record). r.slot ≡ slot → charge ≡ r.entry.charge) rs
charged_each slot {charge} entry rs is one =
    each_map (λ (r : Record). r.slot ≡ slot → r.entry ≡ entry)
    (λ (r : Record). r.slot ≡ slot → charge ≡ r.entry.charge)
    (λ r same on. is ∙ ap (λ (e : Entry). e.charge) (sym (same on))) rs one

-- To count what is charged there is only to search.
pub counts_seek : {T A : Type 0} {fits : T → Key → List ℕ → Type 0} {table : RuleTable T A}
    {name slot charge : ℕ} {before after : Effort} {old new : SeatOf T}
    → record_in name (view old).records ≡ None
    → CountsHeld fits table name slot charge before after old new → Seeks table old new
counts_seek {T} {A} {fits} {table} {name} {slot} {charge} {before} {after} {old} {new} fresh h = by
    (is_held h.seen) refl
  where
    reached : (r : CountsReached fits table name slot charge before after h.mid new)
        → Seeks table old new
    reached r = on (is_shareable r.word) refl
      where
        first : Seeks table old r.mid
        first = looks_reach table h.seen h.looks.2 r.reaches.by

        on : (b : Bool) → is_shareable r.word ≡ b → Seeks table old new
        on false is = subst (Seeks table old) (sym (r.stray is)) first
        on true is =
            let entry = r.entry is in
            seeks_then table old r.mid new first (reads_give table slot 1 entry.left entry.mid
            (holds_slot (looked_at slot h.seen (view old) (view h.mid) h.looks.1) r.reaches.reached
            is fresh (searched_refl (view r.mid))) entry.reads entry.gives)

    by : (b : Bool) → is_held h.seen ≡ b → Seeks table old new
    by false is =
        subst (Seeks table old) (sym (h.unheld is).2) (seeks_one table _ old h.mid h.looks.2 refl)
    by true is = reached (h.held is)
