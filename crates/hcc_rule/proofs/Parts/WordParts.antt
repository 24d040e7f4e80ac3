-- The parts that speak of codes and data words, and what keeps them.
use Rattle.std.proofs.Common.{◌≡◌, ℕ, ◌+◌, ◌*◌, ◌<◌, ◌≤◌, ◌≢◌, List, Option, Some, None, length, slice_get, slice_index, slice_set, sym, refl, ap, ◌∙◌, arith}
use Rattle.std.proofs.lemmas.List.{length-set}
use Rattle.std.proofs.lemmas.List.FromFn.{length-map-range_with_len}
use Rattle.hcc_core.specs.declared.slot.Entry.{Entry}
use Rattle.hcc_core.specs.declared.slot.Stamp.{Stamp}
use Rattle.hcc_core.specs.declared.slot.Slot.{Slot}
use Rattle.hcc_core.specs.Lawful.{owned_slot}
use Rattle.hcc_rule.specs.declared.layout.TheConstants.{META, PAYLOAD}
use Rattle.hcc_rule.specs.declared.view.Made.{Made}
use Rattle.hcc_rule.specs.declared.view.View.{View}
use Rattle.hcc_rule.specs.Words.{field_at, word_count, code_of, words_for, payload, payload_word, made_words}
use Rattle.hcc_rule.specs.Rule.{Books, made_at, Coded, IsStored, entry_by, entry_in, Stored, IsDraft, Drafted}
use Rattle.hcc_rule.proofs.Basics.Lists.{within, word_here, word_else, each_set}
use Rattle.hcc_rule.proofs.Parts.Addresses.{fields_apart, field_inside, Away, meta_away, lies_away}

-- Codes.

-- a slot changes, and its meta word with it
pub coded_meta : (room : ℕ) (all : List Slot) (words : List ℕ) (i : ℕ) (t left : Slot)
    → Coded room all words → slice_get all i ≡ Some t
    → Coded room (slice_set all i left) (slice_set words (field_at room i META) (code_of left))
coded_meta room all words i t left c at = record {
  wide =
      length-set words (field_at room i META) (code_of left)
      ∙ (c.wide ∙ ap (λ n. word_count n room) (sym (length-set all i left)));
  meta = each_set (λ s slot. slice_index after (field_at room s META) ≡ code_of slot) all i left
      (word_here words (field_at room i META) (code_of left) inside)
      (λ s slot other there.
      word_else words (field_at room i META) (field_at room s META) (code_of left)
      (λ e. other (fields_apart room s i META META (omega arith) (omega arith) e).0)
      ∙ c.meta s slot there);
}
  where
    after : List ℕ
    after = slice_set words (field_at room i META) (code_of left)

    inside : field_at room i META < length words
    inside =
        let low = field_inside (length all) room i META (within all i t at) (omega arith) in
        let wide = c.wide in
        let address : ℕ = field_at room i META in
        let count : ℕ = word_count (length all) room in
        let g : address < length words = omega arith in
        g

-- a word changes that is no meta word
pub coded_else : (room : ℕ) (all : List Slot) (words : List ℕ) (a y : ℕ) → Coded room all words
    → ((s : ℕ) → s < length all → field_at room s META ≢ a)
    → Coded room all (slice_set words a y)
coded_else room all words a y c other = record {
  wide = length-set words a y ∙ c.wide;
  meta = λ s slot at.
      word_else words a (field_at room s META) y (other s (within all s slot at))
      ∙ c.meta s slot at;
}

-- Data words of entries.

-- a value that fits its slot has data words that fit
pub made_short : (room client : ℕ) (made : Made) → length made.value ≤ 8 * room
    → length (made_words client made) ≤ PAYLOAD + room
made_short room client made short =
    let count : ℕ = words_for (length made.value) in
    let few : count ≤ room = omega arith in
    let long : length (payload made.value) ≡ count =
    length-map-range_with_len (payload_word made.value) 0 count in
    omega arith

abbrev pub AreShort : ℕ → Books → Type 0
AreShort room books =
    (stamp : Stamp) (made : Made) → made_at books stamp ≡ Some made
    → length (made_words stamp.client made) ≤ PAYLOAD + room

-- a word changes that is no data word of an entry
pub stored_words : (room : ℕ) (all : List Slot) (words : List ℕ) (books : Books) (a y : ℕ)
    → AreShort room books
    → ((s : ℕ) (entry : Entry) → entry_in (slice_get all s) ≡ Some entry → Away room a s)
    → Stored room all words books → Stored room all (slice_set words a y) books
stored_words room all words books a y short away stored s entry h =
    let old = stored s entry h in
    record {
      made = old.made;
      listed = old.listed;
      same = old.same;
      lies = lies_away room s a y words (made_words entry.stamp.client old.made)
          (short entry.stamp old.made old.listed) (away s entry h) old.lies;
    }

-- a slot changes: its entry is stored, if it has one
pub stored_set : (room : ℕ) (all : List Slot) (words : List ℕ) (books : Books) (i : ℕ) (left : Slot)
    → ((entry : Entry) → entry_by left ≡ Some entry → IsStored room words books i entry)
    → Stored room all words books → Stored room (slice_set all i left) words books
stored_set room all words books i left mine stored s entry h =
    by (slice_get (slice_set all i left) s) refl h
  where
    by : (o : Option Slot) → slice_get (slice_set all i left) s ≡ o → entry_in o ≡ Some entry
        → IsStored room words books s entry
    by None at h = cc
    by (Some slot) at h =
        each_set (λ k x. (entry : Entry) → entry_by x ≡ Some entry
        → IsStored room words books k entry)
        all i left mine
        (λ k x other there e is. stored k e (ap entry_in there ∙ is)) s slot at entry h

-- what was listed stays listed
pub stored_books : (room : ℕ) (all : List Slot) (words : List ℕ) (old new : Books)
    → ((stamp : Stamp) (made : Made) → made_at old stamp ≡ Some made
    → made_at new stamp ≡ Some made)
    → Stored room all words old → Stored room all words new
stored_books room all words old new keeps stored s entry h =
    let was = stored s entry h in
    record {
      made = was.made;
      listed = keeps entry.stamp was.made was.listed;
      same = was.same;
      lies = was.lies;
    }

-- Data words of owners.

-- a word changes that is no data word of another owner's slot
pub drafted_set : {T : Type 0} (room : ℕ) (words : List ℕ) (views : List (View T)) (id a y : ℕ)
    (new : View T)
    → IsDraft room (slice_set words a y) new
    → ((j : ℕ) (v : View T) → j ≢ id → slice_get views j ≡ Some v → (s : ℕ)
    → owned_slot v.work.owned ≡ Some s → Away room a s)
    → Drafted room words views → Drafted room (slice_set words a y) (slice_set views id new)
drafted_set room words views id a y new mine away drafted =
    each_set (λ j v. IsDraft room (slice_set words a y) v) views id new mine
    (λ j v other at. let was = drafted j v at in record {
      short = was.short;
      lies = λ s owns. lies_away room s a y words v.written was.short (away j v other at s owns)
          (was.lies s owns);
    })

-- a meta word is no data word of any draft
pub draft_meta : {T : Type 0} (room : ℕ) (words : List ℕ) (i y : ℕ) (v : View T)
    → IsDraft room words v
    → IsDraft room (slice_set words (field_at room i META) y) v
draft_meta room words i y v draft = record {
  short = draft.short;
  lies = λ s owns. lies_away room s (field_at room i META) y words v.written draft.short
      (meta_away room i s) (draft.lies s owns);
}
