-- What the words of a value tell to a client that reads them by a record.
use Rattle.std.proofs.Common.{◌≡◌, ℕ, suc, ◌+◌, ◌*◌, ◌/◌, ◌%◌, ◌<◌, ◌≤◌, List, ◌++◌, Option, Some, None, IfSome, IsSomeAnd, length, take, drop, slice_index, sym, ap, ◌∙◌, arith}
use Rattle.std.proofs.Math.Seq.{take-length}
use Rattle.std.proofs.lemmas.List.{drop-drop, length-drop}
use Rattle.std.proofs.lemmas.List.FromFn.{get_or-map-range_with_len, length-map-range_with_len}
use Rattle.std.specs.Int.{to_le_bytes}
use mir.Syntax.{w64}
use Rattle.hcc_core.specs.declared.slot.Entry.{Entry}
use Rattle.hcc_rule.specs.declared.key.Key.{Key}
use Rattle.hcc_rule.specs.declared.layout.TheConstants.{PAYLOAD}
use Rattle.hcc_rule.specs.declared.view.Record.{Record}
use Rattle.hcc_rule.specs.declared.view.View.{View}
use Rattle.hcc_rule.specs.Seats.{SeatOf, IsSameSeat, view}
use Rattle.hcc_rule.specs.ToldOwners.{IsDataWord, entry_words}
use Rattle.hcc_rule.specs.ToldReferences.{IsMet}
use Rattle.hcc_rule.specs.Records.{record_in}
use Rattle.hcc_rule.specs.Words.{payload_word, words_for}
use Rattle.hcc_table.specs.Readings.{part_in, put_in, IsReadable}
use Rattle.hcc_table.specs.Searched.{IsFound}
use Rattle.hcc_table.proofs.Bytes.{fills, word_bytes}
use Rattle.hcc_table.proofs.Finds.{seat_then}

-- A word of the payload is the value's.
pub value_word : (entry : Entry) (k : ℕ) {word : ℕ} → 8 * k < length entry.value
    → IsDataWord entry (PAYLOAD + k) word → word ≡ payload_word entry.value k
value_word entry k within told = told (λ e. omega arith) inside ∙ at
  where
    low : k < words_for (length entry.value)
    low = omega arith

    inside : PAYLOAD + k < length (entry_words entry)
    inside =
        let long = length-map-range_with_len (payload_word entry.value) 0
        (words_for (length entry.value)) in
        omega (arith, long)

    at : slice_index (entry_words entry) (PAYLOAD + k) ≡ payload_word entry.value k
    at =
        let past : PAYLOAD + k ≡ suc (suc (suc (suc (suc k)))) = omega arith in
        ap (slice_index (entry_words entry)) past
        ∙ get_or-map-range_with_len (payload_word entry.value) 0 (words_for (length entry.value)) k
        k 0 low (omega arith)

-- The same, of the record that a word was read by.
pub told_word : (o : Option Record) (k word : ℕ)
    → IfSome o (λ r. IsDataWord r.entry (PAYLOAD + k) word)
    → IfSome o (λ r. 8 * k < length r.entry.value → word ≡ payload_word r.entry.value k)
told_word None k word told = tt
told_word (Some r) k word told = λ within. value_word r.entry k within told

-- The first bytes of a word were put in their place, which counts from a word before it.
pub copied : (o : Option Record) (slot room first k : ℕ) {count : ℕ} (word : ℕ) (old : List ℕ) {new
    : List ℕ} → 0 < count
    → count ≤ 8
    → IsSomeAnd o (λ r. (r.slot ≡ slot) × IsReadable room r
    × (8 * (first + k) + count ≤ length r.entry.value))
    → IfSome o (λ r. 8 * (first + k) < length r.entry.value
    → word ≡ payload_word r.entry.value (first + k))
    → new ≡ take (8 * k) old ++ (take count (to_le_bytes w64 word) ++ drop (8 * k + count) old)
    → IfSome o (λ r. new ≡ put_in (8 * k) count (drop (8 * first) r.entry.value) old)
copied None slot room first k word old some few holds told put = tt
copied (Some r) slot room first k {count} word old some few holds told put =
    put ∙ ap (λ z. take (8 * k) old ++ (z ++ drop (8 * k + count) old)) same
  where
    inside : 8 * (first + k) < length r.entry.value
    inside = let most = holds.2 in omega arith

    whole : 8 * (first + k) ≡ 8 * first + 8 * k
    whole = omega arith

    moved : drop (8 * (first + k)) r.entry.value ≡ drop (8 * k) (drop (8 * first) r.entry.value)
    moved = ap (λ n. drop n r.entry.value) whole
        ∙ sym (drop-drop (8 * k) (8 * first) r.entry.value)

    same : take count (to_le_bytes w64 word)
        ≡ take count (drop (8 * k) (drop (8 * first) r.entry.value))
    same = ap (λ w. take count (to_le_bytes w64 w)) (told inside)
        ∙ (word_bytes r.entry.value (first + k) count holds.1.bytes few holds.2
        ∙ ap (take count) moved)

-- The value of an entry that was met or found can be read.
pub readable_met : {T : Type 0} {fits : T → Key → List ℕ → Type 0} {room slot word : ℕ} {v : View T}
    {r : Record}
    → IsMet fits room slot word v r.entry → IsReadable room r
readable_met met = record { short = met.short; bytes = met.bytes }

pub readable_found : {T : Type 0} {fits : T → Key → List ℕ → Type 0} {room slot name : ℕ}
    {key : Key} {v w : View T} {r : Record}
    → IsFound fits room slot name key v w r → IsReadable room r
readable_found found = record { short = found.short; bytes = found.bytes }

-- It can be read by each record of it.
pub readable_same : {room : ℕ} {q r : Record} → r.entry ≡ q.entry → IsReadable room q
    → IsReadable room r
readable_same same h = record { short = rw same h.short; bytes = rw same h.bytes }

-- More of a part of the value was put behind what was there.
filled : (o : Option Record) (from at count : ℕ) {next len : ℕ} (old buffer new : List ℕ)
    → next ≡ at + count → next ≤ len
    → IfSome o (λ r. from + len ≤ length r.entry.value)
    → IfSome o (λ r. buffer ≡ part_in from at r.entry.value old)
    → IfSome o (λ r. new ≡ put_in at count (drop from r.entry.value) buffer)
    → IfSome o (λ r. new ≡ part_in from next r.entry.value old)
filled None from at count old buffer new sum most within was is = tt
filled (Some r) from at count old buffer new sum most within was is =
    rw sum (fills (drop from r.entry.value) old buffer new at count
    (omega (arith, length-drop from r.entry.value)) was is)

-- All of it is there.
pub all_filled : (o : Option Record) (len : ℕ) (old new : List ℕ)
    → IfSome o (λ r. len ≡ length r.entry.value)
    → IfSome o (λ r. new ≡ part_in 0 len r.entry.value old)
    → IfSome o (λ r. new ≡ r.entry.value ++ drop (length r.entry.value) old)
all_filled None len old new exact is = tt
all_filled (Some r) len old new exact is =
    is ∙ (ap (λ n. take n r.entry.value ++ drop n old) exact
    ∙ ap (λ z. z ++ drop (length r.entry.value) old) (take-length r.entry.value))

module _ {T : Type 0} where
  -- What a buffer has once so many words of the value were copied, from the first one on.
  pub record IsReading (name first k : ℕ) (seat now : SeatOf T) (old buffer : List ℕ)
      : Type 0 where
    pub same : IsSameSeat seat now
    pub kept : view now ≡ view seat
    pub front : IfSome (record_in name (view seat).records)
        (λ r. buffer ≡ part_in (8 * first) (8 * k) r.entry.value old)

  -- Some words more are there, once these were put behind the first.
  pub reads_words : {name first : ℕ} (len words : ℕ) {seat : SeatOf T} {old : List ℕ}
      → IfSome (record_in name (view seat).records)
      (λ r. 8 * first + len ≤ length r.entry.value)
      → {k more : ℕ} {now next : SeatOf T} {buffer new : List ℕ} → more ≡ k + words
      → more ≤ len / 8
      → IsReading name first k seat now old buffer → IsSameSeat now next → view next ≡ view now
      → IfSome (record_in name (view now).records)
      (λ r. new ≡ put_in (8 * k) (8 * words) (drop (8 * first) r.entry.value) buffer)
      → IsReading name first more seat next old new
  reads_words {name} {first} len words {seat} {old} within {k} {more} {now} {next} {buffer} {new} is
      low s same kept put =
      record {
        same = seat_then seat now next s.same same;
        kept = kept ∙ s.kept;
        front =
            filled (record_in name (view seat).records) (8 * first) (8 * k) (8 * words) old buffer
            new (omega arith) (omega arith) within s.front (rw (← s.kept) put);
      }

  -- The rest is less than a word.
  pub reads_rest : {name first k : ℕ} (len : ℕ) {seat now : SeatOf T} {old buffer : List ℕ}
      (new : List ℕ)
      → k ≡ len / 8
      → IfSome (record_in name (view seat).records)
      (λ r. 8 * first + len ≤ length r.entry.value)
      → IsReading name first k seat now old buffer
      → IfSome (record_in name (view now).records)
      (λ r. new ≡ put_in (8 * (len / 8)) (len % 8) (drop (8 * first) r.entry.value) buffer)
      → IfSome (record_in name (view seat).records)
      (λ r. new ≡ part_in (8 * first) len r.entry.value old)
  reads_rest {name} {first} len {seat} {now} {old} {buffer} new at within s put =
      filled (record_in name (view seat).records) (8 * first) (8 * (len / 8)) (len % 8) old buffer
      new (omega arith) (omega arith) within (rw (← at) s.front) (rw (← s.kept) put)
