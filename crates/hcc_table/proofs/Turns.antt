-- A value that is copied in turns: of each of four lines a word, and then of each the next.
use Rattle.std.proofs.Common.{◌≡◌, ℕ, zero, suc, ◌+◌, ◌-◌, ◌*◌, ◌/◌, ◌%◌, ◌<◌, ◌≤◌, inl, inr, List, ◌++◌, Option, Some, None, IfSome, IsSomeAnd, length, take, drop, get_or, refl, sym, ap, ◌∙◌, arith}
use Rattle.std.proofs.lemmas.Bool.{cases_lt}
use Rattle.std.proofs.lemmas.Grind.{same_number_lists}
use Rattle.std.proofs.lemmas.List.{length-append, length-drop, length-take-le, get_or_append_left, get_or-append_right, get_or-take, get_or-drop}
use Rattle.hcc_rule.specs.declared.view.Record.{Record}
use Rattle.hcc_rule.specs.declared.view.View.{View}
use Rattle.hcc_rule.specs.Records.{record_in}
use Rattle.hcc_table.specs.Readings.{put_in, put_turn, IsReadable}

-- Before the value's bytes a buffer has its own.
own_before : {at : ℕ} (count : ℕ) (value old : List ℕ) {k : ℕ} → at ≤ length old → k < at
    → get_or (put_in at count value old) k 0 ≡ get_or old k 0
own_before {at} count value old {k} room low =
    get_or_append_left (take at old) (take count (drop at value) ++ drop (at + count) old) 0 k
    (omega (arith, length-take-le at old room))
    ∙ get_or-take at old k 0 low

-- There it has the value's.
value_there : {at : ℕ} (count : ℕ) (value old : List ℕ) {k : ℕ} → at ≤ length old
    → at + count ≤ length value → at ≤ k → k < at + count
    → get_or (put_in at count value old) k 0 ≡ get_or value k 0
value_there {at} count value old {k} room within past low =
    get_or-append_right (take at old) (cut ++ drop (at + count) old) at k 0
    (length-take-le at old room) past
    ∙ (get_or_append_left cut (drop (at + count) old) 0 (k - at) (omega (arith, long))
    ∙ (get_or-take count (drop at value) (k - at) 0 (omega arith)
    ∙ (get_or-drop at value (k - at) 0 ∙ ap (λ i. get_or value i 0) whole)))
  where
    cut : List ℕ
    cut = take count (drop at value)

    long : length cut ≡ count
    long = length-take-le count (drop at value) (omega (arith, length-drop at value))

    whole : at + (k - at) ≡ k
    whole = omega arith

-- Behind these it has its own.
own_behind : {at : ℕ} (count : ℕ) (value old : List ℕ) {k : ℕ} → at ≤ length old
    → at + count ≤ length value → at + count ≤ k
    → get_or (put_in at count value old) k 0 ≡ get_or old k 0
own_behind {at} count value old {k} room within past =
    get_or-append_right (take at old) (cut ++ drop (at + count) old) at k 0
    (length-take-le at old room) (omega arith)
    ∙ (get_or-append_right cut (drop (at + count) old) count (k - at) 0 long (omega arith)
    ∙ (get_or-drop (at + count) old (k - at - count) 0 ∙ ap (λ i. get_or old i 0) whole))
  where
    cut : List ℕ
    cut = take count (drop at value)

    long : length cut ≡ count
    long = length-take-le count (drop at value) (omega (arith, length-drop at value))

    whole : at + count + (k - at - count) ≡ k
    whole = omega arith

-- It is as long as before.
put_length : (at count : ℕ) (value old : List ℕ) → at + count ≤ length old
    → at + count ≤ length value → length (put_in at count value old) ≡ length old
put_length at count value old room within =
    length-append (take at old) (cut ++ drop (at + count) old)
    ∙ omega (
      arith,
      length-append cut (drop (at + count) old),
      length-take-le at old (omega arith),
      length-take-le count (drop at value) (omega (arith, length-drop at value)),
      length-drop (at + count) old,
    )
  where
    cut : List ℕ
    cut = take count (drop at value)

-- how many words of 32 are copied before that of a byte
abbrev words_before : ℕ → ℕ
words_before j = 4 * (j / 8 % 8) + j / 64

-- What a buffer has once so many words were copied, of the 32 from some word on.
pub record IsTurned (from words : ℕ) (value old new : List ℕ) : Type 0 where
  pub long : length new ≡ length old
  pub before : (k : ℕ) → k < 8 * from → get_or new k 0 ≡ get_or old k 0
  pub done : (j : ℕ) → j < 256 → words_before j < words
      → get_or new (8 * from + j) 0 ≡ get_or value (8 * from + j) 0
  pub left : (j : ℕ) → j < 256 → words ≤ words_before j
      → get_or new (8 * from + j) 0 ≡ get_or old (8 * from + j) 0
  pub behind : (k : ℕ) → 8 * from + 256 ≤ k → get_or new k 0 ≡ get_or old k 0

-- Before the first the buffer is as it was.
no_word : {from : ℕ} {value old : List ℕ} → IsTurned from 0 value old old
no_word = record {
  long = refl;
  before = λ k low. refl;
  done = λ j low turn. absurd (omega arith);
  left = λ j low turn. refl;
  behind = λ k past. refl;
}

-- a buffer after so many turns
abbrev turned : (from parts : ℕ) (value old : List ℕ) → List ℕ
turned from zero value old = old
turned from (suc zero) value old = put_turn from value old
turned from (suc (suc part)) value old =
    put_turn (from + suc part) value (turned from (suc part) value old)

module _ {from : ℕ} {value old : List ℕ} (within : 8 * from + 256 ≤ length value)
    (room : 8 * from + 256 ≤ length old) where
  -- The next word is that of a part of a line.
  next_word : {part : ℕ} (line : ℕ) {words more : ℕ} (at : ℕ) {buffer : List ℕ} → part < 8
      → line < 4
      → words ≡ 4 * part + line → more ≡ words + 1 → at ≡ from + 8 * line + part
      → IsTurned from words value old buffer
      → IsTurned from more value old (put_in (8 * at) 8 value buffer)
  next_word line {more = more} at {buffer} few lines so_far one place t = record {
    long = put_length (8 * at) 8 value buffer (omega (arith, t.long)) (omega arith) ∙ t.long;
    before = λ k low.
        own_before 8 value buffer begun (omega arith) ∙ t.before k low;
    done = done;
    left = left;
    behind = λ k past.
        own_behind 8 value buffer begun inside (omega arith) ∙ t.behind k past;
  }
    where
      begun : 8 * at ≤ length buffer
      begun = omega (arith, t.long)

      inside : 8 * at + 8 ≤ length value
      inside = omega arith

      done : (j : ℕ) → j < 256 → words_before j < more
          → get_or (put_in (8 * at) 8 value buffer) (8 * from + j) 0
          ≡ get_or value (8 * from + j) 0
      done j low turn = elim (cases_lt (8 * from + j) (8 * at)) [
        | inl earlier ↦
            own_before 8 value buffer begun earlier
            ∙ t.done j low (omega arith)
        | inr past ↦
            elim (cases_lt (8 * from + j) (8 * at + 8)) [
              | inl here ↦
                  value_there 8 value buffer begun inside past here
              | inr later ↦
                  own_behind 8 value buffer begun inside later
                  ∙ t.done j low (omega arith)
            ]
      ]

      left : (j : ℕ) → j < 256 → more ≤ words_before j
          → get_or (put_in (8 * at) 8 value buffer) (8 * from + j) 0
          ≡ get_or old (8 * from + j) 0
      left j low turn = elim (cases_lt (8 * from + j) (8 * at)) [
        | inl earlier ↦
            own_before 8 value buffer begun earlier
            ∙ t.left j low (omega arith)
        | inr past ↦
            own_behind 8 value buffer begun inside (omega arith)
            ∙ t.left j low (omega arith)
      ]

  -- A turn copies a word of each line.
  whole_turn : (part at : ℕ) {buffer : List ℕ} → part < 8 → at ≡ from + part
      → IsTurned from (4 * part) value old buffer
      → IsTurned from (4 * suc part) value old (put_turn at value buffer)
  whole_turn part at {buffer} few place t =
      next_word 3 (at + 24) few (omega arith) refl (omega arith) (omega arith) three
    where
      first : List ℕ
      first = put_in (8 * at) 8 value buffer

      second : List ℕ
      second = put_in (8 * (at + 8)) 8 value first

      third : List ℕ
      third = put_in (8 * (at + 16)) 8 value second

      one : IsTurned from (4 * part + 1) value old first
      one = next_word 0 at few (omega arith) (omega arith) refl (omega arith) t

      two : IsTurned from (4 * part + 2) value old second
      two = next_word 1 (at + 8) few (omega arith) refl (omega arith) (omega arith) one

      three : IsTurned from (4 * part + 3) value old third
      three = next_word 2 (at + 16) few (omega arith) refl (omega arith) (omega arith) two

  -- So turn by turn.
  turns_done : (parts : ℕ) → parts ≤ 8
      → IsTurned from (4 * parts) value old (turned from parts value old)
  turns_done zero few = no_word
  turns_done (suc zero) few = whole_turn 0 from (omega arith) (omega arith) (no_word)
  turns_done (suc (suc part)) few =
      whole_turn (suc part) (from + suc part) (omega arith) refl
      (turns_done (suc part) (omega arith))

  -- After the last turn the 32 words of the value are there.
  last_turn : {words : ℕ} {new : List ℕ} → 32 ≤ words → IsTurned from words value old new
      → new ≡ put_in (8 * from) 256 value old
  last_turn {new = new} all t =
      same_number_lists new (put_in (8 * from) 256 value old)
      (t.long ∙ sym (put_length (8 * from) 256 value old room within)) (λ k low. each k)
    where
      begun : 8 * from ≤ length old
      begun = omega arith

      each : (k : ℕ) → get_or new k 0 ≡ get_or (put_in (8 * from) 256 value old) k 0
      each k = elim (cases_lt k (8 * from)) [
        | inl earlier ↦
            t.before k earlier ∙ sym (own_before 256 value old begun earlier)
        | inr past ↦
            elim (cases_lt k (8 * from + 256)) [
              | inl here ↦
                  let at : k ≡ 8 * from + (k - 8 * from) = omega arith in
                  ap (λ i. get_or new i 0) at
                  ∙ (t.done (k - 8 * from) (omega arith) (omega arith)
                  ∙ (ap (λ i. get_or value i 0) (sym at)
                  ∙ sym (value_there 256 value old begun within past here)))
              | inr later ↦
                  t.behind k later
                  ∙ sym (own_behind 256 value old begun within later)
            ]
      ]

-- The same of the record that the value is read by.
pub some_last : (o : Option Record) (slot room first from : ℕ) (old new : List ℕ)
    → 8 * from + 256 ≤ length old
    → IsSomeAnd o (λ r. (r.slot ≡ slot) × IsReadable room r
    × (8 * (first + from) + 256 ≤ length r.entry.value))
    → IfSome o (λ r. new ≡ turned from 8 (drop (8 * first) r.entry.value) old)
    → IfSome o (λ r. new ≡ put_in (8 * from) 256 (drop (8 * first) r.entry.value) old)
some_last None slot room first from old new space holds put = tt
some_last (Some r) slot room first from old new space holds put =
    put ∙ last_turn within space (omega arith) (turns_done within space 8 (omega arith))
  where
    ahead : List ℕ
    ahead = drop (8 * first) r.entry.value

    within : 8 * from + 256 ≤ length ahead
    within = let most = holds.2 in omega (arith, length-drop (8 * first) r.entry.value)

-- What was put of a value into a buffer that had some of it.
some_put : (o : Option Record) (f : List ℕ → List ℕ) (g : List ℕ → List ℕ → List ℕ)
    (buffer new : List ℕ) → IfSome o (λ r. buffer ≡ f r.entry.value)
    → IfSome o (λ r. new ≡ g r.entry.value buffer)
    → IfSome o (λ r. new ≡ g r.entry.value (f r.entry.value))
some_put None f g buffer new was is = tt
some_put (Some r) f g buffer new was is = is ∙ ap (g r.entry.value) was

module _ {T : Type 0} where
  -- What a client that kept its view has put into a buffer of the value of a record.
  pub record HasPut (name : ℕ) (f : List ℕ → List ℕ) (u v : View T) (buffer : List ℕ)
      : Type 0 where
    pub kept : v ≡ u
    pub put : IfSome (record_in name u.records) (λ r. buffer ≡ f r.entry.value)

  -- the first
  pub puts_first : {name : ℕ} {u v : View T} {buffer : List ℕ} {f : List ℕ → List ℕ} → v ≡ u
      → IfSome (record_in name u.records) (λ r. buffer ≡ f r.entry.value)
      → HasPut name f u v buffer
  puts_first kept put = record { kept = kept; put = put }

  -- and the next
  pub puts_next : {name : ℕ} {f : List ℕ → List ℕ} {u v w : View T} {buffer new : List ℕ}
      (g : List ℕ → List ℕ → List ℕ) → w ≡ v
      → IfSome (record_in name v.records) (λ r. new ≡ g r.entry.value buffer)
      → HasPut name f u v buffer → HasPut name (λ value. g value (f value)) u w new
  puts_next {name} {f} {u} {v} {w} {buffer} {new} g kept put h = record {
    kept = kept ∙ h.kept;
    put = some_put (record_in name u.records) f g buffer new h.put (rw (← h.kept) put);
  }
