-- What loads without a reference tell of the entry that stood in the slot when they were made.
use Rattle.std.proofs.Common.{◌≡◌, inl, inr, ℕ, ◌+◌, ◌*◌, ◌<◌, ◌≤◌, Bool, true, false, Option, Some, None, IfSome, List, length, slice_get, slice_index, slice_set, refl, sym, ap, subst, ◌∙◌, eq-or-lt_of_le, arith}
use Rattle.std.specs.Prelude.{option_and_then, if◌then◌else◌}
use Rattle.hcc_core.specs.declared.slot.Entry.{Entry}
use Rattle.hcc_core.specs.declared.slot.Slot.{Slot}
use Rattle.hcc_core.specs.declared.slot.Slot.TheVariants as slots
use Rattle.hcc_core.specs.declared.slot.Stamp.{Stamp}
use Rattle.hcc_core.specs.Runs.{entry_at, entry_of}
use Rattle.hcc_core.specs.World.{State}
use Rattle.hcc_rule.specs.declared.key.Key.{Key}
use Rattle.hcc_rule.specs.declared.layout.TheConstants.{KEY0, KEY1, LENGTH, PAYLOAD}
use Rattle.hcc_rule.specs.declared.table.RuleTable.{RuleTable}
use Rattle.hcc_rule.specs.declared.view.Record.{Record}
use Rattle.hcc_rule.specs.Callers.{IsEvent, world_at}
use Rattle.hcc_rule.specs.Events.{peek_done}
use Rattle.hcc_rule.specs.Seats.{SeatOf, IsSameSeat, made, view}
use Rattle.hcc_rule.specs.ToldOwners.{IsDataWord}
use Rattle.hcc_rule.specs.Views.{Each}
use Rattle.hcc_rule.specs.Words.{key_of, payload_word}
use Rattle.hcc_rule.proofs.Basics.Lists.{each_map, word_else, word_here}
use Rattle.hcc_table.specs.Optimistic.{OnlyLoads, PeeksKey, PeeksOnce}
use Rattle.hcc_table.specs.Seeking.{Seeks}
use Rattle.hcc_table.specs.Standing.{LacksOnce, ShowsKey, entry_shown, shown_at}
use Rattle.hcc_table.proofs.Finds.{seat_then}
use Rattle.hcc_table.proofs.Loads.{loads_one, loads_seek, loads_then}
use Rattle.hcc_table.proofs.Moments.{Led, led_none, moment_later, moment_of, some_and}
use Rattle.hcc_table.proofs.Seeking.{seeks_none}
use Rattle.hcc_table.proofs.Values.{value_word}

-- The words of an entry's key and of its length.

pub first_half : (e : Entry) {word : ℕ} → IsDataWord e KEY0 word → e.key0 ≡ word
first_half e told = sym (told (λ bad. omega arith) (omega arith))

pub second_half : (e : Entry) {word : ℕ} → IsDataWord e KEY1 word → e.key1 ≡ word
second_half e told = sym (told (λ bad. omega arith) (omega arith))

pub long_word : (e : Entry) {word : ℕ} → IsDataWord e LENGTH word → word ≡ length e.value
long_word e told = told (λ bad. omega arith) (omega arith)

-- what holds of what there is
pub some_map : {A : Type 0} {P : A → Type 0} (Q : A → Type 0) → ((x : A) → P x → Q x)
    → (o : Option A)
    → IfSome o P → IfSome o Q
some_map Q f None h = tt
some_map Q f (Some x) h = f x h

-- what a slot shows stands there
pub shown_stands : (world : State) (slot : ℕ) {e : Entry} → shown_at world slot ≡ Some e
    → entry_at world slot ≡ Some e
shown_stands world slot {e} = by (slice_get world.slots slot)
  where
    one : (b : Bool) (x : Entry) → (if b then Some x else None) ≡ Some e → Some x ≡ Some e
    one true x is = is
    one false x is = cc

    by : (o : Option Slot) → option_and_then entry_shown o ≡ Some e
        → option_and_then entry_of o ≡ Some e
    by None is = cc
    by (Some (slots.Empty strays)) is = cc
    by (Some (slots.Building client strays)) is = cc
    by (Some (slots.Shareable r)) is = one r.shown r.entry is

-- where the entry that stands is of another key, the key isn't shown
other_unshown : (world : State) (key : Key) (slot : ℕ)
    → IfSome (entry_at world slot) (λ e. ¬ (key_of e ≡ key)) → ¬ ShowsKey world key slot
other_unshown world key slot other shows =
    let shown = some_and (shown_at world slot) (λ e. key_of e ≡ key) shows in
    let here = subst (λ o. IfSome o (λ e. ¬ (key_of e ≡ key))) (shown_stands world slot shown.1)
    other in
    here shown.2

module _ {T A : Type 0} (table : RuleTable T A) (slot : ℕ) where
  -- the load of a word
  abbrev pub IsPeek : (a b : SeatOf T) → Type 0
  IsPeek a b = (stamp : Option Stamp) × IsEvent table (peek_done slot stamp (view a)) a b

  pub peek_loads : {a : SeatOf T} (b : SeatOf T) → IsPeek a b → OnlyLoads table a b
  peek_loads {a} b h = loads_one table h.1 refl

  pub peek_led : {a : SeatOf T} (b : SeatOf T) → IsPeek a b → (view b).client ≡ (view a).client
      → Led table a b
  peek_led {a} b h same = record { seeks = loads_seek table a b (peek_loads b h); same = same }

  -- what it told, at a moment of a call
  pub peeked : {P : Entry → Type 0} {old a b new : SeatOf T} → Led table old a → IsPeek a b
      → Seeks table b new → IfSome (entry_at (world_at table b) slot) P
      → PeeksOnce table slot P old new
  peeked {P} {old} {a} {b} {new} before h behind told = (
    b,
    moment_of table before h.1 refl refl behind,
    told,
  )

  module _ {key : Key} where
    -- both halves of the key were found,
    pub finds_key : {first second : ℕ} {old : SeatOf T} (mid : SeatOf T) {new : SeatOf T}
        → IsPeek old mid → IsPeek mid new
        → view mid ≡ view old
        → IfSome (entry_at (world_at table mid) slot) (λ e. IsDataWord e KEY0 first)
        → IfSome (entry_at (world_at table new) slot) (λ e. IsDataWord e KEY1 second)
        → first ≡ key.w0 → second ≡ key.w1 → PeeksKey table key slot old new
    finds_key {first} {second} {old} mid {new} one two kept word more same too = record {
      first = peeked (led_none table old) one (loads_seek table mid new (peek_loads new two))
          (some_map (λ e. e.key0 ≡ key.w0) (λ e told. first_half e told ∙ same) _ word);
      second = peeked (peek_led mid one (ap (λ v. v.client) kept)) two (seeks_none table new)
          (some_map (λ e. e.key1 ≡ key.w1) (λ e told. second_half e told ∙ too) _ more);
    }

    -- or one of them was another's
    lacks : {old a b : SeatOf T} → Led table old a → IsPeek a b
        → IfSome (entry_at (world_at table b) slot) (λ e. ¬ (key_of e ≡ key))
        → LacksOnce table key slot old b
    lacks {old} {a} {b} before h other = (
      b,
      moment_of table before h.1 refl refl (seeks_none table b),
      other_unshown (world_at table b) key slot other,
    )

    pub first_differs : {first : ℕ} {old new : SeatOf T} → IsPeek old new
        → IfSome (entry_at (world_at table new) slot) (λ e. IsDataWord e KEY0 first)
        → ¬ (first ≡ key.w0) → LacksOnce table key slot old new
    first_differs {first} {old} {new} one word other =
        lacks (led_none table old) one (some_map (λ e. ¬ (key_of e ≡ key))
        (λ e told asked. other (sym (first_half e told) ∙ ap (λ (k : Key). k.w0) asked)) _ word)

    pub second_differs : {second : ℕ} {old : SeatOf T} (mid : SeatOf T) {new : SeatOf T}
        → IsPeek old mid → IsPeek mid new
        → view mid ≡ view old
        → IfSome (entry_at (world_at table new) slot) (λ e. IsDataWord e KEY1 second)
        → ¬ (second ≡ key.w1) → LacksOnce table key slot old new
    second_differs {second} {old} mid {new} one two kept word other =
        lacks (peek_led mid one (ap (λ v. v.client) kept)) two (some_map (λ e. ¬ (key_of e ≡ key))
        (λ e told asked. other (sym (second_half e told) ∙ ap (λ (k : Key). k.w1) asked)) _ word)

-- What a client holds in a slot isn't of a key of which a word isn't.

pub first_held : (key : Key) (slot : ℕ) {first : ℕ} (rs : List Record) → ¬ (first ≡ key.w0)
    → Each (λ (r : Record). r.slot ≡ slot → IsDataWord r.entry KEY0 first) rs
    → Each (λ (r : Record). r.slot ≡ slot → ¬ (key_of r.entry ≡ key)) rs
first_held key slot {first} rs other =
    each_map _ _ (λ r told on asked.
    other (sym (first_half r.entry (told on)) ∙ ap (λ (k : Key). k.w0) asked)) rs

pub second_held : (key : Key) (slot : ℕ) {second : ℕ} (rs : List Record) → ¬ (second ≡ key.w1)
    → Each (λ (r : Record). r.slot ≡ slot → IsDataWord r.entry KEY1 second) rs
    → Each (λ (r : Record). r.slot ≡ slot → ¬ (key_of r.entry ≡ key)) rs
second_held key slot {second} rs other =
    each_map _ _ (λ r told on asked.
    other (sym (second_half r.entry (told on)) ∙ ap (λ (k : Key). k.w1) asked)) rs

-- A value's words that are loaded one after the other.
module _ {T A : Type 0} (table : RuleTable T A) (slot : ℕ) where
  -- so is what a load told then
  pub peeks_later : {P : Entry → Type 0} {old a b : SeatOf T} → PeeksOnce table slot P old a
      → Seeks table a b → PeeksOnce table slot P old b
  peeks_later {P} {old} {a} {b} h more = (h.0, moment_later table h.1 more, h.2)

  -- this is the value's word of this index, where it has so many
  abbrev pub IsWord : (words : List ℕ) (j : ℕ) → Entry → Type 0
  IsWord words j e = 8 * j < length e.value → slice_index words j ≡ payload_word e.value j

  -- The length and the first so many words were loaded.
  pub record HasLoaded (count index : ℕ) (words : List ℕ) (old now : SeatOf T) : Type 0 where
    pub same : IsSameSeat old now
    pub kept : view now ≡ view old
    pub loads : OnlyLoads table old now
    pub few : made now ≤ made old + 1 + index
    pub long : PeeksOnce table slot (λ e. count ≡ length e.value) old now
    pub each : (j : ℕ) → j < index → PeeksOnce table slot (IsWord words j) old now

  -- the length was loaded
  pub loaded_length : {count : ℕ} {words : List ℕ} {old new : SeatOf T} → IsSameSeat old new
      → view new ≡ view old → IsPeek table slot old new → made new ≡ made old + 1
      → IfSome (entry_at (world_at table new) slot) (λ e. IsDataWord e LENGTH count)
      → HasLoaded count 0 words old new
  loaded_length {count} {words} {old} {new} same kept one step word = record {
    same = same;
    kept = kept;
    loads = peek_loads table slot new one;
    few = omega arith;
    long = peeked table slot (led_none table old) one (seeks_none table new)
        (some_map (λ e. count ≡ length e.value) (λ e. long_word e) _ word);
    each = λ j low. absurd (omega arith);
  }

  -- a word more
  pub loaded_more : {count index : ℕ} (word : ℕ) {words : List ℕ} {old now new : SeatOf T}
      → HasLoaded count index words old now → index < length words → IsSameSeat now new
      → view new ≡ view now → IsPeek table slot now new → made new ≡ made now + 1
      → IfSome (entry_at (world_at table new) slot)
      (λ e. IsDataWord e (PAYLOAD + index) word)
      → HasLoaded count (index + 1) (slice_set words index word) old new
  loaded_more {count} {index} word {words} {old} {now} {new} h inside same kept one step told =
      record {
        same = seat_then old now new h.same same;
        kept = kept ∙ h.kept;
        loads = loads_then table old now new h.loads (peek_loads table slot new one);
        few = let so_far = h.few in omega arith;
        long = peeks_later h.long more;
        each = λ j low. elim (eq-or-lt_of_le (let most : j ≤ index = omega arith in most)) [
          | inl last ↦
              subst (λ k. PeeksOnce table slot (IsWord (slice_set words index word) k) old new)
              (sym last) newest
          | inr before ↦
              let kept_word : slice_index (slice_set words index word) j ≡ slice_index words j =
              word_else words index j word (λ same. omega arith) in
              let earlier = h.each j before in
              peeks_later (
                earlier.0,
                earlier.1,
                some_map (IsWord (slice_set words index word) j)
                    (λ e is within. kept_word ∙ is within) _ earlier.2,
              ) more
        ];
      }
    where
      more : Seeks table now new
      more = loads_seek table now new (peek_loads table slot new one)

      newest : PeeksOnce table slot (IsWord (slice_set words index word) index) old new
      newest =
          peeked table slot
          (record { seeks = loads_seek table old now h.loads; same = ap (λ v. v.client) h.kept })
          one (seeks_none table new) (some_map (IsWord (slice_set words index word) index)
          (λ e is within. word_here words index word inside ∙ value_word e index within is) _ told)
