-- An entry is put into the words of a shard that begins with those before it.
use Rattle.std.proofs.Common.{◌≡◌, ℕ, zero, suc, ◌+◌, ◌-◌, ◌*◌, ◌%◌, ◌^◌, ◌<◌, ◌≤◌, ◌≢◌, inl, inr, List, [], ◌∷◌, ◌++◌, map, take, ◌==◌, Some, get_or, length, replicate, slice_get, slice_index, slice_set, refl, sym, ap, ◌∙◌, subst, arith, bit_and, bit_or, mul-le-mul_right, ne_eqb}
use Rattle.std.specs.List.{range_with_len}
use Rattle.std.proofs.lemmas.Bool.{cases_eq, cases_lt, eq-eqb}
use Rattle.std.proofs.lemmas.List.{length-set, length-replicate, length-take, length-take-le, take_all}
use Rattle.std.proofs.lemmas.List.FromFn.{length-map-range_with_len, map-range_with_len_more}
use Rattle.hcc_word.specs.Code.{code_of_empty}
use Rattle.hcc_core.specs.declared.slot.Slot.{Slot}
use Rattle.hcc_core.specs.declared.limits.TheConstants.{MOST_SLOTS}
use Rattle.hcc_core.specs.Opening.{new_slot}
use Rattle.hcc_core.specs.Sums.{when, total}
use Rattle.hcc_core.specs.World.{times}
use Rattle.hcc_core.proofs.ListLemmas.{read_last, replicate_is}
use Rattle.hcc_core.proofs.SumLemmas.{total-append, length-push}
use Rattle.hcc_rule.specs.declared.image.ImageEntry.{ImageEntry}
use Rattle.hcc_rule.specs.declared.key.Key.{Key}
use Rattle.hcc_rule.specs.declared.layout.TheConstants.{SLOT_HEAD, META, DISPLACEMENT, DATA, PAYLOAD, USAGE, OCCUPANCY, STANDING, HAND, LEDGER_WORDS, MOST_ROOM}
use Rattle.hcc_rule.specs.Images.{BeginsWith, made_of_entry, resident_of, slots_with}
use Rattle.hcc_rule.specs.ImageLimits.{AreRising, IsSized}
use Rattle.hcc_rule.specs.Puttings.{HaveSpace, Puts}
use Rattle.hcc_rule.specs.Probes.{probe_slot, trail_to}
use Rattle.hcc_rule.specs.Rule.{Coded}
use Rattle.hcc_rule.specs.Views.{Each}
use Rattle.hcc_rule.specs.Words.{field_at, ledger_at, word_count, Lies, code_of, made_words, words_for}
use Rattle.hcc_rule.proofs.Basics.Bounds.{total-bound}
use Rattle.hcc_rule.proofs.Basics.Lists.{each_set, within, word_here, word_else}
use Rattle.hcc_rule.proofs.Images.Fillings.{each_get, filled_length, filled_push, pushed_at, rising_before, rising_in}
use Rattle.hcc_rule.proofs.Parts.Addresses.{fields_apart, field_inside, field_low, ledger_apart, ledger_inside, ledgers_apart, data_field, Away, meta_away, displacement_away, data_away, ledger_away}
use Rattle.hcc_rule.proofs.Parts.Codes.{when_le}
use Rattle.hcc_rule.proofs.Parts.WordParts.{made_short}
use Rattle.hcc_rule.proofs.Probes.ProbeLaws.{probe_inside, probe_of_slot, trail_at, trail_once, first_masked, next_masked}

-- all words of a new table are 0
pub zero_at : (n a : ℕ) → slice_index (replicate n 0) a ≡ 0
zero_at zero a = refl
zero_at (suc n) zero = refl
zero_at (suc n) (suc a) = zero_at n a

empty_code : (slot : Slot) → slot ≡ new_slot → code_of slot ≡ 0
unfolding code_of_empty
empty_code slot is = ap code_of is

-- A shard without entries begins with words of 0.
pub begins_none : (slots room : ℕ) (words : List ℕ) → words ≡ replicate (word_count slots room) 0
    → BeginsWith slots room [] words
begins_none slots room words zeros = rw zeros record {
  coded = record {
    wide = length-replicate (word_count slots room) 0
        ∙ ap (λ n. word_count n room) (sym (length-replicate slots new_slot));
    meta = λ s slot at. zero_at (word_count slots room) (field_at room s META)
        ∙ sym (empty_code slot (replicate_is slots s new_slot slot at));
  };
  entries = λ number e at. cc;
  passed = λ s near. zero_at (word_count slots room) (field_at room s DISPLACEMENT);
  usage = zero_at (word_count slots room) (ledger_at slots room USAGE);
  occupancy = zero_at (word_count slots room) (ledger_at slots room OCCUPANCY);
  standing = zero_at (word_count slots room) (ledger_at slots room STANDING);
  hand = zero_at (word_count slots room) (ledger_at slots room HAND);
}

module _ (slots room : ℕ) where
  -- an address that no word of a sum has, and none of this slot's entry
  pub record IsElse (slot a : ℕ) : Type 0 where
    pub meta : field_at room slot META ≢ a
    pub entry : Away room a slot
    pub passed : (s : ℕ) → s < slots → field_at room s DISPLACEMENT ≢ a
    pub usage : ledger_at slots room USAGE ≢ a
    pub occupancy : ledger_at slots room OCCUPANCY ≢ a

  -- another slot's meta word is one
  meta_else : (slot s : ℕ) → s < slots → s ≢ slot → IsElse slot (field_at room s META)
  meta_else slot s near other = record {
    meta = λ e. other (sym (fields_apart room slot s META META (omega arith) (omega arith) e).0);
    entry = meta_away room s slot;
    passed = λ t small e.
        let bad = (fields_apart room t s DISPLACEMENT META (omega arith) (omega arith) e).1 in
        absurd (omega arith);
    usage = λ e. ledger_apart slots room s META USAGE near (omega arith) (sym e);
    occupancy = λ e. ledger_apart slots room s META OCCUPANCY near (omega arith) (sym e);
  }

  -- so is another slot's data word
  data_else : (slot s k : ℕ) → s < slots → s ≢ slot → k < PAYLOAD + room
      → IsElse slot (field_at room s DATA + k)
  data_else slot s k near other low =
      rw (data_field room s k) record {
        meta = λ e.
            let bad = (fields_apart room slot s META (DATA + k) (omega arith) (omega arith) e).1 in
            absurd (omega arith);
        entry = data_away room s slot (DATA + k) (omega arith) (λ same. other (sym same));
        passed = λ t small e.
            let bad = (fields_apart room t s DISPLACEMENT (DATA + k) (omega arith) (omega arith)
            e).1 in
            absurd (omega arith);
        usage = λ e. ledger_apart slots room s (DATA + k) USAGE near (omega arith) (sym e);
        occupancy = λ e. ledger_apart slots room s (DATA + k) OCCUPANCY near (omega arith) (sym e);
      }

  -- and so are the other ledger words
  ledger_else : (slot k : ℕ) → slot < slots → k ≢ USAGE → k ≢ OCCUPANCY
      → IsElse slot (ledger_at slots room k)
  ledger_else slot k near one two = record {
    meta = λ e. ledger_apart slots room slot META k near (omega arith) e;
    entry = ledger_away slots room k slot near;
    passed = λ t small e. ledger_apart slots room t DISPLACEMENT k small (omega arith) e;
    usage = λ e. one (sym (ledgers_apart slots room USAGE k e));
    occupancy = λ e. two (sym (ledgers_apart slots room OCCUPANCY k e));
  }

  -- One entry more.
  pub puts_more : (es : List ImageEntry) (e : ImageEntry) (number : ℕ) (old new : List ℕ)
      → BeginsWith slots room es old → Puts slots room number e old new → number ≡ length es
      → AreRising 0 slots (es ++ e ∷ []) → Each (IsSized room) (es ++ e ∷ [])
      → BeginsWith slots room (es ++ e ∷ []) new
  puts_more es e number old new begun puts is rising sized = record {
    coded = rw (
      filled_push slots 0 es e (replicate slots new_slot),
      let g : 0 + length es ≡ number = omega arith in g,
    ) coded;
    entries = λ k x at. entry_lies k x at;
    passed = λ s near.
        puts.passed s near ∙ (ap (λ n. n + passes s e) (begun.passed s near)
        ∙ sym (pushed (passes s) es));
    usage = puts.usage ∙ (ap (λ n. n + e.charge) begun.usage
        ∙ sym (pushed (λ (x : ImageEntry). x.charge) es));
    occupancy = puts.occupancy ∙ (ap (λ n. n + 1) begun.occupancy ∙ sym (length-push es e));
    standing = same (ledger_at slots room STANDING)
        (ledger_else e.slot STANDING in_table (λ x. omega arith) (λ x. omega arith))
        ∙ begun.standing;
    hand = same (ledger_at slots room HAND)
        (ledger_else e.slot HAND in_table (λ x. omega arith) (λ x. omega arith)) ∙ begun.hand;
  }
    where
      passes : ℕ → ImageEntry → ℕ
      passes s x = times s (trail_to slots x.key x.slot)

      pushed : (f : ImageEntry → ℕ) (xs : List ImageEntry)
          → total f (xs ++ e ∷ []) ≡ total f xs + f e
      pushed f xs = let sum = total-append f xs (e ∷ []) in omega arith

      in_table : e.slot < slots
      in_table = (rising_in 0 slots (es ++ e ∷ []) (length es) e rising (read_last es e)).1

      same : (a : ℕ) → IsElse e.slot a → slice_index new a ≡ slice_index old a
      same a other = puts.others a other.meta other.entry other.passed other.usage other.occupancy

      left : Slot
      left = resident_of slots number e

      size : length (slots_with slots es) ≡ slots
      size = filled_length slots 0 es (replicate slots new_slot) ∙ length-replicate slots new_slot

      coded : Coded room (slice_set (slots_with slots es) e.slot left) new
      coded = record {
        wide = puts.wide ∙ (begun.coded.wide ∙ ap (λ n. word_count n room)
            (sym (length-set (slots_with slots es) e.slot left)));
        meta = each_set (λ s slot. slice_index new (field_at room s META) ≡ code_of slot)
            (slots_with slots es) e.slot left puts.meta
            (λ s slot other at.
            let near = within (slots_with slots es) s slot at in
            let wide = size in
            same (field_at room s META) (meta_else e.slot s (omega arith) other)
            ∙ begun.coded.meta s slot at);
      }

      own_lies : (k : ℕ) (x : ImageEntry) → k ≡ number → x ≡ e
          → Lies new (field_at room x.slot DATA) (made_words 0 (made_of_entry k x))
      own_lies k x numbered entered =
          subst (λ m. Lies new (field_at room x.slot DATA) (made_words 0 (made_of_entry m x)))
          (sym numbered)
          (subst (λ y. Lies new (field_at room y.slot DATA) (made_words 0 (made_of_entry number y)))
          (sym entered) puts.entry)

      entry_lies : (k : ℕ) (x : ImageEntry) → slice_get (es ++ e ∷ []) k ≡ Some x
          → Lies new (field_at room x.slot DATA) (made_words 0 (made_of_entry k x))
      entry_lies k x at = elim (pushed_at es e k x at) [
        | inl last ↦ own_lies k x (last.0 ∙ sym is) last.1
        | inr there ↦
            let below = rising_before 0 slots es e x k rising there in
            let near = in_table in
            let sizes = each_get (IsSized room) (es ++ e ∷ []) k x sized at in
            let short = made_short room 0 (made_of_entry k x) sizes.short in
            λ j low. same (field_at room x.slot DATA + j)
            (data_else e.slot x.slot j (omega arith) (λ z. omega arith) (omega arith))
            ∙ begun.entries k x there j low
      ]

  -- Words that begin with few entries have space for one more.
  pub have_space : (es : List ImageEntry) (words : List ℕ) → BeginsWith slots room es words
      → MOST_SLOTS % slots ≡ 0 → slots ≤ MOST_SLOTS → length es ≤ slots → Each (IsSized room) es
      → HaveSpace slots room words
  have_space es words begun power most few sized = record {
    wide = begun.coded.wide ∙ ap (λ n. word_count n room)
        (filled_length slots 0 es (replicate slots new_slot) ∙ length-replicate slots new_slot);
    passed = λ s near.
        let once = total-bound (λ (e : ImageEntry). times s (trail_to slots e.key e.slot)) 1 es
        (λ k e at. trail_once slots e.key power e.slot s) in
        let is = begun.passed s near in
        omega arith;
    usage =
        let small = total-bound (λ (e : ImageEntry). e.charge) (2 ^ 32) es
        (λ k e at. let size = (each_get (IsSized room) es k e sized at).small in omega arith) in
        let is = begun.usage in
        omega arith;
    occupancy = let is = begun.occupancy in omega arith;
  }

-- the data words of an entry lie within the words
pub data_space : (slots room : ℕ) (e : ImageEntry) (words : List ℕ) → e.slot < slots
    → IsSized room e → length words ≡ word_count slots room
    → field_at room e.slot DATA + PAYLOAD + words_for (length e.value.items) ≤ length words
data_space slots room e words near sized wide =
    let last = field_low slots room e.slot (room + 6) near (omega arith) in
    let count : ℕ = words_for (length e.value.items) in
    let short = sized.short in
    let few : count ≤ room = omega arith in
    let x : ℕ = e.slot * (room + SLOT_HEAD) in
    let y : ℕ = slots * (room + SLOT_HEAD) in
    let size : length words ≡ y + LEDGER_WORDS = wide in
    let g : x + DATA + PAYLOAD + count ≤ length words = omega arith in
    g

-- there are not too many words for an address
pub words_few : (slots room : ℕ) (words : List ℕ) → slots ≤ MOST_SLOTS → room ≤ MOST_ROOM
    → length words ≡ word_count slots room → length words < 2 ^ 32
words_few slots room words most wide_room wide =
    let few : slots * (room + SLOT_HEAD) ≤ MOST_SLOTS * (room + SLOT_HEAD) =
    mul-le-mul_right (room + SLOT_HEAD) most in
    let y : ℕ = slots * (room + SLOT_HEAD) in
    let size : length words ≡ y + LEDGER_WORDS = wide in
    let low : y ≤ MOST_SLOTS * (room + SLOT_HEAD) = few in
    omega arith

-- The stages of putting an entry: its meta word is written, then its data words, then the slots of
-- its trail are passed, and then the ledger words grow.
module _ (slots room number : ℕ) (e : ImageEntry) (old w1 w2 w3 : List ℕ) (code : ℕ)
    (near : e.slot < slots) (sized : IsSized room e) (space : HaveSpace slots room old)
    (one : w1 ≡ slice_set old (field_at room e.slot META) code)
    (wide2 : length w2 ≡ length w1)
    (entry : Lies w2 (field_at room e.slot DATA) (made_words 0 (made_of_entry number e)))
    (before : (a : ℕ) → a < field_at room e.slot DATA → slice_index w2 a ≡ slice_index w1 a)
    (behind : (a : ℕ) → field_at room e.slot DATA + PAYLOAD + words_for (length e.value.items) ≤ a
    → slice_index w2 a ≡ slice_index w1 a) where
  -- the data words leave other words alone
  data_aside : (a : ℕ) → Away room a e.slot → slice_index w2 a ≡ slice_index w1 a
  data_aside a away =
      let base : ℕ = field_at room e.slot DATA in
      let count : ℕ = words_for (length e.value.items) in
      let short = sized.short in
      let few : count ≤ room = omega arith in
      elim (cases_lt a base) [
        | inl low ↦ before a low
        | inr high ↦ elim (cases_lt a (base + PAYLOAD + count)) [
          | inl inside ↦
              let k : ℕ = a - base in
              let at : base + k ≡ a = omega arith in
              absurd (away k (omega arith) at)
          | inr past ↦ behind a past
        ]
      ]

  -- so before the trail is passed, a word that is neither of this slot's is the old one
  pub aside_then : (a : ℕ) → field_at room e.slot META ≢ a → Away room a e.slot
      → slice_index w2 a ≡ slice_index old a
  aside_then a other away =
      data_aside a away ∙ (ap (λ w. slice_index w a) one
      ∙ word_else old (field_at room e.slot META) a code (λ z. other (sym z)))

  pub displacement_then : (s : ℕ) → s < slots
      → slice_index w2 (field_at room s DISPLACEMENT)
      ≡ slice_index old (field_at room s DISPLACEMENT)
  displacement_then s small =
      aside_then (field_at room s DISPLACEMENT)
      (λ z. let bad = (fields_apart room e.slot s META DISPLACEMENT (omega arith) (omega arith)
      z).1 in absurd (omega arith))
      (displacement_away room s e.slot)

  pub wide_then : length w2 ≡ word_count slots room
  wide_then =
      wide2 ∙ (ap length one ∙ (length-set old (field_at room e.slot META) code ∙ space.wide))

  pub space_then : (s : ℕ) → s < slots → slice_index w2 (field_at room s DISPLACEMENT) < 2 ^ 63
  space_then s small = let same = displacement_then s small in let low = space.passed s small in
      omega arith

  module _ (wide3 : length w3 ≡ length w2)
      (passed : (s : ℕ) → s < slots → slice_index w3 (field_at room s DISPLACEMENT)
      ≡ slice_index w2 (field_at room s DISPLACEMENT) + times s (trail_to slots e.key e.slot))
      (others : (a : ℕ) → ((s : ℕ) → s < slots → field_at room s DISPLACEMENT ≢ a)
      → slice_index w3 a ≡ slice_index w2 a) where
    pub ledger_then : (k : ℕ) → slice_index w3 (ledger_at slots room k)
        ≡ slice_index old (ledger_at slots room k)
    ledger_then k =
        others (ledger_at slots room k)
        (λ s small. ledger_apart slots room s DISPLACEMENT k small (omega arith))
        ∙ aside_then (ledger_at slots room k) (ledger_apart slots room e.slot META k near
        (omega arith)) (ledger_away slots room k e.slot near)

    abbrev usage_at : ℕ
    usage_at = ledger_at slots room USAGE

    abbrev occupancy_at : ℕ
    occupancy_at = ledger_at slots room OCCUPANCY

    abbrev w4 : List ℕ
    w4 = slice_set w3 usage_at (slice_index w3 usage_at + e.charge)

    abbrev w5 : List ℕ
    w5 = slice_set w4 occupancy_at (slice_index w4 occupancy_at + 1)

    wide_all : length w3 ≡ word_count slots room
    wide_all = wide3 ∙ wide_then

    ledgers_differ : occupancy_at ≢ usage_at
    ledgers_differ z = let bad = ledgers_apart slots room OCCUPANCY USAGE z in absurd (omega arith)

    -- the occupancy is not near its end
    pub occupancy_low : slice_index w4 occupancy_at + 1 < 2 ^ 64
    occupancy_low =
        let same = word_else w3 usage_at occupancy_at (slice_index w3 usage_at + e.charge)
        ledgers_differ in
        let was = ledger_then OCCUPANCY in
        let low = space.occupancy in
        omega arith

    -- the ledger words leave other words alone
    both_else : (a : ℕ) → a ≢ usage_at → a ≢ occupancy_at → slice_index w5 a ≡ slice_index w3 a
    both_else a one two =
        word_else w4 occupancy_at a (slice_index w4 occupancy_at + 1) two
        ∙ word_else w3 usage_at a (slice_index w3 usage_at + e.charge) one

    field_else : (s f : ℕ) → s < slots → f < room + SLOT_HEAD
        → slice_index w5 (field_at room s f) ≡ slice_index w3 (field_at room s f)
    field_else s f small low =
        both_else (field_at room s f) (ledger_apart slots room s f USAGE small low)
        (ledger_apart slots room s f OCCUPANCY small low)

    passed_else : (f : ℕ) → f < room + SLOT_HEAD → f ≢ DISPLACEMENT
        → slice_index w3 (field_at room e.slot f) ≡ slice_index w2 (field_at room e.slot f)
    passed_else f low other =
        others (field_at room e.slot f)
        (λ s small z. other (sym (fields_apart room s e.slot DISPLACEMENT f (omega arith) low z).1))

    pub puts : code ≡ code_of (resident_of slots number e) → Puts slots room number e old w5
    puts coded = record {
      wide = length-set w4 occupancy_at (slice_index w4 occupancy_at + 1)
          ∙ (length-set w3 usage_at (slice_index w3 usage_at + e.charge)
          ∙ (wide_all ∙ sym space.wide));
      meta =
          field_else e.slot META near (omega arith)
          ∙ (passed_else META (omega arith) (λ z. omega arith)
          ∙ (before (field_at room e.slot META) lower
          ∙ (ap (λ w. slice_index w (field_at room e.slot META)) one
          ∙ (word_here old (field_at room e.slot META) code meta_inside ∙ coded))));
      entry = λ k low.
          let short = made_short room 0 (made_of_entry number e) sized.short in
          let small : DATA + k < room + SLOT_HEAD = omega arith in
          ap (slice_index w5) (data_field room e.slot k)
          ∙ (field_else e.slot (DATA + k) near small
          ∙ (passed_else (DATA + k) small (λ z. omega arith)
          ∙ (ap (slice_index w2) (sym (data_field room e.slot k)) ∙ entry k low)));
      passed = λ s small.
          field_else s DISPLACEMENT small (omega arith)
          ∙ (passed s small ∙ ap (λ n. n + times s (trail_to slots e.key e.slot))
          (displacement_then s small));
      usage =
          word_else w4 occupancy_at usage_at (slice_index w4 occupancy_at + 1)
          (λ z. ledgers_differ (sym z))
          ∙ (word_here w3 usage_at (slice_index w3 usage_at + e.charge) usage_inside
          ∙ ap (λ n. n + e.charge) (ledger_then USAGE));
      occupancy =
          word_here w4 occupancy_at (slice_index w4 occupancy_at + 1) occupancy_inside
          ∙ ap (λ n. n + 1) (word_else w3 usage_at occupancy_at
          (slice_index w3 usage_at + e.charge) ledgers_differ ∙ ledger_then OCCUPANCY);
      others = λ a meta own displacement usage occupancy.
          both_else a (λ z. usage (sym z)) (λ z. occupancy (sym z))
          ∙ (others a displacement ∙ aside_then a meta own);
    }
      where
        lower : field_at room e.slot META < field_at room e.slot DATA
        lower = let x : ℕ = e.slot * (room + SLOT_HEAD) in
            let g : x + META < x + DATA = omega arith in g

        meta_inside : field_at room e.slot META < length old
        meta_inside =
            let low = field_inside slots room e.slot META near (omega arith) in
            let wide = space.wide in
            let a : ℕ = field_at room e.slot META in
            let b : ℕ = word_count slots room in
            let g : a < length old = omega arith in g

        usage_inside : usage_at < length w3
        usage_inside =
            let low = ledger_inside slots room USAGE (omega arith) in
            let wide = wide_all in
            let a : ℕ = usage_at in
            let b : ℕ = word_count slots room in
            let g : a < length w3 = omega arith in g

        occupancy_inside : occupancy_at < length w4
        occupancy_inside =
            let low = ledger_inside slots room OCCUPANCY (omega arith) in
            let wide = wide_all in
            let same = length-set w3 usage_at (slice_index w3 usage_at + e.charge) in
            let a : ℕ = occupancy_at in
            let b : ℕ = word_count slots room in
            let g : a < length w4 = omega arith in g

-- The entries one after the other.

-- a member that is read is there
entry_there : {A : Type 0} (xs : List A) (n : ℕ) (d : A) → n < length xs
    → slice_get xs n ≡ Some (get_or xs n d)
entry_there [] n d low = absurd (omega arith)
entry_there (x ∷ xs) zero d low = refl
entry_there (x ∷ xs) (suc n) d low = entry_there xs n d (omega arith)

-- the first so many rise, and one more
taken_rise : (low slots n : ℕ) (es : List ImageEntry) → AreRising low slots es
    → AreRising low slots (take n es)
taken_rise low slots zero es rising = tt
taken_rise low slots (suc n) [] rising = tt
taken_rise low slots (suc n) (e ∷ es) rising =
    (rising.0, rising.1, taken_rise (e.slot + 1) slots n es rising.2)

taken_each : {A : Type 0} (P : A → Type 0) (n : ℕ) (xs : List A) → Each P xs → Each P (take n xs)
taken_each P zero xs all = tt
taken_each P (suc n) [] all = tt
taken_each P (suc n) (x ∷ xs) all = (all.0, taken_each P n xs all.1)

taken_more : {A : Type 0} (n : ℕ) (xs : List A) (x : A) → slice_get xs n ≡ Some x
    → take (suc n) xs ≡ take n xs ++ x ∷ []
taken_more n [] x at = cc
taken_more zero (y ∷ ys) x at = ap (λ z. z ∷ []) (let same : y ≡ x = cc in same)
taken_more (suc n) (y ∷ ys) x at = ap (λ zs. y ∷ zs) (taken_more n ys x at)

pub entry_read : {A : Type 0} (xs : List A) (n : ℕ) (x : A) → n < length xs
    → x ≡ get_or xs n x → slice_get xs n ≡ Some x
entry_read xs n x low is = entry_there xs n x low ∙ ap Some (sym is)

module _ (slots room : ℕ) (es : List ImageEntry) (rising : AreRising 0 slots es)
    (sized : Each (IsSized room) es) where
  -- the next one was put
  pub puts_next : (n more : ℕ) (e : ImageEntry) (old new : List ℕ) → slice_get es n ≡ Some e
      → more ≡ n + 1
      → BeginsWith slots room (take n es) old → Puts slots room n e old new
      → BeginsWith slots room (take more es) new
  puts_next n more e old new at is begun put =
      let next : more ≡ suc n = omega arith in
      let whole = taken_more n es e at in
      let inside = within es n e at in
      let count : length (take n es) ≡ n = length-take-le n es (omega arith) in
      rw (next, whole) (puts_more slots room (take n es) e n old new begun put (sym count)
      (rw (← whole) (taken_rise 0 slots (suc n) es rising))
      (rw (← whole) (taken_each (IsSized room) (suc n) es sized)))

  -- there is space for the next one
  pub space_next : (n : ℕ) (words : List ℕ) → BeginsWith slots room (take n es) words
      → MOST_SLOTS % slots ≡ 0 → slots ≤ MOST_SLOTS → length es ≤ slots
      → HaveSpace slots room words
  space_next n words begun power most few =
      have_space slots room (take n es) words begun power most
      (let some = length-take n es in omega arith)
      (taken_each (IsSized room) n es sized)

  -- all were put
  pub all_put : (n : ℕ) (words : List ℕ) → length es ≤ n
      → BeginsWith slots room (take n es) words → BeginsWith slots room es words
  all_put n words all begun =
      subst (λ xs. BeginsWith slots room xs words) (take_all n es all) begun

  -- its slot is in the table
  pub slot_next : (n : ℕ) (e : ImageEntry) → slice_get es n ≡ Some e → e.slot < slots
  slot_next n e at = (rising_in 0 slots es n e rising at).1

  pub sized_next : (n : ℕ) (e : ImageEntry) → slice_get es n ≡ Some e → IsSized room e
  sized_next n e at = each_get (IsSized room) es n e sized at

-- The trail.

module _ (slots room : ℕ) (key : Key) where
  -- The first so many slots of a trail were passed, and no other word has changed.
  pub record IsPassing (slot n probe : ℕ) (old new : List ℕ) : Type 0 where
    pub wide : length new ≡ length old
    pub at : bit_and probe (slots - 1) ≡ probe_slot slots key n
    pub other : (j : ℕ) → j < n → probe_slot slots key j ≢ slot
    pub passed : (s : ℕ) → s < slots → slice_index new (field_at room s DISPLACEMENT)
        ≡ slice_index old (field_at room s DISPLACEMENT)
        + times s (map (probe_slot slots key) (range_with_len 0 n))
    pub others : (a : ℕ) → ((s : ℕ) → s < slots → field_at room s DISPLACEMENT ≢ a)
        → slice_index new a ≡ slice_index old a

  module _ (power : MOST_SLOTS % slots ≡ 0) where
    -- none yet
    pub passes_none : (slot : ℕ) (old : List ℕ) → IsPassing slot 0 key.w1 old old
    passes_none slot old = record {
      wide = refl;
      at = first_masked slots key power;
      other = λ j low. absurd (omega arith);
      passed = λ s near. omega arith;
      others = λ a away. refl;
    }

    -- one more
    pub passes_more : (slot n probe next here word : ℕ) (old now new : List ℕ)
        → IsPassing slot n probe old now → length old ≡ word_count slots room → n < slots
        → here ≡ bit_and probe (slots - 1) → here ≢ slot
        → word ≡ slice_index now (field_at room here DISPLACEMENT) + 1
        → new ≡ slice_set now (field_at room here DISPLACEMENT) word
        → next ≡ (probe + bit_or key.w0 1) % 2 ^ 64
        → IsPassing slot (n + 1) next old new
    passes_more slot n probe next here word old now new so_far wide low is apart sum put on =
        let place : here ≡ probe_slot slots key n = is ∙ so_far.at in
        let near : here < slots =
        let g = probe_inside slots key n (omega arith) in omega arith in
        let count = so_far.wide in
        let inside : field_at room here DISPLACEMENT < length now =
        let g = field_inside slots room here DISPLACEMENT near (omega arith) in
        let a : ℕ = field_at room here DISPLACEMENT in
        let b : ℕ = word_count slots room in
        let h : a < length now = omega arith in h in
        rw put record {
          wide = length-set now (field_at room here DISPLACEMENT) word ∙ so_far.wide;
          at = rw on (next_masked slots key power n probe so_far.at);
          other = λ j less. elim (cases_eq j n) [
            | inl same ↦ rw (same, ← place) apart
            | inr before ↦ so_far.other j (omega arith)
          ];
          passed = λ s small.
              let so : List ℕ = map (probe_slot slots key) (range_with_len 0 n) in
              let last : times s (probe_slot slots key n ∷ []) ≡ when (here == s) 1 + 0 =
              ap (λ z. when (z == s) 1 + 0) (sym place) in
              let given : times s (map (probe_slot slots key) (range_with_len 0 (n + 1)))
              ≡ times s so + times s (probe_slot slots key n ∷ []) =
              ap (times s) (map-range_with_len_more (probe_slot slots key) 0 n n (omega arith))
              ∙ total-append (λ x. when (x == s) 1) so (probe_slot slots key n ∷ []) in
              let was = so_far.passed s small in
              elim (cases_eq s here) [
                | inl same ↦
                    let one : when (here == s) 1 ≡ 1 =
                    ap (λ b. when b 1) (eq-eqb here s (sym same)) in
                    let now_is : slice_index
                    (slice_set now (field_at room here DISPLACEMENT) word)
                    (field_at room s DISPLACEMENT) ≡ word =
                    rw same (word_here now (field_at room here DISPLACEMENT) word inside) in
                    let found : slice_index now (field_at room here DISPLACEMENT)
                    ≡ slice_index now (field_at room s DISPLACEMENT) =
                    ap (λ t. slice_index now (field_at room t DISPLACEMENT)) (sym same) in
                    now_is ∙ (sum ∙ (ap (λ m. m + 1) (found ∙ was) ∙ omega arith))
                | inr elsewhere ↦
                    let none : when (here == s) 1 ≡ 0 =
                    ap (λ b. when b 1) (ne_eqb here s (λ e. elsewhere (sym e))) in
                    word_else now (field_at room here DISPLACEMENT)
                    (field_at room s DISPLACEMENT) word
                    (λ e. elsewhere (fields_apart room s here DISPLACEMENT DISPLACEMENT
                    (omega arith) (omega arith) e).0)
                    ∙ (was ∙ omega arith)
              ];
          others = λ a away.
              word_else now (field_at room here DISPLACEMENT) a word
              (λ e. away here near (sym e))
              ∙ so_far.others a away;
        }

    -- the word of the next one is not near its end
    pub passes_low : (slot n probe here : ℕ) (old now : List ℕ)
        → IsPassing slot n probe old now → n < slots → slots ≤ MOST_SLOTS
        → here ≡ bit_and probe (slots - 1)
        → ((s : ℕ) → s < slots → slice_index old (field_at room s DISPLACEMENT) < 2 ^ 63)
        → slice_index now (field_at room here DISPLACEMENT) + 1 < 2 ^ 64
    passes_low slot n probe here old now so_far low most is space =
        let place : here ≡ probe_slot slots key n = is ∙ so_far.at in
        let near : here < slots =
        let g = probe_inside slots key n (omega arith) in omega arith in
        let so : List ℕ = map (probe_slot slots key) (range_with_len 0 n) in
        let few = total-bound (λ x. when (x == here) 1) 1 so (λ j x at. when_le (x == here) 1) in
        let long : length so ≡ n = length-map-range_with_len (probe_slot slots key) 0 n in
        let was = so_far.passed here near in
        let small = space here near in
        omega arith

    -- all of them
    pub passes_all : (slot n probe : ℕ) (old new : List ℕ) → IsPassing slot n probe old new
        → n < slots → slot ≡ bit_and probe (slots - 1) → (s : ℕ) → s < slots
        → slice_index new (field_at room s DISPLACEMENT)
        ≡ slice_index old (field_at room s DISPLACEMENT) + times s (trail_to slots key slot)
    passes_all slot n probe old new all low is s small =
        let place : slot ≡ probe_slot slots key n = is ∙ all.at in
        let trail = trail_at slots key power n low in
        all.passed s small
        ∙ ap (λ t. slice_index old (field_at room s DISPLACEMENT) + times s t)
        (sym (ap (trail_to slots key) place ∙ trail))

    -- each slot is met
    pub passes_end : (slot n probe : ℕ) (old new : List ℕ) → IsPassing slot n probe old new
        → slot < slots → slots ≤ n → ⊥
    passes_end slot n probe old new all near past =
        let found = probe_of_slot slots key power slot near in
        let low = found.1 in
        all.other found.0 (omega arith) found.2
