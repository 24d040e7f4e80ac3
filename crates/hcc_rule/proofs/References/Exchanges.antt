-- Exchanges that leave the references of an entry: the clock's and a correction's.
use Rattle.std.proofs.Common.{◌≡◌, ℕ, ◌-◌, ◌^◌, ◌<◌, ◌≤◌, ◌==◌, Bool, true, false, List, [], ◌∷◌, Option, Some, None, Ok, IsSomeAnd, slice_get, slice_index, sym, refl, ap, ◌∙◌, arith}
use Rattle.std.proofs.lemmas.Bool.{lt-ltb, le-leb, eqb-true}
use mathlib.Core.Option.{none}
use prog.Atomic.{either}
use Rattle.atomic_table.specs.Table.{step}
use Rattle.hcc_word.specs.Near.{IsNear}
use Rattle.hcc_word.specs.Word.{releases_of}
use Rattle.hcc_word.proofs.CodeLaws.{releases_of-shareable}
use Rattle.std.proofs.Math.Nat.{min-le_left}
use Rattle.hcc_word.specs.Code.{code_of_shareable}
use Rattle.hcc_word.specs.Changes.{IsClockable, clocked_word, IsCorrectable, corrected_word}
use Rattle.hcc_word.proofs.ExchangeLaws.{IsClockable-empty, IsClockable-building, IsClockable-shareable, clocked_word-shareable, IsCorrectable-shareable, corrected_word-shareable}
use Rattle.hcc_core.specs.declared.limits.TheConstants.{MOST_REFERENCES, MOST_CLOCKED, NEAR, CORRECTION}
use Rattle.hcc_core.specs.declared.event.Event.{Event}
use Rattle.hcc_core.specs.declared.event.Event.TheVariants as events
use Rattle.hcc_core.specs.declared.event.Reply.TheVariants as replies
use Rattle.hcc_core.specs.declared.client.Client.{Client}
use Rattle.hcc_core.specs.declared.slot.Reference.{Reference}
use Rattle.hcc_core.specs.declared.slot.Resident.{Resident}
use Rattle.hcc_core.specs.declared.slot.Slot.{Slot}
use Rattle.hcc_core.specs.declared.slot.Slot.TheVariants as slots
use Rattle.hcc_core.specs.Sums.{when, total}
use Rattle.hcc_core.specs.World.{State, weight, counted, slot_holding}
use Rattle.hcc_core.specs.Outcomes.{with_both, has_no_member}
use Rattle.hcc_core.specs.References.{client_noticed}
use Rattle.hcc_core.specs.Uses.{clocked, may_clock, may_correct, clock_of, correct_of}
use Rattle.hcc_core.specs.Steps.{outcome_of}
use Rattle.hcc_core.specs.Lawful.{Lawful}
use Rattle.hcc_core.proofs.ListLemmas.{set_same}
use Rattle.hcc_core.proofs.SumLemmas.{total-le}
use Rattle.hcc_core.proofs.Opening.{is_lawful}
use Rattle.hcc_rule.specs.declared.key.Key.{Key}
use Rattle.hcc_rule.specs.declared.layout.TheConstants.{META}
use Rattle.hcc_rule.specs.declared.rule.Plan.{Plan}
use Rattle.hcc_rule.specs.declared.view.Record.{Record}
use Rattle.hcc_rule.specs.declared.view.View.{View}
use Rattle.hcc_rule.specs.Told.{Held}
use Rattle.hcc_rule.specs.Looked.{noticing}
use Rattle.hcc_rule.specs.ToldReferences.{clocks, corrects}
use Rattle.hcc_rule.specs.Views.{is_on, is_seated, held, Each}
use Rattle.hcc_rule.specs.Records.{record_in}
use Rattle.hcc_rule.specs.Words.{field_at, code_of}
use Rattle.hcc_rule.specs.Rule.{IsRecorded, Holds}
use Rattle.hcc_rule.proofs.Basics.Lists.{within, read_at}
use Rattle.hcc_rule.proofs.Parts.Codes.{few_strays, is_near}
use Rattle.hcc_rule.proofs.References.Looks.{client_fits, slot_fits, slot_there, looks_on, look_told}
use Rattle.hcc_rule.proofs.References.Bits.{rested}
use Rattle.hcc_rule.proofs.Parts.OnEntries.{OnEntry, on_some, name_held, reference_there, code_there, dead_there}
use Rattle.hcc_rule.proofs.Parts.SlotSteps.{Shard}
use Rattle.hcc_rule.proofs.Parts.Touches.{by_client, goes, client_is, live_is}
use Rattle.hcc_rule.specs.Acts.{Acts, Goes, did}
use Rattle.hcc_rule.specs.declared.view.Done.{Done}

-- A clock's event is allowed at a shown entry with no references and some uses.
clock_allowed : (w : State) (c i : ℕ) (found : Client) (k : Resident) → Lawful w
    → slice_get w.slots i ≡ Some (slots.Shareable k) → slice_get w.clients c ≡ Some found
    → found.live ≡ true
    → may_clock (slots.Shareable k) ≡ true
    → outcome_of w (events.Clock c i) ≡ Ok (
      replies.Uses (clocked k.uses),
      with_both w i
          (slots.Shareable (record k { uses = clocked k.uses })) c found,
    )
unfolding outcome_of clock_of
clock_allowed w c i found k l at_slot at_client live may =
    rw (
      set_same w.clients c found at_client,
      client_fits w c l
          (within w.clients c found at_client),
      slot_fits w i l
          (within w.slots i (slots.Shareable k) at_slot),
      at_slot,
      at_client,
      live,
      may,
    ) refl

-- A correction is allowed where the client holds the name, and may correct.
correct_allowed : (w : State) (c x i : ℕ) (found : Client) (k : Resident) → Lawful w → x < 2 ^ 64
    → slot_holding w.slots c x ≡ Some i → slice_get w.slots i ≡ Some (slots.Shareable k)
    → slice_get w.clients c ≡ Some found → found.live ≡ true
    → may_correct c x (slots.Shareable k) ≡ true
    → outcome_of w (events.Correct c x) ≡ Ok (
      replies.Ok,
      with_both w i (slots.Shareable (record k { uses = k.uses - CORRECTION })) c
          (client_noticed c (slots.Shareable k) found),
    )
unfolding outcome_of correct_of
correct_allowed w c x i found k l small holds at_slot at_client live may =
    rw (
      client_fits w c l (within w.clients c found at_client),
      lt-ltb x (2 ^ 64) small,
      at_client,
      live,
      holds,
      at_slot,
      may,
    ) refl

-- records on a slot are no more than what they weigh
pub records_weigh : (all : List Slot) (i : ℕ) (rs : List Record) → Each (IsRecorded all) rs
    → total (λ q. when (is_on i q) 1) rs ≤ total (λ q. when (is_on i q) q.weight) rs
records_weigh all i [] each = omega arith
records_weigh all i (q ∷ qs) each =
    let one = by (is_on i q) in
    let rest = records_weigh all i qs each.1 in
    omega arith
  where
    by : (b : Bool) → when b 1 ≤ when b q.weight
    by true = let some = each.0.some in omega arith
    by false = omega arith

none_there : (ks : List Reference) → total (λ (k : Reference). 1) ks ≡ 0 → has_no_member ks ≡ true
none_there [] h = refl
none_there (k ∷ ks) h = absurd (omega arith)

module _ {T : Type 0} (fits : T → Key → List ℕ → Type 0) (p : Plan T) where
  -- Where the references of a slot weigh nothing, it has none.
  pub unreferenced : (s : Shard fits p) (r : Holds fits p s) (i : ℕ) (k : Resident)
      → slice_get r.world.slots i ≡ Some (slots.Shareable k) → weight k.references ≡ 0
      → has_no_member k.references ≡ true
  unreferenced s r i k at_slot light =
      let count = r.references i (slots.Shareable k) at_slot (λ j. 1) in
      let weighs = r.references i (slots.Shareable k) at_slot (λ j. j.weight) in
      let few = total-le (held i (λ j. 1)) (held i (λ (j : Reference). j.weight)) s.views
      (λ j u there. records_weigh r.world.slots i u.records (r.holding j u there).recorded) in
      none_there k.references (omega arith)

  -- What a clock's exchange finds and leaves, where it wins.
  module _ (s : Shard fits p) (r : Holds fits p s) (i old new : ℕ) (k : Resident)
      (at_slot : slice_get r.world.slots i ≡ Some (slots.Shareable k)) where
    near : IsNear MOST_REFERENCES k.uses (weight k.references) (counted k.references)
    near = is_near r.world (is_lawful r.world r.lawful) i k at_slot

    clocked_near : IsNear MOST_REFERENCES (clocked k.uses) (weight k.references)
        (counted k.references)
    clocked_near =
        let fewer = min-le_left (k.uses - 1) MOST_CLOCKED in
        let uses = near.near_uses in
        record {
          few_refs = near.few_refs;
          counting_are_refs = near.counting_are_refs;
          near_uses = omega arith;
          room = near.room;
        }

    -- its word tells the uses that are left
    uses_left : new ≡ code_of (slots.Shareable (record k { uses = clocked k.uses }))
        → releases_of new ≡ clocked k.uses
    uses_left code = ap releases_of code ∙ releases_of-shareable k.hit k.shown clocked_near

    -- a clock counts down an entry that is shown, with no references and some uses
    clocks_one : code_of (slots.Shareable k) ≡ old → IsClockable old
        → (k.shown ≡ true) × (weight k.references ≡ 0) × (0 < k.uses)
    clocks_one same clockable =
        (IsClockable-shareable k.hit k.shown near).0 (rw same clockable)

    clocked_code : code_of (slots.Shareable k) ≡ old → IsClockable old → new ≡ clocked_word old
        → new ≡ code_of (slots.Shareable (record k { uses = clocked k.uses }))
    clocked_code same clockable clocks =
        let one = clocks_one same clockable in
        let kept : code_of_shareable (clocked k.uses) (weight k.references) k.hit k.shown
        ≡ code_of_shareable (clocked k.uses) 0 k.hit true = rw (one.1, one.0) refl in
        clocks ∙ (ap clocked_word (sym same)
        ∙ (clocked_word-shareable k.hit k.shown near ∙ sym kept))

  -- The clock counts.
  clocks_on : (s : Shard fits p) (r : Holds fits p s) (id i a old new : ℕ) (me : Held T)
      (k : Resident) (then : ℕ → Held T → Option Done → Type 0)
      → slice_get s.views id ≡ Some me.0 → is_seated me.0 ≡ true
      → slice_get r.world.slots i ≡ Some (slots.Shareable k) → a ≡ field_at p.geometry.room i META
      → code_of (slots.Shareable k) ≡ old → IsClockable old → new ≡ clocked_word old
      → then (slice_index s.words a) (me.0, me.1)
      (Some (did (events.Clock me.0.client i) (replies.Uses (clocked k.uses))))
      → Goes fits p s r a new id me then
  clocks_on s r id i a old new me k then at seated at_slot address same clockable clocks told =
      goes fits p s r a new id i me me.0 (slots.Shareable k) (slots.Shareable left) event
      (replies.Uses (clocked k.uses)) then address code (refl, refl)
      (rested fits p s r id i me.0 me.0 k left event (replies.Uses (clocked k.uses)) at at_slot
      seated
      record { tag = refl; client = refl; others = refl; turns = refl; glimpse = refl } refl record
      { written = refl; made = refl; takings = refl; gone = refl } refl refl refl refl refl
      (clock_allowed r.world me.0.client i me.0.work k l at_slot
      (client_is fits p s r id me.0 at seated) (live_is fits p s r id me.0 at seated) may))
      told
    where
      l : Lawful r.world
      l = is_lawful r.world r.lawful

      left : Resident
      left = record k { uses = clocked k.uses }

      event : Event
      event = events.Clock me.0.client i

      may_count : (k.shown ≡ true) × (weight k.references ≡ 0) × (0 < k.uses)
      may_count = clocks_one s r i old new k at_slot same clockable

      may : may_clock (slots.Shareable k) ≡ true
      may = rw (may_count.0, unreferenced s r i k at_slot may_count.1, lt-ltb 0 k.uses may_count.2)
          refl

      code : new ≡ code_of (slots.Shareable left)
      code = clocked_code s r i old new k at_slot same clockable clocks

  -- The clock's exchange keeps the rule, and tells what it found.
  pub clock_step : (count id i a old new : ℕ) (me : Held T) → i < p.geometry.slots
      → is_seated me.0 ≡ true
      → a ≡ field_at p.geometry.room i META → IsClockable old → new ≡ clocked_word old
      → Acts fits p count id me a (λ y. either (y == old) new y)
      (clocks i (step count a old new none) me)
  clock_step count id i a old new me near seated address clockable clocks_to s r homes at low =
      let slot = slot_there fits p s r i near in
      by slot.0 slot.1 (slice_index s.words a == old) refl
    where
      word : ℕ
      word = slice_index s.words a

      then : ℕ → Held T → Option Done → Type 0
      then = clocks i (step count a old new none) me

      here : slice_get s.views id ≡ Some me.0
      here = read_at s.views id me.0 at

      word_is : (t : Slot) → slice_get r.world.slots i ≡ Some t → word ≡ code_of t
      word_is t at_slot = ap (slice_index s.words) address ∙ r.coded.meta i t at_slot

      wins : (t : Slot) → slice_get r.world.slots i ≡ Some t → code_of t ≡ old
          → (word == old) ≡ true → Goes fits p s r a new id me then
      wins (slots.Empty strays) at_slot same is =
          let few = few_strays r.world (is_lawful r.world r.lawful) i (slots.Empty strays)
          at_slot in
          absurd (IsClockable-empty strays (omega arith) (rw same clockable))
      wins (slots.Building client strays) at_slot same is =
          let few = few_strays r.world (is_lawful r.world r.lawful) i (slots.Building client strays)
          at_slot in
          absurd (IsClockable-building strays (omega arith) (rw same clockable))
      wins (slots.Shareable k) at_slot same is =
          clocks_on s r id i a old new me k then here seated at_slot address same clockable
          clocks_to (
            refl,
            rw is refl,
            ap Some (rw is (ap (λ n. did (events.Clock me.0.client i) (replies.Uses n))
                (sym (uses_left s r i old new k at_slot (clocked_code s r i old new k at_slot same
                clockable clocks_to))))),
          )

      by : (t : Slot) → slice_get r.world.slots i ≡ Some t → (b : Bool) → (word == old) ≡ b
          → Goes fits p s r a (either b new word) id me then
      by t at_slot true is = wins t at_slot (sym (word_is t at_slot) ∙ eqb-true word old is) is
      by t at_slot false is = looks_on fits p s r id i a me t then at_slot seated address here
          (refl, rw is refl, ap Some (rw is (look_told fits p s r i a me.0 t at_slot address)))

  -- Both counters are corrected.
  corrects_on : (s : Shard fits p) (r : Holds fits p s) (id i x a old new : ℕ) (me : Held T)
      (q : Record) (k : Resident) (then : ℕ → Held T → Option Done → Type 0)
      → OnEntry fits p s r id i x me.0 q k → q.counting ≡ false → x < 2 ^ 64
      → a ≡ field_at p.geometry.room i META
      → code_of (slots.Shareable k) ≡ old → IsCorrectable old → new ≡ corrected_word old
      → then (slice_index s.words a) (noticing i (slice_index s.words a) me.0, me.1)
      (Some (did (events.Correct me.0.client x) replies.Ok))
      → Goes fits p s r a new id me then
  corrects_on s r id i x a old new me q k then o uncounted small address same correctable corrects
      told =
      goes fits p s r a new id i me after t (slots.Shareable left) event replies.Ok then address
      code (refl, refl)
      (rested fits p s r id i me.0 after k left event replies.Ok o.at_view o.at_slot o.seated
      record { tag = refl; client = refl; others = refl; turns = refl; glimpse = refl } refl record
      { written = refl; made = refl; takings = refl; gone = refl } refl refl refl refl refl
      (by_client r.world event replies.Ok i me.0.client (slots.Shareable left)
      (client_noticed me.0.client t me.0.work) after.work becomes
      (correct_allowed r.world me.0.client x i me.0.work k l small
      (name_held fits p s r id i x me.0 q k o) o.at_slot
      (client_is fits p s r id me.0 o.at_view o.seated)
      (live_is fits p s r id me.0 o.at_view o.seated) may)))
      told
    where
      l : Lawful r.world
      l = is_lawful r.world r.lawful

      t : Slot
      t = slots.Shareable k

      near : IsNear MOST_REFERENCES k.uses (weight k.references) (counted k.references)
      near = is_near r.world (is_lawful r.world r.lawful) i k o.at_slot

      left : Resident
      left = record k { uses = k.uses - CORRECTION }

      event : Event
      event = events.Correct me.0.client x

      after : View T
      after = noticing i (slice_index s.words a) me.0

      high : NEAR ≤ k.uses
      high = (IsCorrectable-shareable k.hit k.shown near).0 (rw same correctable)

      may : may_correct me.0.client x t ≡ true
      may = rw (reference_there fits p s r id i x me.0 q k o, uncounted, le-leb NEAR k.uses high)
          refl

      code : new ≡ code_of (slots.Shareable left)
      code = corrects ∙ (ap corrected_word (sym same)
          ∙ corrected_word-shareable k.hit k.shown near high)

      becomes : client_noticed me.0.client t me.0.work ≡ after.work
      becomes = rw (
        code_there fits p s r id i x me.0 q k o a address,
        dead_there fits p s r id i x
            me.0 q k o,
      ) refl

  -- A correction's exchange keeps the rule, and tells what it found.
  pub correct_step : (count id i x a old new : ℕ) (me : Held T) → is_seated me.0 ≡ true → x < 2 ^ 64
      → a ≡ field_at p.geometry.room i META
      → IsSomeAnd (record_in x me.0.records) (λ q. (q.slot ≡ i) × (q.counting ≡ false))
      → IsCorrectable old → new ≡ corrected_word old
      → Acts fits p count id me a (λ y. either (y == old) new y)
      (corrects i x (step count a old new none) me)
  correct_step count id i x a old new me seated small address so correctable corrects_to s r homes
      at low =
      by (record_in x me.0.records) refl so
    where
      word : ℕ
      word = slice_index s.words a

      then : ℕ → Held T → Option Done → Type 0
      then = corrects i x (step count a old new none) me

      here : slice_get s.views id ≡ Some me.0
      here = read_at s.views id me.0 at

      tried : (q : Record) (k : Resident) → OnEntry fits p s r id i x me.0 q k → q.counting ≡ false
          → (b : Bool) → (word == old) ≡ b → Goes fits p s r a (either b new word) id me then
      tried q k o uncounted true is =
          corrects_on s r id i x a old new me q k then o uncounted small address
          (sym (code_there fits p s r id i x me.0 q k o a address) ∙ eqb-true word old is)
          correctable corrects_to (refl, rw is refl, rw is refl)
      tried q k o uncounted false is = looks_on fits p s r id i a me (slots.Shareable k) then
          o.at_slot seated address here (
            refl,
            rw is refl,
            ap Some (rw is (look_told fits p s r i a me.0 (slots.Shareable k) o.at_slot address)),
          )

      by : (found : Option Record) → record_in x me.0.records ≡ found
          → IsSomeAnd found (λ q. (q.slot ≡ i) × (q.counting ≡ false))
          → Goes fits p s r a (either (word == old) new word) id me then
      by None called so = absurd so
      by (Some q) called so =
          let there = on_some fits p s r id i x me.0 q here seated called so.0 in
          tried q there.0 there.1 so.1 (word == old) refl
