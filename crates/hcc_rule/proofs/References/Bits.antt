-- Steps on the bits of a meta word: an entry is hidden, and marked as hit.
use Rattle.std.proofs.Common.{◌≡◌, ℕ, ◌^◌, ◌<◌, true, false, List, Option, Some, None, Ok, IsSomeAnd, bit_and, bit_or, slice_get, slice_index, refl, ap, ◌∙◌, cond, sym}
use Rattle.std.proofs.lemmas.Bool.{lt-ltb}
use mathlib.Core.Option.{none}
use Rattle.atomic_table.specs.Table.{step}
use Rattle.hcc_word.specs.declared.layout.TheConstants.{HIDING_MASK, HIT_BIT}
use Rattle.hcc_word.specs.Word.{is_shareable, is_visible}
use Rattle.hcc_word.specs.Near.{IsNear}
use Rattle.hcc_core.specs.declared.limits.TheConstants.{MOST_REFERENCES}
use Rattle.hcc_word.proofs.StepLaws.{and_hide-shareable, or_hit-shareable}
use Rattle.hcc_word.proofs.CodeLaws.{is_shareable-shareable}
use Rattle.hcc_core.specs.declared.event.Event.{Event}
use Rattle.hcc_core.specs.declared.event.Event.TheVariants as events
use Rattle.hcc_core.specs.declared.event.Reply.{Reply}
use Rattle.hcc_core.specs.declared.event.Reply.TheVariants as replies
use Rattle.hcc_core.specs.declared.client.Client.{Client}
use Rattle.hcc_core.specs.declared.slot.Resident.{Resident}
use Rattle.hcc_core.specs.declared.slot.Slot.{Slot}
use Rattle.hcc_core.specs.declared.slot.Slot.TheVariants as slots
use Rattle.hcc_core.specs.World.{State, weight, counted, slot_holding}
use Rattle.hcc_core.specs.Outcomes.{with_both}
use Rattle.hcc_core.specs.References.{client_noticed}
use Rattle.hcc_core.specs.Uses.{slot_marked, mark_of}
use Rattle.hcc_core.specs.Entries.{slot_hidden, hidden}
use Rattle.hcc_core.specs.Steps.{outcome_of}
use Rattle.hcc_core.specs.Lawful.{Lawful}
use Rattle.hcc_core.proofs.Opening.{is_lawful}
use Rattle.hcc_core.proofs.StepLemmas.{dead_hidden, held_has_client, hide_gives}
use Rattle.hcc_rule.specs.declared.key.Key.{Key}
use Rattle.hcc_rule.specs.declared.layout.TheConstants.{META}
use Rattle.hcc_rule.specs.declared.rule.Plan.{Plan}
use Rattle.hcc_rule.specs.declared.view.Record.{Record}
use Rattle.hcc_rule.specs.declared.view.View.{View}
use Rattle.hcc_rule.specs.Told.{Held}
use Rattle.hcc_rule.specs.Looked.{noticing}
use Rattle.hcc_rule.specs.ToldReferences.{after_hide, hides, marks}
use Rattle.hcc_rule.specs.Views.{is_seated}
use Rattle.hcc_rule.specs.Records.{record_in}
use Rattle.hcc_rule.specs.Words.{field_at, code_of}
use Rattle.hcc_rule.specs.Rule.{Holds}
use Rattle.hcc_rule.proofs.Basics.Lists.{within, read_at}
use Rattle.hcc_rule.proofs.Parts.Codes.{is_near, tells_shown}
use Rattle.hcc_rule.proofs.References.Looks.{client_fits}
use Rattle.hcc_rule.proofs.Parts.OnEntries.{OnEntry, on_some, name_held, code_there, dead_there}
use Rattle.hcc_rule.proofs.Parts.SlotSteps.{Shard, SameName, SlotStep}
use Rattle.hcc_rule.proofs.Parts.Touches.{by_client, SameWork, SameStore, touched, goes, client_is, live_is, looks_still}
use Rattle.hcc_rule.specs.Acts.{Acts, Goes, did}
use Rattle.hcc_rule.specs.declared.view.Done.{Done}
use Rattle.hcc_rule.specs.Events.{hide_done}

-- a hide is allowed where the client holds the name
hide_allowed : (w : State) (c x i : ℕ) (found : Client) (t : Slot) → Lawful w → x < 2 ^ 64
    → slot_holding w.slots c x ≡ Some i → slice_get w.slots i ≡ Some t
    → slice_get w.clients c ≡ Some found → found.live ≡ true
    → outcome_of w (events.Hide c x) ≡ Ok
    (hidden t, with_both w i (slot_hidden t) c (client_noticed c (slot_hidden t) found))
unfolding outcome_of
hide_allowed w c x i found t l small holds at_slot at_client live =
    rw (client_fits w c l (within w.clients c found at_client), lt-ltb x (2 ^ 64) small)
    (hide_gives w c x i found (client_noticed c (slot_hidden t) found) t (slot_hidden t) (hidden t)
    at_client live holds at_slot refl refl refl)

-- and so is a mark
mark_allowed : (w : State) (c x i : ℕ) (found : Client) (t : Slot) → Lawful w → x < 2 ^ 64
    → slot_holding w.slots c x ≡ Some i → slice_get w.slots i ≡ Some t
    → slice_get w.clients c ≡ Some found → found.live ≡ true
    → outcome_of w (events.Mark c x) ≡ Ok
    (replies.Ok, with_both w i (slot_marked t) c (client_noticed c t found))
unfolding outcome_of mark_of
mark_allowed w c x i found t l small holds at_slot at_client live =
    rw (
      client_fits w c l (within w.clients c found at_client),
      lt-ltb x (2 ^ 64) small,
      at_client,
      live,
      holds,
      at_slot,
    ) refl

module _ {T : Type 0} (fits : T → Key → List ℕ → Type 0) (p : Plan T) where
  -- A step that leaves the slot's references, and the records of the view.
  pub rested : (s : Shard fits p) (r : Holds fits p s) (id i : ℕ) (v new : View T)
      (k left : Resident) (event : Event) (reply : Reply)
      → slice_get s.views id ≡ Some v → slice_get r.world.slots i ≡ Some (slots.Shareable k)
      → is_seated v ≡ true
      → SameName fits p v new → SameWork v.work new.work → SameStore v new → new.records ≡ v.records
      → new.work.looked ≡ v.work.looked
      → left.entry ≡ k.entry → left.trail ≡ k.trail → left.references ≡ k.references
      → outcome_of r.world event ≡ Ok (
        reply,
        with_both r.world i (slots.Shareable left) v.client
            new.work,
      )
      → SlotStep fits p s r id i v new (slots.Shareable k) (slots.Shareable left) event reply
  rested s r id i v new k left event reply at at_slot seated same work store records looked entry
      trail refs allowed =
      touched fits p s r id i v new (slots.Shareable k) (slots.Shareable left) event reply record {
        at_view = at;
        at_slot = at_slot;
        seated = seated;
        same = same;
        work = work;
        store = store;
        allowed = allowed;
        like = record { entry = ap Some entry; trail = trail };
        here = λ h. rw (refs, same.client, records) refl;
        elsewhere = λ j h other. rw (same.client, records) refl;
        holding = let old = r.holding id v at in record {
          recorded = rw records old.recorded;
          once = λ name. rw records (old.once name);
          few = rw records old.few;
        };
        looked = rw looked (looks_still i (slots.Shareable k) v.work.looked);
      }

  -- The entry is hidden, and the client has seen it dead.
  hides_on : (s : Shard fits p) (r : Holds fits p s) (id i x a : ℕ) (me : Held T) (q : Record)
      (k : Resident) (then : ℕ → Held T → Option Done → Type 0)
      → OnEntry fits p s r id i x me.0 q k → x < 2 ^ 64 → a ≡ field_at p.geometry.room i META
      → (is_shareable (slice_index s.words a) ≡ true
      → then (slice_index s.words a) (after_hide x (slice_index s.words a) me.0, me.1)
      (Some (hide_done x (slice_index s.words a) me.0)))
      → Goes fits p s r a (bit_and (slice_index s.words a) HIDING_MASK) id me then
  hides_on s r id i x a me q k then o small address told =
      goes fits p s r a (bit_and word HIDING_MASK) id i me new t left event reply then address code
      (refl, refl)
      (rested s r id i me.0 new k (record k { shown = false }) event reply o.at_view o.at_slot
      o.seated
      record { tag = refl; client = refl; others = refl; turns = refl; glimpse = refl } refl record
      { written = refl; made = refl; takings = refl; gone = refl } refl refl refl refl refl
      (by_client r.world event reply i me.0.client left (client_noticed me.0.client left me.0.work)
      new.work becomes
      (hide_allowed r.world me.0.client x i me.0.work t l small holds o.at_slot
      (client_is fits p s r id me.0 o.at_view o.seated)
      (live_is fits p s r id me.0 o.at_view o.seated))))
      (rw answered (told (ap is_shareable word_is ∙ is_shareable-shareable k.hit k.shown near)))
    where
      l : Lawful r.world
      l = is_lawful r.world r.lawful

      t : Slot
      t = slots.Shareable k

      left : Slot
      left = slot_hidden t

      near : IsNear MOST_REFERENCES k.uses (weight k.references) (counted k.references)
      near = is_near r.world (is_lawful r.world r.lawful) i k o.at_slot

      event : Event
      event = events.Hide me.0.client x

      reply : Reply
      reply = hidden t

      word : ℕ
      word = slice_index s.words a

      new : View T
      new = after_hide x word me.0

      word_is : word ≡ code_of t
      word_is = code_there fits p s r id i x me.0 q k o a address

      -- the reply is what the word tells
      answered : hidden t ≡ cond (is_visible word) replies.Hid replies.Again
      answered = ap (λ b. cond b replies.Hid replies.Again)
          (sym (ap is_visible word_is ∙ tells_shown r.world l i k o.at_slot))

      holds : slot_holding r.world.slots me.0.client x ≡ Some i
      holds = name_held fits p s r id i x me.0 q k o

      code : bit_and word HIDING_MASK ≡ code_of left
      code = ap (λ y. bit_and y HIDING_MASK) word_is ∙ and_hide-shareable k.hit k.shown near

      becomes : client_noticed me.0.client left me.0.work ≡ new.work
      becomes =
          rw (
            dead_hidden me.0.client t (held_has_client r.world.slots me.0.client x i t holds
                o.at_slot),
            o.called,
            o.entry,
          ) refl

  pub hide_step : (count id i x a : ℕ) (me : Held T) → is_seated me.0 ≡ true → x < 2 ^ 64
      → a ≡ field_at p.geometry.room i META
      → IsSomeAnd (record_in x me.0.records) (λ q. q.slot ≡ i)
      → Acts fits p count id me a (λ y. bit_and y HIDING_MASK)
      (hides x (step count a HIDING_MASK 0 none) me)
  hide_step count id i x a me seated small address so s r homes at low =
      by (record_in x me.0.records) refl so
    where
      then : ℕ → Held T → Option Done → Type 0
      then = hides x (step count a HIDING_MASK 0 none) me

      by : (found : Option Record) → record_in x me.0.records ≡ found
          → IsSomeAnd found (λ q. q.slot ≡ i)
          → Goes fits p s r a (bit_and (slice_index s.words a) HIDING_MASK) id me then
      by None called so = absurd so
      by (Some q) called so =
          let there = on_some fits p s r id i x me.0 q (read_at s.views id me.0 at) seated called
          so in
          hides_on s r id i x a me q there.0 then there.1 small address
          (λ told. (refl, refl, told, refl))

  -- The entry is marked.
  marks_on : (s : Shard fits p) (r : Holds fits p s) (id i x a : ℕ) (me : Held T) (q : Record)
      (k : Resident) (then : ℕ → Held T → Option Done → Type 0)
      → OnEntry fits p s r id i x me.0 q k → x < 2 ^ 64 → a ≡ field_at p.geometry.room i META
      → (is_shareable (slice_index s.words a) ≡ true
      → then (slice_index s.words a) (noticing i (slice_index s.words a) me.0, me.1)
      (Some (did (events.Mark me.0.client x) replies.Ok)))
      → Goes fits p s r a (bit_or (slice_index s.words a) HIT_BIT) id me then
  marks_on s r id i x a me q k then o small address told =
      goes fits p s r a (bit_or word HIT_BIT) id i me new t left event replies.Ok then address code
      (refl, refl)
      (rested s r id i me.0 new k (record k { hit = true }) event replies.Ok o.at_view o.at_slot
      o.seated
      record { tag = refl; client = refl; others = refl; turns = refl; glimpse = refl } refl record
      { written = refl; made = refl; takings = refl; gone = refl } refl refl refl refl refl
      (by_client r.world event replies.Ok i me.0.client left
      (client_noticed me.0.client t me.0.work) new.work becomes
      (mark_allowed r.world me.0.client x i me.0.work t l small
      (name_held fits p s r id i x me.0 q k o) o.at_slot
      (client_is fits p s r id me.0 o.at_view o.seated)
      (live_is fits p s r id me.0 o.at_view o.seated))))
      (told (ap is_shareable word_is ∙ is_shareable-shareable k.hit k.shown near))
    where
      l : Lawful r.world
      l = is_lawful r.world r.lawful

      t : Slot
      t = slots.Shareable k

      left : Slot
      left = slot_marked t

      near : IsNear MOST_REFERENCES k.uses (weight k.references) (counted k.references)
      near = is_near r.world (is_lawful r.world r.lawful) i k o.at_slot

      event : Event
      event = events.Mark me.0.client x

      word : ℕ
      word = slice_index s.words a

      new : View T
      new = noticing i word me.0

      word_is : word ≡ code_of t
      word_is = code_there fits p s r id i x me.0 q k o a address

      code : bit_or word HIT_BIT ≡ code_of left
      code = ap (λ y. bit_or y HIT_BIT) word_is ∙ or_hit-shareable k.hit k.shown near

      becomes : client_noticed me.0.client t me.0.work ≡ new.work
      becomes = rw (word_is, dead_there fits p s r id i x me.0 q k o) refl

  pub mark_step : (count id i x a : ℕ) (me : Held T) → is_seated me.0 ≡ true → x < 2 ^ 64
      → a ≡ field_at p.geometry.room i META
      → IsSomeAnd (record_in x me.0.records) (λ q. q.slot ≡ i)
      → Acts fits p count id me a (λ y. bit_or y HIT_BIT)
      (marks i x (step count a HIT_BIT 0 none) me)
  mark_step count id i x a me seated small address so s r homes at low =
      by (record_in x me.0.records) refl so
    where
      then : ℕ → Held T → Option Done → Type 0
      then = marks i x (step count a HIT_BIT 0 none) me

      by : (found : Option Record) → record_in x me.0.records ≡ found
          → IsSomeAnd found (λ q. q.slot ≡ i)
          → Goes fits p s r a (bit_or (slice_index s.words a) HIT_BIT) id me then
      by None called so = absurd so
      by (Some q) called so =
          let there = on_some fits p s r id i x me.0 q (read_at s.views id me.0 at) seated called
          so in
          marks_on s r id i x a me q there.0 then there.1 small address
          (λ told. (refl, refl, told, refl))
