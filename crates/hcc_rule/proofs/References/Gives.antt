-- References are given back: they are taken from acquires.
use Rattle.std.proofs.Common.{◌≡◌, ℕ, ◌+◌, ◌-◌, ◌%◌, ◌^◌, ◌<◌, ◌≢◌, true, List, Option, Some, None, Ok, IsSomeAnd, slice_get, slice_index, sym, refl, ap, ◌∙◌, arith, ne_eqb}
use Rattle.std.proofs.lemmas.Bool.{eq-eqb, lt-ltb}
use mathlib.Core.Option.{none}
use Rattle.atomic_table.specs.Table.{step}
use Rattle.hcc_word.proofs.StepLaws.{take_acquires-shareable}
use Rattle.hcc_word.proofs.CodeLaws.{refs_of-shareable, is_shareable-shareable}
use Rattle.hcc_core.specs.declared.event.Event.{Event}
use Rattle.hcc_core.specs.declared.event.Event.TheVariants as events
use Rattle.hcc_core.specs.declared.event.Reply.{Reply}
use Rattle.hcc_core.specs.declared.event.Reply.TheVariants as replies
use Rattle.hcc_core.specs.declared.client.Client.{Client}
use Rattle.hcc_core.specs.declared.slot.Reference.{Reference}
use Rattle.hcc_core.specs.declared.slot.Resident.{Resident}
use Rattle.hcc_core.specs.declared.slot.Slot.{Slot}
use Rattle.hcc_core.specs.declared.slot.Slot.TheVariants as slots
use Rattle.hcc_core.specs.Sums.{when, total}
use Rattle.hcc_core.specs.World.{State, weight, weight_of, phase_of, is_named, slot_holding}
use Rattle.hcc_core.specs.Outcomes.{with_both, dropped}
use Rattle.hcc_core.specs.References.{slot_given, left_on, client_noticed}
use Rattle.hcc_core.specs.Steps.{outcome_of}
use Rattle.hcc_core.specs.Lawful.{Lawful}
use Rattle.hcc_core.proofs.DroppedLemmas.{dropped-total, dropped-le}
use Rattle.hcc_core.proofs.Opening.{is_lawful}
use Rattle.hcc_core.proofs.StepLemmas.{give_gives}
use Rattle.hcc_rule.specs.declared.key.Key.{Key}
use Rattle.hcc_rule.specs.declared.layout.TheConstants.{META}
use Rattle.hcc_rule.specs.declared.rule.Plan.{Plan}
use Rattle.hcc_rule.specs.declared.view.Record.{Record}
use Rattle.hcc_rule.specs.declared.view.View.{View}
use Rattle.hcc_rule.specs.Told.{Held}
use Rattle.hcc_rule.specs.ToldReferences.{after_give, IsReferenced, gives}
use Rattle.hcc_rule.specs.Views.{reference_of, is_on, is_called, is_seated, held}
use Rattle.hcc_rule.specs.Records.{record_in}
use Rattle.hcc_rule.specs.Words.{field_at, code_of}
use Rattle.hcc_rule.specs.Rule.{IsRecorded, IsHolding, Holds}
use Rattle.hcc_rule.proofs.Basics.Lists.{within, read_at}
use Rattle.hcc_rule.proofs.Parts.Codes.{is_near, tells_phase}
use Rattle.hcc_rule.proofs.Basics.Findings.{dropped_each}
use Rattle.hcc_rule.proofs.References.Looks.{client_fits}
use Rattle.hcc_rule.proofs.Parts.OnEntries.{OnEntry, on_some, name_held, reference_there, code_there, dead_there}
use Rattle.hcc_rule.proofs.Parts.SlotSteps.{Shard}
use Rattle.hcc_rule.proofs.Parts.Touches.{by_client, touched, goes, client_is, live_is, looks_still}
use Rattle.hcc_rule.specs.Acts.{Acts, Goes}
use Rattle.hcc_rule.specs.declared.view.Done.{Done}
use Rattle.hcc_rule.specs.Events.{left_in, phase_in, give_done}
use Rattle.hcc_word.specs.Word.{refs_of}

-- the records of a view without one of them weigh so much less, by any weighing
held_less : {T : Type 0} (i x : ℕ) (v new : View T) (q : Record) (h : Reference → ℕ)
    → record_in x v.records ≡ Some q → new.client ≡ v.client
    → new.records ≡ dropped (is_called x) v.records
    → held i h new + when (is_on i q) (h (reference_of v.client q)) ≡ held i h v
held_less i x v new q h called client left =
    rw (client, left) (dropped-total (is_called x)
    (λ r. when (is_on i r) (h (reference_of v.client r))) v.records q called)

-- a give is allowed where the client holds the name
give_allowed : (w : State) (c x i : ℕ) (found : Client) (t : Slot) → Lawful w → x < 2 ^ 64
    → slot_holding w.slots c x ≡ Some i → slice_get w.slots i ≡ Some t
    → slice_get w.clients c ≡ Some found → found.live ≡ true
    → outcome_of w (events.Give c x) ≡ Ok
    (left_on (slot_given c x t), with_both w i (slot_given c x t) c (client_noticed c t found))
unfolding outcome_of
give_allowed w c x i found t l small holds at_slot at_client live =
    rw (client_fits w c l (within w.clients c found at_client), lt-ltb x (2 ^ 64) small)
    (give_gives w c x i found (client_noticed c t found) t (slot_given c x t)
    (left_on (slot_given c x t)) at_client live holds at_slot refl refl refl)

module _ {T : Type 0} (fits : T → Key → List ℕ → Type 0) (p : Plan T) where
  module _ (s : Shard fits p) (r : Holds fits p s) (id i x : ℕ) (v : View T) (q : Record)
      (k : Resident) (o : OnEntry fits p s r id i x v q k) where
    -- The slot's references and the view's records lose the same one.
    pub loses : (left : List Reference) (new : View T)
        → left ≡ dropped (is_named v.client x) k.references
        → new.client ≡ v.client → new.records ≡ dropped (is_called x) v.records
        → (h : Reference → ℕ) → total h left + held i h v ≡ total h k.references + held i h new
    loses left new is client records h =
        let refs = dropped-total (is_named v.client x) h k.references (reference_of v.client q)
        (reference_there fits p s r id i x v q k o) in
        let recs = held_less i x v new q h o.called client records in
        let one : when (is_on i q) (h (reference_of v.client q)) ≡ h (reference_of v.client q) =
        ap (λ b. when b (h (reference_of v.client q))) (eq-eqb q.slot i o.on) in
        let same : total h left ≡ total h (dropped (is_named v.client x) k.references) =
        ap (total h) is in
        omega arith

    -- on other slots the records stay
    pub loses_no_other : (new : View T) → new.client ≡ v.client
        → new.records ≡ dropped (is_called x) v.records
        → (j : ℕ) (h : Reference → ℕ) → j ≢ i → held j h new ≡ held j h v
    loses_no_other new client records j h other =
        let recs = held_less j x v new q h o.called client records in
        let none : when (is_on j q) (h (reference_of v.client q)) ≡ 0 =
        ap (λ b. when b (h (reference_of v.client q)))
        (ne_eqb q.slot j (λ e. other (sym e ∙ o.on))) in
        omega arith

    -- and those that are left are as they were
    pub holds_less : (new : View T) → new.records ≡ dropped (is_called x) v.records
        → IsHolding r.world.slots new
    holds_less new records =
        let old = r.holding id v o.at_view in
        record {
          recorded = rw records (dropped_each (is_called x) (IsRecorded r.world.slots) v.records
              old.recorded);
          once = λ name.
              let fewer = dropped-le (is_called x) (λ e. when (is_called name e) 1) v.records in
              let was = old.once name in
              rw records (omega arith);
          few =
              let fewer = dropped-le (is_called x) (λ (e : Record). e.weight) v.records in
              let was = old.few in
              rw records (omega arith);
        }

    -- so many references are left
    pub weighs_less : weight (dropped (is_named v.client x) k.references) + q.weight
        ≡ weight k.references
    weighs_less = dropped-total (is_named v.client x) (λ (j : Reference). j.weight) k.references
        (reference_of v.client q) (reference_there fits p s r id i x v q k o)

    -- the word tells them
    pub references_told : (word : ℕ) → word ≡ code_of (slots.Shareable k)
        → IsReferenced q.weight word
    references_told word is =
        let near = is_near r.world (is_lawful r.world r.lawful) i k o.at_slot in
        let less = weighs_less in
        record {
          entry = rw is (is_shareable-shareable k.hit k.shown near);
          enough = rw (is, refs_of-shareable k.hit k.shown near) (omega arith);
        }

    -- the reply to its release is what the word tells
    pub left_told : (left : Slot) (word : ℕ) → word ≡ code_of (slots.Shareable k)
        → weight_of left ≡ weight (dropped (is_named v.client x) k.references)
        → phase_of left ≡ phase_of (slots.Shareable k)
        → left_on left ≡ left_in q.weight word
    left_told left word is weighs same =
        let l = is_lawful r.world r.lawful in
        let near = is_near r.world l i k o.at_slot in
        let less = weighs_less in
        let refs : refs_of word ≡ weight k.references =
        ap refs_of is ∙ refs_of-shareable k.hit k.shown near in
        let few : weight_of left ≡ refs_of word - q.weight = omega arith in
        let phase : phase_of left ≡ phase_in word =
        same ∙ sym (ap phase_in is ∙ tells_phase r.world l i (slots.Shareable k) o.at_slot) in
        ap (λ n. replies.Left n (phase_of left)) few
        ∙ ap (λ ph. replies.Left (refs_of word - q.weight) ph) phase

  -- The reference is given back, and the view's record of it goes.
  gives_on : (s : Shard fits p) (r : Holds fits p s) (id i x a n : ℕ) (me : Held T) (q : Record)
      (k : Resident) (then : ℕ → Held T → Option Done → Type 0)
      → OnEntry fits p s r id i x me.0 q k → q.weight ≡ n → x < 2 ^ 64
      → a ≡ field_at p.geometry.room i META
      → (IsReferenced n (slice_index s.words a)
      → then (slice_index s.words a) (after_give i x (slice_index s.words a) me.0, me.1)
      (Some (give_done n x (slice_index s.words a) me.0)))
      → Goes fits p s r a ((slice_index s.words a + (2 ^ 64 - n)) % 2 ^ 64) id me then
  gives_on s r id i x a n me q k then o weighs small address told =
      goes fits p s r a ((word + (2 ^ 64 - n)) % 2 ^ 64) id i me new t left event reply then address
      code (refl, refl)
      (touched fits p s r id i me.0 new t left event reply record {
        at_view = o.at_view;
        at_slot = o.at_slot;
        seated = o.seated;
        same = record { tag = refl; client = refl; others = refl; turns = refl; glimpse = refl };
        work = refl;
        store = record { written = refl; made = refl; takings = refl; gone = refl };
        allowed = by_client r.world event reply i me.0.client left
            (client_noticed me.0.client t me.0.work) new.work becomes
            (give_allowed r.world me.0.client x i me.0.work t l small
            (name_held fits p s r id i x me.0 q k o) o.at_slot
            (client_is fits p s r id me.0 o.at_view o.seated)
            (live_is fits p s r id me.0 o.at_view o.seated));
        like = record { entry = refl; trail = refl };
        here = loses s r id i x me.0 q k o (dropped (is_named me.0.client x) k.references) new refl
            refl refl;
        elsewhere = loses_no_other s r id i x me.0 q k o new refl refl;
        holding = holds_less s r id i x me.0 q k o new refl;
        looked = looks_still i (slots.Shareable k) me.0.work.looked;
      })
      (rw answered (told (rw (← weighs) (references_told s r id i x me.0 q k o word word_is))))
    where
      l : Lawful r.world
      l = is_lawful r.world r.lawful

      t : Slot
      t = slots.Shareable k

      left : Slot
      left = slot_given me.0.client x t

      event : Event
      event = events.Give me.0.client x

      reply : Reply
      reply = left_on left

      word : ℕ
      word = slice_index s.words a

      new : View T
      new = after_give i x word me.0

      word_is : word ≡ code_of t
      word_is = code_there fits p s r id i x me.0 q k o a address

      -- the reply is what the word tells
      answered : left_on left ≡ left_in n word
      answered = rw (← weighs) (left_told s r id i x me.0 q k o left word word_is refl refl)

      code : (word + (2 ^ 64 - n)) % 2 ^ 64 ≡ code_of left
      code =
          let less = weighs_less s r id i x me.0 q k o in
          ap (λ y. (y + (2 ^ 64 - n)) % 2 ^ 64) word_is
          ∙ take_acquires-shareable k.hit k.shown (is_near r.world l i k o.at_slot) n
          (weight (dropped (is_named me.0.client x) k.references)) (omega arith)

      becomes : client_noticed me.0.client t me.0.work ≡ new.work
      becomes = rw (word_is, dead_there fits p s r id i x me.0 q k o) refl

  -- A give keeps the rule, and tells what it found.
  pub give_step : (count id i x a n : ℕ) (me : Held T) → is_seated me.0 ≡ true → x < 2 ^ 64
      → a ≡ field_at p.geometry.room i META
      → IsSomeAnd (record_in x me.0.records) (λ q. (q.slot ≡ i) × (q.weight ≡ n))
      → Acts fits p count id me a (λ y. (y + (2 ^ 64 - n)) % 2 ^ 64)
      (gives i x (step count a n 0 none) me)
  give_step count id i x a n me seated small address so s r homes at low =
      by (record_in x me.0.records) refl so
    where
      then : ℕ → Held T → Option Done → Type 0
      then = gives i x (step count a n 0 none) me

      by : (found : Option Record) → record_in x me.0.records ≡ found
          → IsSomeAnd found (λ q. (q.slot ≡ i) × (q.weight ≡ n))
          → Goes fits p s r a ((slice_index s.words a + (2 ^ 64 - n)) % 2 ^ 64) id me then
      by None called so = absurd so
      by (Some q) called so =
          let there = on_some fits p s r id i x me.0 q (read_at s.views id me.0 at) seated called
          so.0 in
          gives_on s r id i x a n me q there.0 then there.1 so.1 small address
          (λ told. (refl, refl, told, refl))
