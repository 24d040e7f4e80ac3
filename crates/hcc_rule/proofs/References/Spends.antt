-- References are released as uses: they are added to releases.
use Rattle.std.proofs.Common.{◌≡◌, ℕ, ◌+◌, ◌*◌, ◌/◌, ◌%◌, ◌^◌, ◌<◌, true, List, Option, Some, None, Ok, IsSomeAnd, slice_get, slice_index, refl, ap, ◌∙◌, arith, sym}
use Rattle.std.proofs.lemmas.Bool.{lt-ltb}
use mathlib.Core.Option.{none}
use Rattle.atomic_table.specs.Table.{step}
use Rattle.hcc_word.specs.declared.layout.TheConstants.{ONE_RELEASE}
use Rattle.hcc_word.proofs.StepLaws.{add_releases-shareable}
use Rattle.hcc_core.specs.declared.event.Event.{Event}
use Rattle.hcc_core.specs.declared.event.Event.TheVariants as events
use Rattle.hcc_core.specs.declared.event.Reply.{Reply}
use Rattle.hcc_core.specs.declared.client.Client.{Client}
use Rattle.hcc_core.specs.declared.slot.Reference.{Reference}
use Rattle.hcc_core.specs.declared.slot.Resident.{Resident}
use Rattle.hcc_core.specs.declared.slot.Slot.{Slot}
use Rattle.hcc_core.specs.declared.slot.Slot.TheVariants as slots
use Rattle.hcc_core.specs.Sums.{when}
use Rattle.hcc_core.specs.World.{State, weight, references_of, is_named, slot_holding}
use Rattle.hcc_core.specs.Outcomes.{with_both, dropped}
use Rattle.hcc_core.specs.References.{counting_in, slot_used, left_on, client_noticed}
use Rattle.hcc_core.specs.Steps.{outcome_of}
use Rattle.hcc_core.specs.Lawful.{Lawful}
use Rattle.hcc_core.proofs.DroppedLemmas.{dropped-total}
use Rattle.hcc_core.proofs.Opening.{is_lawful}
use Rattle.hcc_core.proofs.StepLemmas.{use_gives}
use Rattle.hcc_rule.specs.declared.key.Key.{Key}
use Rattle.hcc_rule.specs.declared.layout.TheConstants.{META}
use Rattle.hcc_rule.specs.declared.rule.Plan.{Plan}
use Rattle.hcc_rule.specs.declared.view.Record.{Record}
use Rattle.hcc_rule.specs.declared.view.View.{View}
use Rattle.hcc_rule.specs.Told.{Held}
use Rattle.hcc_rule.specs.ToldReferences.{after_give, IsReferenced, spends}
use Rattle.hcc_rule.specs.Views.{reference_of, is_seated}
use Rattle.hcc_rule.specs.Records.{record_in}
use Rattle.hcc_rule.specs.Words.{field_at, code_of}
use Rattle.hcc_rule.specs.Rule.{Holds}
use Rattle.hcc_rule.proofs.Basics.Lists.{within, read_at}
use Rattle.hcc_rule.proofs.Parts.Codes.{is_near}
use Rattle.hcc_rule.proofs.References.Looks.{client_fits}
use Rattle.hcc_rule.proofs.Parts.OnEntries.{OnEntry, on_some, name_held, reference_there, code_there, dead_there}
use Rattle.hcc_rule.proofs.References.Gives.{loses, loses_no_other, holds_less, weighs_less, references_told, left_told}
use Rattle.hcc_rule.proofs.Parts.SlotSteps.{Shard}
use Rattle.hcc_rule.proofs.Parts.Touches.{by_client, touched, goes, client_is, live_is, looks_still}
use Rattle.hcc_rule.specs.Acts.{Acts, Goes}
use Rattle.hcc_rule.specs.declared.view.Done.{Done}
use Rattle.hcc_rule.specs.Events.{left_in, spend_done}

-- a use is allowed where the client holds the name by a reference that counts
use_allowed : (w : State) (c x i : ℕ) (found : Client) (t : Slot) (j : Reference) → Lawful w
    → x < 2 ^ 64
    → slot_holding w.slots c x ≡ Some i → slice_get w.slots i ≡ Some t
    → counting_in c x (references_of t) ≡ Some j
    → slice_get w.clients c ≡ Some found → found.live ≡ true
    → outcome_of w (events.Use c x) ≡ Ok (
      left_on (slot_used c x j t),
      with_both w i (slot_used c x j t) c
          (client_noticed c t found),
    )
unfolding outcome_of
use_allowed w c x i found t j l small holds at_slot counts at_client live =
    rw (client_fits w c l (within w.clients c found at_client), lt-ltb x (2 ^ 64) small)
    (use_gives w c x i found (client_noticed c t found) t (slot_used c x j t) j
    (left_on (slot_used c x j t)) at_client live holds at_slot counts refl refl refl)

module _ {T : Type 0} (fits : T → Key → List ℕ → Type 0) (p : Plan T) where
  -- The reference becomes a use, and the view's record of it goes.
  spends_on : (s : Shard fits p) (r : Holds fits p s) (id i x a n : ℕ) (me : Held T) (q : Record)
      (k : Resident) (then : ℕ → Held T → Option Done → Type 0)
      → OnEntry fits p s r id i x me.0 q k → q.weight ≡ n → q.counting ≡ true → x < 2 ^ 64
      → a ≡ field_at p.geometry.room i META
      → (IsReferenced n (slice_index s.words a)
      → then (slice_index s.words a) (after_give i x (slice_index s.words a) me.0, me.1)
      (Some (spend_done n x (slice_index s.words a) me.0)))
      → Goes fits p s r a ((slice_index s.words a + n * ONE_RELEASE) % 2 ^ 64) id me then
  spends_on s r id i x a n me q k then o weighs counting small address told =
      goes fits p s r a ((word + n * ONE_RELEASE) % 2 ^ 64) id i me new t left event reply then
      address code (refl, refl)
      (touched fits p s r id i me.0 new t left event reply record {
        at_view = o.at_view;
        at_slot = o.at_slot;
        seated = o.seated;
        same = record { tag = refl; client = refl; others = refl; turns = refl; glimpse = refl };
        work = refl;
        store = record { written = refl; made = refl; takings = refl; gone = refl };
        allowed = by_client r.world event reply i me.0.client left
            (client_noticed me.0.client t me.0.work) new.work becomes
            (use_allowed r.world me.0.client x i me.0.work t j l small
            (name_held fits p s r id i x me.0 q k o) o.at_slot counts
            (client_is fits p s r id me.0 o.at_view o.seated)
            (live_is fits p s r id me.0 o.at_view o.seated));
        like = record { entry = refl; trail = refl };
        here = loses fits p s r id i x me.0 q k o (dropped (is_named me.0.client x) k.references)
            new refl refl refl;
        elsewhere = loses_no_other fits p s r id i x me.0 q k o new refl refl;
        holding = holds_less fits p s r id i x me.0 q k o new refl;
        looked = looks_still i (slots.Shareable k) me.0.work.looked;
      })
      (rw answered
      (told (rw (← weighs) (references_told fits p s r id i x me.0 q k o word word_is))))
    where
      l : Lawful r.world
      l = is_lawful r.world r.lawful

      t : Slot
      t = slots.Shareable k

      j : Reference
      j = reference_of me.0.client q

      counts : counting_in me.0.client x k.references ≡ Some j
      counts = rw (reference_there fits p s r id i x me.0 q k o, counting) refl

      left : Slot
      left = slot_used me.0.client x j t

      event : Event
      event = events.Use me.0.client x

      reply : Reply
      reply = left_on left

      word : ℕ
      word = slice_index s.words a

      new : View T
      new = after_give i x word me.0

      word_is : word ≡ code_of t
      word_is = code_there fits p s r id i x me.0 q k o a address

      -- the reply is what the word tells
      answered : left_on left ≡ left_in n word
      answered = rw (← weighs) (left_told fits p s r id i x me.0 q k o left word word_is refl refl)

      code : (word + n * ONE_RELEASE) % 2 ^ 64 ≡ code_of left
      code =
          let less = weighs_less fits p s r id i x me.0 q k o in
          let counted_less = dropped-total (is_named me.0.client x)
          (λ (e : Reference). when e.counting e.weight) k.references j
          (reference_there fits p s r id i x me.0 q k o) in
          let all : when q.counting q.weight ≡ q.weight = ap (λ b. when b q.weight) counting in
          rw (← weighs)
          (ap (λ y. (y + q.weight * ONE_RELEASE) % 2 ^ 64) word_is
          ∙ add_releases-shareable k.hit k.shown (is_near r.world l i k o.at_slot) q.weight
          (weight (dropped (is_named me.0.client x) k.references)) less (omega arith))

      becomes : client_noticed me.0.client t me.0.work ≡ new.work
      becomes = rw (word_is, dead_there fits p s r id i x me.0 q k o) refl

  -- A release keeps the rule, and tells what it found.
  pub spend_step : (count id i x a n : ℕ) (me : Held T) → is_seated me.0 ≡ true → x < 2 ^ 64
      → a ≡ field_at p.geometry.room i META
      → IsSomeAnd (record_in x me.0.records)
      (λ q. (q.slot ≡ i) × (q.weight ≡ n) × (q.counting ≡ true))
      → Acts fits p count id me a (λ y. (y + n * ONE_RELEASE) % 2 ^ 64)
      (spends i x (step count a (n * ONE_RELEASE) 0 none) me)
  spend_step count id i x a n me seated small address so s r homes at low =
      by (record_in x me.0.records) refl so
    where
      then : ℕ → Held T → Option Done → Type 0
      then = spends i x (step count a (n * ONE_RELEASE) 0 none) me

      by : (found : Option Record) → record_in x me.0.records ≡ found
          → IsSomeAnd found (λ q. (q.slot ≡ i) × (q.weight ≡ n) × (q.counting ≡ true))
          → Goes fits p s r a ((slice_index s.words a + n * ONE_RELEASE) % 2 ^ 64) id me then
      by None called so = absurd so
      by (Some q) called so =
          let there = on_some fits p s r id i x me.0 q (read_at s.views id me.0 at) seated called
          so.0 in
          spends_on s r id i x a n me q there.0 then there.1 so.1 so.2 small address
          (λ told. (
            refl,
            refl,
            let one : n * ONE_RELEASE / ONE_RELEASE ≡ n =
                omega arith in rw one told,
            let one : n * ONE_RELEASE / ONE_RELEASE ≡ n = omega arith in
                ap (λ w. Some (spend_done w x (slice_index s.words a) me.0)) (sym one),
          ))
