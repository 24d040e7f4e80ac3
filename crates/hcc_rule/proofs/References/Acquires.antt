-- References are added, or strays.
use Rattle.std.proofs.Common.{◌≡◌, ℕ, ◌+◌, ◌%◌, ◌^◌, ◌<◌, ◌≤◌, ◌==◌, ◌||◌, Bool, true, false, nat_lt, List, [], ◌∷◌, ◌++◌, Some, None, Ok, slice_get, slice_index, sym, refl, ap, ◌∙◌, arith, ne_eqb}
use Rattle.std.proofs.lemmas.Bool.{lt-ltb, le-leb, eq-eqb, eqb-true}
use mathlib.Core.Option.{none}
use Rattle.atomic_table.specs.Table.{step}
use Rattle.hcc_word.specs.Near.{IsNear}
use Rattle.hcc_word.specs.Word.{is_shareable, is_counting, is_visible}
use Rattle.std.specs.Prelude.{if◌then◌else◌}
use Rattle.hcc_word.proofs.CodeLaws.{is_shareable-shareable, is_counting-shareable}
use Rattle.hcc_word.proofs.StepLaws.{add_acquires-empty, add_acquires-building, add_acquires-shareable}
use Rattle.hcc_core.specs.declared.limits.TheConstants.{MOST_REFERENCES, MOST_WEIGHT, REFERENCES_PER_CLIENT, NEAR}
use Rattle.hcc_core.specs.declared.event.Event.{Event}
use Rattle.hcc_core.specs.declared.event.Event.TheVariants as events
use Rattle.hcc_core.specs.declared.event.Reply.{Reply}
use Rattle.hcc_core.specs.declared.event.Reply.TheVariants as replies
use Rattle.hcc_core.specs.declared.client.Client.{Client}
use Rattle.hcc_core.specs.declared.slot.Reference.{Reference}
use Rattle.hcc_core.specs.declared.slot.Resident.{Resident}
use Rattle.hcc_core.specs.declared.slot.Slot.{Slot}
use Rattle.hcc_core.specs.declared.slot.Slot.TheVariants as slots
use Rattle.hcc_core.specs.Sums.{when, total}
use Rattle.hcc_core.specs.World.{State, weight, counted, references_of, weight_of, counts_in, has_client, slot_holding, hidden_stamp}
use Rattle.hcc_core.specs.Outcomes.{with_both}
use Rattle.hcc_core.specs.References.{looks_at, most_weight, may_acquire, acquired, new_reference, slot_acquired, client_acquired}
use Rattle.hcc_core.specs.Steps.{outcome_of}
use Rattle.hcc_core.specs.Lawful.{Lawful}
use Rattle.hcc_core.proofs.SumLemmas.{total-append}
use Rattle.hcc_core.proofs.Opening.{is_lawful}
use Rattle.hcc_core.proofs.StepLemmas.{acquire_gives, dead_acquired}
use Rattle.hcc_rule.specs.declared.key.Key.{Key}
use Rattle.hcc_rule.specs.declared.layout.TheConstants.{META}
use Rattle.hcc_rule.specs.declared.rule.Plan.{Plan}
use Rattle.hcc_rule.specs.declared.view.Record.{Record}
use Rattle.hcc_rule.specs.declared.view.View.{View}
use Rattle.hcc_rule.specs.Told.{Held}
use Rattle.hcc_rule.specs.ToldReferences.{may_reach, record_of, after_stray, after_acquire, acquires}
use Rattle.hcc_rule.specs.Views.{reference_of, is_on, is_called, load_of, times_called, is_seated, held}
use Rattle.hcc_rule.specs.Records.{record_in}
use Rattle.hcc_rule.specs.Words.{field_at, code_of}
use Rattle.hcc_rule.specs.Rule.{IsRecorded, IsHolding, Holds, entry_in}
use Rattle.hcc_rule.proofs.Basics.Lists.{within, read_at, each_append}
use Rattle.hcc_rule.proofs.Parts.Codes.{few_strays, is_near, tells_entry, tells_shown}
use Rattle.hcc_rule.proofs.Basics.Findings.{none_passes}
use Rattle.hcc_rule.proofs.References.Looks.{client_fits, slot_fits, slot_there, backed}
use Rattle.hcc_rule.proofs.References.Reaches.{room_left, reached, is_met}
use Rattle.hcc_rule.proofs.Parts.HeldReferences.{fresh_name}
use Rattle.hcc_rule.proofs.Parts.SlotSteps.{Shard}
use Rattle.hcc_rule.proofs.Parts.Touches.{Alike, by_client, touched, goes, client_is, live_is}
use Rattle.hcc_rule.specs.Acts.{Acts, Goes, did}
use Rattle.hcc_rule.specs.Events.{got_in}

may_is : (w : State) (c i n x : ℕ) (found : Client) (t : Slot) → 0 < n → n ≤ MOST_WEIGHT
    → slot_holding w.slots c x ≡ None → (looks_at found i || has_client c t) ≡ true
    → weight_of t + n ≤ most_weight w.setup → may_acquire w.setup w.slots c found i t n x ≡ true
unfolding may_acquire
may_is w c i n x found t some few fresh reach room =
    rw (
      le-leb 1 n some,
      le-leb n MOST_WEIGHT few,
      fresh,
      reach,
      le-leb (weight_of t + n)
          (most_weight w.setup) room,
    ) refl

-- the reply to an acquire, by whether the word is an entry's
abbrev got_by : Bool → (word : ℕ) → Reply
got_by entry word =
    if entry then replies.Got (is_visible word) (is_counting word) else replies.Stray

-- An acquire is allowed where the test passes.
acquire_allowed : (w : State) (c i n x : ℕ) (found : Client) (t : Slot) → Lawful w → n ≤ MOST_WEIGHT
    → x < 2 ^ 64
    → slice_get w.slots i ≡ Some t → slice_get w.clients c ≡ Some found → found.live ≡ true
    → may_acquire w.setup w.slots c found i t n x ≡ true
    → outcome_of w (events.Acquire c i n x)
    ≡ Ok (
      acquired t (counts_in t),
      with_both w i (slot_acquired t (new_reference c x n t)) c
          (client_acquired c (slot_acquired t (new_reference c x n t)) found),
    )
unfolding outcome_of
acquire_allowed w c i n x found t l few small at_slot at_client live may =
    rw (
      client_fits w c l (within w.clients c found at_client),
      slot_fits w i l
          (within w.slots i t at_slot),
      lt-ltb n (2 ^ 64) (omega arith),
      lt-ltb x (2 ^ 64) small,
    )
    (acquire_gives w c i n x found (client_acquired c (slot_acquired t (new_reference c x n t))
    found) t (slot_acquired t (new_reference c x n t)) (acquired t (counts_in t)) at_slot
    at_client live may refl refl refl)

module _ {T : Type 0} (fits : T → Key → List ℕ → Type 0) (p : Plan T) where
  -- What an acquire is made with.
  record Asks (s : Shard fits p) (r : Holds fits p s) (id i a n x : ℕ) (me : Held T)
      (t : Slot) : Type 0 where
    pub at_view : slice_get s.views id ≡ Some me.0
    pub at_slot : slice_get r.world.slots i ≡ Some t
    pub seated : is_seated me.0 ≡ true
    pub address : a ≡ field_at p.geometry.room i META
    pub some : 0 < n
    pub few : n ≤ MOST_WEIGHT
    pub small : x < 2 ^ 64
    pub fresh : record_in x me.0.records ≡ None
    pub reach : may_reach i me.0 ≡ true
    pub room : load_of me.0.records + n ≤ REFERENCES_PER_CLIENT

  module _ (s : Shard fits p) (r : Holds fits p s) (id i a n x : ℕ) (me : Held T) (t : Slot)
      (o : Asks s r id i a n x me t) where
    room_is : weight_of t + n ≤ most_weight r.world.setup
    room_is = room_left fits p s r id i me.0 o.at_view o.seated n t (is_lawful r.world r.lawful)
        o.at_slot o.room

    -- the event is allowed
    allowed : outcome_of r.world (events.Acquire me.0.client i n x)
        ≡ Ok (
          acquired t (counts_in t),
          with_both r.world i
              (slot_acquired t (new_reference me.0.client x n t)) me.0.client
              (client_acquired me.0.client (slot_acquired t (new_reference me.0.client x n t))
              me.0.work),
        )
    allowed =
        let client = client_is fits p s r id me.0 o.at_view o.seated in
        let live = live_is fits p s r id me.0 o.at_view o.seated in
        let fresh = fresh_name p.tag r.world.slots r.world.clients r.books s.views r.references
        r.seats id me.0 o.at_view o.seated x o.fresh in
        let reach = reached fits p s r id i me.0 o.at_view o.seated t o.at_slot o.reach in
        acquire_allowed r.world me.0.client i n x me.0.work t (is_lawful r.world r.lawful) o.few
        o.small o.at_slot client live
        (may_is r.world me.0.client i n x me.0.work t o.some o.few fresh reach room_is)

    word_is : slice_index s.words a ≡ code_of t
    word_is = ap (slice_index s.words) o.address ∙ r.coded.meta i t o.at_slot

    entry_is : is_shareable (slice_index s.words a) ≡ is_shareable (code_of t)
    entry_is = ap is_shareable word_is

    -- the view holds one more record than before
    holds_more : (q : Record) (new : View T) → new.records ≡ me.0.records ++ q ∷ [] → q.name ≡ x
        → q.weight ≡ n
        → IsRecorded r.world.slots q → IsHolding r.world.slots new
    holds_more q new records named weighs recorded =
        let old = r.holding id me.0 o.at_view in
        record {
          recorded = rw records (each_append (IsRecorded r.world.slots) me.0.records (q ∷ [])
              old.recorded (recorded, tt));
          once = λ name. rw (
            records,
            total-append (λ z. when (is_called name z) 1) me.0.records
                (q ∷ []),
          ) (by name (old.once name) (q.name == name) refl);
          few =
              let sum = total-append (λ (z : Record). z.weight) me.0.records (q ∷ []) in
              let room = o.room in
              rw records (omega arith);
        }
      where
        by : (name : ℕ) → times_called name me.0.records ≤ 1 → (b : Bool) → (q.name == name) ≡ b
            → times_called name me.0.records + (when b 1 + 0) ≤ 1
        by name was true is =
            let same : x ≡ name = sym named ∙ eqb-true q.name name is in
            let none : times_called name me.0.records ≡ 0 =
            ap (λ z. times_called z me.0.records) (sym same)
            ∙ none_passes (is_called x) me.0.records o.fresh in
            omega arith
        by name was false is = omega arith

    -- Where the slot has no entry, the acquires stray.
    strays_on : (left : Slot) → left ≡ slot_acquired t (new_reference me.0.client x n t)
        → is_shareable (code_of t) ≡ false → acquired t (counts_in t) ≡ replies.Stray
        → hidden_stamp t ≡ None → Alike t left
        → references_of left ≡ references_of t → (code_of t + n) % 2 ^ 64 ≡ code_of left
        → Goes fits p s r a ((slice_index s.words a + n) % 2 ^ 64) id me
        (acquires fits p.geometry.room i x (step 0 a n 0 none) me)
    strays_on left left_is away stray unhidden like bare code =
        goes fits p s r a ((word + n) % 2 ^ 64) id i me new t left event reply
        (acquires fits p.geometry.room i x (step 0 a n 0 none) me) o.address
        (ap (λ y. (y + n) % 2 ^ 64) word_is ∙ code) (refl, refl)
        (touched fits p s r id i me.0 new t left event reply record {
          at_view = o.at_view;
          at_slot = o.at_slot;
          seated = o.seated;
          same = record { tag = refl; client = refl; others = refl; turns = refl; glimpse = refl };
          work = refl;
          store = record { written = refl; made = refl; takings = refl; gone = refl };
          allowed = rw left_is (by_client r.world event reply i me.0.client
              (slot_acquired t (new_reference me.0.client x n t))
              (client_acquired me.0.client (slot_acquired t (new_reference me.0.client x n t))
              me.0.work) new.work becomes allowed);
          like = like;
          here = λ h. ap (λ ks. total h ks + held i h me.0) bare;
          elsewhere = λ j h other. refl;
          holding = let old = r.holding id me.0 o.at_view in record
              { recorded = old.recorded; once = old.once; few = old.few };
          looked = tt;
        }) (
          refl,
          record {
            backs = backed fits p s r id i word me.0 t o.at_slot o.at_view word_is;
            stray = λ none. refl;
            got = λ got. let bad : true ≡ false = sym got ∙ (entry_is ∙ away) in cc;
          },
          ap (λ answer. Some (did event answer))
              (stray ∙ sym (ap (λ b. got_by b word) (entry_is ∙ away))),
        )
      where
        word : ℕ
        word = slice_index s.words a

        event : Event
        event = events.Acquire me.0.client i n x

        reply : Reply
        reply = acquired t (counts_in t)

        new : View T
        new = after_stray me.0

        becomes : client_acquired me.0.client (slot_acquired t (new_reference me.0.client x n t))
            me.0.work ≡ new.work
        becomes = rw (dead_acquired me.0.client x n t, unhidden) refl

  -- Where the slot has an entry, it is referenced.
  got_on : (s : Shard fits p) (r : Holds fits p s) (id i a n x : ℕ) (me : Held T) (k : Resident)
      → Asks s r id i a n x me (slots.Shareable k)
      → Goes fits p s r a ((slice_index s.words a + n) % 2 ^ 64) id me
      (acquires fits p.geometry.room i x (step 0 a n 0 none) me)
  got_on s r id i a n x me k o =
      goes fits p s r a ((word + n) % 2 ^ 64) id i me new t left event reply
      (acquires fits p.geometry.room i x (step 0 a n 0 none) me) o.address code (refl, refl)
      (touched fits p s r id i me.0 new t left event reply record {
        at_view = o.at_view;
        at_slot = o.at_slot;
        seated = o.seated;
        same = record { tag = refl; client = refl; others = refl; turns = refl; glimpse = refl };
        work = refl;
        store = record { written = refl; made = refl; takings = refl; gone = refl };
        allowed = by_client r.world event reply i me.0.client left
            (client_acquired me.0.client left me.0.work) new.work becomes
            (allowed s r id i a n x me t o);
        like = record { entry = refl; trail = refl };
        here = λ h.
            let refs = total-append h k.references (j ∷ []) in
            let recs = total-append (λ z. when (is_on i z) (h (reference_of me.0.client z)))
            me.0.records (q ∷ []) in
            let one : when (is_on i q) (h (reference_of me.0.client q)) ≡ h j =
            ap (λ b. when b (h (reference_of me.0.client q))) (eq-eqb i i refl) ∙ ap h same in
            omega arith;
        elsewhere = λ e h other.
            let recs = total-append (λ z. when (is_on e z) (h (reference_of me.0.client z)))
            me.0.records (q ∷ []) in
            let none : when (is_on e q) (h (reference_of me.0.client q)) ≡ 0 =
            ap (λ b. when b (h (reference_of me.0.client q)))
            (ne_eqb i e (λ z. other (sym z))) in
            omega arith;
        holding = holds_more s r id i a n x me t o q new refl refl refl record
            { there = ap entry_in o.at_slot; some = o.some };
        looked = tt;
      }) (
        refl,
        record {
          backs = backed fits p s r id i word me.0 t o.at_slot o.at_view here;
          stray = λ none. let bad : true ≡ false =
              sym (entry_is s r id i a n x me t o ∙ is_shareable-shareable k.hit k.shown near)
              ∙ none in cc;
          got = λ got. (
            k.entry,
            is_met fits p s r id i me.0 o.at_view o.seated word k o.at_slot
                here,
            refl,
          );
        },
        ap (λ answer. Some (did event answer)) (sym answered),
      )
    where
      l : Lawful r.world
      l = is_lawful r.world r.lawful

      t : Slot
      t = slots.Shareable k

      near : IsNear MOST_REFERENCES k.uses (weight k.references) (counted k.references)
      near = is_near r.world (is_lawful r.world r.lawful) i k o.at_slot

      j : Reference
      j = new_reference me.0.client x n t

      left : Slot
      left = slot_acquired t (new_reference me.0.client x n t)

      event : Event
      event = events.Acquire me.0.client i n x

      reply : Reply
      reply = acquired t (counts_in t)

      word : ℕ
      word = slice_index s.words a

      here : slice_index s.words a ≡ code_of (slots.Shareable k)
      here = word_is s r id i a n x me (slots.Shareable k) o

      q : Record
      q = record_of i n x (slice_index s.words a) k.entry

      new : View T
      new = after_acquire i n x (slice_index s.words a) k.entry me.0

      counts : is_counting (slice_index s.words a) ≡ nat_lt k.uses NEAR
      counts = ap is_counting here ∙ is_counting-shareable k.hit k.shown near

      same : reference_of me.0.client q ≡ j
      same = ap (λ b. let e : Reference =
          record { client = me.0.client; name = x; weight = n; counting = b } in e) counts

      code : (word + n) % 2 ^ 64 ≡ code_of left
      code =
          let sum = total-append (λ (e : Reference). e.weight) k.references (j ∷ []) in
          let room = room_is s r id i a n x me t o in
          let clients = l.sized.few_clients in
          let count : weight (k.references ++ j ∷ []) ≡ weight k.references + n = omega arith in
          ap (λ y. (y + n) % 2 ^ 64) here
          ∙ add_acquires-shareable k.hit k.shown near n (weight (k.references ++ j ∷ [])) count
          (omega arith)

      becomes : client_acquired me.0.client left me.0.work ≡ new.work
      becomes = rw (dead_acquired me.0.client x n t, here, tells_shown r.world l i k o.at_slot) refl

      -- the reply is what the word tells
      answered : got_in (slice_index s.words a) ≡ replies.Got k.shown (nat_lt k.uses NEAR)
      answered =
          ap (λ b. got_by b (slice_index s.words a)) (entry_is s r id i a n x me t o
          ∙ is_shareable-shareable k.hit k.shown near)
          ∙ (ap (λ b. replies.Got b (is_counting (slice_index s.words a)))
          (ap is_visible here ∙ tells_shown r.world l i k o.at_slot)
          ∙ ap (λ b. replies.Got k.shown b) counts)

  -- An acquire keeps the rule, and tells what it found.
  pub acquire_step : (count id i a n x : ℕ) (me : Held T) → i < p.geometry.slots
      → is_seated me.0 ≡ true
      → a ≡ field_at p.geometry.room i META → 0 < n → n ≤ MOST_WEIGHT → x < 2 ^ 64
      → record_in x me.0.records ≡ None → may_reach i me.0 ≡ true
      → load_of me.0.records + n ≤ REFERENCES_PER_CLIENT
      → Acts fits p count id me a (λ y. (y + n) % 2 ^ 64)
      (acquires fits p.geometry.room i x (step count a n 0 none) me)
  acquire_step count id i a n x me near seated address some few small fresh reach room s r homes at
      low =
      let slot = slot_there fits p s r i near in
      by slot.0 (asks slot.0 slot.1)
    where
      asks : (t : Slot) → slice_get r.world.slots i ≡ Some t → Asks s r id i a n x me t
      asks t at_slot = record {
        at_view = read_at s.views id me.0 at;
        at_slot = at_slot;
        seated = seated;
        address = address;
        some = some;
        few = few;
        small = small;
        fresh = fresh;
        reach = reach;
        room = room;
      }

      by : (t : Slot) → Asks s r id i a n x me t
          → Goes fits p s r a ((slice_index s.words a + n) % 2 ^ 64) id me
          (acquires fits p.geometry.room i x (step 0 a n 0 none) me)
      by (slots.Empty strays) o =
          let t : Slot = slots.Empty strays in
          let l = is_lawful r.world r.lawful in
          let spare = few_strays r.world l i t o.at_slot in
          strays_on s r id i a n x me t o (slots.Empty (strays + n)) refl
          (tells_entry r.world l i t o.at_slot) refl refl
          record { entry = refl; trail = refl } refl (add_acquires-empty strays n (omega arith))
      by (slots.Building client strays) o =
          let t : Slot = slots.Building client strays in
          let l = is_lawful r.world r.lawful in
          let spare = few_strays r.world l i t o.at_slot in
          strays_on s r id i a n x me t o (slots.Building client (strays + n)) refl
          (tells_entry r.world l i t o.at_slot) refl refl
          record { entry = refl; trail = refl } refl (add_acquires-building strays n (omega arith))
      by (slots.Shareable k) o = got_on s r id i a n x me k o
