-- A step on a meta word that moves no entry and leaves what is in hand but looks and dead stamps.
use Rattle.std.proofs.Common.{◌≡◌, ◌⊎◌, inl, inr, IfSome, ℕ, ◌+◌, ◌<◌, ◌≢◌, true, List, [], Option, Some, None, Ok, is_some, length, slice_get, slice_index, slice_set, sym, refl, ap, ◌∙◌, arith}
use Rattle.std.specs.Option.{unwrap_or}
use Rattle.atomic_table.specs.Table.{keeps}
use Rattle.hcc_core.specs.declared.event.Event.{Event}
use Rattle.hcc_core.specs.declared.event.Reply.{Reply}
use Rattle.hcc_core.specs.declared.client.Client.{Client}
use Rattle.hcc_core.specs.declared.slot.Entry.{Entry}
use Rattle.hcc_core.specs.declared.slot.Reference.{Reference}
use Rattle.hcc_core.specs.declared.slot.Stamp.{Stamp}
use Rattle.hcc_core.specs.declared.slot.Slot.{Slot}
use Rattle.hcc_core.specs.declared.slot.Slot.TheVariants as slots
use Rattle.hcc_core.specs.Sums.{when, total}
use Rattle.hcc_core.specs.World.{State, references_of, taken_by_slot, charge_of, trail_of, charged_to, occupied_by, standing_of, times}
use Rattle.hcc_core.specs.Outcomes.{with_both}
use Rattle.hcc_core.specs.Steps.{outcome_of}
use Rattle.hcc_core.proofs.ListLemmas.{set_same}
use Rattle.hcc_rule.specs.declared.key.Key.{Key}
use Rattle.hcc_rule.specs.declared.layout.TheConstants.{META}
use Rattle.hcc_rule.specs.declared.rule.Plan.{Plan}
use Rattle.hcc_rule.specs.declared.view.Made.{Made}
use Rattle.hcc_rule.specs.declared.view.Record.{Record}
use Rattle.hcc_rule.specs.declared.view.View.{View}
use Rattle.hcc_rule.specs.Told.{Held}
use Rattle.hcc_rule.specs.Views.{is_seated, held}
use Rattle.hcc_rule.specs.Words.{field_at, code_of}
use Rattle.hcc_rule.specs.Rule.{list_weighs, slot_weighs, taken_weigh, entry_by, entry_in, stamp_at, IsRecorded, IsHolding, IsTag, IsTagged, IsTrailed, Holds, IsRight, WasShown}
use Rattle.hcc_rule.proofs.Basics.Lists.{each_map}
use Rattle.hcc_rule.proofs.Parts.ViewParts.{recorded_kept}
use Rattle.hcc_rule.proofs.Parts.SlotSteps.{Shard, SameName, SlotStep, near, slot_becomes}
use Rattle.hcc_rule.proofs.Parts.WorldParts.{given_kept, made_grows}
use Rattle.hcc_rule.proofs.Parts.Tags.{entry_tag, if_map, quiet, stamp_kept}
use Rattle.hcc_rule.specs.Acts.{Goes, IsStepBy, did}
use Rattle.hcc_rule.specs.declared.view.Done.{Done}

-- an outcome, by what the client is then
pub by_client : (w : State) (event : Event) (reply : Reply) (i c : ℕ) (left : Slot) (k j : Client)
    → k ≡ j
    → outcome_of w event ≡ Ok (reply, with_both w i left c k)
    → outcome_of w event ≡ Ok (reply, with_both w i left c j)
by_client w event reply i c left k j same h = rw (← same) h

-- the slot keeps its entry and its trail
pub record Alike (t left : Slot) : Type 0 where
  pub entry : entry_by left ≡ entry_by t
  pub trail : trail_of left ≡ trail_of t

taken_is : (t : Slot) → taken_by_slot t ≡ when (is_some (entry_by t)) 1
taken_is (slots.Empty strays) = refl
taken_is (slots.Building client strays) = refl
taken_is (slots.Shareable r) = refl

abbrev charge_in : Option Entry → ℕ
charge_in None = 0
charge_in (Some entry) = entry.charge

charge_is : (t : Slot) → charge_of t ≡ charge_in (entry_by t)
charge_is (slots.Empty strays) = refl
charge_is (slots.Building client strays) = refl
charge_is (slots.Shareable r) = refl

-- so it is as much of a place and of a charge, and its trail leads to it still
taken_alike : (t left : Slot) → Alike t left → taken_by_slot left ≡ taken_by_slot t
taken_alike t left like = taken_is left ∙ (ap (λ o. when (is_some o) 1) like.entry
    ∙ sym (taken_is t))

charge_alike : (t left : Slot) → Alike t left → charge_of left ≡ charge_of t
charge_alike t left like = charge_is left ∙ (ap charge_in like.entry ∙ sym (charge_is t))

-- the weight of what stands in a slot goes by its entry alone
abbrev weight_in : (Stamp → ℕ) → Option Entry → ℕ
weight_in h None = 0
weight_in h (Some entry) = h entry.stamp

weight_is : (h : Stamp → ℕ) (t : Slot) → slot_weighs h t ≡ weight_in h (entry_by t)
weight_is h (slots.Empty strays) = refl
weight_is h (slots.Building client strays) = refl
weight_is h (slots.Shareable r) = refl

weight_alike : (h : Stamp → ℕ) (t left : Slot) → Alike t left → slot_weighs h left ≡ slot_weighs h t
weight_alike h t left like = weight_is h left ∙ (ap (weight_in h) like.entry ∙ sym (weight_is h t))

trailed_alike : (size i : ℕ) (t left : Slot) → Alike t left → IsTrailed size i t
    → IsTrailed size i left
trailed_alike size i t (slots.Empty strays) like h = tt
trailed_alike size i t (slots.Building client strays) like h = tt
trailed_alike size i (slots.Empty strays) (slots.Shareable q) like h = let bad = like.entry in cc
trailed_alike size i (slots.Building client strays) (slots.Shareable q) like h = let bad =
    like.entry in cc
trailed_alike size i (slots.Shareable r) (slots.Shareable q) like h =
    let both = like.entry in
    let same : q.entry ≡ r.entry = cc in
    rw (same, like.trail) h

-- a client that looks where it looked
pub looks_still : (i : ℕ) (t : Slot) (looked : Option ℕ)
    → IfSome looked (λ slot. (looked ≡ Some slot) ⊎ ((slot ≡ i) × (is_some (entry_by t) ≡ true)))
looks_still i t None = tt
looks_still i t (Some slot) = inl refl

-- of what is in hand, the look and the dead list may differ
abbrev pub SameWork : Client → Client → Type 0
SameWork old new = new ≡ record old { looked = new.looked; dead = new.dead }

-- the view keeps what it wrote, what it made and what it took
pub record SameStore {T : Type 0} (v new : View T) : Type 0 where
  pub written : new.written ≡ v.written
  pub made : new.made ≡ v.made
  pub takings : new.takings ≡ v.takings
  pub gone : new.gone ≡ v.gone

module _ {T : Type 0} (fits : T → Key → List ℕ → Type 0) (p : Plan T) where
  -- What such a step owes.
  pub record Touch (s : Shard fits p) (r : Holds fits p s) (id i : ℕ) (v new : View T)
      (t left : Slot) (event : Event) (reply : Reply) : Type 0 where
    pub at_view : slice_get s.views id ≡ Some v
    pub at_slot : slice_get r.world.slots i ≡ Some t
    pub seated : is_seated v ≡ true
    pub same : SameName fits p v new
    pub work : SameWork v.work new.work
    pub store : SameStore v new
    pub allowed : outcome_of r.world event ≡ Ok (reply, with_both r.world i left v.client new.work)
    pub like : Alike t left
    pub here : (h : Reference → ℕ) → total h (references_of left) + held i h v
        ≡ total h (references_of t) + held i h new
    pub elsewhere : (j : ℕ) (h : Reference → ℕ) → j ≢ i → held j h new ≡ held j h v
    pub holding : IsHolding r.world.slots new
    -- it looks where it looked before, or at this slot where an entry stands there
    pub looked : IfSome new.work.looked (λ slot. (v.work.looked ≡ Some slot)
        ⊎ ((slot ≡ i) × (is_some (entry_by t) ≡ true)))

  module _ (s : Shard fits p) (r : Holds fits p s) (id : ℕ) (v : View T)
      (at : slice_get s.views id ≡ Some v) (seated : is_seated v ≡ true) where
    -- the client of a seat, and its list
    pub client_is : slice_get r.world.clients v.client ≡ Some v.work
    client_is = (r.seats.each id v at).work seated

    pub live_is : v.work.live ≡ true
    live_is = (r.seats.each id v at).live seated

    pub book_is : slice_get r.books v.client ≡ Some v.made
    book_is = (r.seats.each id v at).book seated

    -- it has as many stamps as it showed entries, and was right to show each
    pub stamps_are : v.work.stamps ≡ length v.made
    stamps_are = r.stamps.counted v.client v.work client_is
        ∙ ap (λ o. length (unwrap_or o [])) book_is

    pub was_right : (n : ℕ) (made : Made) → slice_get v.made n ≡ Some made
        → IsRight fits p.tag p.geometry.room made
    was_right n made there =
        r.stamps.right (record { client = v.client; number = n }) made
        (ap (λ o. slice_get (unwrap_or o []) n) book_is ∙ there)

  pub touched : (s : Shard fits p) (r : Holds fits p s) (id i : ℕ) (v new : View T) (t left : Slot)
      (event : Event) (reply : Reply)
      → Touch s r id i v new t left event reply → SlotStep fits p s r id i v new t left event reply
  touched s r id i v new t left event reply m = record {
    at_view = m.at_view;
    at_slot = m.at_slot;
    seated = m.seated;
    same = m.same;
    live = ap (λ (c : Client). c.live) m.work ∙ live_is s r id v m.at_view m.seated;
    allowed = m.allowed;
    grows = λ n made there. ap (λ l. slice_get l n) m.store.made ∙ there;
    stored = λ entry is.
        let old = r.stored i entry (ap entry_in m.at_slot ∙ (sym m.like.entry ∙ is)) in
        rw (m.store.made, set_same r.books v.client v.made (book_is s r id v m.at_view m.seated))
        old;
    drafted =
        let old = r.drafted id v m.at_view in
        record {
          short = rw m.store.written old.short;
          lies = rw (m.store.written, m.work) old.lies;
        };
    here = m.here;
    elsewhere = m.elsewhere;
    holding = record {
      recorded = each_map (IsRecorded r.world.slots) (IsRecorded (slice_set r.world.slots i left))
          kept new.records m.holding.recorded;
      once = m.holding.once;
      few = m.holding.few;
    };
    recorded = λ j u other there.
        each_map (IsRecorded r.world.slots) (IsRecorded (slice_set r.world.slots i left)) kept
        u.records (r.holding j u there).recorded;
    counted = ap (λ (c : Client). c.stamps) m.work
        ∙ (stamps_are s r id v m.at_view m.seated ∙ ap length (sym m.store.made));
    right = λ n made there. was_right s r id v m.at_view m.seated n made
        (ap (λ l. slice_get l n) (sym m.store.made) ∙ there);
    paid =
        let taken = taken_alike t left m.like in
        let takings = m.store.takings in
        let made = ap length m.store.made in
        omega arith;
    weighs = λ h.
        let slot = weight_alike h t left m.like in
        let gone = ap (taken_weigh h) m.store.gone in
        let made = ap (list_weighs h v.client 0) m.store.made in
        omega arith;
    given = given_kept r.books (slice_set r.books v.client new.made) v new
        (made_grows r.books v.client v.made new.made (book_is s r id v m.at_view m.seated)
        (λ n made there. ap (λ l. slice_get l n) m.store.made ∙ there))
        m.store.takings m.store.gone (r.stamps.given id v m.at_view);
    usage =
        let charge = charge_alike t left m.like in
        let same_work : charged_to new.work ≡ charged_to v.work = ap charged_to m.work in
        omega arith;
    occupancy =
        let taken = taken_alike t left m.like in
        let same_work : occupied_by new.work ≡ occupied_by v.work = ap occupied_by m.work in
        omega arith;
    standing = ap standing_of m.work;
    modest =
        let old = r.ledgers.modest v.client v.work client in
        rw m.work record { asked = old.asked; freed = old.freed; few = old.few; small = old.small };
    passed = λ j.
        let trail = ap (times j) m.like.trail in
        let same_work : times j new.work.trail ≡ times j v.work.trail =
        ap (λ (c : Client). times j c.trail) m.work in
        omega arith;
    trailed = trailed_alike p.geometry.slots i t left m.like (r.trails.entries i t m.at_slot);
    tags = quiet p.geometry.slots p.geometry.room s.words _ r.books _ s.views id v new old_tags
        r.tags.apart
        (rw m.store.made (set_same r.books v.client v.made (book_is s r id v m.at_view m.seated)))
        (ap (λ (c : Client). c.owned) m.work) m.store.written m.same.client m.store.made
        (λ slot low. stamp_kept p.geometry.room i (code_of left) s.words slot)
        (if_map new.work.looked (λ slot. looks slot) m.looked)
        (rw m.same.glimpse old_tags.glimpse);
  }
    where
      client : slice_get r.world.clients v.client ≡ Some v.work
      client = client_is s r id v m.at_view m.seated

      kept : (k : Record) → IsRecorded r.world.slots k
          → IsRecorded (slice_set r.world.slots i left) k
      kept = recorded_kept r.world.slots i t left m.at_slot m.like.entry

      old_tags : IsTagged p.geometry.slots p.geometry.room s.words r.books s.views v
      old_tags = r.tags.each id v m.at_view

      -- where an entry stands, its stamp word does
      looks : (slot : ℕ)
          → (v.work.looked ≡ Some slot) ⊎ ((slot ≡ i) × (is_some (entry_by t) ≡ true))
          → (slot < p.geometry.slots) × IsTag r.books s.views slot
          (slice_index s.words (stamp_at p.geometry.room slot))
      looks slot (inl before) = rw before at old_tags.looked
      looks slot (inr (here, some)) =
          rw here (near fits p s r i t m.at_slot, inl (stands (entry_by t) refl some))
        where
          stands : (o : Option Entry) → entry_by t ≡ o → is_some o ≡ true
              → WasShown r.books (slice_index s.words (stamp_at p.geometry.room i))
          stands None is some = cc
          stands (Some entry) is some =
              entry_tag p.geometry.room s.words r.books i entry
              (r.stored i entry (ap entry_in m.at_slot ∙ is))

  pub goes : (s : Shard fits p) (r : Holds fits p s) (a y id i : ℕ) (me : Held T) (new : View T)
      (t left : Slot) (event : Event) (reply : Reply) (then : ℕ → Held T → Option Done → Type 0)
      → a ≡ field_at p.geometry.room i META → y ≡ code_of left
      → IsStepBy me.0.client event → SlotStep fits p s r id i me.0 new t left event reply
      → then (slice_index s.words a) (new, me.1) (Some (did event reply))
      → Goes fits p s r a y id me then
  goes s r a y id i me new t left event reply then place word mine m told = (
    new,
    keeps,
    tt,
    Some (did event reply),
    rw (place, word) (slot_becomes fits p s r s.homes id i me.0 new t left event reply mine m),
    told,
  )
