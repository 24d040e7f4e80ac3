-- Loads of a client that reads without a reference: of data words, and of a stamp word and the meta
-- word, by which it sees that one entry stood there all along.
use Rattle.std.proofs.Common.{◌≡◌, ◌≢◌, inl, inr, ℕ, ◌+◌, ◌<◌, true, false, Bool, List, Option, Some, None, Ok, IfSome, slice_get, slice_index, sym, refl, ap, ◌∙◌, subst, arith, is_some, IsSomeAnd}
use Rattle.std.proofs.lemmas.Bool.{cases_eq}
use mathlib.Core.Option.{none}
use Rattle.atomic_table.specs.Table.{step, keeps}
use Rattle.hcc_word.specs.Word.{is_visible}
use Rattle.hcc_word.proofs.CodeLaws.{is_visible-building, is_visible-empty}
use Rattle.hcc_core.specs.declared.client.Client.{Client}
use Rattle.hcc_core.specs.declared.event.Event.TheVariants as events
use Rattle.hcc_core.specs.declared.event.Reply.TheVariants as replies
use Rattle.hcc_core.specs.declared.slot.Resident.{Resident}
use Rattle.hcc_core.specs.declared.slot.Slot.{Slot}
use Rattle.hcc_core.specs.declared.slot.Slot.TheVariants as slots
use Rattle.hcc_core.specs.declared.slot.Stamp.{Stamp}
use Rattle.hcc_core.specs.Entries.{peek_of}
use Rattle.hcc_core.specs.Lawful.{Lawful, owned_slot, shown_stamp}
use Rattle.hcc_core.specs.Steps.{outcome_of}
use Rattle.hcc_core.specs.World.{State}
use Rattle.hcc_core.proofs.Opening.{is_lawful}
use Rattle.hcc_rule.specs.declared.key.Key.{Key}
use Rattle.hcc_rule.specs.declared.layout.TheConstants.{DATA, META, STAMP}
use Rattle.hcc_rule.specs.declared.rule.Plan.{Plan}
use Rattle.hcc_rule.specs.declared.view.Done.{Done}
use Rattle.hcc_rule.specs.declared.view.Glimpse.{Glimpse}
use Rattle.hcc_rule.specs.declared.view.Stood.{Stood}
use Rattle.hcc_rule.specs.declared.view.Stood.TheVariants as stood
use Rattle.hcc_rule.specs.declared.view.View.{View}
use Rattle.hcc_rule.specs.Acts.{Acts, Goes}
use Rattle.hcc_rule.specs.Events.{peek_done}
use Rattle.hcc_rule.specs.Rule.{Holds, IsRecorded, IsShownAs, IsStood, WasShown, entry_in, stamp_at, IsTag, IsStored, book_of}
use Rattle.hcc_rule.specs.Told.{Held}
use Rattle.hcc_rule.specs.ToldOwners.{IsDataWord}
use Rattle.hcc_rule.specs.ToldGlimpses.{GoesOn, Glanced, glances, glimpses, peeks, rechecks}
use Rattle.hcc_rule.specs.Views.{is_seated}
use Rattle.hcc_rule.specs.Words.{code_of, field_at, stamp_word}
use Rattle.hcc_rule.proofs.Basics.Lists.{each_map, read_at, within}
use Rattle.hcc_rule.proofs.Entries.DataWords.{entry_word, met_becomes, word_same}
use Rattle.hcc_rule.proofs.Entries.Empties.{owner_there}
use Rattle.hcc_rule.proofs.Parts.Codes.{few_strays, tells_shown}
use Rattle.hcc_rule.proofs.Parts.SlotSteps.{Shard}
use Rattle.hcc_rule.proofs.Parts.Tags.{entry_tag, word_apart}
use Rattle.hcc_rule.proofs.Parts.Touches.{client_is, live_is}
use Rattle.hcc_rule.proofs.References.Looks.{client_fits, slot_fits, slot_there}
use Rattle.hcc_rule.proofs.References.Reaches.{is_met}

-- a peek is allowed to each client, and tells which entry is shown in the slot
peek_allowed : (w : State) (c i : ℕ) (found : Client) (seen : Slot) → Lawful w
    → slice_get w.slots i ≡ Some seen → slice_get w.clients c ≡ Some found → found.live ≡ true
    → outcome_of w (events.Peek c i) ≡ Ok (replies.Shows (shown_stamp seen), w)
unfolding outcome_of peek_of
peek_allowed w c i found seen l at_slot at_client live =
    rw (
      client_fits w c l (within w.clients c found at_client),
      slot_fits w i l (within w.slots i seen at_slot),
      at_slot,
      at_client,
      live,
    ) refl

-- what holds of what there is
of_some : {A : Type 0} (o : Option A) (a : A) (P : A → Type 0) → o ≡ Some a → P a → IfSome o P
of_some o a P is h = subst (λ z. IfSome z P) (sym is) h

-- a stamp is its client and its number
stamp_same : (a b : Stamp) → a.client ≡ b.client → a.number ≡ b.number → a ≡ b
stamp_same a b client number = rw (client, number) refl

module _ {T : Type 0} (fits : T → Key → List ℕ → Type 0) (p : Plan T) where
  -- A load that no reference backs changes the seat's glimpse alone.
  peeks_on : (s : Shard fits p) (r : Holds fits p s) (id i a : ℕ) (me : Held T)
      (glimpse : Option Glimpse) (t : Slot) (stamp : Option Stamp)
      (then : ℕ → Held T → Option Done → Type 0)
      → slice_get s.views id ≡ Some me.0 → is_seated me.0 ≡ true
      → slice_get r.world.slots i ≡ Some t → shown_stamp t ≡ stamp
      → IfSome glimpse (λ g. (g.slot < p.geometry.slots)
      × IsStood p.geometry.room s.words r.books s.views g.slot g.word g.stood)
      → then (slice_index s.words a) (record me.0 { glimpse = glimpse }, me.1)
      (Some (peek_done i stamp me.0))
      → Goes fits p s r a (slice_index s.words a) id me then
  peeks_on s r id i a me glimpse t stamp then at seated at_slot shown glimpsed told =
      let allowed = peek_allowed r.world me.0.client i me.0.work t (is_lawful r.world r.lawful)
      at_slot (client_is fits p s r id me.0 at seated) (live_is fits p s r id me.0 at seated) in (
        record me.0 { glimpse = glimpse },
        keeps,
        tt,
        Some (peek_done i stamp me.0),
        rw (word_same s.words a, ← shown) (met_becomes fits p s r id me.0 me.0.met glimpse at seated
            glimpsed (peek_done i (shown_stamp t) me.0) ((refl, refl), allowed)),
        told,
      )

  -- The load of a data word keeps the rule, and finds that of the entry that is held there.
  pub peek_step : (count id i a index : ℕ) (me : Held T) → is_seated me.0 ≡ true
      → i < p.geometry.slots → a ≡ field_at p.geometry.room i DATA + index
      → Acts fits p count id me a (λ n. n) (peeks i index (step count a 0 0 none) me)
  peek_step count id i a index me seated near address s r homes at low =
      let here = read_at s.views id me.0 at in
      let slot = slot_there fits p s r i near in
      let word = ap (slice_index s.words) address in
      peeks_on s r id i a me me.0.glimpse slot.0 (shown_stamp slot.0)
      (peeks i index (step count a 0 0 none) me) here seated slot.1 refl
      (r.tags.each id me.0 here).glimpse (
        refl,
        refl,
        each_map (IsRecorded r.world.slots)
            (λ q. q.slot ≡ i → IsDataWord q.entry index (slice_index s.words a))
            (λ q recorded on.
            subst (IsDataWord q.entry index) (sym word)
            (entry_word fits p s r i index q.entry
            (ap (λ j. entry_in (slice_get r.world.slots j)) (sym on) ∙ recorded.there)))
            me.0.records (r.holding id me.0 here).recorded,
        (shown_stamp slot.0, refl),
      )

  -- So does the first load of the stamp word of a slot that the client looked at.
  pub glimpse_step : (count id i a : ℕ) (me : Held T) → is_seated me.0 ≡ true
      → i < p.geometry.slots → me.0.work.looked ≡ Some i
      → a ≡ field_at p.geometry.room i DATA + STAMP
      → Acts fits p count id me a (λ n. n) (glimpses i (step count a 0 0 none) me)
  glimpse_step count id i a me seated near looked address s r homes at low =
      let here = read_at s.views id me.0 at in
      let slot = slot_there fits p s r i near in
      let tag = rw looked at (r.tags.each id me.0 here).looked in
      peeks_on s r id i a me
      (Some (record { slot = i; word = slice_index s.words a; stood = stood.Unseen })) slot.0
      (shown_stamp slot.0) (glimpses i (step count a 0 0 none) me) here seated slot.1 refl
      (tag.0, rw address tag.1) (refl, refl, (shown_stamp slot.0, refl))

  -- What a look finds of an entry that is shown.
  module _ (s : Shard fits p) (r : Holds fits p s) (id : ℕ) (v : View T) (g : Glimpse)
      (k : Resident) (at : slice_get s.views id ≡ Some v) (glimpse : v.glimpse ≡ Some g)
      (at_slot : slice_get r.world.slots g.slot ≡ Some (slots.Shareable k)) where
    abbrev stamped : ℕ
    stamped = slice_index s.words (stamp_at p.geometry.room g.slot)

    stored : IsStored p.geometry.room s.words r.books g.slot k.entry
    stored = r.stored g.slot k.entry (ap entry_in at_slot)

    old : (g.slot < p.geometry.slots)
        × IsStood p.geometry.room s.words r.books s.views g.slot g.word g.stood
    old = rw glimpse at (r.tags.each id v at).glimpse

    -- the word is none of an entry that is being built, since one stands there
    was_shown : IsTag r.books s.views g.slot g.word → WasShown r.books g.word
    was_shown (inl shown) = shown
    was_shown (inr (j, u, there, builds)) = by (is_seated u) refl
      where
        by : (b : Bool) → is_seated u ≡ b → WasShown r.books g.word
        by true sits =
            let owner = owner_there fits p s r j g.slot u there sits (slots.Shareable k)
            (ap owned_slot builds.0) at_slot in cc
        by false empty = none_of u.tag refl
          where
            none_of : (o : Option T) → u.tag ≡ o → WasShown r.books g.word
            none_of None is =
                let bad : None ≡ Some g.slot =
                sym ((r.seats.each j u there).spent is).2 ∙ ap owned_slot builds.0 in cc
            none_of (Some t) is = let bad : true ≡ false = sym (ap is_some is) ∙ empty in cc

    -- an entry with that word is the one that was shown with it
    is_first : (first : Stamp) → IsShownAs r.books g.word first → stamped ≡ g.word
        → k.entry.stamp ≡ first
    is_first first shown same =
        let mine = entry_tag p.geometry.room s.words r.books g.slot k.entry stored in
        let right = r.stamps.right k.entry.stamp stored.made stored.listed in
        let rightly = r.stamps.right first shown.0 shown.1 in
        let words : stamp_word k.entry.stamp.client stored.made.serial
        ≡ stamp_word first.client shown.0.serial =
        sym (stored.lies STAMP (omega arith)) ∙ (same ∙ shown.2) in
        let one = word_apart k.entry.stamp.client first.client stored.made.serial shown.0.serial
        right.numbered rightly.numbered words in
        let number = r.tags.apart first.client k.entry.stamp.number first.number stored.made
        shown.0 (ap (λ c. slice_get (book_of r.books c) k.entry.stamp.number) (sym one.0)
        ∙ stored.listed) shown.1 one.1 in
        stamp_same k.entry.stamp first one.0 number

    -- what stood there, with it
    goes_on : (before : Stood)
        → IsStood p.geometry.room s.words r.books s.views g.slot g.word before
        → (now : Stood) × GoesOn k.entry.stamp before now
        × IsStood p.geometry.room s.words r.books s.views g.slot g.word now
    goes_on stood.Unseen tag = elim (cases_eq stamped g.word) [
      | inl same ↦ (
        stood.Entry k.entry.stamp,
        inl refl,
        (stored.made, stored.listed, sym same ∙ stored.lies STAMP (omega arith)),
      )
      | inr other ↦ (stood.Another, inr refl, (was_shown tag, other))
    ]
    goes_on (stood.Entry first) shown = elim (cases_eq stamped g.word) [
      | inl same ↦ (
        stood.Entry k.entry.stamp,
        inl (refl, is_first first shown same),
        (stored.made, stored.listed, sym same ∙ stored.lies STAMP (omega arith)),
      )
      | inr other ↦ (stood.Another, inr refl, ((first, shown), other))
    ]
    goes_on stood.Another gone = (stood.Another, refl, gone)

  -- The load of the meta word keeps the rule, and tells whether another entry stood there.
  module _ (s : Shard fits p) (r : Holds fits p s) (id i a count : ℕ) (me : Held T) (g : Glimpse)
      (here : slice_get s.views id ≡ Some me.0) (seated : is_seated me.0 ≡ true)
      (glimpse : me.0.glimpse ≡ Some g) (on : g.slot ≡ i)
      (address : a ≡ field_at p.geometry.room i META) where
    abbrev then : ℕ → Held T → Option Done → Type 0
    then = glances i (step count a 0 0 none) me

    word_is : (t : Slot) → slice_get r.world.slots i ≡ Some t → slice_index s.words a ≡ code_of t
    word_is t at_slot = ap (slice_index s.words) address ∙ r.coded.meta i t at_slot

    -- none is shown
    finds_none : (t : Slot) → slice_get r.world.slots i ≡ Some t → shown_stamp t ≡ None
        → is_visible (code_of t) ≡ false → Goes fits p s r a (slice_index s.words a) id me then
    finds_none t at_slot nothing dark =
        peeks_on s r id i a me me.0.glimpse t None then here seated at_slot nothing
        (r.tags.each id me.0 here).glimpse
        (refl, (None, rw glimpse (ap is_visible (word_is t at_slot) ∙ dark, refl), refl))

    finds_entry : (k : Resident) → slice_get r.world.slots i ≡ Some (slots.Shareable k)
        → (b : Bool) → k.shown ≡ b → Goes fits p s r a (slice_index s.words a) id me then
    finds_entry k at_slot false is =
        finds_none (slots.Shareable k) at_slot (rw is refl)
        (tells_shown r.world (is_lawful r.world r.lawful) i k at_slot ∙ is)
    finds_entry k at_slot true is =
        let there : slice_get r.world.slots g.slot ≡ Some (slots.Shareable k) = rw on at_slot in
        let before = old s r id me.0 g k here glimpse there in
        let now = goes_on s r id me.0 g k here glimpse there g.stood before.1 in
        let visible : is_visible (slice_index s.words a) ≡ true =
        ap is_visible (word_is (slots.Shareable k) at_slot)
        ∙ (tells_shown r.world (is_lawful r.world r.lawful) i k at_slot ∙ is) in
        peeks_on s r id i a me (Some (record g { stood = now.0 })) (slots.Shareable k)
        (Some k.entry.stamp) then here seated at_slot (rw is refl) (before.0, now.2) (
          refl,
          (
            Some k.entry.stamp,
            of_some me.0.glimpse g
                (λ z. Glanced (slice_index s.words a) (Some k.entry.stamp) z me.0
                (record me.0 { glimpse = Some (record g { stood = now.0 }) })) glimpse (
                  visible,
                  (is_met fits p s r id i me.0 here seated (slice_index s.words a) k at_slot
                      (word_is (slots.Shareable k) at_slot)).alive visible,
                  (now.0, now.1, refl),
                ),
            refl,
          ),
        )

    finds : (t : Slot) → slice_get r.world.slots i ≡ Some t
        → Goes fits p s r a (slice_index s.words a) id me then
    finds (slots.Empty strays) at_slot =
        finds_none (slots.Empty strays) at_slot refl
        (is_visible-empty strays (let few = few_strays r.world (is_lawful r.world r.lawful) i
        (slots.Empty strays) at_slot in omega arith))
    finds (slots.Building d strays) at_slot =
        finds_none (slots.Building d strays) at_slot refl
        (is_visible-building strays (let few = few_strays r.world (is_lawful r.world r.lawful) i
        (slots.Building d strays) at_slot in omega arith))
    finds (slots.Shareable k) at_slot = finds_entry k at_slot k.shown refl

  pub glance_step : (count id i a : ℕ) (me : Held T) → is_seated me.0 ≡ true
      → i < p.geometry.slots → IsSomeAnd me.0.glimpse (λ g. g.slot ≡ i)
      → a ≡ field_at p.geometry.room i META
      → Acts fits p count id me a (λ n. n) (glances i (step count a 0 0 none) me)
  glance_step count id i a me seated near so address s r homes at low =
      by me.0.glimpse refl so
    where
      by : (o : Option Glimpse) → me.0.glimpse ≡ o → IsSomeAnd o (λ g. g.slot ≡ i)
          → Goes fits p s r a (slice_index s.words a) id me (glances i (step count a 0 0 none) me)
      by None is on = absurd on
      by (Some g) is on =
          let slot = slot_there fits p s r i near in
          finds s r id i a count me g (read_at s.views id me.0 at) seated is on address slot.0
          slot.1

  -- The last load of the stamp word keeps the rule, and tells whether one entry stood there.
  pub recheck_step : (count id i a : ℕ) (me : Held T) → is_seated me.0 ≡ true
      → i < p.geometry.slots → IsSomeAnd me.0.glimpse (λ g. g.slot ≡ i)
      → a ≡ field_at p.geometry.room i DATA + STAMP
      → Acts fits p count id me a (λ n. n) (rechecks i (step count a 0 0 none) me)
  recheck_step count id i a me seated near so address s r homes at low =
      let slot = slot_there fits p s r i near in
      peeks_on s r id i a me me.0.glimpse slot.0 (shown_stamp slot.0)
      (rechecks i (step count a 0 0 none) me) here seated slot.1 refl known
      (refl, refl, apart me.0.glimpse so known, (shown_stamp slot.0, refl))
    where
      here : slice_get s.views id ≡ Some me.0
      here = read_at s.views id me.0 at

      known : IfSome me.0.glimpse (λ g. (g.slot < p.geometry.slots)
          × IsStood p.geometry.room s.words r.books s.views g.slot g.word g.stood)
      known = (r.tags.each id me.0 here).glimpse

      apart : (o : Option Glimpse) → IsSomeAnd o (λ g. g.slot ≡ i)
          → IfSome o (λ g. (g.slot < p.geometry.slots)
          × IsStood p.geometry.room s.words r.books s.views g.slot g.word g.stood)
          → IfSome o (λ g. g.stood ≡ stood.Another → slice_index s.words a ≢ g.word)
      apart None on each = tt
      apart (Some g) on each = λ gone same.
          let stands = subst
          (IsStood p.geometry.room s.words r.books s.views g.slot g.word) gone each.1 in
          stands.1 (ap (λ j. slice_index s.words (stamp_at p.geometry.room j)) on
          ∙ (ap (slice_index s.words) (sym address) ∙ same))
