-- A store of a data word: the slot that its client builds has one word more.
use Rattle.std.proofs.Common.{◌≡◌, ℕ, zero, suc, ◌+◌, ◌<◌, ◌≢◌, inl, inr, Bool, true, false, List, [], ◌∷◌, ◌++◌, Option, Some, None, Ok, is_some, length, slice_get, slice_index, slice_set, sym, refl, ap, ◌∙◌, arith, ◌⊎◌, subst}
use Rattle.std.proofs.lemmas.Bool.{cases_eq}
use mathlib.Core.Option.{none}
use Rattle.atomic_table.specs.Table.{step, keeps}
use Rattle.hcc_core.specs.declared.event.Event.TheVariants as events
use Rattle.hcc_core.specs.declared.event.Reply.TheVariants as replies
use Rattle.hcc_core.specs.declared.client.Client.{Client}
use Rattle.hcc_core.specs.declared.slot.Entry.{Entry}
use Rattle.hcc_core.specs.declared.client.Owned.TheVariants as owned
use Rattle.hcc_core.specs.declared.slot.Slot.{Slot}
use Rattle.hcc_core.specs.declared.slot.Slot.TheVariants as slots
use Rattle.hcc_core.specs.World.{State}
use Rattle.hcc_core.specs.Entries.{is_building}
use Rattle.hcc_core.specs.Steps.{outcome_of}
use Rattle.hcc_core.specs.Lawful.{Lawful, owner_of, owned_slot}
use Rattle.hcc_core.proofs.SumLemmas.{length-push}
use Rattle.hcc_core.proofs.Keeps.{follows_lawful}
use Rattle.hcc_core.proofs.Opening.{is_lawful}
use Rattle.hcc_rule.specs.declared.key.Key.{Key}
use Rattle.hcc_rule.specs.declared.layout.TheConstants.{META, DISPLACEMENT, DATA, PAYLOAD, HAND, STAMP}
use Rattle.hcc_rule.specs.declared.rule.Plan.{Plan}
use Rattle.hcc_rule.specs.declared.view.View.{View}
use Rattle.hcc_rule.specs.Told.{Held}
use Rattle.hcc_rule.specs.ToldOwners.{after_write, writes}
use Rattle.hcc_rule.specs.Views.{is_seated}
use Rattle.hcc_rule.specs.Words.{field_at, ledger_at, word_count, Lies}
use Rattle.hcc_rule.specs.Rule.{entry_by, entry_in, IsDraft, Holds, IsBuildingAs, IsNextStamp, IsTagged, WasShown, book_of, stamp_at}
use Rattle.hcc_rule.proofs.Basics.Lists.{within, read_at, word_here, word_else}
use Rattle.hcc_rule.proofs.Parts.Addresses.{fields_apart, field_inside, ledger_apart, data_field, data_away}
use Rattle.hcc_rule.proofs.Parts.WordParts.{AreShort, coded_else, made_short, stored_words, drafted_set}
use Rattle.hcc_rule.proofs.Parts.ViewParts.{seated_else, unnamed}
use Rattle.hcc_rule.proofs.Parts.ClientParts.{SameView, references_view, holding_view, seats_still, stamps_still}
use Rattle.hcc_rule.proofs.Parts.WorldParts.{hand_kept}
use Rattle.hcc_rule.proofs.References.Looks.{client_fits, slot_there}
use Rattle.hcc_rule.proofs.Entries.Empties.{owner_there}
use Rattle.hcc_rule.proofs.Parts.SlotSteps.{Shard, size_is}
use Rattle.hcc_rule.proofs.Parts.Touches.{client_is, live_is, book_is}
use Rattle.hcc_rule.specs.Acts.{Acts, did}
use Rattle.hcc_rule.proofs.Parts.Tags.{TagStep, below, tags_step, word_apart}
use Rattle.std.specs.Option.{unwrap_or}

-- the member at the end, and those before it
last_at : (xs : List ℕ) (y : ℕ) → slice_index (xs ++ y ∷ []) (length xs) ≡ y
last_at [] y = refl
last_at (x ∷ xs) y = last_at xs y

front_at : (xs : List ℕ) (y k : ℕ) → k < length xs → slice_index (xs ++ y ∷ []) k ≡ slice_index xs k
front_at [] y k h = absurd (omega arith)
front_at (x ∷ xs) y zero h = refl
front_at (x ∷ xs) y (suc k) h = front_at xs y k (omega arith)

-- one word more stands behind those that lie there
lies_more : (words : List ℕ) (base y : ℕ) (xs : List ℕ) → base + length xs < length words
    → Lies words base xs → Lies (slice_set words (base + length xs) y) base (xs ++ y ∷ [])
lies_more words base y xs inside lies k low = elim (cases_eq k (length xs)) [
  | inl same ↦
      ap (λ n. slice_index (slice_set words (base + length xs) y) (base + n)) same
      ∙ (word_here words (base + length xs) y inside
      ∙ (sym (last_at xs y) ∙ ap (slice_index (xs ++ y ∷ [])) (sym same)))
  | inr other ↦
      let push = length-push xs y in
      let less : k < length xs = omega arith in
      word_else words (base + length xs) (base + k) y (λ e. other (omega arith))
      ∙ (lies k less ∙ sym (front_at xs y k less))
]

-- a write is allowed to one that builds, and changes nothing in the world
write_allowed : (w : State) (c i : ℕ) (found : Client) → Lawful w
    → slice_get w.clients c ≡ Some found
    → found.live ≡ true → found.owned ≡ owned.ForBuilding i
    → outcome_of w (events.Write c) ≡ Ok (replies.Ok, w)
unfolding outcome_of
write_allowed w c i found l at_client live builds =
    let may : is_building found.owned ≡ true = ap is_building builds in
    rw (client_fits w c l (within w.clients c found at_client), at_client, live, may) refl

module _ {T : Type 0} (fits : T → Key → List ℕ → Type 0) (p : Plan T) where
  module _ (s : Shard fits p) (r : Holds fits p s) (id i y : ℕ) (v : View T)
      (at : slice_get s.views id ≡ Some v) (seated : is_seated v ≡ true)
      (near : i < p.geometry.slots)
      (builds : v.work.owned ≡ owned.ForBuilding i)
      (room_left : length v.written < PAYLOAD + p.geometry.room)
      (stamp : length v.written ≡ STAMP → IsNextStamp y v) where
    abbrev room : ℕ
    room = p.geometry.room

    abbrev a : ℕ
    a = field_at p.geometry.room i DATA + length v.written

    abbrev new : View T
    new = after_write y v

    abbrev words : List ℕ
    words = slice_set s.words a y

    abbrev views : List (View T)
    views = slice_set s.views id new

    field : a ≡ field_at p.geometry.room i (DATA + length v.written)
    field = data_field p.geometry.room i (length v.written)

    -- it is none of the words that slots and ledgers have beside
    not_field : (j f : ℕ) → f < DATA → field_at p.geometry.room j f ≢ a
    not_field j f low e =
        let bad = (fields_apart p.geometry.room j i f (DATA + length v.written) (omega arith)
        (omega arith) (e ∙ field)).1 in
        absurd (omega arith)

    not_ledger : (k : ℕ) → ledger_at p.geometry.slots p.geometry.room k ≢ a
    not_ledger k e = ledger_apart p.geometry.slots p.geometry.room i (DATA + length v.written) k
        near (omega arith) (sym field ∙ sym e)

    -- nor a data word of another slot
    elsewhere : (j : ℕ) → j ≢ i → (k : ℕ) → k < PAYLOAD + p.geometry.room
        → field_at p.geometry.room j DATA + k ≢ a
    elsewhere j other k low e = data_away p.geometry.room i j (DATA + length v.written)
        (omega arith) other k low (e ∙ field)

    owner : (t : Slot) → slice_get r.world.slots i ≡ Some t → owner_of t ≡ Some v.client
    owner t at_slot = owner_there fits p s r id i v at seated t (ap owned_slot builds) at_slot

    -- no entry stands in a slot that is built
    no_entry : (t : Slot) → owner_of t ≡ Some v.client → entry_by t ≡ None
    no_entry (slots.Empty strays) h = cc
    no_entry (slots.Building d strays) h = refl
    no_entry (slots.Shareable k) h = cc

    entry_else : (j : ℕ) (entry : Entry) → entry_in (slice_get r.world.slots j) ≡ Some entry → j ≢ i
    entry_else j entry h same =
        let slot = slot_there fits p s r i near in
        let none : entry_in (slice_get r.world.slots j) ≡ None =
        ap (λ k. entry_in (slice_get r.world.slots k)) same
        ∙ (ap entry_in slot.1 ∙ no_entry slot.0 (owner slot.0 slot.1)) in
        let bad : None ≡ Some entry = sym none ∙ h in
        cc

    -- and no other client builds it
    owned_else : (j : ℕ) (u : View T) → j ≢ id → slice_get s.views j ≡ Some u → (k : ℕ)
        → owned_slot u.work.owned ≡ Some k → k ≢ i
    owned_else j u other there k owns same = by (is_seated u) refl
      where
        by : (b : Bool) → is_seated u ≡ b → ⊥
        by true sits =
            let slot = slot_there fits p s r i near in
            let theirs = owner_there fits p s r j i u there sits slot.0 (owns ∙ ap Some same)
            slot.1 in
            let mine = owner slot.0 slot.1 in
            let both : Some u.client ≡ Some v.client = sym theirs ∙ mine in
            let one : u.client ≡ v.client = cc in
            seated_else v.client u sits (unnamed p.tag r.world.clients r.books s.views id j v u
            r.seats at there seated other) one
        by false empty = none_of u.tag refl
          where
            none_of : (o : Option T) → u.tag ≡ o → ⊥
            none_of None is = let bad : None ≡ Some k =
                sym ((r.seats.each j u there).spent is).2 ∙ owns in cc
            none_of (Some t) is = let bad : true ≡ false = sym (ap is_some is) ∙ empty in cc

    inside : a < length s.words
    inside =
        let low = field_inside p.geometry.slots p.geometry.room i (DATA + length v.written) near
        (omega arith) in
        let wide : length s.words ≡ word_count p.geometry.slots p.geometry.room =
        r.coded.wide ∙ ap (λ n. word_count n p.geometry.room) (size_is fits p s r) in
        rw (field, wide) low

    short : AreShort p.geometry.room r.books
    short stamp made listed = made_short p.geometry.room stamp.client made
        (r.stamps.right stamp made listed).short

    draft : IsDraft p.geometry.room words new
    draft =
        let old = r.drafted id v at in
        let push = length-push v.written y in
        record {
          short = omega arith;
          lies = λ j owns.
              let both : Some j ≡ Some i = sym owns ∙ ap owned_slot builds in
              let same : j ≡ i = cc in
              rw same (lies_more s.words (field_at p.geometry.room i DATA) y v.written inside
              (old.lies i (ap owned_slot builds)));
        }

    client : slice_get r.world.clients v.client ≡ Some v.work
    client = client_is fits p s r id v at seated

    allowed : outcome_of r.world (events.Write v.client) ≡ Ok (replies.Ok, r.world)
    allowed = write_allowed r.world v.client i v.work (is_lawful r.world r.lawful) client
        (live_is fits p s r id v at seated) builds

    same : SameView v new
    same = record {
      tag = refl;
      client = refl;
      others = refl;
      records = refl;
      made = refl;
      takings = refl;
      gone = refl;
    }

    old_tags : IsTagged p.geometry.slots p.geometry.room s.words r.books s.views v
    old_tags = r.tags.each id v at

    -- the word that is written as a stamp is the next one
    next_word : (slot word : ℕ) → IsBuildingAs slot word new → IsNextStamp word new
    next_word slot word builds = elim (cases_eq (length v.written) STAMP) [
      | inl here ↦
          let last : slice_index (v.written ++ y ∷ []) STAMP ≡ y =
          ap (slice_index (v.written ++ y ∷ [])) (sym here) ∙ last_at v.written y in
          subst (λ w. IsNextStamp w new) (sym last ∙ builds.2) (stamp here)
      | inr other ↦
          let push = length-push v.written y in
          let low : STAMP < length v.written = let long = builds.1 in omega arith in
          old_tags.next slot word
          (builds.0, low, sym (front_at v.written y STAMP low) ∙ builds.2)
    ]

    -- no entry was shown under the next one
    unshown : IsNextStamp y v → WasShown r.books y → ⊥
    unshown next shown =
        let made = shown.1.0 in
        let right = r.stamps.right shown.0 made shown.1.1 in
        let same = word_apart v.client shown.0.client next.0 made.serial next.2 right.numbered
        (sym next.1 ∙ shown.1.2) in
        let book : book_of r.books shown.0.client ≡ v.made =
        ap (book_of r.books) (sym same.0)
        ∙ ap (λ o. unwrap_or o []) (book_is fits p s r id v at seated) in
        let less = below next.0 v.made shown.0.number made next.3
        (ap (λ l. slice_get l shown.0.number) (sym book) ∙ shown.1.1) in
        let is = same.1 in
        absurd (omega arith)

    stamp_word_of : (slot : ℕ)
        → (slice_index words (stamp_at p.geometry.room slot)
        ≡ slice_index s.words (stamp_at p.geometry.room slot))
        ⊎ (IsBuildingAs slot (slice_index words (stamp_at p.geometry.room slot)) new
        × (WasShown r.books (slice_index words (stamp_at p.geometry.room slot)) → ⊥))
    stamp_word_of slot = elim (cases_eq (stamp_at p.geometry.room slot) a) [
      | inl here ↦
          let one = fields_apart p.geometry.room slot i (DATA + STAMP) (DATA + length v.written)
          (omega arith) (omega arith)
          (sym (data_field p.geometry.room slot STAMP) ∙ here ∙ field) in
          let long : length v.written ≡ STAMP = let is = one.1 in omega arith in
          let found : slice_index words (stamp_at p.geometry.room slot) ≡ y =
          ap (slice_index words) here ∙ word_here s.words a y inside in
          let push = length-push v.written y in
          let more : STAMP < length (v.written ++ y ∷ []) = omega arith in
          let last : slice_index (v.written ++ y ∷ []) STAMP ≡ y =
          ap (slice_index (v.written ++ y ∷ [])) (sym long) ∙ last_at v.written y in
          rw found (inr (
            (builds ∙ ap owned.ForBuilding (sym one.0), more, last),
            unshown (stamp long),
          ))
      | inr other ↦ inl (word_else s.words a (stamp_at p.geometry.room slot) y other)
    ]

    tags : TagStep p.geometry.slots p.geometry.room s.words words r.books r.books s.views id v new
    tags = record {
      made = λ m n h. h;
      apart = r.tags.apart;
      kept = λ slot word kept.
          let push = length-push v.written y in
          inl (
            kept.0,
            (let low = kept.1 in omega arith),
            front_at v.written y STAMP kept.1 ∙ kept.2,
          );
      next = next_word;
      word = λ slot low. stamp_word_of slot;
      looked = old_tags.looked;
      glimpse = old_tags.glimpse;
    }

    pub write_holds : Holds fits p record { words = words; homes = s.homes; views = views }
    write_holds = record {
      world = r.world;
      books = r.books;
      setup = r.setup;
      lawful = follows_lawful r.world (events.Write v.client) (Ok replies.Ok) r.world r.lawful
          allowed;
      coded = coded_else p.geometry.room r.world.slots s.words a y r.coded
          (λ j low. not_field j META (omega arith));
      stored = stored_words p.geometry.room r.world.slots s.words r.books a y short
          (λ j entry there. elsewhere j (entry_else j entry there)) r.stored;
      drafted = drafted_set p.geometry.room s.words s.views id a y new draft
          (λ j u other there k owns. elsewhere k (owned_else j u other there k owns)) r.drafted;
      references = references_view r.world.slots s.views id v new r.references at same;
      holding = holding_view r.world.slots s.views id v new r.holding at same;
      seats = seats_still p.tag r.world.clients r.books s.views id v new r.seats at seated same
          refl;
      stamps =
          stamps_still fits p.tag p.geometry.room r.world.slots r.world.clients r.books s.views id v
          new
          r.stamps at client same refl;
      ledgers = record {
        usage = word_else s.words a _ y (not_ledger _) ∙ r.ledgers.usage;
        occupancy = word_else s.words a _ y (not_ledger _) ∙ r.ledgers.occupancy;
        standing = word_else s.words a _ y (not_ledger _) ∙ r.ledgers.standing;
        modest = r.ledgers.modest;
      };
      trails = record {
        passed = λ j low. word_else s.words a _ y (not_field j DISPLACEMENT (omega arith))
            ∙ r.trails.passed j low;
        entries = r.trails.entries;
      };
      turned = word_else s.words a _ y (not_ledger HAND) ∙ r.turned;
      turns = r.turns ∙ hand_kept s.views id v new at refl;
      tags = tags_step p.geometry.slots p.geometry.room s.words words r.books r.books s.views id v
          new at tags r.tags;
    }

  -- The store of the next data word keeps the rule.
  pub write_step : (count id i a y : ℕ) (me : Held T) → i < p.geometry.slots → is_seated me.0 ≡ true
      → me.0.work.owned ≡ owned.ForBuilding i → length me.0.written < PAYLOAD + p.geometry.room
      → (length me.0.written ≡ STAMP → IsNextStamp y me.0)
      → a ≡ field_at p.geometry.room i DATA + length me.0.written
      → Acts fits p count id me a (λ n. y) (λ n. writes (step count a y 0 none) me y)
  unfolding write_holds
  write_step count id i a y me near seated builds room_left stamp address s r homes at low = (
    after_write y me.0,
    keeps,
    tt,
    Some (did (events.Write me.0.client) replies.Ok),
    rw address (
      write_holds s r id i y me.0 at_view seated near builds room_left stamp,
      ((refl, refl), allowed s r id i y me.0 at_view seated near builds room_left stamp),
    ),
    (refl, refl, refl),
  )
    where
      at_view : slice_get s.views id ≡ Some me.0
      at_view = read_at s.views id me.0 at
