-- Each entry that stands is a member of its maker's list, which a view has.
use Rattle.std.proofs.Common.{◌≡◌, inl, inr, ℕ, suc, ◌+◌, ◌<◌, ◌==◌, Bool, true, false, List, [], ◌∷◌, Option, Some, None, find, is_some, length, slice_get, slice_index, sym, refl, ap, ◌∙◌, arith}
use Rattle.std.specs.Option.{unwrap_or}
use Rattle.std.proofs.lemmas.Bool.{cases_eq, eqb-true, lt-ltb}
use Rattle.hcc_word.specs.Word.{is_shareable}
use Rattle.hcc_core.specs.declared.slot.Entry.{Entry}
use Rattle.hcc_core.specs.declared.slot.Resident.{Resident}
use Rattle.hcc_core.specs.declared.slot.Slot.{Slot}
use Rattle.hcc_core.specs.declared.slot.Slot.TheVariants as slots
use Rattle.hcc_core.specs.declared.slot.Stamp.{Stamp}
use Rattle.hcc_core.specs.Lawful.{Lawful, stamp_in}
use Rattle.hcc_core.specs.Sums.{when, total}
use Rattle.hcc_core.specs.World.{is_shareable as slot_has_entry}
use Rattle.hcc_core.proofs.Opening.{is_lawful}
use Rattle.hcc_rule.specs.declared.key.Key.{Key}
use Rattle.hcc_rule.specs.declared.rule.Plan.{Plan}
use Rattle.hcc_rule.specs.declared.view.Made.{Made}
use Rattle.hcc_rule.specs.declared.view.Other.{Other}
use Rattle.hcc_rule.specs.declared.view.Record.{Record}
use Rattle.hcc_rule.specs.declared.view.View.{View}
use Rattle.hcc_rule.specs.declared.layout.TheConstants.{CHARGE, KEY0, KEY1}
use Rattle.hcc_rule.specs.Closing.{data_at, key_at, list_by}
use Rattle.hcc_rule.specs.Laws.{has_entry, IsMade, IsOfMade, AreOfMade, IsListed}
use Rattle.hcc_rule.specs.Rule.{entry_in, IsNamed, IsRecorded, IsSeated, IsStored, Holds, made_at}
use Rattle.hcc_rule.specs.Views.{is_seated, names}
use Rattle.hcc_rule.specs.Words.{entry_of, key_of, made_words}
use Rattle.hcc_rule.proofs.Basics.Findings.{find_each, find_passes, some_found}
use Rattle.hcc_rule.proofs.Basics.Lists.{each_map, within}
use Rattle.hcc_rule.proofs.Parts.Addresses.{data_field}
use Rattle.hcc_rule.proofs.Parts.Codes.{tells_entry}
use Rattle.hcc_rule.proofs.Parts.SlotSteps.{Shard}
use Rattle.hcc_rule.proofs.Parts.WorldParts.{book_there}
use Rattle.hcc_rule.proofs.References.Looks.{slot_there}

-- where a sum is 1, one member gives it
one_gives : {A : Type 0} (f : A → ℕ) (xs : List A) → total f xs ≡ 1
    → (j : ℕ) × (x : A) × (slice_get xs j ≡ Some x) × (f x ≡ 1)
one_gives f [] sum = absurd (omega arith)
one_gives f (x ∷ xs) sum = elim (cases_eq (f x) 0) [
  | inl none ↦ let rest = one_gives f xs (omega arith) in (suc rest.0, rest.1, rest.2, rest.3)
  | inr some ↦ (0, x, refl, omega arith)
]

module _ {T : Type 0} (fits : T → Key → List ℕ → Type 0) (p : Plan T) (s : Shard fits p)
    (r : Holds fits p s) where
  abbrev is_of : ℕ → Other → Bool
  is_of c o = o.client == c

  -- a client's list is that of a view that names it
  module _ (j c : ℕ) (u : View T) (at : slice_get s.views j ≡ Some u) (once : names c u ≡ 1) where
    seat : IsSeated p.tag r.world.clients r.books u
    seat = r.seats.each j u at

    -- the view stands for a client, since it names one
    seated : is_seated u ≡ true
    seated = by u.tag refl
      where
        by : (o : Option T) → u.tag ≡ o → is_seated u ≡ true
        by None is =
            let none : names c u ≡ 0 = rw (is, (seat.spent is).1) refl in absurd (omega arith)
        by (Some t) is = ap is_some is

    pub book_named : slice_get r.books c ≡ Some (list_by u c)
    book_named = by (u.client == c) refl
      where
        named : (o : Other) → find (is_of c) u.others ≡ Some o
            → IsNamed r.world.clients r.books o → (u.client == c) ≡ false
            → slice_get r.books c ≡ Some (list_by u c)
        named o found is_named is =
            let same : o.client ≡ c = eqb-true o.client c
            (find_passes (is_of c) u.others o found) in
            rw (is, found) (ap (slice_get r.books) (sym same) ∙ is_named.book)

        by : (b : Bool) → (u.client == c) ≡ b → slice_get r.books c ≡ Some (list_by u c)
        by true is =
            let same : u.client ≡ c = eqb-true u.client c is in
            rw is (ap (slice_get r.books) (sym same) ∙ seat.book seated)
        by false is =
            let self : names c u
            ≡ when false 1 + total (λ (o : Other). when (is_of c o) 1) u.others =
            rw (seated, is) refl in
            let found = some_found (is_of c) u.others (omega arith) in
            named found.0 found.1 (find_each (is_of c) (IsNamed r.world.clients r.books) u.others
            found.0 seat.others found.1) is

  -- a view of the state names each client
  maker_of : (c : ℕ) → c < length r.world.clients
      → (j : ℕ) × (u : View T) × (slice_get s.views j ≡ Some u) × (names c u ≡ 1)
  maker_of c near = one_gives (names c) s.views
      (r.seats.once c ∙ ap (λ b. when b 1) (lt-ltb c (length r.world.clients) near))

  -- what was shown is of a client
  shown_near : (stamp : Stamp) (made : Made) → made_at r.books stamp ≡ Some made
      → stamp.client < length r.world.clients
  shown_near stamp made listed =
      let book = book_there r.books stamp made listed in
      let near = within r.books stamp.client book.0 book.1 in
      let sized = r.stamps.sized in
      omega arith

  -- so it is in the list of a view that names its maker
  pub listed_by : (stamp : Stamp) (made : Made) → made_at r.books stamp ≡ Some made
      → IsListed s stamp made
  listed_by stamp made listed =
      let maker = maker_of stamp.client (shown_near stamp made listed) in
      let book = book_named maker.0 stamp.client maker.1 maker.2 maker.3 in
      record {
        number = maker.0;
        maker = maker.1;
        seen = maker.2;
        named = maker.3;
        listed = ap (λ o. slice_get (unwrap_or o []) stamp.number) (sym book) ∙ listed;
      }

  -- and what is in such a list was shown
  pub shown_by : (stamp : Stamp) (made : Made) → IsListed s stamp made
      → made_at r.books stamp ≡ Some made
  shown_by stamp made l =
      ap (λ o. slice_get (unwrap_or o []) stamp.number)
      (book_named l.number stamp.client l.maker l.seen l.named)
      ∙ l.listed

  module _ (slot : ℕ) (entry : Entry)
      (here : entry_in (slice_get r.world.slots slot) ≡ Some entry) where
    stored : IsStored p.geometry.room s.words r.books slot entry
    stored = r.stored slot entry here

    -- the five words before the payload are its maker's,
    data_is : (i : ℕ) → i < 5 → data_at p.geometry.room s.words slot i
        ≡ slice_index (made_words entry.stamp.client stored.made) i
    data_is i near = ap (slice_index s.words) (sym (data_field p.geometry.room slot i))
        ∙ stored.lies i (omega arith)

    -- so the charge is there,
    pub charge_is : data_at p.geometry.room s.words slot CHARGE ≡ entry.charge
    charge_is = data_is CHARGE (omega arith) ∙ ap (λ (x : Entry). x.charge) (sym stored.same)

    -- and the key
    pub key_is : key_of entry ≡ key_at p.geometry.room s.words slot
    key_is =
        let first : entry.key0 ≡ data_at p.geometry.room s.words slot KEY0 =
        ap (λ (x : Entry). x.key0) stored.same ∙ sym (data_is KEY0 (omega arith)) in
        let second : entry.key1 ≡ data_at p.geometry.room s.words slot KEY1 =
        ap (λ (x : Entry). x.key1) stored.same ∙ sym (data_is KEY1 (omega arith)) in
        rw (first, second) refl

    -- an entry's maker is a client
    pub maker_near : entry.stamp.client < length r.world.clients
    maker_near = shown_near entry.stamp stored.made stored.listed

    -- an entry that stands is what its maker made
    is_made : (m : IsMade fits p s slot entry.stamp) × (entry ≡ entry_of entry.stamp m.kept.made)
    is_made =
        let made = listed_by entry.stamp stored.made stored.listed in (
          record {
            number = made.number;
            maker = made.maker;
            seen = made.seen;
            named = made.named;
            kept = record {
              made = stored.made;
              listed = made.listed;
              says = λ i near. ap (slice_index s.words) (sym (data_field p.geometry.room slot i))
                  ∙ stored.lies i near;
              right = r.stamps.right entry.stamp stored.made stored.listed;
            };
          },
          stored.same,
        )

  -- the entry of each record is
  pub records_made : (number : ℕ) (v : View T) → slice_get s.views number ≡ Some v
      → AreOfMade fits p s v
  records_made number v at =
      each_map (IsRecorded r.world.slots) (IsOfMade fits p s) one v.records
      (r.holding number v at).recorded
    where
      one : (q : Record) → IsRecorded r.world.slots q → IsOfMade fits p s q
      one q recorded =
          let made = is_made q.slot q.entry recorded.there in
          record { made = made.0; same = made.1 }

  world : Lawful r.world
  world = is_lawful r.world r.lawful

  -- what stands in a slot whose word is an entry's
  pub resident_at : (k : ℕ) → k < p.geometry.slots → has_entry p s k ≡ true
      → (e : Resident) × (slice_get r.world.slots k ≡ Some (slots.Shareable e))
  resident_at k near has = let slot = slot_there fits p s r k near in by slot.0 slot.1
    where
      told : (slot : Slot) → slice_get r.world.slots k ≡ Some slot → true ≡ slot_has_entry slot
      told slot is = sym has ∙ (ap is_shareable (r.coded.meta k slot is)
          ∙ tells_entry r.world world k slot is)

      by : (slot : Slot) → slice_get r.world.slots k ≡ Some slot
          → (e : Resident) × (slice_get r.world.slots k ≡ Some (slots.Shareable e))
      by (slots.Empty strays) is = let bad : true ≡ false = told (slots.Empty strays) is in cc
      by (slots.Building client strays) is =
          let bad : true ≡ false = told (slots.Building client strays) is in cc
      by (slots.Shareable e) is = (e, is)

  -- the stamp of a slot's entry
  abbrev pub stamp_at : ℕ → Stamp
  stamp_at k = unwrap_or (stamp_in (slice_get r.world.slots k)) record { client = 0; number = 0 }

  pub stamp_told : (k : ℕ) (e : Resident) → slice_get r.world.slots k ≡ Some (slots.Shareable e)
      → stamp_at k ≡ e.entry.stamp
  stamp_told k e is = ap (λ o. unwrap_or (stamp_in o) record { client = 0; number = 0 }) is

  -- it is the world's,
  stamped : (k : ℕ) → k < p.geometry.slots → has_entry p s k ≡ true
      → stamp_in (slice_get r.world.slots k) ≡ Some (stamp_at k)
  stamped k near has =
      let e = resident_at k near has in
      ap stamp_in e.1 ∙ ap Some (sym (stamp_told k e.0 e.1))

  -- which has each stamp once
  pub apart : (i j : ℕ) → i < p.geometry.slots → j < p.geometry.slots
      → has_entry p s i ≡ true → has_entry p s j ≡ true → stamp_at i ≡ stamp_at j → i ≡ j
  apart i j near_i near_j has_i has_j same =
      world.stamped.apart i j (stamp_at i) (stamped i near_i has_i)
      (stamped j near_j has_j ∙ ap Some (sym same))

  -- so a slot with an entry has what was made under its stamp
  pub slot_made : (k : ℕ) → k < p.geometry.slots → has_entry p s k ≡ true
      → IsMade fits p s k (stamp_at k)
  slot_made k near has = let e = resident_at k near has in by e.0 e.1
    where
      by : (e : Resident) → slice_get r.world.slots k ≡ Some (slots.Shareable e)
          → IsMade fits p s k (stamp_at k)
      by e is = rw (stamp_told k e is) (is_made k e.entry (ap entry_in is)).0
