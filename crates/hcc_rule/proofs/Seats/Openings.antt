-- The words of a shard that begins with the entries of an image show a lawful world: that of these
-- entries, in which client 0 was started.
use Rattle.std.proofs.Common.{◌≡◌, ℕ, zero, suc, ◌+◌, ◌-◌, ◌*◌, ◌^◌, ◌<◌, ◌≤◌, inl, inr, ◌==◌, nat_lt, Bool, true, false, ◌≢◌, List, [], ◌∷◌, map, Option, Some, None, replicate, length, slice_get, slice_index, slice_set, sym, refl, ap, ◌∙◌, arith, ne_eqb}
use Rattle.std.proofs.lemmas.Bool.{false≢true, cases_eq, lt-ltb, false_from_ne_true, ltb-true}
use mathlib.Core.Logic.{dite}
use native.Mathlib.Decide.{dec_le, ℕ_discrete}
use Rattle.std.specs.Prelude.{if◌then◌else◌}
use Rattle.std.specs.List.{range_with_len}
use Rattle.std.specs.Option.{unwrap_or}
use Rattle.std.proofs.lemmas.List.{length-set, length-replicate}
use Rattle.std.proofs.lemmas.List.FromFn.{length-map-range_with_len}
use Rattle.atomic_table.specs.Table.{opening}
use Rattle.hcc_core.specs.declared.client.Client.{Client}
use Rattle.hcc_core.specs.declared.slot.Entry.{Entry}
use Rattle.hcc_core.specs.declared.slot.Stamp.{Stamp}
use Rattle.hcc_core.specs.declared.slot.Slot.{Slot}
use Rattle.hcc_core.specs.Sums.{when, total}
use Rattle.hcc_core.specs.World.{State, taken_by_slot, charge_of, charged_to, occupied_by, standing_of, strays_of, references_of, stamp_of, trail_of, times}
use Rattle.hcc_core.specs.References.{looks_at}
use Rattle.hcc_core.specs.Opening.{new_client, new_slot, CanOpen}
use Rattle.hcc_core.specs.Lawful.{IsLawful, IsBounded, Ledgers as Limited, owner_of, owner_in, owned_slot, owned_by, stamp_in, stamps_by, dead_by, is_in, taken_by, real_to}
use Rattle.hcc_core.proofs.ListLemmas.{read_here, read_other, replicate_is}
use Rattle.hcc_core.proofs.SumLemmas.{total-set, total-zero}
use Rattle.hcc_core.proofs.Opening.{lawful_is}
use Rattle.hcc_rule.specs.declared.image.ImageEntry.{ImageEntry}
use Rattle.hcc_rule.specs.declared.key.Key.{Key}
use Rattle.hcc_rule.specs.declared.rule.Plan.{Plan}
use Rattle.hcc_rule.specs.declared.view.Made.{Made}
use Rattle.hcc_rule.specs.declared.view.Other.{Other}
use Rattle.hcc_rule.specs.Images.{entries_in, made_of_entry, made_from, resident_of, slots_with, BeginsWith}
use Rattle.hcc_rule.specs.ImageLimits.{charges_of, IsImageEntry, IsImageFor}
use Rattle.hcc_rule.specs.Probes.{probe_slot, probe_slots, before, trail_to}
use Rattle.hcc_rule.specs.Views.{Each}
use Rattle.hcc_rule.specs.Rule.{slot_weighs, Books, book_of, made_at, entry_by, entry_in, setup_of, IsStored, IsDraft, IsHolding, IsNamed, IsRight, IsSeated, Seats, Stamps, Ledgers, Trails, IsTrailed, IsModest, Holds, AreApart, IsTagged, IsGiven}
use Rattle.hcc_rule.specs.Words.{entry_of}
use Rattle.hcc_rule.specs.Acts.{IsFront}
use Rattle.hcc_rule.specs.Logs.{HasHeard, HoldsLogged, first_logged}
use Rattle.hcc_rule.specs.Opening.{begun_world, started, unstarted, opening_view}
use Rattle.hcc_rule.specs.Seats.{moves_of}
use Rattle.hcc_rule.proofs.Basics.Bounds.{total-bound}
use Rattle.hcc_rule.proofs.Basics.Lists.{each_set, within}
use Rattle.hcc_rule.proofs.Parts.WorldParts.{books_weigh_set}
use Rattle.hcc_rule.proofs.Parts.ViewParts.{when_is}
use Rattle.hcc_rule.proofs.Seats.Histories.{front_all, trails_none}
use Rattle.hcc_rule.proofs.Images.Fillings.{each_get, made_length, made_get, made_only, filled_length, filled_each, filled_total, filled_weighs, books_weigh_none, read_with}
use Rattle.hcc_rule.proofs.Parts.Tags.{tagged_none}

-- a list of one member over and over has it at each place
pub replicate_at : {A : Type 0} (n i : ℕ) (x : A) → i < n → slice_get (replicate n x) i ≡ Some x
replicate_at zero i x h = absurd (omega arith)
replicate_at (suc n) zero x h = refl
replicate_at (suc n) (suc i) x h = replicate_at n i x (omega arith)

-- all words of a new table are 0
pub zero_at : (n a : ℕ) → slice_index (replicate n 0) a ≡ 0
zero_at zero a = refl
zero_at (suc n) zero = refl
zero_at (suc n) (suc a) = zero_at n a

-- a property of the members of a list of one view
only : {A : Type 0} (P : A → Type 0) (x : A) → P x → (j : ℕ) (y : A)
    → slice_get (x ∷ []) j ≡ Some y → P y
only P x h zero y e = let same : y ≡ x = cc in rw same h
only P x h (suc j) y e = cc

-- Counting the clients that a view names.

below : (c n : ℕ) → c < n → when (nat_lt c n) 1 ≡ 1
below c n h = ap (λ b. when b 1) (lt-ltb c n h)

above : (c n : ℕ) → n ≤ c → when (nat_lt c n) 1 ≡ 0
above c n h = ap (λ b. when b 1) (false_from_ne_true (nat_lt c n)
    (λ e. let less = ltb-true c n e in omega arith))

-- the numbers below the next number are those below this one, and this one
next_number : (c a : ℕ) → when (nat_lt c a) 1 + when (a == c) 1 ≡ when (nat_lt c (a + 1)) 1
next_number c a = dite (ℕ_discrete a c)
    (λ same. let x = above c a (omega arith) in let y = when_is a c same in let z =
    below c (a + 1) (omega arith) in omega arith)
    (λ other. dite (dec_le (c + 1) a)
    (λ less. let x = below c a (omega arith) in let y : when (a == c) 1 ≡ 0 =
    ap (λ b. when b 1) (ne_eqb a c other) in let z =
    below c (a + 1) (omega arith) in omega arith)
    (λ more. let x = above c a (omega arith) in let y : when (a == c) 1 ≡ 0 =
    ap (λ b. when b 1) (ne_eqb a c other) in let z =
    above c (a + 1) (omega arith) in omega arith))

-- each client from one number on is named once
count_range : (c a n : ℕ)
    → when (nat_lt c a) 1 + total (λ (o : Other). when (o.client == c) 1)
    (map unstarted (range_with_len a n))
    ≡ when (nat_lt c (a + n)) 1
count_range c a zero =
    let same : when (nat_lt c (a + 0)) 1 ≡ when (nat_lt c a) 1 =
    ap (λ k. when (nat_lt c k) 1) (let g : a + 0 ≡ a = omega arith in g) in
    omega arith
count_range c a (suc n) =
    let rest = count_range c (a + 1) n in
    let next = next_number c a in
    let same : when (nat_lt c (a + suc n)) 1 ≡ when (nat_lt c (a + 1 + n)) 1 =
    ap (λ k. when (nat_lt c k) 1) (let g : a + suc n ≡ a + 1 + n = omega arith in g) in
    omega arith

-- a trail is no longer than there are places
before_short : (n : ℕ) (xs : List ℕ) → length (before n xs) ≤ length xs
before_short n [] = omega arith
before_short n (x ∷ xs) = by (x == n) (before_short n xs)
  where
    by : (b : Bool) → length (before n xs) ≤ length xs
        → length (if b then [] else x ∷ before n xs) ≤ suc (length xs)
    by true rest = omega arith
    by false rest = omega arith

trail_short : (size : ℕ) (key : Key) (slot : ℕ) → length (trail_to size key slot) ≤ size
trail_short size key slot =
    let short = before_short slot (probe_slots size key) in
    let count : length (probe_slots size key) ≡ size =
    length-map-range_with_len (probe_slot size key) 0 size in
    omega arith

module _ {T : Type 0} (fits : T → Key → List ℕ → Type 0) (p : Plan T) (can : CanOpen (setup_of p))
    (image : IsImageFor fits p.tag p.geometry p.capacity p.strict (entries_in p.image)) where
  abbrev Clients : ℕ
  Clients = p.geometry.clients

  abbrev Size : ℕ
  Size = p.geometry.slots

  abbrev entries : List ImageEntry
  entries = entries_in p.image

  -- what client 0 made of them
  abbrev first_made : List Made
  first_made = made_from 0 entries

  abbrev first : Client
  first = started first_made []

  abbrev first_clients : List Client
  first_clients = slice_set (replicate Clients new_client) 0 first

  abbrev no_books : Books
  no_books = replicate Clients []

  abbrev first_books : Books
  first_books = slice_set no_books 0 first_made

  -- client 0 is one of those that were made
  some_there : slice_get (replicate Clients new_client) 0 ≡ Some new_client
  some_there = let some = can.some_client in replicate_at Clients 0 new_client (omega arith)

  no_book : slice_get no_books 0 ≡ Some []
  no_book = let some = can.some_client in replicate_at Clients 0 [] (omega arith)

  first_there : slice_get first_clients 0 ≡ Some first
  first_there = read_here (replicate Clients new_client) 0 new_client first some_there

  book_there : slice_get first_books 0 ≡ Some first_made
  book_there = read_here no_books 0 [] first_made no_book

  -- what holds of a client that did nothing, and of client 0, holds of each
  each_client : (P : ℕ → Client → Type 0) → ((c : ℕ) → P c new_client) → P 0 first
      → (c : ℕ) (client : Client) → slice_get first_clients c ≡ Some client → P c client
  each_client P new mine = each_set P (replicate Clients new_client) 0 first mine
      (λ c client other at. rw (replicate_is Clients c new_client client at) (new c))

  -- the others rest
  others_rest : (a n : ℕ) → 0 < a → a + n ≤ Clients
      → Each (IsNamed first_clients first_books) (map unstarted (range_with_len a n))
  others_rest a zero some few = tt
  others_rest a (suc n) some few = (
    record {
      there = read_other (replicate Clients new_client) 0 a first (λ e. omega arith)
          ∙ replicate_at Clients a new_client (omega arith);
      book = read_other no_books 0 a first_made (λ e. omega arith)
          ∙ replicate_at Clients a [] (omega arith);
    },
    others_rest (a + 1) n (omega arith) (omega arith),
  )

  first_seated : IsSeated p.tag first_clients first_books (opening_view p)
  first_seated =
      let some = can.some_client in
      record {
        tagged = refl;
        work = λ sits. first_there;
        live = λ sits. refl;
        book = λ sits. book_there;
        others = others_rest 1 (Clients - 1) (omega arith) (omega arith);
        spent = λ none. cc;
      }

  client_count : length first_clients ≡ Clients
  client_count = length-set (replicate Clients new_client) 0 first
      ∙ length-replicate Clients new_client

  first_seats : Seats p.tag first_clients first_books (opening_view p ∷ [])
  first_seats =
      let some = can.some_client in
      let size = client_count in
      record {
        each = only (IsSeated p.tag first_clients first_books) (opening_view p) first_seated;
        once = λ c.
            let all = count_range c 1 (Clients - 1) in
            let own = next_number c 0 in
            let none = above c 0 (omega arith) in
            let size_of : when (nat_lt c (length first_clients)) 1
            ≡ when (nat_lt c (1 + (Clients - 1))) 1 =
            ap (λ k. when (nat_lt c k) 1) (let g : length first_clients
            ≡ 1 + (Clients - 1) = omega arith in g) in
            omega arith;
        all =
            let count : length (map unstarted (range_with_len 1 (Clients - 1))) ≡ Clients - 1 =
            length-map-range_with_len unstarted 1 (Clients - 1) in
            omega arith;
      }

  abbrev first_slots : List Slot
  first_slots = slots_with Size entries

  -- the world of the entries, with client 0 started
  abbrev first_world : State
  first_world = begun_world p

  entry_is : (k : ℕ) (e : ImageEntry) → slice_get entries k ≡ Some e
      → IsImageEntry fits p.tag p.geometry.room e
  entry_is k e at = each_get (IsImageEntry fits p.tag p.geometry.room) entries k e image.each at

  -- what holds of an empty slot, and of each entry in its slot, holds of each slot
  each_slot : (P : ℕ → Slot → Type 0) → ((s : ℕ) → P s new_slot)
      → ((k : ℕ) (e : ImageEntry) → slice_get entries k ≡ Some e → P e.slot (resident_of Size k e))
      → (s : ℕ) (slot : Slot) → slice_get first_slots s ≡ Some slot → P s slot
  each_slot P empty mine = filled_each Size P 0 entries (replicate Size new_slot)
      (λ s slot at. rw (replicate_is Size s new_slot slot at) (empty s))
      (λ k e at. rw (let g : 0 + k ≡ k = omega arith in g) (mine k e at))

  -- a sum over its slots is that over the entries
  over_slots : (f : Slot → ℕ) (g : ImageEntry → ℕ) → f new_slot ≡ 0
      → ((m : ℕ) (e : ImageEntry) → f (resident_of Size m e) ≡ g e)
      → total f first_slots ≡ total g entries
  over_slots f g none mine =
      let sum = filled_total Size f g 0 0 entries (replicate Size new_slot) none mine image.rising
      (length-replicate Size new_slot) (λ s x low at. replicate_is Size s new_slot x at) in
      let zero_sum = total-zero f Size new_slot none in
      omega arith

  -- a sum over its clients, where a new one and the started one give nothing
  nothing_of : (f : Client → ℕ) → f new_client ≡ 0 → f first ≡ 0 → total f first_clients ≡ 0
  nothing_of f none_new none_started =
      let change = total-set f (replicate Clients new_client) 0 new_client first some_there in
      let none = total-zero f Clients new_client none_new in
      omega arith

  charges : total charge_of first_slots ≡ charges_of entries
  charges = over_slots charge_of (λ e. e.charge) refl (λ m e. refl)

  slots_taken : total taken_by_slot first_slots ≡ length entries
  slots_taken = over_slots taken_by_slot (λ e. 1) refl (λ m e. refl) ∙ ones entries
    where
      ones : (es : List ImageEntry) → total (λ (e : ImageEntry). 1) es ≡ length es
      ones [] = refl
      ones (e ∷ es) = let rest = ones es in omega arith

  charges_small : charges_of entries ≤ 2 ^ 32 * length entries
  charges_small = total-bound (λ (e : ImageEntry). e.charge) (2 ^ 32) entries
      (λ k e at. let small = (entry_is k e at).sized.small in omega arith)

  -- It is lawful.

  nobody_owns : (s c : ℕ) → owner_in (slice_get first_slots s) ≡ Some c → ⊥
  nobody_owns s c h =
      let found = read_with Size owner_of entries s c refl h in
      let none : owner_of found.0 ≡ None = ap owner_of found.1.same in
      let bad : None ≡ Some c = sym none ∙ found.2 in cc

  nothing_owned : (s c : ℕ) → owned_by (slice_get first_clients c) ≡ Some s → ⊥
  nothing_owned s c h = by (slice_get first_clients c) refl h
    where
      by : (o : Option Client) → slice_get first_clients c ≡ o → owned_by o ≡ Some s → ⊥
      by None at is = cc
      by (Some client) at is =
          let none : owned_slot client.owned ≡ None =
          each_client (λ c x. owned_slot x.owned ≡ None) (λ c. refl) refl c client at in
          let bad : None ≡ Some s = sym none ∙ is in cc

  nobody_dead : (c : ℕ) (m : Stamp) → is_in m (dead_by (slice_get first_clients c)) ≡ true → ⊥
  nobody_dead c m h = by (slice_get first_clients c) refl h
    where
      by : (o : Option Client) → slice_get first_clients c ≡ o → is_in m (dead_by o) ≡ true → ⊥
      by None at is = false≢true is
      by (Some client) at is =
          let none : client.dead ≡ [] =
          each_client (λ c x. x.dead ≡ []) (λ c. refl) refl c client at in
          false≢true (sym (ap (is_in m) none) ∙ is)

  -- the stamp of a slot's entry is client 0's, by the entry's number
  stamp_is : (s : ℕ) (m : Stamp) → stamp_in (slice_get first_slots s) ≡ Some m
      → (k : ℕ) × (e : ImageEntry) × (slice_get entries k ≡ Some e) × (e.slot ≡ s)
      × (m ≡ record { client = 0; number = k })
  stamp_is s m h =
      let found = read_with Size stamp_of entries s m refl h in
      let placed = found.1 in
      let is : Some m ≡ Some (record { client = 0; number = placed.number }) =
      sym found.2 ∙ ap stamp_of placed.same in
      (placed.number, placed.entry, placed.listed, placed.here, (cc))

  number_low : (s : ℕ) (m : Stamp) → stamp_in (slice_get first_slots s) ≡ Some m
      → m.number < stamps_by (slice_get first_clients m.client)
  number_low s m h =
      let of = stamp_is s m h in
      let low = within entries of.0 of.1 of.2 in
      let count = made_length 0 entries in
      let made : stamps_by (slice_get first_clients 0) ≡ length first_made =
      ap stamps_by first_there in
      rw of.4 (omega arith)

  stamps_apart : (s t : ℕ) (m : Stamp) → stamp_in (slice_get first_slots s) ≡ Some m
      → stamp_in (slice_get first_slots t) ≡ Some m → s ≡ t
  stamps_apart s t m h k =
      let a = stamp_is s m h in
      let b = stamp_is t m k in
      let same : a.0 ≡ b.0 = ap (λ (x : Stamp). x.number) (sym a.4 ∙ b.4) in
      let one : Some a.1 ≡ Some b.1 = sym a.2 ∙ (ap (slice_get entries) same ∙ b.2) in
      let is : a.1 ≡ b.1 = cc in
      sym a.3 ∙ (ap (λ (e : ImageEntry). e.slot) is ∙ b.3)

  first_limits : Limited first_world
  first_limits = record {
    usage =
        let sum = charges in
        let small = charges_small in
        let few = image.few in
        let slots = can.slots in
        let none = nothing_of charged_to refl refl in
        omega arith;
    real = λ strict.
        let sum = charges in
        let low = image.within strict in
        let none = nothing_of real_to refl refl in
        omega arith;
    places =
        let sum = slots_taken in
        let few = image.few in
        let none = nothing_of taken_by refl refl in
        omega arith;
  }

  pub first_lawful : IsLawful first_world
  first_lawful = lawful_is first_world record {
    sized = record {
      few_slots = can.slots;
      few_clients = can.clients;
      slot_count = filled_length Size 0 entries (replicate Size new_slot)
          ∙ length-replicate Size new_slot;
      client_count = client_count;
    };
    bounded = each_slot (λ s x. IsBounded (setup_of p) x)
        (λ s. record { references = omega arith; uses = omega arith })
        (λ k e at. let few = (entry_is k e at).sized.few in
        record { references = omega arith; uses = omega arith });
    strayed = λ s slot at.
        let none = nothing_of (λ (c : Client). when (looks_at c s) 1) refl refl in
        let no_strays = each_slot (λ s x. strays_of x ≡ 0) (λ s. refl) (λ k e at. refl) s slot at in
        omega arith;
    owners = record {
      owns = λ s c h. absurd (nobody_owns s c h);
      owned = λ s c h. absurd (nothing_owned s c h);
    };
    stamped = record { made = number_low; apart = stamps_apart };
    dead = record {
      made = λ c m h. absurd (nobody_dead c m h);
      unshown = λ c s m h shown. absurd (nobody_dead c m h);
    };
    trailed = record {
      entries = each_slot (λ s x. length (trail_of x) ≤ Size) (λ s. omega arith)
          (λ k e at. trail_short Size e.key e.slot);
      hands = each_client (λ c x. length x.trail ≤ Size) (λ c. omega arith) (omega arith);
    };
    ledgers = first_limits;
  }

  -- What client 0 made.

  book_is : (c : ℕ) → c ≢ 0 → book_of first_books c ≡ []
  book_is c other = by (slice_get first_books c) refl
    where
      by : (o : Option (List Made)) → slice_get first_books c ≡ o → unwrap_or o [] ≡ []
      by None at = refl
      by (Some book) at = replicate_is Clients c [] book
          (sym (read_other no_books 0 c first_made other) ∙ at)

  book_first : book_of first_books 0 ≡ first_made
  book_first = ap (λ o. unwrap_or o []) book_there

  -- each member of a list was made of an entry
  made_is : (stamp : Stamp) (made : Made) → made_at first_books stamp ≡ Some made
      → IsRight fits p.tag p.geometry.room made
  made_is stamp made listed = elim (cases_eq stamp.client 0) [
    | inl mine ↦
        let there : slice_get first_made stamp.number ≡ Some made =
        ap (λ b. slice_get b stamp.number) (sym (ap (book_of first_books) mine ∙ book_first))
        ∙ listed in
        let of = made_only 0 entries stamp.number made there in
        let right = entry_is stamp.number of.entry of.listed in
        let low = within entries stamp.number of.entry of.listed in
        let few = image.few in
        let slots = can.slots in
        rw of.same record {
          fitting = right.fitting;
          short = right.sized.short;
          bytes = right.bytes;
          numbered = omega arith;
          paid = right.sized.paid;
          small = right.sized.small;
        }
    | inr other ↦
        let bad : None ≡ Some made =
        ap (λ b. slice_get b stamp.number) (sym (book_is stamp.client other)) ∙ listed in cc
  ]

  -- and has its number as its serial
  first_apart : (c : ℕ) → AreApart (book_of first_books c)
  first_apart c n m a b at_n at_m same = elim (cases_eq c 0) [
    | inl mine ↦
        let book = ap (book_of first_books) mine ∙ book_first in
        let one = made_only 0 entries n a (ap (λ l. slice_get l n) (sym book) ∙ at_n) in
        let two = made_only 0 entries m b (ap (λ l. slice_get l m) (sym book) ∙ at_m) in
        let first = ap (λ (z : Made). z.serial) one.same in
        let second = ap (λ (z : Made). z.serial) two.same in
        omega arith
    | inr other ↦
        let bad : None ≡ Some a = ap (λ l. slice_get l n) (sym (book_is c other)) ∙ at_n in cc
  ]

  first_stamps : Stamps fits p.tag p.geometry.room first_slots first_clients first_books
      (opening_view p ∷ [])
  first_stamps = record {
    sized = length-set no_books 0 first_made ∙ (length-replicate Clients []
        ∙ sym client_count);
    counted = each_set (λ c client. client.stamps ≡ length (book_of first_books c))
        (replicate Clients new_client) 0 first
        (sym (ap length book_first))
        (λ c client other at. rw (replicate_is Clients c new_client client at)
        (sym (ap length (book_is c other))));
    right = made_is;
    left =
        let sum = slots_taken in
        let change = total-set length no_books 0 [] first_made no_book in
        let none : total length no_books ≡ 0 = total-zero length Clients [] refl in
        let count = made_length 0 entries in
        omega arith;
    weighed = λ h.
        let sum = filled_weighs Size h 0 0 entries (replicate Size new_slot) image.rising
        (length-replicate Size new_slot) (λ s x low at. replicate_is Size s new_slot x at) in
        let empty = total-zero (slot_weighs h) Size new_slot refl in
        let change = books_weigh_set h 0 no_books 0 0 [] first_made no_book (omega arith) in
        let none = books_weigh_none h 0 Clients in
        omega arith;
    given = only (IsGiven first_books) (opening_view p) record { count = refl; each = tt };
  }

  module _ (words : List ℕ) (begins : BeginsWith Size p.geometry.room entries words) where
    first_modest : (c : ℕ) (client : Client) → slice_get first_clients c ≡ Some client
        → IsModest client
    first_modest = each_client (λ c client. IsModest client)
        (λ c. record { asked = omega arith; freed = omega arith; few = omega arith; small = tt })
        record { asked = omega arith; freed = omega arith; few = omega arith; small = tt }

    first_ledgers : Ledgers Size p.geometry.room first_world words
    first_ledgers = record {
      usage = let none = nothing_of charged_to refl refl in let sum = charges in
          begins.usage ∙ omega arith;
      occupancy = let none = nothing_of occupied_by refl refl in let sum = slots_taken in
          begins.occupancy ∙ omega arith;
      standing = let none = nothing_of standing_of refl refl in begins.standing ∙ sym none;
      modest = first_modest;
    }

    first_trails : Trails Size p.geometry.room first_slots first_clients words
    first_trails = record {
      passed = λ s near.
          let none = nothing_of (λ (c : Client). times s c.trail) refl refl in
          let sum = over_slots (λ (z : Slot). times s (trail_of z))
          (λ e. times s (trail_to Size e.key e.slot)) refl (λ m e. refl) in
          begins.passed s near ∙ omega arith;
      entries = each_slot (IsTrailed Size) (λ s. tt) (λ k e at. refl);
    }

    -- an entry of the image is stored in its slot
    stored_at : (s k : ℕ) (e : ImageEntry) (entry : Entry) → slice_get entries k ≡ Some e
        → e.slot ≡ s → entry ≡ entry_of (record { client = 0; number = k }) (made_of_entry k e)
        → IsStored p.geometry.room words first_books s entry
    stored_at s k e entry listed here same =
        rw (same, ← here) record {
          made = made_of_entry k e;
          listed = ap (λ b. slice_get b k) book_first ∙ (made_get 0 entries k e listed
              ∙ ap (λ m. Some (made_of_entry m e)) (let g : 0 + k ≡ k = omega arith in g));
          same = refl;
          lies = begins.entries k e listed;
        }

    first_stored : (s : ℕ) (entry : Entry) → entry_in (slice_get first_slots s) ≡ Some entry
        → IsStored p.geometry.room words first_books s entry
    first_stored s entry h =
        let found = read_with Size entry_by entries s entry refl h in
        let placed = found.1 in
        let is : Some entry
        ≡ Some (entry_of (record { client = 0; number = placed.number })
        (made_of_entry placed.number placed.entry)) =
        sym found.2 ∙ ap entry_by placed.same in
        stored_at s placed.number placed.entry entry placed.listed placed.here (cc)

    -- These words show it.
    opens_rule : Holds fits p (opening words [] (opening_view p))
    opens_rule = record {
      world = first_world;
      books = first_books;
      setup = refl;
      lawful = first_lawful;
      coded = begins.coded;
      stored = first_stored;
      drafted = only (IsDraft p.geometry.room words) (opening_view p) record
          { short = omega arith; lies = λ s owns. cc };
      references = λ s slot at h.
          ap (total h) (each_slot (λ s x. references_of x ≡ []) (λ s. refl) (λ k e at. refl) s slot
          at);
      holding = only (IsHolding first_slots) (opening_view p) record
          { recorded = tt; once = λ name. omega arith; few = omega arith };
      seats = first_seats;
      stamps = first_stamps;
      ledgers = first_ledgers;
      trails = first_trails;
      turned = begins.hand;
      turns = refl;
      tags = record {
        apart = first_apart;
        each = only (IsTagged Size p.geometry.room words first_books (opening_view p ∷ []))
            (opening_view p)
            (tagged_none Size p.geometry.room words first_books (opening_view p ∷ [])
            (opening_view p) refl refl refl);
      };
    }

    -- So a shard may begin with them: no step was made.
    pub opens_logged : HoldsLogged fits p (opening words [] (first_logged p))
    unfolding opens_rule
    opens_logged = record {
      rule = opens_rule;
      begins = λ none. begins;
      spent = only (λ l. l.known.tag ≡ None → moves_of l ≡ 0) (first_logged p) (λ none. refl);
      history = [];
      run = refl;
      trails = trails_none p opens_rule.trails.entries;
      fronts = only (IsFront p.geometry.clients []) (first_logged p)
          (front_all p.geometry.clients [] (first_logged p) refl);
      known = record {
        number = 0;
        seat = first_logged p;
        there = refl;
        later = [];
        is = refl;
        still = tt;
      };
      heard = only (HasHeard []) (first_logged p) ([], refl);
    }
