-- Once all clients are back, the words tell the slots of the last world, and the entries there are
-- what the clients made.
use Rattle.std.proofs.Common.{◌≡◌, ℕ, ◌+◌, ◌*◌, ◌/◌, ◌<◌, ◌≤◌, ◌==◌, true, false, List, [], Option, Some, None, length, slice_get, slice_index, sym, refl, ap, ◌∙◌, arith}
use Rattle.std.specs.Option.{unwrap_or}
use Rattle.std.specs.List.{range_with_len}
use Rattle.hcc_word.specs.Code.{code_of_empty}
use Rattle.hcc_word.specs.Word.{is_empty, is_shareable, refs_of, releases_of}
use Rattle.hcc_word.proofs.CodeLaws.{is_empty-empty, refs_of-shareable, releases_of-shareable}
use Rattle.hcc_core.specs.declared.limits.TheConstants.{MOST_USES, MOST_WEIGHT, OCCUPANCY_PERCENT}
use Rattle.hcc_core.specs.declared.client.Client.{Client}
use Rattle.hcc_core.specs.declared.slot.Reference.{Reference}
use Rattle.hcc_core.specs.declared.slot.Resident.{Resident}
use Rattle.hcc_core.specs.declared.setup.Setup.{Setup}
use Rattle.hcc_core.specs.declared.slot.Slot.{Slot}
use Rattle.hcc_core.specs.declared.slot.Slot.TheVariants as slots
use Rattle.hcc_core.specs.declared.slot.Stamp.{Stamp}
use Rattle.hcc_core.specs.Sums.{when, total}
use Rattle.hcc_core.specs.World.{taken_by_slot, charge_of, charged_to, occupied_by, standing_of, trail_of, times, is_shareable as slot_has_entry}
use Rattle.hcc_core.specs.Lawful.{Lawful, owned_by, owner_in}
use Rattle.hcc_core.proofs.SumLemmas.{total-nothing}
use Rattle.hcc_rule.specs.declared.key.Key.{Key}
use Rattle.hcc_rule.specs.declared.layout.TheConstants.{CHARGE, HAND}
use Rattle.hcc_rule.specs.declared.rule.Plan.{Plan}
use Rattle.hcc_rule.specs.declared.view.Gone.{Gone}
use Rattle.hcc_rule.specs.declared.view.Made.{Made}
use Rattle.hcc_rule.specs.declared.view.Other.{Other}
use Rattle.hcc_rule.specs.declared.view.View.{View}
use Rattle.hcc_rule.specs.Closing.{meta_at, data_at, key_at, has_entry, over_entries, list_by, IsBack, IsSettled, IsKept, IsWithin}
use Rattle.hcc_rule.specs.Probes.{trail_to}
use Rattle.hcc_rule.specs.Rule.{resting, entry_in, hand_at, IsNamed, IsSpent, IsStored, Holds, made_at, list_weighs, taken_weigh}
use Rattle.hcc_rule.specs.Views.{is_seated, held, Each}
use Rattle.hcc_rule.specs.Records.{weight_on}
use Rattle.hcc_rule.specs.Words.{ledger_at}
use Rattle.hcc_rule.proofs.Parts.Addresses.{data_field}
use Rattle.hcc_rule.proofs.Parts.Clients.{total-only}
use Rattle.hcc_rule.proofs.LastSeat.ClosingClients.{IsQuiet, made_of, lawful, client_count, slot_count, spent, known, book_known}
use Rattle.hcc_rule.proofs.LastSeat.ClosingSums.{total_range, total_both, one_at, given_by_client, books_range}
use Rattle.hcc_rule.proofs.Parts.Codes.{few_strays, is_near, tells_entry}
use Rattle.hcc_rule.proofs.Basics.Lists.{there, within, each_map}
use Rattle.hcc_rule.proofs.Limits.LedgerLimits.{places_limit, real_limit}
use Rattle.hcc_rule.proofs.Limits.MadeEntries.{charge_is, key_is, resident_at, stamp_at, stamp_told}
use Rattle.hcc_rule.proofs.Limits.MadeOnce.{standing_weighs}
use Rattle.hcc_rule.proofs.Parts.SlotSteps.{Shard}
use Rattle.hcc_rule.proofs.Parts.WorldParts.{book_there}

-- an empty slot's word is its strays
pub strays_are : (strays : ℕ) → code_of_empty strays ≡ strays
unfolding code_of_empty
strays_are strays = refl

module _ {T : Type 0} (fits : T → Key → List ℕ → Type 0) (p : Plan T) (s : Shard fits p)
    (r : Holds fits p s)
    (id : ℕ) (v : View T) (at : slice_get s.views id ≡ Some v) (seated : is_seated v ≡ true)
    (back : IsBack p.geometry.clients v) where
  -- the plan's sizes
  abbrev room : ℕ
  room = p.geometry.room

  abbrev size : ℕ
  size = p.geometry.slots

  -- The clients give nothing.

  -- nothing stands for a client
  quiet : (c : ℕ) (client : Client) → slice_get r.world.clients c ≡ Some client → IsQuiet client
  quiet c client is = (known fits p s r id v at seated back c client is).quiet

  -- so no sum over the clients gives anything
  pub no_clients : (f : Client → ℕ) → ((client : Client) → IsQuiet client → f client ≡ 0)
      → total f r.world.clients ≡ 0
  no_clients f none = total-nothing f r.world.clients
      (λ c client is. none client (quiet c client is))

  -- and no slot is owned
  pub unowned : (c k : ℕ) → owned_by (slice_get r.world.clients c) ≡ Some k → ⊥
  unowned c k owns = by (slice_get r.world.clients c) refl owns
    where
      by : (o : Option Client) → slice_get r.world.clients c ≡ o → owned_by o ≡ Some k → ⊥
      by None is h = cc
      by (Some client) is h = let bad : None ≡ Some k = sym (quiet c client is).owned ∙ h in cc

  pub world : Lawful r.world
  world = lawful fits p s r id v at seated back

  clients_are : length r.world.clients ≡ p.geometry.clients
  clients_are = client_count fits p s r id v at seated back

  pub slots_are : length r.world.slots ≡ size
  slots_are = slot_count fits p s r id v at seated back

  -- The other views give nothing.

  -- a sum over the views is what this view gives, where spent ones give nothing
  of_view : (f : View T → ℕ)
      → ((u : View T) → IsSpent u → f u ≡ 0)
      → total f s.views ≡ f v
  of_view f none =
      total-only f s.views id v at
      (λ j u other is. none u (spent fits p s r id v at seated back j u other is))

  -- A slot's word tells whether it has an entry.

  -- each number below the slots' is a slot's
  slot_at : (k : ℕ) → k < size → (slot : Slot) × (slice_get r.world.slots k ≡ Some slot)
  slot_at k near = there r.world.slots k (let all = slots_are in omega arith)

  -- the word tells it
  pub entry_told : (k : ℕ) (slot : Slot) → slice_get r.world.slots k ≡ Some slot
      → has_entry room s.words k ≡ slot_has_entry slot
  entry_told k slot is =
      ap is_shareable (r.coded.meta k slot is)
      ∙ tells_entry r.world world k slot is

  -- a sum over the slots is one over the entries
  over_slots : (f : Slot → ℕ) (g : ℕ → ℕ)
      → ((k : ℕ) (slot : Slot) → slice_get r.world.slots k ≡ Some slot
      → f slot ≡ when (slot_has_entry slot) (g k))
      → total f r.world.slots ≡ over_entries room s.words size g
  over_slots f g each =
      total_range f (λ k. when (has_entry room s.words k) (g k)) r.world.slots
      (λ k slot is. each k slot is ∙ ap (λ b. when b (g k)) (sym (entry_told k slot is)))
      ∙ ap (λ n. over_entries room s.words n g) slots_are

  -- what was shown is in the view's list of its maker
  listed_known : (stamp : Stamp) (made : Made) → made_at r.books stamp ≡ Some made
      → slice_get (list_by v stamp.client) stamp.number ≡ Some made
  listed_known stamp made is =
      let shown = book_there r.books stamp made is in
      let near = within r.books stamp.client shown.0 shown.1 in
      let sized = r.stamps.sized in
      let clients = clients_are in
      let book = book_known fits p s r id v at seated back stamp.client (omega arith) in
      ap (λ o. slice_get (unwrap_or o []) stamp.number) (sym book) ∙ is

  -- The data words of an entry.

  module _ (k : ℕ) (e : Resident) (is : slice_get r.world.slots k ≡ Some (slots.Shareable e)) where
    -- it stands there as its maker showed it
    pub stored : IsStored room s.words r.books k e.entry
    stored = r.stored k e.entry (ap entry_in is)

    -- its client's list has it
    pub listed : slice_get (list_by v e.entry.stamp.client) e.entry.stamp.number ≡ Some stored.made
    listed = listed_known e.entry.stamp stored.made stored.listed

  -- The sums.

  -- what a slot gives to the usage, to the occupancy, and to a displacement word
  charges_are : (k : ℕ) (slot : Slot) → slice_get r.world.slots k ≡ Some slot
      → charge_of slot ≡ when (slot_has_entry slot) (data_at room s.words k CHARGE)
  charges_are k (slots.Empty strays) is = refl
  charges_are k (slots.Building client strays) is = refl
  charges_are k (slots.Shareable e) is = sym (charge_is fits p s r k e.entry (ap entry_in is))

  one_each : (k : ℕ) (slot : Slot) → slice_get r.world.slots k ≡ Some slot
      → taken_by_slot slot ≡ when (slot_has_entry slot) 1
  one_each k (slots.Empty strays) is = refl
  one_each k (slots.Building client strays) is = refl
  one_each k (slots.Shareable e) is = refl

  trails_are : (j k : ℕ) (slot : Slot) → slice_get r.world.slots k ≡ Some slot
      → times j (trail_of slot) ≡ when (slot_has_entry slot)
      (times j (trail_to size (key_at room s.words k) k))
  trails_are j k (slots.Empty strays) is = refl
  trails_are j k (slots.Building client strays) is = refl
  trails_are j k (slots.Shareable e) is =
      ap (times j) (r.trails.entries k (slots.Shareable e) is)
      ∙ ap (λ key. times j (trail_to size key k)) (key_is fits p s r k e.entry (ap entry_in is))

  -- the sums over the words
  pub settled : IsSettled size room s.words
  settled = record {
    usage =
        let none = no_clients charged_to (λ client q. q.charged) in
        let sum = over_slots charge_of (λ k. data_at room s.words k CHARGE) charges_are in
        let word = r.ledgers.usage in
        omega arith;
    occupancy =
        let none = no_clients occupied_by (λ client q. q.occupied) in
        let sum = over_slots taken_by_slot (λ k. 1) one_each in
        let word = r.ledgers.occupancy in
        omega arith;
    standing = r.ledgers.standing ∙ no_clients standing_of (λ client q. q.standing);
    passed = λ j near.
        let none = no_clients (λ (c : Client). times j c.trail) (λ client q. rw q.trail refl) in
        let sum = over_slots (λ slot. times j (trail_of slot))
        (λ k. times j (trail_to size (key_at room s.words k) k)) (trails_are j) in
        let word = r.trails.passed j near in
        omega arith;
  }

  -- The entries.

  -- the entry is a member of the list that its stamp names
  pub kept : (k : ℕ) → k < size → has_entry room s.words k ≡ true
      → IsKept fits p.tag room s.words v k (stamp_at fits p s r k)
  kept k near has = let e = resident_at fits p s r k near has in by e.0 e.1
    where
      by : (e : Resident) → slice_get r.world.slots k ≡ Some (slots.Shareable e)
          → IsKept fits p.tag room s.words v k (stamp_at fits p s r k)
      by e is =
          let own = stored k e is in
          rw (stamp_told fits p s r k e is) record {
            made = own.made;
            listed = listed k e is;
            says = λ i near. ap (slice_index s.words) (sym (data_field room k i)) ∙ own.lies i near;
            right = r.stamps.right e.entry.stamp own.made own.listed;
          }

  -- its references are the view's records
  pub references : (k : ℕ) → k < size → has_entry room s.words k ≡ true
      → refs_of (meta_at room s.words k) ≡ weight_on k v.records
  references k near has = let e = resident_at fits p s r k near has in by e.0 e.1
    where
      weighs : Reference → ℕ
      weighs x = x.weight

      by : (e : Resident) → slice_get r.world.slots k ≡ Some (slots.Shareable e)
          → refs_of (meta_at room s.words k) ≡ weight_on k v.records
      by e is =
          ap refs_of (r.coded.meta k (slots.Shareable e) is)
          ∙ (refs_of-shareable e.hit e.shown (is_near r.world world k e is)
          ∙ (r.references k (slots.Shareable e) is weighs
          ∙ of_view (held k weighs) (λ u none. rw none.0 refl)))

  -- its uses are few
  pub uses : (k : ℕ) → k < size → has_entry room s.words k ≡ true
      → releases_of (meta_at room s.words k) ≤ MOST_USES
  uses k near has = let e = resident_at fits p s r k near has in by e.0 e.1
    where
      by : (e : Resident) → slice_get r.world.slots k ≡ Some (slots.Shareable e)
          → releases_of (meta_at room s.words k) ≤ MOST_USES
      by e is =
          let word = ap releases_of (r.coded.meta k (slots.Shareable e) is)
          ∙ releases_of-shareable e.hit e.shown (is_near r.world world k e is) in
          let few = (world.bounded k (slots.Shareable e) is).uses in
          omega arith

  -- The limits.

  -- the entries are within the limit of places
  pub places : over_entries room s.words size (λ k. 1) ≤ size * OCCUPANCY_PERCENT / 100
  places =
      let sum = over_slots taken_by_slot (λ k. 1) one_each in
      let most = places_limit fits p s r in
      omega arith

  -- and under strict their charges within the capacity
  pub within_capacity : IsWithin p.geometry p.capacity p.strict s.words
  within_capacity strict =
      let sum = over_slots charge_of (λ k. data_at room s.words k CHARGE) charges_are in
      let most = real_limit fits p s r strict in
      omega arith

  -- The other slots.

  -- what a slot without an entry has
  record IsClear (k : ℕ) : Type 0 where
    empty : is_empty (meta_at room s.words k) ≡ true
    few : meta_at room s.words k ≤ MOST_WEIGHT * p.geometry.clients

  -- it is empty: none is owned
  clear_slot : (k : ℕ) (slot : Slot) → slice_get r.world.slots k ≡ Some slot
      → has_entry room s.words k ≡ false → IsClear k
  clear_slot k (slots.Empty strays) is none =
      let few = few_strays r.world world k (slots.Empty strays) is in
      let word = r.coded.meta k (slots.Empty strays) is in
      let strayed = world.strayed k (slots.Empty strays) is in
      let setup : r.world.setup.clients ≡ p.geometry.clients =
      ap (λ (x : Setup). x.clients) r.setup in
      let are = strays_are strays in
      record {
        empty = ap is_empty word ∙ is_empty-empty strays (omega arith);
        few = omega arith;
      }
  clear_slot k (slots.Building client strays) is none =
      absurd (unowned client k (world.owners.owns k client (ap owner_in is)))
  clear_slot k (slots.Shareable e) is none =
      let bad : false ≡ true = sym none ∙ entry_told k (slots.Shareable e) is in
      cc

  pub clear : (k : ℕ) → k < size → has_entry room s.words k ≡ false
      → is_empty (meta_at room s.words k) ≡ true
  clear k near none = (clear_slot k (slot_at k near).0 (slot_at k near).1 none).empty

  pub strays : (k : ℕ) → k < size → has_entry room s.words k ≡ false
      → meta_at room s.words k ≤ MOST_WEIGHT * p.geometry.clients
  strays k near none = (clear_slot k (slot_at k near).0 (slot_at k near).1 none).few

  -- What was made.

  -- a list for each client
  books_are : length r.books ≡ p.geometry.clients
  books_are = r.stamps.sized ∙ clients_are

  -- it gives what the view's list of its client does
  made_in : (f : (client : ℕ) → List Made → ℕ) (c : ℕ) (b : List Made)
      → slice_get r.books c ≡ Some b → f c b ≡ made_of f v c
  made_in f c b is =
      let near = within r.books c b is in
      let sized = r.stamps.sized in
      let client = there r.world.clients c (omega arith) in
      let about = known fits p s r id v at seated back c client.0 client.1 in
      let both : Some b ≡ Some (list_by v c) = sym is ∙ about.book in
      let same : b ≡ list_by v c = cc in
      ap (f c) same ∙ about.made f

  -- the clients that the view names are those of the shard
  own_low : v.client < p.geometry.clients
  own_low =
      let near = within r.world.clients v.client v.work ((r.seats.each id v at).work seated) in
      let clients = clients_are in
      omega arith

  others_low : Each (λ (o : Other). o.client < p.geometry.clients) v.others
  others_low =
      each_map (IsNamed r.world.clients r.books) (λ (o : Other). o.client < p.geometry.clients) low
      v.others (r.seats.each id v at).others
    where
      low : (o : Other) → IsNamed r.world.clients r.books o → o.client < p.geometry.clients
      low o named =
          let near = within r.world.clients o.client (resting o.made o.dead) named.there in
          let clients = clients_are in
          omega arith

  -- what all lists give, summed over the view's lists
  all_made : (f : (client : ℕ) → List Made → ℕ)
      → total (made_of f v) (range_with_len 0 (length r.books))
      ≡ f v.client v.made + total (λ (o : Other). f o.client o.made) v.others
  all_made f =
      ap (λ n. total (made_of f v) (range_with_len 0 n)) books_are
      ∙ (total_both own others (range_with_len 0 p.geometry.clients)
      ∙ (let mine = one_at v.client (f v.client v.made) p.geometry.clients own_low in
      let theirs = given_by_client (λ (o : Other). f o.client o.made) p.geometry.clients v.others
      others_low in
      omega arith))
    where
      own : ℕ → ℕ
      own c = when (v.client == c) (f v.client v.made)

      others : ℕ → ℕ
      others c = total (λ (o : Other). when (o.client == c) (f o.client o.made)) v.others

  -- what is left of it
  pub left : over_entries room s.words size (λ k. 1) + v.takings
      ≡ length v.made + total (λ (o : Other). length o.made) v.others
  left =
      let sum = over_slots taken_by_slot (λ k. 1) one_each in
      let taken = of_view (λ (u : View T). u.takings) (λ u none. none.3) in
      let paid = r.stamps.left in
      let lists = total_range length (made_of (λ c l. length l) v) r.books
      (made_in (λ c l. length l)) in
      let made = all_made (λ c l. length l) in
      omega arith

  -- which stands in one slot or was taken once
  pub weighed : (h : Stamp → ℕ)
      → over_entries room s.words size (λ k. h (stamp_at fits p s r k)) + taken_weigh h v.gone
      ≡ list_weighs h v.client 0 v.made
      + total (λ (o : Other). list_weighs h o.client 0 o.made) v.others
  weighed h =
      let sum = standing_weighs fits p s r h in
      let taken = of_view (λ (u : View T). taken_weigh h u.gone)
      (λ u none. ap (taken_weigh h) none.5) in
      let paid = r.stamps.weighed h in
      let lists = books_range h (made_of (λ c l. list_weighs h c 0 l) v) r.books 0
      (λ i c b at is. made_in (λ c l. list_weighs h c 0 l) c b
      (ap (slice_get r.books) (let same : c ≡ i = omega arith in same) ∙ at)) in
      let made = all_made (λ c l. list_weighs h c 0 l) in
      omega arith

  -- what was taken is in the view's lists
  pub taken : Each (λ (g : Gone). slice_get (list_by v g.stamp.client) g.stamp.number ≡ Some g.made)
      v.gone
  taken = each_map (λ (g : Gone). made_at r.books g.stamp ≡ Some g.made)
      (λ (g : Gone). slice_get (list_by v g.stamp.client) g.stamp.number ≡ Some g.made)
      (λ g is. listed_known g.stamp g.made is) v.gone (r.stamps.given id v at).each

  -- The hand.

  -- it is where this view's turns left it
  pub hand : slice_index s.words (ledger_at size room HAND) ≡ hand_at v.turns
  hand = r.turned ∙ (r.turns ∙ ap hand_at (of_view (λ (u : View T). u.turns) (λ u none. none.4)))
