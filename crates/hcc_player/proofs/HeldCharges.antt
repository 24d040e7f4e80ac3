-- What is charged for a client's entries is at least what its registers hold, and as many entries
-- of the table are among them.
use Rattle.std.proofs.Common.{◌≡◌, ℕ, ◌<◌, ◌≤◌, ◌⊎◌, inl, inr, true, false, Bool, List, ◌++◌}
use Rattle.std.proofs.Common.{Option, Some, None, option_and_then, find, if◌then◌else◌, length}
use Rattle.std.proofs.Common.{map, refl, sym, ap, ◌∙◌, subst, arith}
use Rattle.std.specs.Prelude.{slice_get}
use Rattle.hcc_core.specs.declared.client.Standalone.{Standalone}
use Rattle.hcc_core.specs.declared.slot.Entry.{Entry}
use Rattle.hcc_core.specs.declared.slot.Slot.{Slot}
use Rattle.hcc_core.specs.Ledgers.{is_standing}
use Rattle.hcc_core.specs.Runs.{entry_held, entry_of, held_at}
use Rattle.hcc_core.specs.Sums.{total}
use Rattle.hcc_core.specs.World.{State as World, has_reference}
use Rattle.hcc_core.proofs.SumLemmas.{total-append}
use Rattle.hcc_rule.proofs.Basics.Lists.{there, within}
use Rattle.hcc_rule.specs.declared.key.Key.{Key}
use Rattle.hcc_rule.specs.declared.view.Record.{Record}
use Rattle.hcc_rule.specs.declared.view.View.{View}
use Rattle.hcc_rule.specs.Callers.{world_at}
use Rattle.hcc_rule.specs.Records.{different, record_in}
use Rattle.hcc_rule.specs.Views.{is_called}
use Rattle.hcc_shard.specs.declared.seat.ShardSeat.{ShardSeat}
use Rattle.hcc_shard.specs.Callers.{view_of}
use Rattle.hcc_cache.specs.declared.cache.Cache.{Cache}
use Rattle.hcc_cache.specs.declared.client.Client.{Client}
use Rattle.hcc_cache.specs.declared.config.Config.{Config}
use Rattle.hcc_cache.specs.declared.handle.Handle.{Handle}
use Rattle.hcc_cache.specs.declared.holding.Hold.{Hold}
use Rattle.hcc_cache.specs.declared.holding.Kept.{Kept}
use Rattle.hcc_cache.specs.declared.holding.Kept.TheVariants.{Pinned, Standing}
use Rattle.hcc_cache.specs.declared.seeded.Seeded.{Seeded}
use Rattle.hcc_cache.specs.Clients.{Held, held_alone, held_entry, held_of, hold_of}
use Rattle.hcc_cache.specs.Clients.{records_in, standalones_in, view_by}
use Rattle.hcc_cache.specs.Known.{IsKeptAs, Knows}
use Rattle.hcc_cache.specs.Totals.{LoadsEachUsage, SearchesAll, charge_at, charge_by, entries_at}
use Rattle.hcc_cache.specs.Totals.{entries_by}
use Rattle.hcc_player.specs.declared.run.registers.Filled.{Filled}
use Rattle.hcc_player.specs.Registers.{at, AreFilled, IsFilled}
use Rattle.hcc_player.specs.RunStates.{CoversEntries, CoversHeld, IsFull, State, charge_of}
use Rattle.hcc_player.proofs.HeldRecords.{Item, different_in, different_was, found_by_name, in_all}
use Rattle.hcc_player.proofs.HeldRecords.{items, total_items}
use Rattle.hcc_player.proofs.LeftLemmas.{total_mapped}
use Rattle.hcc_player.proofs.RegisterLemmas.{on_register, unheld}
use Rattle.hcc_player.proofs.StandingNames.{hold_there, stands_alone, stands_pinned}
use Rattle.hcc_player.proofs.SumsWithin.{Member, count_within, found_in, in_back, in_front}
use Rattle.hcc_player.proofs.SumsWithin.{in_map, sum_within, total_ones}

-- a larger sum covers it, too
pub covers_more : (s : State) (few many : ℕ) → few ≤ many → CoversHeld s few → CoversHeld s many
covers_more s few many less covers registers apart =
    let sum = covers registers apart in omega arith

pub entries_more : (s : State) (few many : ℕ) → few ≤ many → CoversEntries s few
    → CoversEntries s many
entries_more s few many less covers registers apart within =
    let count = covers registers apart within in omega arith

-- Records of one slot are on one entry.

-- found by their names
abbrev pub AgreesIn : List Record → Type 0
AgreesIn rs =
    (n m : ℕ) (r q : Record) → record_in n rs ≡ Some r → record_in m rs ≡ Some q
    → r.slot ≡ q.slot → r.entry ≡ q.entry

pub entry_by : (client name : ℕ) (slot : Slot) (e : Entry) → entry_held client name slot ≡ Some e
    → entry_of slot ≡ Some e
entry_by client name slot e held = by (has_reference client name slot) held
  where
    by : (b : Bool) → (if b then entry_of slot else None) ≡ Some e → entry_of slot ≡ Some e
    by true is = is
    by false is = cc

-- a slot of a world has one entry
entry_once : (world : World) (client n m slot : ℕ) (e f : Entry)
    → held_at world client n slot ≡ Some e → held_at world client m slot ≡ Some f → e ≡ f
entry_once world client n m slot e f first second = by (slice_get world.slots slot) first second
  where
    by : (o : Option Slot) → option_and_then (entry_held client n) o ≡ Some e
        → option_and_then (entry_held client m) o ≡ Some f → e ≡ f
    by None a b = cc
    by (Some x) a b =
        let same : Some e ≡ Some f = sym (entry_by client n x e a) ∙ entry_by client m x f b in cc

module _ {T : Type 0} where
  abbrev pub Agrees : Client T → Type 0
  Agrees client = (shard : ℕ) → AgreesIn (records_in client.seats.items shard)

  agrees_by : (client : Client T)
      → ((shard : ℕ) (seat : ShardSeat (Seeded T)) → slice_get client.seats.items shard ≡ Some seat
      → AgreesIn (view_of seat).records)
      → Agrees client
  agrees_by client each shard = by (slice_get client.seats.items shard) refl
    where
      by : (o : Option (ShardSeat (Seeded T))) → slice_get client.seats.items shard ≡ o
          → AgreesIn (view_by o).records
      by None at = λ n m r q here off same. cc
      by (Some seat) at = each shard seat at

  -- a load of a usage tells what stands in the world
  pub loads_agree : (cache : Cache T) (result : ℕ) (old new : Client T) → Knows cache old
      → Knows cache new → LoadsEachUsage cache result old new → Agrees old × Agrees new
  loads_agree cache result old new known later loads =
      (agrees_by old before, agrees_by new after)
    where
      alike : (shard : ℕ) (was is : ShardSeat (Seeded T)) → shard < length cache.shards.items
          → slice_get old.seats.items shard ≡ Some was → slice_get new.seats.items shard ≡ Some is
          → AgreesIn (view_of is).records × ((view_of is).records ≡ (view_of was).records)
      alike shard was is low here off =
          let counts = loads.loads.count in
          let found = there loads.counts shard (omega arith) in
          let at = loads.loads.each shard found.0 found.1 in
          let same_was : at.was ≡ was =
          (let both : Some at.was ≡ Some was = sym at.seat_was ∙ here in cc) in
          let same_is : at.is ≡ is =
          (let both : Some at.is ≡ Some is = sym at.seat_is ∙ off in cc) in
          let stand = at.did.4.0.stand in
          let world = world_at at.shard.table at.is.seat in
          let number = (view_of at.is).client in (
            subst (λ (x : ShardSeat (Seeded T)). AgreesIn (view_of x).records) same_is
                (λ n m r q first second slots.
                entry_once world number n m q.slot r.entry q.entry
                (subst (λ k. held_at world number n k ≡ Some r.entry) slots (stand n r first))
                (stand m q second)),
            ap (λ (x : ShardSeat (Seeded T)). (view_of x).records) (sym same_is)
                ∙ ap (λ (v : View (Seeded T)). v.records) at.did.1
                ∙ ap (λ (x : ShardSeat (Seeded T)). (view_of x).records) same_was,
          )

      before : (shard : ℕ) (seat : ShardSeat (Seeded T))
          → slice_get old.seats.items shard ≡ Some seat → AgreesIn (view_of seat).records
      before shard seat here =
          let low = within old.seats.items shard seat here in
          let count = known.seated.count in
          let counts = later.seated.count in
          let off = there new.seats.items shard (omega arith) in
          let told = alike shard seat off.0 (omega arith) here off.1 in
          subst AgreesIn told.1 told.0

      after : (shard : ℕ) (seat : ShardSeat (Seeded T))
          → slice_get new.seats.items shard ≡ Some seat → AgreesIn (view_of seat).records
      after shard seat off =
          let low = within new.seats.items shard seat off in
          let count = known.seated.count in
          let counts = later.seated.count in
          let here = there old.seats.items shard (omega arith) in
          (alike shard here.0 seat (omega arith) here.1 off).0

  -- a search leaves the records as they are
  pub searches_agree : (old new : Client T) → SearchesAll old new → Agrees old → Agrees new
  searches_agree old new searches agree shard =
      subst AgreesIn (sym (searches.all shard).records) (agree shard)

-- What is charged for a client, entry by entry.

abbrev table_item : (shard : ℕ) → Record → Item
table_item shard r =
    record { shard = shard; standing = false; number = r.slot; charge = r.entry.charge }

abbrev alone_item : (shard : ℕ) → Standalone → Item
alone_item shard x =
    record { shard = shard; standing = true; number = x.name; charge = x.charge }

abbrev item_charge : Item → ℕ
item_charge i = i.charge

abbrev tabled_at : {T : Type 0} → ℕ → ShardSeat T → List Item
tabled_at shard seat = map (table_item shard) (different (view_of seat).records)

abbrev charged_at : {T : Type 0} → ℕ → ShardSeat T → List Item
charged_at shard seat =
    map (alone_item shard) (view_of seat).work.standalones ++ tabled_at shard seat

charge_whole : {T : Type 0} (shard : ℕ) (seat : ShardSeat T)
    → total item_charge (charged_at shard seat) ≡ charge_at seat
charge_whole shard seat =
    let alone = (view_of seat).work.standalones in
    let rs = different (view_of seat).records in
    let both = total-append item_charge (map (alone_item shard) alone)
    (map (table_item shard) rs) in
    let first = total_mapped item_charge (alone_item shard) alone in
    let second = total_mapped item_charge (table_item shard) rs in
    omega arith

entries_whole : {T : Type 0} (shard : ℕ) (seat : ShardSeat T)
    → total (λ (i : Item). 1) (tabled_at shard seat) ≡ entries_at seat
entries_whole shard seat =
    let rs = different (view_of seat).records in
    total_mapped (λ (i : Item). 1) (table_item shard) rs ∙ total_ones rs

module _ {T : Type 0} (fits : T → Key → List ℕ → Type 0) (cache : Cache T) (config : Config)
    (s : State) (client : Client T) (handles : List Filled)
    (filled : AreFilled fits cache config s client handles) (agree : Agrees client) where
  abbrev seats : List (ShardSeat (Seeded T))
  seats = client.seats.items

  -- what is told of a register is what its handle stands for
  told_as : (r : ℕ) (h : Handle) (held : Held) → at handles r ≡ Some h
      → held_of cache client h ≡ Some held → s.registers r ≡ Some held.insertion
  told_as r h held full here =
      let on = on_register fits cache config s client handles r h full filled in
      let both : Some on.held ≡ Some held = sym on.here ∙ here in
      let same : on.held ≡ held = cc in
      on.inserted ∙ ap (λ (x : Held). Some x.insertion) same

  -- a register holds an entry of the table, or a standalone one
  abbrev OnTable : ℕ → Item → Type 0
  OnTable r i =
      (q : Record) × (n : ℕ) × (record_in n (records_in seats i.shard) ≡ Some q)
      × (s.registers r ≡ Some (held_entry cache.seed q.entry).insertion)
      × (i.standing ≡ false) × (i.number ≡ q.slot)

  abbrev OnAlone : ℕ → Item → Type 0
  OnAlone r i =
      (h : Handle) × (held : Held) × (at handles r ≡ Some h)
      × (held_of cache client h ≡ Some held) × (held.standing ≡ Some i.number)
      × (i.standing ≡ true)

  abbrev On : ℕ → Item → Type 0
  On r i = OnTable r i ⊎ OnAlone r i

  abbrev Same : ℕ → ℕ → Type 0
  Same r q = s.registers r ≡ s.registers q

  abbrev IsCharged : ℕ → Type 0
  IsCharged r =
      (charge_of (s.registers r) ≡ 0) ⊎ ((i : Item) × On r i × Member i (items charged_at 0 seats)
      × (charge_of (s.registers r) ≤ i.charge))

  -- on one entry there is one insertion
  one_tabled : (r q : ℕ) (i : Item) → OnTable r i → OnTable q i → Same r q
  one_tabled r q i a b =
      let same : a.0.entry ≡ b.0.entry =
      agree i.shard a.1 b.1 a.0 b.0 a.2 b.2 (sym a.5 ∙ b.5) in
      a.3 ∙ ap (λ (e : Entry). Some (held_entry cache.seed e).insertion) same ∙ sym b.3

  one : (r q : ℕ) (i : Item) → On r i → On q i → Same r q
  one r q i (inl a) (inl b) = one_tabled r q i a b
  one r q i (inl a) (inr b) = let no : false ≡ true = sym a.4 ∙ b.5 in cc
  one r q i (inr a) (inl b) = let no : false ≡ true = sym b.4 ∙ a.5 in cc
  one r q i (inr a) (inr b) =
      told_as r a.0 a.1 a.2 a.3
      ∙ ap Some (filled.alike r q a.0 b.0 a.1 b.1 i.number a.2 b.2 a.3 b.3 a.4 b.4)
      ∙ sym (told_as q b.0 b.1 b.2 b.3)

  -- what a register holds is one of the different entries of the table at its shard
  record IsTabled (r : ℕ) : Type 0 where
    shard : ℕ
    seat : ShardSeat (Seeded T)
    seat_is : slice_get seats shard ≡ Some seat
    first : Record
    among : Member first (different (view_of seat).records)
    on : OnTable r (table_item shard first)
    charge : charge_of (s.registers r) ≡ first.entry.charge

  pinned_tabled : (r : ℕ) (h : Handle) (hold : Hold) (slot : ℕ) (counting : Bool)
      → at handles r ≡ Some h → hold_of client h ≡ Some hold → hold.kept ≡ Pinned slot counting
      → IsTabled r
  pinned_tabled r h hold slot counting full here is =
      let held = filled.known.holds.each h.index hold
      (hold_there client.number h _ hold here) in
      let stands = subst (IsKeptAs cache.seed seats client.alone hold) is held.0.stands in
      let q = stands.handled in
      let seat = there seats hold.shard held.0.within in
      let rs = (view_of seat.0).records in
      let records : records_in seats hold.shard ≡ rs = ap (λ o. (view_by o).records) seat.1 in
      let found : record_in hold.serial rs ≡ Some q =
      subst (λ l. record_in hold.serial l ≡ Some q) records stands.there in
      let first = different_in rs q (found_in (is_called hold.serial) rs q found) in
      let named = found_by_name cache client filled.known hold.shard seat.0 seat.1 first.0
      (different_was rs first.0 first.1) in
      let same : first.0.entry ≡ q.entry =
      subst AgreesIn records (agree hold.shard) first.0.name hold.serial first.0 q named found
      first.2 in
      let stood : held_of cache client h ≡ Some (held_entry cache.seed q.entry) =
      stands_pinned cache client h hold slot counting q here is stands.there in
      let told = told_as r h (held_entry cache.seed q.entry) full stood in
      record {
        shard = hold.shard;
        seat = seat.0;
        seat_is = seat.1;
        first = first.0;
        among = first.1;
        on = (q, hold.serial, stands.there, told, refl, first.2);
        charge = ap charge_of told ∙ ap (λ (e : Entry). e.charge) (sym same);
      }

  kept_charged : (r : ℕ) (h : Handle) (hold : Hold) (kept : Kept) → at handles r ≡ Some h
      → hold_of client h ≡ Some hold → hold.kept ≡ kept → IsCharged r
  kept_charged r h hold (Pinned slot counting) full here is =
      let t = pinned_tabled r h hold slot counting full here is in
      let rs = (view_of t.seat).records in
      let charge = t.charge in
      inr (
        table_item t.shard t.first,
        inl t.on,
        in_all charged_at t.shard seats t.seat (table_item t.shard t.first) t.seat_is
            (in_back (table_item t.shard t.first)
            (map (alone_item t.shard) (view_of t.seat).work.standalones)
            (tabled_at t.shard t.seat)
            (in_map (table_item t.shard) t.first (different rs) t.among)),
        omega arith,
      )
  kept_charged r h hold (Standing index) full here is =
      let held = filled.known.holds.each h.index hold
      (hold_there client.number h _ hold here) in
      let stands = subst (IsKeptAs cache.seed seats client.alone hold) is held.0.stands in
      let a = stands.entry in
      let x : Standalone = record { name = a.name; charge = a.charge } in
      let seat = there seats hold.shard held.0.within in
      let alone : standalones_in seats hold.shard ≡ (view_of seat.0).work.standalones =
      ap (λ o. (view_by o).work.standalones) seat.1 in
      let found = subst (λ l. find (is_standing a.name) l ≡ Some x) alone stands.known in
      let stood : held_of cache client h ≡ Some (held_alone hold.key a) =
      stands_alone cache client h hold index a here is stands.there in
      let told = told_as r h (held_alone hold.key a) full stood in
      let charge = ap charge_of told in
      inr (
        alone_item hold.shard x,
        inr (h, held_alone hold.key a, full, stood, refl, refl),
        in_all charged_at hold.shard seats seat.0 (alone_item hold.shard x) seat.1
            (in_front (alone_item hold.shard x)
            (map (alone_item hold.shard) (view_of seat.0).work.standalones)
            (tabled_at hold.shard seat.0)
            (in_map (alone_item hold.shard) x (view_of seat.0).work.standalones
            (found_in (is_standing a.name) (view_of seat.0).work.standalones x found))),
        omega arith,
      )

  -- what the client keeps of a register's handle
  hold_at : (r : ℕ) (h : Handle) → at handles r ≡ Some h
      → (hold : Hold) × (hold_of client h ≡ Some hold)
  hold_at r h full = by (hold_of client h) refl
    where
      by : (o : Option Hold) → hold_of client h ≡ o
          → (hold : Hold) × (hold_of client h ≡ Some hold)
      by None free =
          let on = on_register fits cache config s client handles r h full filled in
          let none = unheld fits cache client h free in
          let no : None ≡ Some on.held = sym none ∙ on.here in cc
      by (Some hold) here = (hold, here)

  -- nothing is told of a register that holds nothing
  none_told : (r : ℕ) → at handles r ≡ None → s.registers r ≡ None
  none_told r empty =
      subst (IsFilled fits cache client (s.registers r)) empty (filled.each r)

  is_charged : (r : ℕ) → IsCharged r
  is_charged r = by (at handles r) refl
    where
      by : (o : Option Handle) → at handles r ≡ o → IsCharged r
      by None empty = inl (ap charge_of (none_told r empty))
      by (Some h) full =
          let kept = hold_at r h full in
          kept_charged r h kept.0 kept.0.kept full kept.1 refl

  -- all registers whose insertions differ are charged within what is charged for the client
  pub covers_held : CoversHeld s (charge_by client)
  covers_held registers apart =
      let sum = sum_within (λ r. charge_of (s.registers r)) item_charge On Same one registers
      (items charged_at 0 seats) (λ k r at. is_charged r) apart in
      let whole = total_items charged_at item_charge charge_at charge_whole 0 seats in
      omega arith

  -- a full register that isn't told to be on a standalone entry is on one of the table
  told_tabled : (r : ℕ) → IsFull s r → s.alone r ≡ false → IsTabled r
  told_tabled r full shared = by (at handles r) refl
    where
      by_kept : (h : Handle) (hold : Hold) (kept : Kept) → at handles r ≡ Some h
          → hold_of client h ≡ Some hold → hold.kept ≡ kept → IsTabled r
      by_kept h hold (Pinned slot counting) there here is =
          pinned_tabled r h hold slot counting there here is
      by_kept h hold (Standing index) there here is =
          let held = filled.known.holds.each h.index hold
          (hold_there client.number h _ hold here) in
          let stands = subst (IsKeptAs cache.seed seats client.alone hold) is held.0.stands in
          let stood : held_of cache client h ≡ Some (held_alone hold.key stands.entry) =
          stands_alone cache client h hold index stands.entry here is stands.there in
          let no : false ≡ true = sym shared ∙ filled.kinds r h _ there stood in cc

      by : (o : Option Handle) → at handles r ≡ o → IsTabled r
      by None empty = let no : false ≡ true = rw (none_told r empty) at full in cc
      by (Some h) there =
          let kept = hold_at r h there in
          by_kept h kept.0 kept.0.kept there kept.1 refl

  -- all registers on entries of the table whose insertions differ are on different entries
  pub covers_entries : CoversEntries s (entries_by client)
  covers_entries registers apart within =
      let few = count_within OnTable Same one_tabled registers (items tabled_at 0 seats)
      (λ k r at. let told = within k r at in in_table r (told_tabled r told.0 told.1)) apart in
      let ones = total_ones (items tabled_at 0 seats) in
      let whole = total_items tabled_at (λ (i : Item). 1) entries_at entries_whole 0 seats in
      omega arith
    where
      in_table : (r : ℕ) → IsTabled r
          → (i : Item) × OnTable r i × Member i (items tabled_at 0 seats)
      in_table r t = (
        table_item t.shard t.first,
        t.on,
        in_all tabled_at t.shard seats t.seat (table_item t.shard t.first) t.seat_is
            (in_map (table_item t.shard) t.first (different (view_of t.seat).records) t.among),
      )
