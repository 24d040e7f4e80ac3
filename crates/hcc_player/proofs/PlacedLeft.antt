-- What is left of a cache are entries that lines placed, of no line twice.
use Rattle.std.proofs.Common.{◌≡◌, ℕ, ◌<◌, true, List, Option, Some, None, length}
use Rattle.std.proofs.Common.{refl, sym, ap, ◌∙◌, subst, arith}
use Rattle.std.specs.Prelude.{slice_get}
use Rattle.std.specs.List.{range_with_len}
use Rattle.std.specs.declared.alloc.Global.{Global}
use Rattle.hcc_core.specs.Sums.{total}
use Rattle.hcc_core.specs.declared.slot.Stamp.{Stamp}
use Rattle.hcc_rule.proofs.LastSeat.ClosingSums.{total_range}
use Rattle.hcc_rule.specs.declared.key.Key.{Key}
use Rattle.hcc_rule.specs.declared.layout.TheConstants.{CHARGE}
use Rattle.hcc_rule.specs.Closing.{data_at, has_entry, over_entries, words_of}
use Rattle.hcc_shard.specs.declared.entries.ClosedShard.{ClosedShard}
use Rattle.hcc_shard.specs.Left.{charges_left, slots_left}
use Rattle.hcc_cache.specs.declared.cache.Cache.{Cache}
use Rattle.hcc_cache.specs.declared.client.Client.{Client}
use Rattle.hcc_cache.specs.declared.closed.Closed.{Closed}
use Rattle.hcc_cache.specs.Calls.{shard_in}
use Rattle.hcc_cache.specs.Clients.{Insertion}
use Rattle.hcc_cache.specs.Closings.{IsClosed}
use Rattle.hcc_cache.specs.Left.{given, over_shards}
use Rattle.hcc_player.specs.declared.run.answer.Answer.{Answer}
use Rattle.hcc_player.specs.declared.run.call.RunLine.{RunLine}
use Rattle.hcc_player.specs.declared.sums.Sums.{Sums}
use Rattle.hcc_player.specs.Runs.{LeavesPlaced, placed_at}
use Rattle.hcc_player.specs.RunStates.{charge_of}
use Rattle.hcc_player.specs.Work.{AllWith}
use Rattle.hcc_player.proofs.Gathering.{Gathers, Part, apart_at, gathers, joins}
use Rattle.hcc_player.proofs.MadeLemmas.{made_in}
use Rattle.hcc_player.proofs.PlacedLemmas.{IsChargedAs, Placed, member, member_once}
use Rattle.hcc_player.proofs.PlacedLemmas.{placed_of_made, placed_on}

-- the stamp of these numbers
abbrev stamp_from : ℕ → ℕ → Stamp
stamp_from client number = record { client = client; number = number }

-- what a client of this number made at a shard are the entries that its lines placed there
pub record FromLines {T : Type 0} (cache : Cache T) (lines : List RunLine) (told : List Answer)
    (k s : ℕ) (client : Client T) : Type 0 where
  pub charges : AllWith IsChargedAs (made_in s client) (placed_on cache k s 0 lines told)
  pub number : client.number ≡ k

-- What a play leaves, by the lines that placed it.
module _ {T : Type 0} (fits : T → Key → List ℕ → Type 0) (cache : Cache T)
    (lines : List RunLine) (told : List Answer) (clients : List (Client T)) (closed : Closed)
    (from_lines : (k s : ℕ) (client : Client T) → s < length cache.shards.items
    → slice_get clients k ≡ Some client → FromLines cache lines told k s client)
    (closes : IsClosed fits cache clients closed) where
  -- a line at a place placed this insertion
  abbrev PlacedHere : ℕ → Insertion → Type 0
  PlacedHere place i = placed_at lines told place ≡ Some i

  -- The entry of a slot is that of the line at a place.
  record IsOf (s : ℕ) (stamp : Stamp) (place : ℕ) : Type 0 where
    p : Placed
    at : slice_get (placed_on cache stamp.client s 0 lines told) stamp.number ≡ Some p
    place_is : p.place ≡ place

  here : (s : ℕ) (stamp : Stamp) (place : ℕ) (o : IsOf s stamp place)
      → PlacedHere place o.p.insertion
  here s stamp place o =
      let m = member cache stamp.client s 0 lines told stamp.number o.p o.at in
      let e = m.place in
      let is = o.place_is in
      let same : place ≡ m.k = omega arith in
      rw same (rw (m.here, m.said) m.placed)

  -- so its maker and its shard are the line's
  shard_once : (s t : ℕ) (a b : Stamp) (place : ℕ) → IsOf s a place → IsOf t b place → s ≡ t
  shard_once s t a b place o q =
      let m = member cache a.client s 0 lines told a.number o.p o.at in
      let n = member cache b.client t 0 lines told b.number q.p q.at in
      let same : Some o.p.insertion ≡ Some q.p.insertion =
      sym (here s a place o) ∙ here t b place q in
      let is : o.p.insertion ≡ q.p.insertion = cc in
      sym m.shard_is ∙ ap (λ (i : Insertion). shard_in cache i.key) is ∙ n.shard_is

  stamp_once : (s : ℕ) (a b : Stamp) (place : ℕ) → IsOf s a place → IsOf s b place → a ≡ b
  stamp_once s a b place o q =
      let m = member cache a.client s 0 lines told a.number o.p o.at in
      let n = member cache b.client s 0 lines told b.number q.p q.at in
      let om = m.place in
      let on = n.place in
      let is = o.place_is in
      let its = q.place_is in
      let k : m.k ≡ n.k = omega arith in
      let line : Some m.line ≡ Some n.line = sym m.here ∙ ap (slice_get lines) k ∙ n.here in
      let same : m.line ≡ n.line = cc in
      let client : a.client ≡ b.client =
      sym m.client_is ∙ ap (λ (l : RunLine). l.client) same ∙ n.client_is in
      let number : a.number ≡ b.number =
      member_once cache a.client s 0 lines told a.number b.number o.p q.p o.at (rw client q.at)
      (o.place_is ∙ sym q.place_is) in
      ap (λ n. stamp_from n a.number) client ∙ ap (stamp_from b.client) number

  -- the charge of the line at a place
  abbrev weighs : ℕ → ℕ
  weighs place = charge_of (placed_at lines told place)

  module _ (s : ℕ) (left : ClosedShard Global) (within : s < length cache.shards.items)
      (at : slice_get closed.shards.items s ≡ Some (Some left)) where
    abbrev room : ℕ
    room = cache.geometry.room

    abbrev slots : ℕ
    slots = cache.geometry.slots

    abbrev words : List ℕ
    words = words_of left.table

    -- the slot has the entry of the line at this place
    record Has (slot place : ℕ) : Type 0 where
      low : slot < slots
      full : has_entry room words slot ≡ true
      of : IsOf s ((closes.closes s left at).stamp_at slot) place

    has_once : (a b place : ℕ) → Has a place → Has b place → a ≡ b
    has_once a b place o q =
        (closes.closes s left at).apart a b o.low q.low o.full q.full
        (stamp_once s _ _ place o.of q.of)

    entry_of : (slot : ℕ) → slot < slots → has_entry room words slot ≡ true
        → (place : ℕ) × Has slot place × (weighs place ≡ data_at room words slot CHARGE)
    entry_of slot low full =
        let shard = closes.closes s left at in
        let stamp = shard.stamp_at slot in
        let kept_is = shard.kept slot low full in
        let maker = closes.members s stamp kept_is.made within kept_is.listed in
        let from = from_lines maker.index s maker.client within maker.there in
        let client : maker.index ≡ stamp.client = sym from.number ∙ maker.number in
        let placed = placed_of_made (made_in s maker.client)
        (placed_on cache maker.index s 0 lines told) stamp.number kept_is.made from.charges
        maker.listed in
        let of : IsOf s stamp placed.0.place = record {
          p = placed.0;
          at = subst (λ k. slice_get (placed_on cache k s 0 lines told) stamp.number
              ≡ Some placed.0) client placed.1;
          place_is = refl;
        } in
        let charge : data_at room words slot CHARGE ≡ kept_is.made.charge =
        kept_is.says CHARGE (omega arith) in
        let weight : weighs placed.0.place ≡ placed.0.insertion.charge =
        ap charge_of (here s stamp placed.0.place of) in (
          placed.0.place,
          record { low = low; full = full; of = of },
          weight ∙ sym placed.2 ∙ sym charge,
        )

    gathered : Gathers (has_entry room words) (λ slot. data_at room words slot CHARGE) weighs Has
        has_once 0 slots
    gathered =
        gathers (has_entry room words) (λ slot. data_at room words slot CHARGE) weighs Has has_once
        0 slots (λ slot low high full. entry_of slot (omega arith) full)

  -- what a shard has left, by its number
  slots_of : Option (Option (ClosedShard Global)) → ℕ
  slots_of None = 0
  slots_of (Some one) = given (λ left. slots_left left.table) one

  charges_of : Option (Option (ClosedShard Global)) → ℕ
  charges_of None = 0
  charges_of (Some one) = given (λ left. charges_left left.table) one

  abbrev slots_at : ℕ → ℕ
  slots_at s = slots_of (slice_get closed.shards.items s)

  abbrev charges_at : ℕ → ℕ
  charges_at s = charges_of (slice_get closed.shards.items s)

  abbrev PlacedIn : ℕ → ℕ → Type 0
  PlacedIn s place = (stamp : Stamp) × IsOf s stamp place

  in_once : (s t place : ℕ) → PlacedIn s place → PlacedIn t place → s ≡ t
  in_once s t place o q = shard_once s t o.0 q.0 place o.1 q.1

  part_of : (s : ℕ) → s < length cache.shards.items
      → Part slots_at charges_at weighs PlacedIn in_once s
  unfolding slots_of charges_of
  part_of s within =
      let full = closes.full s within in
      let left = full.0 in
      let size = closes.size s left full.1 in
      let g = gathered s left within full.1 in
      let slots_is : slots_at s ≡ slots_left left.table = ap slots_of full.1 in
      let charges_is : charges_at s ≡ charges_left left.table = ap charges_of full.1 in
      let some : slots_left left.table
      ≡ over_entries cache.geometry.room (words_of left.table) cache.geometry.slots (λ k. 1) =
      ap (λ z. over_entries z.room (words_of left.table) z.slots (λ k. 1)) size in
      let sum : charges_left left.table
      ≡ over_entries cache.geometry.room (words_of left.table) cache.geometry.slots
      (λ k. data_at cache.geometry.room (words_of left.table) k CHARGE) =
      ap (λ z. over_entries z.room (words_of left.table) z.slots
      (λ k. data_at z.room (words_of left.table) k CHARGE)) size in
      record {
        members = g.members;
        count = slots_is ∙ some ∙ g.count;
        sum = charges_is ∙ sum ∙ g.sum;
        of = λ k p at. let o = g.of k p at in (_, o.2.of);
        all_apart = g.all_apart;
      }

  -- What is left are entries that lines placed.
  pub left_placed : (sums : Sums)
      → sums.slots ≡ over_shards closed.shards.items (λ left. slots_left left.table)
      → sums.charges ≡ over_shards closed.shards.items (λ left. charges_left left.table)
      → LeavesPlaced lines told sums
  unfolding slots_of charges_of
  left_placed sums slots_are charges_are =
      let count = length cache.shards.items in
      let all = joins slots_at charges_at weighs PlacedIn in_once 0 count
      (λ s low high. part_of s (omega arith)) in
      let slots_sum : over_shards closed.shards.items (λ left. slots_left left.table)
      ≡ total slots_at (range_with_len 0 count) =
      total_range (given (λ left. slots_left left.table)) slots_at closed.shards.items
      (λ s one at. ap slots_of (sym at))
      ∙ ap (λ n. total slots_at (range_with_len 0 n)) closes.count in
      let charges_sum : over_shards closed.shards.items (λ left. charges_left left.table)
      ≡ total charges_at (range_with_len 0 count) =
      total_range (given (λ left. charges_left left.table)) charges_at closed.shards.items
      (λ s one at. ap charges_of (sym at))
      ∙ ap (λ n. total charges_at (range_with_len 0 n)) closes.count in
      record {
        places = all.members;
        placed = λ k place at.
            let o = all.of k place at in
            rw (here o.0 o.2.0 place o.2.1) refl;
        apart = λ j k place at on. apart_at all.members all.all_apart j k place at on;
        slots = slots_are ∙ slots_sum ∙ all.count;
        charges = charges_are ∙ charges_sum ∙ all.sum;
      }
