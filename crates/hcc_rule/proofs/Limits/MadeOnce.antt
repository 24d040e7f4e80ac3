-- What was shown stands in one slot, or one view took it, once.
use Rattle.std.proofs.Common.{◌≡◌, ◌≢◌, ℕ, zero, suc, ◌+◌, ◌<◌, ◌==◌, ◌&&◌, Bool, true, false, List, [], ◌∷◌, Option, Some, None, slice_get, sym, refl, ap, ◌∙◌, arith, ne_eqb}
use Rattle.std.proofs.lemmas.Bool.{eq-eqb}
use Rattle.hcc_word.specs.Word.{is_shareable}
use Rattle.hcc_core.specs.declared.slot.Slot.{Slot}
use Rattle.hcc_core.specs.declared.slot.Slot.TheVariants as slots
use Rattle.hcc_core.specs.declared.slot.Stamp.{Stamp}
use Rattle.hcc_core.specs.Sums.{when, total}
use Rattle.hcc_core.specs.World.{is_shareable as slot_has_entry}
use Rattle.hcc_core.proofs.Opening.{is_lawful}
use Rattle.hcc_core.proofs.SumLemmas.{total-member}
use Rattle.hcc_rule.specs.declared.key.Key.{Key}
use Rattle.hcc_rule.specs.declared.rule.Plan.{Plan}
use Rattle.hcc_rule.specs.declared.view.Gone.{Gone}
use Rattle.hcc_rule.specs.declared.view.Made.{Made}
use Rattle.hcc_rule.specs.declared.view.Record.{Record}
use Rattle.hcc_rule.specs.declared.view.View.{View}
use Rattle.hcc_rule.specs.Closing.{over_entries}
use Rattle.hcc_rule.specs.Laws.{has_entry, one_of, times_taken, AreMade, IsListed, AreTaken, HoldsNothingTaken}
use Rattle.hcc_rule.specs.Rule.{Books, books_weigh, entry_in, list_weighs, made_at, slot_weighs, IsRecorded, Holds}
use Rattle.hcc_rule.proofs.Basics.Lists.{each_map}
use Rattle.hcc_rule.proofs.LastSeat.ClosingSums.{total_range}
use Rattle.hcc_rule.proofs.Limits.MadeEntries.{apart, listed_by, shown_by, slot_made, stamp_at, stamp_told}
use Rattle.hcc_rule.proofs.Parts.Codes.{tells_entry}
use Rattle.hcc_rule.proofs.Parts.SlotSteps.{Shard, size_is}
use Rattle.hcc_rule.proofs.Parts.WorldParts.{book_there}

-- A stamp in the lists of all clients.

module _ (stamp : Stamp) where
  -- another client's stamp is another, and so is that of another number
  other_client : (c n : ℕ) → c ≢ stamp.client
      → one_of stamp record { client = c; number = n } ≡ 0
  other_client c n other =
      ap (λ b. when (b && n == stamp.number) 1) (ne_eqb c stamp.client other)

  other_number : (c n : ℕ) → n ≢ stamp.number
      → one_of stamp record { client = c; number = n } ≡ 0
  other_number c n other =
      ap (λ b. when (c == stamp.client && b) 1) (ne_eqb n stamp.number other)
      ∙ never (c == stamp.client)
    where
      never : (b : Bool) → when (b && false) 1 ≡ 0
      never true = refl
      never false = refl

  same_stamp : (c n : ℕ) → c ≡ stamp.client → n ≡ stamp.number
      → one_of stamp record { client = c; number = n } ≡ 1
  same_stamp c n client number =
      rw (eq-eqb c stamp.client client, eq-eqb n stamp.number number) refl

  -- it finds the stamp itself
  pub finds_itself : one_of stamp stamp ≡ 1
  finds_itself = same_stamp stamp.client stamp.number refl refl

  -- a list of another client hasn't the stamp, nor has one from a higher number on
  list_other : (c n : ℕ) (book : List Made) → c ≢ stamp.client
      → list_weighs (one_of stamp) c n book ≡ 0
  list_other c n [] other = refl
  list_other c n (m ∷ ms) other =
      let first = other_client c n other in
      let rest = list_other c (n + 1) ms other in
      omega arith

  list_behind : (c n : ℕ) (book : List Made) → stamp.number < n
      → list_weighs (one_of stamp) c n book ≡ 0
  list_behind c n [] low = refl
  list_behind c n (m ∷ ms) low =
      let first = other_number c n (λ e. omega arith) in
      let rest = list_behind c (n + 1) ms (omega arith) in
      omega arith

  -- its client's list has it once
  list_one : (made : Made) (c n m : ℕ) (book : List Made) → c ≡ stamp.client
      → slice_get book m ≡ Some made → stamp.number ≡ n + m
      → list_weighs (one_of stamp) c n book ≡ 1
  list_one made c n m [] client at is = cc
  list_one made c n zero (b ∷ bs) client at is =
      let first = same_stamp c n client (omega arith) in
      let rest = list_behind c (n + 1) bs (omega arith) in
      omega arith
  list_one made c n (suc m) (b ∷ bs) client at is =
      let first = other_number c n (λ e. omega arith) in
      let rest = list_one made c (n + 1) m bs client at (omega arith) in
      omega arith

  -- the lists from a higher client on don't have it
  books_behind : (k : ℕ) (books : Books) → stamp.client < k
      → books_weigh (one_of stamp) k books ≡ 0
  books_behind k [] low = refl
  books_behind k (b ∷ bs) low =
      let first = list_other k 0 b (λ e. omega arith) in
      let rest = books_behind (k + 1) bs (omega arith) in
      omega arith

  -- all lists have it once
  books_one : (made : Made) (book : List Made) (k c : ℕ) (books : Books)
      → slice_get books c ≡ Some book → stamp.client ≡ k + c
      → slice_get book stamp.number ≡ Some made → books_weigh (one_of stamp) k books ≡ 1
  books_one made book k c [] at is listed = cc
  books_one made book k zero (b ∷ bs) at is listed =
      let same : b ≡ book = cc in
      let first = list_one made k 0 stamp.number b (omega arith)
      (ap (λ l. slice_get l stamp.number) same ∙ listed) (omega arith) in
      let rest = books_behind (k + 1) bs (omega arith) in
      omega arith
  books_one made book k (suc c) (b ∷ bs) at is listed =
      let first = list_other k 0 b (λ e. omega arith) in
      let rest = books_one made book (k + 1) c bs at (omega arith) listed in
      omega arith

  pub shown_once : (made : Made) (books : Books) → made_at books stamp ≡ Some made
      → books_weigh (one_of stamp) 0 books ≡ 1
  shown_once made books listed =
      let book = book_there books stamp made listed in
      books_one made book.0 0 stamp.client books book.1 (omega arith) book.2

module _ {T : Type 0} (fits : T → Key → List ℕ → Type 0) (p : Plan T) (s : Shard fits p)
    (r : Holds fits p s) where
  -- What stands.

  -- a slot's entry weighs what the word tells
  slot_told : (h : Stamp → ℕ) (k : ℕ) (slot : Slot) → slice_get r.world.slots k ≡ Some slot
      → slot_weighs h slot ≡ when (has_entry p s k) (h (stamp_at fits p s r k))
  slot_told h k slot is = by slot is
    where
      told : (x : Slot) → slice_get r.world.slots k ≡ Some x
          → when (slot_has_entry x) (h (stamp_at fits p s r k))
          ≡ when (has_entry p s k) (h (stamp_at fits p s r k))
      told x at =
          ap (λ b. when b (h (stamp_at fits p s r k)))
          (sym (ap is_shareable (r.coded.meta k x at)
          ∙ tells_entry r.world (is_lawful r.world r.lawful) k x at))

      by : (x : Slot) → slice_get r.world.slots k ≡ Some x
          → slot_weighs h x ≡ when (has_entry p s k) (h (stamp_at fits p s r k))
      by (slots.Empty strays) at = told (slots.Empty strays) at
      by (slots.Building client strays) at = told (slots.Building client strays) at
      by (slots.Shareable e) at =
          ap h (sym (stamp_told fits p s r k e at)) ∙ told (slots.Shareable e) at

  -- so all of them do
  pub standing_weighs : (h : Stamp → ℕ)
      → total (slot_weighs h) r.world.slots
      ≡ over_entries p.geometry.room s.words p.geometry.slots (λ k. h (stamp_at fits p s r k))
  standing_weighs h =
      total_range (slot_weighs h) (λ k. when (has_entry p s k) (h (stamp_at fits p s r k)))
      r.world.slots (slot_told h)
      ∙ ap (λ n. over_entries p.geometry.room s.words n (λ k. h (stamp_at fits p s r k)))
      (size_is fits p s r)

  -- What was shown is in one place.
  once : (stamp : Stamp) (made : Made) → made_at r.books stamp ≡ Some made
      → total (slot_weighs (one_of stamp)) r.world.slots + times_taken s stamp ≡ 1
  once stamp made listed = r.stamps.weighed (one_of stamp) ∙ shown_once stamp made r.books listed

  pub slots_made : AreMade fits p s
  slots_made = record {
    stamp_at = stamp_at fits p s r;
    made = slot_made fits p s r;
    apart = apart fits p s r;
    once = λ stamp made listed.
        let stands = standing_weighs (one_of stamp) in
        let one = once stamp made (shown_by fits p s r stamp made listed) in
        omega arith;
  }

  -- What a view took was shown.
  pub taken_made : (number : ℕ) (v : View T) → slice_get s.views number ≡ Some v → AreTaken s v
  taken_made number v at = record {
    count = (r.stamps.given number v at).count;
    each = each_map (λ (g : Gone). made_at r.books g.stamp ≡ Some g.made)
        (λ (g : Gone). IsListed s g.stamp g.made)
        (λ g listed. listed_by fits p s r g.stamp g.made listed) v.gone
        (r.stamps.given number v at).each;
  }

  -- What a client holds stands, so nobody took it.
  pub held_untaken : (number : ℕ) (v : View T) → slice_get s.views number ≡ Some v
      → HoldsNothingTaken s v
  held_untaken number v at =
      each_map (IsRecorded r.world.slots) (λ (q : Record). times_taken s q.entry.stamp ≡ 0) one
      v.records (r.holding number v at).recorded
    where
      one : (q : Record) → IsRecorded r.world.slots q → times_taken s q.entry.stamp ≡ 0
      one q recorded = by (slice_get r.world.slots q.slot) refl
        where
          stored : made_at r.books q.entry.stamp
              ≡ Some (r.stored q.slot q.entry recorded.there).made
          stored = (r.stored q.slot q.entry recorded.there).listed

          by : (o : Option Slot) → slice_get r.world.slots q.slot ≡ o
              → times_taken s q.entry.stamp ≡ 0
          by None none =
              let bad : None ≡ Some q.entry = sym (ap entry_in none) ∙ recorded.there in cc
          by (Some (slots.Empty strays)) some =
              let bad : None ≡ Some q.entry = sym (ap entry_in some) ∙ recorded.there in cc
          by (Some (slots.Building client strays)) some =
              let bad : None ≡ Some q.entry = sym (ap entry_in some) ∙ recorded.there in cc
          by (Some (slots.Shareable e)) some =
              let both : Some e.entry ≡ Some q.entry = sym (ap entry_in some) ∙ recorded.there in
              let same : e.entry ≡ q.entry = cc in
              let here : slot_weighs (one_of q.entry.stamp) (slots.Shareable e) ≡ 1 =
              ap (λ x. one_of q.entry.stamp x.stamp) same ∙ finds_itself q.entry.stamp in
              let member = total-member (slot_weighs (one_of q.entry.stamp)) r.world.slots q.slot
              (slots.Shareable e) some in
              let all = once q.entry.stamp (r.stored q.slot q.entry recorded.there).made stored in
              omega arith
