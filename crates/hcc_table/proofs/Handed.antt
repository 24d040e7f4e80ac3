-- What is put on a list of freed entries, over several steps.
use Rattle.std.proofs.Common.{◌≡◌, ℕ, ◌+◌, ◌*◌, ◌<◌, ◌≤◌, true, zero, suc, List, [], ◌∷◌, ◌++◌, Option, Some, None, is_some, length, map, slice_index, sym, refl, ap, subst, ◌∙◌, arith}
use Rattle.std.specs.List.{range_with_len}
use Rattle.std.proofs.lemmas.Bool.{le-leb, leb-true}
use Rattle.std.proofs.lemmas.List.{append-nil, append_assoc, length-append, length-map, map-append}
use Rattle.hcc_core.specs.declared.slot.Stamp.{Stamp}
use Rattle.hcc_rule.specs.declared.view.Made.{Made}
use Rattle.hcc_rule.specs.declared.view.View.{View}
use Rattle.hcc_rule.specs.Gone.{Takes}
use Rattle.hcc_rule.specs.Seats.{SeatOf, view}
use Rattle.hcc_rule.specs.ToldOwners.{after_free}
use Rattle.hcc_rule.specs.Words.{payload, payload_word, words_for}
use Rattle.hcc_table.specs.declared.lists.Freed.{Freed}
use Rattle.hcc_table.specs.declared.visiting.ClockVisit.{ClockVisit}
use Rattle.hcc_table.specs.declared.visiting.ClockVisit.TheVariants as visits
use Rattle.hcc_table.specs.Freed.{HasWord, owned_freed}
use Rattle.hcc_table.specs.Lists.{Hands, Puts, Shelf, as_freed, has_room, room_on}
use Rattle.hcc_table.specs.Visited.{CountedDown}

-- none was put
puts_none : (s : Option Shelf) → Puts [] s s
puts_none None = tt
puts_none (Some s) = (sym (append-nil s.freed), omega arith, refl, refl)

-- some were, and then more
puts_more : (xs ys : List Freed) (s t r : Option Shelf) → Puts xs s t → Puts ys t r
    → Puts (xs ++ ys) s r
puts_more xs ys None None None first second = tt
puts_more xs ys (Some s) (Some t) (Some r) first second = (
  second.0 ∙ (ap (λ l. l ++ ys) first.0 ∙ append_assoc s.freed xs ys),
  let sum = length-append xs ys in
      let long = ap length first.0 ∙ length-append s.freed xs in
      omega (arith, sum, long, first.1, second.1, first.2),
  second.2 ∙ first.2,
  second.3 ∙ first.3,
)
puts_more xs ys None None (Some r) first second = absurd second
puts_more xs ys None (Some t) r first second = absurd first
puts_more xs ys (Some s) None r first second = absurd first
puts_more xs ys (Some s) (Some t) None first second = absurd second

-- where there is room afterwards there was before
pub room_before : (n : ℕ) (xs : List Freed) (s t : Option Shelf) → Puts xs s t
    → has_room n t ≡ true → has_room n s ≡ true
room_before n xs None t put room = refl
room_before n xs (Some s) None put room = absurd put
room_before n xs (Some s) (Some t) put room =
    let now = leb-true n (room_on t) room in
    let long = ap length put.0 ∙ length-append s.freed xs in
    le-leb n (room_on s) (omega (arith, now, long, put.2))

module _ {T : Type 0} where
  -- The client took nothing, and nothing was put there.
  pub hands_none : {s : Option Shelf} {v w : View T} → w.gone ≡ v.gone → Hands s s v w
  hands_none {s} {v} same =
      record { these = []; gone = same ∙ sym (append-nil v.gone); puts = puts_none s }

  -- It took some, and then more.
  pub hands_more : {s t r : Option Shelf} {u v w : View T} → Hands s t u v → Hands t r v w
      → Hands s r u w
  hands_more {s} {t} {r} {u} first second = record {
    these = first.these ++ second.these;
    gone = second.gone
        ∙ (ap (λ l. l ++ second.these) first.gone
        ∙ append_assoc u.gone first.these second.these);
    puts = subst (λ l. Puts l s r) (sym (map-append as_freed first.these second.these))
        (puts_more (map as_freed first.these) (map as_freed second.these) s t r first.puts
        second.puts);
  }

  -- So it is of views with the same lists,
  pub hands_alike : {s t : Option Shelf} {v w x y : View T} → Hands s t v w → x.gone ≡ v.gone
      → y.gone ≡ w.gone → Hands s t x y
  hands_alike hands before after = record {
    these = hands.these;
    gone = after ∙ (hands.gone ∙ ap (λ l. l ++ hands.these) (sym before));
    puts = hands.puts;
  }

-- Where there was room for so many, and no more were taken than these, there is room for the rest.
pub room_left : {T : Type 0} {s t : Option Shelf} {v w : View T} (slots charge k n : ℕ)
    → Hands s t v w → Takes slots charge v w → slots ≤ k → has_room (k + n) s ≡ true
    → has_room n t ≡ true
room_left {T} {s} {t} {v} {w} slots charge k n hands took few room = by s t hands.puts room
  where
    many : length (map as_freed hands.these) ≡ slots
    many =
        let mapped = length-map hands.these as_freed in
        let first = ap length hands.gone ∙ length-append v.gone hands.these in
        let second = ap length took.gone ∙ length-append v.gone took.these in
        let count = took.count in
        omega (arith, mapped, first, second, count)

    by : (s t : Option Shelf) → Puts (map as_freed hands.these) s t → has_room (k + n) s ≡ true
        → has_room n t ≡ true
    by None None put room = refl
    by (Some a) (Some b) put room =
        let low = leb-true (k + n) (room_on a) room in
        let long = ap length put.0 ∙ length-append a.freed (map as_freed hands.these) in
        le-leb n (room_on b) (omega (arith, low, long, put.2, many, few))
    by None (Some b) put room = absurd put
    by (Some a) None put room = absurd put

-- A visit that counts down takes nothing.
pub counted_none : {T : Type 0} (address word : ℕ) (visit : ClockVisit) (a b : SeatOf T)
    → CountedDown address word visit a b → (view b).gone ≡ (view a).gone
counted_none {T} address word visits.Counted a b h = ap (λ (v : View T). v.gone) h.1
counted_none {T} address word visits.Lost a b h = ap (λ (v : View T). v.gone) h.1.searched.same
counted_none address word visits.Passed a b h = absurd h
counted_none address word visits.Pinned a b h = absurd h
counted_none address word (visits.Freed charge hit) a b h = absurd h

-- The first word of a value of some bytes.

first_word : (value : List ℕ) → 0 < length value
    → (rest : List ℕ) × (payload value ≡ payload_word value 0 ∷ rest)
first_word value some = by (words_for (length value)) refl
  where
    by : (n : ℕ) → words_for (length value) ≡ n
        → (rest : List ℕ) × (map (payload_word value) (range_with_len 0 n)
        ≡ payload_word value 0 ∷ rest)
    by zero none = absurd (omega arith)
    by (suc n) is = (map (payload_word value) (range_with_len 1 n), refl)

module _ {T : Type 0} (slots : ℕ) {slot : ℕ} (word : ℕ) (name : Option ℕ) (stamp : Stamp)
    (made : Made) (u : View T) {v : View T} (w : View T)
    (took : v ≡ after_free slots slot word name stamp made u)
  where
    -- An entry that was taken lies in the slot with a word of its value,
    pub taken_word : {room : ℕ} → 0 < length made.value → length made.value ≤ 8 * room
        → HasWord room v
    taken_word some short =
        let first = first_word made.value some in
        let long = ap (λ (z : View T). length z.written) took in
        let words = ap length first.1 in
        (omega arith, omega arith)

    -- and is what was put on the list.
    pub hands_taken : {s t : Option Shelf} → (is_some s ≡ true → 0 < length made.value)
        → w.gone ≡ v.gone → Puts (owned_freed v ∷ []) s t → Hands s t u w
    hands_taken {s} {t} whole same put = record {
      these = record { stamp = stamp; made = made } ∷ [];
      gone = same ∙ ap (λ (z : View T). z.gone) took;
      puts = by s t whole put;
    }
      where
        alike : 0 < length made.value → owned_freed v ≡ as_freed (record {
          stamp = stamp;
          made = made;
        })
        alike some =
            ap owned_freed took ∙ ap (λ l. record { key = made.key; word = slice_index l 0 })
            (first_word made.value some).1

        by : (s t : Option Shelf) → (is_some s ≡ true → 0 < length made.value)
            → Puts (owned_freed v ∷ []) s t
            → Puts (as_freed (record { stamp = stamp; made = made }) ∷ []) s t
        by None None whole put = tt
        by (Some a) (Some b) whole put =
            (put.0 ∙ ap (λ f. a.freed ++ f ∷ []) (alike (whole refl)), put.1, put.2, put.3)
        by None (Some b) whole put = absurd put
        by (Some a) None whole put = absurd put
