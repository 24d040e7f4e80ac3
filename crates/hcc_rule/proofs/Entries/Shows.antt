-- The store of a new entry's word: the entry whose words were written is shown.
use Rattle.std.proofs.Common.{◌≡◌, ℕ, zero, suc, ◌-◌, ◌^◌, ◌<◌, ◌≤◌, ◌≢◌, ◌⊎◌, inl, inr, ◌==◌, true, false, List, [], ◌∷◌, ◌++◌, Option, Some, None, IfSome, is_none, is_some, length, slice_get, slice_set, sym, refl, ap, ◌∙◌, arith, ne_eqb, slice_index, subst}
use Rattle.std.specs.Int.{from_bool}
use Rattle.std.proofs.lemmas.Bool.{cases_eq}
use mathlib.Core.Option.{none}
use Rattle.atomic_table.specs.Table.{step}
use Rattle.hcc_word.specs.Code.{code_of_shareable}
use Rattle.hcc_core.specs.declared.event.Event.TheVariants as events
use Rattle.hcc_core.specs.declared.event.Reply.TheVariants as replies
use Rattle.hcc_core.specs.declared.slot.Entry.{Entry}
use Rattle.hcc_core.specs.declared.slot.Slot.{Slot}
use Rattle.hcc_core.specs.declared.slot.Slot.TheVariants as slots
use Rattle.hcc_core.specs.Sums.{when, total}
use Rattle.hcc_core.specs.World.{is_placed}
use Rattle.hcc_core.specs.Entries.{resident_new, is_fresh}
use Rattle.hcc_core.specs.Lawful.{owner_of, owned_slot}
use Rattle.hcc_core.proofs.ListLemmas.{read_here}
use Rattle.hcc_core.proofs.SumLemmas.{total-append, length-push}
use Rattle.hcc_core.proofs.Opening.{is_lawful}
use Rattle.hcc_rule.specs.declared.key.Key.{Key}
use Rattle.hcc_rule.specs.declared.layout.TheConstants.{META, STAMP}
use Rattle.hcc_rule.specs.declared.rule.Plan.{Plan}
use Rattle.hcc_rule.specs.declared.view.Made.{Made}
use Rattle.hcc_rule.specs.declared.view.Record.{Record}
use Rattle.hcc_rule.specs.declared.view.View.{View}
use Rattle.hcc_rule.specs.Told.{Held}
use Rattle.hcc_rule.specs.ToldOwners.{room_for, MayShow, first_records, shown_entry, after_show, shows}
use Rattle.hcc_rule.specs.Views.{reference_of, is_on, is_called, times_called, load_of, is_seated, Each}
use Rattle.hcc_rule.specs.Records.{record_in}
use Rattle.hcc_rule.specs.Words.{field_at, stamp_word, code_of}
use Rattle.hcc_rule.specs.Rule.{entry_by, entry_in, IsStored, IsRecorded, IsHolding, IsRight, Holds, AreApart, IsAbove, IsTagged, book_of, made_at}
use Rattle.hcc_rule.proofs.Basics.Lists.{read_at, each_map, each_append}
use Rattle.hcc_rule.proofs.Parts.Codes.{when_le}
use Rattle.hcc_rule.proofs.Basics.Findings.{none_passes}
use Rattle.hcc_rule.proofs.Parts.HeldReferences.{fresh_name}
use Rattle.hcc_rule.proofs.Parts.WorldParts.{book_here, book_else, list_weighs_push, made_grows, given_kept}
use Rattle.hcc_rule.proofs.Parts.ViewParts.{recorded_else}
use Rattle.hcc_rule.proofs.References.Looks.{slot_there}
use Rattle.hcc_rule.proofs.Entries.Empties.{owner_there}
use Rattle.hcc_rule.proofs.Entries.ShowParts.{get_front, get_last, first_code, first_weighs, show_allowed}
use Rattle.hcc_rule.proofs.Parts.SlotSteps.{Shard, SlotStep}
use Rattle.hcc_rule.proofs.Parts.Touches.{goes, client_is, live_is, book_is, stamps_are, was_right}
use Rattle.hcc_rule.specs.Acts.{Acts, Goes}
use Rattle.hcc_rule.specs.declared.view.Done.{Done}
use Rattle.hcc_rule.proofs.Parts.Tags.{stamp_kept, below}
use Rattle.std.specs.Option.{unwrap_or}

-- a sum over what the client keeps of an entry on one slot is nothing on another
first_else : (i j : ℕ) (name : Option ℕ) (e : Entry) (f : Record → ℕ) → j ≢ i
    → total (λ r. when (is_on j r) (f r)) (first_records i name e) ≡ 0
first_else i j None e f other = refl
first_else i j (Some name) e f other =
    let off : when (i == j) (f record {
      slot = i;
      name = name;
      weight = 1;
      counting = true;
      shown =
          false;
      entry = e;
    }) ≡ 0 =
    ap (λ b. when b (f record {
      slot = i;
      name = name;
      weight = 1;
      counting = true;
      shown =
          false;
      entry = e;
    })) (ne_eqb i j (λ same. other (sym same))) in
    omega arith

-- what is listed once one more is, was listed or is that one
last_or : {A : Type 0} (xs : List A) (y : A) (n : ℕ) (x : A) → slice_get (xs ++ y ∷ []) n ≡ Some x
    → (slice_get xs n ≡ Some x) ⊎ (x ≡ y)
last_or [] y zero x h = inr (let same : x ≡ y = cc in same)
last_or [] y (suc n) x h = cc
last_or (z ∷ zs) y zero x h = inl h
last_or (z ∷ zs) y (suc n) x h = last_or zs y n x h

-- a list that grows by a serial above all others has none twice
last_number : {A : Type 0} (xs : List A) (y : A) (n : ℕ) (x : A)
    → slice_get (xs ++ y ∷ []) n ≡ Some x
    → (slice_get xs n ≡ Some x) ⊎ ((n ≡ length xs) × (x ≡ y))
last_number [] y zero x h = inr (refl, let same : x ≡ y = cc in same)
last_number [] y (suc n) x h = cc
last_number (z ∷ zs) y zero x h = inl h
last_number (z ∷ zs) y (suc n) x h = elim (last_number zs y n x h) [
  | inl old ↦ inl old
  | inr last ↦ inr (ap suc last.0, last.1)
]

apart_more : (book : List Made) (made : Made) → AreApart book → IsAbove made.serial book
    → AreApart (book ++ made ∷ [])
apart_more book made apart above n m a b at_n at_m same =
    elim (last_number book made n a at_n) [
      | inl old ↦ elim (last_number book made m b at_m) [
        | inl too ↦ apart n m a b old too same
        | inr last ↦
            let less = below made.serial book n a above old in
            let is = ap (λ (z : Made). z.serial) last.1 in
            absurd (omega arith)
      ]
      | inr first ↦ elim (last_number book made m b at_m) [
        | inl too ↦
            let less = below made.serial book m b above too in
            let is = ap (λ (z : Made). z.serial) first.1 in
            absurd (omega arith)
        | inr last ↦ first.0 ∙ sym last.0
      ]
    ]

small_name : (o : Option ℕ) (P : ℕ → Type 0) → IfSome o (λ x. (x < 2 ^ 64) × P x)
    → IfSome o (λ x. x < 2 ^ 64)
small_name None P h = tt
small_name (Some x) P h = h.0

module _ {T : Type 0} (fits : T → Key → List ℕ → Type 0) (p : Plan T) where
  module _ (s : Shard fits p) (r : Holds fits p s) (id i countdown d strays : ℕ) (name : Option ℕ)
      (made : Made) (v : View T)
      (at : slice_get s.views id ≡ Some v) (seated : is_seated v ≡ true)
      (may : MayShow fits p i countdown name made v)
      (at_slot : slice_get r.world.slots i ≡ Some (slots.Building d strays)) where
    abbrev left : Slot
    left = slots.Shareable (resident_new v.client v.work made.key.w0 made.key.w1 made.charge
        countdown name made.value)

    abbrev new : View T
    new = after_show i name made v

    abbrev entry : Entry
    entry = shown_entry v made

    client : slice_get r.world.clients v.client ≡ Some v.work
    client = client_is fits p s r id v at seated

    book : slice_get r.books v.client ≡ Some v.made
    book = book_is fits p s r id v at seated

    counts : v.work.stamps ≡ length v.made
    counts = stamps_are fits p s r id v at seated

    -- no record is of a slot that is built
    off : (q : Record) → IsRecorded r.world.slots q → q.slot ≢ i
    off q recorded same =
        let none : entry_in (slice_get r.world.slots q.slot) ≡ None =
        ap (λ k. entry_in (slice_get r.world.slots k)) same ∙ ap entry_in at_slot in
        let bad : None ≡ Some q.entry = sym none ∙ recorded.there in
        cc

    kept : (q : Record) → IsRecorded r.world.slots q → IsRecorded (slice_set r.world.slots i left) q
    kept q recorded = recorded_else r.world.slots i left q (off q recorded) recorded

    -- the reference that is kept is a new one
    named : (o : Option ℕ) → IfSome o (λ x. (x < 2 ^ 64) × (record_in x v.records ≡ None))
        → is_fresh r.world.slots v.client o ≡ true
    named None h = refl
    named (Some x) h = ap is_none (fresh_name p.tag r.world.slots r.world.clients r.books s.views
        r.references r.seats id v at seated x h.1)

    first_recorded : (o : Option ℕ) → Each (IsRecorded (slice_set r.world.slots i left))
        (first_records i o entry)
    first_recorded None = tt
    first_recorded (Some x) = (
      record {
        there =
            ap entry_in (read_here r.world.slots i (slots.Building d strays) left at_slot);
        some =
            omega arith;
      },
      tt,
    )

    once : (o : Option ℕ) → IfSome o (λ x. (x < 2 ^ 64) × (record_in x v.records ≡ None)) → (y : ℕ)
        → times_called y (v.records ++ first_records i o entry) ≤ 1
    once None h y =
        let was = (r.holding id v at).once y in
        let sum = total-append (λ q. when (is_called y q) 1) v.records [] in
        omega arith
    once (Some x) h y = elim (cases_eq x y) [
      | inl same ↦
          let sum = total-append (λ q. when (is_called y q) 1) v.records
          (first_records i (Some x) entry) in
          let none : times_called x v.records ≡ 0 = none_passes (is_called x) v.records h.1 in
          let none_y : times_called y v.records ≡ 0 =
          ap (λ z. times_called z v.records) (sym same) ∙ none in
          let one = when_le (x == y) 1 in
          omega arith
      | inr other ↦
          let sum = total-append (λ q. when (is_called y q) 1) v.records
          (first_records i (Some x) entry) in
          let was = (r.holding id v at).once y in
          let none : when (x == y) 1 ≡ 0 = ap (λ b. when b 1) (ne_eqb x y other) in
          omega arith
    ]

    weighs : (o : Option ℕ) → load_of (first_records i o entry) ≡ room_for o
    weighs None = refl
    weighs (Some x) = refl

    holding : IsHolding (slice_set r.world.slots i left) new
    holding =
        let old = r.holding id v at in
        record {
          recorded = each_append (IsRecorded (slice_set r.world.slots i left)) v.records
              (first_records i name entry)
              (each_map (IsRecorded r.world.slots) (IsRecorded (slice_set r.world.slots i left))
              kept v.records old.recorded) (first_recorded name);
          once = once name may.fresh;
          few =
              let sum = total-append (λ (q : Record). q.weight) v.records
              (first_records i name entry) in
              let one = weighs name in
              let room = may.room in
              omega arith;
        }

    listed : made_at (slice_set r.books v.client new.made) entry.stamp ≡ Some made
    listed = ap (λ l. slice_get l v.work.stamps)
        (book_here r.books v.client v.made new.made book)
        ∙ (ap (slice_get new.made) counts ∙ get_last v.made made)

    stored : (e : Entry) → entry_by left ≡ Some e
        → IsStored p.geometry.room s.words (slice_set r.books v.client new.made) i e
    stored e is =
        let same : e ≡ entry = cc in
        rw same record {
          made = made;
          listed = listed;
          same = refl;
          lies = let there = (r.drafted id v at).lies i (ap owned_slot may.builds) in rw may.written
              at there;
        }

    -- its serial is above those of all that the client showed
    old_tags : IsTagged p.geometry.slots p.geometry.room s.words r.books s.views v
    old_tags = r.tags.each id v at

    stamp_written : slice_index v.written STAMP ≡ stamp_word v.client made.serial
    stamp_written = ap (λ ws. slice_index ws STAMP) may.written

    above : IsAbove made.serial v.made
    above =
        let long = ap length may.written in
        let next = old_tags.next i (slice_index v.written STAMP)
        (may.builds, (let low : STAMP < length v.written = omega arith in low), refl) in
        let same : next.0 ≡ made.serial =
        (let words = sym next.1 ∙ stamp_written in omega arith) in
        subst (λ n. IsAbove n v.made) same next.3

    mine_apart : AreApart v.made
    mine_apart = subst AreApart (ap (λ o. unwrap_or o []) book) (r.tags.apart v.client)

    right : (n : ℕ) (m : Made) → slice_get new.made n ≡ Some m
        → IsRight fits p.tag p.geometry.room m
    right n m there = elim (last_or v.made made n m there) [
      | inl old ↦ was_right fits p s r id v at seated n m old
      | inr is ↦ rw is may.right
    ]

    pub shown_step : SlotStep fits p s r id i v new (slots.Building d strays) left
        (events.Show v.client made.key.w0 made.key.w1 made.charge countdown name made.value)
        replies.Ok
    shown_step = record {
      at_view = at;
      at_slot = at_slot;
      seated = seated;
      same = record { tag = refl; client = refl; others = refl; turns = refl; glimpse = refl };
      live = live_is fits p s r id v at seated;
      allowed = show_allowed r.world v.client i countdown name made v.work
          (is_lawful r.world r.lawful) client (live_is fits p s r id v at seated)
          may.builds may.place may.needed may.paid may.some may.few (named name may.fresh)
          (let few = may.stamps in let count = counts in omega arith)
          may.word0 may.word1 may.right.small
          (small_name name (λ x. record_in x v.records ≡ None) may.fresh) may.right.bytes;
      grows = λ n m there. get_front v.made (made ∷ []) n m there;
      stored = stored;
      drafted = record { short = omega arith; lies = λ j owns k low. absurd (omega arith) };
      here = λ h.
          let sum = total-append (λ q. when (is_on i q) (h (reference_of v.client q))) v.records
          (first_records i name entry) in
          let first = first_weighs v.client i name entry h in
          omega arith;
      elsewhere = λ j h other.
          let sum = total-append (λ q. when (is_on j q) (h (reference_of v.client q))) v.records
          (first_records i name entry) in
          let none = first_else i j name entry (λ q. h (reference_of v.client q)) other in
          omega arith;
      holding = holding;
      recorded = λ j u other there. each_map (IsRecorded r.world.slots)
          (IsRecorded (slice_set r.world.slots i left)) kept u.records
          (r.holding j u there).recorded;
      counted = let push = length-push v.made made in let count = counts in omega arith;
      right = right;
      paid = let push = length-push v.made made in omega arith;
      weighs = λ h.
          let push = list_weighs_push h v.client 0 v.made made v.work.stamps
          (let count = counts in omega arith) in
          omega arith;
      given = given_kept r.books (slice_set r.books v.client new.made) v new
          (made_grows r.books v.client v.made new.made book
          (λ n m there. get_front v.made (made ∷ []) n m there)) refl refl
          (r.stamps.given id v at);
      usage = let paid = may.paid in omega arith;
      occupancy =
          let placed : when (is_placed v.work.place) 1 ≡ 1 =
          ap (λ z. when (is_placed z) 1) may.place in
          omega arith;
      standing = refl;
      modest =
          let old = r.ledgers.modest v.client v.work client in
          let asked = old.asked in
          record { asked = omega arith; freed = old.freed; few = old.few; small = old.small };
      passed = λ j. omega arith;
      trailed = may.trail;
      tags = record {
        made = made_grows r.books v.client v.made new.made book
            (λ n m there. get_front v.made (made ∷ []) n m there);
        apart = λ c. elim (cases_eq c v.client) [
          | inl same ↦
              let now : book_of (slice_set r.books v.client new.made) c ≡ new.made =
              ap (book_of (slice_set r.books v.client new.made)) same
              ∙ book_here r.books v.client v.made new.made book in
              rw now (apart_more v.made made mine_apart above)
          | inr other ↦ rw (book_else r.books v.client c new.made other) (r.tags.apart c)
        ];
        kept = λ slot word builds. inr (
          entry.stamp,
          (made, listed, sym builds.2 ∙ stamp_written),
        );
        next = λ slot word builds. let bad = builds.0 in cc;
        word = λ slot low. inl (stamp_kept p.geometry.room i (code_of left) s.words slot);
        looked = old_tags.looked;
        glimpse = old_tags.glimpse;
      };
    }

  -- The store keeps the rule.
  pub show_step : (count id i countdown a y : ℕ) (name : Option ℕ) (made : Made) (me : Held T)
      → i < p.geometry.slots
      → is_seated me.0 ≡ true → MayShow fits p i countdown name made me.0
      → y ≡ code_of_shareable (countdown - from_bool (is_some name)) (from_bool (is_some name))
      false true
      → a ≡ field_at p.geometry.room i META
      → Acts fits p count id me a (λ n. y)
      (λ n. shows i countdown name made (step count a y 0 none) me y)
  show_step count id i countdown a y name made me near seated may code place s r homes at low =
      let slot = slot_there fits p s r i near in
      by slot.0 slot.1 (owner_there fits p s r id i me.0 at_view seated slot.0
      (ap owned_slot may.builds) slot.1)
    where
      at_view : slice_get s.views id ≡ Some me.0
      at_view = read_at s.views id me.0 at

      then : ℕ → Held T → Option Done → Type 0
      then n = shows i countdown name made (step count a y 0 none) me y

      by : (t : Slot) → slice_get r.world.slots i ≡ Some t → owner_of t ≡ Some me.0.client
          → Goes fits p s r a y id me then
      by (slots.Empty strays) at_slot owner = cc
      by (slots.Shareable k) at_slot owner = cc
      by (slots.Building d strays) at_slot owner =
          goes fits p s r a y id i me (after_show i name made me.0) (slots.Building d strays) _ _
          replies.Ok then place
          (code ∙ first_code me.0.client countdown name)
          (refl, refl)
          (shown_step s r id i countdown d strays name made me.0 at_view seated may at_slot)
          (refl, refl, refl)
