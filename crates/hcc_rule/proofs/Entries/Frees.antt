-- The exchange to construction: an entry with no reference but the client's last one is taken.
use Rattle.std.proofs.Common.{◌++◌, ◌≡◌, ℕ, ◌+◌, ◌^◌, ◌<◌, ◌≤◌, ◌≢◌, ◌==◌, Bool, true, false, cond, List, [], ◌∷◌, Option, Some, None, IfSome, IsSomeAnd, Ok, slice_get, slice_index, slice_set, sym, refl, ap, ◌∙◌, arith, ◌-◌, inl}
use Rattle.std.specs.List.{find}
use Rattle.std.proofs.lemmas.Bool.{eqb-true, eq-eqb, false≢true}
use Rattle.std.proofs.lemmas.List.{length-append}
use mathlib.Core.Option.{none}
use prog.Atomic.{either}
use Rattle.atomic_table.specs.Table.{step}
use Rattle.hcc_word.specs.declared.layout.TheConstants.{CONSTRUCTION_WORD}
use Rattle.hcc_word.specs.Word.{is_shareable, refs_of}
use Rattle.hcc_word.proofs.CodeLaws.{refs_of-shareable}
use Rattle.hcc_word.proofs.StepLaws.{exchange_to_construction}
use Rattle.hcc_core.specs.declared.event.Event.{Event}
use Rattle.hcc_core.specs.declared.event.Event.TheVariants as events
use Rattle.hcc_core.specs.declared.event.Reply.{Reply}
use Rattle.hcc_core.specs.declared.event.Reply.TheVariants as replies
use Rattle.hcc_core.specs.declared.client.Client.{Client}
use Rattle.hcc_core.specs.declared.slot.Entry.{Entry}
use Rattle.hcc_core.specs.declared.client.Owned.TheVariants as owned
use Rattle.hcc_core.specs.declared.slot.Reference.{Reference}
use Rattle.hcc_core.specs.declared.slot.Resident.{Resident}
use Rattle.hcc_core.specs.declared.slot.Slot.{Slot}
use Rattle.hcc_core.specs.declared.slot.Slot.TheVariants as slots
use Rattle.hcc_core.specs.declared.slot.Stamp.{Stamp}
use Rattle.hcc_core.specs.Sums.{when, total}
use Rattle.hcc_core.specs.World.{State, weight, is_named, times, owns_nothing}
use Rattle.hcc_core.specs.Outcomes.{with_both, dropped, has_no_member}
use Rattle.hcc_core.specs.References.{noticed, joined}
use Rattle.hcc_core.specs.Entries.{is_free_for, may_free, client_freeing}
use Rattle.hcc_core.specs.Steps.{outcome_of}
use Rattle.hcc_core.specs.Lawful.{Lawful}
use Rattle.hcc_core.proofs.Opening.{is_lawful}
use Rattle.hcc_core.proofs.StepLemmas.{free_gives}
use Rattle.hcc_core.proofs.SumLemmas.{total-le, total-member, total-append}
use Rattle.hcc_rule.specs.declared.key.Key.{Key}
use Rattle.hcc_rule.specs.declared.layout.TheConstants.{META}
use Rattle.hcc_rule.specs.declared.rule.Plan.{Plan}
use Rattle.hcc_rule.specs.declared.view.Gone.{Gone}
use Rattle.hcc_rule.specs.declared.view.Made.{Made}
use Rattle.hcc_rule.specs.declared.view.Record.{Record}
use Rattle.hcc_rule.specs.declared.view.View.{View}
use Rattle.hcc_rule.specs.Probes.{trail_to}
use Rattle.hcc_rule.specs.Told.{Held}
use Rattle.hcc_rule.specs.Looked.{found_dead}
use Rattle.hcc_rule.specs.ToldOwners.{IsLast, records_left, after_free, frees}
use Rattle.hcc_rule.specs.Views.{reference_of, is_on, is_called, is_seated, held, Each}
use Rattle.hcc_rule.specs.Records.{record_in}
use Rattle.hcc_rule.specs.Words.{field_at, entry_of, key_of, code_of}
use Rattle.hcc_rule.specs.Rule.{entry_in, taken_weigh, IsStored, IsRecorded, IsHolding, IsRight, Holds, made_at}
use Rattle.hcc_rule.proofs.Basics.Lists.{within, read_at, each_append}
use Rattle.hcc_rule.proofs.Parts.Clients.{count_on, dead_told}
use Rattle.hcc_rule.proofs.Parts.Codes.{is_near, tells_entry}
use Rattle.hcc_rule.proofs.References.Exchanges.{unreferenced, records_weigh}
use Rattle.hcc_rule.proofs.Basics.Findings.{find_passes, find_each}
use Rattle.hcc_rule.proofs.References.Gives.{loses, loses_no_other, holds_less}
use Rattle.hcc_rule.proofs.References.Looks.{client_fits, slot_fits, slot_there, looks_on, look_told}
use Rattle.hcc_rule.proofs.Parts.OnEntries.{OnEntry, on_some, reference_there}
use Rattle.hcc_rule.proofs.Entries.ShowParts.{names_fit}
use Rattle.hcc_rule.proofs.Parts.ViewParts.{recorded_else, total-two}
use Rattle.hcc_rule.proofs.Parts.WordParts.{made_short}
use Rattle.hcc_rule.proofs.Parts.SlotSteps.{Shard, SlotStep}
use Rattle.hcc_rule.proofs.Parts.Touches.{by_client, goes, client_is, live_is, stamps_are, was_right, book_is}
use Rattle.hcc_rule.specs.Acts.{Acts, Goes, did}
use Rattle.hcc_rule.specs.declared.view.Done.{Done}
use Rattle.hcc_rule.proofs.Parts.Tags.{not_building, stamp_kept}
use Rattle.hcc_core.proofs.ListLemmas.{set_same}

-- a list of no member is empty
empty_is : {A : Type 0} (xs : List A) → has_no_member xs ≡ true → xs ≡ []
empty_is [] h = refl
empty_is (x ∷ xs) h = cc

-- a list of one member at most, in which one is found, has that one alone
only_found : {A : Type 0} (test : A → Bool) (xs : List A) (x : A) → total (λ (y : A). 1) xs ≤ 1
    → find test xs ≡ Some x → xs ≡ x ∷ []
only_found test [] x few found = cc
only_found test (y ∷ []) x few found = by (test y) found
  where
    by : (b : Bool) → cond b (Some y) None ≡ Some x → y ∷ [] ≡ x ∷ []
    by true h = let same : y ≡ x = cc in ap (λ z. z ∷ []) same
    by false h = cc
only_found test (y ∷ z ∷ zs) x few found = absurd (omega arith)

-- records none of which is of a slot stay records as that slot changes
records_else : (all : List Slot) (i : ℕ) (left : Slot) (rs : List Record) → count_on i rs ≡ 0
    → Each (IsRecorded all) rs → Each (IsRecorded (slice_set all i left)) rs
records_else all i left [] bare each = tt
records_else all i left (r ∷ rs) bare each = (
  recorded_else all i left r (λ same. let one : when (is_on i r) 1 ≡ 1 =
      ap (λ b. when b 1) (eq-eqb r.slot i same) in absurd (omega arith)) each.0,
  records_else all i left rs (omega arith) each.1,
)

-- what the taker of an entry is then
freeing_is : (c i : ℕ) (k : Resident) (work : Client) (trail : List ℕ) (charge : ℕ)
    (dead : List Stamp)
    → k.trail ≡ trail → k.entry.charge ≡ charge → noticed c (slots.Shareable k) work.dead ≡ dead
    → client_freeing c i (slots.Shareable k) work
    ≡ record work {
      owned = owned.ForFreeing i;
      trail = trail;
      freed =
          work.freed + charge;
      freed_slots = work.freed_slots + 1;
      dead = dead;
    }
freeing_is c i k work trail charge dead trail_is charge_is dead_is =
    rw (trail_is, charge_is, dead_is) refl

-- a free is allowed to one that owns nothing, where no other reference stands
free_allowed : (w : State) (c i : ℕ) (name : Option ℕ) (found : Client) (k : Resident) → Lawful w
    → slice_get w.slots i ≡ Some (slots.Shareable k) → slice_get w.clients c ≡ Some found
    → found.live ≡ true
    → owns_nothing found.owned ≡ true → found.trail ≡ [] → is_free_for c name k.references ≡ true
    → IfSome name (λ x. x < 2 ^ 64)
    → outcome_of w (events.Free c i name)
    ≡ Ok (
      replies.Freed k.entry.charge,
      with_both w i (slots.Building c 0) c
          (client_freeing c i (slots.Shareable k) found),
    )
unfolding outcome_of
free_allowed w c i name found k l at_slot at_client live idle back alone named =
    let may : may_free c found (slots.Shareable k) name ≡ true = rw (idle, back, alone) refl in
    rw (
      client_fits w c l (within w.clients c found at_client),
      slot_fits w i l
          (within w.slots i (slots.Shareable k) at_slot),
      names_fit name named,
    )
    (free_gives w c i name found (client_freeing c i (slots.Shareable k) found) (slots.Shareable k)
    (slots.Building c 0) (replies.Freed k.entry.charge) at_slot at_client live may refl refl
    refl)

module _ {T : Type 0} (fits : T → Key → List ℕ → Type 0) (p : Plan T) where
  -- the slot's references are the records that the view loses
  pub record Leaves (s : Shard fits p) (r : Holds fits p s) (i : ℕ) (name : Option ℕ) (v : View T)
      (k : Resident) (rest : List Record) : Type 0 where
    pub alone : is_free_for v.client name k.references ≡ true
    pub here : (h : Reference → ℕ) → total (λ q. when (is_on i q) (h (reference_of v.client q)))
        v.records
        ≡ total h k.references + total (λ q. when (is_on i q) (h (reference_of v.client q))) rest
    pub elsewhere : (j : ℕ) (h : Reference → ℕ) → j ≢ i
        → total (λ q. when (is_on j q) (h (reference_of v.client q))) rest
        ≡ total (λ q. when (is_on j q) (h (reference_of v.client q))) v.records
    pub holding : IsHolding r.world.slots (record v { records = rest })

  module _ (s : Shard fits p) (r : Holds fits p s) (id i : ℕ) (name : Option ℕ) (v : View T)
      (k : Resident)
      (at : slice_get s.views id ≡ Some v) (seated : is_seated v ≡ true)
      (at_slot : slice_get r.world.slots i ≡ Some (slots.Shareable k)) where
    there : entry_in (slice_get r.world.slots i) ≡ Some k.entry
    there = ap entry_in at_slot

    pub kept : IsStored p.geometry.room s.words r.books i k.entry
    kept = r.stored i k.entry there

    abbrev made : Made
    made = kept.made

    abbrev stamp : Stamp
    stamp = k.entry.stamp

    right : IsRight fits p.tag p.geometry.room made
    right = r.stamps.right k.entry.stamp kept.made kept.listed

    charge_is : k.entry.charge ≡ made.charge
    charge_is = ap (λ (e : Entry). e.charge) kept.same

    trail_is : k.trail ≡ trail_to p.geometry.slots made.key i
    trail_is = r.trails.entries i (slots.Shareable k) at_slot
        ∙ ap (λ (e : Entry). trail_to p.geometry.slots (key_of e) i) kept.same

    -- With no name, no reference stands there.
    leaves_none : weight k.references ≡ 0 → Leaves s r i None v k v.records
    leaves_none light =
        let none : k.references ≡ [] = empty_is k.references
        (unreferenced fits p s r i k at_slot light) in
        record {
          alone = rw none refl;
          here = λ h. rw none (omega arith);
          elsewhere = λ j h other. refl;
          holding = let old = r.holding id v at in record
              { recorded = old.recorded; once = old.once; few = old.few };
        }

    -- With one, it is the client's own.
    leaves_one : (x : ℕ) (q : Record) → OnEntry fits p s r id i x v q k → q.weight ≡ 1
        → weight k.references ≡ 1
        → Leaves s r i (Some x) v k (dropped (is_called x) v.records)
    leaves_one x q o one light =
        let count = r.references i (slots.Shareable k) at_slot (λ j. 1) in
        let weighs = r.references i (slots.Shareable k) at_slot (λ j. j.weight) in
        let few = total-le (held i (λ j. 1)) (held i (λ (j : Reference). j.weight)) s.views
        (λ j u at_u. records_weigh r.world.slots i u.records (r.holding j u at_u).recorded) in
        let found = reference_there fits p s r id i x v q k o in
        let alone : k.references ≡ reference_of v.client q ∷ [] =
        only_found (is_named v.client x) k.references (reference_of v.client q) (omega arith)
        found in
        let passes : is_named v.client x (reference_of v.client q) ≡ true =
        find_passes (is_named v.client x) k.references (reference_of v.client q) found in
        let new : View T = record v { records = dropped (is_called x) v.records } in
        let gone : dropped (is_named v.client x) k.references ≡ [] = rw (alone, passes) refl in
        record {
          alone = rw (alone, passes, one) refl;
          here = λ h.
              let lost = loses fits p s r id i x v q k o
              (dropped (is_named v.client x) k.references) new refl refl refl h in
              let none : total h (dropped (is_named v.client x) k.references) ≡ 0 =
              ap (total h) gone in
              omega arith;
          elsewhere = λ j h other. loses_no_other fits p s r id i x v q k o new refl refl j h other;
          holding = holds_less fits p s r id i x v q k o new refl;
        }

    module _ (word : ℕ) (leaves : Leaves s r i name v k (records_left name v.records))
        (word_is : word ≡ code_of (slots.Shareable k)) (idle : owns_nothing v.work.owned ≡ true)
        (back : v.work.trail ≡ []) (named : IfSome name (λ x. x < 2 ^ 64))
        (space : v.work.freed + 2 ^ 32 ≤ 2 ^ 49) where
      abbrev new : View T
      new = after_free p.geometry.slots i word name stamp made v

      abbrev left : Slot
      left = slots.Building v.client 0

      abbrev event : Event
      event = events.Free v.client i name

      abbrev reply : Reply
      reply = replies.Freed k.entry.charge

      client : slice_get r.world.clients v.client ≡ Some v.work
      client = client_is fits p s r id v at seated

      -- no record is left on the slot
      all_of : total (λ (j : Reference). 1) k.references ≡ total (held i (λ j. 1)) s.views
      all_of = r.references i (slots.Shareable k) at_slot (λ j. 1)

      none_mine : count_on i (records_left name v.records) ≡ 0
      none_mine =
          let lost = leaves.here (λ j. 1) in
          let all = all_of in
          let member = total-member (held i (λ j. 1)) s.views id v at in
          omega arith

      none_theirs : (j : ℕ) (u : View T) → j ≢ id → slice_get s.views j ≡ Some u
          → count_on i u.records ≡ 0
      none_theirs j u other at_u =
          let lost = leaves.here (λ j. 1) in
          let all = all_of in
          let both = total-two (held i (λ j. 1)) s.views j id u v other at_u at in
          omega arith

      becomes : client_freeing v.client i (slots.Shareable k) v.work ≡ new.work
      becomes =
          let dead = dead_told p.tag r.world r.books s.views id i v (slots.Shareable k)
          (is_lawful r.world r.lawful) r.references r.seats (r.holding id v at).recorded at
          seated at_slot in
          freeing_is v.client i k v.work (trail_to p.geometry.slots made.key i) made.charge
          (joined v.work.dead (found_dead i word v)) trail_is charge_is
          (ap (joined v.work.dead) (sym (ap (λ z. found_dead i z v) word_is ∙ dead)))

      pub freed_step : SlotStep fits p s r id i v new (slots.Shareable k) left event reply
      freed_step = record {
        at_view = at;
        at_slot = at_slot;
        seated = seated;
        same = record { tag = refl; client = refl; others = refl; turns = refl; glimpse = refl };
        live = live_is fits p s r id v at seated;
        allowed = by_client r.world event reply i v.client left
            (client_freeing v.client i (slots.Shareable k) v.work) new.work becomes
            (free_allowed r.world v.client i name v.work k (is_lawful r.world r.lawful) at_slot
            client (live_is fits p s r id v at seated) idle back leaves.alone named);
        grows = λ n m listed. listed;
        stored = λ entry is. cc;
        drafted = record {
          short = made_short p.geometry.room stamp.client made right.short;
          lies = λ j owns. let same : i ≡ j = cc in rw (← same) kept.lies;
        };
        here = λ h. let lost = leaves.here h in omega arith;
        elsewhere = λ j h other. leaves.elsewhere j h other;
        holding = record {
          recorded = records_else r.world.slots i left (records_left name v.records) none_mine
              leaves.holding.recorded;
          once = leaves.holding.once;
          few = leaves.holding.few;
        };
        recorded = λ j u other at_u. records_else r.world.slots i left u.records
            (none_theirs j u other at_u) (r.holding j u at_u).recorded;
        counted = stamps_are fits p s r id v at seated;
        right = was_right fits p s r id v at seated;
        paid = omega arith;
        weighs = λ h.
            let push : taken_weigh h (v.gone ++ record { stamp = stamp; made = made } ∷ [])
            ≡ taken_weigh h v.gone + (h stamp + 0) =
            total-append (λ (g : Gone). h g.stamp) v.gone (record { stamp = stamp; made = made }
            ∷ []) in
            omega arith;
        given =
            let old = r.stamps.given id v at in
            let same = set_same r.books v.client v.made (book_is fits p s r id v at seated) in
            rw same record {
              count =
                  let more = length-append v.gone (record { stamp = stamp; made = made } ∷ []) in
                  let count = old.count in
                  omega arith;
              each = each_append (λ (g : Gone). made_at r.books g.stamp ≡ Some g.made) v.gone
                  (record { stamp = stamp; made = made } ∷ []) old.each (kept.listed, tt);
            };
        usage = let charge = charge_is in omega arith;
        occupancy = omega arith;
        standing = refl;
        modest =
            let old = r.ledgers.modest v.client v.work client in
            let small = right.small in
            record { asked = old.asked; freed = omega arith; few = old.few; small = old.small };
        passed = λ j.
            let trail = ap (times j) trail_is in
            let none : times j v.work.trail ≡ 0 = ap (times j) back in
            omega arith;
        trailed = tt;
        tags =
            let old = r.tags.each id v at in
            let same = set_same r.books v.client v.made (book_is fits p s r id v at seated) in
            record {
              made = λ stamp made h. rw same h;
              apart = λ c. rw same (r.tags.apart c);
              kept = λ slot w builds. absurd (not_building v.work.owned slot idle builds.0);
              next = λ slot w builds. let bad = builds.0 in cc;
              word = λ slot low. inl (stamp_kept p.geometry.room i (code_of left) s.words slot);
              looked = old.looked;
              glimpse = old.glimpse;
            };
      }

  -- The exchange took the slot, or it was a look.
  module _ (s : Shard fits p) (r : Holds fits p s) (count id i a old : ℕ) (name : Option ℕ)
      (me : Held T) (at_view : slice_get s.views id ≡ Some me.0) (seated : is_seated me.0 ≡ true)
      (address : a ≡ field_at p.geometry.room i META) (entry : is_shareable old ≡ true)
      (last : IsLast i old name me.0) (idle : owns_nothing me.0.work.owned ≡ true)
      (back : me.0.work.trail ≡ []) (space : me.0.work.freed + 2 ^ 32 ≤ 2 ^ 49) where
    abbrev word : ℕ
    word = slice_index s.words a

    abbrev then : ℕ → Held T → Option Done → Type 0
    then = frees fits p.geometry.slots p.geometry.room i name
        (step count a old CONSTRUCTION_WORD none) me

    word_is : (t : Slot) → slice_get r.world.slots i ≡ Some t → word ≡ code_of t
    word_is t at_slot = ap (slice_index s.words) address ∙ r.coded.meta i t at_slot

    named : (o : Option ℕ) → IsLast i old o me.0 → IfSome o (λ x. x < 2 ^ 64)
    named None h = tt
    named (Some x) h = h.0

    -- what the slot's references leave, by the name that is given
    leaving : (k : Resident) → slice_get r.world.slots i ≡ Some (slots.Shareable k)
        → refs_of old ≡ weight k.references
        → (o : Option ℕ) → IsLast i old o me.0
        → Leaves s r i o me.0 k (records_left o me.0.records)
    leaving k at_slot refs None h = leaves_none s r id i name me.0 k at_view seated at_slot
        (sym refs ∙ h)
    leaving k at_slot refs (Some x) h = of_record (record_in x me.0.records) refl h.2
      where
        of_record : (o : Option Record) → record_in x me.0.records ≡ o
            → IsSomeAnd o (λ q. (q.slot ≡ i) × (q.weight ≡ 1))
            → Leaves s r i (Some x) me.0 k (dropped (is_called x) me.0.records)
        of_record None called so = absurd so
        of_record (Some q) called so =
            let found = on_some fits p s r id i x me.0 q at_view seated called so.0 in
            let both : Some (slots.Shareable found.0) ≡ Some (slots.Shareable k) =
            sym found.1.at_slot ∙ at_slot in
            let one : found.0 ≡ k = cc in
            leaves_one s r id i (Some x) me.0 k at_view seated at_slot x q
            (record {
              at_view = at_view;
              at_slot = at_slot;
              seated = seated;
              called = called;
              on =
                  so.0;
              entry = ap (λ (z : Resident). z.entry) (sym one) ∙ found.1.entry;
            })
            so.1 (sym refs ∙ h.1)

    -- the entry on record is the one that is taken
    same_entry : (k : Resident) → slice_get r.world.slots i ≡ Some (slots.Shareable k)
        → (e : Entry) → k.entry ≡ e
        → (o : Option ℕ) → IsLast i old o me.0
        → IfSome o (λ x. IfSome (record_in x me.0.records) (λ q. q.entry ≡ e))
    same_entry k at_slot e is None h = tt
    same_entry k at_slot e is (Some x) h = of_record (record_in x me.0.records) refl h.2
      where
        of_record : (o : Option Record) → record_in x me.0.records ≡ o
            → IsSomeAnd o (λ q. (q.slot ≡ i) × (q.weight ≡ 1))
            → IfSome o (λ q. q.entry ≡ e)
        of_record None called so = tt
        of_record (Some q) called so =
            let recorded = find_each (is_called x) (IsRecorded r.world.slots) me.0.records q
            (r.holding id me.0 at_view).recorded called in
            let here : entry_in (slice_get r.world.slots q.slot) ≡ Some k.entry =
            ap (λ j. entry_in (slice_get r.world.slots j)) so.0 ∙ ap entry_in at_slot in
            let both : Some q.entry ≡ Some k.entry = sym recorded.there ∙ here in
            let one : q.entry ≡ k.entry = cc in
            one ∙ is

    rightly : (made : Made) → IsRight fits p.tag p.geometry.room made → (o : Option T)
        → IfSome o (λ t. t ≡ p.tag)
        → IfSome o (λ t. IsRight fits t p.geometry.room made)
    rightly made right None h = tt
    rightly made right (Some t) h = rw h right

    takes_entry : (k : Resident) → slice_get r.world.slots i ≡ Some (slots.Shareable k)
        → code_of (slots.Shareable k) ≡ old → (word == old) ≡ true
        → Goes fits p s r a CONSTRUCTION_WORD id me then
    takes_entry k at_slot same is =
        goes fits p s r a CONSTRUCTION_WORD id i me
        (after_free p.geometry.slots i word name k.entry.stamp stored.made me.0)
        (slots.Shareable k) (slots.Building me.0.client 0)
        (events.Free me.0.client i name) (replies.Freed k.entry.charge) then address
        exchange_to_construction (refl, refl)
        (freed_step s r id i name me.0 k at_view seated at_slot word
        (leaving k at_slot refs name last) (word_is (slots.Shareable k) at_slot) idle back
        (named name last) space) (
          refl,
          record {
            won = λ yes. (
              k.entry.stamp,
              stored.made,
              record {
                right = rightly stored.made (r.stamps.right k.entry.stamp stored.made
                    stored.listed) me.0.tag (r.seats.each id me.0 at_view).tagged;
                same = same_entry k at_slot (entry_of k.entry.stamp stored.made) stored.same name
                    last;
              },
              refl,
            );
            lost = λ no. let bad : true ≡ false = sym is ∙ no in cc;
          },
          ap Some (rw is (ap (λ n. did (events.Free me.0.client i name) (replies.Freed n))
              charge)),
        )
      where
        stored : IsStored p.geometry.room s.words r.books i k.entry
        stored = kept s r id i name me.0 k at_view seated at_slot

        refs : refs_of old ≡ weight k.references
        refs = ap refs_of (sym same) ∙ refs_of-shareable k.hit k.shown
            (is_near r.world (is_lawful r.world r.lawful) i k at_slot)

        -- what the client has freed more is the entry's charge
        charge : k.entry.charge ≡ me.0.work.freed + stored.made.charge - me.0.work.freed
        charge =
            let is : k.entry.charge ≡ stored.made.charge =
            ap (λ (e : Entry). e.charge) stored.same in
            omega arith

    takes : (t : Slot) → slice_get r.world.slots i ≡ Some t → code_of t ≡ old
        → (word == old) ≡ true → Goes fits p s r a CONSTRUCTION_WORD id me then
    takes (slots.Empty strays) at_slot same is =
        absurd (false≢true (sym (tells_entry r.world (is_lawful r.world r.lawful) i
        (slots.Empty strays) at_slot) ∙ (ap is_shareable same ∙ entry)))
    takes (slots.Building d strays) at_slot same is =
        absurd (false≢true (sym (tells_entry r.world (is_lawful r.world r.lawful) i
        (slots.Building d strays) at_slot) ∙ (ap is_shareable same ∙ entry)))
    takes (slots.Shareable k) at_slot same is = takes_entry k at_slot same is

    ends : (t : Slot) → slice_get r.world.slots i ≡ Some t → (b : Bool) → (word == old) ≡ b
        → Goes fits p s r a (either b CONSTRUCTION_WORD word) id me then
    ends t at_slot true is = takes t at_slot (sym (word_is t at_slot) ∙ eqb-true word old is) is
    ends t at_slot false is =
        looks_on fits p s r id i a me t then at_slot seated address at_view (
          refl,
          record {
            won = λ yes. let bad : true ≡ false = sym yes ∙ is in cc;
            lost =
                λ no. refl;
          },
          ap Some (rw is (look_told fits p s r i a me.0 t at_slot address)),
        )

  -- The exchange keeps the rule, and tells whether it took the slot.
  pub free_step : (count id i a old : ℕ) (name : Option ℕ) (me : Held T) → i < p.geometry.slots
      → is_seated me.0 ≡ true → a ≡ field_at p.geometry.room i META → is_shareable old ≡ true
      → IsLast i old name me.0 → owns_nothing me.0.work.owned ≡ true → me.0.work.trail ≡ []
      → me.0.work.freed + 2 ^ 32 ≤ 2 ^ 49
      → Acts fits p count id me a (λ y. either (y == old) CONSTRUCTION_WORD y)
      (frees fits p.geometry.slots p.geometry.room i name (step count a old CONSTRUCTION_WORD none)
      me)
  free_step count id i a old name me near seated address entry last idle back space s r homes at
      low =
      let slot = slot_there fits p s r i near in
      ends s r count id i a old name me (read_at s.views id me.0 at) seated address entry last idle
      back space slot.0 slot.1 (slice_index s.words a == old) refl
