-- A load of a meta word: the client looks at the slot.
use Rattle.std.proofs.Common.{◌≡◌, ◌⊎◌, inr, IfSome, cond, is_some, ℕ, ◌^◌, ◌<◌, ◌≤◌, true, List, Some, Ok, length, slice_get, slice_index, refl, ap, ◌∙◌, arith, Bool, false, ◌||◌, Option, None, [], ◌∷◌, sym, option_map}
use Rattle.std.proofs.lemmas.Bool.{lt-ltb, eqb-true, eq-eqb}
use mathlib.Core.Option.{none}
use Rattle.atomic_table.specs.Table.{step}
use Rattle.hcc_core.specs.declared.event.Event.{Event}
use Rattle.hcc_core.specs.declared.event.Event.TheVariants as events
use Rattle.hcc_core.specs.declared.event.Reply.{Reply}
use Rattle.hcc_core.specs.declared.event.Reply.TheVariants as replies
use Rattle.hcc_core.specs.declared.client.Client.{Client}
use Rattle.hcc_core.specs.declared.slot.Slot.{Slot}
use Rattle.hcc_core.specs.World.{State, is_shareable as is_entry, phase_of, weight, references_of}
use Rattle.hcc_core.specs.Outcomes.{with_both}
use Rattle.hcc_core.specs.References.{client_looked}
use Rattle.hcc_core.specs.Steps.{outcome_of, fits as in_bits}
use Rattle.hcc_core.specs.Lawful.{Lawful}
use Rattle.hcc_core.proofs.ListLemmas.{set_same}
use Rattle.hcc_core.proofs.Opening.{is_lawful}
use Rattle.hcc_rule.specs.declared.key.Key.{Key}
use Rattle.hcc_rule.specs.declared.layout.TheConstants.{META}
use Rattle.hcc_rule.specs.declared.rule.Plan.{Plan}
use Rattle.hcc_rule.specs.declared.view.View.{View}
use Rattle.hcc_rule.specs.Told.{Held}
use Rattle.hcc_rule.specs.Looked.{Backs, after_look, looks}
use Rattle.hcc_word.proofs.CodeLaws.{refs_of-shareable}
use Rattle.hcc_core.specs.declared.slot.Reference.{Reference}
use Rattle.hcc_core.specs.declared.slot.Slot.TheVariants as slots
use Rattle.hcc_core.specs.Sums.{total}
use Rattle.hcc_core.proofs.SumLemmas.{total-member}
use Rattle.hcc_rule.specs.Views.{is_seated, held, Each, is_on}
use Rattle.hcc_rule.specs.Records.{weight_on, stamp_on}
use Rattle.hcc_rule.specs.Words.{field_at, code_of}
use Rattle.hcc_rule.specs.Rule.{Holds, entry_by, entry_in, IsRecorded, setup_of}
use Rattle.hcc_rule.proofs.Basics.Lists.{within, there, read_at, each_map}
use Rattle.hcc_rule.proofs.Parts.Codes.{tells_entry, tells_phase, is_near}
use Rattle.hcc_rule.proofs.Parts.Clients.{dead_told}
use Rattle.hcc_rule.proofs.Parts.SlotSteps.{Shard, size_is}
use Rattle.hcc_rule.proofs.Parts.Touches.{by_client, touched, goes, client_is, live_is}
use Rattle.std.specs.List.{list_any}
use Rattle.hcc_core.specs.declared.slot.Entry.{Entry}
use Rattle.hcc_rule.specs.declared.view.Record.{Record}
use Rattle.hcc_word.specs.Word.{is_shareable, refs_of}
use Rattle.hcc_core.specs.declared.setup.Setup.{Setup}
use Rattle.hcc_rule.proofs.Limits.Alone.{held_alone}
use Rattle.hcc_rule.proofs.Basics.Findings.{some_found, any_some, find_passes, find_each}
use Rattle.hcc_rule.specs.Acts.{Acts, Goes, did}
use Rattle.hcc_rule.specs.declared.view.Done.{Done}
use Rattle.hcc_rule.specs.Events.{look_done, phase_in}

-- numbers of slots and clients fit their fields
pub slot_fits : (w : State) (i : ℕ) → Lawful w → i < length w.slots → in_bits 32 i ≡ true
slot_fits w i l low = let few = l.sized.few_slots in let count =
    l.sized.slot_count in lt-ltb i (2 ^ 32) (omega arith)

pub client_fits : (w : State) (c : ℕ) → Lawful w → c < length w.clients → in_bits 32 c ≡ true
client_fits w c l low = let few = l.sized.few_clients in let count =
    l.sized.client_count in lt-ltb c (2 ^ 32) (omega arith)

-- a look is allowed to each live client at each slot
look_gives : (w : State) (c i : ℕ) (found : Client) (t : Slot) → Lawful w
    → slice_get w.slots i ≡ Some t → slice_get w.clients c ≡ Some found → found.live ≡ true
    → outcome_of w (events.Look c i) ≡ Ok
    (replies.Saw (phase_of t), with_both w i t c (client_looked c i t found))
unfolding outcome_of
look_gives w c i found t l at_slot at_client live =
    rw (
      client_fits w c l (within w.clients c found at_client),
      slot_fits w i l
          (within w.slots i t at_slot),
      at_slot,
      at_client,
      live,
      set_same w.slots i t at_slot,
    ) refl

or_later : (a b : Bool) → b ≡ true → (a || b) ≡ true
or_later true b is = refl
or_later false b is = is

-- a look that found an entry's word found an entry
pub looks_there : {T : Type 0} (w : State) (l : Lawful w) (i : ℕ) (t : Slot) (word : ℕ)
    (v : View T)
    → slice_get w.slots i ≡ Some t → word ≡ code_of t
    → IfSome (after_look i word v).work.looked (λ slot. (v.work.looked ≡ Some slot)
    ⊎ ((slot ≡ i) × (is_some (entry_by t) ≡ true)))
looks_there w l i t word v at_slot word_is =
    let told = tells_entry w l i t at_slot in
    by t (is_shareable word) (ap is_shareable word_is ∙ told)
  where
    by : (t : Slot) (b : Bool) → b ≡ is_entry t
        → IfSome (cond b (Some i) None) (λ slot. (v.work.looked ≡ Some slot)
        ⊎ ((slot ≡ i) × (is_some (entry_by t) ≡ true)))
    by (slots.Empty strays) true is = cc
    by (slots.Building client strays) true is = cc
    by (slots.Shareable k) true is = inr (refl, refl)
    by t false is = tt

-- where all records of a slot are on one entry, the first that is found tells its stamp
stamp_found : (i : ℕ) (e : Entry) (rs : List Record)
    → Each (λ q. q.slot ≡ i → Some e ≡ Some q.entry) rs
    → list_any (is_on i) rs ≡ true → stamp_on i rs ≡ Some e.stamp
stamp_found i e rs each any =
    let found = some_found (is_on i) rs (any_some (is_on i) rs any) in
    let on = eqb-true found.0.slot i (find_passes (is_on i) rs found.0 found.1) in
    let same = find_each (is_on i) (λ q. q.slot ≡ i → Some e ≡ Some q.entry) rs found.0 each found.1
    on in
    ap (option_map (λ (r : Record). r.entry.stamp)) (found.1)
    ∙ ap (option_map (λ (z : Entry). z.stamp)) (sym same)

-- which is that of each of them
stamps_from : (i : ℕ) (e : Entry) (all rs : List Record)
    → (list_any (is_on i) rs ≡ true → stamp_on i all ≡ Some e.stamp)
    → Each (λ q. q.slot ≡ i → Some e ≡ Some q.entry) rs
    → Each (λ (r : Record). r.slot ≡ i → stamp_on i all ≡ Some r.entry.stamp) rs
stamps_from i e all [] told each = tt
stamps_from i e all (r ∷ rs) told each = (
  (λ on. told (ap (λ b. b || list_any (is_on i) rs) (eq-eqb r.slot i on))
      ∙ ap (option_map (λ (z : Entry). z.stamp)) (each.0 on)),
  stamps_from i e all rs (λ later. told (or_later (is_on i r) (list_any (is_on i) rs) later))
      each.1,
)

module _ {T : Type 0} (fits : T → Key → List ℕ → Type 0) (p : Plan T) where
  -- The word is read, and nothing else.
  pub looks_on : (s : Shard fits p) (r : Holds fits p s) (id i a : ℕ) (me : Held T) (t : Slot)
      (then : ℕ → Held T → Option Done → Type 0)
      → slice_get r.world.slots i ≡ Some t → is_seated me.0 ≡ true
      → a ≡ field_at p.geometry.room i META
      → slice_get s.views id ≡ Some me.0
      → then (slice_index s.words a) (after_look i (slice_index s.words a) me.0, me.1)
      (Some (did (events.Look me.0.client i) (replies.Saw (phase_of t))))
      → Goes fits p s r a (slice_index s.words a) id me then
  looks_on s r id i a me t then at_slot seated address at told =
      goes fits p s r a word id i me new t t event reply then address word_is
      (refl, refl)
      (touched fits p s r id i me.0 new t t event reply record {
        at_view = at;
        at_slot = at_slot;
        seated = seated;
        same = record { tag = refl; client = refl; others = refl; turns = refl; glimpse = refl };
        work = refl;
        store = record { written = refl; made = refl; takings = refl; gone = refl };
        allowed = by_client r.world event reply i me.0.client t
            (client_looked me.0.client i t me.0.work) new.work becomes
            (look_gives r.world me.0.client i me.0.work t l at_slot
            (client_is fits p s r id me.0 at seated) (live_is fits p s r id me.0 at seated));
        like = record { entry = refl; trail = refl };
        here = λ h. refl;
        elsewhere = λ j h other. refl;
        holding = let old = r.holding id me.0 at in record
            { recorded = old.recorded; once = old.once; few = old.few };
        looked = looks_there r.world l i t word me.0 at_slot word_is;
      })
      told
    where
      l : Lawful r.world
      l = is_lawful r.world r.lawful

      event : Event
      event = events.Look me.0.client i

      reply : Reply
      reply = replies.Saw (phase_of t)

      word : ℕ
      word = slice_index s.words a

      new : View T
      new = after_look i word me.0

      word_is : word ≡ code_of t
      word_is = ap (slice_index s.words) address ∙ r.coded.meta i t at_slot

      becomes : client_looked me.0.client i t me.0.work ≡ new.work
      becomes =
          let dead = dead_told p.tag r.world r.books s.views id i me.0 t l r.references r.seats
          (r.holding id me.0 at).recorded at seated at_slot in
          rw (word_is, dead, tells_entry r.world l i t at_slot) refl

  -- its reply is what the word tells
  pub look_told : (s : Shard fits p) (r : Holds fits p s) (i a : ℕ) (v : View T) (t : Slot)
      → slice_get r.world.slots i ≡ Some t → a ≡ field_at p.geometry.room i META
      → did (events.Look v.client i) (replies.Saw (phase_of t))
      ≡ look_done i (slice_index s.words a) v
  look_told s r i a v t at_slot address =
      let word_is : slice_index s.words a ≡ code_of t =
      ap (slice_index s.words) address ∙ r.coded.meta i t at_slot in
      ap (λ phase. did (events.Look v.client i) (replies.Saw phase))
      (sym (ap phase_in word_is ∙ tells_phase r.world (is_lawful r.world r.lawful) i t at_slot))

  -- a client's records on a slot are among its references
  few_on : (s : Shard fits p) (r : Holds fits p s) (id i : ℕ) (v : View T) (t : Slot)
      → slice_get r.world.slots i ≡ Some t → slice_get s.views id ≡ Some v
      → weight_on i v.records ≤ weight (references_of t)
  few_on s r id i v t at_slot at =
      let all = r.references i t at_slot (λ (k : Reference). k.weight) in
      let own : weight_on i v.records ≤ total (held i (λ (k : Reference). k.weight)) s.views =
      total-member (held i (λ (k : Reference). k.weight)) s.views id v at in
      omega arith

  -- each is on the slot's entry
  on_it : (s : Shard fits p) (r : Holds fits p s) (id i : ℕ) (v : View T) (o : Option Entry)
      → entry_in (slice_get r.world.slots i) ≡ o → slice_get s.views id ≡ Some v
      → Each (λ (q : Record). q.slot ≡ i → o ≡ Some q.entry) v.records
  on_it s r id i v o there at =
      each_map (IsRecorded r.world.slots) (λ q. q.slot ≡ i → o ≡ Some q.entry)
      (λ q recorded on. sym there ∙ (ap (λ j. entry_in (slice_get r.world.slots j)) (sym on)
      ∙ recorded.there))
      v.records (r.holding id v at).recorded

  -- what is told where the client holds nothing there
  bare : (i word : ℕ) (v : View T) → Each (λ (q : Record). q.slot ≡ i → None ≡ Some q.entry)
      v.records
      → weight_on i v.records ≡ 0 → Backs i word v
  bare i word v away few = record {
    entry = each_map (λ q. q.slot ≡ i → None ≡ Some q.entry)
        (λ q. q.slot ≡ i → is_shareable word ≡ true) (λ q no on. let bad = no on in cc) v.records
        away;
    enough = λ some. absurd (omega arith);
    one = each_map (λ q. q.slot ≡ i → None ≡ Some q.entry)
        (λ q. q.slot ≡ i → stamp_on i v.records ≡ Some q.entry.stamp)
        (λ q no on. let bad = no on in cc) v.records away;
  }

  -- so its word shows them
  pub backed : (s : Shard fits p) (r : Holds fits p s) (id i word : ℕ) (v : View T) (t : Slot)
      → slice_get r.world.slots i ≡ Some t → slice_get s.views id ≡ Some v → word ≡ code_of t
      → Backs i word v
  backed s r id i word v (slots.Empty strays) at_slot at word_is =
      let few = few_on s r id i v (slots.Empty strays) at_slot at in
      bare i word v (on_it s r id i v None (ap entry_in at_slot) at) (omega arith)
  backed s r id i word v (slots.Building client strays) at_slot at word_is =
      let few = few_on s r id i v (slots.Building client strays) at_slot at in
      bare i word v (on_it s r id i v None (ap entry_in at_slot) at) (omega arith)
  backed s r id i word v (slots.Shareable k) at_slot at word_is =
      let few = few_on s r id i v (slots.Shareable k) at_slot at in
      let l = is_lawful r.world r.lawful in
      let on = on_it s r id i v (Some k.entry) (ap entry_in at_slot) at in
      record {
        entry = each_map (λ q. q.slot ≡ i → Some k.entry ≡ Some q.entry)
            (λ q. q.slot ≡ i → is_shareable word ≡ true)
            (λ q same here. rw word_is (tells_entry r.world l i (slots.Shareable k) at_slot))
            v.records on;
        enough = λ some. rw (
          word_is,
          refs_of-shareable k.hit k.shown
              (is_near r.world l i k at_slot),
        ) few;
        one = stamps_from i k.entry v.records v.records (stamp_found i k.entry v.records on) on;
      }

  -- where there is no other client, its word has no more references than those
  alone_there : (s : Shard fits p) (r : Holds fits p s) (id i word : ℕ) (v : View T) (t : Slot)
      → slice_get r.world.slots i ≡ Some t → slice_get s.views id ≡ Some v → is_seated v ≡ true
      → p.geometry.clients ≡ 1 → word ≡ code_of t → is_shareable word ≡ true
      → refs_of word ≡ weight_on i v.records
  alone_there s r id i word v (slots.Empty strays) at_slot at seated one word_is entry =
      let near = tells_entry r.world (is_lawful r.world r.lawful) i (slots.Empty strays) at_slot in
      let bad : true ≡ false = sym entry ∙ (ap is_shareable word_is ∙ near) in cc
  alone_there s r id i word v (slots.Building client strays) at_slot at seated one word_is entry =
      let near = tells_entry r.world (is_lawful r.world r.lawful) i (slots.Building client strays)
      at_slot in
      let bad : true ≡ false = sym entry ∙ (ap is_shareable word_is ∙ near) in cc
  alone_there s r id i word v (slots.Shareable k) at_slot at seated one word_is entry =
      let weigh : Reference → ℕ = λ (q : Reference). q.weight in
      ap refs_of word_is
      ∙ (refs_of-shareable k.hit k.shown (is_near r.world (is_lawful r.world r.lawful) i k at_slot)
      ∙ (r.references i (slots.Shareable k) at_slot weigh
      ∙ held_alone fits p s r id v at seated one i weigh))

  -- the slot at an index
  pub slot_there : (s : Shard fits p) (r : Holds fits p s) (i : ℕ) → i < p.geometry.slots
      → (t : Slot) × (slice_get r.world.slots i ≡ Some t)
  slot_there s r i near = there r.world.slots i (let size = size_is fits p s r in omega arith)

  -- The load of a slot's meta word keeps the rule, and tells what it found.
  pub look_step : (count id i a : ℕ) (me : Held T) (setup : Setup) → setup ≡ setup_of p
      → i < p.geometry.slots → is_seated me.0 ≡ true
      → a ≡ field_at p.geometry.room i META
      → Acts fits p count id me a (λ n. n) (looks setup i (step count a 0 0 none) me)
  look_step count id i a me setup said near seated address s r homes at low =
      let slot = slot_there s r i near in
      let mine = read_at s.views id me.0 at in
      let word_is = ap (slice_index s.words) address ∙ r.coded.meta i slot.0 slot.1 in
      looks_on s r id i a me slot.0 (looks setup i (step count a 0 0 none) me) slot.1 seated address
      mine (
        refl,
        refl,
        backed s r id i (slice_index s.words a) me.0 slot.0 slot.1 mine word_is,
        λ one. alone_there s r id i (slice_index s.words a) me.0 slot.0 slot.1 mine seated
            (ap (λ (x : Setup). x.clients) (sym said) ∙ one) word_is,
        ap Some (look_told s r i a me.0 slot.0 slot.1 address),
      )
