-- A step on a ledger word, a displacement word or the hand: what it owes, and that it keeps the
-- rule then. It changes one client and that client's view, or the hand.
use Rattle.std.proofs.Common.{◌≡◌, ℕ, ◌+◌, ◌<◌, ◌≢◌, ◌⊎◌, inl, inr, Bool, true, false, is_some, List, Option, Some, None, Ok, length, slice_get, slice_index, slice_set, sym, refl, ap, ◌∙◌, arith}
use mathlib.Core.Option as maybe
use Rattle.std.proofs.lemmas.Bool.{cases_eq}
use Rattle.atomic_table.specs.Table.{keeps}
use Rattle.hcc_core.specs.declared.event.Event.{Event}
use Rattle.hcc_core.specs.declared.event.Reply.{Reply}
use Rattle.hcc_core.specs.declared.client.Client.{Client}
use Rattle.hcc_core.specs.declared.slot.Entry.{Entry}
use Rattle.hcc_core.specs.declared.slot.Slot.{Slot}
use Rattle.hcc_core.specs.Sums.{total}
use Rattle.hcc_core.specs.World.{State, charge_of, charged_to, taken_by_slot, occupied_by, standing_of, trail_of, times}
use Rattle.hcc_core.specs.Outcomes.{with_client}
use Rattle.hcc_core.specs.Steps.{outcome_of}
use Rattle.hcc_core.specs.Lawful.{owner_in, owned_slot, owned_by}
use Rattle.hcc_core.proofs.Keeps.{follows_lawful}
use Rattle.hcc_core.proofs.Opening.{is_lawful}
use Rattle.hcc_rule.specs.declared.key.Key.{Key}
use Rattle.hcc_rule.specs.declared.layout.TheConstants.{META, DISPLACEMENT, USAGE, OCCUPANCY, STANDING, HAND, STAMP}
use Rattle.hcc_rule.specs.declared.rule.Plan.{Plan}
use Rattle.hcc_rule.specs.declared.view.View.{View}
use Rattle.hcc_rule.specs.Told.{Held}
use Rattle.hcc_rule.specs.Words.{field_at, ledger_at, word_count}
use Rattle.hcc_rule.specs.Views.{is_seated}
use Rattle.hcc_rule.specs.Rule.{entry_in, IsDraft, IsSeated, IsModest, Ledgers, Trails, Holds}
use Rattle.hcc_rule.proofs.Basics.Lists.{within, word_here, word_else, each_set}
use Rattle.hcc_rule.proofs.Parts.Addresses.{field_inside, fields_apart, ledger_apart, ledgers_apart, ledger_inside, Away, ledger_away, displacement_away, lies_away}
use Rattle.hcc_rule.proofs.Parts.WordParts.{AreShort, coded_else, made_short, stored_words, drafted_set}
use Rattle.hcc_rule.proofs.Parts.ClientParts.{SameView, SameSlotWork, references_view, holding_view, seats_view, stamps_view, Moves, sum_moved}
use Rattle.hcc_rule.proofs.Parts.WorldParts.{Turning, hand_set}
use Rattle.hcc_rule.proofs.Parts.SlotSteps.{Shard, after, size_is}
use Rattle.hcc_rule.proofs.Parts.Touches.{client_is}
use Rattle.hcc_rule.specs.Acts.{Goes, IsStepBy, did}
use Rattle.hcc_rule.specs.declared.view.Done.{Done}
use Rattle.hcc_rule.proofs.Parts.Tags.{quiet, tags_step}

-- a place that is neither a meta word nor a data word
pub record IsAside (size room a : ℕ) : Type 0 where
  pub meta : (s : ℕ) → s < size → field_at room s META ≢ a
  pub written : (s : ℕ) → s < size → Away room a s

-- What such a step pays: each word of a sum moves as the client's part of it does. The word at a
-- was x and is y, and the hand was h and is k.
pub record Pays (size room a x y h k : ℕ) (old new : Client) : Type 0 where
  pub aside : IsAside size room a
  pub usage : Moves a (ledger_at size room USAGE) x y charged_to old new
  pub occupancy : Moves a (ledger_at size room OCCUPANCY) x y occupied_by old new
  pub standing : Moves a (ledger_at size room STANDING) x y standing_of old new
  pub passed : (s : ℕ) → s < size
      → Moves a (field_at room s DISPLACEMENT) x y (λ (c : Client). times s c.trail) old new
  pub hand : ((a ≡ ledger_at size room HAND) × (y ≡ k))
      ⊎ ((ledger_at size room HAND ≢ a) × (k ≡ h))

-- The ledger words and the displacement words are such places.
ledger_aside : (size room ledger : ℕ) → IsAside size room (ledger_at size room ledger)
ledger_aside size room ledger = record {
  meta = λ s near. ledger_apart size room s META ledger near (omega arith);
  written = λ s near. ledger_away size room ledger s near;
}

displacement_aside : (size room i : ℕ) → IsAside size room (field_at room i DISPLACEMENT)
displacement_aside size room i = record {
  meta = λ s near e.
      let bad = (fields_apart room s i META DISPLACEMENT (omega arith) (omega arith) e).1 in
      absurd (omega arith);
  written = λ s near. displacement_away room i s;
}

-- what a step on one of the words pays, where it leaves the other sums
module _ (size room x y h : ℕ) (old new : Client) where
  other_ledger : (j k : ℕ) → j ≢ k → ledger_at size room j ≢ ledger_at size room k
  other_ledger j k other e = other (ledgers_apart size room j k e)

  pub on_usage : y + charged_to old ≡ x + charged_to new → occupied_by new ≡ occupied_by old
      → standing_of new ≡ standing_of old → new.trail ≡ old.trail
      → Pays size room (ledger_at size room USAGE) x y h h old new
  on_usage paid occupancy standing trail = record {
    aside = ledger_aside size room USAGE;
    usage = inl (refl, paid);
    occupancy = inr (other_ledger OCCUPANCY USAGE (λ e. omega arith), occupancy);
    standing = inr (other_ledger STANDING USAGE (λ e. omega arith), standing);
    passed = λ s near. inr (
      ledger_apart size room s DISPLACEMENT USAGE near (omega arith),
      ap
          (times s) trail,
    );
    hand = inr (other_ledger HAND USAGE (λ e. omega arith), refl);
  }

  pub on_occupancy : y + occupied_by old ≡ x + occupied_by new → charged_to new ≡ charged_to old
      → standing_of new ≡ standing_of old → new.trail ≡ old.trail
      → Pays size room (ledger_at size room OCCUPANCY) x y h h old new
  on_occupancy paid usage standing trail = record {
    aside = ledger_aside size room OCCUPANCY;
    usage = inr (other_ledger USAGE OCCUPANCY (λ e. omega arith), usage);
    occupancy = inl (refl, paid);
    standing = inr (other_ledger STANDING OCCUPANCY (λ e. omega arith), standing);
    passed = λ s near. inr (
      ledger_apart size room s DISPLACEMENT OCCUPANCY near (omega arith),
      ap
          (times s) trail,
    );
    hand = inr (other_ledger HAND OCCUPANCY (λ e. omega arith), refl);
  }

  pub on_standing : y + standing_of old ≡ x + standing_of new → charged_to new ≡ charged_to old
      → occupied_by new ≡ occupied_by old → new.trail ≡ old.trail
      → Pays size room (ledger_at size room STANDING) x y h h old new
  on_standing paid usage occupancy trail = record {
    aside = ledger_aside size room STANDING;
    usage = inr (other_ledger USAGE STANDING (λ e. omega arith), usage);
    occupancy = inr (other_ledger OCCUPANCY STANDING (λ e. omega arith), occupancy);
    standing = inl (refl, paid);
    passed = λ s near. inr (
      ledger_apart size room s DISPLACEMENT STANDING near (omega arith),
      ap
          (times s) trail,
    );
    hand = inr (other_ledger HAND STANDING (λ e. omega arith), refl);
  }

  pub on_displacement : (i : ℕ) → i < size → y + times i old.trail ≡ x + times i new.trail
      → ((s : ℕ) → s ≢ i → times s new.trail ≡ times s old.trail)
      → charged_to new ≡ charged_to old → occupied_by new ≡ occupied_by old
      → standing_of new ≡ standing_of old
      → Pays size room (field_at room i DISPLACEMENT) x y h h old new
  on_displacement i low paid others usage occupancy standing = record {
    aside = displacement_aside size room i;
    usage = inr (λ e. ledger_apart size room i DISPLACEMENT USAGE low (omega arith) (sym e), usage);
    occupancy = inr (
      λ e. ledger_apart size room i DISPLACEMENT OCCUPANCY low (omega arith) (sym e),
      occupancy,
    );
    standing = inr (
      λ e. ledger_apart size room i DISPLACEMENT STANDING low (omega arith) (sym e),
      standing,
    );
    passed = λ s near. elim (cases_eq s i) [
      | inl same ↦ rw same (inl (refl, paid))
      | inr other ↦ inr (
        λ e. other (fields_apart room s i DISPLACEMENT DISPLACEMENT (omega arith)
            (omega arith) e).0,
        others s other,
      )
    ];
    hand = inr (λ e. ledger_apart size room i DISPLACEMENT HAND low (omega arith) (sym e), refl);
  }

  pub on_hand : charged_to new ≡ charged_to old → occupied_by new ≡ occupied_by old
      → standing_of new ≡ standing_of old → new.trail ≡ old.trail
      → Pays size room (ledger_at size room HAND) x y h y old new
  on_hand usage occupancy standing trail = record {
    aside = ledger_aside size room HAND;
    usage = inr (other_ledger USAGE HAND (λ e. omega arith), usage);
    occupancy = inr (other_ledger OCCUPANCY HAND (λ e. omega arith), occupancy);
    standing = inr (other_ledger STANDING HAND (λ e. omega arith), standing);
    passed = λ s near. inr (
      ledger_apart size room s DISPLACEMENT HAND near (omega arith),
      ap
          (times s) trail,
    );
    hand = inl (refl, refl);
  }

-- the slot of an entry is there
entry_near : (all : List Slot) (s : ℕ) (o : Option Slot) → slice_get all s ≡ o
    → (e : Entry) → entry_in o ≡ Some e → s < length all
entry_near all s None at e h = cc
entry_near all s (Some slot) at e h = within all s slot at

-- and so is one that a client owns
owner_near : (all : List Slot) (s c : ℕ) (o : Option Slot) → slice_get all s ≡ o
    → owner_in o ≡ Some c → s < length all
owner_near all s c None at h = cc
owner_near all s c (Some slot) at h = within all s slot at

-- Ledgers and trails after the step, by what it pays.
ledgers_paid : (size room a y h k c : ℕ) (w : State) (words : List ℕ) (old new : Client)
    → length words ≡ word_count size room → Ledgers size room w words
    → slice_get w.clients c ≡ Some old
    → Pays size room a (slice_index words a) y h k old new → IsModest new
    → Ledgers size room (record (with_client w c new) { hand = k }) (slice_set words a y)
ledgers_paid size room a y h k c w words old new wide ledgers at pays modest = record {
  usage =
      sum_moved words a _ y (total charge_of w.slots) c charged_to w.clients old new
      (rw wide (ledger_inside size room USAGE (omega arith))) at ledgers.usage pays.usage;
  occupancy =
      sum_moved words a _ y (total taken_by_slot w.slots) c occupied_by w.clients old new
      (rw wide (ledger_inside size room OCCUPANCY (omega arith))) at ledgers.occupancy
      pays.occupancy;
  standing =
      let found = ledgers.standing in
      let was : slice_index words (ledger_at size room STANDING) ≡ 0 + total standing_of w.clients =
      omega arith in
      let now =
      sum_moved words a _ y 0 c standing_of w.clients old new
      (rw wide (ledger_inside size room STANDING (omega arith))) at was pays.standing in
      omega arith;
  modest = each_set (λ _ client. IsModest client) w.clients c new modest
      (λ j client other there. ledgers.modest j client there);
}

trails_paid : (size room a y h k c : ℕ) (all : List Slot) (clients : List Client) (words : List ℕ)
    (old new : Client)
    → length words ≡ word_count size room → Trails size room all clients words
    → slice_get clients c ≡ Some old
    → Pays size room a (slice_index words a) y h k old new
    → Trails size room all (slice_set clients c new) (slice_set words a y)
trails_paid size room a y h k c all clients words old new wide trails at pays = record {
  passed = λ s near.
      sum_moved words a _ y (total (λ z. times s (trail_of z)) all) c
      (λ (j : Client). times s j.trail) clients old new
      (rw wide (field_inside size room s DISPLACEMENT near (omega arith))) at (trails.passed s near)
      (pays.passed s near);
  entries = trails.entries;
}

hand_paid : (size room a y h k : ℕ) (words : List ℕ) (old new : Client)
    → length words ≡ word_count size room → slice_index words (ledger_at size room HAND) ≡ h
    → Pays size room a (slice_index words a) y h k old new
    → slice_index (slice_set words a y) (ledger_at size room HAND) ≡ k
hand_paid size room a y h k words old new wide is pays = elim pays.hand [
  | inl here ↦
      let low : ledger_at size room HAND < length words =
      rw wide (ledger_inside size room HAND (omega arith)) in
      ap (λ j. slice_index (slice_set words j y) (ledger_at size room HAND)) here.0
      ∙ (word_here words (ledger_at size room HAND) y low ∙ here.1)
  | inr else ↦ word_else words a (ledger_at size room HAND) y else.0 ∙ (is ∙ sym else.1)
]

module _ {T : Type 0} (fits : T → Key → List ℕ → Type 0) (p : Plan T) where
  -- What such a step owes: the word at a becomes y, and the hand k.
  pub record Aside (s : Shard fits p) (r : Holds fits p s) (id a y k : ℕ) (v new : View T)
      (event : Event) (reply : Reply) : Type 0 where
    pub at_view : slice_get s.views id ≡ Some v
    pub seated : is_seated v ≡ true
    pub same : SameView v new
    pub written : new.written ≡ v.written
    pub glimpse : new.glimpse ≡ v.glimpse
    pub turning : Turning v new r.world.hand k
    pub work : SameSlotWork v.work new.work
    pub allowed : outcome_of r.world event
        ≡ Ok (reply, record (with_client r.world v.client new.work) { hand = k })
    pub modest : IsModest new.work
    pub pays : Pays p.geometry.slots p.geometry.room a (slice_index s.words a) y r.world.hand k
        v.work new.work

  pub aside_stepped : (s : Shard fits p) (r : Holds fits p s)
      (homes : List (maybe.Option (Unit {0}))) (id a y k : ℕ) (v new : View T) (event : Event)
      (reply : Reply)
      → Aside s r id a y k v new event reply
      → Holds fits p (after fits p s homes a y id new)
  aside_stepped s r homes id a y k v new event reply m = record {
    world = world;
    books = r.books;
    setup = r.setup;
    lawful = follows_lawful r.world event (Ok reply) world r.lawful m.allowed;
    coded = coded_else room all s.words a y r.coded (λ j low. aside.meta j (near j low));
    stored =
        stored_words room all s.words r.books a y short
        (λ j entry there. aside.written j (near j (entry_near all j _ refl entry there))) r.stored;
    drafted =
        drafted_set room s.words s.views id a y new draft
        (λ j u other at i owns. aside.written i (owned_near j u at i owns)) r.drafted;
    references = references_view all s.views id v new r.references m.at_view m.same;
    holding = holding_view all s.views id v new r.holding m.at_view m.same;
    seats = seats_view p.tag clients r.books s.views id v new r.seats m.at_view m.seated m.same
        m.work;
    stamps =
        stamps_view fits p.tag room all clients r.books s.views id v new r.stamps m.at_view
        at_client
        m.same m.work;
    ledgers =
        ledgers_paid size room a y r.world.hand k v.client r.world s.words v.work new.work wide
        r.ledgers at_client m.pays m.modest;
    trails =
        trails_paid size room a y r.world.hand k v.client all clients s.words v.work new.work wide
        r.trails at_client m.pays;
    turned = hand_paid size room a y r.world.hand k s.words v.work new.work wide r.turned m.pays;
    turns = hand_set s.views id r.world.hand k v new r.turns m.at_view m.turning;
    tags =
        let old = r.tags.each id v m.at_view in
        tags_step size room s.words (slice_set s.words a y) r.books r.books s.views id v new
        m.at_view
        (quiet size room s.words (slice_set s.words a y) r.books r.books s.views id v new old
        r.tags.apart refl (ap (λ (c : Client). c.owned) m.work) m.written m.same.client m.same.made
        (λ slot low. word_else s.words a _ y (aside.written slot low STAMP (omega arith)))
        (rw (ap (λ (c : Client). c.looked) m.work) old.looked)
        (rw m.glimpse old.glimpse)) r.tags;
  }
    where
      room : ℕ
      room = p.geometry.room

      size : ℕ
      size = p.geometry.slots

      all : List Slot
      all = r.world.slots

      clients : List Client
      clients = r.world.clients

      world : State
      world = record (with_client r.world v.client new.work) { hand = k }

      aside : IsAside p.geometry.slots p.geometry.room a
      aside = m.pays.aside

      at_client : slice_get r.world.clients v.client ≡ Some v.work
      at_client = client_is fits p s r id v m.at_view m.seated

      wide : length s.words ≡ word_count p.geometry.slots p.geometry.room
      wide = r.coded.wide ∙ ap (λ n. word_count n p.geometry.room) (size_is fits p s r)

      near : (j : ℕ) → j < length r.world.slots → j < p.geometry.slots
      near j low = rw (← size_is fits p s r) low

      short : AreShort p.geometry.room r.books
      short stamp made listed = made_short p.geometry.room stamp.client made
          (r.stamps.right stamp made listed).short

      owned_near : (j : ℕ) (u : View T) → slice_get s.views j ≡ Some u → (i : ℕ)
          → owned_slot u.work.owned ≡ Some i → i < p.geometry.slots
      owned_near j u at i owns = by (is_seated u) refl
        where
          seat : IsSeated p.tag r.world.clients r.books u
          seat = r.seats.each j u at

          by : (b : Bool) → is_seated u ≡ b → i < p.geometry.slots
          by true sits =
              let owned : owned_by (slice_get r.world.clients u.client) ≡ Some i =
              ap owned_by (seat.work sits) ∙ owns in
              near i (owner_near r.world.slots i u.client _ refl
              ((is_lawful r.world r.lawful).owners.owned i u.client owned))
          by false empty = none_of u.tag refl
            where
              none_of : (o : Option T) → u.tag ≡ o → i < p.geometry.slots
              none_of None is = let bad = (seat.spent is).2 in cc
              none_of (Some t) is = let bad : true ≡ false = sym (ap is_some is) ∙ empty in cc

      draft : IsDraft p.geometry.room (slice_set s.words a y) new
      draft =
          let old = r.drafted id v m.at_view in
          let owned : new.work.owned ≡ v.work.owned = ap (λ (c : Client). c.owned) m.work in
          record {
            short = rw m.written old.short;
            lies = λ j owns.
                let owns_v : owned_slot v.work.owned ≡ Some j = ap owned_slot (sym owned) ∙ owns in
                let away = aside.written j (owned_near id v m.at_view j owns_v) in
                rw m.written (lies_away p.geometry.room j a y s.words v.written old.short away
                (old.lies j owns_v));
          }

  -- The seat goes on with the word y at a.
  pub goes_aside : (s : Shard fits p) (r : Holds fits p s) (id a y k : ℕ) (me : Held T)
      (new : View T) (event : Event) (reply : Reply) (then : ℕ → Held T → Option Done → Type 0)
      → IsStepBy me.0.client event → Aside s r id a y k me.0 new event reply
      → then (slice_index s.words a) (new, me.1) (Some (did event reply))
      → Goes fits p s r a y id me then
  unfolding aside_stepped
  goes_aside s r id a y k me new event reply then mine m told = (
    new,
    keeps,
    tt,
    Some (did event reply),
    (aside_stepped s r s.homes id a y k me.0 new event reply m, (mine, m.allowed)),
    told,
  )
