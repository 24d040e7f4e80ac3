-- A step on the meta word of one slot by one seat: what it owes, and that it keeps the rule then.
use Rattle.std.proofs.Common.{◌≡◌, ℕ, ◌+◌, ◌<◌, ◌≢◌, true, List, Some, Ok, length, slice_get, slice_set, sym, ap, ◌∙◌, arith}
use mathlib.Core.Option as maybe
use Rattle.atomic_table.specs.Table as table
use Rattle.hcc_core.specs.declared.event.Event.{Event}
use Rattle.hcc_core.specs.declared.event.Reply.{Reply}
use Rattle.hcc_core.specs.declared.client.Client.{Client}
use Rattle.hcc_core.specs.declared.slot.Entry.{Entry}
use Rattle.hcc_core.specs.declared.slot.Reference.{Reference}
use Rattle.hcc_core.specs.declared.slot.Slot.{Slot}
use Rattle.hcc_core.specs.declared.slot.Stamp.{Stamp}
use Rattle.hcc_core.specs.Sums.{total}
use Rattle.hcc_core.specs.World.{references_of, taken_by_slot, charge_of, charged_to, occupied_by, standing_of, trail_of, times}
use Rattle.hcc_core.specs.Outcomes.{with_both}
use Rattle.hcc_core.specs.Steps.{outcome_of}
use Rattle.hcc_core.proofs.Keeps.{follows_lawful}
use Rattle.hcc_core.proofs.Opening.{is_lawful}
use Rattle.hcc_rule.specs.declared.key.Key.{Key}
use Rattle.hcc_rule.specs.declared.layout.TheConstants.{META, DISPLACEMENT, HAND}
use Rattle.hcc_rule.specs.declared.rule.Plan.{Plan}
use Rattle.hcc_rule.specs.declared.view.Made.{Made}
use Rattle.hcc_rule.specs.declared.view.View.{View}
use Rattle.hcc_rule.specs.Words.{field_at, ledger_at, code_of}
use Rattle.hcc_rule.specs.Views.{is_seated, held, Each}
use Rattle.hcc_rule.specs.Rule.{Books, made_at, list_weighs, slot_weighs, taken_weigh, entry_by, IsStored, IsDraft, IsRecorded, IsHolding, IsRight, IsModest, IsTrailed, Stamps, Holds, IsGiven}
use Rattle.hcc_rule.specs.Acts.{Becomes, IsStepBy, did}
use Rattle.hcc_rule.proofs.Basics.Lists.{within, word_else}
use Rattle.hcc_rule.proofs.Parts.Addresses.{fields_apart, ledger_apart, meta_away}
use Rattle.hcc_rule.proofs.Parts.WordParts.{AreShort, coded_meta, made_short, stored_words, stored_set, stored_books, drafted_set, draft_meta}
use Rattle.hcc_rule.proofs.Parts.Tags.{TagStep, tags_step}
use Rattle.hcc_rule.proofs.Parts.ViewParts.{references_set, holding_set, seats_set}
use Rattle.hcc_rule.proofs.Parts.WorldParts.{made_grows, stamps_set, ledgers_kept, hand_kept, trails_kept}

module _ {T : Type 0} (fits : T → Key → List ℕ → Type 0) (p : Plan T) where
  abbrev pub Shard : Type 0
  Shard = table.State (Unit {0}) (View T)

  -- the seat stands for the same client, and made no turn
  pub record SameName (v new : View T) : Type 0 where
    pub tag : new.tag ≡ v.tag
    pub client : new.client ≡ v.client
    pub others : new.others ≡ v.others
    pub turns : new.turns ≡ v.turns
    pub glimpse : new.glimpse ≡ v.glimpse

  -- What a step on the meta word of slot i owes, part by part.
  pub record SlotStep (s : Shard) (r : Holds fits p s) (id i : ℕ) (v new : View T) (t left : Slot)
      (event : Event) (reply : Reply) : Type 0 where
    pub at_view : slice_get s.views id ≡ Some v
    pub at_slot : slice_get r.world.slots i ≡ Some t
    pub seated : is_seated v ≡ true
    pub same : SameName v new
    pub live : new.work.live ≡ true
    pub allowed : outcome_of r.world event ≡ Ok (reply, with_both r.world i left v.client new.work)
    pub grows : (n : ℕ) (made : Made) → slice_get v.made n ≡ Some made
        → slice_get new.made n ≡ Some made
    pub stored : (entry : Entry) → entry_by left ≡ Some entry
        → IsStored p.geometry.room s.words (slice_set r.books v.client new.made) i entry
    pub drafted : IsDraft p.geometry.room s.words new
    pub here : (h : Reference → ℕ) → total h (references_of left) + held i h v
        ≡ total h (references_of t) + held i h new
    pub elsewhere : (j : ℕ) (h : Reference → ℕ) → j ≢ i → held j h new ≡ held j h v
    pub holding : IsHolding (slice_set r.world.slots i left) new
    pub recorded : (j : ℕ) (u : View T) → j ≢ id → slice_get s.views j ≡ Some u
        → Each (IsRecorded (slice_set r.world.slots i left)) u.records
    pub counted : new.work.stamps ≡ length new.made
    pub right : (n : ℕ) (made : Made) → slice_get new.made n ≡ Some made
        → IsRight fits p.tag p.geometry.room made
    pub paid : taken_by_slot left + new.takings + length v.made
        ≡ taken_by_slot t + v.takings + length new.made
    pub weighs : (h : Stamp → ℕ)
        → slot_weighs h left + taken_weigh h new.gone + list_weighs h v.client 0 v.made
        ≡ slot_weighs h t + taken_weigh h v.gone + list_weighs h v.client 0 new.made
    pub given : IsGiven (slice_set r.books v.client new.made) new
    pub usage : charge_of left + charged_to new.work ≡ charge_of t + charged_to v.work
    pub occupancy : taken_by_slot left + occupied_by new.work ≡ taken_by_slot t + occupied_by v.work
    pub standing : standing_of new.work ≡ standing_of v.work
    pub modest : IsModest new.work
    pub passed : (j : ℕ) → times j (trail_of left) + times j new.work.trail
        ≡ times j (trail_of t) + times j v.work.trail
    pub trailed : IsTrailed p.geometry.slots i left
    pub tags : TagStep p.geometry.slots p.geometry.room s.words
        (slice_set s.words (field_at p.geometry.room i META) (code_of left)) r.books
        (slice_set r.books v.client new.made) s.views id v new

  -- how many slots the world has
  pub size_is : (s : Shard) (r : Holds fits p s) → length r.world.slots ≡ p.geometry.slots
  size_is s r = (is_lawful r.world r.lawful).sized.slot_count ∙ ap (λ x. x.slots) r.setup

  pub near : (s : Shard) (r : Holds fits p s) (i : ℕ) (t : Slot)
      → slice_get r.world.slots i ≡ Some t → i < p.geometry.slots
  near s r i t at = let low = within r.world.slots i t at in let size = size_is s r in omega arith

  -- the table once the word changed, and the seat's view with it
  abbrev pub after : Shard → List (maybe.Option (Unit {0})) → (a y id : ℕ) → View T → Shard
  after s homes a y id new = record {
    words = slice_set s.words a y;
    homes = homes;
    views =
        slice_set s.views id new;
  }

  pub slot_stepped : (s : Shard) (r : Holds fits p s) (homes : List (maybe.Option (Unit {0})))
      (id i : ℕ) (v new : View T) (t left : Slot) (event : Event) (reply : Reply)
      → SlotStep s r id i v new t left event reply
      → Holds fits p (after s homes (field_at p.geometry.room i META) (code_of left) id new)
  slot_stepped s r homes id i v new t left event reply m = record {
    world = with_both r.world i left v.client new.work;
    books = books;
    setup = r.setup;
    lawful = follows_lawful r.world event (Ok reply) (with_both r.world i left v.client new.work)
        r.lawful m.allowed;
    coded = coded_meta room all s.words i t left r.coded m.at_slot;
    stored =
        stored_words room (slice_set all i left) s.words books a y short_after
        (λ k entry there. meta_away room i k)
        (stored_set room all s.words books i left m.stored
        (stored_books room all s.words r.books books grown r.stored));
    drafted = drafted_set room s.words s.views id a y new
        (draft_meta room s.words i y new m.drafted) (λ j u other at k owns. meta_away room i k)
        r.drafted;
    references = references_set all s.views i id t left v new r.references m.at_slot m.at_view
        m.here m.elsewhere;
    holding = holding_set all (slice_set all i left) s.views id new m.holding m.recorded r.holding;
    seats = seats_set p.tag clients r.books s.views id v new r.seats m.at_view m.seated m.same.tag
        m.same.client m.same.others m.live;
    stamps = stamps;
    ledgers = ledgers_kept size room r.world s.words i v.client a y t left v.work new.work r.ledgers
        m.at_slot at_client m.usage m.occupancy m.standing m.modest
        (λ k e. ledger_apart size room i META k low (omega arith) (sym e));
    trails = trails_kept size room all clients s.words i v.client a y t left v.work new.work
        r.trails m.at_slot at_client m.passed m.trailed
        (λ k close e. let bad = (fields_apart room k i DISPLACEMENT META (omega arith) (omega arith)
        e).1 in absurd (omega arith));
    turned = word_else s.words a (ledger_at size room HAND) y
        (λ e. ledger_apart size room i META HAND low (omega arith) (sym e)) ∙ r.turned;
    turns = r.turns ∙ hand_kept s.views id v new m.at_view m.same.turns;
    tags = tags_step size room s.words (slice_set s.words a y) r.books books s.views id v new
        m.at_view m.tags r.tags;
  }
    where
      room : ℕ
      room = p.geometry.room

      size : ℕ
      size = p.geometry.slots

      all : List Slot
      all = r.world.slots

      clients : List Client
      clients = r.world.clients

      a : ℕ
      a = field_at p.geometry.room i META

      y : ℕ
      y = code_of left

      books : Books
      books = slice_set r.books v.client new.made

      low : i < p.geometry.slots
      low = near s r i t m.at_slot

      at_client : slice_get r.world.clients v.client ≡ Some v.work
      at_client = (r.seats.each id v m.at_view).work m.seated

      at_book : slice_get r.books v.client ≡ Some v.made
      at_book = (r.seats.each id v m.at_view).book m.seated

      stamps : Stamps fits p.tag room (slice_set all i left) (slice_set clients v.client new.work)
          books (slice_set s.views id new)
      stamps = stamps_set fits p.tag room all clients r.books s.views i id t left v new r.stamps
          m.at_slot m.at_view at_client at_book m.counted m.right m.paid m.weighs
          m.grows m.given

      short_after : AreShort room books
      short_after stamp made listed = made_short room stamp.client made
          (stamps.right stamp made listed).short

      grown : (stamp : Stamp) (made : Made) → made_at r.books stamp ≡ Some made
          → made_at books stamp ≡ Some made
      grown = made_grows r.books v.client v.made new.made at_book m.grows

  -- and it shows the world to which its event leads
  pub slot_becomes : (s : Shard) (r : Holds fits p s) (homes : List (maybe.Option (Unit {0})))
      (id i : ℕ) (v new : View T) (t left : Slot) (event : Event) (reply : Reply)
      → IsStepBy v.client event → SlotStep s r id i v new t left event reply
      → Becomes fits p v.client r.world (Some (did event reply))
      (after s homes (field_at p.geometry.room i META) (code_of left) id new)
  unfolding slot_stepped
  slot_becomes s r homes id i v new t left event reply mine m = (
    slot_stepped s r homes id i v new t left event reply m,
    (mine, m.allowed),
  )
