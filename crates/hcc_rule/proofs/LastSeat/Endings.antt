-- The words that are left show the world that the last seat knows.
use Rattle.std.proofs.Common.{◌≡◌, ℕ, true, List, Some, slice_get, slice_index, sym, ap, ◌∙◌, refl, arith}
use Rattle.atomic_table.specs.Table as table
use Rattle.hcc_word.specs.Word.{hit_of, is_visible, refs_of, releases_of}
use Rattle.hcc_word.proofs.CodeLaws.{hit_of-shareable, refs_of-shareable, releases_of-shareable}
use Rattle.hcc_core.specs.declared.client.Client.{Client}
use Rattle.hcc_core.specs.declared.slot.Resident.{Resident}
use Rattle.hcc_core.specs.declared.slot.Slot.{Slot}
use Rattle.hcc_core.specs.declared.slot.Slot.TheVariants as slots
use Rattle.hcc_core.specs.Lawful.{owner_in}
use Rattle.hcc_core.specs.World.{State, charged_to, occupied_by, standing_of, times}
use Rattle.hcc_rule.specs.declared.geometry.Geometry.{Geometry}
use Rattle.hcc_rule.specs.declared.key.Key.{Key}
use Rattle.hcc_rule.specs.declared.rule.Plan.{Plan}
use Rattle.hcc_rule.specs.declared.view.Logged.{Logged}
use Rattle.hcc_rule.specs.declared.view.View.{View}
use Rattle.hcc_rule.specs.Acts.{IsAllowed, world_of}
use Rattle.hcc_rule.specs.Closing.{IsBack}
use Rattle.hcc_rule.specs.Ending.{ShowsWorld, TellsEntry, TellsSlot}
use Rattle.hcc_rule.specs.Logs.{HoldsLogged, unlogged}
use Rattle.hcc_rule.specs.Rule.{Holds}
use Rattle.hcc_rule.specs.Views.{is_seated}
use Rattle.hcc_rule.proofs.Basics.Lists.{read_at}
use Rattle.hcc_rule.proofs.LastSeat.ClosingSlots.{entry_told, listed, no_clients, slots_are, stored, strays_are, unowned, world}
use Rattle.hcc_rule.proofs.Parts.Addresses.{data_field}
use Rattle.hcc_rule.proofs.Parts.Codes.{is_near, tells_shown}
use Rattle.hcc_rule.proofs.Parts.SlotSteps.{Shard}
use Rattle.hcc_rule.proofs.Seats.Behind.{AreAlike, known_alike}
use Rattle.hcc_rule.proofs.Seats.Fronts.{known_at}
use Rattle.hcc_rule.proofs.Seats.Lifts.{known_allowed}

module _ {T : Type 0} (fits : T → Key → List ℕ → Type 0) (p : Plan T) (s : Shard fits p)
    (r : Holds fits p s)
    (id : ℕ) (v : View T) (at : slice_get s.views id ≡ Some v) (seated : is_seated v ≡ true)
    (back : IsBack p.geometry.clients v) where
  -- an entry's words tell it
  tells_entry : (k : ℕ) (e : Resident) → slice_get r.world.slots k ≡ Some (slots.Shareable e)
      → TellsEntry fits p.tag p.geometry.room s.words v k e
  tells_entry k e is =
      let word = r.coded.meta k (slots.Shareable e) is in
      let lawful = world fits p s r id v at seated back in
      let near = is_near r.world lawful k e is in
      let own = stored fits p s r id v at seated back k e is in
      let in_list = listed fits p s r id v at seated back k e is in
      record {
        has = entry_told fits p s r id v at seated back k (slots.Shareable e) is;
        shown = ap is_visible word ∙ tells_shown r.world lawful k e is;
        uses = ap releases_of word ∙ releases_of-shareable e.hit e.shown near;
        references = ap refs_of word ∙ refs_of-shareable e.hit e.shown near;
        hit = ap hit_of word ∙ hit_of-shareable e.hit e.shown near;
        kept = record {
          made = own.made;
          listed = in_list;
          says = λ i low. ap (slice_index s.words) (sym (data_field p.geometry.room k i))
              ∙ own.lies i low;
          right = r.stamps.right e.entry.stamp own.made own.listed;
        };
        same = own.same;
      }

  -- each slot's words tell what it has
  tells_slot : (k : ℕ) (slot : Slot) → slice_get r.world.slots k ≡ Some slot
      → TellsSlot fits p.tag p.geometry.room s.words v k slot
  tells_slot k (slots.Empty strays) is = record {
    none = entry_told fits p s r id v at seated back k (slots.Empty strays) is;
    word = r.coded.meta k (slots.Empty strays) is ∙ strays_are strays;
  }
  tells_slot k (slots.Building client strays) is =
      unowned fits p s r id v at seated back client k
      ((world fits p s r id v at seated back).owners.owns k client (ap owner_in is))
  tells_slot k (slots.Shareable e) is = tells_entry k e is

  -- so the words show each world with these slots and this hand
  shows_alike : (w : State) → AreAlike w r.world
      → ShowsWorld fits p.tag p.geometry s.words v w
  shows_alike w alike = record {
    size = rw alike.slots (slots_are fits p s r id v at seated back);
    coded = rw alike.slots r.coded;
    told = λ k slot is. tells_slot k slot (ap (λ all. slice_get all k) (sym alike.slots) ∙ is);
    passed = λ k low.
        let none = no_clients fits p s r id v at seated back (λ (c : Client). times k c.trail)
        (λ client q. rw q.trail refl) in
        let word = r.trails.passed k low in
        rw alike.slots (omega arith);
    usage =
        let none = no_clients fits p s r id v at seated back charged_to (λ client q. q.charged) in
        let word = r.ledgers.usage in
        rw alike.slots (omega arith);
    occupancy =
        let none = no_clients fits p s r id v at seated back occupied_by (λ client q. q.occupied) in
        let word = r.ledgers.occupancy in
        rw alike.slots (omega arith);
    standing =
        r.ledgers.standing
        ∙ no_clients fits p s r id v at seated back standing_of (λ client q. q.standing);
    hand = r.turned ∙ sym alike.hand;
  }

module _ {T : Type 0} (fits : T → Key → List ℕ → Type 0) (p : Plan T) (geometry : Geometry)
    (words : List ℕ) (homes : List (Unit {0})) (id : ℕ) (l : Logged T)
    (final : table.Final (table.Seen (HoldsLogged fits p) id l) words homes) where
  -- the words that are left show the world that the last seat knows
  pub shows_last : p.geometry ≡ geometry → is_seated l.known ≡ true
      → IsBack geometry.clients l.known
      → ShowsWorld fits p.tag geometry words l.known (world_of p l.past)
  shows_last same seated back =
      let s = final.0 in
      let holds : HoldsLogged fits p s = final.1.0 in
      let at = read_at s.views id l final.1.1 in
      let all : IsBack p.geometry.clients l.known = rw same back in
      rw (sym same, sym final.2)
      (shows_alike fits p (unlogged s) holds.rule id l.known (known_at fits p s id l at) seated all
      (world_of p l.past) (known_alike fits p s holds id l at seated all))

  -- the machine allows all that it knows
  pub allowed_last : IsAllowed p l.past
  allowed_last =
      known_allowed fits p final.0 final.1.0 id l (read_at final.0.views id l final.1.1)
