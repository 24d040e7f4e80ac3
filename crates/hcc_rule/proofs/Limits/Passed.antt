-- What a client knows of how often a slot is passed.
use Rattle.std.proofs.Common.{◌≡◌, ℕ, ◌+◌, ◌-◌, ◌*◌, ◌%◌, ◌<◌, ◌≤◌, true, List, [], ◌∷◌, Option, Some, None, length, slice_get, refl, ap, ◌∙◌, arith}
use Rattle.hcc_core.specs.declared.limits.TheConstants.{MOST_SLOTS}
use Rattle.hcc_core.specs.declared.client.Client.{Client}
use Rattle.hcc_core.specs.declared.slot.Entry.{Entry}
use Rattle.hcc_core.specs.declared.slot.Slot.{Slot}
use Rattle.hcc_core.specs.declared.slot.Slot.TheVariants as slots
use Rattle.hcc_core.specs.Sums.{total}
use Rattle.hcc_core.specs.World.{taken_by_slot, trail_of, times, passed_by}
use Rattle.hcc_core.proofs.SumLemmas.{total-member}
use Rattle.hcc_rule.specs.declared.key.Key.{Key}
use Rattle.hcc_rule.specs.declared.rule.Plan.{Plan}
use Rattle.hcc_rule.specs.declared.view.Record.{Record}
use Rattle.hcc_rule.specs.declared.view.View.{View}
use Rattle.hcc_rule.specs.Probes.{trail_to}
use Rattle.hcc_rule.specs.ToldTrails.{passed_held, Passed}
use Rattle.hcc_rule.specs.Views.{is_seated, Each}
use Rattle.hcc_rule.specs.Records.{different}
use Rattle.hcc_rule.specs.Words.{key_of}
use Rattle.hcc_rule.specs.Rule.{setup_of, entry_in, IsRecorded, IsTrailed, Holds}
use Rattle.hcc_rule.proofs.Basics.Lists.{each_map, within}
use Rattle.hcc_rule.proofs.Basics.Bounds.{times_few, total_beside, total_minus}
use Rattle.hcc_rule.proofs.Basics.Different.{Gives, different_within}
use Rattle.hcc_rule.proofs.Basics.Records.{total_ones}
use Rattle.hcc_rule.proofs.Limits.Alone.{entries_alone}
use Rattle.hcc_rule.proofs.Parts.Asides.{law_is}
use Rattle.hcc_rule.proofs.Limits.LedgerLimits.{places_limit}
use Rattle.hcc_rule.proofs.Probes.ProbeLaws.{trail_once}
use Rattle.hcc_rule.proofs.Parts.SlotSteps.{Shard, size_is}
use Rattle.hcc_rule.proofs.Parts.Touches.{client_is}
use Rattle.hcc_rule.proofs.Parts.OnEntries.{resident_in}

-- how often a record's entry has a slot in its trail
abbrev passes : (size i : ℕ) → Record → ℕ
passes size i r = times i (trail_to size (key_of r.entry) r.slot)

module _ (size i : ℕ) (all : List Slot) (trailed : (s : ℕ) (slot : Slot)
    → slice_get all s ≡ Some slot → IsTrailed size s slot) where
  -- a slot with an entry has the trail that its record tells
  trail_there : (r : Record) (slot : Slot) → slice_get all r.slot ≡ Some slot
      → entry_in (Some slot) ≡ Some r.entry → trail_of slot ≡ trail_to size (key_of r.entry) r.slot
  trail_there r (slots.Empty strays) at has = cc
  trail_there r (slots.Building client strays) at has = cc
  trail_there r (slots.Shareable q) at has =
      let same : q.entry ≡ r.entry = cc in
      trailed r.slot (slots.Shareable q) at
      ∙ ap (λ (e : Entry). trail_to size (key_of e) r.slot) same

  -- and is one place
  place_there : (slot : Slot) (e : Entry) → entry_in (Some slot) ≡ Some e → taken_by_slot slot ≡ 1
  place_there (slots.Empty strays) e has = cc
  place_there (slots.Building client strays) e has = cc
  place_there (slots.Shareable q) e has = refl

  -- a slot of a record
  slot_of : (r : Record) → IsRecorded all r
      → (slot : Slot) × (slice_get all r.slot ≡ Some slot) × (entry_in (Some slot) ≡ Some r.entry)
  slot_of r recorded = by (slice_get all r.slot) refl recorded.there
    where
      by : (o : Option Slot) → slice_get all r.slot ≡ o → entry_in o ≡ Some r.entry
          → (slot : Slot) × (slice_get all r.slot ≡ Some slot)
          × (entry_in (Some slot) ≡ Some r.entry)
      by None at has = cc
      by (Some slot) at has = (slot, at, has)

  -- it passes what its record says
  gives_passes : (r : Record) → IsRecorded all r
      → Gives (λ s. times i (trail_of s)) (passes size i) all r
  gives_passes r recorded =
      let slot = slot_of r recorded in
      (slot.0, slot.1, ap (times i) (trail_there r slot.0 slot.1 slot.2))

  -- and leaves what that leaves
  gives_rest : (r : Record) → IsRecorded all r
      → Gives (λ s. taken_by_slot s - times i (trail_of s)) (λ q. 1 - passes size i q) all r
  gives_rest r recorded =
      let slot = slot_of r recorded in
      let trail = ap (times i) (trail_there r slot.0 slot.1 slot.2) in
      let place = place_there slot.0 r.entry slot.2 in
      (slot.0, slot.1, (rw (trail, place) refl))

  -- the entries of records, each once, are among those that pass the slot
  held_within : (rs : List Record) → Each (IsRecorded all) rs
      → passed_held size i rs ≤ total (λ s. times i (trail_of s)) all
  held_within rs recorded =
      different_within (λ s. times i (trail_of s)) (passes size i) refl all rs
      (each_map (IsRecorded all) (Gives (λ s. times i (trail_of s)) (passes size i) all)
      gives_passes rs recorded)

  module _ (power : MOST_SLOTS % size ≡ 0) where
    -- a slot with an entry passes it once at most, and one without never
    slot_once : (s : ℕ) (slot : Slot) → slice_get all s ≡ Some slot
        → times i (trail_of slot) ≤ taken_by_slot slot
    slot_once s (slots.Empty strays) at = omega arith
    slot_once s (slots.Building client strays) at = omega arith
    slot_once s (slots.Shareable q) at =
        let once = trail_once size (key_of q.entry) power s i in
        let same = ap (times i) (trailed s (slots.Shareable q) at) in
        omega arith

    -- each other entry passes the slot once at most
    held_most : (rs : List Record) → Each (IsRecorded all) rs
        → total (λ s. times i (trail_of s)) all + length (different rs)
        ≤ total taken_by_slot all + passed_held size i rs
    held_most rs recorded =
        let rest = different_within (λ s. taken_by_slot s - times i (trail_of s))
        (λ q. 1 - passes size i q) refl all rs
        (each_map (IsRecorded all) (Gives (λ s. taken_by_slot s - times i (trail_of s))
        (λ q. 1 - passes size i q) all) gives_rest rs recorded) in
        let slots_left = total_minus (λ s. times i (trail_of s)) taken_by_slot all slot_once in
        let records_left = total_minus (passes size i) (λ q. 1) (different rs)
        (λ j q at. trail_once size (key_of q.entry) power q.slot i) in
        let ones = total_ones (different rs) in
        omega arith

module _ {T : Type 0} (fits : T → Key → List ℕ → Type 0) (p : Plan T) (s : Shard fits p)
    (r : Holds fits p s) (id : ℕ) (v : View T) (at : slice_get s.views id ≡ Some v)
    (seated : is_seated v ≡ true) (i : ℕ) where
  recorded : Each (IsRecorded r.world.slots) v.records
  recorded = (r.holding id v at).recorded

  -- the client's own is among them
  pub own_within : times i v.work.trail ≤ total (λ (c : Client). times i c.trail) r.world.clients
  own_within =
      total-member (λ (c : Client). times i c.trail) r.world.clients v.client v.work
      (client_is fits p s r id v at seated)

  -- and the others' are short
  others_most : total (λ (c : Client). times i c.trail) r.world.clients
      ≤ times i v.work.trail + p.geometry.slots * (p.geometry.clients - 1)
  others_most =
      let l = law_is fits p s r in
      let size : r.world.setup.slots ≡ p.geometry.slots = ap (λ x. x.slots) r.setup in
      let count : length r.world.clients ≡ p.geometry.clients =
      l.sized.client_count ∙ ap (λ x. x.clients) r.setup in
      let most = total_beside (λ (c : Client). times i c.trail) p.geometry.slots r.world.clients
      v.client v.work
      (client_is fits p s r id v at seated)
      (λ j client there.
      let few = times_few i client.trail in
      let short = l.trailed.hands j client there in
      omega arith) in
      let same : p.geometry.slots * (length r.world.clients - 1)
      ≡ p.geometry.slots * (p.geometry.clients - 1) =
      ap (λ (n : ℕ). p.geometry.slots * (n - 1)) count in
      omega arith

  -- a record's slot is one of the table's
  slot_within : (q : Record) → IsRecorded r.world.slots q → q.slot < p.geometry.slots
  slot_within q is =
      let resident = resident_in (slice_get r.world.slots q.slot) q.entry is.there in
      let low = within r.world.slots q.slot (slots.Shareable resident.0) resident.1 in
      let size = size_is fits p s r in
      omega arith

  -- one record's entry is among those that pass the slot
  entry_within : (q : Record) → IsRecorded r.world.slots q
      → passes p.geometry.slots i q ≤ passed_by r.world.slots r.world.clients i
  entry_within q is =
      let one = held_within p.geometry.slots i r.world.slots r.trails.entries (q ∷ []) (is, tt) in
      omega arith

  -- What a load of the slot's displacement word tells.
  pub passed_told : MOST_SLOTS % p.geometry.slots ≡ 0
      → Passed (setup_of p) i v (passed_by r.world.slots r.world.clients i)
  passed_told power = record {
    entries =
        let mine = own_within in
        let entries = held_within p.geometry.slots i r.world.slots r.trails.entries v.records
        recorded in
        omega arith;
    held =
        each_map (IsRecorded r.world.slots)
        (λ (q : Record). passes p.geometry.slots i q ≤ passed_by r.world.slots r.world.clients i)
        entry_within v.records recorded;
    within =
        each_map (IsRecorded r.world.slots) (λ (q : Record). q.slot < p.geometry.slots) slot_within
        v.records recorded;
    most =
        let entries = held_most p.geometry.slots i r.world.slots r.trails.entries power v.records
        recorded in
        let clients = others_most in
        let places = places_limit fits p s r in
        omega arith;
    alone = λ one.
        let entries = held_most p.geometry.slots i r.world.slots r.trails.entries power v.records
        recorded in
        let clients = others_most in
        let none : p.geometry.slots * (p.geometry.clients - 1) ≡ 0 =
        ap (λ (n : ℕ). p.geometry.slots * (n - 1)) one ∙ omega arith in
        let made = entries_alone fits p s r id v at seated one in
        omega arith;
  }
