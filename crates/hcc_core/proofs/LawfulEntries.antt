-- The events that move entries keep a world lawful: occupy, show, free, empty.
use Rattle.std.proofs.Common.{◌≡◌, inl, inr, ℕ, ◌<◌, ◌≤◌, ◌==◌, true, nat_le, nat_lt, List, Option}
use Rattle.std.proofs.Common.{Some, None, slice_set, slice_get, refl, ap, sym, ◌∙◌, arith}
use Rattle.std.proofs.lemmas.List.{length-set}
use Rattle.std.proofs.lemmas.Option.{slice_get_within}
use Rattle.std.proofs.lemmas.Bool.{and_parts, leb-true, ltb-true, false≢true, cases_eq}
use Rattle.hcc_core.specs.declared.limits.TheConstants.{MOST_COUNTDOWN, STAMPS_PER_CLIENT}
use Rattle.hcc_core.specs.declared.client.Client.{Client}
use Rattle.hcc_core.specs.declared.setup.Setup.{Setup}
use Rattle.hcc_core.specs.declared.slot.Stamp.{Stamp}
use Rattle.hcc_core.specs.declared.client.Owned.{Owned}
use Rattle.hcc_core.specs.declared.client.Owned.TheVariants as owned
use Rattle.hcc_core.specs.declared.client.Place.{Place}
use Rattle.hcc_core.specs.declared.slot.Slot.{Slot}
use Rattle.hcc_core.specs.declared.slot.Slot.TheVariants as slots
use Rattle.hcc_core.specs.Sums.{when}
use Rattle.hcc_core.specs.World.{State, is_shareable, stamp_of, references_of, charge_of}
use Rattle.hcc_core.specs.World.{taken_by_slot, is_granted, owns_nothing}
use Rattle.hcc_core.specs.Outcomes.{with_both, has_no_member}
use Rattle.hcc_core.specs.References.{dead_to}
use Rattle.hcc_core.specs.Entries.{built_by, freed_by, may_show, resident_new, client_shown}
use Rattle.hcc_core.specs.Entries.{may_free, is_free_for, client_freeing}
use Rattle.hcc_core.specs.Lawful.{Lawful, IsBounded, owner_of, owner_in, owned_slot, owned_by}
use Rattle.hcc_core.specs.Lawful.{stamp_in, stamps_by}
use Rattle.hcc_core.proofs.ListLemmas.{read_same, read_here, read_other}
use Rattle.hcc_core.proofs.DeadParts.{in_joined, dead_is_stamp, grave, dead_kept, dead_shown}
use Rattle.hcc_core.proofs.DeadParts.{lists_changed}
use Rattle.hcc_core.proofs.LawfulQuiet.{shown_fewer}
use Rattle.hcc_core.proofs.LawfulParts.{sized_kept, bounded_set, strayed_both, owners_taken}
use Rattle.hcc_core.proofs.LawfulParts.{owners_left, stamped_fewer, stamped_shown, trailed_slot}
use Rattle.hcc_core.proofs.LawfulParts.{trailed_client, ledgers_both}

owns_none : (o : Owned) → owns_nothing o ≡ true → owned_slot o ≡ None
owns_none owned.Nothing h = refl
owns_none (owned.ForBuilding slot) h = absurd (false≢true h)
owns_none (owned.ForFreeing slot) h = absurd (false≢true h)

pub builds_slot : (o : Owned) (slot : ℕ) → built_by o ≡ Some slot → owned_slot o ≡ Some slot
builds_slot owned.Nothing slot h = cc
builds_slot (owned.ForBuilding s) slot h = cc
builds_slot (owned.ForFreeing s) slot h = cc

pub frees_slot : (o : Owned) (slot : ℕ) → freed_by o ≡ Some slot → owned_slot o ≡ Some slot
frees_slot owned.Nothing slot h = cc
frees_slot (owned.ForBuilding s) slot h = cc
frees_slot (owned.ForFreeing s) slot h = cc

owner_there : (o : Option Slot) (client : ℕ) → owner_in o ≡ Some client
    → (seen : Slot) × (o ≡ Some seen) × (owner_of seen ≡ Some client)
owner_there None client h = cc
owner_there (Some seen) client h = (seen, refl, h)

-- a slot that a client owns is there, and is Building by that client
pub owned_there : (w : State) (client slot : ℕ) (found : Client) → Lawful w
    → slice_get w.clients client ≡ Some found
    → owned_slot found.owned ≡ Some slot
    → (seen : Slot) × (slice_get w.slots slot ≡ Some seen) × (owner_of seen ≡ Some client)
owned_there w client slot found l at_client owns =
    owner_there (slice_get w.slots slot) client
    (l.owners.owned slot client (ap owned_by at_client ∙ owns))

-- a slot that has an owner has neither an entry nor a charge
owned_bare : (seen : Slot) (client : ℕ) → owner_of seen ≡ Some client
    → (charge_of seen ≡ 0) × (taken_by_slot seen ≡ 0)
owned_bare (slots.Empty strays) client h = (refl, refl)
owned_bare (slots.Building other strays) client h = (refl, refl)
owned_bare (slots.Shareable r) client h = cc

-- a slot with no entry is within all bounds
empty_bounded : (setup : Setup) (strays : ℕ) → IsBounded setup (slots.Empty strays)
empty_bounded setup strays = record { references = omega arith; uses = omega arith }

building_bounded : (setup : Setup) (client strays : ℕ)
    → IsBounded setup (slots.Building client strays)
building_bounded setup client strays = record { references = omega arith; uses = omega arith }

pub lawful_occupy : (w : State) (client slot strays : ℕ) (found : Client) → Lawful w
    → slice_get w.slots slot ≡ Some (slots.Empty strays) → slice_get w.clients client ≡ Some found
    → owns_nothing found.owned ≡ true
    → Lawful (with_both w slot (slots.Building client strays)
    client (record found { owned = owned.ForBuilding slot }))
lawful_occupy w client slot strays found l at_slot at_client free =
    let new : Client = record found { owned = owned.ForBuilding slot } in
    let left : Slot = slots.Building client strays in
    record {
      sized = sized_kept w _ _ l.sized (length-set w.slots slot left)
          (length-set w.clients client new);
      bounded = bounded_set w.setup w.slots slot left l.bounded
          (building_bounded w.setup client strays);
      strayed = strayed_both w.setup w.slots w.clients slot client
          (slots.Empty strays) left found new l.strayed l.sized.client_count
          at_slot at_client (inl (omega arith)) (λ s n. omega arith);
      owners = owners_taken w.slots w.clients slot client (slots.Empty strays)
          left found new l.owners at_slot at_client
          refl refl (owns_none found.owned free) refl;
      stamped = stamped_fewer w.slots _ w.clients _ l.stamped
          (λ s m h. sym (read_same stamp_in w.slots slot s (slots.Empty strays) left at_slot refl)
          ∙ h)
          (λ c. read_same stamps_by w.clients client c found new at_client refl);
      dead = dead_kept w.slots _ w.clients _ l.dead
          (λ s m h. shown_fewer w.slots slot s (slots.Empty strays) left m at_slot (λ m h. h) h)
          (λ c. read_same stamps_by w.clients client c found new at_client refl)
          (lists_changed _ w.clients client found new at_client (λ m h. inl h));
      trailed =
          trailed_client _ _ _ client new (trailed_slot _ _ _ slot left l.trailed (omega arith))
          (l.trailed.hands client found at_client);
      ledgers = ledgers_both w slot client (slots.Empty strays)
          left found new l.ledgers at_slot at_client (omega arith) (omega arith) (omega arith);
    }

-- what the test of a show says
pub record MayShow (found : Client) (charge countdown : ℕ) : Type 0 where
  pub placed : is_granted found.place ≡ true
  pub granted : charge ≤ found.granted
  pub some_use : 1 ≤ countdown
  pub few_uses : countdown ≤ MOST_COUNTDOWN
  pub stamps : found.stamps < STAMPS_PER_CLIENT

pub may_show_parts : (all : List Slot) (client : ℕ) (found : Client)
    (charge countdown : ℕ) (name : Option ℕ)
    → may_show all client found charge countdown name ≡ true → MayShow found charge countdown
unfolding may_show
may_show_parts all client found charge countdown name h =
    let a = and_parts _ (nat_lt found.stamps STAMPS_PER_CLIENT) h in
    let b = and_parts _ _ a.0 in
    let d = and_parts _ (nat_le countdown MOST_COUNTDOWN) b.0 in
    let e = and_parts _ (nat_le 1 countdown) d.0 in
    let f = and_parts _ (nat_le charge found.granted) e.0 in
    let g = and_parts (is_granted found.place) (found.needed == 0) f.0 in
    record {
      placed = g.0;
      granted = leb-true charge found.granted f.1;
      some_use = leb-true 1 countdown e.1;
      few_uses = leb-true countdown MOST_COUNTDOWN d.1;
      stamps = ltb-true found.stamps STAMPS_PER_CLIENT a.1;
    }

-- a new entry is within all bounds
shown_bounded : (setup : Setup) (client : ℕ) (found : Client)
    (key0 key1 charge countdown : ℕ) (name : Option ℕ) (value : List ℕ)
    → 1 ≤ setup.clients → countdown ≤ MOST_COUNTDOWN
    → IsBounded setup
    (slots.Shareable (resident_new client found key0 key1 charge countdown name value))
shown_bounded setup client found key0 key1 charge countdown None value some few =
    record { references = omega arith; uses = omega arith }
shown_bounded setup client found key0 key1 charge countdown (Some name) value some few =
    record { references = omega arith; uses = omega arith }

some_client : (w : State) (client : ℕ) (found : Client) → Lawful w
    → slice_get w.clients client ≡ Some found → 1 ≤ w.setup.clients
some_client w client found l at_client =
    let within = slice_get_within w.clients client found at_client in
    let count = l.sized.client_count in
    omega arith

granted_placed : (place : Place) → is_granted place ≡ true → when (is_granted place) 1 ≡ 1
granted_placed place h = rw h refl

pub lawful_show : (w : State) (client slot key0 key1 charge countdown : ℕ)
    (name : Option ℕ) (value : List ℕ) (found : Client)
    → Lawful w → slice_get w.clients client ≡ Some found → built_by found.owned ≡ Some slot
    → may_show w.slots client found charge countdown name ≡ true
    → Lawful
    (with_both w slot
    (slots.Shareable (resident_new client found key0 key1 charge countdown name value))
    client (client_shown charge found))
lawful_show w client slot key0 key1 charge countdown name value found l at_client builds may =
    let parts = may_show_parts w.slots client found charge countdown name may in
    let there = owned_there w client slot found l at_client (builds_slot found.owned slot builds) in
    let seen : Slot = there.0 in
    let at_slot : slice_get w.slots slot ≡ Some seen = there.1 in
    let bare = owned_bare seen client there.2 in
    let left : Slot =
    slots.Shareable (resident_new client found key0 key1 charge countdown name value) in
    let new : Client = client_shown charge found in
    record {
      sized = sized_kept w _ _ l.sized (length-set w.slots slot left)
          (length-set w.clients client new);
      bounded = bounded_set w.setup w.slots slot left l.bounded
          (shown_bounded w.setup client found key0 key1 charge
          countdown name value (some_client w client found l at_client) parts.few_uses);
      strayed = strayed_both w.setup w.slots w.clients slot client
          seen left found new l.strayed l.sized.client_count
          at_slot at_client (inr refl) (λ s n. omega arith);
      owners = owners_left w.slots w.clients slot client seen
          left found new l.owners at_slot at_client
          there.2 refl (builds_slot found.owned slot builds) refl;
      stamped = stamped_shown w.slots w.clients slot client seen
          left found new l.stamped at_slot at_client refl refl;
      dead = dead_shown w.slots w.clients slot client seen left
          found new l.dead at_slot at_client refl refl refl;
      trailed =
          trailed_client _ _ _ client new
          (trailed_slot _ _ _ slot left l.trailed (l.trailed.hands client found at_client))
          (omega arith);
      ledgers =
          let no_charge = bare.0 in
          let no_place = bare.1 in
          let placed = granted_placed found.place parts.placed in
          let enough = parts.granted in
          ledgers_both w slot client seen left found new l.ledgers
          at_slot at_client (omega arith) (omega arith) (omega arith);
    }

-- what the test of a free says
pub record MayFree (found : Client) (seen : Slot) : Type 0 where
  pub nothing : owns_nothing found.owned ≡ true
  pub shareable : is_shareable seen ≡ true

pub may_free_parts : (client : ℕ) (found : Client) (seen : Slot) (name : Option ℕ)
    → may_free client found seen name ≡ true → MayFree found seen
may_free_parts client found seen name h =
    let a = and_parts _ (is_free_for client name (references_of seen)) h in
    let b = and_parts _ (is_shareable seen) a.0 in
    let d = and_parts (owns_nothing found.owned) (has_no_member found.trail) b.0 in
    record { nothing = d.0; shareable = b.1 }

unowned : (seen : Slot) → is_shareable seen ≡ true → owner_of seen ≡ None
unowned (slots.Empty strays) h = refl
unowned (slots.Building other strays) h = absurd (false≢true h)
unowned (slots.Shareable r) h = refl

one_place : (seen : Slot) → is_shareable seen ≡ true → taken_by_slot seen ≡ 1
one_place (slots.Empty strays) h = absurd (false≢true h)
one_place (slots.Building other strays) h = absurd (false≢true h)
one_place (slots.Shareable r) h = refl

-- an entry that goes leaves no stamp
stamp_gone : (all : List Slot) (slot client : ℕ) (seen : Slot) (s : ℕ) (m : Stamp)
    → slice_get all slot ≡ Some seen
    → stamp_in (slice_get (slice_set all slot (slots.Building client 0)) s) ≡ Some m
    → stamp_in (slice_get all s) ≡ Some m
stamp_gone all slot client seen s m at_slot h = elim (cases_eq s slot) [
  | inl same ↦
      let here = ap stamp_in (read_here all slot seen (slots.Building client 0) at_slot) in
      let bad : None ≡ Some m = sym here
      ∙ ap (λ k. stamp_in (slice_get (slice_set all slot (slots.Building client 0)) k))
      (sym same) ∙ h in
      cc
  | inr other ↦ sym (ap stamp_in (read_other all slot s (slots.Building client 0) other)) ∙ h
]

pub lawful_free : (w : State) (client slot : ℕ) (name : Option ℕ) (found : Client) (seen : Slot)
    → Lawful w
    → slice_get w.slots slot ≡ Some seen → slice_get w.clients client ≡ Some found
    → may_free client found seen name ≡ true
    → Lawful
    (with_both w slot (slots.Building client 0) client (client_freeing client slot seen found))
lawful_free w client slot name found seen l at_slot at_client may =
    let parts = may_free_parts client found seen name may in
    let left : Slot = slots.Building client 0 in
    let new : Client = client_freeing client slot seen found in
    record {
      sized = sized_kept w _ _ l.sized (length-set w.slots slot left)
          (length-set w.clients client new);
      bounded = bounded_set w.setup w.slots slot left l.bounded (building_bounded w.setup client 0);
      strayed = strayed_both w.setup w.slots w.clients slot client
          seen left found new l.strayed l.sized.client_count
          at_slot at_client (inr refl) (λ s n. omega arith);
      owners = owners_taken w.slots w.clients slot client seen
          left found new l.owners at_slot at_client
          (unowned seen parts.shareable) refl (owns_none found.owned parts.nothing) refl;
      stamped = stamped_fewer w.slots _ w.clients _ l.stamped
          (λ s m h. stamp_gone w.slots slot client seen s m at_slot h)
          (λ c. read_same stamps_by w.clients client c found new at_client refl);
      dead = dead_kept w.slots _ w.clients _ l.dead
          (λ s m h. shown_fewer w.slots slot s seen left m at_slot (λ m h. cc) h)
          (λ c. read_same stamps_by w.clients client c found new at_client refl)
          (lists_changed _ w.clients client found new at_client
          (λ m h. elim (in_joined m found.dead (dead_to client seen) h) [
            | inl e ↦ inl e
            | inr e ↦
                inr
                (grave w.slots w.clients slot seen left m l.stamped
                at_slot (dead_is_stamp client seen m e).0 refl)
          ]));
      trailed =
          trailed_client _ _ _ client new (trailed_slot _ _ _ slot left l.trailed (omega arith))
          (l.trailed.entries slot seen at_slot);
      ledgers =
          let one = one_place seen parts.shareable in
          ledgers_both w slot client seen left found new l.ledgers
          at_slot at_client (omega arith) (omega arith) (omega arith);
    }

pub lawful_empty : (w : State) (client slot : ℕ) (found : Client) → Lawful w
    → slice_get w.clients client ≡ Some found
    → freed_by found.owned ≡ Some slot
    → Lawful (with_both w slot (slots.Empty 0) client (record found { owned = owned.Nothing }))
lawful_empty w client slot found l at_client frees =
    let there = owned_there w client slot found l at_client (frees_slot found.owned slot frees) in
    let seen : Slot = there.0 in
    let at_slot : slice_get w.slots slot ≡ Some seen = there.1 in
    let left : Slot = slots.Empty 0 in
    let new : Client = record found { owned = owned.Nothing } in
    record {
      sized = sized_kept w _ _ l.sized (length-set w.slots slot left)
          (length-set w.clients client new);
      bounded = bounded_set w.setup w.slots slot left l.bounded (empty_bounded w.setup 0);
      strayed = strayed_both w.setup w.slots w.clients slot client
          seen left found new l.strayed l.sized.client_count
          at_slot at_client (inr refl) (λ s n. omega arith);
      owners = owners_left w.slots w.clients slot client seen
          left found new l.owners at_slot at_client
          there.2 refl (frees_slot found.owned slot frees) refl;
      stamped = stamped_fewer w.slots _ w.clients _ l.stamped
          (λ s m h. let e =
          sym
          (read_same stamp_in w.slots slot s seen left at_slot
          (unstamped seen client there.2)) in e ∙ h)
          (λ c. read_same stamps_by w.clients client c found new at_client refl);
      dead = dead_kept w.slots _ w.clients _ l.dead
          (λ s m h. shown_fewer w.slots slot s seen left m at_slot (λ m h. cc) h)
          (λ c. read_same stamps_by w.clients client c found new at_client refl)
          (lists_changed _ w.clients client found new at_client (λ m h. inl h));
      trailed =
          trailed_client _ _ _ client new (trailed_slot _ _ _ slot left l.trailed (omega arith))
          (l.trailed.hands client found at_client);
      ledgers = ledgers_both w slot client seen left found new
          l.ledgers at_slot at_client (omega arith) (omega arith) (omega arith);
    }
  where
    unstamped : (seen : Slot) (client : ℕ) → owner_of seen ≡ Some client → None ≡ stamp_of seen
    unstamped (slots.Empty strays) client h = refl
    unstamped (slots.Building other strays) client h = refl
    unstamped (slots.Shareable r) client h = cc
