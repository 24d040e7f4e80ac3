-- How each part of a lawful world is kept. A part that the step leaves alone has a frame law;
-- the others say what the step owes.
use Rattle.std.proofs.Common.{◌≡◌, ◌⊎◌, inl, inr, ℕ, ◌+◌, ◌*◌, ◌≤◌, Bool, true, false, List, []}
use Rattle.std.proofs.Common.{◌∷◌, Option, Some, None, length, slice_set, slice_get, ap, sym, ◌∙◌}
use Rattle.std.proofs.Common.{arith}
use Rattle.std.proofs.lemmas.List.{length-set}
use Rattle.std.proofs.lemmas.Bool.{cases_eq}
use Rattle.hcc_core.specs.declared.client.Client.{Client}
use Rattle.hcc_core.specs.declared.setup.Setup.{Setup}
use Rattle.hcc_core.specs.declared.slot.Stamp.{Stamp}
use Rattle.hcc_core.specs.declared.slot.Slot.{Slot}
use Rattle.hcc_core.specs.Sums.{when}
use Rattle.hcc_core.specs.World.{State, strays_of, charge_of, stamp_of, taken_by_slot, charged_to}
use Rattle.hcc_core.specs.World.{trail_of}
use Rattle.hcc_core.specs.Outcomes.{with_client, with_both}
use Rattle.hcc_core.specs.References.{looks_at}
use Rattle.hcc_core.specs.Lawful.{Sized, IsBounded, Bounded, Strayed, Owners, Stamped, Trailed}
use Rattle.hcc_core.specs.Lawful.{Ledgers, lookers, owner_of, owner_in, owned_slot, owned_by}
use Rattle.hcc_core.specs.Lawful.{stamp_in, stamps_by, taken_by, real_to}
use Rattle.hcc_core.proofs.ListLemmas.{get_at_set, read_here, read_other}
use Rattle.hcc_core.proofs.SumLemmas.{total-set}

-- 1 where the client looks at the slot
abbrev pub looking : Client → ℕ → ℕ
looking client slot = when (looks_at client slot) 1

-- The size.

pub sized_kept : (w : State) (all : List Slot) (clients : List Client) → Sized w
    → length all ≡ length w.slots → length clients ≡ length w.clients
    → Sized (record w { slots = all; clients = clients })
sized_kept w all clients l slots_same clients_same = record {
  few_slots = l.few_slots;
  few_clients = l.few_clients;
  slot_count = slots_same ∙ l.slot_count;
  client_count = clients_same ∙ l.client_count;
}

-- The bounds.

pub bounded_set : (setup : Setup) (all : List Slot) (slot : ℕ) (left : Slot)
    → Bounded setup all → IsBounded setup left → Bounded setup (slice_set all slot left)
bounded_set setup all slot left l bound s x h = elim (get_at_set all slot s left x h) [
  | inl e ↦ rw e.1 bound
  | inr e ↦ l s x e
]

-- The strays.

when_few : (b : Bool) → when b 1 ≤ 1
when_few true = omega arith
when_few false = omega arith

-- no more look than there are
lookers_few : (clients : List Client) (slot : ℕ) → lookers clients slot ≤ length clients
lookers_few [] slot = omega arith
lookers_few (c ∷ cs) slot = let one = when_few (looks_at c slot) in
    let rest = lookers_few cs slot in omega arith

-- one client looks no more than it did, and no slot changes
pub strayed_client : (setup : Setup) (all : List Slot) (clients : List Client)
    (client : ℕ) (old new : Client)
    → Strayed setup all clients → slice_get clients client ≡ Some old
    → ((s : ℕ) → looking new s ≤ looking old s)
    → Strayed setup all (slice_set clients client new)
strayed_client setup all clients client old new l at_client fewer s x h =
    let before = l s x h in
    let less = fewer s in
    let change = total-set (λ c. looking c s) clients client old new at_client in
    omega arith

-- strays grow in one slot by what its client looked less, or there are none
pub strayed_both : (setup : Setup) (all : List Slot) (clients : List Client)
    (slot client : ℕ) (seen left : Slot) (old new : Client)
    → Strayed setup all clients → length clients ≡ setup.clients
    → slice_get all slot ≡ Some seen → slice_get clients client ≡ Some old
    → (strays_of left + 3 * looking new slot ≤ strays_of seen + 3 * looking old slot)
    ⊎ (strays_of left ≡ 0)
    → ((s : ℕ) → (s ≡ slot → ⊥) → looking new s ≤ looking old s)
    → Strayed setup (slice_set all slot left) (slice_set clients client new)
strayed_both setup all clients slot client seen left old new
    l count at_slot at_client first fewer s x h =
    elim (cases_eq s slot) [
      | inl same ↦
          let here : slice_get (slice_set all slot left) s ≡ Some left =
          rw same (read_here all slot seen left at_slot) in
          let is_left : x ≡ left = let e : Some x ≡ Some left = sym h ∙ here in cc in
          rw (is_left, same) (within first)
      | inr other ↦
          let before = l s x (sym (read_other all slot s left other) ∙ h) in
          let less = fewer s other in
          let change = total-set (λ c. looking c s) clients client old new at_client in
          omega arith
    ]
  where
    within : (strays_of left + 3 * looking new slot ≤ strays_of seen + 3 * looking old slot)
        ⊎ (strays_of left ≡ 0)
        → strays_of left + 3 * lookers (slice_set clients client new) slot ≤ 3 * setup.clients
    within (inl less) =
        let before = l slot seen at_slot in
        let change = total-set (λ c. looking c slot) clients client old new at_client in
        omega arith
    within (inr none) =
        let few = lookers_few (slice_set clients client new) slot in
        let size = length-set clients client new in
        omega arith

-- The owners.

-- who owns what is read the same
pub owners_same : (all all' : List Slot) (clients clients' : List Client) → Owners all clients
    → ((s : ℕ) → owner_in (slice_get all' s) ≡ owner_in (slice_get all s))
    → ((c : ℕ) → owned_by (slice_get clients' c) ≡ owned_by (slice_get clients c))
    → Owners all' clients'
owners_same all all' clients clients' o owner owned = record {
  owns = λ s c h. owned c ∙ o.owns s c (sym (owner s) ∙ h);
  owned = λ s c h. owner s ∙ o.owned s c (sym (owned c) ∙ h);
}

-- a client and a slot that belong to each other after the step and to nobody before it,
-- or the other way round
module _ (all : List Slot) (clients : List Client) (slot client : ℕ)
    (seen left : Slot) (old new : Client)
    (o : Owners all clients) (at_slot : slice_get all slot ≡ Some seen)
    (at_client : slice_get clients client ≡ Some old) where
  owner_now : ℕ → Option ℕ
  owner_now s = owner_in (slice_get (slice_set all slot left) s)

  owned_now : ℕ → Option ℕ
  owned_now c = owned_by (slice_get (slice_set clients client new) c)

  owner_here : owner_now slot ≡ owner_of left
  unfolding owner_now
  owner_here = ap owner_in (read_here all slot seen left at_slot)

  owned_here : owned_now client ≡ owned_slot new.owned
  unfolding owned_now
  owned_here = ap owned_by (read_here clients client old new at_client)

  owner_else : (s : ℕ) → (s ≡ slot → ⊥) → owner_now s ≡ owner_in (slice_get all s)
  unfolding owner_now
  owner_else s n = ap owner_in (read_other all slot s left n)

  owned_else : (c : ℕ) → (c ≡ client → ⊥) → owned_now c ≡ owned_by (slice_get clients c)
  unfolding owned_now
  owned_else c n = ap owned_by (read_other clients client c new n)

  owner_was : owner_in (slice_get all slot) ≡ owner_of seen
  owner_was = ap owner_in at_slot

  owned_was : owned_by (slice_get clients client) ≡ owned_slot old.owned
  owned_was = ap owned_by at_client

  pub owners_taken : owner_of seen ≡ None → owner_of left ≡ Some client
      → owned_slot old.owned ≡ None
      → owned_slot new.owned ≡ Some slot
      → Owners (slice_set all slot left) (slice_set clients client new)
  unfolding owner_now owned_now
  owners_taken no_owner owner no_slot owned = record {
    owns = λ s c h. elim (cases_eq s slot) [
      | inl same ↦
          let who : Some client ≡ Some c = sym owner ∙ sym owner_here
          ∙ ap owner_now (sym same) ∙ h in
          let c_is : c ≡ client = cc in
          rw (c_is, same) (owned_here ∙ owned)
      | inr other ↦
          let was : owned_by (slice_get clients c) ≡ Some s =
          o.owns s c (sym (owner_else s other) ∙ h) in
          elim (cases_eq c client) [
            | inl same ↦
                let bad : None ≡ Some s = sym no_slot ∙ sym owned_was
                ∙ ap (λ k. owned_by (slice_get clients k)) (sym same) ∙ was in
                cc
            | inr away ↦ owned_else c away ∙ was
          ]
    ];
    owned = λ s c h. elim (cases_eq c client) [
      | inl same ↦
          let what : Some slot ≡ Some s = sym owned ∙ sym owned_here
          ∙ ap owned_now (sym same) ∙ h in
          let s_is : s ≡ slot = cc in
          rw (s_is, same) (owner_here ∙ owner)
      | inr away ↦
          let was : owner_in (slice_get all s) ≡ Some c =
          o.owned s c (sym (owned_else c away) ∙ h) in
          elim (cases_eq s slot) [
            | inl same ↦
                let bad : None ≡ Some c = sym no_owner ∙ sym owner_was
                ∙ ap (λ k. owner_in (slice_get all k)) (sym same) ∙ was in
                cc
            | inr other ↦ owner_else s other ∙ was
          ]
    ];
  }

  pub owners_left : owner_of seen ≡ Some client → owner_of left ≡ None
      → owned_slot old.owned ≡ Some slot
      → owned_slot new.owned ≡ None
      → Owners (slice_set all slot left) (slice_set clients client new)
  unfolding owner_now owned_now
  owners_left owner no_owner owned no_slot = record {
    owns = λ s c h. elim (cases_eq s slot) [
      | inl same ↦ let bad : None ≡ Some c = sym no_owner ∙ sym owner_here
          ∙ ap owner_now (sym same) ∙ h in cc
      | inr other ↦
          let was : owned_by (slice_get clients c) ≡ Some s =
          o.owns s c (sym (owner_else s other) ∙ h) in
          elim (cases_eq c client) [
            | inl same ↦
                let what : Some slot ≡ Some s = sym owned ∙ sym owned_was
                ∙ ap (λ k. owned_by (slice_get clients k)) (sym same) ∙ was in
                let s_is : s ≡ slot = cc in
                absurd (other s_is)
            | inr away ↦ owned_else c away ∙ was
          ]
    ];
    owned = λ s c h. elim (cases_eq c client) [
      | inl same ↦ let bad : None ≡ Some s = sym no_slot ∙ sym owned_here
          ∙ ap owned_now (sym same) ∙ h in cc
      | inr away ↦
          let was : owner_in (slice_get all s) ≡ Some c =
          o.owned s c (sym (owned_else c away) ∙ h) in
          elim (cases_eq s slot) [
            | inl same ↦
                let who : Some client ≡ Some c = sym owner ∙ sym owner_was
                ∙ ap (λ k. owner_in (slice_get all k)) (sym same) ∙ was in
                let c_is : c ≡ client = cc in
                absurd (away c_is)
            | inr other ↦ owner_else s other ∙ was
          ]
    ];
  }

-- The stamps.

-- no entry comes, and no count changes
pub stamped_fewer : (all all' : List Slot) (clients clients' : List Client) → Stamped all clients
    → ((s : ℕ) (m : Stamp) → stamp_in (slice_get all' s) ≡ Some m
    → stamp_in (slice_get all s) ≡ Some m)
    → ((c : ℕ) → stamps_by (slice_get clients' c) ≡ stamps_by (slice_get clients c))
    → Stamped all' clients'
stamped_fewer all all' clients clients' o fewer counts = record {
  made = λ s m h. let below = o.made s m (fewer s m h) in let same = counts m.client in omega arith;
  apart = λ s t m h k. o.apart s t m (fewer s m h) (fewer t m k);
}

-- one entry comes, with the next stamp of its maker
pub stamped_shown : (all : List Slot) (clients : List Client)
    (slot client : ℕ) (seen left : Slot) (old new : Client)
    → Stamped all clients → slice_get all slot ≡ Some seen → slice_get clients client ≡ Some old
    → stamp_of left ≡ Some (record { client = client; number = old.stamps })
    → new.stamps ≡ old.stamps + 1
    → Stamped (slice_set all slot left) (slice_set clients client new)
stamped_shown all clients slot client seen left old new o at_slot at_client stamp stamps = record {
  made = λ s m h. elim (cases_eq s slot) [
    | inl e ↦ rw (is_fresh s m e h) (let now = count_now in omega arith)
    | inr n ↦
        let below = o.made s m (was s m n h) in
        elim (cases_eq m.client client) [
          | inl e ↦
              let now = count_now in
              let before = count_was in
              let here = ap (λ k. stamps_by (slice_get (slice_set clients client new) k)) e in
              let there = ap (λ k. stamps_by (slice_get clients k)) e in
              omega arith
          | inr away ↦ rw (read_other clients client m.client new away) below
        ]
  ];
  apart = λ s t m h k. elim (cases_eq s slot) [
    | inl e ↦ elim (cases_eq t slot) [
      | inl f ↦ e ∙ sym f
      | inr f ↦ absurd (unmade t (was t m f k ∙ ap (λ (x : Stamp). Some x) (is_fresh s m e h)))
    ]
    | inr e ↦ elim (cases_eq t slot) [
      | inl f ↦ absurd (unmade s (was s m e h ∙ ap (λ (x : Stamp). Some x) (is_fresh t m f k)))
      | inr f ↦ o.apart s t m (was s m e h) (was t m f k)
    ]
  ];
}
  where
    fresh : Stamp
    fresh = record { client = client; number = old.stamps }

    count_now : stamps_by (slice_get (slice_set clients client new) client) ≡ old.stamps + 1
    count_now = ap stamps_by (read_here clients client old new at_client) ∙ stamps

    count_was : stamps_by (slice_get clients client) ≡ old.stamps
    count_was = ap stamps_by at_client

    is_fresh : (s : ℕ) (m : Stamp) → s ≡ slot
        → stamp_in (slice_get (slice_set all slot left) s) ≡ Some m
        → m ≡ record { client = client; number = old.stamps }
    is_fresh s m e h =
        let here = ap stamp_in (read_here all slot seen left at_slot) ∙ stamp in
        let there = ap (λ k. stamp_in (slice_get (slice_set all slot left) k)) (sym e) ∙ h in
        cc

    was : (s : ℕ) (m : Stamp) → (s ≡ slot → ⊥)
        → stamp_in (slice_get (slice_set all slot left) s) ≡ Some m
        → stamp_in (slice_get all s) ≡ Some m
    was s m n h = sym (ap stamp_in (read_other all slot s left n)) ∙ h

    unmade : (s : ℕ)
        → stamp_in (slice_get all s) ≡ Some (record { client = client; number = old.stamps }) → ⊥
    unmade s h =
        let below = o.made s (record { client = client; number = old.stamps }) h in
        let before = count_was in
        omega arith

-- The trails.

pub trailed_slot : (n : ℕ) (all : List Slot) (clients : List Client) (slot : ℕ) (left : Slot)
    → Trailed n all clients → length (trail_of left) ≤ n
    → Trailed n (slice_set all slot left) clients
trailed_slot n all clients slot left t short = record {
  entries = λ s x h. elim (get_at_set all slot s left x h) [
    | inl e ↦
        rw e.1 short
    | inr e ↦ t.entries s x e
  ];
  hands = t.hands;
}

pub trailed_client : (n : ℕ) (all : List Slot) (clients : List Client) (client : ℕ) (new : Client)
    → Trailed n all clients → length new.trail ≤ n → Trailed n all (slice_set clients client new)
trailed_client n all clients client new t short = record {
  entries = t.entries;
  hands = λ c x h. elim (get_at_set clients client c new x h) [
    | inl e ↦
        rw e.1 short
    | inr e ↦ t.hands c x e
  ];
}

-- The ledgers.

-- one client has no more charge and no more places than it had
pub ledgers_client : (w : State) (client : ℕ) (old new : Client) → Ledgers w
    → slice_get w.clients client ≡ Some old
    → charged_to new ≤ charged_to old → real_to new ≤ real_to old → taken_by new ≤ taken_by old
    → Ledgers (with_client w client new)
ledgers_client w client old new l at_client charged real taken = record {
  real = λ strict. let before = l.real strict in
      let change = total-set real_to w.clients client old new at_client in omega arith;
  usage = let before = l.usage in
      let change = total-set charged_to w.clients client old new at_client in omega arith;
  places = let before = l.places in
      let change = total-set taken_by w.clients client old new at_client in omega arith;
}

-- one slot and one client have no more in sum
pub ledgers_both : (w : State) (slot client : ℕ) (seen left : Slot) (old new : Client) → Ledgers w
    → slice_get w.slots slot ≡ Some seen → slice_get w.clients client ≡ Some old
    → charge_of left + charged_to new ≤ charge_of seen + charged_to old
    → charge_of left + real_to new ≤ charge_of seen + real_to old
    → taken_by_slot left + taken_by new ≤ taken_by_slot seen + taken_by old
    → Ledgers (with_both w slot left client new)
ledgers_both w slot client seen left old new l at_slot at_client charged real taken = record {
  real = λ strict.
      let before = l.real strict in
      let here = total-set charge_of w.slots slot seen left at_slot in
      let change = total-set real_to w.clients client old new at_client in
      omega arith;
  usage =
      let before = l.usage in
      let here = total-set charge_of w.slots slot seen left at_slot in
      let change = total-set charged_to w.clients client old new at_client in
      omega arith;
  places =
      let before = l.places in
      let here = total-set taken_by_slot w.slots slot seen left at_slot in
      let change = total-set taken_by w.clients client old new at_client in
      omega arith;
}
