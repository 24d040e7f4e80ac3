-- The entries that clients have seen dead stay hidden.
use Rattle.std.proofs.Common.{◌≡◌, ◌⊎◌, inl, inr, ℕ, ◌+◌, ◌<◌, ◌≤◌, ◌||◌, ◌==◌, Bool, true, false}
use Rattle.std.proofs.Common.{cond, List, [], ◌∷◌, ◌++◌, Option, Some, None, slice_set, slice_get}
use Rattle.std.proofs.Common.{refl, ap, sym, ◌∙◌, arith}
use Rattle.std.specs.List.{list_any}
use Rattle.std.proofs.lemmas.Bool.{and_parts, or_cases, cases_eq, eqb-true, false≢true}
use Rattle.hcc_core.specs.declared.client.Client.{Client}
use Rattle.hcc_core.specs.declared.slot.Stamp.{Stamp}
use Rattle.hcc_core.specs.declared.slot.Slot.{Slot}
use Rattle.hcc_core.specs.declared.slot.Slot.TheVariants as slots
use Rattle.hcc_core.specs.World.{stamp_of, hidden_stamp, has_client}
use Rattle.hcc_core.specs.References.{is_stamp, joined, dead_to}
use Rattle.hcc_core.specs.Lawful.{Dead, Stamped, stamp_in, stamps_by, dead_by, shown_stamp}
use Rattle.hcc_core.specs.Lawful.{shown_in, is_in}
use Rattle.hcc_core.proofs.ListLemmas.{read_here, read_other}

-- two stamps that test alike are one
pub same_stamp : (a b : Stamp) → is_stamp a b ≡ true → a ≡ b
same_stamp a b h =
    let parts = and_parts (a.client == b.client) (a.number == b.number) h in
    let client = eqb-true a.client b.client parts.0 in
    let number = eqb-true a.number b.number parts.1 in
    λ k. record { client = client k; number = number k }

-- what stands in a list with one more
in_push : (m : Stamp) (dead : List Stamp) (stamp : Stamp) → is_in m (dead ++ stamp ∷ []) ≡ true
    → (is_in m dead ≡ true) ⊎ (stamp ≡ m)
in_push m [] stamp h = elim (or_cases (is_stamp m stamp) false h) [
  | inl e ↦
      inr (sym (same_stamp m stamp e))
  | inr e ↦ absurd (false≢true e)
]
in_push m (d ∷ ds) stamp h = by (is_stamp m d) (in_push m ds stamp) h
  where
    by : (b : Bool) → (is_in m (ds ++ stamp ∷ []) ≡ true → (is_in m ds ≡ true) ⊎ (stamp ≡ m))
        → (b || is_in m (ds ++ stamp ∷ [])) ≡ true → ((b || is_in m ds) ≡ true) ⊎ (stamp ≡ m)
    by true later h = inl refl
    by false later h = later h

-- what stands in a list that a stamp joined
pub in_joined : (m : Stamp) (dead : List Stamp) (o : Option Stamp) → is_in m (joined dead o) ≡ true
    → (is_in m dead ≡ true) ⊎ (o ≡ Some m)
in_joined m dead None h = inl h
in_joined m dead (Some stamp) h = by (list_any (is_stamp stamp) dead) h
  where
    by : (b : Bool) → is_in m (cond b dead (dead ++ stamp ∷ [])) ≡ true
        → (is_in m dead ≡ true) ⊎ (Some stamp ≡ Some m)
    by true h = inl h
    by false h = elim (in_push m dead stamp h) [
      | inl e ↦ inl e
      | inr e ↦
          inr (ap (λ (x : Stamp). Some x) e)
    ]

-- what a client sees dead is the stamp of the slot
hidden_is_stamp : (slot : Slot) (m : Stamp) → hidden_stamp slot ≡ Some m
    → (stamp_of slot ≡ Some m) × (shown_stamp slot ≡ None)
hidden_is_stamp (slots.Empty strays) m h = cc
hidden_is_stamp (slots.Building other strays) m h = cc
hidden_is_stamp (slots.Shareable r) m h = by r.shown h
  where
    by : (b : Bool) → cond b None (Some r.entry.stamp) ≡ Some m
        → (Some r.entry.stamp ≡ Some m) × (cond b (Some r.entry.stamp) None ≡ None)
    by true h = cc
    by false h = (h, refl)

pub dead_is_stamp : (client : ℕ) (slot : Slot) (m : Stamp) → dead_to client slot ≡ Some m
    → (stamp_of slot ≡ Some m) × (shown_stamp slot ≡ None)
dead_is_stamp client slot m h = by (has_client client slot) h
  where
    by : (b : Bool) → cond b (hidden_stamp slot) None ≡ Some m
        → (stamp_of slot ≡ Some m) × (shown_stamp slot ≡ None)
    by true h = hidden_is_stamp slot m h
    by false h = cc

-- an entry that is shown has that stamp
shown_is_stamp : (o : Option Slot) (m : Stamp) → shown_in o ≡ Some m → stamp_in o ≡ Some m
shown_is_stamp None m h = cc
shown_is_stamp (Some (slots.Empty strays)) m h = cc
shown_is_stamp (Some (slots.Building other strays)) m h = cc
shown_is_stamp (Some (slots.Shareable r)) m h = by r.shown h
  where
    by : (b : Bool) → cond b (Some r.entry.stamp) None ≡ Some m → Some r.entry.stamp ≡ Some m
    by true h = h
    by false h = cc

-- a stamp that was made and that no slot shows
pub record Grave (all : List Slot) (clients : List Client) (m : Stamp) : Type 0 where
  pub made : m.number < stamps_by (slice_get clients m.client)
  pub unshown : (s : ℕ) → shown_in (slice_get all s) ≡ Some m → ⊥

-- the entry of a slot that shows nothing after the step is shown nowhere
pub grave : (all : List Slot) (clients : List Client) (slot : ℕ) (seen left : Slot) (m : Stamp)
    → Stamped all clients
    → slice_get all slot ≡ Some seen → stamp_of seen ≡ Some m → shown_stamp left ≡ None
    → Grave (slice_set all slot left) clients m
grave all clients slot seen left m stamped at_slot stamp none = record {
  made = stamped.made slot m (ap stamp_in at_slot ∙ stamp);
  unshown = λ s h. elim (cases_eq s slot) [
    | inl same ↦
        let here = ap shown_in (read_here all slot seen left at_slot) ∙ none in
        let bad : None ≡ Some m = sym here
        ∙ ap (λ k. shown_in (slice_get (slice_set all slot left) k)) (sym same) ∙ h in
        cc
    | inr other ↦
        let there : shown_in (slice_get all s) ≡ Some m =
        sym (ap shown_in (read_other all slot s left other)) ∙ h in
        absurd
        (other
        (stamped.apart s slot m (shown_is_stamp (slice_get all s) m there)
        (ap stamp_in at_slot ∙ stamp)))
  ];
}

-- no entry comes to be shown, and only graves join the lists
pub dead_kept : (all all' : List Slot) (clients clients' : List Client) → Dead all clients
    → ((s : ℕ) (m : Stamp) → shown_in (slice_get all' s) ≡ Some m
    → shown_in (slice_get all s) ≡ Some m)
    → ((c : ℕ) → stamps_by (slice_get clients' c) ≡ stamps_by (slice_get clients c))
    → ((c : ℕ) (m : Stamp) → is_in m (dead_by (slice_get clients' c)) ≡ true
    → (is_in m (dead_by (slice_get clients c)) ≡ true) ⊎ Grave all' clients m)
    → Dead all' clients'
dead_kept all all' clients clients' d fewer counts lists = record {
  made = λ c m h. let same = counts m.client in elim (lists c m h) [
    | inl old ↦ let below = d.made c m old in omega arith
    | inr new ↦ let below = new.made in omega arith
  ];
  unshown = λ c s m h shown. elim (lists c m h) [
    | inl old ↦ d.unshown c s m old (fewer s m shown)
    | inr new ↦ new.unshown s shown
  ];
}

-- one entry comes to be shown, with the next stamp of its maker, which nobody has seen
pub dead_shown : (all : List Slot) (clients : List Client) (slot client : ℕ)
    (seen left : Slot) (old new : Client)
    → Dead all clients
    → slice_get all slot ≡ Some seen → slice_get clients client ≡ Some old
    → shown_stamp left ≡ Some (record { client = client; number = old.stamps })
    → new.stamps ≡ old.stamps + 1 → new.dead ≡ old.dead
    → Dead (slice_set all slot left) (slice_set clients client new)
dead_shown all clients slot client seen left old new d at_slot at_client stamp stamps dead =
    record {
      made = λ c m h.
          let below = d.made c m (was c m h) in let more = count m.client in omega arith;
      unshown = λ c s m h shown. elim (cases_eq s slot) [
        | inl same ↦
            let fresh : Stamp = record { client = client; number = old.stamps } in
            let here : shown_in (slice_get (slice_set all slot left) slot) ≡ Some fresh =
            ap shown_in (read_here all slot seen left at_slot) ∙ stamp in
            let there =
            ap (λ k. shown_in (slice_get (slice_set all slot left) k)) (sym same) ∙ shown in
            let m_is : m ≡ fresh = cc in
            let below = d.made c m (was c m h) in
            let number = ap (λ (x : Stamp). x.number) m_is in
            let maker = ap (λ (x : Stamp). stamps_by (slice_get clients x.client)) m_is in
            let counted = ap stamps_by at_client in
            absurd (omega arith)
        | inr other ↦
            d.unshown c s m (was c m h)
            (sym (ap shown_in (read_other all slot s left other)) ∙ shown)
      ];
    }
  where
    was : (c : ℕ) (m : Stamp)
        → is_in m (dead_by (slice_get (slice_set clients client new) c)) ≡ true
        → is_in m (dead_by (slice_get clients c)) ≡ true
    was c m h = elim (cases_eq c client) [
      | inl same ↦
          let now = ap dead_by (read_here clients client old new at_client) ∙ dead in
          let then = ap dead_by at_client in
          let here = ap (λ k. dead_by (slice_get (slice_set clients client new) k)) same in
          let there = ap (λ k. dead_by (slice_get clients k)) same in
          ap (is_in m) (there ∙ then ∙ sym now ∙ sym here) ∙ h
      | inr away ↦ ap (is_in m) (sym (ap dead_by (read_other clients client c new away))) ∙ h
    ]

    count : (c : ℕ)
        → stamps_by (slice_get clients c) ≤ stamps_by (slice_get (slice_set clients client new) c)
    count c = elim (cases_eq c client) [
      | inl same ↦
          let now = ap stamps_by (read_here clients client old new at_client) ∙ stamps in
          let then = ap stamps_by at_client in
          let here = ap (λ k. stamps_by (slice_get (slice_set clients client new) k)) same in
          let there = ap (λ k. stamps_by (slice_get clients k)) same in
          omega arith
      | inr away ↦ let same = ap stamps_by (read_other clients client c new away) in omega arith
    ]

-- the lists after a step of one client, whose own list may have grown by one grave
pub lists_changed : (all' : List Slot) (clients : List Client) (client : ℕ) (old new : Client)
    → slice_get clients client ≡ Some old
    → ((m : Stamp) → is_in m new.dead ≡ true → (is_in m old.dead ≡ true) ⊎ Grave all' clients m)
    → (c : ℕ) (m : Stamp) → is_in m (dead_by (slice_get (slice_set clients client new) c)) ≡ true
    → (is_in m (dead_by (slice_get clients c)) ≡ true) ⊎ Grave all' clients m
lists_changed all' clients client old new at_client own c m h = elim (cases_eq c client) [
  | inl same ↦
      let now = ap dead_by (read_here clients client old new at_client) in
      let here = ap (λ k. dead_by (slice_get (slice_set clients client new) k)) same in
      let there = ap (λ k. dead_by (slice_get clients k)) same ∙ ap dead_by at_client in
      elim (own m (ap (is_in m) (sym (here ∙ now)) ∙ h)) [
        | inl e ↦ inl (ap (is_in m) there ∙ e)
        | inr e ↦ inr e
      ]
  | inr away ↦ inl (ap (is_in m) (sym (ap dead_by (read_other clients client c new away))) ∙ h)
]
