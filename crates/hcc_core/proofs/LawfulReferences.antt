-- The events on references keep a world lawful: start, look, acquire, give, use, hide.
use Rattle.std.proofs.Common.{Option, ◌≡◌, ◌⊎◌, inl, inr, ℕ, ◌+◌, ◌*◌, ◌<◌, ◌≤◌, ◌||◌, ◌==◌, Bool}
use Rattle.std.proofs.Common.{true, false, nat_le, nat_lt, is_none, List, [], ◌∷◌, ◌++◌, Some}
use Rattle.std.proofs.Common.{slice_get, refl, sym, arith, None, ◌∙◌}
use Rattle.std.proofs.lemmas.Bool.{and_parts, or_cases, leb-true, ltb-true, false≢true, ne_eqb}
use Rattle.hcc_core.specs.declared.limits.TheConstants.{MOST_WEIGHT, MOST_CLIENTS, MOST_REFERENCES}
use Rattle.hcc_core.specs.declared.limits.TheConstants.{NEAR}
use Rattle.hcc_core.specs.declared.client.Client.{Client}
use Rattle.hcc_core.specs.declared.slot.Reference.{Reference}
use Rattle.hcc_core.specs.declared.setup.Setup.{Setup}
use Rattle.hcc_core.specs.declared.slot.Stamp.{Stamp}
use Rattle.hcc_core.specs.declared.slot.Slot.{Slot}
use Rattle.hcc_core.specs.declared.slot.Slot.TheVariants as slots
use Rattle.hcc_core.specs.Sums.{when}
use Rattle.hcc_core.specs.World.{State, is_named, stamp_of, strays_of, references_of, weight}
use Rattle.hcc_core.specs.World.{weight_of, reference_in, has_client, slot_holding}
use Rattle.hcc_core.specs.Outcomes.{with_client, with_both}
use Rattle.hcc_core.specs.References.{looks_at, client_looked, most_weight, may_acquire}
use Rattle.hcc_core.specs.References.{new_reference, slot_acquired, client_acquired, client_noticed}
use Rattle.hcc_core.specs.References.{slot_given, slot_used, noticed, dead_to}
use Rattle.hcc_core.specs.Entries.{slot_hidden}
use Rattle.hcc_core.specs.Lawful.{Lawful, IsBounded, shown_stamp, is_in}
use Rattle.hcc_core.proofs.ListLemmas.{set_same}
use Rattle.hcc_core.proofs.SumLemmas.{total-append}
use Rattle.hcc_core.proofs.ReferenceLemmas.{counted-le}
use Rattle.hcc_core.proofs.DroppedLemmas.{dropped-total, dropped-le}
use Rattle.hcc_core.proofs.LawfulParts.{looking, ledgers_client}
use Rattle.hcc_core.proofs.DeadParts.{in_joined, dead_is_stamp}
use Rattle.hcc_core.proofs.LawfulQuiet.{calm, changed, noticed_more, QuietSlot, quiet, in_ledgers}

pub lawful_start : (w : State) (client : ℕ) (found : Client) → Lawful w
    → slice_get w.clients client ≡ Some found
    → Lawful (with_client w client (record found { live = true }))
lawful_start w client found l at_client =
    let new : Client = record found { live = true } in
    in_ledgers w client found new l at_client refl refl refl refl refl
    (ledgers_client w client found new l.ledgers at_client (omega arith)
    (omega arith) (omega arith))

-- what joins a client's dead list is the stamp of a slot that shows nothing
pub dies_here : (client : ℕ) (dead : List Stamp) (slot : Slot) (m : Stamp)
    → is_in m (noticed client slot dead) ≡ true
    → (is_in m dead ≡ true) ⊎ ((stamp_of slot ≡ Some m) × (shown_stamp slot ≡ None))
dies_here client dead slot m h = elim (in_joined m dead (dead_to client slot) h) [
  | inl e ↦ inl e
  | inr e ↦ inr (dead_is_stamp client slot m e)
]

-- a slot that shows nothing new shows nothing where it showed nothing
pub still_hidden : (seen left : Slot) → shown_stamp seen ≡ None
    → ((m : Stamp) → shown_stamp left ≡ Some m → shown_stamp seen ≡ Some m)
    → shown_stamp left ≡ None
still_hidden seen left none fewer = by (shown_stamp left) refl
  where
    by : (o : Option Stamp) → shown_stamp left ≡ o → o ≡ None
    by None e = refl
    by (Some m) e = let bad : None ≡ Some m = sym none ∙ fewer m e in cc

-- Looks.

-- who looks now sees a slot without strays, or has looked nowhere
look_first : (client slot : ℕ) (seen : Slot) (found : Client)
    → (strays_of seen + 3 * looking (client_looked client slot seen found) slot
    ≤ strays_of seen + 3 * looking found slot) ⊎ (strays_of seen ≡ 0)
look_first client slot (slots.Empty strays) found = inl (omega arith)
look_first client slot (slots.Building other strays) found = inl (omega arith)
look_first client slot (slots.Shareable r) found = inr refl

look_else : (client slot s : ℕ) (seen : Slot) (found : Client) → (s ≡ slot → ⊥)
    → looking (client_looked client slot seen found) s ≤ looking found s
look_else client slot s (slots.Empty strays) found n = omega arith
look_else client slot s (slots.Building other strays) found n = omega arith
look_else client slot s (slots.Shareable r) found n =
    let away : (slot == s) ≡ false = ne_eqb slot s (λ e. n (sym e)) in
    rw away (omega arith)

pub lawful_look : (w : State) (client slot : ℕ) (found : Client) (seen : Slot) → Lawful w
    → slice_get w.slots slot ≡ Some seen → slice_get w.clients client ≡ Some found
    → Lawful (with_client w client (client_looked client slot seen found))
lawful_look w client slot found seen l at_slot at_client =
    rw (set_same w.slots slot seen at_slot) at both
  where
    both : Lawful (with_both w slot seen client (client_looked client slot seen found))
    both =
        quiet w slot client seen seen found (client_looked client slot seen found)
        l at_slot at_client (calm seen)
        (noticed_more found _ _)
        (l.bounded slot seen at_slot) (look_first client slot seen found)
        (λ s n. look_else client slot s seen found n) (λ m h. dies_here client found.dead seen m h)

-- Acquires.

calm_acquired : (seen : Slot) (k : Reference) → QuietSlot seen (slot_acquired seen k)
calm_acquired (slots.Empty strays) k =
    record {
      owner = refl;
      stamp = refl;
      trail = refl;
      charge = refl;
      taken = refl;
      shown = λ m h. h;
    }
calm_acquired (slots.Building other strays) k =
    record {
      owner = refl;
      stamp = refl;
      trail = refl;
      charge = refl;
      taken = refl;
      shown = λ m h. h;
    }
calm_acquired (slots.Shareable r) k = changed r _ r.uses r.hit

-- what the test of an acquire says
pub record MayAcquire (setup : Setup) (client slot : ℕ) (found : Client)
    (seen : Slot) (weight : ℕ) : Type 0 where
  pub few : weight ≤ MOST_WEIGHT
  pub near : (looks_at found slot || has_client client seen) ≡ true
  pub room : weight_of seen + weight ≤ most_weight setup

pub may_acquire_parts : (setup : Setup) (all : List Slot) (client : ℕ)
    (found : Client) (slot : ℕ) (seen : Slot) (weight name : ℕ)
    → may_acquire setup all client found slot seen weight name ≡ true
    → MayAcquire setup client slot found seen weight
unfolding may_acquire
may_acquire_parts setup all client found slot seen weight name h =
    let a = and_parts _ (nat_le (weight_of seen + weight) (most_weight setup)) h in
    let b = and_parts _ (looks_at found slot || has_client client seen) a.0 in
    let d = and_parts _ (is_none (slot_holding all client name)) b.0 in
    let e = and_parts (nat_le 1 weight) (nat_le weight MOST_WEIGHT) d.0 in
    record {
      few = leb-true weight MOST_WEIGHT e.1;
      near = b.1;
      room = leb-true (weight_of seen + weight) (most_weight setup) a.1;
    }

-- an acquire goes astray only where its client looked
acquired_strays : (client slot : ℕ) (found : Client) (seen : Slot) (k : Reference)
    → k.weight ≤ MOST_WEIGHT
    → (looks_at found slot || has_client client seen) ≡ true
    → (strays_of (slot_acquired seen k) + 3 * 0 ≤ strays_of seen + 3 * looking found slot)
    ⊎ (strays_of (slot_acquired seen k) ≡ 0)
acquired_strays client slot found (slots.Empty strays) k few near =
    inl (elim (or_cases (looks_at found slot) false near) [
      | inl e ↦ rw e (omega arith)
      | inr e ↦ absurd (false≢true e)
    ])
acquired_strays client slot found (slots.Building other strays) k few near =
    inl (elim (or_cases (looks_at found slot) false near) [
      | inl e ↦ rw e (omega arith)
      | inr e ↦ absurd (false≢true e)
    ])
acquired_strays client slot found (slots.Shareable r) k few near = inr refl

-- the most that a world's references weigh is within the product's bound
most_weight_few : (setup : Setup) → setup.clients ≤ MOST_CLIENTS
    → most_weight setup ≤ MOST_REFERENCES
most_weight_few setup few = omega arith

-- a reference that counts was made while the uses were few
acquired_bounded : (setup : Setup) (client name weight : ℕ) (seen : Slot)
    → setup.clients ≤ MOST_CLIENTS
    → IsBounded setup seen → weight_of seen + weight ≤ most_weight setup
    → IsBounded setup (slot_acquired seen (new_reference client name weight seen))
acquired_bounded setup client name weight (slots.Empty strays) few b room =
    record { references = omega arith; uses = omega arith }
acquired_bounded setup client name weight (slots.Building other strays) few b room =
    record { references = omega arith; uses = omega arith }
acquired_bounded setup client name weight (slots.Shareable r) few b room =
    by (nat_lt r.uses NEAR) refl
  where
    by : (counting : Bool) → nat_lt r.uses NEAR ≡ counting
        → IsBounded setup
        (slots.Shareable
        (record r {
          references =
              r.references ++ record {
                client = client;
                name = name;
                weight = weight;
                counting = nat_lt r.uses NEAR;
              } ∷ [];
        }))
    by true e =
        let k : Reference =
        record {
          client = client;
          name = name;
          weight = weight;
          counting = nat_lt r.uses NEAR;
        } in
        let sum = total-append (λ (k : Reference). k.weight) r.references (k ∷ []) in
        let all = counted-le (r.references ++ k ∷ []) in
        let most = most_weight_few setup few in
        let early : r.uses < NEAR = ltb-true r.uses NEAR e in
        record { references = omega arith; uses = omega arith }
    by false e =
        let k : Reference =
        record {
          client = client;
          name = name;
          weight = weight;
          counting = nat_lt r.uses NEAR;
        } in
        let sum = total-append (λ (k : Reference). k.weight) r.references (k ∷ []) in
        let counts = total-append (λ (k : Reference). when k.counting k.weight)
        r.references (k ∷ []) in
        let none : when (nat_lt r.uses NEAR) weight ≡ 0 = rw e refl in
        let before = b.uses in
        record { references = omega arith; uses = omega arith }

pub lawful_acquire : (w : State) (client slot weight name : ℕ) (found : Client) (seen : Slot)
    → Lawful w
    → slice_get w.slots slot ≡ Some seen → slice_get w.clients client ≡ Some found
    → may_acquire w.setup w.slots client found slot seen weight name ≡ true
    → Lawful (with_both w slot (slot_acquired seen (new_reference client name weight seen)) client
    (client_acquired client (slot_acquired seen (new_reference client name weight seen)) found))
lawful_acquire w client slot weight name found seen l at_slot at_client may =
    let k : Reference = new_reference client name weight seen in
    let parts = may_acquire_parts w.setup w.slots client found slot seen weight name may in
    quiet w slot client seen (slot_acquired seen k) found
    (client_acquired client (slot_acquired seen k) found) l at_slot at_client
    (calm_acquired seen k)
    (noticed_more found _ _)
    (acquired_bounded w.setup client name weight seen l.sized.few_clients
    (l.bounded slot seen at_slot) parts.room)
    (acquired_strays client slot found seen k parts.few parts.near) (λ s n. omega arith)
    (λ m h. elim (dies_here client found.dead (slot_acquired seen k) m h) [
      | inl e ↦ inl e
      | inr e ↦ inr (sym (calm_acquired seen k).stamp ∙ e.0, e.1)
    ])

-- Gives and uses.

calm_given : (client name : ℕ) (seen : Slot) → QuietSlot seen (slot_given client name seen)
calm_given client name (slots.Empty strays) = calm _
calm_given client name (slots.Building other strays) = calm _
calm_given client name (slots.Shareable r) = changed r _ r.uses r.hit

given_strays : (client name : ℕ) (seen : Slot)
    → strays_of (slot_given client name seen) ≡ strays_of seen
given_strays client name (slots.Empty strays) = refl
given_strays client name (slots.Building other strays) = refl
given_strays client name (slots.Shareable r) = refl

pub given_bounded : (setup : Setup) (client name : ℕ) (seen : Slot) → IsBounded setup seen
    → IsBounded setup (slot_given client name seen)
given_bounded setup client name (slots.Empty strays) b = b
given_bounded setup client name (slots.Building other strays) b = b
given_bounded setup client name (slots.Shareable r) b =
    let lighter = dropped-le (is_named client name) (λ (k : Reference). k.weight) r.references in
    let fewer = dropped-le (is_named client name) (λ (k : Reference). when k.counting k.weight)
    r.references in
    let references = b.references in
    let uses = b.uses in
    record { references = omega arith; uses = omega arith }

pub lawful_give : (w : State) (client name slot : ℕ) (found : Client) (seen : Slot) → Lawful w
    → slice_get w.slots slot ≡ Some seen → slice_get w.clients client ≡ Some found
    → Lawful
    (with_both w slot (slot_given client name seen) client (client_noticed client seen found))
lawful_give w client name slot found seen l at_slot at_client =
    quiet w slot client seen (slot_given client name seen) found
    (client_noticed client seen found) l at_slot at_client
    (calm_given client name seen)
    (noticed_more found _ _)
    (given_bounded w.setup client name seen (l.bounded slot seen at_slot))
    (inl (let same = given_strays client name seen in omega arith)) (λ s n. omega arith)
    (λ m h. elim (dies_here client found.dead seen m h) [
      | inl e ↦ inl e
      | inr e ↦
          inr (
            e.0,
            still_hidden seen (slot_given client name seen)
                e.1 (calm_given client name seen).shown,
          )
    ])

calm_used : (client name : ℕ) (k : Reference) (seen : Slot)
    → QuietSlot seen (slot_used client name k seen)
calm_used client name k (slots.Empty strays) = calm _
calm_used client name k (slots.Building other strays) = calm _
calm_used client name k (slots.Shareable r) = changed r _ _ r.hit

used_strays : (client name : ℕ) (k : Reference) (seen : Slot)
    → strays_of (slot_used client name k seen) ≡ strays_of seen
used_strays client name k (slots.Empty strays) = refl
used_strays client name k (slots.Building other strays) = refl
used_strays client name k (slots.Shareable r) = refl

-- what a use adds to the uses was counting before
pub used_bounded : (setup : Setup) (client name : ℕ) (k : Reference) (seen : Slot)
    → reference_in client name (references_of seen) ≡ Some k → k.counting ≡ true
    → IsBounded setup seen → IsBounded setup (slot_used client name k seen)
used_bounded setup client name k (slots.Empty strays) there counts b = b
used_bounded setup client name k (slots.Building other strays) there counts b = b
used_bounded setup client name k (slots.Shareable r) there counts b =
    let lighter = dropped-total (is_named client name) (λ (k : Reference). k.weight)
    r.references k there in
    let fewer = dropped-total (is_named client name) (λ (k : Reference). when k.counting k.weight)
    r.references k there in
    let whole : when k.counting k.weight ≡ k.weight = rw counts refl in
    let references = b.references in
    let uses = b.uses in
    record { references = omega arith; uses = omega arith }

pub lawful_use : (w : State) (client name slot : ℕ) (found : Client) (seen : Slot) (k : Reference)
    → Lawful w
    → slice_get w.slots slot ≡ Some seen → slice_get w.clients client ≡ Some found
    → reference_in client name (references_of seen) ≡ Some k → k.counting ≡ true
    → Lawful
    (with_both w slot (slot_used client name k seen) client (client_noticed client seen found))
lawful_use w client name slot found seen k l at_slot at_client there counts =
    quiet w slot client seen (slot_used client name k seen) found
    (client_noticed client seen found) l at_slot at_client
    (calm_used client name k seen)
    (noticed_more found _ _)
    (used_bounded w.setup client name k seen there counts (l.bounded slot seen at_slot))
    (inl (let same = used_strays client name k seen in omega arith)) (λ s n. omega arith)
    (λ m h. elim (dies_here client found.dead seen m h) [
      | inl e ↦ inl e
      | inr e ↦
          inr (
            e.0,
            still_hidden seen (slot_used client name k seen)
                e.1 (calm_used client name k seen).shown,
          )
    ])

-- Hides.

calm_hidden : (seen : Slot) → QuietSlot seen (slot_hidden seen)
calm_hidden (slots.Empty strays) = calm _
calm_hidden (slots.Building other strays) = calm _
calm_hidden (slots.Shareable r) =
    record {
      owner = refl;
      stamp = refl;
      trail = refl;
      charge = refl;
      taken = refl;
      shown = λ m h. cc;
    }

hidden_strays : (seen : Slot) → strays_of (slot_hidden seen) ≡ strays_of seen
hidden_strays (slots.Empty strays) = refl
hidden_strays (slots.Building other strays) = refl
hidden_strays (slots.Shareable r) = refl

hidden_bounded : (setup : Setup) (seen : Slot) → IsBounded setup seen
    → IsBounded setup (slot_hidden seen)
hidden_bounded setup (slots.Empty strays) b = b
hidden_bounded setup (slots.Building other strays) b = b
hidden_bounded setup (slots.Shareable r) b = record { references = b.references; uses = b.uses }

pub lawful_hide : (w : State) (client slot : ℕ) (found : Client) (seen : Slot) → Lawful w
    → slice_get w.slots slot ≡ Some seen → slice_get w.clients client ≡ Some found
    → Lawful (with_both w slot (slot_hidden seen) client
    (client_noticed client (slot_hidden seen) found))
lawful_hide w client slot found seen l at_slot at_client =
    quiet w slot client seen (slot_hidden seen) found
    (client_noticed client (slot_hidden seen) found) l at_slot at_client
    (calm_hidden seen)
    (noticed_more found _ _)
    (hidden_bounded w.setup seen (l.bounded slot seen at_slot))
    (inl (let same = hidden_strays seen in omega arith)) (λ s n. omega arith)
    (λ m h. elim (dies_here client found.dead (slot_hidden seen) m h) [
      | inl e ↦ inl e
      | inr e ↦ inr (sym (calm_hidden seen).stamp ∙ e.0, e.1)
    ])
