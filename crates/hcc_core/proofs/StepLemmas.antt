-- What each step does where it is allowed, by what the code read on the way.
use Rattle.std.proofs.Common.{◌≡◌, ℕ, ◌+◌, ◌-◌, ◌&&◌, ◌||◌, ◌==◌, Bool, true, false, cond, not}
use Rattle.std.proofs.Common.{nat_lt, List, [], ◌∷◌, ◌++◌, Option, Some, None, Ok, unwrap_or}
use Rattle.std.proofs.Common.{slice_get, length, position, one-add, refl, sym, ap, ◌∙◌}
use Rattle.std.specs.List.{list_any, position_or_len, find}
use Rattle.std.proofs.lemmas.Bool.{eq-eqb}
use Rattle.hcc_core.specs.declared.client.Client.{Client}
use Rattle.hcc_core.specs.declared.slot.Reference.{Reference}
use Rattle.hcc_core.specs.declared.slot.Resident.{Resident}
use Rattle.hcc_core.specs.declared.slot.Stamp.{Stamp}
use Rattle.hcc_core.specs.declared.client.Standalone.{Standalone}
use Rattle.hcc_core.specs.declared.slot.Slot.{Slot}
use Rattle.hcc_core.specs.declared.slot.Slot.TheVariants as slots
use Rattle.hcc_core.specs.declared.client.Owned.TheVariants as owned
use Rattle.hcc_core.specs.declared.event.Reply.{Reply}
use Rattle.hcc_core.specs.declared.event.Reply.TheVariants as replies
use Rattle.hcc_core.specs.World.{State, references_of, charge_of, stamp_of, hidden_stamp, is_named}
use Rattle.hcc_core.specs.World.{has_reference, has_client, slot_holding, counts_in, usage_of}
use Rattle.hcc_core.specs.Outcomes.{live_at, with_client, with_both, has_no_member, dropped}
use Rattle.hcc_core.specs.References.{dead_to, joined, may_acquire, acquired, new_reference}
use Rattle.hcc_core.specs.References.{slot_acquired, client_acquired, acquire_of, slot_given}
use Rattle.hcc_core.specs.References.{client_noticed, left_on, give_of, counting_in, slot_used}
use Rattle.hcc_core.specs.References.{use_of}
use Rattle.hcc_core.specs.Entries.{built_by, may_show, resident_new, client_shown, show_of}
use Rattle.hcc_core.specs.Entries.{slot_hidden, hidden, hide_of, may_free, client_freeing, free_of}
use Rattle.hcc_core.specs.Entries.{freed_by, empty_of}
use Rattle.hcc_core.specs.Ledgers.{may_charge, grant_of, charge_by, may_settle, settle_of}
use Rattle.hcc_core.specs.Ledgers.{is_standing, fall_of}

live_is : (w : State) (client : ℕ) (found : Client) → slice_get w.clients client ≡ Some found
    → found.live ≡ true
    → live_at w client ≡ Ok found
live_is w client found at_client live = rw (at_client, live) refl

-- what a client is once its new dead list was noted
pub noted : (found read new : Client) (dead : Option (List Stamp)) (stamp : Option Stamp)
    → read ≡ found
    → new ≡ record read { dead = unwrap_or dead read.dead }
    → unwrap_or dead found.dead ≡ joined found.dead stamp
    → new ≡ record found { dead = joined found.dead stamp }
noted found read new dead stamp same is list = rw (is, same, list) refl

-- The first member that passes.

first_passes : {X : Type 0} (p : X → Bool) (xs : List X) (x : X)
    → slice_get xs (position_or_len p xs) ≡ Some x → p x ≡ true
first_passes p [] x h = cc
first_passes p (y ∷ ys) x h = by (p y) refl (first_passes p ys x) h
  where
    by : (b : Bool) → p y ≡ b → (slice_get ys (position_or_len p ys) ≡ Some x → p x ≡ true)
        → slice_get (y ∷ ys) (cond (not b) (1 + position_or_len p ys) 0) ≡ Some x → p x ≡ true
    by true is later h = let e : y ≡ x = cc in ap p (sym e) ∙ is
    by false is later h = later (rw one-add at h)

position_passes : {X : Type 0} (p : X → Bool) (xs : List X) (i : ℕ) (x : X)
    → position p xs ≡ Some i → slice_get xs i ≡ Some x → p x ≡ true
position_passes p xs i x h at = by (nat_lt (position_or_len p xs) (length xs)) h
  where
    by : (b : Bool) → cond b (Some (position_or_len p xs)) None ≡ Some i → p x ≡ true
    by true h = let e : position_or_len p xs ≡ i = cc in
        first_passes p xs x (ap (slice_get xs) e ∙ at)
    by false h = cc

-- a client whose name a slot has is one of its clients
named_has_client : (client name : ℕ) (ks : List Reference)
    → list_any (is_named client name) ks ≡ true
    → list_any (λ (k : Reference). k.client == client) ks ≡ true
named_has_client client name [] h = h
named_has_client client name (k ∷ ks) h =
    by (k.client == client) (k.name == name) (named_has_client client name ks) h
  where
    by : (b d : Bool)
        → (list_any (is_named client name) ks ≡ true
        → list_any (λ (k : Reference). k.client == client) ks ≡ true)
        → ((b && d) || list_any (is_named client name) ks) ≡ true
        → (b || list_any (λ (k : Reference). k.client == client) ks) ≡ true
    by true d later h = refl
    by false d later h = later h

pub held_has_client : (all : List Slot) (client name slot : ℕ) (seen : Slot)
    → slot_holding all client name ≡ Some slot → slice_get all slot ≡ Some seen
    → has_client client seen ≡ true
held_has_client all client name slot seen holding at_slot =
    named_has_client client name (references_of seen)
    (position_passes (has_reference client name) all slot seen holding at_slot)

-- The steps.

pub acquire_gives : (w : State) (client slot weight name : ℕ)
    (found new : Client) (seen left : Slot) (reply : Reply)
    → slice_get w.slots slot ≡ Some seen → slice_get w.clients client ≡ Some found
    → found.live ≡ true
    → may_acquire w.setup w.slots client found slot seen weight name ≡ true
    → reply ≡ acquired seen (counts_in seen)
    → left ≡ slot_acquired seen (new_reference client name weight seen)
    → new ≡ client_acquired client (slot_acquired seen (new_reference client name weight seen))
    found
    → acquire_of w client slot weight name ≡ Ok (reply, with_both w slot left client new)
unfolding acquire_of
acquire_gives w client slot weight name found new seen left reply
    at_slot at_client live may answers leaves becomes =
    rw (at_slot, live_is w client found at_client live, may, answers, leaves, becomes) refl

-- after an acquire the client holds a reference there
any_last : (client : ℕ) (ks : List Reference) (k : Reference) → k.client ≡ client
    → list_any (λ (k : Reference). k.client == client) (ks ++ k ∷ []) ≡ true
any_last client [] k h = rw (eq-eqb k.client client h) refl
any_last client (j ∷ js) k h = by (j.client == client) (any_last client js k h)
  where
    by : (b : Bool) → list_any (λ (k : Reference). k.client == client) (js ++ k ∷ []) ≡ true
        → (b || list_any (λ (k : Reference). k.client == client) (js ++ k ∷ [])) ≡ true
    by true later = refl
    by false later = later

if_same : {A : Type 0} (b : Bool) (a : A) → cond b a a ≡ a
if_same true a = refl
if_same false a = refl

pub dead_acquired : (client name weight : ℕ) (seen : Slot)
    → dead_to client (slot_acquired seen (new_reference client name weight seen))
    ≡ hidden_stamp seen
dead_acquired client name weight (slots.Empty strays) = refl
dead_acquired client name weight (slots.Building other strays) = refl
dead_acquired client name weight (slots.Shareable r) =
    rw (any_last client r.references (new_reference client name weight (slots.Shareable r)) refl)
    refl

pub dead_hidden : (client : ℕ) (seen : Slot) → has_client client seen ≡ true
    → dead_to client (slot_hidden seen) ≡ stamp_of seen
dead_hidden client (slots.Empty strays) has = cc
dead_hidden client (slots.Building other strays) has = cc
dead_hidden client (slots.Shareable r) has = rw has refl

pub give_gives : (w : State) (client name slot : ℕ) (found new : Client)
    (seen left : Slot) (reply : Reply)
    → slice_get w.clients client ≡ Some found → found.live ≡ true
    → slot_holding w.slots client name ≡ Some slot
    → slice_get w.slots slot ≡ Some seen → left ≡ slot_given client name seen → reply ≡ left_on left
    → new ≡ client_noticed client seen found
    → give_of w client name ≡ Ok (reply, with_both w slot left client new)
unfolding give_of
give_gives w client name slot found new seen left reply at_client
    live holds at_slot leaves answers becomes =
    rw (live_is w client found at_client live, holds, at_slot, answers, leaves, becomes) refl

pub use_gives : (w : State) (client name slot : ℕ) (found new : Client)
    (seen left : Slot) (k : Reference) (reply : Reply)
    → slice_get w.clients client ≡ Some found → found.live ≡ true
    → slot_holding w.slots client name ≡ Some slot
    → slice_get w.slots slot ≡ Some seen → counting_in client name (references_of seen) ≡ Some k
    → left ≡ slot_used client name k seen → reply ≡ left_on left
    → new ≡ client_noticed client seen found
    → use_of w client name ≡ Ok (reply, with_both w slot left client new)
unfolding use_of
use_gives w client name slot found new seen left k reply at_client
    live holds at_slot there leaves answers becomes =
    rw (live_is w client found at_client live, holds, at_slot, there, answers, leaves, becomes) refl

pub show_gives : (w : State) (client slot key0 key1 charge countdown : ℕ)
    (name : Option ℕ) (value : List ℕ) (found new : Client) (r : Resident)
    → slice_get w.clients client ≡ Some found → found.live ≡ true → built_by found.owned ≡ Some slot
    → may_show w.slots client found charge countdown name ≡ true
    → r ≡ resident_new client found key0 key1 charge countdown name value
    → new ≡ client_shown charge found
    → show_of w client key0 key1 charge countdown name value
    ≡ Ok (replies.Ok, with_both w slot (slots.Shareable r) client new)
unfolding show_of
show_gives w client slot key0 key1 charge countdown name value
    found new r at_client live builds may leaves becomes =
    rw (live_is w client found at_client live, builds, may, leaves, becomes) refl

pub hide_gives : (w : State) (client name slot : ℕ) (found new : Client)
    (seen left : Slot) (reply : Reply)
    → slice_get w.clients client ≡ Some found → found.live ≡ true
    → slot_holding w.slots client name ≡ Some slot
    → slice_get w.slots slot ≡ Some seen → left ≡ slot_hidden seen → reply ≡ hidden seen
    → new ≡ client_noticed client (slot_hidden seen) found
    → hide_of w client name ≡ Ok (reply, with_both w slot left client new)
unfolding hide_of
hide_gives w client name slot found new seen left reply at_client
    live holds at_slot leaves answers becomes =
    rw (live_is w client found at_client live, holds, at_slot, answers, leaves, becomes) refl

pub free_gives : (w : State) (client slot : ℕ) (name : Option ℕ)
    (found new : Client) (seen left : Slot) (reply : Reply)
    → slice_get w.slots slot ≡ Some seen → slice_get w.clients client ≡ Some found
    → found.live ≡ true
    → may_free client found seen name ≡ true → left ≡ slots.Building client 0
    → reply ≡ replies.Freed (charge_of seen)
    → new ≡ client_freeing client slot seen found
    → free_of w client slot name ≡ Ok (reply, with_both w slot left client new)
unfolding free_of
free_gives w client slot name found new seen left reply at_slot
    at_client live may leaves answers becomes =
    rw (at_slot, live_is w client found at_client live, may, leaves, answers, becomes) refl

pub empty_gives : (w : State) (client slot : ℕ) (found new : Client)
    → slice_get w.clients client ≡ Some found → found.live ≡ true → freed_by found.owned ≡ Some slot
    → has_no_member found.trail ≡ true → new ≡ record found { owned = owned.Nothing }
    → empty_of w client ≡ Ok (replies.Ok, with_both w slot (slots.Empty 0) client new)
unfolding empty_of
empty_gives w client slot found new at_client live frees back becomes =
    rw (live_is w client found at_client live, frees, back, becomes) refl

pub charge_gives : (w : State) (client charge granted usage : ℕ) (found new : Client)
    → slice_get w.clients client ≡ Some found → found.live ≡ true → usage ≡ usage_of w
    → may_charge found usage charge ≡ true → granted ≡ grant_of w.setup usage charge
    → new ≡ record found { granted = granted; needed = charge - granted }
    → charge_by w client charge
    ≡ Ok (replies.Split granted (charge - granted), with_client w client new)
unfolding charge_by
charge_gives w client charge granted usage found new at_client live used may grants becomes =
    let may_now : may_charge found (usage_of w) charge ≡ true =
    ap (λ u. may_charge found u charge) (sym used) ∙ may in
    let grants_now : granted ≡ grant_of w.setup (usage_of w) charge = grants
    ∙ ap (λ u. grant_of w.setup u charge) used in
    rw (live_is w client found at_client live, may_now, becomes, grants_now) refl

pub settle_gives : (w : State) (client : ℕ) (found new : Client)
    → slice_get w.clients client ≡ Some found → found.live ≡ true → may_settle found ≡ true
    → new ≡ record found { granted = found.granted + found.needed; needed = 0; freed = 0 }
    → settle_of w client ≡ Ok (replies.Ok, with_client w client new)
unfolding settle_of
settle_gives w client found new at_client live may becomes =
    rw (live_is w client found at_client live, may, becomes) refl

pub fall_gives : (w : State) (client name : ℕ) (found new : Client) (gone : Standalone)
    → slice_get w.clients client ≡ Some found → found.live ≡ true
    → find (is_standing name) found.standalones ≡ Some gone
    → new ≡ record found {
      freed = found.freed + gone.charge;
      standalones = dropped (is_standing name) found.standalones;
    }
    → fall_of w client name ≡ Ok (replies.Ok, with_client w client new)
unfolding fall_of
fall_gives w client name found new gone at_client live there becomes =
    rw (live_is w client found at_client live, there, becomes) refl
