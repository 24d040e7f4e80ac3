-- What each event moves where it is allowed. What an event that shows adds, `Shows` says.
use Rattle.std.proofs.Common.{◌≡◌, ℕ, ◌+◌, ◌-◌, ◌&&◌, ◌||◌, nat_lt, nat_le, is_none, true, not}
use Rattle.std.proofs.Common.{length, List, Option, Some, Result, Ok, Err, slice_set, refl, Bool}
use Rattle.std.proofs.Common.{false, cond, [], ◌∷◌, None, slice_get, ◌==◌, sym, ◌∙◌}
use Rattle.std.specs.Prelude.{option_and_then}
use Rattle.std.specs.List.{find, list_any}
use Rattle.std.specs.Option.{ok_or}
use Rattle.std.proofs.lemmas.Bool.{and_parts, false≢true}
use Rattle.std.proofs.lemmas.List.{length-set}
use Rattle.hcc_core.specs.declared.limits.TheConstants.{CORRECTION}
use Rattle.hcc_core.specs.declared.client.Client.{Client}
use Rattle.hcc_core.specs.declared.client.Owned.{Owned}
use Rattle.hcc_core.specs.declared.client.Owned.TheVariants as owned
use Rattle.hcc_core.specs.declared.setup.Setup.{Setup}
use Rattle.hcc_core.specs.declared.slot.Entry.{Entry}
use Rattle.hcc_core.specs.declared.slot.Reference.{Reference}
use Rattle.hcc_core.specs.declared.slot.Slot.{Slot}
use Rattle.hcc_core.specs.declared.slot.Slot.TheVariants as slots
use Rattle.hcc_core.specs.declared.event.CoreError.{CoreError}
use Rattle.hcc_core.specs.declared.event.CoreError.TheVariants.{NotAllowed}
use Rattle.hcc_core.specs.World.{State, references_of, usage_of, uses_of, is_placed, occupancy_of}
use Rattle.hcc_core.specs.World.{standing_in, weight_of, has_client, slot_holding, owns_nothing}
use Rattle.hcc_core.specs.World.{is_absent, is_named}
use Rattle.hcc_core.specs.Outcomes.{Outcome, ◌>>=◌, allow, slot_at, client_at, live_at, holding}
use Rattle.hcc_core.specs.Outcomes.{with_both, has_no_member}
use Rattle.hcc_core.specs.References.{start_of, look_of, looks_at, most_weight, acquire_of}
use Rattle.hcc_core.specs.References.{may_acquire, give_of, use_of, counting_in, end_of, is_idle}
use Rattle.hcc_core.specs.References.{holds_nothing}
use Rattle.hcc_core.specs.Uses.{clock_of, may_clock, clocked, mark_of, correct_of, may_correct}
use Rattle.hcc_core.specs.Entries.{occupied, occupy_of, hide_of, free_of, may_free, empty_of}
use Rattle.hcc_core.specs.Entries.{freed_by, write_of, is_building, read_of, entry_read}
use Rattle.hcc_core.specs.Entries.{is_free_for, peek_of}
use Rattle.hcc_core.specs.Ledgers.{enter_of, slots_of, charge_by, may_charge, settle_of, may_settle}
use Rattle.hcc_core.specs.Ledgers.{waive_of, may_waive, quit_of, told, usage_told, occupancy_told}
use Rattle.hcc_core.specs.Ledgers.{standing_told, stand_of, may_stand, fall_of, is_standing}
use Rattle.hcc_core.specs.Trails.{count_of, pass_of, unpass_of, is_slot, turn_of}
use Rattle.hcc_core.specs.Lawful.{Lawful, stamps_by, owner_in, owned_by, owned_slot}
use Rattle.hcc_core.specs.Runs.{entry_of, entry_at, entry_held, is_by_name, slot_weighs}
use Rattle.hcc_core.proofs.ListLemmas.{read_same}
use Rattle.hcc_core.proofs.Keeps.{found_ok, live_ok, may_ok}
use Rattle.hcc_core.proofs.HeldNames.{unheld}
use Rattle.hcc_core.proofs.SumLemmas.{sum_at}
use Rattle.hcc_core.proofs.Moves.{Moves, Turns, called, one_name, still, client_moves, slot_moves}
use Rattle.hcc_core.proofs.Moves.{emptied, taken, given, used, hid, marked, recounted, got}

-- what the world after moved, where the step is made, these names may go, this entry is lost and
-- this slot's face may change
abbrev pub MovedBut : (ℕ → ℕ → Bool) → Option Entry → Option ℕ → State → Outcome → Type 0
MovedBut gone lost but w (Ok done) = Moves gone lost but w done.1
MovedBut gone lost but w (Err error) = Unit {0}

-- where nothing goes
abbrev pub Moved : State → Outcome → Type 0
Moved w outcome = MovedBut (λ c n. false) None None w outcome

-- a reading on the way, and what it found
chain_but : (gone : ℕ → ℕ → Bool) (lost : Option Entry) (but : Option ℕ) (w : State) {A : Type 0}
    (r : Result A CoreError) (f : A → Outcome)
    → ((x : A) → r ≡ Ok x → MovedBut gone lost but w (f x)) → MovedBut gone lost but w (r >>= f)
chain_but gone lost but w (Ok x) f h = h x refl
chain_but gone lost but w (Err e) f h = tt

chain : (w : State) {A : Type 0} (r : Result A CoreError) (f : A → Outcome)
    → ((x : A) → r ≡ Ok x → Moved w (f x)) → Moved w (r >>= f)
chain w r f h = chain_but (λ c n. false) None None w r f h

-- a step of a live client that changes nothing but that client
live_moves : {gone : ℕ → ℕ → Bool} {but : Option ℕ} (w : State) (client : ℕ) (found new : Client)
    → live_at w client ≡ Ok found → new.stamps ≡ found.stamps
    → Moves gone None but w (record w { clients = slice_set w.clients client new })
live_moves w client found new live stamps =
    client_moves w client found new (live_ok w client found live) stamps

-- a step of a live client that changes a slot too
both_move : {gone : ℕ → ℕ → Bool} {lost : Option Entry} {kept : Bool} (w : State)
    (slot client : ℕ) (seen left : Slot) (found new : Client) → slot_at w slot ≡ Ok seen
    → live_at w client ≡ Ok found → Turns gone lost kept w (Some seen) left
    → new.stamps ≡ found.stamps
    → Moves gone lost (cond kept None (Some slot)) w (with_both w slot left client new)
both_move w slot client seen left found new at live turns stamps =
    slot_moves w slot left _ (rw (found_ok _ _ seen at) turns)
    (λ c. read_same stamps_by w.clients client c found new (live_ok w client found live) stamps)
    (length-set w.clients client new)

-- Slots that nobody else holds.

-- what is free for a client and a name has no other reference
free_named : (client : ℕ) (name : Option ℕ) (c n : ℕ) (ks : List Reference)
    → is_free_for client name ks ≡ true → list_any (is_named c n) ks ≡ true
    → is_by_name c n client name ≡ true
free_named client None c n [] free h = absurd (false≢true h)
free_named client None c n (k ∷ ks) free h = absurd (false≢true free)
free_named client (Some name) c n [] free h = absurd (false≢true free)
free_named client (Some name) c n (k ∷ []) free h =
    by (is_named c n k) refl h
  where
    by : (b : Bool) → is_named c n k ≡ b → (b || false) ≡ true
        → ((client == c) && (name == n)) ≡ true
    by true is h =
        let a = and_parts (is_named client name k && k.weight == 1) true free in
        let b = and_parts (is_named client name k) (k.weight == 1) a.0 in
        one_name client name c n k b.0 is
    by false is h = absurd (false≢true h)
free_named client (Some name) c n (k ∷ j ∷ ks) free h =
    let bad = and_parts (is_named client name k && k.weight == 1) false free in
    absurd (false≢true bad.1)

-- what is free for a client and a name is held under no other name
freed : (client : ℕ) (found : Client) (seen : Slot) (name : Option ℕ)
    → may_free client found seen name ≡ true → (c n : ℕ) (e : Entry)
    → is_by_name c n client name ≡ false → entry_held c n seen ≡ Some e → None ≡ Some e
freed client found (slots.Empty strays) name may c n e other h = h
freed client found (slots.Building maker strays) name may c n e other h = h
freed client found (slots.Shareable r) name may c n e other h =
    by (list_any (is_named c n) r.references) refl h
  where
    by : (b : Bool) → list_any (is_named c n) r.references ≡ b
        → cond b (Some r.entry) None ≡ Some e → None ≡ Some e
    by true is h =
        let a = and_parts _ (is_free_for client name r.references) may in
        absurd (false≢true (sym other ∙ free_named client name c n r.references a.1 is))
    by false is h = h

-- a slot weighs what its entry does
weighs_entry : (h : Entry → ℕ) (seen : Slot) → sum_at h (entry_of seen) ≡ slot_weighs h seen
weighs_entry h (slots.Empty strays) = refl
weighs_entry h (slots.Building client strays) = refl
weighs_entry h (slots.Shareable r) = refl

-- nothing is held on a slot that has an owner
none_held : (c n : ℕ) (e : Entry) (o : Option Slot) (owner : ℕ) → owner_in o ≡ Some owner
    → option_and_then (entry_held c n) o ≡ Some e → None ≡ Some e
none_held c n e None owner is h = cc
none_held c n e (Some (slots.Empty strays)) owner is h = cc
none_held c n e (Some (slots.Building client strays)) owner is h = cc
none_held c n e (Some (slots.Shareable r)) owner is h = cc

-- the slot that a client owns in a lawful world has that owner
pub owner_there : {w : State} (client slot : ℕ) (found : Client) (l : Lawful w)
    → live_at w client ≡ Ok found → owned_slot found.owned ≡ Some slot
    → owner_in (slice_get w.slots slot) ≡ Some client
owner_there {w} client slot found l live owns =
    let at : owned_by (slice_get w.clients client) ≡ Some slot =
    rw (live_ok w client found live) owns in
    l.owners.owned slot client at

-- so nothing is held on it
pub owned_held : {w : State} (client slot : ℕ) (found : Client) (l : Lawful w)
    → live_at w client ≡ Ok found → owned_slot found.owned ≡ Some slot → (c n : ℕ) (e : Entry)
    → option_and_then (entry_held c n) (slice_get w.slots slot) ≡ Some e → None ≡ Some e
owned_held {w} client slot found l live owns c n e h =
    none_held c n e (slice_get w.slots slot) client (owner_there client slot found l live owns) h

-- nor does an entry stand there
none_stands : (h : Entry → ℕ) (o : Option Slot) (owner : ℕ) → owner_in o ≡ Some owner
    → 0 ≡ sum_at (slot_weighs h) o
none_stands h None owner is = refl
none_stands h (Some (slots.Empty strays)) owner is = refl
none_stands h (Some (slots.Building client strays)) owner is = refl
none_stands h (Some (slots.Shareable r)) owner is = cc

owned_stands : {w : State} (client slot : ℕ) (found : Client) (l : Lawful w)
    → live_at w client ≡ Ok found → owned_slot found.owned ≡ Some slot → (h : Entry → ℕ)
    → 0 ≡ sum_at (slot_weighs h) (slice_get w.slots slot)
owned_stands {w} client slot found l live owns h =
    none_stands h (slice_get w.slots slot) client (owner_there client slot found l live owns)

-- the slot that a client owns for freeing is one that it owns
frees_owned : (o : Owned) (slot : ℕ) → freed_by o ≡ Some slot → owned_slot o ≡ Some slot
frees_owned owned.Nothing slot h = cc
frees_owned (owned.ForBuilding s) slot h = cc
frees_owned (owned.ForFreeing s) slot h = h

-- The events on references.

pub start_moves : (w : State) (client : ℕ) → Moved w (start_of w client)
start_moves w client =
    chain w (client_at w client) _ (λ found at. chain w (allow (not found.live)) _ (λ u may.
    client_moves w client found _ (found_ok _ _ found at) refl))

pub look_moves : (w : State) (client slot : ℕ) → Moved w (look_of w client slot)
look_moves w client slot =
    chain w (slot_at w slot) _ (λ seen at. chain w (live_at w client) _ (λ found live.
    live_moves w client found _ live refl))

-- the test of an acquire finds the name unheld
unheld_to_acquire : (setup : Setup) (all : List Slot) (client : ℕ) (found : Client) (slot : ℕ)
    (seen : Slot) (weight name : ℕ)
    → may_acquire setup all client found slot seen weight name ≡ true
    → is_none (slot_holding all client name) ≡ true
unfolding may_acquire
unheld_to_acquire setup all client found slot seen weight name h =
    let a = and_parts _ (nat_le (weight_of seen + weight) (most_weight setup)) h in
    let b = and_parts _ (looks_at found slot || has_client client seen) a.0 in
    let d = and_parts _ (is_none (slot_holding all client name)) b.0 in
    d.1

pub acquire_moves : (w : State) (client slot weight name : ℕ)
    → Moved w (acquire_of w client slot weight name)
unfolding acquire_of
acquire_moves w client slot weight name =
    chain w (slot_at w slot) _ (λ seen at. chain w (live_at w client) _ (λ found live.
    chain w (allow (may_acquire w.setup w.slots client found slot seen weight name)) _ (λ u may.
    both_move w slot client seen _ found _ at live
    (got w client name weight seen (unheld w client name
    (unheld_to_acquire w.setup w.slots client found slot seen weight name (may_ok _ u may))))
    refl)))

pub give_moves : (w : State) (client name : ℕ)
    → MovedBut (called client name) None None w (give_of w client name)
unfolding give_of
give_moves w client name =
    chain_but _ _ _ w (live_at w client) _ (λ found live.
    chain_but _ _ _ w (holding w client name) _ (λ slot held.
    chain_but _ _ _ w (slot_at w slot) _ (λ seen at.
    both_move w slot client seen _ found _ at live (given w client name seen) refl)))

pub use_moves : (w : State) (client name : ℕ)
    → MovedBut (called client name) None None w (use_of w client name)
unfolding use_of
use_moves w client name =
    chain_but _ _ _ w (live_at w client) _ (λ found live.
    chain_but _ _ _ w (holding w client name) _ (λ slot held.
    chain_but _ _ _ w (slot_at w slot) _ (λ seen at.
    chain_but _ _ _ w (ok_or (counting_in client name (references_of seen)) NotAllowed) _
    (λ k there.
    both_move w slot client seen _ found _ at live (used w client name k seen) refl))))

pub hide_moves : (w : State) (client name : ℕ)
    → MovedBut (λ c n. false) None (slot_holding w.slots client name) w (hide_of w client name)
unfolding hide_of
hide_moves w client name =
    chain_but _ _ _ w (live_at w client) _ (λ found live.
    chain_but _ _ _ w (holding w client name) _ (λ slot held.
    chain_but _ _ _ w (slot_at w slot) _ (λ seen at. rw (found_ok _ _ slot held)
    (both_move w slot client seen _ found _ at live (hid w seen) refl))))

pub read_moves : (w : State) (client name : ℕ) → Moved w (read_of w client name)
unfolding read_of
read_moves w client name =
    chain w (live_at w client) _ (λ found live. chain w (holding w client name) _ (λ slot held.
    chain w (slot_at w slot) _
    (λ seen at. chain w (entry_read seen) _ (λ entry is. still w w.hand))))

-- The events on uses and marks.

pub clock_moves : (w : State) (client slot : ℕ) → Moved w (clock_of w client slot)
unfolding clock_of
clock_moves w client slot =
    chain w (slot_at w slot) _ (λ seen at. chain w (live_at w client) _ (λ found live.
    chain w (allow (may_clock seen)) _ (λ u may.
    slot_moves {kept = true} w slot _ w.clients
    (rw (found_ok _ _ seen at) (recounted w (clocked (uses_of seen)) seen)) (λ c. refl) refl)))

pub mark_moves : (w : State) (client name : ℕ) → Moved w (mark_of w client name)
unfolding mark_of
mark_moves w client name =
    chain w (live_at w client) _ (λ found live. chain w (holding w client name) _ (λ slot held.
    chain w (slot_at w slot) _ (λ seen at.
    both_move w slot client seen _ found _ at live (marked w seen) refl)))

pub correct_moves : (w : State) (client name : ℕ) → Moved w (correct_of w client name)
unfolding correct_of
correct_moves w client name =
    chain w (live_at w client) _ (λ found live. chain w (holding w client name) _ (λ slot held.
    chain w (slot_at w slot) _
    (λ seen at. chain w (allow (may_correct client name seen)) _ (λ u may.
    both_move w slot client seen _ found _ at live
    (recounted w (uses_of seen - CORRECTION) seen) refl))))

-- The events on entries, but for `show`.

occupied_moves : (w : State) (client slot : ℕ) (found : Client) (seen : Slot)
    → slot_at w slot ≡ Ok seen → live_at w client ≡ Ok found
    → Moved w (occupied w client found slot seen)
occupied_moves w client slot found (slots.Empty strays) at live =
    both_move {kept = true} w slot client (slots.Empty strays) _ found _ at live
    (taken w _ client strays (λ l c n e other h. h) (λ k. refl) (λ l h. refl)) refl
occupied_moves w client slot found (slots.Building other strays) at live = look_moves w client slot
occupied_moves w client slot found (slots.Shareable r) at live = look_moves w client slot

pub occupy_moves : (w : State) (client slot : ℕ) → Moved w (occupy_of w client slot)
occupy_moves w client slot =
    chain w (slot_at w slot) _ (λ seen at. chain w (live_at w client) _ (λ found live.
    chain w (allow (owns_nothing found.owned)) _ (λ u free.
    occupied_moves w client slot found seen at live)))

pub write_moves : (w : State) (client : ℕ) → Moved w (write_of w client)
write_moves w client =
    chain w (live_at w client) _
    (λ found live. chain w (allow (is_building found.owned)) _ (λ u builds.
    still w w.hand))

pub free_moves : (w : State) (client slot : ℕ) (name : Option ℕ)
    → MovedBut (λ c n. is_by_name c n client name) (entry_at w slot) (Some slot) w
    (free_of w client slot name)
unfolding free_of
free_moves w client slot name =
    chain_but _ _ _ w (slot_at w slot) _ (λ seen at.
    chain_but _ _ _ w (live_at w client) _ (λ found live.
    chain_but _ _ _ w (allow (may_free client found seen name)) _ (λ u may.
    both_move {kept = false} w slot client seen _ found _ at live
    (taken w _ client 0 (λ l. freed client found seen name (may_ok _ u may)) (λ k. cc)
    (λ l h. rw (found_ok _ _ seen at) (weighs_entry h seen))) refl)))

pub empty_moves : (w : State) (client : ℕ)
    → MovedBut (λ c n. false) None (owned_by (slice_get w.clients client)) w (empty_of w client)
unfolding empty_of
empty_moves w client =
    chain_but _ _ _ w (live_at w client) _ (λ found live.
    chain_but _ _ _ w (ok_or (freed_by found.owned) NotAllowed) _ (λ slot frees.
    chain_but _ _ _ w (allow (has_no_member found.trail)) _ (λ u back.
    rw (live_ok w client found live, frees_owned found.owned slot (found_ok _ _ slot frees))
    (slot_moves {kept = false} w slot _ _ (emptied w _ 0 (λ l c n e other.
    owned_held client slot found l live
    (frees_owned found.owned slot (found_ok _ _ slot frees)) c n e) (λ k. cc)
    (λ l. owned_stands client slot found l live
    (frees_owned found.owned slot (found_ok _ _ slot frees))))
    (λ c. read_same stamps_by w.clients client c found _ (live_ok w client found live) refl)
    (length-set w.clients client _)))))

-- The events on ledgers and standalone entries.

pub enter_moves : (w : State) (client : ℕ) → Moved w (enter_of w client)
unfolding enter_of
enter_moves w client =
    chain w (live_at w client) _
    (λ found live. chain w (allow (is_absent found.place)) _ (λ u absent.
    live_moves w client found _ live refl))

pub slots_moves : (w : State) (client : ℕ) → Moved w (slots_of w client)
unfolding slots_of
slots_moves w client =
    chain w (live_at w client) _ (λ found live.
    chain w (allow (nat_lt 0 found.freed_slots)) _ (λ u some.
    live_moves w client found _ live refl))

pub quit_moves : (w : State) (client : ℕ) → Moved w (quit_of w client)
unfolding quit_of
quit_moves w client =
    chain w (live_at w client) _
    (λ found live. chain w (allow (is_placed found.place)) _ (λ u placed.
    live_moves w client found _ live refl))

pub charge_moves : (w : State) (client charge : ℕ) → Moved w (charge_by w client charge)
unfolding charge_by
charge_moves w client charge =
    chain w (live_at w client) _ (λ found live.
    chain w (allow (may_charge found (usage_of w) charge)) _ (λ u may.
    live_moves w client found _ live refl))

pub settle_moves : (w : State) (client : ℕ) → Moved w (settle_of w client)
unfolding settle_of
settle_moves w client =
    chain w (live_at w client) _ (λ found live. chain w (allow (may_settle found)) _ (λ u may.
    live_moves w client found _ live refl))

pub waive_moves : (w : State) (client : ℕ) → Moved w (waive_of w client)
unfolding waive_of
waive_moves w client =
    chain w (live_at w client) _ (λ found live. chain w (allow (may_waive found)) _ (λ u may.
    live_moves w client found _ live refl))

told_moves : (w : State) (client number : ℕ) → Moved w (told w client number)
told_moves w client number = chain w (live_at w client) _ (λ found live. still w w.hand)

pub usage_moves : (w : State) (client : ℕ) → Moved w (usage_told w client)
unfolding usage_told
usage_moves w client = told_moves w client (usage_of w)

pub occupancy_moves : (w : State) (client : ℕ) → Moved w (occupancy_told w client)
unfolding occupancy_told
occupancy_moves w client = told_moves w client (occupancy_of w)

pub standing_moves : (w : State) (client : ℕ) → Moved w (standing_told w client)
unfolding standing_told
standing_moves w client = told_moves w client (standing_in w)

pub stand_moves : (w : State) (client charge name : ℕ) → Moved w (stand_of w client charge name)
unfolding stand_of
stand_moves w client charge name =
    chain w (live_at w client) _ (λ found live.
    chain w (allow (may_stand found charge name)) _ (λ u may.
    live_moves w client found _ live refl))

pub fall_moves : (w : State) (client name : ℕ) → Moved w (fall_of w client name)
unfolding fall_of
fall_moves w client name =
    chain w (live_at w client) _ (λ found live.
    chain w (ok_or (find (is_standing name) found.standalones) NotAllowed) _ (λ gone there.
    live_moves w client found _ live refl))

-- The events on lives, trails and the hand.

pub end_moves : (w : State) (client : ℕ) → Moved w (end_of w client)
unfolding end_of
end_moves w client =
    chain w (live_at w client) _ (λ found live.
    chain w (allow (is_idle found && holds_nothing w.slots client)) _ (λ u idle.
    live_moves w client found _ live refl))

pub count_moves : (w : State) (client slot : ℕ) → Moved w (count_of w client slot)
unfolding count_of
count_moves w client slot =
    chain w (slot_at w slot) _
    (λ seen at. chain w (live_at w client) _ (λ found live. still w w.hand))

pub peek_moves : (w : State) (client slot : ℕ) → Moved w (peek_of w client slot)
unfolding peek_of
peek_moves w client slot =
    chain w (slot_at w slot) _
    (λ seen at. chain w (live_at w client) _ (λ found live. still w w.hand))

pub pass_moves : (w : State) (client slot : ℕ) → Moved w (pass_of w client slot)
unfolding pass_of
pass_moves w client slot =
    chain w (slot_at w slot) _ (λ seen at. chain w (live_at w client) _ (λ found live.
    chain w (allow (nat_lt (length found.trail) w.setup.slots)) _ (λ u room.
    live_moves w client found _ live refl)))

pub unpass_moves : (w : State) (client slot : ℕ) → Moved w (unpass_of w client slot)
unfolding unpass_of
unpass_moves w client slot =
    chain w (slot_at w slot) _ (λ seen at. chain w (live_at w client) _ (λ found live.
    chain w (allow (list_any (is_slot slot) found.trail)) _ (λ u passed.
    live_moves w client found _ live refl)))

pub turn_moves : (w : State) (client : ℕ) → Moved w (turn_of w client)
unfolding turn_of
turn_moves w client = chain w (live_at w client) _ (λ found live. still w _)
