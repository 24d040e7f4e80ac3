-- Every outcome keeps the law: a step that is allowed leads from a lawful world to a lawful one.
use Rattle.std.proofs.Common.{◌≡◌, ℕ, nat_lt, Bool, true, false, cond, not, List, Option, Some}
use Rattle.std.proofs.Common.{None, Result, Ok, Err, slice_get, refl, sym, ap, ◌∙◌, ◌-◌, ◌≤◌, ◌&&◌}
use Rattle.std.proofs.Common.{length, arith}
use Rattle.std.specs.List.{find, list_any}
use Rattle.hcc_core.specs.declared.limits.TheConstants.{CORRECTION}
use Rattle.std.specs.Option.{ok_or}
use Rattle.hcc_core.specs.declared.client.Client.{Client}
use Rattle.hcc_core.specs.declared.slot.Reference.{Reference}
use Rattle.hcc_core.specs.declared.slot.Slot.{Slot}
use Rattle.hcc_core.specs.declared.slot.Slot.TheVariants as slots
use Rattle.hcc_core.specs.declared.event.CoreError.{CoreError}
use Rattle.hcc_core.specs.declared.event.CoreError.TheVariants.{NoSuchSlot, NoSuchClient}
use Rattle.hcc_core.specs.declared.event.CoreError.TheVariants.{NotAllowed, OutOfMemory}
use Rattle.hcc_core.specs.declared.event.Event.{Event}
use Rattle.hcc_core.specs.declared.event.Event.TheVariants as events
use Rattle.hcc_core.specs.declared.event.Reply.{Reply}
use Rattle.hcc_core.specs.World.{State, references_of, reference_in, usage_of, uses_of, is_placed}
use Rattle.hcc_core.specs.World.{occupancy_of, standing_in, owns_nothing, is_absent}
use Rattle.hcc_core.specs.Outcomes.{Outcome, ◌>>=◌, allow, slot_at, client_at, live_at, holding}
use Rattle.hcc_core.specs.Outcomes.{has_no_member}
use Rattle.hcc_core.specs.References.{start_of, look_of, acquire_of, may_acquire, give_of, use_of}
use Rattle.hcc_core.specs.References.{counting_in, if_counting, end_of, is_idle, holds_nothing}
use Rattle.hcc_core.specs.Uses.{clock_of, may_clock, clocked, mark_of, correct_of, may_correct}
use Rattle.hcc_core.specs.Entries.{occupied, occupy_of, show_of, built_by, may_show, hide_of}
use Rattle.hcc_core.specs.Entries.{free_of, may_free, empty_of, freed_by, write_of, is_building}
use Rattle.hcc_core.specs.Entries.{peek_of, read_of, entry_read}
use Rattle.hcc_core.specs.Ledgers.{enter_of, slots_of, charge_by, may_charge, settle_of, may_settle}
use Rattle.hcc_core.specs.Ledgers.{waive_of, may_waive, quit_of, told, usage_told, occupancy_told}
use Rattle.hcc_core.specs.Ledgers.{standing_told, stand_of, may_stand, fall_of, is_standing}
use Rattle.hcc_core.specs.Trails.{count_of, pass_of, unpass_of, is_slot, turn_of}
use Rattle.hcc_core.specs.Steps.{takes_memory, in_range, rule_of, outcome_of, Follows}
use Rattle.hcc_core.specs.Lawful.{Lawful, IsLawful}
use Rattle.hcc_core.proofs.Opening.{lawful_is, is_lawful}
use Rattle.hcc_core.proofs.LawfulReferences.{lawful_start, lawful_look, lawful_acquire, lawful_give}
use Rattle.hcc_core.proofs.LawfulReferences.{lawful_use, lawful_hide}
use Rattle.hcc_core.proofs.LawfulUses.{lawful_end, lawful_clock, lawful_mark, lawful_correct}
use Rattle.hcc_core.proofs.LawfulUses.{lawful_pass, lawful_unpass, lawful_turn}
use Rattle.hcc_core.proofs.LawfulEntries.{lawful_occupy, lawful_show, lawful_free, lawful_empty}
use Rattle.hcc_core.proofs.LawfulLedgers.{lawful_enter, lawful_slots, lawful_charge, lawful_settle}
use Rattle.hcc_core.proofs.LawfulLedgers.{lawful_waive, lawful_quit, lawful_stand, lawful_fall}

-- the world after is lawful, where the step is made
abbrev pub KeepsLaw : Outcome → Type 0
KeepsLaw (Ok done) = Lawful done.1
KeepsLaw (Err error) = Unit {0}

-- a reading on the way, and what it found
chain : {A : Type 0} (r : Result A CoreError) (f : A → Outcome)
    → ((x : A) → r ≡ Ok x → KeepsLaw (f x)) → KeepsLaw (r >>= f)
chain (Ok x) f h = h x refl
chain (Err e) f h = tt

pub found_ok : {A : Type 0} (o : Option A) (e : CoreError) (x : A) → ok_or o e ≡ Ok x → o ≡ Some x
found_ok None e x h = cc
found_ok (Some y) e x h = cc

allowed_is : (b : Bool) (y x : Client) → (allow b >>= λ live. Ok y) ≡ Ok x → y ≡ x
allowed_is true y x h = cc
allowed_is false y x h = cc

live_found : (o : Option Client) (x : Client)
    → (ok_or o NoSuchClient >>= λ found. allow found.live >>= λ live. Ok found) ≡ Ok x → o ≡ Some x
live_found None x h = cc
live_found (Some y) x h = ap Some (allowed_is y.live y x h)

pub live_ok : (w : State) (client : ℕ) (x : Client) → live_at w client ≡ Ok x
    → slice_get w.clients client ≡ Some x
live_ok w client x h = live_found (slice_get w.clients client) x h

pub may_ok : (b : Bool) (u : Unit {0}) → allow b ≡ Ok u → b ≡ true
may_ok true u h = refl
may_ok false u h = cc

start_keeps : (w : State) (client : ℕ) → Lawful w → KeepsLaw (start_of w client)
start_keeps w client l =
    chain (client_at w client) _ (λ found at. chain (allow (not found.live)) _ (λ u may.
    lawful_start w client found l (found_ok _ _ found at)))

look_keeps : (w : State) (client slot : ℕ) → Lawful w → KeepsLaw (look_of w client slot)
look_keeps w client slot l =
    chain (slot_at w slot) _ (λ seen at. chain (live_at w client) _ (λ found live.
    lawful_look w client slot found seen l (found_ok _ _ seen at) (live_ok w client found live)))

acquire_keeps : (w : State) (client slot weight name : ℕ) → Lawful w
    → KeepsLaw (acquire_of w client slot weight name)
unfolding acquire_of
acquire_keeps w client slot weight name l =
    chain (slot_at w slot) _ (λ seen at. chain (live_at w client) _ (λ found live.
    chain (allow (may_acquire w.setup w.slots client found slot seen weight name)) _ (λ u may.
    lawful_acquire w client slot weight name found seen l (found_ok _ _ seen at)
    (live_ok w client found live) (may_ok _ u may))))

give_keeps : (w : State) (client name : ℕ) → Lawful w → KeepsLaw (give_of w client name)
unfolding give_of
give_keeps w client name l =
    chain (live_at w client) _ (λ found live.
    chain (holding w client name) _ (λ slot held. chain (slot_at w slot) _ (λ seen at.
    lawful_give w client name slot found seen l (found_ok _ _ seen at)
    (live_ok w client found live))))

-- a counting reference is that reference, and counts
pub counting-is : (o : Option Reference) (k : Reference) → if_counting o ≡ Some k
    → (o ≡ Some k) × (k.counting ≡ true)
counting-is None k h = cc
counting-is (Some j) k h = by j.counting refl h
  where
    by : (b : Bool) → j.counting ≡ b → cond b (Some j) None ≡ Some k
        → (Some j ≡ Some k) × (k.counting ≡ true)
    by true counts h = let e : j ≡ k = cc in
        (h, ap (λ (r : Reference). r.counting) (sym e) ∙ counts)
    by false counts h = cc

use_keeps : (w : State) (client name : ℕ) → Lawful w → KeepsLaw (use_of w client name)
unfolding use_of
use_keeps w client name l =
    chain (live_at w client) _ (λ found live.
    chain (holding w client name) _ (λ slot held. chain (slot_at w slot) _ (λ seen at.
    chain (ok_or (counting_in client name (references_of seen)) NotAllowed) _ (λ k there.
    let counts = counting-is (reference_in client name (references_of seen))
    k (found_ok _ _ k there) in
    lawful_use w client name slot found seen k l (found_ok _ _ seen at)
    (live_ok w client found live) counts.0 counts.1))))

occupied_keeps : (w : State) (client slot : ℕ) (found : Client) (seen : Slot) → Lawful w
    → slice_get w.slots slot ≡ Some seen → slice_get w.clients client ≡ Some found
    → owns_nothing found.owned ≡ true
    → KeepsLaw (occupied w client found slot seen)
occupied_keeps w client slot found (slots.Empty strays) l at_slot at_client free =
    lawful_occupy w client slot strays found l at_slot at_client free
occupied_keeps w client slot found (slots.Building other strays) l at_slot at_client free =
    look_keeps w client slot l
occupied_keeps w client slot found (slots.Shareable r) l at_slot at_client free =
    look_keeps w client slot l

occupy_keeps : (w : State) (client slot : ℕ) → Lawful w → KeepsLaw (occupy_of w client slot)
occupy_keeps w client slot l =
    chain (slot_at w slot) _
    (λ seen at. chain (live_at w client) _
    (λ found live. chain (allow (owns_nothing found.owned)) _ (λ u free.
    occupied_keeps w client slot found seen l (found_ok _ _ seen at)
    (live_ok w client found live) (may_ok _ u free))))

show_keeps : (w : State) (client key0 key1 charge countdown : ℕ) (name : Option ℕ) (value : List ℕ)
    → Lawful w
    → KeepsLaw (show_of w client key0 key1 charge countdown name value)
unfolding show_of
show_keeps w client key0 key1 charge countdown name value l =
    chain (live_at w client) _
    (λ found live. chain (ok_or (built_by found.owned) NotAllowed) _ (λ slot builds.
    chain (allow (may_show w.slots client found charge countdown name)) _ (λ u may.
    lawful_show w client slot key0 key1 charge countdown name
    value found l (live_ok w client found live)
    (found_ok _ _ slot builds) (may_ok _ u may))))

hide_keeps : (w : State) (client name : ℕ) → Lawful w → KeepsLaw (hide_of w client name)
unfolding hide_of
hide_keeps w client name l =
    chain (live_at w client) _ (λ found live.
    chain (holding w client name) _ (λ slot held. chain (slot_at w slot) _ (λ seen at.
    lawful_hide w client slot found seen l (found_ok _ _ seen at) (live_ok w client found live))))

free_keeps : (w : State) (client slot : ℕ) (name : Option ℕ) → Lawful w
    → KeepsLaw (free_of w client slot name)
unfolding free_of
free_keeps w client slot name l =
    chain (slot_at w slot) _
    (λ seen at. chain (live_at w client) _
    (λ found live. chain (allow (may_free client found seen name)) _ (λ u may.
    lawful_free w client slot name found seen l (found_ok _ _ seen at)
    (live_ok w client found live) (may_ok _ u may))))

empty_keeps : (w : State) (client : ℕ) → Lawful w → KeepsLaw (empty_of w client)
unfolding empty_of
empty_keeps w client l =
    chain (live_at w client) _
    (λ found live. chain (ok_or (freed_by found.owned) NotAllowed) _ (λ slot frees.
    chain (allow (has_no_member found.trail)) _ (λ u back.
    lawful_empty w client slot found l (live_ok w client found live) (found_ok _ _ slot frees))))

write_keeps : (w : State) (client : ℕ) → Lawful w → KeepsLaw (write_of w client)
write_keeps w client l =
    chain (live_at w client) _
    (λ found live. chain (allow (is_building found.owned)) _ (λ u builds. l))

read_keeps : (w : State) (client name : ℕ) → Lawful w → KeepsLaw (read_of w client name)
unfolding read_of
read_keeps w client name l =
    chain (live_at w client) _ (λ found live.
    chain (holding w client name) _ (λ slot held. chain (slot_at w slot) _ (λ seen at.
    chain (entry_read seen) _ (λ entry is. l))))

enter_keeps : (w : State) (client : ℕ) → Lawful w → KeepsLaw (enter_of w client)
unfolding enter_of
enter_keeps w client l =
    chain (live_at w client) _ (λ found live. chain (allow (is_absent found.place)) _ (λ u absent.
    lawful_enter w client found l (live_ok w client found live) (may_ok _ u absent)))

charge_keeps : (w : State) (client charge : ℕ) → Lawful w → KeepsLaw (charge_by w client charge)
unfolding charge_by
charge_keeps w client charge l =
    chain (live_at w client) _
    (λ found live. chain (allow (may_charge found (usage_of w) charge)) _ (λ u may.
    lawful_charge w client charge found l (live_ok w client found live) (may_ok _ u may)))

slots_keeps : (w : State) (client : ℕ) → Lawful w → KeepsLaw (slots_of w client)
unfolding slots_of
slots_keeps w client l =
    chain (live_at w client) _
    (λ found live. chain (allow (nat_lt 0 found.freed_slots)) _ (λ u some.
    lawful_slots w client found l (live_ok w client found live) (may_ok _ u some)))

settle_keeps : (w : State) (client : ℕ) → Lawful w → KeepsLaw (settle_of w client)
unfolding settle_of
settle_keeps w client l =
    chain (live_at w client) _ (λ found live. chain (allow (may_settle found)) _ (λ u may.
    lawful_settle w client found l (live_ok w client found live) (may_ok _ u may)))

end_keeps : (w : State) (client : ℕ) → Lawful w → KeepsLaw (end_of w client)
unfolding end_of
end_keeps w client l =
    chain (live_at w client) _
    (λ found live. chain (allow (is_idle found && holds_nothing w.slots client)) _ (λ u idle.
    lawful_end w client found l (live_ok w client found live)))

-- a clock visit and a correction leave no more uses
clocked-le : (uses : ℕ) → clocked uses ≤ uses
clocked-le uses = omega arith

clock_keeps : (w : State) (client slot : ℕ) → Lawful w → KeepsLaw (clock_of w client slot)
unfolding clock_of
clock_keeps w client slot l =
    chain (slot_at w slot) _
    (λ seen at.
    chain (live_at w client) _ (λ found live. chain (allow (may_clock seen)) _ (λ u may.
    lawful_clock w client slot (clocked (uses_of seen)) found
    seen l (found_ok _ _ seen at) (live_ok w client found live) (clocked-le (uses_of seen)))))

mark_keeps : (w : State) (client name : ℕ) → Lawful w → KeepsLaw (mark_of w client name)
unfolding mark_of
mark_keeps w client name l =
    chain (live_at w client) _ (λ found live.
    chain (holding w client name) _ (λ slot held. chain (slot_at w slot) _ (λ seen at.
    lawful_mark w client slot found seen l (found_ok _ _ seen at) (live_ok w client found live))))

correct_keeps : (w : State) (client name : ℕ) → Lawful w → KeepsLaw (correct_of w client name)
unfolding correct_of
correct_keeps w client name l =
    chain (live_at w client) _ (λ found live.
    chain (holding w client name) _ (λ slot held. chain (slot_at w slot) _ (λ seen at.
    chain (allow (may_correct client name seen)) _ (λ u may.
    lawful_correct w client slot (uses_of seen - CORRECTION)
    found seen l (found_ok _ _ seen at) (live_ok w client found live) (omega arith)))))

waive_keeps : (w : State) (client : ℕ) → Lawful w → KeepsLaw (waive_of w client)
unfolding waive_of
waive_keeps w client l =
    chain (live_at w client) _ (λ found live. chain (allow (may_waive found)) _ (λ u may.
    lawful_waive w client found l (live_ok w client found live)))

quit_keeps : (w : State) (client : ℕ) → Lawful w → KeepsLaw (quit_of w client)
unfolding quit_of
quit_keeps w client l =
    chain (live_at w client) _ (λ found live. chain (allow (is_placed found.place)) _ (λ u may.
    lawful_quit w client found l (live_ok w client found live)))

-- a world that is only told of stays
told_keeps : (w : State) (client number : ℕ) → Lawful w → KeepsLaw (told w client number)
told_keeps w client number l = chain (live_at w client) _ (λ found live. l)

usage_keeps : (w : State) (client : ℕ) → Lawful w → KeepsLaw (usage_told w client)
unfolding usage_told
usage_keeps w client l = told_keeps w client (usage_of w) l

occupancy_keeps : (w : State) (client : ℕ) → Lawful w → KeepsLaw (occupancy_told w client)
unfolding occupancy_told
occupancy_keeps w client l = told_keeps w client (occupancy_of w) l

standing_keeps : (w : State) (client : ℕ) → Lawful w → KeepsLaw (standing_told w client)
unfolding standing_told
standing_keeps w client l = told_keeps w client (standing_in w) l

stand_keeps : (w : State) (client charge name : ℕ) → Lawful w
    → KeepsLaw (stand_of w client charge name)
unfolding stand_of
stand_keeps w client charge name l =
    chain (live_at w client) _
    (λ found live. chain (allow (may_stand found charge name)) _ (λ u may.
    lawful_stand w client charge name found l (live_ok w client found live) (may_ok _ u may)))

fall_keeps : (w : State) (client name : ℕ) → Lawful w → KeepsLaw (fall_of w client name)
unfolding fall_of
fall_keeps w client name l =
    chain (live_at w client) _ (λ found live.
    chain (ok_or (find (is_standing name) found.standalones) NotAllowed) _ (λ gone there.
    lawful_fall w client name found gone l (live_ok w client found live) (found_ok _ _ gone there)))

count_keeps : (w : State) (client slot : ℕ) → Lawful w → KeepsLaw (count_of w client slot)
unfolding count_of
count_keeps w client slot l =
    chain (slot_at w slot) _ (λ seen at. chain (live_at w client) _ (λ found live. l))

peek_keeps : (w : State) (client slot : ℕ) → Lawful w → KeepsLaw (peek_of w client slot)
unfolding peek_of
peek_keeps w client slot l =
    chain (slot_at w slot) _ (λ seen at. chain (live_at w client) _ (λ found live. l))

pass_keeps : (w : State) (client slot : ℕ) → Lawful w → KeepsLaw (pass_of w client slot)
unfolding pass_of
pass_keeps w client slot l =
    chain (slot_at w slot) _ (λ seen at. chain (live_at w client) _ (λ found live.
    chain (allow (nat_lt (length found.trail) w.setup.slots)) _ (λ u room.
    lawful_pass w client slot found l (live_ok w client found live) (may_ok _ u room))))

unpass_keeps : (w : State) (client slot : ℕ) → Lawful w → KeepsLaw (unpass_of w client slot)
unfolding unpass_of
unpass_keeps w client slot l =
    chain (slot_at w slot) _ (λ seen at. chain (live_at w client) _ (λ found live.
    chain (allow (list_any (is_slot slot) found.trail)) _ (λ u passed.
    lawful_unpass w client slot found l (live_ok w client found live))))

turn_keeps : (w : State) (client : ℕ) → Lawful w → KeepsLaw (turn_of w client)
unfolding turn_of
turn_keeps w client l = chain (live_at w client) _ (λ found live. lawful_turn w _ l)

rule_keeps : (w : State) (event : Event) → Lawful w → KeepsLaw (rule_of w event)
rule_keeps w (events.Start client) l = start_keeps w client l
rule_keeps w (events.Look client slot) l = look_keeps w client slot l
rule_keeps w (events.Acquire client slot weight name) l = acquire_keeps w client slot weight name l
rule_keeps w (events.Give client name) l = give_keeps w client name l
rule_keeps w (events.Use client name) l = use_keeps w client name l
rule_keeps w (events.Occupy client slot) l = occupy_keeps w client slot l
rule_keeps w (events.Show client key0 key1 charge countdown name value) l =
    show_keeps w client key0 key1 charge countdown name value l
rule_keeps w (events.Hide client name) l = hide_keeps w client name l
rule_keeps w (events.Free client slot name) l = free_keeps w client slot name l
rule_keeps w (events.Empty client) l = empty_keeps w client l
rule_keeps w (events.Write client) l = write_keeps w client l
rule_keeps w (events.Read client name) l = read_keeps w client name l
rule_keeps w (events.Enter client) l = enter_keeps w client l
rule_keeps w (events.Charge client charge) l = charge_keeps w client charge l
rule_keeps w (events.Slots client) l = slots_keeps w client l
rule_keeps w (events.Settle client) l = settle_keeps w client l
rule_keeps w (events.End client) l = end_keeps w client l
rule_keeps w (events.Clock client slot) l = clock_keeps w client slot l
rule_keeps w (events.Mark client name) l = mark_keeps w client name l
rule_keeps w (events.Correct client name) l = correct_keeps w client name l
rule_keeps w (events.Waive client) l = waive_keeps w client l
rule_keeps w (events.Quit client) l = quit_keeps w client l
rule_keeps w (events.Usage client) l = usage_keeps w client l
rule_keeps w (events.Occupancy client) l = occupancy_keeps w client l
rule_keeps w (events.Standing client) l = standing_keeps w client l
rule_keeps w (events.Stand client charge name) l = stand_keeps w client charge name l
rule_keeps w (events.Fall client name) l = fall_keeps w client name l
rule_keeps w (events.Count client slot) l = count_keeps w client slot l
rule_keeps w (events.Peek client slot) l = peek_keeps w client slot l
rule_keeps w (events.Pass client slot) l = pass_keeps w client slot l
rule_keeps w (events.Unpass client slot) l = unpass_keeps w client slot l
rule_keeps w (events.Turn client) l = turn_keeps w client l

if_keeps : (b : Bool) (outcome : Outcome) → KeepsLaw outcome
    → KeepsLaw (cond b outcome (Err NotAllowed))
if_keeps true outcome h = h
if_keeps false outcome h = tt

-- any event that is allowed keeps a lawful world lawful
pub outcome_keeps : (w : State) (event : Event) → Lawful w → KeepsLaw (outcome_of w event)
unfolding outcome_of
outcome_keeps w event l = if_keeps (in_range event) (rule_of w event) (rule_keeps w event l)

ok_lawful : (outcome : Outcome) (reply : Reply) (new : State) → KeepsLaw outcome
    → outcome ≡ Ok (reply, new) → Lawful new
ok_lawful (Ok done) reply new l h = let e : done ≡ (reply, new) = cc in
    rw (ap (λ (d : Reply × State). d.1) e) at l
ok_lawful (Err error) reply new l h = cc

-- what follows an outcome is lawful
pub follows_lawful : (w : State) (event : Event) (result : Result Reply CoreError) (new : State)
    → IsLawful w
    → Follows (outcome_of w event) (takes_memory event) w result new → IsLawful new
follows_lawful w event (Ok reply) new l f =
    lawful_is new
    (ok_lawful (outcome_of w event) reply new (outcome_keeps w event (is_lawful w l)) f)
follows_lawful w event (Err NoSuchSlot) new l f = rw f.1 l
follows_lawful w event (Err NoSuchClient) new l f = rw f.1 l
follows_lawful w event (Err NotAllowed) new l f = rw f.1 l
follows_lawful w event (Err OutOfMemory) new l (takes, due, same) = rw same l
