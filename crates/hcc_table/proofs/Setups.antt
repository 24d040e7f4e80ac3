-- No event changes the setup of a world, or how many slots it has.
use Rattle.std.proofs.Common.{◌≡◌, ℕ, ◌&&◌, Bool, true, false, List, [], ◌∷◌, Option, Result, Ok, Err, length, not, nat_lt, find, replicate, refl, ap, ◌∙◌}
use Rattle.std.specs.List.{list_any}
use Rattle.std.specs.Option.{ok_or}
use Rattle.std.specs.Prelude.{if◌then◌else◌}
use Rattle.std.proofs.lemmas.List.{length-replicate, length-set}
use Rattle.hcc_core.specs.declared.client.Client.{Client}
use Rattle.hcc_core.specs.declared.event.CoreError.{CoreError}
use Rattle.hcc_core.specs.declared.event.CoreError.TheVariants.{NotAllowed}
use Rattle.hcc_core.specs.declared.event.Event.{Event}
use Rattle.hcc_core.specs.declared.event.Event.TheVariants as events
use Rattle.hcc_core.specs.declared.slot.Slot.{Slot}
use Rattle.hcc_core.specs.declared.slot.Slot.TheVariants as slots
use Rattle.hcc_core.specs.Entries.{built_by, empty_of, entry_read, free_of, freed_by, hide_of, is_building, may_free, may_show, occupied, occupy_of, peek_of, read_of, show_of, write_of}
use Rattle.hcc_core.specs.Ledgers.{charge_by, enter_of, fall_of, is_standing, may_charge, may_settle, may_stand, may_waive, occupancy_told, quit_of, settle_of, slots_of, stand_of, standing_told, told, usage_told, waive_of}
use Rattle.hcc_core.specs.Opening.{new_slot}
use Rattle.hcc_core.specs.Outcomes.{◌>>=◌, Outcome, allow, client_at, has_no_member, holding, live_at, slot_at}
use Rattle.hcc_core.specs.References.{acquire_of, counting_in, end_of, give_of, holds_nothing, is_idle, look_of, may_acquire, start_of, use_of}
use Rattle.hcc_core.specs.Runs.{after, after_all, world_after}
use Rattle.hcc_core.specs.Steps.{in_range, outcome_of, rule_of}
use Rattle.hcc_core.specs.Trails.{count_of, is_slot, pass_of, turn_of, unpass_of}
use Rattle.hcc_core.specs.Uses.{clock_of, correct_of, mark_of, may_clock, may_correct}
use Rattle.hcc_core.specs.World.{State, is_absent, is_placed, occupancy_of, owns_nothing, references_of, standing_in, usage_of}
use Rattle.hcc_rule.specs.declared.geometry.Geometry.{Geometry}
use Rattle.hcc_rule.specs.declared.table.RuleTable.{RuleTable}
use Rattle.hcc_rule.specs.Acts.{events_of, past}
use Rattle.hcc_rule.specs.Callers as table
use Rattle.hcc_rule.specs.Callers.{world_at}
use Rattle.hcc_rule.specs.Images.{entries_in}
use Rattle.hcc_rule.specs.Opening.{begun_world}
use Rattle.hcc_rule.specs.Seats.{SeatOf}
use Rattle.hcc_rule.proofs.Images.Fillings.{filled_length}

-- the setup and the number of slots stay, whatever the outcome
abbrev SameSize : State → Outcome → Type 0
SameSize w o =
    ((world_after w o).setup ≡ w.setup) × (length (world_after w o).slots ≡ length w.slots)

-- a reading on the way
chain : (w : State) {A : Type 0} (r : Result A CoreError) (f : A → Outcome)
    → ((x : A) → SameSize w (f x)) → SameSize w (r >>= f)
chain w (Ok x) f h = h x
chain w (Err e) f h = (refl, refl)

start_size : (w : State) (client : ℕ) → SameSize w (start_of w client)
start_size w client =
    chain w (client_at w client) _ (λ found. chain w (allow (not found.live)) _ (λ u. (refl, refl)))

end_size : (w : State) (client : ℕ) → SameSize w (end_of w client)
unfolding end_of
end_size w client =
    chain w (live_at w client) _ (λ found.
    chain w (allow (is_idle found && holds_nothing w.slots client)) _ (λ u. (refl, refl)))

look_size : (w : State) (client slot : ℕ) → SameSize w (look_of w client slot)
look_size w client slot =
    chain w (slot_at w slot) _ (λ seen. chain w (live_at w client) _ (λ found. (refl, refl)))

acquire_size : (w : State) (client slot weight name : ℕ)
    → SameSize w (acquire_of w client slot weight name)
unfolding acquire_of
acquire_size w client slot weight name =
    chain w (slot_at w slot) _ (λ seen. chain w (live_at w client) _ (λ found.
    chain w (allow (may_acquire w.setup w.slots client found slot seen weight name)) _
    (λ u. (refl, length-set w.slots slot _))))

give_size : (w : State) (client name : ℕ) → SameSize w (give_of w client name)
unfolding give_of
give_size w client name =
    chain w (live_at w client) _ (λ found. chain w (holding w client name) _ (λ slot.
    chain w (slot_at w slot) _ (λ seen. (refl, length-set w.slots slot _))))

use_size : (w : State) (client name : ℕ) → SameSize w (use_of w client name)
unfolding use_of
use_size w client name =
    chain w (live_at w client) _ (λ found. chain w (holding w client name) _ (λ slot.
    chain w (slot_at w slot) _ (λ seen.
    chain w (ok_or (counting_in client name (references_of seen)) NotAllowed) _
    (λ k. (refl, length-set w.slots slot _)))))

occupied_size : (w : State) (client slot : ℕ) (found : Client) (seen : Slot)
    → SameSize w (occupied w client found slot seen)
occupied_size w client slot found (slots.Empty strays) =
    (refl, length-set w.slots slot _)
occupied_size w client slot found (slots.Building other strays) = look_size w client slot
occupied_size w client slot found (slots.Shareable r) = look_size w client slot

occupy_size : (w : State) (client slot : ℕ) → SameSize w (occupy_of w client slot)
occupy_size w client slot =
    chain w (slot_at w slot) _ (λ seen. chain w (live_at w client) _ (λ found.
    chain w (allow (owns_nothing found.owned)) _ (λ u. occupied_size w client slot found seen)))

show_size : (w : State) (client key0 key1 charge countdown : ℕ) (name : Option ℕ)
    (value : List ℕ) → SameSize w (show_of w client key0 key1 charge countdown name value)
unfolding show_of
show_size w client key0 key1 charge countdown name value =
    chain w (live_at w client) _ (λ found.
    chain w (ok_or (built_by found.owned) NotAllowed) _ (λ slot.
    chain w (allow (may_show w.slots client found charge countdown name)) _
    (λ u. (refl, length-set w.slots slot _))))

hide_size : (w : State) (client name : ℕ) → SameSize w (hide_of w client name)
unfolding hide_of
hide_size w client name =
    chain w (live_at w client) _ (λ found. chain w (holding w client name) _ (λ slot.
    chain w (slot_at w slot) _ (λ seen. (refl, length-set w.slots slot _))))

free_size : (w : State) (client slot : ℕ) (name : Option ℕ)
    → SameSize w (free_of w client slot name)
unfolding free_of
free_size w client slot name =
    chain w (slot_at w slot) _ (λ seen. chain w (live_at w client) _ (λ found.
    chain w (allow (may_free client found seen name)) _ (λ u. (refl, length-set w.slots slot _))))

empty_size : (w : State) (client : ℕ) → SameSize w (empty_of w client)
unfolding empty_of
empty_size w client =
    chain w (live_at w client) _ (λ found.
    chain w (ok_or (freed_by found.owned) NotAllowed) _ (λ slot.
    chain w (allow (has_no_member found.trail)) _ (λ u. (refl, length-set w.slots slot _))))

write_size : (w : State) (client : ℕ) → SameSize w (write_of w client)
write_size w client =
    chain w (live_at w client) _ (λ found.
    chain w (allow (is_building found.owned)) _ (λ u. (refl, refl)))

read_size : (w : State) (client name : ℕ) → SameSize w (read_of w client name)
unfolding read_of
read_size w client name =
    chain w (live_at w client) _ (λ found. chain w (holding w client name) _ (λ slot.
    chain w (slot_at w slot) _ (λ seen. chain w (entry_read seen) _ (λ entry. (refl, refl)))))

peek_size : (w : State) (client slot : ℕ) → SameSize w (peek_of w client slot)
unfolding peek_of
peek_size w client slot =
    chain w (slot_at w slot) _ (λ seen. chain w (live_at w client) _ (λ found. (refl, refl)))

enter_size : (w : State) (client : ℕ) → SameSize w (enter_of w client)
unfolding enter_of
enter_size w client =
    chain w (live_at w client) _ (λ found. chain w (allow (is_absent found.place)) _
    (λ u. (refl, refl)))

charge_size : (w : State) (client charge : ℕ) → SameSize w (charge_by w client charge)
unfolding charge_by
charge_size w client charge =
    chain w (live_at w client) _ (λ found.
    chain w (allow (may_charge found (usage_of w) charge)) _ (λ u. (refl, refl)))

slots_size : (w : State) (client : ℕ) → SameSize w (slots_of w client)
unfolding slots_of
slots_size w client =
    chain w (live_at w client) _ (λ found.
    chain w (allow (nat_lt 0 found.freed_slots)) _ (λ u. (refl, refl)))

settle_size : (w : State) (client : ℕ) → SameSize w (settle_of w client)
unfolding settle_of
settle_size w client =
    chain w (live_at w client) _ (λ found. chain w (allow (may_settle found)) _ (λ u. (refl, refl)))

clock_size : (w : State) (client slot : ℕ) → SameSize w (clock_of w client slot)
unfolding clock_of
clock_size w client slot =
    chain w (slot_at w slot) _ (λ seen. chain w (live_at w client) _ (λ found.
    chain w (allow (may_clock seen)) _ (λ u. (refl, length-set w.slots slot _))))

mark_size : (w : State) (client name : ℕ) → SameSize w (mark_of w client name)
unfolding mark_of
mark_size w client name =
    chain w (live_at w client) _ (λ found. chain w (holding w client name) _ (λ slot.
    chain w (slot_at w slot) _ (λ seen. (refl, length-set w.slots slot _))))

correct_size : (w : State) (client name : ℕ) → SameSize w (correct_of w client name)
unfolding correct_of
correct_size w client name =
    chain w (live_at w client) _ (λ found. chain w (holding w client name) _ (λ slot.
    chain w (slot_at w slot) _ (λ seen.
    chain w (allow (may_correct client name seen)) _ (λ u. (refl, length-set w.slots slot _)))))

waive_size : (w : State) (client : ℕ) → SameSize w (waive_of w client)
unfolding waive_of
waive_size w client =
    chain w (live_at w client) _ (λ found. chain w (allow (may_waive found)) _ (λ u. (refl, refl)))

quit_size : (w : State) (client : ℕ) → SameSize w (quit_of w client)
unfolding quit_of
quit_size w client =
    chain w (live_at w client) _ (λ found.
    chain w (allow (is_placed found.place)) _ (λ u. (refl, refl)))

told_size : (w : State) (client number : ℕ) → SameSize w (told w client number)
told_size w client number = chain w (live_at w client) _ (λ found. (refl, refl))

usage_size : (w : State) (client : ℕ) → SameSize w (usage_told w client)
unfolding usage_told
usage_size w client = told_size w client (usage_of w)

occupancy_size : (w : State) (client : ℕ) → SameSize w (occupancy_told w client)
unfolding occupancy_told
occupancy_size w client = told_size w client (occupancy_of w)

standing_size : (w : State) (client : ℕ) → SameSize w (standing_told w client)
unfolding standing_told
standing_size w client = told_size w client (standing_in w)

stand_size : (w : State) (client charge name : ℕ) → SameSize w (stand_of w client charge name)
unfolding stand_of
stand_size w client charge name =
    chain w (live_at w client) _ (λ found.
    chain w (allow (may_stand found charge name)) _ (λ u. (refl, refl)))

fall_size : (w : State) (client name : ℕ) → SameSize w (fall_of w client name)
unfolding fall_of
fall_size w client name =
    chain w (live_at w client) _ (λ found.
    chain w (ok_or (find (is_standing name) found.standalones) NotAllowed) _ (λ gone. (refl, refl)))

count_size : (w : State) (client slot : ℕ) → SameSize w (count_of w client slot)
unfolding count_of
count_size w client slot =
    chain w (slot_at w slot) _ (λ seen. chain w (live_at w client) _ (λ found. (refl, refl)))

pass_size : (w : State) (client slot : ℕ) → SameSize w (pass_of w client slot)
unfolding pass_of
pass_size w client slot =
    chain w (slot_at w slot) _ (λ seen. chain w (live_at w client) _ (λ found.
    chain w (allow (nat_lt (length found.trail) w.setup.slots)) _ (λ u. (refl, refl))))

unpass_size : (w : State) (client slot : ℕ) → SameSize w (unpass_of w client slot)
unfolding unpass_of
unpass_size w client slot =
    chain w (slot_at w slot) _ (λ seen. chain w (live_at w client) _ (λ found.
    chain w (allow (list_any (is_slot slot) found.trail)) _ (λ u. (refl, refl))))

turn_size : (w : State) (client : ℕ) → SameSize w (turn_of w client)
unfolding turn_of
turn_size w client = chain w (live_at w client) _ (λ found. (refl, refl))

rule_size : (w : State) (event : Event) → SameSize w (rule_of w event)
rule_size w (events.Start client) = start_size w client
rule_size w (events.Look client slot) = look_size w client slot
rule_size w (events.Acquire client slot weight name) = acquire_size w client slot weight name
rule_size w (events.Give client name) = give_size w client name
rule_size w (events.Use client name) = use_size w client name
rule_size w (events.Occupy client slot) = occupy_size w client slot
rule_size w (events.Show client key0 key1 charge countdown name value) =
    show_size w client key0 key1 charge countdown name value
rule_size w (events.Hide client name) = hide_size w client name
rule_size w (events.Free client slot name) = free_size w client slot name
rule_size w (events.Empty client) = empty_size w client
rule_size w (events.Write client) = write_size w client
rule_size w (events.Peek client slot) = peek_size w client slot
rule_size w (events.Read client name) = read_size w client name
rule_size w (events.Enter client) = enter_size w client
rule_size w (events.Charge client charge) = charge_size w client charge
rule_size w (events.Slots client) = slots_size w client
rule_size w (events.Settle client) = settle_size w client
rule_size w (events.End client) = end_size w client
rule_size w (events.Clock client slot) = clock_size w client slot
rule_size w (events.Mark client name) = mark_size w client name
rule_size w (events.Correct client name) = correct_size w client name
rule_size w (events.Waive client) = waive_size w client
rule_size w (events.Quit client) = quit_size w client
rule_size w (events.Usage client) = usage_size w client
rule_size w (events.Occupancy client) = occupancy_size w client
rule_size w (events.Standing client) = standing_size w client
rule_size w (events.Stand client charge name) = stand_size w client charge name
rule_size w (events.Fall client name) = fall_size w client name
rule_size w (events.Count client slot) = count_size w client slot
rule_size w (events.Pass client slot) = pass_size w client slot
rule_size w (events.Unpass client slot) = unpass_size w client slot
rule_size w (events.Turn client) = turn_size w client

outcome_size : (w : State) (event : Event) → SameSize w (outcome_of w event)
unfolding outcome_of
outcome_size w event = by (in_range event) (rule_size w event)
  where
    by : (b : Bool) → SameSize w (rule_of w event)
        → SameSize w (if b then rule_of w event else Err NotAllowed)
    by true h = h
    by false h = (refl, refl)

-- The worlds after any events have the setup of the first one,
pub setup_stays : (es : List Event) (w : State) → (after_all w es).setup ≡ w.setup
setup_stays [] w = refl
setup_stays (e ∷ es) w = setup_stays es (after w e) ∙ (outcome_size w e).0

-- and as many slots.
slots_stay : (es : List Event) (w : State) → length (after_all w es).slots ≡ length w.slots
slots_stay [] w = refl
slots_stay (e ∷ es) w = slots_stay es (after w e) ∙ (outcome_size w e).1

-- So the worlds that a seat knows have all slots of its table.
pub slots_at : {T A : Type 0} (t : RuleTable T A) (a : SeatOf T)
    → length (world_at t a).slots ≡ table.slots_of t
slots_at t a =
    let plan = table.plan_of t in
    slots_stay (events_of (past a)) (begun_world plan)
    ∙ filled_length plan.geometry.slots 0 (entries_in plan.image)
    (replicate plan.geometry.slots new_slot)
    ∙ length-replicate plan.geometry.slots new_slot
    ∙ ap (λ (x : Geometry). x.slots) t.planned.0
