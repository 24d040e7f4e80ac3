-- The step of any event: its outcome, and what a step may answer for it.
use Rattle.std.specs.Prelude.{◌≡◌, ℕ, ◌^◌, Bool, true, false, ◌&&◌, nat_lt, Option, Some, None}
use Rattle.std.specs.Prelude.{Result, Ok, Err, is_some, if◌then◌else◌}
use Rattle.std.specs.List.{list_all}
use Rattle.hcc_core.specs.declared.event.Event.{Event}
use Rattle.hcc_core.specs.declared.event.Event.TheVariants as events
use Rattle.hcc_core.specs.declared.event.Reply.{Reply}
use Rattle.hcc_core.specs.declared.event.CoreError.{CoreError}
use Rattle.hcc_core.specs.declared.event.CoreError.TheVariants.{NoSuchSlot, NoSuchClient}
use Rattle.hcc_core.specs.declared.event.CoreError.TheVariants.{NotAllowed, OutOfMemory}
use Rattle.hcc_core.specs.World.{State}
use Rattle.hcc_core.specs.Outcomes.{Outcome, is_made}
use Rattle.hcc_core.specs.References.{start_of, look_of, acquire_of, give_of, use_of, end_of}
use Rattle.hcc_core.specs.Uses.{clock_of, mark_of, correct_of}
use Rattle.hcc_core.specs.Entries.{occupy_of, show_of, hide_of, free_of, empty_of, write_of}
use Rattle.hcc_core.specs.Entries.{peek_of, read_of}
use Rattle.hcc_core.specs.Ledgers.{enter_of, slots_of, charge_by, settle_of, waive_of, quit_of}
use Rattle.hcc_core.specs.Ledgers.{usage_told, occupancy_told, standing_told, stand_of, fall_of}
use Rattle.hcc_core.specs.Trails.{count_of, pass_of, unpass_of, turn_of}

-- Where the numbers of an event fit their fields.

abbrev pub fits : ℕ → ℕ → Bool
fits bits n = nat_lt n (2 ^ bits)

abbrev pub name_fits : Option ℕ → Bool
name_fits None = true
name_fits (Some name) = fits 64 name

-- the numbers of the event are in their fields' ranges
abbrev pub in_range : Event → Bool
in_range (events.Start client) = fits 32 client
in_range (events.Look client slot) = fits 32 client && fits 32 slot
in_range (events.Acquire client slot weight name) =
    fits 32 client && fits 32 slot && fits 64 weight && fits 64 name
in_range (events.Give client name) = fits 32 client && fits 64 name
in_range (events.Use client name) = fits 32 client && fits 64 name
in_range (events.Occupy client slot) = fits 32 client && fits 32 slot
in_range (events.Show client key0 key1 charge countdown name value) =
    fits 32 client && fits 64 key0 && fits 64 key1 && fits 32 charge && fits 64 countdown
    && name_fits name && list_all (fits 8) value
in_range (events.Hide client name) = fits 32 client && fits 64 name
in_range (events.Free client slot name) = fits 32 client && fits 32 slot && name_fits name
in_range (events.Empty client) = fits 32 client
in_range (events.Write client) = fits 32 client
in_range (events.Read client name) = fits 32 client && fits 64 name
in_range (events.Enter client) = fits 32 client
in_range (events.Charge client charge) = fits 32 client && fits 32 charge
in_range (events.Slots client) = fits 32 client
in_range (events.Settle client) = fits 32 client
in_range (events.End client) = fits 32 client
in_range (events.Clock client slot) = fits 32 client && fits 32 slot
in_range (events.Mark client name) = fits 32 client && fits 64 name
in_range (events.Correct client name) = fits 32 client && fits 64 name
in_range (events.Waive client) = fits 32 client
in_range (events.Quit client) = fits 32 client
in_range (events.Usage client) = fits 32 client
in_range (events.Occupancy client) = fits 32 client
in_range (events.Standing client) = fits 32 client
in_range (events.Stand client charge name) = fits 32 client && fits 32 charge && fits 64 name
in_range (events.Fall client name) = fits 32 client && fits 64 name
in_range (events.Count client slot) = fits 32 client && fits 32 slot
in_range (events.Pass client slot) = fits 32 client && fits 32 slot
in_range (events.Unpass client slot) = fits 32 client && fits 32 slot
in_range (events.Turn client) = fits 32 client
in_range (events.Peek client slot) = fits 32 client && fits 32 slot

-- The outcome of an event.

abbrev pub rule_of : State → Event → Outcome
rule_of world (events.Start client) = start_of world client
rule_of world (events.Look client slot) = look_of world client slot
rule_of world (events.Acquire client slot weight name) = acquire_of world client slot weight name
rule_of world (events.Give client name) = give_of world client name
rule_of world (events.Use client name) = use_of world client name
rule_of world (events.Occupy client slot) = occupy_of world client slot
rule_of world (events.Show client key0 key1 charge countdown name value) =
    show_of world client key0 key1 charge countdown name value
rule_of world (events.Hide client name) = hide_of world client name
rule_of world (events.Free client slot name) = free_of world client slot name
rule_of world (events.Empty client) = empty_of world client
rule_of world (events.Write client) = write_of world client
rule_of world (events.Read client name) = read_of world client name
rule_of world (events.Enter client) = enter_of world client
rule_of world (events.Charge client charge) = charge_by world client charge
rule_of world (events.Slots client) = slots_of world client
rule_of world (events.Settle client) = settle_of world client
rule_of world (events.End client) = end_of world client
rule_of world (events.Clock client slot) = clock_of world client slot
rule_of world (events.Mark client name) = mark_of world client name
rule_of world (events.Correct client name) = correct_of world client name
rule_of world (events.Waive client) = waive_of world client
rule_of world (events.Quit client) = quit_of world client
rule_of world (events.Usage client) = usage_told world client
rule_of world (events.Occupancy client) = occupancy_told world client
rule_of world (events.Standing client) = standing_told world client
rule_of world (events.Stand client charge name) = stand_of world client charge name
rule_of world (events.Fall client name) = fall_of world client name
rule_of world (events.Count client slot) = count_of world client slot
rule_of world (events.Pass client slot) = pass_of world client slot
rule_of world (events.Unpass client slot) = unpass_of world client slot
rule_of world (events.Turn client) = turn_of world client
rule_of world (events.Peek client slot) = peek_of world client slot

-- The outcome of an event: a refusal, or the reply and the world after it.
unfoldable pub outcome_of : State → Event → Outcome
outcome_of world event = if in_range event then rule_of world event else Err NotAllowed

-- What a step answers.

-- whether the event may take memory: for a stamp of a dead list, a reference, a standalone entry, a
-- slot of a trail, or a copy of the value that is read
abbrev pub takes_memory : Event → Bool
takes_memory (events.Look client slot) = true
takes_memory (events.Acquire client slot weight name) = true
takes_memory (events.Give client name) = true
takes_memory (events.Use client name) = true
takes_memory (events.Occupy client slot) = true
takes_memory (events.Show client key0 key1 charge countdown name value) = is_some name
takes_memory (events.Hide client name) = true
takes_memory (events.Free client slot name) = is_some name
takes_memory (events.Read client name) = true
takes_memory (events.Mark client name) = true
takes_memory (events.Correct client name) = true
takes_memory (events.Stand client charge name) = true
takes_memory (events.Pass client slot) = true
takes_memory other = false

-- A step answers this outcome or, where it may take memory, memory ran out for one that was
-- allowed. What is refused changes nothing, and so does want of memory.
abbrev pub Follows : Outcome → Bool → State → Result Reply CoreError → State → Type 0
Follows outcome takes old (Ok reply) new = outcome ≡ Ok (reply, new)
Follows outcome takes old (Err NoSuchSlot) new = (outcome ≡ Err NoSuchSlot) × (new ≡ old)
Follows outcome takes old (Err NoSuchClient) new = (outcome ≡ Err NoSuchClient) × (new ≡ old)
Follows outcome takes old (Err NotAllowed) new = (outcome ≡ Err NotAllowed) × (new ≡ old)
Follows outcome takes old (Err OutOfMemory) new =
    (takes ≡ true) × (is_made outcome ≡ true) × (new ≡ old)
