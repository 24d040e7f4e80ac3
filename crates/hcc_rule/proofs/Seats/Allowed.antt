-- An event that the machine allows is one of a client that the world has. It leaves as many
-- clients, and where it is no step it leaves the slots and the hand.
use Rattle.std.proofs.Common.{◌≡◌, ℕ, ◌<◌, ◌&&◌, Bool, true, false, cond, not, length, nat_lt, List, Option, Some, Result, Ok, Err, slice_get, slice_set, refl, ap, ◌∙◌, subst}
use Rattle.std.specs.List.{find, list_any}
use Rattle.std.specs.Option.{ok_or}
use Rattle.std.proofs.lemmas.List.{length-set}
use Rattle.hcc_core.specs.declared.client.Client.{Client}
use Rattle.hcc_core.specs.declared.slot.Slot.{Slot}
use Rattle.hcc_core.specs.declared.slot.Slot.TheVariants as slots
use Rattle.hcc_core.specs.declared.event.CoreError.{CoreError}
use Rattle.hcc_core.specs.declared.event.CoreError.TheVariants.{NotAllowed}
use Rattle.hcc_core.specs.declared.event.Event.{Event}
use Rattle.hcc_core.specs.declared.event.Event.TheVariants as events
use Rattle.hcc_core.specs.World.{State, is_placed, owns_nothing, is_absent, references_of, usage_of}
use Rattle.hcc_core.specs.Outcomes.{Outcome, ◌>>=◌, allow, slot_at, client_at, live_at, holding, has_no_member}
use Rattle.hcc_core.specs.References.{start_of, look_of, acquire_of, may_acquire, give_of, use_of, counting_in, end_of, is_idle, holds_nothing}
use Rattle.hcc_core.specs.Uses.{clock_of, may_clock, mark_of, correct_of, may_correct}
use Rattle.hcc_core.specs.Entries.{occupied, occupy_of, show_of, built_by, may_show, hide_of, free_of, may_free, empty_of, freed_by, write_of, is_building, peek_of, read_of, entry_read}
use Rattle.hcc_core.specs.Ledgers.{enter_of, slots_of, charge_by, may_charge, settle_of, may_settle, waive_of, may_waive, quit_of, told, usage_told, occupancy_told, standing_told, stand_of, may_stand, fall_of, is_standing}
use Rattle.hcc_core.specs.Trails.{count_of, pass_of, unpass_of, is_slot, turn_of}
use Rattle.hcc_core.specs.Steps.{in_range, rule_of, outcome_of}
use Rattle.hcc_core.proofs.Keeps.{found_ok, live_ok}
use Rattle.hcc_rule.specs.declared.view.Done.{Done}
use Rattle.hcc_rule.specs.Acts.{Leads, client_by, is_step}
use Rattle.hcc_rule.proofs.Basics.Lists.{within}

-- what an event of this client, which may be a step, makes of a world
pub record Allowed (w : State) (client : ℕ) (step : Bool) (next : State) : Type 0 where
  pub there : client < length w.clients
  pub count : length next.clients ≡ length w.clients
  pub slots : step ≡ false → next.slots ≡ w.slots
  pub hand : step ≡ false → next.hand ≡ w.hand

abbrev IfAllowed : State → ℕ → Bool → Outcome → Type 0
IfAllowed w client step (Ok done) = Allowed w client step done.1
IfAllowed w client step (Err error) = Unit {0}

module _ (w : State) (client : ℕ) where
  -- a reading on the way, and what it found
  chain : {A : Type 0} (step : Bool) (r : Result A CoreError) (f : A → Outcome)
      → ((x : A) → r ≡ Ok x → IfAllowed w client step (f x)) → IfAllowed w client step (r >>= f)
  chain step (Ok x) f h = h x refl
  chain step (Err e) f h = tt

  -- a step of a live client
  by_live : (found : Client) (next : State) → live_at w client ≡ Ok found
      → length next.clients ≡ length w.clients → Allowed w client true next
  by_live found next live count = record {
    there = within w.clients client found (live_ok w client found live);
    count = count;
    slots = λ no. cc;
    hand = λ no. cc;
  }

  -- a step that reads the client, or a slot first
  first : (f : Client → Outcome)
      → ((found : Client) → live_at w client ≡ Ok found → IfAllowed w client true (f found))
      → IfAllowed w client true (live_at w client >>= f)
  first f h = chain true (live_at w client) f h

  second : (slot : ℕ) (f : Slot → Client → Outcome)
      → ((seen : Slot) (found : Client) → live_at w client ≡ Ok found
      → IfAllowed w client true (f seen found))
      → IfAllowed w client true (slot_at w slot >>= λ seen. live_at w client >>= f seen)
  second slot f h =
      chain true (slot_at w slot) _ (λ seen at. first (f seen) (λ found live. h seen found live))

  -- and then a test
  tested : {A : Type 0} (r : Result A CoreError) (f : A → Outcome)
      → ((x : A) → IfAllowed w client true (f x)) → IfAllowed w client true (r >>= f)
  tested r f h = chain true r f (λ x is. h x)

  -- one that leaves the clients, and one that changes that client
  stays : (found : Client) (next : State) → live_at w client ≡ Ok found
      → next.clients ≡ w.clients → Allowed w client true next
  stays found next live same = by_live found next live (ap length same)

  sets : (found new : Client) (next : State) → live_at w client ≡ Ok found
      → next.clients ≡ slice_set w.clients client new → Allowed w client true next
  sets found new next live same =
      by_live found next live (ap length same ∙ length-set w.clients client new)

  -- a start or an end
  starts : (found new : Client) (next : State) → slice_get w.clients client ≡ Some found
      → next.clients ≡ slice_set w.clients client new → next.slots ≡ w.slots → next.hand ≡ w.hand
      → Allowed w client false next
  starts found new next at same slots hand = record {
    there = within w.clients client found at;
    count = ap length same ∙ length-set w.clients client new;
    slots = λ no. slots;
    hand = λ no. hand;
  }

  start_allowed : IfAllowed w client false (start_of w client)
  start_allowed =
      chain false (client_at w client) _ (λ found at.
      chain false (allow (not found.live)) _ (λ u may.
      starts found _ _ (found_ok _ _ found at) refl refl refl))

  end_allowed : IfAllowed w client false (end_of w client)
  unfolding end_of
  end_allowed =
      chain false (live_at w client) _ (λ found live.
      chain false (allow (is_idle found && holds_nothing w.slots client)) _ (λ u idle.
      starts found _ _ (live_ok w client found live) refl refl refl))

  -- Steps on references.

  look_allowed : (slot : ℕ) → IfAllowed w client true (look_of w client slot)
  look_allowed slot = second slot _ (λ seen found live. sets found _ _ live refl)

  acquire_allowed : (slot weight name : ℕ)
      → IfAllowed w client true (acquire_of w client slot weight name)
  unfolding acquire_of
  acquire_allowed slot weight name =
      second slot _ (λ seen found live.
      tested (allow (may_acquire w.setup w.slots client found slot seen weight name)) _
      (λ u. sets found _ _ live refl))

  -- a step on a name that the client holds, on the slot where it stands
  on_held : (name : ℕ) (f : Client → ℕ → Slot → Outcome)
      → ((found : Client) (slot : ℕ) (seen : Slot) → live_at w client ≡ Ok found
      → IfAllowed w client true (f found slot seen))
      → IfAllowed w client true (live_at w client >>= λ found. holding w client name >>= λ slot.
      slot_at w slot >>= λ seen. f found slot seen)
  on_held name f h =
      first _ (λ found live. tested (holding w client name) _ (λ slot.
      tested (slot_at w slot) _ (λ seen. h found slot seen live)))

  give_allowed : (name : ℕ) → IfAllowed w client true (give_of w client name)
  unfolding give_of
  give_allowed name = on_held name _ (λ found slot seen live. sets found _ _ live refl)

  use_allowed : (name : ℕ) → IfAllowed w client true (use_of w client name)
  unfolding use_of
  use_allowed name =
      on_held name _ (λ found slot seen live.
      tested (ok_or (counting_in client name (references_of seen)) NotAllowed) _
      (λ k. sets found _ _ live refl))

  -- Steps on entries.

  occupied_allowed : (slot : ℕ) (found : Client) (seen : Slot) → live_at w client ≡ Ok found
      → IfAllowed w client true (occupied w client found slot seen)
  occupied_allowed slot found (slots.Empty strays) live = sets found _ _ live refl
  occupied_allowed slot found (slots.Building other strays) live = look_allowed slot
  occupied_allowed slot found (slots.Shareable r) live = look_allowed slot

  occupy_allowed : (slot : ℕ) → IfAllowed w client true (occupy_of w client slot)
  occupy_allowed slot =
      second slot _ (λ seen found live. tested (allow (owns_nothing found.owned)) _
      (λ u. occupied_allowed slot found seen live))

  show_allowed : (key0 key1 charge countdown : ℕ) (name : Option ℕ) (value : List ℕ)
      → IfAllowed w client true (show_of w client key0 key1 charge countdown name value)
  unfolding show_of
  show_allowed key0 key1 charge countdown name value =
      first _ (λ found live.
      tested (ok_or (built_by found.owned) NotAllowed) _ (λ slot.
      tested (allow (may_show w.slots client found charge countdown name)) _
      (λ u. sets found _ _ live refl)))

  hide_allowed : (name : ℕ) → IfAllowed w client true (hide_of w client name)
  unfolding hide_of
  hide_allowed name = on_held name _ (λ found slot seen live. sets found _ _ live refl)

  free_allowed : (slot : ℕ) (name : Option ℕ) → IfAllowed w client true (free_of w client slot name)
  unfolding free_of
  free_allowed slot name =
      second slot _ (λ seen found live.
      tested (allow (may_free client found seen name)) _ (λ u. sets found _ _ live refl))

  empty_allowed : IfAllowed w client true (empty_of w client)
  unfolding empty_of
  empty_allowed =
      first _ (λ found live.
      tested (ok_or (freed_by found.owned) NotAllowed) _ (λ slot.
      tested (allow (has_no_member found.trail)) _
      (λ u. sets found _ _ live refl)))

  write_allowed : IfAllowed w client true (write_of w client)
  write_allowed =
      first _ (λ found live.
      tested (allow (is_building found.owned)) _ (λ u. stays found _ live refl))

  read_allowed : (name : ℕ) → IfAllowed w client true (read_of w client name)
  unfolding read_of
  read_allowed name =
      on_held name _ (λ found slot seen live.
      tested (entry_read seen) _ (λ entry. stays found _ live refl))

  -- Steps on uses and marks.

  clock_allowed : (slot : ℕ) → IfAllowed w client true (clock_of w client slot)
  unfolding clock_of
  clock_allowed slot =
      second slot _ (λ seen found live.
      tested (allow (may_clock seen)) _ (λ u. stays found _ live refl))

  mark_allowed : (name : ℕ) → IfAllowed w client true (mark_of w client name)
  unfolding mark_of
  mark_allowed name = on_held name _ (λ found slot seen live. sets found _ _ live refl)

  correct_allowed : (name : ℕ) → IfAllowed w client true (correct_of w client name)
  unfolding correct_of
  correct_allowed name =
      on_held name _ (λ found slot seen live.
      tested (allow (may_correct client name seen)) _ (λ u. sets found _ _ live refl))

  -- Steps on the ledgers.

  enter_allowed : IfAllowed w client true (enter_of w client)
  unfolding enter_of
  enter_allowed =
      first _ (λ found live.
      tested (allow (is_absent found.place)) _ (λ u. sets found _ _ live refl))

  slots_allowed : IfAllowed w client true (slots_of w client)
  unfolding slots_of
  slots_allowed =
      first _ (λ found live.
      tested (allow (nat_lt 0 found.freed_slots)) _ (λ u. sets found _ _ live refl))

  quit_allowed : IfAllowed w client true (quit_of w client)
  unfolding quit_of
  quit_allowed =
      first _ (λ found live.
      tested (allow (is_placed found.place)) _ (λ u. sets found _ _ live refl))

  charge_allowed : (charge : ℕ) → IfAllowed w client true (charge_by w client charge)
  unfolding charge_by
  charge_allowed charge =
      first _ (λ found live.
      tested (allow (may_charge found (usage_of w) charge)) _ (λ u. sets found _ _ live refl))

  settle_allowed : IfAllowed w client true (settle_of w client)
  unfolding settle_of
  settle_allowed =
      first _ (λ found live. tested (allow (may_settle found)) _ (λ u. sets found _ _ live refl))

  waive_allowed : IfAllowed w client true (waive_of w client)
  unfolding waive_of
  waive_allowed =
      first _ (λ found live. tested (allow (may_waive found)) _ (λ u. sets found _ _ live refl))

  told_allowed : (number : ℕ) → IfAllowed w client true (told w client number)
  told_allowed number = first _ (λ found live. stays found _ live refl)

  usage_allowed : IfAllowed w client true (usage_told w client)
  unfolding usage_told
  usage_allowed = told_allowed _

  occupancy_allowed : IfAllowed w client true (occupancy_told w client)
  unfolding occupancy_told
  occupancy_allowed = told_allowed _

  standing_allowed : IfAllowed w client true (standing_told w client)
  unfolding standing_told
  standing_allowed = told_allowed _

  stand_allowed : (charge name : ℕ) → IfAllowed w client true (stand_of w client charge name)
  unfolding stand_of
  stand_allowed charge name =
      first _ (λ found live.
      tested (allow (may_stand found charge name)) _ (λ u. sets found _ _ live refl))

  fall_allowed : (name : ℕ) → IfAllowed w client true (fall_of w client name)
  unfolding fall_of
  fall_allowed name =
      first _ (λ found live.
      tested (ok_or (find (is_standing name) found.standalones) NotAllowed) _
      (λ gone. sets found _ _ live refl))

  peek_allowed : (slot : ℕ) → IfAllowed w client true (peek_of w client slot)
  unfolding peek_of
  peek_allowed slot = second slot _ (λ seen found live. stays found _ live refl)

  -- Steps on trails and the hand.

  count_allowed : (slot : ℕ) → IfAllowed w client true (count_of w client slot)
  unfolding count_of
  count_allowed slot = second slot _ (λ seen found live. stays found _ live refl)

  pass_allowed : (slot : ℕ) → IfAllowed w client true (pass_of w client slot)
  unfolding pass_of
  pass_allowed slot =
      second slot _ (λ seen found live.
      tested (allow (nat_lt (length found.trail) w.setup.slots)) _ (λ u. sets found _ _ live refl))

  unpass_allowed : (slot : ℕ) → IfAllowed w client true (unpass_of w client slot)
  unfolding unpass_of
  unpass_allowed slot =
      second slot _ (λ seen found live.
      tested (allow (list_any (is_slot slot) found.trail)) _ (λ u. sets found _ _ live refl))

  turn_allowed : IfAllowed w client true (turn_of w client)
  unfolding turn_of
  turn_allowed = first _ (λ found live. stays found _ live refl)

rule_allowed : (w : State) (event : Event)
    → IfAllowed w (client_by event) (is_step event) (rule_of w event)
rule_allowed w (events.Start client) = start_allowed w client
rule_allowed w (events.Look client slot) = look_allowed w client slot
rule_allowed w (events.Acquire client slot weight name) = acquire_allowed w client slot weight name
rule_allowed w (events.Give client name) = give_allowed w client name
rule_allowed w (events.Use client name) = use_allowed w client name
rule_allowed w (events.Occupy client slot) = occupy_allowed w client slot
rule_allowed w (events.Show client key0 key1 charge countdown name value) =
    show_allowed w client key0 key1 charge countdown name value
rule_allowed w (events.Hide client name) = hide_allowed w client name
rule_allowed w (events.Free client slot name) = free_allowed w client slot name
rule_allowed w (events.Empty client) = empty_allowed w client
rule_allowed w (events.Write client) = write_allowed w client
rule_allowed w (events.Read client name) = read_allowed w client name
rule_allowed w (events.Enter client) = enter_allowed w client
rule_allowed w (events.Charge client charge) = charge_allowed w client charge
rule_allowed w (events.Slots client) = slots_allowed w client
rule_allowed w (events.Settle client) = settle_allowed w client
rule_allowed w (events.End client) = end_allowed w client
rule_allowed w (events.Clock client slot) = clock_allowed w client slot
rule_allowed w (events.Mark client name) = mark_allowed w client name
rule_allowed w (events.Correct client name) = correct_allowed w client name
rule_allowed w (events.Waive client) = waive_allowed w client
rule_allowed w (events.Quit client) = quit_allowed w client
rule_allowed w (events.Usage client) = usage_allowed w client
rule_allowed w (events.Occupancy client) = occupancy_allowed w client
rule_allowed w (events.Standing client) = standing_allowed w client
rule_allowed w (events.Stand client charge name) = stand_allowed w client charge name
rule_allowed w (events.Fall client name) = fall_allowed w client name
rule_allowed w (events.Count client slot) = count_allowed w client slot
rule_allowed w (events.Pass client slot) = pass_allowed w client slot
rule_allowed w (events.Unpass client slot) = unpass_allowed w client slot
rule_allowed w (events.Turn client) = turn_allowed w client
rule_allowed w (events.Peek client slot) = peek_allowed w client slot

-- any event that the machine allows
pub leads_allowed : (w : State) (done : Done) (next : State) → Leads w done next
    → Allowed w (client_by done.event) (is_step done.event) next
unfolding outcome_of
leads_allowed w done next leads =
    subst (λ outcome. IfAllowed w (client_by done.event) (is_step done.event) outcome) leads
    (ranged (in_range done.event))
  where
    ranged : (b : Bool) → IfAllowed w (client_by done.event) (is_step done.event)
        (cond b (rule_of w done.event) (Err NotAllowed))
    ranged true = rule_allowed w done.event
    ranged false = tt
