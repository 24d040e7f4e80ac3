-- No event changes another client than its own: what a client owns it owns until it acts.
use Rattle.std.proofs.Common.{◌≡◌, ◌≢◌, ℕ, ◌&&◌, Bool, true, false, List, Option, Result, Ok, Err, length, not, nat_lt, find, option_map, slice_get, slice_set, None, inl, inr, [], ◌∷◌, refl, ap, sym, ◌∙◌}
use Rattle.std.specs.List.{list_any}
use Rattle.std.specs.Option.{ok_or}
use Rattle.std.specs.Prelude.{if◌then◌else◌}
use Rattle.std.proofs.lemmas.Bool.{cases_eq}
use Rattle.hcc_core.specs.declared.client.Client.{Client}
use Rattle.hcc_core.specs.declared.event.CoreError.{CoreError}
use Rattle.hcc_core.specs.declared.event.CoreError.TheVariants.{NotAllowed}
use Rattle.hcc_core.specs.declared.event.Event.{Event}
use Rattle.hcc_core.specs.declared.event.Event.TheVariants as events
use Rattle.hcc_core.specs.declared.event.Reply.TheVariants as replies
use Rattle.hcc_core.specs.declared.slot.Slot.{Slot}
use Rattle.hcc_core.specs.declared.slot.Slot.TheVariants as slots
use Rattle.hcc_core.specs.Entries.{built_by, empty_of, entry_read, free_of, freed_by, hide_of, is_building, may_free, may_show, occupied, occupy_of, peek_of, read_of, show_of, write_of}
use Rattle.hcc_core.specs.Ledgers.{charge_by, enter_of, fall_of, is_standing, may_charge, may_settle, may_stand, may_waive, occupancy_told, quit_of, settle_of, slots_of, stand_of, standing_told, told, usage_told, waive_of}
use Rattle.hcc_core.specs.Outcomes.{◌>>=◌, Outcome, allow, client_at, has_no_member, holding, live_at, slot_at, with_client}
use Rattle.hcc_core.specs.References.{acquire_of, counting_in, end_of, give_of, holds_nothing, is_idle, look_of, may_acquire, start_of, use_of}
use Rattle.hcc_core.specs.Runs.{after, after_all, world_after}
use Rattle.hcc_core.specs.Steps.{in_range, outcome_of, rule_of}
use Rattle.hcc_core.specs.Trails.{count_of, is_slot, pass_of, turn_of, unpass_of}
use Rattle.hcc_core.specs.Uses.{clock_of, correct_of, mark_of, may_clock, may_correct}
use Rattle.hcc_core.specs.World.{State, is_absent, is_placed, occupancy_of, owns_nothing, references_of, standing_in, usage_of}
use Rattle.hcc_core.proofs.Keeps.{found_ok, live_ok}
use Rattle.hcc_core.proofs.ListLemmas.{read_other, read_same}
use Rattle.hcc_rule.specs.declared.view.Done.{Done}
use Rattle.hcc_rule.specs.Acts.{IsStepBy, client_by, did, events_of, is_step}
use Rattle.hcc_rule.specs.Views.{Each}
use Rattle.hcc_table.specs.Seeking.{is_write}
use Rattle.hcc_table.proofs.Occupied.{writes_keep}
use Rattle.hcc_table.proofs.Unshown.{KeepsOwned, event_keeps, on_the_way, owned_at}

module _ (w : State) (client c : ℕ) (other : c ≢ client) where
  -- what the client c is stays, whatever the outcome
  abbrev Keeps : Outcome → Type 0
  Keeps o = slice_get (world_after w o).clients c ≡ slice_get w.clients c

  -- a reading on the way
  chain : {A : Type 0} (r : Result A CoreError) (f : A → Outcome) → ((x : A) → Keeps (f x))
      → Keeps (r >>= f)
  chain (Ok x) f h = h x
  chain (Err e) f h = refl

  live : (f : Client → Outcome) → ((found : Client) → Keeps (f found))
      → Keeps (live_at w client >>= f)
  live f h = chain (live_at w client) f h

  -- of a live client, and a slot that is looked up first
  seen : (slot : ℕ) (f : Slot → Client → Outcome)
      → ((s : Slot) (found : Client) → Keeps (f s found))
      → Keeps (slot_at w slot >>= λ s. live_at w client >>= f s)
  seen slot f h = chain (slot_at w slot) _ (λ s. live (f s) (h s))

  -- of a live client, and a slot that it holds
  held : (name : ℕ) (f : Client → ℕ → Slot → Outcome)
      → ((found : Client) (slot : ℕ) (s : Slot) → Keeps (f found slot s))
      → Keeps (live_at w client >>= λ found. holding w client name >>= λ slot.
      slot_at w slot >>= f found slot)
  held name f h =
      live _ (λ found. chain (holding w client name) _ (λ slot.
      chain (slot_at w slot) _ (λ s. h found slot s)))

  -- the event's client is changed
  set : (changed : Client)
      → slice_get (slice_set w.clients client changed) c ≡ slice_get w.clients c
  set changed = read_other w.clients client c changed other

  start_keeps : Keeps (start_of w client)
  start_keeps =
      chain (client_at w client) _ (λ found. chain (allow (not found.live)) _ (λ u. set _))

  end_keeps : Keeps (end_of w client)
  unfolding end_of
  end_keeps =
      live _ (λ found. chain (allow (is_idle found && holds_nothing w.slots client)) _ (λ u. set _))

  look_keeps : (slot : ℕ) → Keeps (look_of w client slot)
  look_keeps slot = seen slot _ (λ s found. set _)

  acquire_keeps : (slot weight name : ℕ) → Keeps (acquire_of w client slot weight name)
  unfolding acquire_of
  acquire_keeps slot weight name =
      seen slot _ (λ s found.
      chain (allow (may_acquire w.setup w.slots client found slot s weight name)) _ (λ u. set _))

  give_keeps : (name : ℕ) → Keeps (give_of w client name)
  unfolding give_of
  give_keeps name = held name _ (λ found slot s. set _)

  use_keeps : (name : ℕ) → Keeps (use_of w client name)
  unfolding use_of
  use_keeps name =
      held name _ (λ found slot s.
      chain (ok_or (counting_in client name (references_of s)) NotAllowed) _ (λ k. set _))

  occupied_keeps : (slot : ℕ) (found : Client) (s : Slot) → Keeps (occupied w client found slot s)
  occupied_keeps slot found (slots.Empty strays) = set _
  occupied_keeps slot found (slots.Building owner strays) = look_keeps slot
  occupied_keeps slot found (slots.Shareable r) = look_keeps slot

  occupy_keeps : (slot : ℕ) → Keeps (occupy_of w client slot)
  occupy_keeps slot =
      seen slot _ (λ s found.
      chain (allow (owns_nothing found.owned)) _ (λ u. occupied_keeps slot found s))

  show_keeps : (key0 key1 charge countdown : ℕ) (name : Option ℕ) (value : List ℕ)
      → Keeps (show_of w client key0 key1 charge countdown name value)
  unfolding show_of
  show_keeps key0 key1 charge countdown name value =
      live _ (λ found. chain (ok_or (built_by found.owned) NotAllowed) _ (λ slot.
      chain (allow (may_show w.slots client found charge countdown name)) _ (λ u. set _)))

  hide_keeps : (name : ℕ) → Keeps (hide_of w client name)
  unfolding hide_of
  hide_keeps name = held name _ (λ found slot s. set _)

  free_keeps : (slot : ℕ) (name : Option ℕ) → Keeps (free_of w client slot name)
  unfolding free_of
  free_keeps slot name =
      seen slot _ (λ s found. chain (allow (may_free client found s name)) _ (λ u. set _))

  empty_keeps : Keeps (empty_of w client)
  unfolding empty_of
  empty_keeps =
      live _ (λ found. chain (ok_or (freed_by found.owned) NotAllowed) _ (λ slot.
      chain (allow (has_no_member found.trail)) _ (λ u. set _)))

  write_keeps : Keeps (write_of w client)
  write_keeps = live _ (λ found. chain (allow (is_building found.owned)) _ (λ u. refl))

  read_keeps : (name : ℕ) → Keeps (read_of w client name)
  unfolding read_of
  read_keeps name = held name _ (λ found slot s. chain (entry_read s) _ (λ entry. refl))

  peek_keeps : (slot : ℕ) → Keeps (peek_of w client slot)
  unfolding peek_of
  peek_keeps slot = seen slot _ (λ s found. refl)

  enter_keeps : Keeps (enter_of w client)
  unfolding enter_of
  enter_keeps = live _ (λ found. chain (allow (is_absent found.place)) _ (λ u. set _))

  charge_keeps : (charge : ℕ) → Keeps (charge_by w client charge)
  unfolding charge_by
  charge_keeps charge =
      live _ (λ found. chain (allow (may_charge found (usage_of w) charge)) _ (λ u. set _))

  slots_keep : Keeps (slots_of w client)
  unfolding slots_of
  slots_keep = live _ (λ found. chain (allow (nat_lt 0 found.freed_slots)) _ (λ u. set _))

  settle_keeps : Keeps (settle_of w client)
  unfolding settle_of
  settle_keeps = live _ (λ found. chain (allow (may_settle found)) _ (λ u. set _))

  clock_keeps : (slot : ℕ) → Keeps (clock_of w client slot)
  unfolding clock_of
  clock_keeps slot = seen slot _ (λ s found. chain (allow (may_clock s)) _ (λ u. refl))

  mark_keeps : (name : ℕ) → Keeps (mark_of w client name)
  unfolding mark_of
  mark_keeps name = held name _ (λ found slot s. set _)

  correct_keeps : (name : ℕ) → Keeps (correct_of w client name)
  unfolding correct_of
  correct_keeps name =
      held name _ (λ found slot s. chain (allow (may_correct client name s)) _ (λ u. set _))

  waive_keeps : Keeps (waive_of w client)
  unfolding waive_of
  waive_keeps = live _ (λ found. chain (allow (may_waive found)) _ (λ u. set _))

  quit_keeps : Keeps (quit_of w client)
  unfolding quit_of
  quit_keeps = live _ (λ found. chain (allow (is_placed found.place)) _ (λ u. set _))

  told_keeps : (number : ℕ) → Keeps (told w client number)
  told_keeps number = live _ (λ found. refl)

  usage_keeps : Keeps (usage_told w client)
  unfolding usage_told
  usage_keeps = told_keeps (usage_of w)

  occupancy_keeps : Keeps (occupancy_told w client)
  unfolding occupancy_told
  occupancy_keeps = told_keeps (occupancy_of w)

  standing_keeps : Keeps (standing_told w client)
  unfolding standing_told
  standing_keeps = told_keeps (standing_in w)

  stand_keeps : (charge name : ℕ) → Keeps (stand_of w client charge name)
  unfolding stand_of
  stand_keeps charge name =
      live _ (λ found. chain (allow (may_stand found charge name)) _ (λ u. set _))

  fall_keeps : (name : ℕ) → Keeps (fall_of w client name)
  unfolding fall_of
  fall_keeps name =
      live _ (λ found.
      chain (ok_or (find (is_standing name) found.standalones) NotAllowed) _ (λ gone. set _))

  count_keeps : (slot : ℕ) → Keeps (count_of w client slot)
  unfolding count_of
  count_keeps slot = seen slot _ (λ s found. refl)

  pass_keeps : (slot : ℕ) → Keeps (pass_of w client slot)
  unfolding pass_of
  pass_keeps slot =
      seen slot _ (λ s found.
      chain (allow (nat_lt (length found.trail) w.setup.slots)) _ (λ u. set _))

  unpass_keeps : (slot : ℕ) → Keeps (unpass_of w client slot)
  unfolding unpass_of
  unpass_keeps slot =
      seen slot _ (λ s found. chain (allow (list_any (is_slot slot) found.trail)) _ (λ u. set _))

  turn_keeps : Keeps (turn_of w client)
  unfolding turn_of
  turn_keeps = live _ (λ found. refl)

-- any event
rule_keeps : (w : State) (c : ℕ) (event : Event)
    → (other : c ≢ client_by event) → Keeps w (client_by event) c other (rule_of w event)
rule_keeps w c (events.Start client) other = start_keeps w client c other
rule_keeps w c (events.Look client slot) other = look_keeps w client c other slot
rule_keeps w c (events.Acquire client slot weight name) other =
    acquire_keeps w client c other slot weight name
rule_keeps w c (events.Give client name) other = give_keeps w client c other name
rule_keeps w c (events.Use client name) other = use_keeps w client c other name
rule_keeps w c (events.Occupy client slot) other = occupy_keeps w client c other slot
rule_keeps w c (events.Show client key0 key1 charge countdown name value) other =
    show_keeps w client c other key0 key1 charge countdown name value
rule_keeps w c (events.Hide client name) other = hide_keeps w client c other name
rule_keeps w c (events.Free client slot name) other = free_keeps w client c other slot name
rule_keeps w c (events.Empty client) other = empty_keeps w client c other
rule_keeps w c (events.Write client) other = write_keeps w client c other
rule_keeps w c (events.Peek client slot) other = peek_keeps w client c other slot
rule_keeps w c (events.Read client name) other = read_keeps w client c other name
rule_keeps w c (events.Enter client) other = enter_keeps w client c other
rule_keeps w c (events.Charge client charge) other = charge_keeps w client c other charge
rule_keeps w c (events.Slots client) other = slots_keep w client c other
rule_keeps w c (events.Settle client) other = settle_keeps w client c other
rule_keeps w c (events.End client) other = end_keeps w client c other
rule_keeps w c (events.Clock client slot) other = clock_keeps w client c other slot
rule_keeps w c (events.Mark client name) other = mark_keeps w client c other name
rule_keeps w c (events.Correct client name) other = correct_keeps w client c other name
rule_keeps w c (events.Waive client) other = waive_keeps w client c other
rule_keeps w c (events.Quit client) other = quit_keeps w client c other
rule_keeps w c (events.Usage client) other = usage_keeps w client c other
rule_keeps w c (events.Occupancy client) other = occupancy_keeps w client c other
rule_keeps w c (events.Standing client) other = standing_keeps w client c other
rule_keeps w c (events.Stand client charge name) other = stand_keeps w client c other charge name
rule_keeps w c (events.Fall client name) other = fall_keeps w client c other name
rule_keeps w c (events.Count client slot) other = count_keeps w client c other slot
rule_keeps w c (events.Pass client slot) other = pass_keeps w client c other slot
rule_keeps w c (events.Unpass client slot) other = unpass_keeps w client c other slot
rule_keeps w c (events.Turn client) other = turn_keeps w client c other

pub others_keep : (w : State) (c : ℕ) (event : Event) → c ≢ client_by event
    → slice_get (after w event).clients c ≡ slice_get w.clients c
unfolding outcome_of
others_keep w c event other = by (in_range event) (rule_keeps w c event other)
  where
    by : (b : Bool) → Keeps w (client_by event) c other (rule_of w event)
        → slice_get (world_after w (if b then rule_of w event else Err NotAllowed)).clients c
        ≡ slice_get w.clients c
    by true h = h
    by false h = refl

-- A start or an end of a client leaves what it owns.

start_owned : (w : State) (client : ℕ) → KeepsOwned w (world_after w (start_of w client))
start_owned w client =
    on_the_way w (client_at w client) _ (λ found at.
    on_the_way w (allow (not found.live))
    (λ u. Ok (replies.Ok, with_client w client (record found { live = true }))) (λ u may. (
      refl,
      λ c. read_same (option_map (λ (x : Client). x.owned)) w.clients client c found
          (record found { live = true }) (found_ok _ _ found at) refl,
    )))

end_owned : (w : State) (client : ℕ) → KeepsOwned w (world_after w (end_of w client))
unfolding end_of
end_owned w client =
    on_the_way w (live_at w client) _ (λ found live.
    on_the_way w (allow (is_idle found && holds_nothing w.slots client))
    (λ u. Ok (
      replies.Ok,
      with_client w client (record found { live = false; looked = None }),
    )) (λ u may. (
      refl,
      λ c. read_same (option_map (λ (x : Client). x.owned)) w.clients client c found
          (record found { live = false; looked = None }) (live_ok w client found live) refl,
    )))

passes_owned : (w : State) (event : Event) → is_step event ≡ false → KeepsOwned w (after w event)
passes_owned w (events.Start client) is =
    event_keeps w (events.Start client) (start_owned w client)
passes_owned w (events.End client) is = event_keeps w (events.End client) (end_owned w client)
passes_owned w other is = cc

-- What a client owns it owns after events of which each step of its own is a write.
after_owned : (w : State) (c : ℕ) (event : Event) → (IsStepBy c event → is_write event ≡ true)
    → owned_at (after w event) c ≡ owned_at w c
after_owned w c event only = elim (cases_eq c (client_by event)) [
  | inl own ↦ by (is_step event) refl own
  | inr other ↦ ap (option_map (λ (x : Client). x.owned)) (others_keep w c event other)
]
  where
    by : (b : Bool) → is_step event ≡ b → c ≡ client_by event
        → owned_at (after w event) c ≡ owned_at w c
    by true step own =
        (writes_keep (did event replies.Ok ∷ []) (only (step, sym own), tt) w).1 c
    by false none own = (passes_owned w event none).1 c

pub owned_through : (c : ℕ) (ds : List Done)
    → Each (λ (done : Done). IsStepBy c done.event → is_write done.event ≡ true) ds → (w : State)
    → owned_at (after_all w (events_of ds)) c ≡ owned_at w c
owned_through c [] only w = refl
owned_through c (d ∷ ds) only w =
    owned_through c ds only.1 (after w d.event) ∙ after_owned w c d.event only.0
