-- What each step of a seat is in the protocol's machine: its event and the reply to it, by the word
-- that it found and by the seat's view before it.
use Rattle.std.specs.Prelude.{ℕ, ◌-◌, ◌==◌, nat_lt, Option, if◌then◌else◌}
use Rattle.hcc_core.specs.declared.event.Event.TheVariants as events
use Rattle.hcc_core.specs.declared.event.Phase.{Phase}
use Rattle.hcc_core.specs.declared.event.Phase.TheVariants as phases
use Rattle.hcc_core.specs.declared.event.Reply.{Reply}
use Rattle.hcc_core.specs.declared.event.Reply.TheVariants as replies
use Rattle.hcc_core.specs.declared.setup.Setup.{Setup}
use Rattle.hcc_core.specs.declared.slot.Entry.{Entry}
use Rattle.hcc_core.specs.declared.slot.Stamp.{Stamp}
use Rattle.hcc_core.specs.Ledgers.{grant_of}
use Rattle.hcc_core.specs.World.{limit_of, phase_if}
use Rattle.hcc_word.specs.Word.{is_counting, is_empty, is_shareable, is_visible, refs_of, releases_of}
use Rattle.hcc_rule.specs.declared.view.Done.{Done}
use Rattle.hcc_rule.specs.declared.view.Made.{Made}
use Rattle.hcc_rule.specs.declared.view.View.{View}
use Rattle.hcc_rule.specs.Acts.{did}

-- What a meta word tells.

-- what its slot is
abbrev pub phase_in : (word : ℕ) → Phase
phase_in word =
    if is_empty word
    then phases.Empty
    else if is_shareable word then phase_if (is_visible word) else phases.Building

-- the reply to an acquire, and to a release of references of this weight
abbrev pub got_in : (word : ℕ) → Reply
got_in word =
    if is_shareable word
    then replies.Got (is_visible word) (is_counting word)
    else replies.Stray

abbrev pub left_in : (weight word : ℕ) → Reply
left_in weight word = replies.Left (refs_of word - weight) (phase_in word)

-- the reply to an enter, by the occupancy that it found
abbrev pub entered : Setup → (occupancy : ℕ) → Reply
entered setup occupancy =
    if nat_lt occupancy (limit_of setup) then replies.Granted else replies.Open

module _ {T : Type 0} where
  -- Meta words.

  abbrev pub look_done : (slot word : ℕ) → View T → Done
  look_done slot word v = did (events.Look v.client slot) (replies.Saw (phase_in word))

  abbrev pub acquire_done : (slot weight name word : ℕ) → View T → Done
  acquire_done slot weight name word v =
      did (events.Acquire v.client slot weight name) (got_in word)

  abbrev pub give_done : (weight name word : ℕ) → View T → Done
  give_done weight name word v = did (events.Give v.client name) (left_in weight word)

  abbrev pub spend_done : (weight name word : ℕ) → View T → Done
  spend_done weight name word v = did (events.Use v.client name) (left_in weight word)

  abbrev pub hide_done : (name word : ℕ) → View T → Done
  hide_done name word v =
      did (events.Hide v.client name) (if is_visible word then replies.Hid else replies.Again)

  abbrev pub mark_done : (name : ℕ) → View T → Done
  mark_done name v = did (events.Mark v.client name) replies.Ok

  -- A compare-exchange that found another word was a look.
  abbrev pub clock_done : (slot old new word : ℕ) → View T → Done
  clock_done slot old new word v =
      if word == old
      then did (events.Clock v.client slot) (replies.Uses (releases_of new))
      else look_done slot word v

  abbrev pub correct_done : (slot name old word : ℕ) → View T → Done
  correct_done slot name old word v =
      if word == old
      then did (events.Correct v.client name) replies.Ok
      else look_done slot word v

  abbrev pub free_done : (slot : ℕ) → Option ℕ → (old word charge : ℕ) → View T → Done
  free_done slot name old word charge v =
      if word == old
      then did (events.Free v.client slot name) (replies.Freed charge)
      else look_done slot word v

  abbrev pub occupy_done : (slot word : ℕ) → View T → Done
  occupy_done slot word v =
      did (events.Occupy v.client slot)
      (if is_empty word then replies.Taken else replies.Saw (phase_in word))

  abbrev pub show_done : (countdown : ℕ) → Option ℕ → Made → View T → Done
  show_done countdown name made v =
      did (events.Show v.client made.key.w0 made.key.w1 made.charge countdown name made.value)
      replies.Ok

  abbrev pub empty_done : View T → Done
  empty_done v = did (events.Empty v.client) replies.Ok

  -- Data words. An owner's load is no event.

  abbrev pub write_done : View T → Done
  write_done v = did (events.Write v.client) replies.Ok

  abbrev pub read_done : (name : ℕ) → Entry → View T → Done
  read_done name entry v =
      did (events.Read v.client name) (replies.Entry entry.key0 entry.key1 entry.value)

  -- a load without a reference, and the stamp of the entry that was shown there
  abbrev pub peek_done : (slot : ℕ) → Option Stamp → View T → Done
  peek_done slot stamp v = did (events.Peek v.client slot) (replies.Shows stamp)

  -- Ledgers, displacement words and the hand.

  abbrev pub usage_done : (word : ℕ) → View T → Done
  usage_done word v = did (events.Usage v.client) (replies.Count word)

  abbrev pub charge_done : Setup → (charge word : ℕ) → View T → Done
  charge_done setup charge word v =
      did (events.Charge v.client charge)
      (replies.Split (grant_of setup word charge) (charge - grant_of setup word charge))

  abbrev pub settle_done : View T → Done
  settle_done v = did (events.Settle v.client) replies.Ok

  abbrev pub waive_done : View T → Done
  waive_done v = did (events.Waive v.client) replies.Ok

  abbrev pub occupancy_done : (word : ℕ) → View T → Done
  occupancy_done word v = did (events.Occupancy v.client) (replies.Count word)

  abbrev pub enter_done : Setup → (word : ℕ) → View T → Done
  enter_done setup word v = did (events.Enter v.client) (entered setup word)

  abbrev pub slots_done : View T → Done
  slots_done v = did (events.Slots v.client) replies.Ok

  abbrev pub quit_done : View T → Done
  quit_done v = did (events.Quit v.client) replies.Ok

  abbrev pub standing_done : (word : ℕ) → View T → Done
  standing_done word v = did (events.Standing v.client) (replies.Count word)

  abbrev pub stand_done : (name charge : ℕ) → View T → Done
  stand_done name charge v = did (events.Stand v.client charge name) replies.Ok

  abbrev pub fall_done : (name : ℕ) → View T → Done
  fall_done name v = did (events.Fall v.client name) replies.Ok

  abbrev pub count_done : (slot word : ℕ) → View T → Done
  count_done slot word v = did (events.Count v.client slot) (replies.Count word)

  abbrev pub pass_done : (slot : ℕ) → View T → Done
  pass_done slot v = did (events.Pass v.client slot) replies.Ok

  abbrev pub unpass_done : (slot : ℕ) → View T → Done
  unpass_done slot v = did (events.Unpass v.client slot) replies.Ok

  abbrev pub turn_done : (word : ℕ) → View T → Done
  turn_done word v = did (events.Turn v.client) (replies.Count word)
