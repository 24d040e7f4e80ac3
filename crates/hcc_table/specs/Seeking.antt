-- What a seat does while it searches, as events of the protocol's machine.
use Rattle.std.specs.Prelude.{◌≡◌, ◌⊎◌, ℕ, ◌≤◌, Bool, true, false, List, [], ◌∷◌, ◌++◌, Option}
use Rattle.hcc_core.specs.declared.event.Event.{Event}
use Rattle.hcc_core.specs.declared.event.Event.TheVariants as events
use Rattle.hcc_core.specs.declared.event.Reply.TheVariants as replies
use Rattle.hcc_rule.specs.declared.table.RuleTable.{RuleTable}
use Rattle.hcc_rule.specs.declared.view.Done.{Done}
use Rattle.hcc_rule.specs.declared.view.Made.{Made}
use Rattle.hcc_rule.specs.Acts.{IsStepBy, did, past}
use Rattle.hcc_rule.specs.Callers.{IsEvent, clients_of}
use Rattle.hcc_rule.specs.Events.{acquire_done, correct_done, show_done}
use Rattle.hcc_rule.specs.Seats.{SeatOf, view}
use Rattle.hcc_rule.specs.Views.{Each, names}
use Rattle.hcc_table.specs.Steps.{acquired}

-- whether it is an event of a search: these change no entry, and show and hide none
abbrev pub is_seeking : Event → Bool
is_seeking (events.Look client slot) = true
is_seeking (events.Acquire client slot weight name) = true
is_seeking (events.Peek client slot) = true
is_seeking (events.Read client name) = true
is_seeking (events.Give client name) = true
is_seeking (events.Count client slot) = true
is_seeking (events.Mark client name) = true
is_seeking (events.Correct client name) = true
is_seeking other = false

-- whether it is an event by which a slot leaves a trail
abbrev pub is_unpass : Event → Bool
is_unpass (events.Unpass client slot) = true
is_unpass other = false

-- whether it is an event by which a client writes a word of an entry
abbrev pub is_write : Event → Bool
is_write (events.Write client) = true
is_write other = false

-- whether it is an event by which a client gives back what it freed
abbrev pub is_settling : Event → Bool
is_settling (events.Slots client) = true
is_settling (events.Settle client) = true
is_settling other = false

-- whether it is an event by which a client reserves, keeps or gives back what it needs or freed
abbrev pub is_booking : Event → Bool
is_booking (events.Charge client charge) = true
is_booking (events.Slots client) = true
is_booking (events.Settle client) = true
is_booking (events.Waive client) = true
is_booking (events.Quit client) = true
is_booking (events.Stand client charge name) = true
is_booking other = false

module _ {T A : Type 0} (table : RuleTable T A) where
  -- The seat did these, one after the other, and no other event.
  abbrev pub Does : List Done → (old new : SeatOf T) → Type 0
  Does [] old new = new ≡ old
  Does (done ∷ rest) old new = (mid : SeatOf T) × IsEvent table done old mid × Does rest mid new

  -- All that the seat did was to search.
  pub record Seeks (old new : SeatOf T) : Type 0 where
    pub own : List Done
    pub does : Does own old new
    pub only : Each (λ (done : Done). is_seeking done.event ≡ true) own

  -- What the seat knows goes on, and it names whom it named. In that each step of a client that it
  -- names is such an event; in a shard of one client there are no others.
  pub record GoesOnBy (kind : Event → Bool) (old new : SeatOf T) : Type 0 where
    pub more : List Done
    pub goes_on : past new ≡ past old ++ more
    pub own : (c : ℕ) → 1 ≤ names c (view old)
        → Each (λ (done : Done). IsStepBy c done.event → kind done.event ≡ true) more
    pub named : (c : ℕ) → names c (view new) ≡ names c (view old)
    pub alone : clients_of table ≡ 1 → Each (λ (done : Done). kind done.event ≡ true) more

  -- What frees a slot that the client took: the trail is taken back, and then the slot is emptied.
  abbrev pub Empties : (client : ℕ) → (old new : SeatOf T) → Type 0
  Empties client old new =
      (mid : SeatOf T) × GoesOnBy is_unpass old mid
      × IsEvent table (did (events.Empty client) replies.Ok) mid new

  -- The words of an entry were written into the slot that the client builds, and then it was shown.
  abbrev pub Builds : (countdown : ℕ) → Option ℕ → Made → (old new : SeatOf T) → Type 0
  Builds countdown name made old new =
      (wrote : SeatOf T) × GoesOnBy is_write old wrote
      × ((view wrote).client ≡ (view old).client)
      × IsEvent table (show_done countdown name made (view wrote)) wrote new

  -- References of this weight were acquired, which found this word. Behind it came the try to
  -- correct both counters, or nothing.
  pub record ReachesBy (slot weight name word : ℕ) (old new : SeatOf T) : Type 0 where
    pub mid : SeatOf T
    pub adds : IsEvent table (acquire_done slot weight name word (view old)) old mid
    pub kept : (view new).records ≡ (view mid).records
    pub tries : (new ≡ mid) ⊎ ((other : ℕ)
        × IsEvent table (correct_done slot name (acquired weight word) other (view mid)) mid new)
