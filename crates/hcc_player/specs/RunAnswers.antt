-- What the lines of a trace of calls are answered: which answers are right, and their texts.
use Rattle.std.specs.Prelude.{◌≡◌, ℕ, List, [], ◌∷◌, ◌++◌, Some, Result, Ok, Err}
use Rattle.std.specs.Prelude.{true, false, codes, decimal, slice_get}
use Rattle.std.specs.Int.{to_be_bytes}
use Rattle.std.specs.List.{flat_map}
use mir.Syntax.{w64}
use Rattle.hcc_rule.specs.declared.key.Key.{Key}
use Rattle.hcc_cache.specs.declared.errors.InsertError.{InsertError}
use Rattle.hcc_cache.specs.declared.errors.InsertError.TheVariants as errors
use Rattle.hcc_cache.specs.declared.errors.LookupError.{LookupError}
use Rattle.hcc_cache.specs.declared.errors.LookupError.TheVariants as lookups
use Rattle.hcc_cache.specs.declared.inserting.Inserted.{Inserted}
use Rattle.hcc_cache.specs.declared.inserting.Inserted.TheVariants as inserted
use Rattle.hcc_cache.specs.declared.config.Config.{Config}
use Rattle.hcc_cache.specs.Clients.{Insertion}
use Rattle.hcc_shard.specs.declared.seat.Stats.{Stats}
use Rattle.hcc_player.specs.declared.run.answer.Answer.{Answer}
use Rattle.hcc_player.specs.declared.run.answer.Answer.TheVariants as answers
use Rattle.hcc_player.specs.declared.run.call.Call.{Call}
use Rattle.hcc_player.specs.declared.run.call.Call.TheVariants as calls
use Rattle.hcc_player.specs.declared.run.call.RunLine.{RunLine}
use Rattle.hcc_player.specs.declared.sums.Sums.{Sums}
use Rattle.hcc_player.specs.Report.{sums_text}
use Rattle.hcc_player.specs.RunStates.{CoversEntries, CoversHeld, IsEmpty, IsFull, IsPinned}
use Rattle.hcc_player.specs.RunStates.{IsRefused, MayHold, MayInsert, RefusesInsert, RefusesPin}
use Rattle.hcc_player.specs.RunStates.{State, States, new_states, with_emptied, with_filled}
use Rattle.hcc_player.specs.RunStates.{with_serial, with_state}
use Rattle.hcc_player.specs.Text.{byte_text, value_text}

-- Which answers are right.

-- Of a relation of the keys and the values that the trace inserts under them, and its options.
module _ (Puts : Key → List ℕ → Type 0) (config : Config) where
  -- The answers that a call may have where its client stands so, and how it stands then. `busy`
  -- comes exactly where the register to be filled is full, and else `none` exactly where the
  -- register to be read is empty. Refusals that change nothing come exactly where they are due. A
  -- register is filled with its own line's insertion, with what another register holds, or by a
  -- hit: that is on one insertion of the key, of a value that the trace inserts under it, with an
  -- entry of the table. A value is that of the insertion that the register holds. The totals are at
  -- least what the registers hold: the occupancy, their entries of the table.
  unfoldable pub IsRight : State → Call → Answer → State → Type 0
  IsRight s (calls.Insert key charge priority value) answers.Placed new =
      MayInsert config s charge × (new ≡ with_serial s)
  IsRight s (calls.Insert key charge priority value) answers.Dropped new =
      MayInsert config s charge × (new ≡ with_serial s)
  IsRight s (calls.Insert key charge priority value) (answers.Refused error) new =
      RefusesInsert config charge error s new
  IsRight s (calls.Pin register key charge priority value) answers.Busy new =
      IsFull s register × (new ≡ s)
  IsRight s (calls.Pin register key charge priority value) answers.Placed new =
      IsEmpty s register × IsPinned config s register
      (record { key = key; value = value; charge = charge }) false new
  IsRight s (calls.Pin register key charge priority value) answers.Standalone new =
      IsEmpty s register × IsPinned config s register
      (record { key = key; value = value; charge = charge }) true new
  IsRight s (calls.Pin register key charge priority value) (answers.Refused error) new =
      IsEmpty s register × RefusesPin config charge error s new
  IsRight s (calls.Lookup register key) answers.Busy new = IsFull s register × (new ≡ s)
  IsRight s (calls.Lookup register key) answers.Hit new =
      IsEmpty s register × MayHold config s
      × ((held : Insertion) × (held.key ≡ key) × Puts key held.value
      × (new ≡ with_filled s register held false))
  IsRight s (calls.Lookup register key) answers.Miss new =
      IsEmpty s register × MayHold config s × (new ≡ s)
  IsRight s (calls.Lookup register key) (answers.Refused error) new =
      IsEmpty s register × IsRefused config error s × (new ≡ s)
  IsRight s (calls.Reref register from) answers.Busy new = IsFull s register × (new ≡ s)
  IsRight s (calls.Reref register from) answers.Nothing new =
      IsEmpty s register × IsEmpty s from × (new ≡ s)
  IsRight s (calls.Reref register from) answers.Held new =
      IsEmpty s register × MayHold config s
      × ((held : Insertion) × (s.registers from ≡ Some held)
      × (new ≡ with_filled s register held (s.alone from)))
  IsRight s (calls.Reref register from) (answers.Refused error) new =
      IsEmpty s register × IsFull s from × IsRefused config error s × (new ≡ s)
  IsRight s (calls.Release register useful erase) answers.Freed new =
      IsFull s register × (new ≡ with_emptied s register)
  IsRight s (calls.Release register useful erase) answers.Kept new =
      IsFull s register × (new ≡ with_emptied s register)
  IsRight s (calls.Release register useful erase) answers.Nothing new =
      IsEmpty s register × (new ≡ s)
  IsRight s (calls.Value register) (answers.Value value) new =
      ((held : Insertion) × (s.registers register ≡ Some held) × (value ≡ held.value))
      × (new ≡ s)
  IsRight s (calls.Value register) answers.Nothing new = IsEmpty s register × (new ≡ s)
  IsRight s (calls.Erase key) (answers.Erased count) new = new ≡ s
  IsRight s calls.Totals (answers.Totals usage pinned occupancy) new =
      CoversHeld s usage × CoversHeld s pinned × CoversEntries s occupancy × (new ≡ s)
  IsRight s (calls.Word shard slot) (answers.Word word displaced) new = new ≡ s
  IsRight s calls.Stats (answers.Stats stats) new = new ≡ s
  IsRight s call answer new = ⊥

  -- Answers to lines: one for each, and each of them right where the clients stand as the lines
  -- before it left them.
  abbrev pub AreRight : States → List RunLine → List Answer → States → Type 0
  AreRight old [] [] new = new ≡ old
  AreRight old [] (answer ∷ told) new = ⊥
  AreRight old (line ∷ lines) [] new = ⊥
  AreRight old (line ∷ lines) (answer ∷ told) new =
      (next : State) × IsRight (old line.client) line.call answer next
      × AreRight (with_state old line.client next) lines told new

-- what an insertion is answered that was not refused
abbrev pub placed_answer : Inserted → Answer
placed_answer inserted.Placed = answers.Placed
placed_answer inserted.Dropped = answers.Dropped
placed_answer inserted.Standalone = answers.Standalone

abbrev pub insert_answer : Result Inserted InsertError → Answer
insert_answer (Ok told) = placed_answer told
insert_answer (Err error) = answers.Refused error

-- why a handle isn't given, as insertions tell it
abbrev pub refusal_of : LookupError → InsertError
refusal_of lookups.HandlesFull = errors.HandlesFull
refusal_of lookups.Spent = errors.Spent

-- What a trace inserts.

-- a call inserts this value under this key
abbrev pub PutsIn : Call → Key → List ℕ → Type 0
PutsIn (calls.Insert k charge priority v) key value = (k ≡ key) × (v ≡ value)
PutsIn (calls.Pin register k charge priority v) key value = (k ≡ key) × (v ≡ value)
PutsIn call key value = ⊥

-- Some line of the trace inserts this value under this key.
pub record Inserts (lines : List RunLine) (key : Key) (value : List ℕ) : Type 0 where
  pub place : ℕ
  pub line : RunLine
  pub here : slice_get lines place ≡ Some line
  pub puts : PutsIn line.call key value

-- Texts.

unfoldable pub error_text : InsertError → List ℕ
error_text errors.HandlesFull = codes "refused HandlesFull"
error_text errors.Spent = codes "refused Spent"
error_text errors.TooLarge = codes "refused TooLarge"
error_text errors.CapacityFull = codes "refused CapacityFull"
error_text errors.OccupancyFull = codes "refused OccupancyFull"

-- a word as 16 hexadecimal digits, the highest first
abbrev pub word_text : ℕ → List ℕ
word_text word = flat_map byte_text (to_be_bytes w64 word)

-- a name, and a number
abbrev pub named : List ℕ → ℕ → List ℕ
named name number = name ++ decimal number

unfoldable pub totals_answer : (usage pinned occupancy : ℕ) → List ℕ
totals_answer usage pinned occupancy =
    named (codes "usage ") usage ++ named (codes " pinned ") pinned
    ++ named (codes " occupancy ") occupancy

unfoldable pub word_answer : (word displaced : ℕ) → List ℕ
word_answer word displaced =
    codes "word " ++ word_text word ++ named (codes " displaced ") displaced

unfoldable pub searches_text : Stats → List ℕ
searches_text s =
    named (codes "stats probes ") s.probes ++ named (codes " boosts ") s.boosts
    ++ named (codes " evicted ") s.evicted

unfoldable pub freed_text : Stats → List ℕ
freed_text s =
    named (codes " hit ") s.evicted_hit ++ named (codes " freed ") s.freed
    ++ named (codes " turns ") s.turns

unfoldable pub tries_text : Stats → List ℕ
tries_text s = named (codes " corrections ") s.corrections ++ named (codes " lost ") s.lost

abbrev pub stats_text : Stats → List ℕ
stats_text s = searches_text s ++ freed_text s ++ tries_text s

-- an answer's line, without its line feed
unfoldable pub answer_text : Answer → List ℕ
answer_text answers.Placed = codes "placed"
answer_text answers.Dropped = codes "dropped"
answer_text answers.Standalone = codes "standalone"
answer_text (answers.Refused error) = error_text error
answer_text answers.Busy = codes "busy"
answer_text answers.Hit = codes "hit"
answer_text answers.Miss = codes "miss"
answer_text answers.Held = codes "held"
answer_text answers.Freed = codes "freed"
answer_text answers.Kept = codes "kept"
answer_text answers.Nothing = codes "none"
answer_text (answers.Value value) = codes "value " ++ value_text value
answer_text (answers.Erased count) = codes "erased " ++ decimal count
answer_text (answers.Totals usage pinned occupancy) = totals_answer usage pinned occupancy
answer_text (answers.Word word displaced) = word_answer word displaced
answer_text (answers.Stats stats) = stats_text stats

-- an answer's line
abbrev pub answer_line : Answer → List ℕ
answer_line answer = answer_text answer ++ codes "\n"

abbrev pub answers_text : List Answer → List ℕ
answers_text [] = []
answers_text (answer ∷ told) = answer_line answer ++ answers_text told

-- The text of a play of these lines: an answer's line for each, and then the sums, which agree.
pub record IsPlayed (config : Config) (lines : List RunLine) (text : List ℕ) : Type 0 where
  pub told : List Answer
  pub last : States
  pub right : AreRight (Inserts lines) config new_states lines told last
  pub sums : Sums
  pub charged : sums.charges ≡ sums.usage
  pub occupies : sums.slots ≡ sums.occupied
  pub is : text ≡ answers_text told ++ sums_text sums
