-- Lines of scripts: the words of one event.
use Rattle.std.specs.Prelude.{ℕ, List, Option, Some, None, Result, Ok, Err, codes, if◌then◌else◌}
use Rattle.std.specs.Str.{bytes_eq}
use Rattle.hcc_core.specs.declared.event.Event.{Event}
use Rattle.hcc_core.specs.declared.event.Event.TheVariants as events
use Rattle.hcc_player.specs.declared.fault.TextFault.{TextFault}
use Rattle.hcc_player.specs.declared.fault.TextFault.TheVariants.{BadWord}
use Rattle.hcc_player.specs.Number.{◌>>=◌, number_of, small_number_of, charge_of, name_of}
use Rattle.hcc_player.specs.declared.limits.TheConstants.{MOST_VALUE}
use Rattle.hcc_player.specs.Value.{value_of}
use Rattle.hcc_player.specs.Words.{word_at, of_words, line_of}

-- Most events have one of three forms: a client; a client and a slot; a client and a name. Their
-- words are looked at one after another.

unfoldable pub client_in : List (List ℕ) → Result ℕ TextFault
client_in words = of_words 2 words (small_number_of (word_at words 1))

unfoldable pub client_and_slot : List (List ℕ) → Result (ℕ × ℕ) TextFault
client_and_slot words = of_words 3 words (do
  client ← small_number_of (word_at words 1)
  slot ← small_number_of (word_at words 2)
  Ok (client, slot))

unfoldable pub client_and_name : List (List ℕ) → Result (ℕ × ℕ) TextFault
client_and_name words = of_words 3 words (do
  client ← small_number_of (word_at words 1)
  name ← number_of (word_at words 2)
  Ok (client, name))

-- The other events have their words in this order, behind their verbs.

unfoldable pub acquire_line : List (List ℕ) → Result Event TextFault
acquire_line words = of_words 5 words (do
  client ← small_number_of (word_at words 1)
  slot ← small_number_of (word_at words 2)
  weight ← number_of (word_at words 3)
  name ← number_of (word_at words 4)
  Ok (events.Acquire client slot weight name))

unfoldable pub free_line : List (List ℕ) → Result Event TextFault
free_line words = of_words 4 words (do
  client ← small_number_of (word_at words 1)
  slot ← small_number_of (word_at words 2)
  name ← name_of (word_at words 3)
  Ok (events.Free client slot name))

unfoldable pub charge_line : List (List ℕ) → Result Event TextFault
charge_line words = of_words 3 words (do
  client ← small_number_of (word_at words 1)
  charge ← charge_of (word_at words 2)
  Ok (events.Charge client charge))

unfoldable pub stand_line : List (List ℕ) → Result Event TextFault
stand_line words = of_words 4 words (do
  client ← small_number_of (word_at words 1)
  charge ← charge_of (word_at words 2)
  name ← number_of (word_at words 3)
  Ok (events.Stand client charge name))

unfoldable pub show_line : List (List ℕ) → Result Event TextFault
show_line words = of_words 8 words (do
  client ← small_number_of (word_at words 1)
  key0 ← number_of (word_at words 2)
  key1 ← number_of (word_at words 3)
  charge ← charge_of (word_at words 4)
  countdown ← number_of (word_at words 5)
  name ← name_of (word_at words 6)
  value ← value_of MOST_VALUE (word_at words 7)
  Ok (events.Show client key0 key1 charge countdown name value))

-- What stands behind the verbs of these three forms.

abbrev pub of_client : (ℕ → Event) → List (List ℕ) → Result (Option Event) TextFault
of_client make words = client_in words >>= λ client. Ok (Some (make client))

abbrev pub of_slot : (ℕ → ℕ → Event) → List (List ℕ) → Result (Option Event) TextFault
of_slot make words = client_and_slot words >>= λ it. Ok (Some (make it.0 it.1))

abbrev pub of_name : (ℕ → ℕ → Event) → List (List ℕ) → Result (Option Event) TextFault
of_name make words = client_and_name words >>= λ it. Ok (Some (make it.0 it.1))

-- and of a form of its own
abbrev pub of_line : Result Event TextFault → Result (Option Event) TextFault
of_line read = read >>= λ event. Ok (Some event)

-- The verbs, by subject: each group knows its own.

unfoldable pub reference_event : List ℕ → List (List ℕ) → Result (Option Event) TextFault
reference_event verb words =
    if bytes_eq verb (codes "start") then of_client events.Start words
    else if bytes_eq verb (codes "end") then of_client events.End words
    else if bytes_eq verb (codes "look") then of_slot events.Look words
    else if bytes_eq verb (codes "acquire") then of_line (acquire_line words)
    else if bytes_eq verb (codes "give") then of_name events.Give words
    else if bytes_eq verb (codes "use") then of_name events.Use words
    else Ok None

unfoldable pub use_event : List ℕ → List (List ℕ) → Result (Option Event) TextFault
use_event verb words =
    if bytes_eq verb (codes "clock") then of_slot events.Clock words
    else if bytes_eq verb (codes "mark") then of_name events.Mark words
    else if bytes_eq verb (codes "correct") then of_name events.Correct words
    else Ok None

unfoldable pub entry_event : List ℕ → List (List ℕ) → Result (Option Event) TextFault
entry_event verb words =
    if bytes_eq verb (codes "occupy") then of_slot events.Occupy words
    else if bytes_eq verb (codes "write") then of_client events.Write words
    else if bytes_eq verb (codes "peek") then of_slot events.Peek words
    else if bytes_eq verb (codes "read") then of_name events.Read words
    else if bytes_eq verb (codes "hide") then of_name events.Hide words
    else if bytes_eq verb (codes "free") then of_line (free_line words)
    else if bytes_eq verb (codes "empty") then of_client events.Empty words
    else Ok None

unfoldable pub place_event : List ℕ → List (List ℕ) → Result (Option Event) TextFault
place_event verb words =
    if bytes_eq verb (codes "enter") then of_client events.Enter words
    else if bytes_eq verb (codes "slots") then of_client events.Slots words
    else if bytes_eq verb (codes "quit") then of_client events.Quit words
    else if bytes_eq verb (codes "occupancy") then of_client events.Occupancy words
    else Ok None

unfoldable pub charge_event : List ℕ → List (List ℕ) → Result (Option Event) TextFault
charge_event verb words =
    if bytes_eq verb (codes "charge") then of_line (charge_line words)
    else if bytes_eq verb (codes "settle") then of_client events.Settle words
    else if bytes_eq verb (codes "waive") then of_client events.Waive words
    else if bytes_eq verb (codes "usage") then of_client events.Usage words
    else if bytes_eq verb (codes "stand") then of_line (stand_line words)
    else if bytes_eq verb (codes "fall") then of_name events.Fall words
    else if bytes_eq verb (codes "standing") then of_client events.Standing words
    else Ok None

unfoldable pub trail_event : List ℕ → List (List ℕ) → Result (Option Event) TextFault
trail_event verb words =
    if bytes_eq verb (codes "count") then of_slot events.Count words
    else if bytes_eq verb (codes "pass") then of_slot events.Pass words
    else if bytes_eq verb (codes "unpass") then of_slot events.Unpass words
    else if bytes_eq verb (codes "turn") then of_client events.Turn words
    else Ok None

-- the event that the first list knows, or else the other
infixr 9 ◌<|>◌
abbrev pub ◌<|>◌ : Result (Option Event) TextFault → Result (Option Event) TextFault
    → Result (Option Event) TextFault
(Ok None) <|> other = other
(Ok (Some event)) <|> other = Ok (Some event)
(Err fault) <|> other = Err fault

-- the event of a verb but `show`, if any group knows it
unfoldable pub known_event : List ℕ → List (List ℕ) → Result (Option Event) TextFault
known_event verb words =
    reference_event verb words <|> use_event verb words <|> entry_event verb words
    <|> place_event verb words <|> charge_event verb words <|> trail_event verb words

-- a verb that no group knows is at fault
abbrev pub if_known : Option Event → Result Event TextFault
if_known None = Err BadWord
if_known (Some event) = Ok event

-- the event of a line that begins with this word
unfoldable pub event_of : List ℕ → List (List ℕ) → Result Event TextFault
event_of verb words =
    if bytes_eq verb (codes "show") then show_line words
    else (known_event verb words >>= λ known. if_known known)

-- the event of a line that a line feed ends
unfoldable pub line_event : List ℕ → Result Event TextFault
line_event = line_of (λ words. event_of (word_at words 0) words)
