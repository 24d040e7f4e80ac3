-- The grammar of traces of calls: `client letter words`.
use Rattle.std.specs.Prelude.{ℕ, ◌+◌, ◌*◌, ◌<◌, ◌≤◌, Bool, true, false, List, Result, Ok, Err}
use Rattle.std.specs.Prelude.{codes, length, nat_lt, if◌then◌else◌}
use Rattle.std.specs.Str.{bytes_eq}
use Rattle.hcc_rule.specs.declared.key.Key.{Key}
use Rattle.hcc_cache.specs.declared.config.Config.{Config}
use Rattle.hcc_cache.specs.declared.priority.Priority.{Priority}
use Rattle.hcc_cache.specs.declared.priority.Priority.TheVariants.{High, Low, Bottom}
use Rattle.hcc_player.specs.declared.limits.TheConstants.{MOST_REGISTERS}
use Rattle.hcc_player.specs.declared.fault.TextFault.{TextFault}
use Rattle.hcc_player.specs.declared.fault.TextFault.TheVariants.{BadWord, BadChoice}
use Rattle.hcc_player.specs.declared.run.call.Call.{Call}
use Rattle.hcc_player.specs.declared.run.call.Call.TheVariants as calls
use Rattle.hcc_player.specs.declared.run.call.RunLine.{RunLine}
use Rattle.hcc_player.specs.Number.{◌>>=◌, number_of, number_below, charge_of}
use Rattle.hcc_player.specs.Value.{value_of}
use Rattle.hcc_player.specs.Words.{word_at, of_words, line_of}

-- one of two words: whether it is the first
unfoldable pub choice_of : (first second word : List ℕ) → Result Bool TextFault
choice_of first second word =
    if bytes_eq word first then Ok true
    else if bytes_eq word second then Ok false
    else Err BadChoice

unfoldable pub priority_of : List ℕ → Result Priority TextFault
priority_of word =
    if bytes_eq word (codes "H") then Ok High
    else if bytes_eq word (codes "L") then Ok Low
    else if bytes_eq word (codes "B") then Ok Bottom
    else Err BadChoice

-- two words that are a key
unfoldable pub key_at : List (List ℕ) → ℕ → Result Key TextFault
key_at words index = do
  first ← number_of (word_at words index)
  second ← number_of (word_at words (index + 1))
  Ok (record { w0 = first; w1 = second })

unfoldable pub register_at : List (List ℕ) → ℕ → Result ℕ TextFault
register_at words index = number_below MOST_REGISTERS (word_at words index)

-- Each letter has its words in this order. They are counted before any of them is looked at.
module _ (config : Config) where
  unfoldable pub insert_line : List (List ℕ) → Result RunLine TextFault
  insert_line words = of_words 7 words (do
    client ← number_below config.clients (word_at words 0)
    key ← key_at words 2
    charge ← charge_of (word_at words 4)
    priority ← priority_of (word_at words 5)
    value ← value_of (8 * config.room) (word_at words 6)
    Ok (record { client = client; call = calls.Insert key charge priority value }))

  unfoldable pub pin_line : List (List ℕ) → Result RunLine TextFault
  pin_line words = of_words 8 words (do
    client ← number_below config.clients (word_at words 0)
    register ← register_at words 2
    key ← key_at words 3
    charge ← charge_of (word_at words 5)
    priority ← priority_of (word_at words 6)
    value ← value_of (8 * config.room) (word_at words 7)
    Ok (record { client = client; call = calls.Pin register key charge priority value }))

  unfoldable pub lookup_line : List (List ℕ) → Result RunLine TextFault
  lookup_line words = of_words 5 words (do
    client ← number_below config.clients (word_at words 0)
    register ← register_at words 2
    key ← key_at words 3
    Ok (record { client = client; call = calls.Lookup register key }))

  unfoldable pub reref_line : List (List ℕ) → Result RunLine TextFault
  reref_line words = of_words 4 words (do
    client ← number_below config.clients (word_at words 0)
    register ← register_at words 2
    from ← register_at words 3
    Ok (record { client = client; call = calls.Reref register from }))

  unfoldable pub release_line : List (List ℕ) → Result RunLine TextFault
  release_line words = of_words 5 words (do
    client ← number_below config.clients (word_at words 0)
    register ← register_at words 2
    useful ← choice_of (codes "U") (codes "N") (word_at words 3)
    erase ← choice_of (codes "E") (codes "K") (word_at words 4)
    Ok (record { client = client; call = calls.Release register useful erase }))

  unfoldable pub value_line : List (List ℕ) → Result RunLine TextFault
  value_line words = of_words 3 words (do
    client ← number_below config.clients (word_at words 0)
    register ← register_at words 2
    Ok (record { client = client; call = calls.Value register }))

  unfoldable pub erase_line : List (List ℕ) → Result RunLine TextFault
  erase_line words = of_words 4 words (do
    client ← number_below config.clients (word_at words 0)
    key ← key_at words 2
    Ok (record { client = client; call = calls.Erase key }))

  unfoldable pub totals_line : List (List ℕ) → Result RunLine TextFault
  totals_line words = of_words 2 words (do
    client ← number_below config.clients (word_at words 0)
    Ok (record { client = client; call = calls.Totals }))

  unfoldable pub word_line : List (List ℕ) → Result RunLine TextFault
  word_line words = of_words 4 words (do
    client ← number_below config.clients (word_at words 0)
    shard ← number_below config.shards (word_at words 2)
    slot ← number_below config.slots (word_at words 3)
    Ok (record { client = client; call = calls.Word shard slot }))

  unfoldable pub stats_line : List (List ℕ) → Result RunLine TextFault
  stats_line words = of_words 2 words (do
    client ← number_below config.clients (word_at words 0)
    Ok (record { client = client; call = calls.Stats }))

  -- by the letter: of what registers hold
  unfoldable pub held_line : List ℕ → List (List ℕ) → Result RunLine TextFault
  held_line letter words =
      if bytes_eq letter (codes "G") then lookup_line words
      else if bytes_eq letter (codes "F") then reref_line words
      else if bytes_eq letter (codes "R") then release_line words
      else if bytes_eq letter (codes "V") then value_line words
      else Err BadWord

  -- of all that has no value
  unfoldable pub known_line : List ℕ → List (List ℕ) → Result RunLine TextFault
  known_line letter words =
      if bytes_eq letter (codes "E") then erase_line words
      else if bytes_eq letter (codes "U") then totals_line words
      else if bytes_eq letter (codes "W") then word_line words
      else if bytes_eq letter (codes "S") then stats_line words
      else held_line letter words

  -- what a line's words say; a line of one word has no letter
  unfoldable pub run_words : List (List ℕ) → Result RunLine TextFault
  run_words words =
      if nat_lt (length words) 2 then Err BadWord
      else if bytes_eq (word_at words 1) (codes "I") then insert_line words
      else if bytes_eq (word_at words 1) (codes "P") then pin_line words
      else known_line (word_at words 1) words

  -- what a line says that a line feed ends
  unfoldable pub run_line : List ℕ → Result RunLine TextFault
  run_line = line_of run_words

-- What holds of each line: its numbers are in their ranges, and a value has room.
module _ (room shards slots : ℕ) where
  abbrev pub IsSoundCall : Call → Type 0
  IsSoundCall (calls.Insert key charge priority value) = (0 < charge) × (length value ≤ 8 * room)
  IsSoundCall (calls.Pin register key charge priority value) =
      (0 < charge) × (length value ≤ 8 * room)
  IsSoundCall (calls.Word shard slot) = (shard < shards) × (slot < slots)
  IsSoundCall other = Unit {0}

abbrev pub IsSound : Config → RunLine → Type 0
IsSound config line = (line.client < config.clients)
    × IsSoundCall config.room config.shards config.slots line.call
