-- Options as they stand on the line of `run`.
use Rattle.std.specs.Prelude.{◌≡◌, ◌++◌, Bool, true, false, List, [], ◌∷◌, Some, None, codes}
use Rattle.std.specs.Prelude.{if◌then◌else◌}
use Rattle.std.specs.Str.{bytes_eq}
use Rattle.clap.specs.Lexer.{strip_byte}
use Rattle.clap.specs.Words.{Row, Text, one_of}
use Rattle.hcc_cache.specs.declared.config.Config.{Config}
use Rattle.hcc_play.specs.Parsed.{Used}
use Rattle.hcc_play.specs.Values.{number_of}
use Rattle.hcc_play.specs.declared.request.Request.{Request}
use Rattle.hcc_play.specs.declared.request.Request.TheVariants as asks

-- what says the size of a cache: numbers, and two flags
pub data Size : Type 0 where
  Slots : Size
  Room : Size
  Clients : Size
  Handles : Size
  Shards : Size
  Capacity : Size
  Serials : Size
  Seed : Size
  Strict : Size
  Marks : Size

abbrev pub name_of : Size → Text
name_of Slots = codes "slots"
name_of Room = codes "room"
name_of Clients = codes "clients"
name_of Handles = codes "handles"
name_of Shards = codes "shards"
name_of Capacity = codes "capacity"
name_of Serials = codes "serials"
name_of Seed = codes "seed"
name_of Strict = codes "strict"
name_of Marks = codes "marks"

abbrev pub default_of : Size → Text
default_of Slots = codes "8"
default_of Room = codes "2"
default_of Clients = codes "1"
default_of Handles = codes "8"
default_of Shards = codes "1"
default_of Capacity = codes "600"
default_of Serials = codes "18014398509481984"
default_of Seed = codes "0"
default_of _ = codes "false"

abbrev pub is_flag : Size → Bool
is_flag Strict = true
is_flag Marks = true
is_flag _ = false

-- a use of an option: `--name=text`, `--name text`, or a flag
pub data Use : Type 0 where
  joined : Size → Text → Use
  apart : Size → Text → Use
  alone : Size → Use

abbrev pub words_of : Use → List Text
words_of (joined size text) = (codes "--" ++ name_of size ++ codes "=" ++ text) ∷ []
words_of (apart size text) = (codes "--" ++ name_of size) ∷ text ∷ []
words_of (alone size) = (codes "--" ++ name_of size) ∷ []

abbrev pub words_in : List Use → List Text
words_in [] = []
words_in (u ∷ uses) = words_of u ++ words_in uses

-- a number has a text that no hyphen begins
abbrev pub IsUse : Use → Type 0
IsUse (joined size text) = (is_flag size ≡ false) × (strip_byte 45 text ≡ None)
IsUse (apart size text) = (is_flag size ≡ false) × (strip_byte 45 text ≡ None)
IsUse (alone size) = is_flag size ≡ true

abbrev pub AreUses : List Use → Type 0
AreUses [] = Unit {0}
AreUses (u ∷ uses) = IsUse u × AreUses uses

abbrev pub size_of : Use → Size
size_of (joined size text) = size
size_of (apart size text) = size
size_of (alone size) = size

abbrev pub text_of : Use → Text
text_of (joined size text) = text
text_of (apart size text) = text
text_of (alone size) = codes "true"

-- The text that stands last for an option, or the one before the uses.
abbrev pub last_text : Size → Text → List Use → Text
last_text size before [] = before
last_text size before (u ∷ uses) = last_text size
    (if bytes_eq (name_of (size_of u)) (name_of size) then text_of u else before) uses

-- the text that stands last for an option, or else its default
abbrev pub text_for : Size → List Use → Text
text_for size uses = last_text size (default_of size) uses

-- A subcommand `run` was used, with these texts of its options.
abbrev pub HasUses : Used → List Use → Type 0
HasUses used uses = (rows : List Row) × (used ≡ Some (codes "run", rows))
    × ((size : Size) → one_of (name_of size) rows ≡ Some (text_for size uses))

-- each number of the cache's sizes is the one that stands last on the line, or else its default
pub record IsConfigOf (uses : List Use) (config : Config) : Type 0 where
  pub slots : number_of 32 (text_for Slots uses) ≡ Some config.slots
  pub room : number_of 32 (text_for Room uses) ≡ Some config.room
  pub clients : number_of 32 (text_for Clients uses) ≡ Some config.clients
  pub handles : number_of 32 (text_for Handles uses) ≡ Some config.handles
  pub shards : number_of 32 (text_for Shards uses) ≡ Some config.shards
  pub capacity : number_of 64 (text_for Capacity uses) ≡ Some config.capacity
  pub strict : config.strict ≡ bytes_eq (text_for Strict uses) (codes "true")
  pub marks : config.marks ≡ bytes_eq (text_for Marks uses) (codes "true")
  pub serials : number_of 64 (text_for Serials uses) ≡ Some config.serials
  pub seed : number_of 64 (text_for Seed uses) ≡ Some config.seed

-- What `run` with these options asks for: a trace of calls on such a cache, or no more.
abbrev pub RunsAs : List Use → Request → Type 0
RunsAs uses (asks.Core setup) = ⊥
RunsAs uses (asks.Run config) = IsConfigOf uses config
RunsAs uses (asks.Blocks options paths) = ⊥
RunsAs uses (asks.Nothing status) = Unit {0}
