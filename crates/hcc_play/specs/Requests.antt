-- What the words of the command line ask for.
use Rattle.std.specs.Prelude.{◌≡◌, ◌≢◌, ◌⊎◌, ◌^◌, ◌<◌, ◌≤◌, List, [], Option, Some, None, Result, Ok, Err}
use Rattle.std.specs.Prelude.{IfErr, IsSomeAnd, codes, false, length, map}
use Rattle.std.specs.declared.alloc.AllocError.{AllocError}
use Rattle.clap.specs.Words.{IsAmong, Row, Text}
use Rattle.clap.specs.declared.error.kind.ErrorKind.{ErrorKind}
use Rattle.clap.specs.declared.error.kind.ErrorKind.TheVariants.{DisplayHelp, DisplayVersion}
use Rattle.clap.specs.declared.error.kind.ErrorKind.TheVariants.{OutOfMemory}
use Rattle.hcc_core.specs.Opening.{CanOpen}
use Rattle.hcc_core.specs.declared.setup.Setup.{Setup}
use Rattle.hcc_player.specs.Options.{config_check, options_check}
use Rattle.hcc_play.specs.Parsed.{Used, faults_of, used_by}
use Rattle.hcc_play.specs.Settings.{CanPlay, GivesConfig, GivesOptions, GivesSetup}
use Rattle.hcc_play.specs.Values.{texts_in}
use Rattle.hcc_play.specs.declared.request.Request.{Request}
use Rattle.hcc_play.specs.declared.request.Request.TheVariants as asks
use Rattle.hcc_play.specs.declared.status.Status.{Status}
use Rattle.hcc_play.specs.declared.status.Status.TheVariants.{Done, Refused, Failed, BadOptions, NoMemory}

-- a world that is asked for can be opened
abbrev pub IsOpen : Request → Type 0
IsOpen (asks.Core setup) = CanOpen setup
IsOpen other = Unit {0}

-- the setup where no word is given
abbrev pub default_setup : Setup
default_setup = record { slots = 2; clients = 2; capacity = 600; strict = false }

-- the subcommand of this name, with these values of its options, asks for this
abbrev pub AsksFor : (name : Text) → List Row → Request → Type 0
AsksFor name rows (asks.Core setup) =
    (name ≡ codes "core") × GivesSetup rows setup × CanPlay setup
AsksFor name rows (asks.Run config) = (name ≡ codes "run") × GivesConfig rows config
AsksFor name rows (asks.Blocks options paths) = (name ≡ codes "blocks")
    × GivesOptions rows options
    × (map (λ path. path.now) paths.items ≡ texts_in (codes "FILE") rows)
AsksFor name rows (asks.Nothing status) = ⊥

-- the subcommand that was used asks for this
abbrev pub IsAskedBy : Used → Request → Type 0
IsAskedBy used request = IsSomeAnd used (λ one. AsksFor one.0 one.1 request)

-- the words ask for help or the version
abbrev pub WantsText : List Text → Type 0
WantsText words = IsAmong DisplayHelp (faults_of words) ⊎ IsAmong DisplayVersion (faults_of words)

-- something is wrong with the words
abbrev pub IsWrong : List Text → Type 0
IsWrong words = (kind : ErrorKind) × IsAmong kind (faults_of words) × (kind ≢ DisplayHelp)
    × (kind ≢ DisplayVersion)

-- they are taken, but ask for nothing: a number isn't in its range
abbrev pub AskNothing : List Text → Type 0
AskNothing words =
    (faults_of words ≡ []) × ((request : Request) → IsAskedBy (used_by words) request → ⊥)

-- why words are not played, by the status
abbrev pub Declines : List Text → Status → Type 0
Declines words Done = WantsText words
Declines words Refused = IsWrong words ⊎ AskNothing words
Declines words Failed = WantsText words
Declines words BadOptions = ⊥
Declines words NoMemory = Unit {0}

-- With no word behind the program's name it is `core` with the defaults. Else it is what the
-- subcommand asks for, where the words are taken; or no more than a status.
abbrev pub IsAsked : List Text → Request → Type 0
IsAsked words (asks.Nothing status) = (1 < length words) × Declines words status
IsAsked words request = ((length words ≤ 1) × (request ≡ asks.Core default_setup))
    ⊎ ((1 < length words) × (faults_of words ≡ []) × IsAskedBy (used_by words) request)

-- what is asked for, where that was found
abbrev pub request_of : Result (Option Request) AllocError → Request
request_of (Ok (Some request)) = request
request_of (Ok None) = asks.Nothing Refused
request_of (Err error) = asks.Nothing NoMemory

-- the status that a parse ends with which failed by this kind
abbrev pub EndsBy : ErrorKind → Status → Type 0
EndsBy OutOfMemory status = status ≡ NoMemory
EndsBy DisplayHelp status = (status ≡ Done) ⊎ (status ≡ Failed)
EndsBy DisplayVersion status = (status ≡ Done) ⊎ (status ≡ Failed)
EndsBy other status = status ≡ Refused

-- what a request ends with, whatever is read: sizes that are refused are reported by the status
abbrev pub EndsAs : Request → Status → Type 0
EndsAs (asks.Core setup) status = Unit {0}
EndsAs (asks.Run config) status = IfErr (config_check config) (λ error. status ≡ BadOptions)
EndsAs (asks.Blocks options paths) status = length paths.items < 2 ^ 32
    → IfErr (options_check options) (λ error. status ≡ BadOptions)
EndsAs (asks.Nothing known) status = status ≡ known

-- What the program ends with, by the words alone.
abbrev pub EndsFor : List Text → Status → Type 0
EndsFor words status = (request : Request) × IsAsked words request × EndsAs request status
