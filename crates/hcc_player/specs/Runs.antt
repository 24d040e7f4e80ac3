-- What a play of a trace of calls does on its one cache, from its opening to its closing.
use Rattle.std.specs.Prelude.{◌≡◌, ℕ, ◌+◌, Bool, false, List, [], ◌∷◌, Option, Some, None}
use Rattle.std.specs.Prelude.{IsSome, is_some, length, slice_get, slice_set}
use Rattle.hcc_core.specs.Sums.{total, when}
use Rattle.hcc_rule.specs.declared.key.Key.{Key}
use Rattle.hcc_cache.specs.declared.cache.Cache.{Cache}
use Rattle.hcc_cache.specs.declared.client.Client.{Client}
use Rattle.hcc_cache.specs.declared.closed.Closed.{Closed}
use Rattle.hcc_cache.specs.Clients.{Insertion}
use Rattle.hcc_cache.specs.Closings.{AreBack, IsClosed}
use Rattle.hcc_player.specs.declared.run.answer.Answer.{Answer}
use Rattle.hcc_player.specs.declared.run.answer.Answer.TheVariants as answers
use Rattle.hcc_player.specs.declared.run.call.Call.{Call}
use Rattle.hcc_player.specs.declared.run.call.Call.TheVariants as calls
use Rattle.hcc_player.specs.declared.run.call.RunLine.{RunLine}
use Rattle.hcc_player.specs.declared.run.registers.Filled.{Filled}
use Rattle.hcc_player.specs.declared.run.registers.Registers.{Registers}
use Rattle.hcc_player.specs.declared.sums.Sums.{Sums}
use Rattle.hcc_player.specs.Registers.{Goes}
use Rattle.hcc_player.specs.RunCalls.{Does, GivesBack}
use Rattle.hcc_player.specs.RunStates.{charge_of}

-- the insertion of a call that was answered that its entry was placed
abbrev pub placed_by : Call → Answer → Option Insertion
placed_by (calls.Insert key charge priority value) answers.Placed =
    Some (record { key = key; value = value; charge = charge })
placed_by (calls.Pin register key charge priority value) answers.Placed =
    Some (record { key = key; value = value; charge = charge })
placed_by call answer = None

-- the charge of one that was answered that its entry stands alone
abbrev pub stood_by : Call → Answer → ℕ
stood_by (calls.Pin register key charge priority value) answers.Standalone = charge
stood_by call answer = 0

-- how many lines were answered that their entries were placed
abbrev pub placed_in : List RunLine → List Answer → ℕ
placed_in [] told = 0
placed_in (line ∷ lines) [] = 0
placed_in (line ∷ lines) (answer ∷ told) =
    when (is_some (placed_by line.call answer)) 1 + placed_in lines told

-- Which entries are left.

abbrev pub placed_of : Option RunLine → Option Answer → Option Insertion
placed_of None answer = None
placed_of (Some line) None = None
placed_of (Some line) (Some answer) = placed_by line.call answer

-- the insertion of the line at this place, if it was answered that its entry was placed
abbrev pub placed_at : List RunLine → List Answer → (place : ℕ) → Option Insertion
placed_at lines told place = placed_of (slice_get lines place) (slice_get told place)

-- What is left are entries that lines of these places placed, no line twice: so many slots, and
-- their charges in sum.
pub record LeavesPlaced (lines : List RunLine) (told : List Answer) (sums : Sums) : Type 0 where
  pub places : List ℕ
  pub placed : (k place : ℕ) → slice_get places k ≡ Some place
      → IsSome (placed_at lines told place)
  pub apart : (j k place : ℕ) → slice_get places j ≡ Some place → slice_get places k ≡ Some place
      → j ≡ k
  pub slots : sums.slots ≡ length places
  pub charges : sums.charges ≡ total (λ place. charge_of (placed_at lines told place)) places

-- no register is kept yet
abbrev pub AreEmpty : List Registers → Type 0
AreEmpty all = (c : ℕ) (held : Registers) → slice_get all c ≡ Some held → held.filled.items ≡ []

module _ {T : Type 0} (fits : T → Key → List ℕ → Type 0) (cache : Cache T) where
  -- A line's client made its call with its registers, which was answered so, as is right. No other
  -- client did anything.
  pub record Makes (line : RunLine) (answer : Answer) (old new : List (Client T))
      (was now : List Registers) : Type 0 where
    pub before : Client T
    pub after : Client T
    pub held : Registers
    pub holds : Registers
    pub client_was : slice_get old line.client ≡ Some before
    pub registers_were : slice_get was line.client ≡ Some held
    pub clients_are : new ≡ slice_set old line.client after
    pub registers_are : now ≡ slice_set was line.client holds
    pub goes : Goes fits cache line.call answer before after held.filled.items
        holds.filled.items
    pub did : Does fits cache line.call answer before after held.filled.items
        holds.filled.items

  -- Each of these lines was so, one after another.
  abbrev pub MakesAll : List RunLine → List Answer → (old new : List (Client T))
      → (was now : List Registers) → Type 0
  MakesAll [] [] old new was now = (new ≡ old) × (now ≡ was)
  MakesAll [] (answer ∷ told) old new was now = ⊥
  MakesAll (line ∷ lines) [] old new was now = ⊥
  MakesAll (line ∷ lines) (answer ∷ told) old new was now =
      (clients : List (Client T)) × (registers : List Registers)
      × Makes line answer old clients was registers
      × MakesAll lines told clients new registers now

  -- A client released what these registers held, one after another: not as a use, and without
  -- erasing it.
  abbrev pub LetsGo : List Filled → (old new : Client T) → Type 0
  LetsGo [] old new = new ≡ old
  LetsGo (filled ∷ more) old new =
      (client : Client T) × (freed : Bool)
      × GivesBack fits cache false false freed (Some filled.handle) None old client
      × LetsGo more client new

  -- All clients released what they held, and the cache was closed by what they are then.
  pub record ClosesAfter (clients : List (Client T)) (registers : List Registers)
      (closed : Closed) : Type 0 where
    pub left : List (Client T)
    pub count : length left ≡ length clients
    pub each : (c : ℕ) (client last : Client T) (held : Registers)
        → slice_get clients c ≡ Some client → slice_get registers c ≡ Some held
        → slice_get left c ≡ Some last → LetsGo held.filled.items client last
    pub back : AreBack cache left
    pub closes : IsClosed fits cache left closed
