-- The registers of a client: which handles they hold, and on which entries these are.
use Rattle.std.specs.Prelude.{◌≡◌, ◌==◌, ℕ, ◌+◌, List, [], ◌∷◌, ◌++◌, Option, Some, None, length}
use Rattle.std.specs.Prelude.{is_some, not}
use Rattle.std.specs.List.{filter, find}
use Rattle.std.specs.Option.{option_map}
use Rattle.hcc_rule.specs.declared.key.Key.{Key}
use Rattle.hcc_cache.specs.declared.cache.Cache.{Cache}
use Rattle.hcc_cache.specs.declared.client.Client.{Client}
use Rattle.hcc_cache.specs.declared.config.Config.{Config}
use Rattle.hcc_cache.specs.declared.handle.Handle.{Handle}
use Rattle.hcc_cache.specs.Clients.{Held, Insertion, held_by, held_of}
use Rattle.hcc_cache.specs.Configs.{shard_capacity}
use Rattle.hcc_cache.specs.Known.{Knows}
use Rattle.hcc_player.specs.declared.run.answer.Answer.{Answer}
use Rattle.hcc_player.specs.declared.run.call.Call.{Call}
use Rattle.hcc_player.specs.declared.run.registers.Filled.{Filled}
use Rattle.hcc_player.specs.RunAnswers.{IsRight}
use Rattle.hcc_player.specs.RunStates.{State}

-- what a register holds: those that are not kept are empty
abbrev pub at : List Filled → ℕ → Option Handle
at handles register =
    option_map (λ (f : Filled). f.handle) (find (λ (f : Filled). f.register == register) handles)

-- a register more is full
abbrev pub filled_with : List Filled → ℕ → Handle → List Filled
filled_with handles register handle =
    handles ++ record { register = register; handle = handle } ∷ []

-- this one is not
abbrev pub filled_without : List Filled → ℕ → List Filled
filled_without handles register =
    filter (λ (f : Filled). not (f.register == register)) handles

-- no register is kept twice
abbrev pub AreOnce : List Filled → Type 0
AreOnce [] = Unit {0}
AreOnce (f ∷ more) = (at more f.register ≡ None) × AreOnce more

module _ {T : Type 0} (fits : T → Key → List ℕ → Type 0) (cache : Cache T) where
  -- the handle is on an entry of this insertion, whose value fits its key
  pub record IsOn (client : Client T) (handle : Handle) (told : Option Insertion) : Type 0 where
    pub held : Held
    pub here : held_of cache client handle ≡ Some held
    pub inserted : told ≡ Some held.insertion
    pub right : fits cache.tag held.insertion.key held.insertion.value

  -- A register of which this insertion is told, or none, holds this.
  abbrev pub IsFilled : Client T → Option Insertion → Option Handle → Type 0
  IsFilled client told None = told ≡ None
  IsFilled client told (Some handle) = IsOn client handle told

  module _ (config : Config) where
    -- The client may hold as many handles and use as many serials as the options say, less those
    -- that are told, and the cache has their capacity.
    pub record IsLimited (s : State) (client : Client T) : Type 0 where
      pub full : held_by client ≡ s.full
      pub most : client.most ≡ config.handles
      pub serials : s.used + client.left ≡ config.serials
      pub strict : cache.strict ≡ config.strict
      pub capacity : cache.capacity ≡ shard_capacity config

    -- The registers of a client hold its handles, each of them once, and each is on the entry of
    -- the insertion that is told of it. No other handle is held.
    pub record AreFilled (s : State) (client : Client T) (handles : List Filled)
        : Type 0 where
      pub known : Knows cache client
      pub limited : IsLimited s client
      pub each : (r : ℕ) → IsFilled client (s.registers r) (at handles r)
      pub apart : (r s : ℕ) (handle : Handle) → at handles r ≡ Some handle
          → at handles s ≡ Some handle → r ≡ s
      pub count : held_by client ≡ length handles
      pub once : AreOnce handles
      -- an entry stands alone where that is told
      pub kinds : (r : ℕ) (h : Handle) (held : Held) → at handles r ≡ Some h
          → held_of cache client h ≡ Some held → s.alone r ≡ is_some held.standing
      -- on one standalone entry there is one insertion
      pub alike : (r q : ℕ) (h k : Handle) (a b : Held) (name : ℕ) → at handles r ≡ Some h
          → at handles q ≡ Some k → held_of cache client h ≡ Some a
          → held_of cache client k ≡ Some b → a.standing ≡ Some name → b.standing ≡ Some name
          → a.insertion ≡ b.insertion

  -- A client with its registers may play: so much is told of it, under some options.
  abbrev pub CanPlay : Client T → List Filled → Type 0
  CanPlay client handles = (config : Config) × (s : State) × AreFilled config s client handles

  -- What a call leaves of a client and its registers: the answer is right, and they are as it says.
  abbrev pub Goes : Call → Answer → (old new : Client T) → (was now : List Filled) → Type 0
  Goes call answer old new was now =
      (config : Config) (s : State) → AreFilled config s old was
      → (next : State) × IsRight (fits cache.tag) config s call answer next
      × AreFilled config next new now
