-- A client that keeps one handle more.
use Rattle.std.proofs.Common.{◌≡◌, ◌+◌, true, Some, None, sym, refl, ◌∙◌}
use Rattle.slab.specs.Slab.{get, slab_len, Updates}
use Rattle.hcc_cache.specs.declared.cache.Cache.{Cache}
use Rattle.hcc_cache.specs.declared.client.Client.{Client}
use Rattle.hcc_cache.specs.declared.handle.Handle.{Handle}
use Rattle.hcc_cache.specs.declared.holding.Hold.{Hold}
use Rattle.hcc_cache.specs.Calls.{Gains, UsesOne}
use Rattle.hcc_cache.specs.Clients.{Held, held_as, if_of, is_of, kept_as}
use Rattle.hcc_cache.proofs.Handles.SameHolds.{is_its_own, keeps_more, StandBut}

module _ {T : Type 0} where
  -- A handle with the next serial was given, and this is kept of it.
  pub record IsGiven (old new : Client T) (handle : Handle) (hold : Hold) : Type 0 where
    pub client : handle.client ≡ old.number
    pub serial : handle.serial ≡ old.used
    pub named : hold.serial ≡ old.used
    pub number : new.number ≡ old.number
    pub free : get old.handles handle.index ≡ None
    pub updates : Updates old.handles new.handles handle.index (Some hold)
    pub count : slab_len new.handles ≡ slab_len old.handles + 1
    pub held : new.held ≡ old.held + 1
    pub uses : UsesOne old new

  module _ (cache : Cache T) (old new : Client T) (handle : Handle) (hold : Hold)
      (given : IsGiven old new handle hold) where
    own : is_of old.number handle hold ≡ true
    own =
        is_its_own old.number handle hold given.client (given.serial ∙ sym given.named)

    stands_for : (held : Held)
        → kept_as cache.seed new.seats.items new.alone hold hold.kept ≡ Some held
        → held_as cache.seed new.seats.items new.alone
        (if_of new.number handle (get new.handles handle.index)) ≡ Some held
    stands_for held kept = rw (given.updates.changed, given.number, own) kept

    -- it stands for what is kept of it, and the others for what they stood for
    pub gains : (held : Held)
        → kept_as cache.seed new.seats.items new.alone hold hold.kept ≡ Some held
        → StandBut cache old new handle.index → Gains cache handle held old new
    gains held kept stand = record {
      client = given.client;
      serial = given.serial;
      free = rw (given.free) refl;
      stands = stands_for held kept;
      others =
          keeps_more cache old new handle hold given.number given.client
          (given.serial ∙ sym given.named) given.free given.updates stand;
      count = given.held;
      serials = given.uses;
    }
