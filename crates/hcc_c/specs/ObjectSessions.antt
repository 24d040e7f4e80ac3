-- A client of a cache of objects in the hands of C, and its handles by their numbers.
use Rattle.std.specs.Prelude.{◌≡◌, ℕ, ◌==◌, Result, Ok, Err, if◌then◌else◌}
use Rattle.std.specs.Arc.{arc_value}
use Rattle.hcc_cache.specs.declared.cache.Cache.{Cache}
use Rattle.hcc_cache.specs.declared.client.Client.{Client}
use Rattle.hcc_cache.specs.declared.gone.Objects.{Objects}
use Rattle.hcc_cache.specs.declared.handle.Handle.{Handle}
use Rattle.hcc_cache.specs.Clients.{Holds}
use Rattle.hcc_cache.specs.Handles.{HoldsNone}
use Rattle.hcc_cache.specs.Objects.{KnowsObjects}
use Rattle.hcc_c.specs.declared.inserting.Unfit.{Unfit}
use Rattle.hcc_c.specs.declared.inserting.Unfit.TheVariants.{NoCharge}
use Rattle.hcc_c.specs.declared.object_session.ObjectSession.{ObjectSession}
use Rattle.hcc_c.specs.declared.shapes.CHandle.{CHandle}
use Rattle.hcc_c.specs.Sessions.{handle_in}
use Rattle.hcc_c.specs.Shapes.{parts_in}

-- What holds of a client between any two of its calls: its cache knows it.
pub record IsWhole (session : ObjectSession) : Type 0 where
  pub knows : KnowsObjects (arc_value session.cache) session.client

-- the cache of bytes below, and its client
abbrev pub below : ObjectSession → Cache Objects
below session = (arc_value session.cache).cache

abbrev pub client_in : ObjectSession → Client Objects
client_in session = session.client.client

-- The numbers are those of a handle that the client holds: its cache's, its own, and the serial.
abbrev pub IsHandle : ObjectSession → CHandle → Handle → Type 0
IsHandle session c_handle handle = (c_handle.cache ≡ session.cache_number)
    × (handle ≡ handle_in c_handle) × Holds session.client.client handle

-- They are those of none.
abbrev pub IsNone : ObjectSession → CHandle → Type 0
IsNone session c_handle = c_handle.cache ≡ session.cache_number
    → HoldsNone session.client.client (parts_in c_handle)

-- why an object isn't inserted, before the cache is asked
abbrev pub judged : (charge : ℕ) → Result (Unit {0}) Unfit
judged charge = if charge == 0 then Err NoCharge else Ok tt
