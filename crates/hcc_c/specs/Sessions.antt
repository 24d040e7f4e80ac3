-- A client in the hands of C, and its handles by their numbers.
use Rattle.std.specs.Prelude.{◌≡◌, ℕ, ◌==◌, List, Result, Ok, Err, length, nat_le, if◌then◌else◌}
use Rattle.std.specs.Arc.{arc_value}
use Rattle.hcc_rule.specs.declared.key.Key.{Key}
use Rattle.hcc_cache.specs.declared.handle.Handle.{Handle}
use Rattle.hcc_cache.specs.declared.tags.AnyBytes.{AnyBytes}
use Rattle.hcc_cache.specs.Clients.{Holds}
use Rattle.hcc_cache.specs.Handles.{HoldsNone, handle_of}
use Rattle.hcc_cache.specs.Known.{Knows}
use Rattle.hcc_c.specs.declared.shapes.CHandle.{CHandle}
use Rattle.hcc_c.specs.declared.session.Session.{Session}
use Rattle.hcc_c.specs.declared.inserting.Unfit.{Unfit}
use Rattle.hcc_c.specs.declared.inserting.Unfit.TheVariants.{NoCharge, TooLong}
use Rattle.hcc_c.specs.Shapes.{parts_in}

-- What holds of a client between any two of its calls: its cache knows it, and the sizes are the
-- cache's.
pub record IsWhole (session : Session) : Type 0 where
  pub knows : Knows (arc_value session.cache) session.client
  pub shards : length (arc_value session.cache).shards.items ≡ session.shards
  pub slots : (arc_value session.cache).geometry.slots ≡ session.slots

-- every value fits every key
abbrev pub any : AnyBytes → Key → List ℕ → Type 0
any tag key value = Unit {0}

-- the handle of these numbers, which nobody may hold
abbrev pub handle_in : CHandle → Handle
handle_in c_handle = handle_of (parts_in c_handle)

-- The numbers are those of a handle that the client holds: its cache's, its own, and the serial.
abbrev pub IsHandle : Session → CHandle → Handle → Type 0
IsHandle session c_handle handle = (c_handle.cache ≡ session.cache_number)
    × (handle ≡ handle_in c_handle) × Holds session.client handle

-- They are those of none.
abbrev pub IsNone : Session → CHandle → Type 0
IsNone session c_handle = c_handle.cache ≡ session.cache_number → HoldsNone session.client
    (parts_in c_handle)

-- why a value isn't inserted, before the cache is asked
abbrev pub judged : (room len charge : ℕ) → Result (Unit {0}) Unfit
judged room len charge =
    if charge == 0 then Err NoCharge else (if nat_le len room then Ok tt else Err TooLong)
