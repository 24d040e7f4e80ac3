-- Handles and their parts.
use Rattle.hcc_cache.specs.declared.client.Client.{Client}
use Rattle.hcc_cache.specs.declared.handle.Handle.{Handle}
use Rattle.hcc_cache.specs.declared.handle.HandleParts.{HandleParts}
use Rattle.hcc_cache.specs.Clients.{Holds}

abbrev pub parts_of : Handle → HandleParts
parts_of handle =
    record { client = handle.client; index = handle.index; serial = handle.serial }

-- the handle of these parts, which nobody may hold
abbrev pub handle_of : HandleParts → Handle
handle_of parts =
    record { client = parts.client; index = parts.index; serial = parts.serial }

module _ {T : Type 0} where
  -- The client holds no handle of these parts.
  abbrev pub HoldsNone : Client T → HandleParts → Type 0
  HoldsNone client parts = ¬ Holds client (handle_of parts)
