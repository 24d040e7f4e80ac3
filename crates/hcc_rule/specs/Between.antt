-- What a client has in hand between two calls, and to free an entry.
use Rattle.std.specs.Prelude.{◌≡◌, ◌+◌, ◌^◌, ◌≤◌, true, []}
use Rattle.hcc_core.specs.declared.client.Client.{Client}
use Rattle.hcc_core.specs.World.{owns_nothing}
use Rattle.hcc_core.specs.Opening.{new_client}
use Rattle.hcc_rule.specs.declared.view.View.{View}

-- a live client with nothing in hand but its standalone entries, as it is between two calls of a
-- cache
abbrev pub IsBetweenCalls : Client → Type 0
IsBetweenCalls work = work ≡ record new_client {
  live = true;
  looked = work.looked;
  standalones = work.standalones;
  stamps = work.stamps;
  dead = work.dead;
}

module _ {T : Type 0} where
  -- the client may free an entry: it owns no slot, has no trail, and space for one more charge
  abbrev pub MayFree : View T → Type 0
  MayFree v =
      (owns_nothing v.work.owned ≡ true) × (v.work.trail ≡ []) × (v.work.freed + 2 ^ 32 ≤ 2 ^ 49)
