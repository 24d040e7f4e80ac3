-- Standalone entries, and what calls leave of them.
use Rattle.std.specs.Prelude.{◌≡◌, ◌⊎◌, ℕ, ◌+◌, ◌-◌, ◌==◌, Bool, List, None, Some, if◌then◌else◌}
use Rattle.slab.specs.Slab.{get, slab_len, Updates}
use Rattle.hcc_cache.specs.declared.client.Client.{Client}
use Rattle.hcc_cache.specs.declared.holding.Alone.{Alone}
use Rattle.hcc_cache.specs.declared.holding.Value.{Value}
use Rattle.hcc_cache.specs.declared.holding.Value.TheVariants.{Bytes, Word}
use Rattle.hcc_cache.specs.declared.inserting.Inserted.{Inserted}
use Rattle.hcc_cache.specs.declared.inserting.Inserted.TheVariants.{Placed, Dropped, Standalone}

-- the bytes of a value
abbrev pub bytes_of : Value → List ℕ
bytes_of (Bytes value) = value.items
bytes_of (Word word) = word

-- it is that of an object
abbrev pub IsObject : Value → Type 0
IsObject value = (word : List ℕ) × (value ≡ Word word)

module _ {T : Type 0} where
  -- the value stood there
  abbrev pub StoodAt : (index : ℕ) → Value → Client T → Type 0
  StoodAt index value client = (a : Alone) × (get client.alone index ≡ Some a) × (value ≡ a.value)

  -- A client has as many standalone entries as before, each with the value that it had.
  pub record AreAlone (old new : Client T) : Type 0 where
    pub most : new.most ≡ old.most
    pub count : slab_len new.alone ≡ slab_len old.alone
    pub each : (index : ℕ) (a : Alone) → get new.alone index ≡ Some a
        → StoodAt index a.value old

  -- It has one more, of such a value.
  pub record MoreAlone (Is : Value → Type 0) (old new : Client T) : Type 0 where
    pub most : new.most ≡ old.most
    pub count : slab_len new.alone ≡ slab_len old.alone + 1
    pub each : (index : ℕ) (a : Alone) → get new.alone index ≡ Some a
        → StoodAt index a.value old ⊎ Is a.value

  -- what an insertion leaves, by its answer, where such a value comes to stand alone
  abbrev pub LeavesAlone : (Value → Type 0) → Inserted → (old new : Client T) → Type 0
  LeavesAlone Is Placed old new = AreAlone old new
  LeavesAlone Is Dropped old new = AreAlone old new
  LeavesAlone Is Standalone old new = MoreAlone Is old new

  -- There is one handle less on the standalone entry of an index; it goes with the last.
  pub record LessAlone (index : ℕ) (gone : Bool) (old new : Client T) : Type 0 where
    pub most : new.most ≡ old.most
    pub entry : Alone
    pub there : get old.alone index ≡ Some entry
    pub last : gone ≡ (entry.references == 1)
    pub updates : Updates old.alone new.alone index (if gone then None
        else Some (record entry { references = entry.references - 1 }))
