-- What a place for an object owns.
use Rattle.std.specs.Prelude.{Option, Some, None}
use mir.Syntax.{Ty}
use base.Fml.{Fml, ftrue}
use denote.RattleType.{RattleType}
use denote.RawPtr.{Ptr}
use Rattle.std_alloc.specs.Box.Ownership.{box_owns}

-- the value behind the pointer, if there is one
abbrev pub owns_if : (Ty → Ptr → Fml) → (R : RattleType) → Ptr → Option R.Denot → Fml
owns_if token R at None = ftrue
owns_if token R at (Some value) = box_owns token R at value
