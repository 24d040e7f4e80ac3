-- Which freed entries a call put on a list.
use Rattle.std.specs.Prelude.{◌≡◌, ℕ, ◌-◌, ◌≤◌, Bool, true, List, ◌++◌, Option, None, Some, length, map, nat_le}
use Rattle.hcc_rule.specs.declared.view.Gone.{Gone}
use Rattle.hcc_rule.specs.declared.view.View.{View}
use Rattle.hcc_rule.specs.Words.{payload_word}
use Rattle.hcc_table.specs.declared.lists.Freed.{Freed}

-- What is on a list, how many entries calls may take it up to, and how many places it has in all:
-- those beyond are its owner's.
pub record Shelf : Type 0 where
  pub freed : List Freed
  pub most : ℕ
  pub places : ℕ

-- for how many more entries calls have room
abbrev pub room_on : Shelf → ℕ
room_on s = s.most - length s.freed

-- whether there is room for so many more; where there is no list there always is
abbrev pub has_room : ℕ → Option Shelf → Bool
has_room n None = true
has_room n (Some s) = nat_le n (room_on s)

-- These were put on the list, in order, where there was room for them, if there is one.
abbrev pub Puts : List Freed → Option Shelf → Option Shelf → Type 0
Puts these None None = Unit
Puts these (Some s) (Some t) =
    (t.freed ≡ s.freed ++ these) × (length these ≤ room_on s) × (t.most ≡ s.most)
    × (t.places ≡ s.places)
Puts these s t = ⊥

-- the entry as a list has it
abbrev pub as_freed : Gone → Freed
as_freed g = record { key = g.made.key; word = payload_word g.made.value 0 }

-- What the client took was put on the list, in order.
pub record Hands {T : Type 0} (s t : Option Shelf) (v w : View T) : Type 0 where
  pub these : List Gone
  pub gone : w.gone ≡ v.gone ++ these
  pub puts : Puts (map as_freed these) s t
