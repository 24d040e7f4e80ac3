-- What is said of the events of a shard that began with an image.
use Rattle.std.specs.Prelude.{◌≡◌, ℕ, ◌==◌, List, [], ◌++◌, Some, None, map, slice_get, option_and_then, if◌then◌else◌}
use Rattle.hcc_core.specs.declared.event.Event.{Event}
use Rattle.hcc_core.specs.declared.event.Event.TheVariants as events
use Rattle.hcc_core.specs.declared.slot.Entry.{Entry}
use Rattle.hcc_core.specs.Runs.{after_all, entry_at, entry_given, shows_of}
use Rattle.hcc_rule.specs.declared.image.ImageEntry.{ImageEntry}
use Rattle.hcc_rule.specs.declared.rule.Plan.{Plan}
use Rattle.hcc_rule.specs.Images.{entries_in}
use Rattle.hcc_rule.specs.Opening.{begun_world}

-- a show that gives an entry of an image: its key, its value and its charge
abbrev pub show_of : ImageEntry → Event
show_of e = events.Show 0 e.key.w0 e.key.w1 e.charge 1 None e.value.items

module _ {T : Type 0} where
  -- what a client showed before the first event: client 0 the entries of the image, in order
  abbrev pub first_shows : Plan T → ℕ → List Event
  first_shows p client = if client == 0 then map show_of (entries_in p.image) else []

  -- Each entry after the events is what the show of its stamp gave: of all shows of its client the
  -- one of its number, from 0.
  abbrev pub AreShown : Plan T → List Event → Type 0
  AreShown p events =
      (slot : ℕ) (entry : Entry)
      → entry_at (after_all (begun_world p) events) slot ≡ Some entry
      → option_and_then (entry_given entry.stamp)
      (slice_get (first_shows p entry.stamp.client
      ++ shows_of entry.stamp.client (begun_world p) events) entry.stamp.number)
      ≡ Some entry
