-- The texts of replies, of slots and of worlds, and the text that a list of events gives.
use Rattle.std.specs.Prelude.{ℕ, zero, suc, ◌+◌, ◌/◌, ◌%◌, Bool, false, ◌==◌, List, [], ◌∷◌, ◌++◌}
use Rattle.std.specs.Prelude.{Option, Some, None, Result, Ok, Err, length, codes, decimal}
use Rattle.std.specs.Prelude.{if◌then◌else◌}
use Rattle.std.specs.Fmt.{digit_glyph}
use Rattle.std.specs.List.{flat_map}
use Rattle.hcc_core.specs.declared.slot.Slot.{Slot}
use Rattle.hcc_core.specs.declared.slot.Slot.TheVariants as slots
use Rattle.hcc_core.specs.declared.slot.Resident.{Resident}
use Rattle.hcc_core.specs.declared.slot.Reference.{Reference}
use Rattle.hcc_core.specs.declared.slot.Stamp.{Stamp}
use Rattle.hcc_core.specs.declared.slot.Entry.{Entry}
use Rattle.hcc_core.specs.declared.event.Phase.{Phase}
use Rattle.hcc_core.specs.declared.event.Phase.TheVariants as phases
use Rattle.hcc_core.specs.declared.event.Reply.{Reply}
use Rattle.hcc_core.specs.declared.event.Reply.TheVariants as replies
use Rattle.hcc_core.specs.declared.event.Event.{Event}
use Rattle.hcc_core.specs.declared.event.CoreError.{CoreError}
use Rattle.hcc_core.specs.declared.event.CoreError.TheVariants.{NoSuchSlot, NoSuchClient}
use Rattle.hcc_core.specs.declared.event.CoreError.TheVariants.{NotAllowed, OutOfMemory}
use Rattle.hcc_core.specs.World.{State, usage_of, occupancy_of, standing_in, passed_at}
use Rattle.hcc_core.specs.Outcomes.{Outcome}
use Rattle.hcc_core.specs.Steps.{outcome_of}
use Rattle.hcc_core.specs.Runs.{after}

abbrev pub phase_text : Phase → List ℕ
phase_text phases.Empty = codes "empty"
phase_text phases.Building = codes "building"
phase_text phases.Shown = codes "shown"
phase_text phases.Hidden = codes "hidden"

abbrev pub shown_text : Bool → List ℕ
shown_text shown = if shown then codes "shown" else codes "hidden"

-- what stands behind a reference that doesn't count
abbrev pub mark_text : Bool → List ℕ → List ℕ
mark_text counting mark = if counting then [] else mark

-- a byte as two lower-case hexadecimal digits
abbrev pub byte_text : ℕ → List ℕ
byte_text byte = digit_glyph false (byte / 16) ∷ digit_glyph false (byte % 16) ∷ []

-- a value's bytes, or a dash for none
unfoldable pub value_text : List ℕ → List ℕ
value_text value = if length value == 0 then codes "-" else flat_map byte_text value

-- which entry is shown in a slot, if one is
unfoldable pub shows_text : Option Stamp → List ℕ
shows_text None = codes "shows nothing"
shows_text (Some stamp) =
    codes "shows " ++ decimal stamp.client ++ codes " " ++ decimal stamp.number

unfoldable pub reply_text : Reply → List ℕ
reply_text replies.Ok = codes "ok"
reply_text (replies.Saw phase) = codes "saw " ++ phase_text phase
reply_text replies.Taken = codes "taken"
reply_text (replies.Got shown counting) =
    codes "got " ++ shown_text shown ++ mark_text counting (codes " !")
reply_text replies.Stray = codes "stray"
reply_text (replies.Left references phase) =
    codes "left " ++ decimal references ++ codes " " ++ phase_text phase
reply_text replies.Hid = codes "hid"
reply_text replies.Again = codes "again"
reply_text (replies.Freed charge) = codes "freed " ++ decimal charge
reply_text (replies.Entry key0 key1 value) =
    codes "entry " ++ decimal key0 ++ codes "." ++ decimal key1 ++ codes " " ++ value_text value
reply_text (replies.Split granted needed) =
    codes "split " ++ decimal granted ++ codes " " ++ decimal needed
reply_text replies.Granted = codes "granted"
reply_text replies.Open = codes "open"
reply_text (replies.Uses uses) = codes "uses " ++ decimal uses
reply_text (replies.Count count) = codes "count " ++ decimal count
reply_text (replies.Shows stamp) = shows_text stamp

unfoldable pub refusal_text : CoreError → List ℕ
refusal_text NoSuchSlot = codes "refused NoSuchSlot"
refusal_text NoSuchClient = codes "refused NoSuchClient"
refusal_text NotAllowed = codes "refused NotAllowed"
refusal_text OutOfMemory = codes "refused OutOfMemory"

unfoldable pub reference_text : Reference → List ℕ
reference_text r =
    decimal r.client ++ codes "." ++ decimal r.name ++ codes "x" ++ decimal r.weight
    ++ mark_text r.counting (codes "!")

-- references in the order of acquiring, or a dash for none
unfoldable pub references_text : List Reference → List ℕ
references_text [] = codes "-"
references_text (r ∷ rs) = reference_text r ++ flat_map (λ more. 38 ∷ reference_text more) rs

-- an entry: its key, its stamp and its charge
unfoldable pub entry_text : Entry → List ℕ
entry_text e =
    decimal e.key0 ++ codes "." ++ decimal e.key1
    ++ codes "@" ++ decimal e.stamp.client ++ codes "." ++ decimal e.stamp.number
    ++ codes "#" ++ decimal e.charge

abbrev pub initial_text : Bool → List ℕ
initial_text shown = if shown then codes "S" else codes "H"

abbrev pub hit_text : Bool → List ℕ
hit_text hit = if hit then codes ",h1" else codes ",h0"

-- an entry, and then its uses, its references and its hit flag
unfoldable pub resident_text : Resident → List ℕ
resident_text r =
    initial_text r.shown ++ entry_text r.entry ++ codes ",u" ++ decimal r.uses
    ++ codes ",r" ++ references_text r.references ++ hit_text r.hit

-- a slot, and how often it stands in trails
unfoldable pub slot_text : Slot → ℕ → List ℕ
slot_text (slots.Empty strays) passed = codes "E+" ++ decimal strays ++ codes "/" ++ decimal passed
slot_text (slots.Building client strays) passed =
    codes "B" ++ decimal client ++ codes "+" ++ decimal strays ++ codes "/" ++ decimal passed
slot_text (slots.Shareable r) passed = resident_text r ++ codes "/" ++ decimal passed

-- what stands before the text of a slot of this number
abbrev pub gap : ℕ → List ℕ
gap zero = []
gap (suc slot) = codes " "

-- the texts of these slots, of which the first has this number
abbrev pub slots_from : State → ℕ → List Slot → List ℕ
slots_from world slot [] = []
slots_from world slot (here ∷ more) =
    gap slot ++ slot_text here (passed_at world slot) ++ slots_from world (slot + 1) more

-- usage, occupancy, standing and hand
unfoldable pub totals_text : State → List ℕ
totals_text world =
    decimal (usage_of world) ++ codes " " ++ decimal (occupancy_of world)
    ++ codes " " ++ decimal (standing_in world) ++ codes " " ++ decimal world.hand

unfoldable pub world_text : State → List ℕ
world_text world = slots_from world 0 world.slots ++ codes " | " ++ totals_text world

-- what a step answered
abbrev pub answer_text : Result Reply CoreError → List ℕ
answer_text (Ok reply) = reply_text reply
answer_text (Err error) = refusal_text error

-- the line of an answer, and of the world behind it
unfoldable pub line_text : Result Reply CoreError → State → List ℕ
line_text answer world = answer_text answer ++ codes " : " ++ world_text world ++ codes "\n"

-- what an outcome answers
abbrev pub answer_of : Outcome → Result Reply CoreError
answer_of (Ok done) = Ok done.0
answer_of (Err error) = Err error

-- the line of an event in a world
abbrev pub event_text : State → Event → List ℕ
event_text world event = line_text (answer_of (outcome_of world event)) (after world event)

-- the lines of events, one after another
abbrev pub events_text : State → List Event → List ℕ
events_text world [] = []
events_text world (event ∷ events) =
    event_text world event ++ events_text (after world event) events
