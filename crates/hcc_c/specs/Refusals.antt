-- The numbers of refusals, and which refusal of the cache is told as which.
use Rattle.std.specs.Prelude.{ℕ, ◌==◌, Option, Some, None, if◌then◌else◌}
use Rattle.hcc_cache.specs.declared.errors.NewError.{NewError}
use Rattle.hcc_cache.specs.declared.errors.NewError.TheVariants as new
use Rattle.hcc_cache.specs.declared.errors.LookupError.{LookupError}
use Rattle.hcc_cache.specs.declared.errors.LookupError.TheVariants as look
use Rattle.hcc_cache.specs.declared.errors.CopyError.{CopyError}
use Rattle.hcc_cache.specs.declared.errors.CopyError.TheVariants as copy
use Rattle.hcc_cache.specs.declared.errors.InsertError.{InsertError}
use Rattle.hcc_cache.specs.declared.errors.InsertError.TheVariants as insert
use Rattle.hcc_cache.specs.declared.errors.ObjectError.{ObjectError}
use Rattle.hcc_cache.specs.declared.errors.ObjectError.TheVariants as object
use Rattle.hcc_cache.specs.declared.errors.ObjectNewError.{ObjectNewError}
use Rattle.hcc_cache.specs.declared.errors.ObjectNewError.TheVariants as new_objects
use Rattle.hcc_cache.specs.declared.inserting.Inserted.{Inserted}
use Rattle.hcc_cache.specs.declared.inserting.Inserted.TheVariants as inserted
use Rattle.hcc_cache.specs.declared.object_inserting.Placing.{Placing}
use Rattle.hcc_cache.specs.declared.object_inserting.Placing.TheVariants as placing
use Rattle.hcc_cache.specs.declared.priority.Priority.{Priority}
use Rattle.hcc_cache.specs.declared.priority.Priority.TheVariants.{High, Low, Bottom}
use Rattle.hcc_c.specs.declared.inserting.Unfit.{Unfit}
use Rattle.hcc_c.specs.declared.inserting.Unfit.TheVariants as unfit
use Rattle.hcc_c.specs.declared.refusal.Refusal.{Refusal}
use Rattle.hcc_c.specs.declared.refusal.Refusal.TheVariants.{NoHandle, NoCharge, TooLong, TooShort, BadPriority, OutOfRange, HandlesFull, Spent, TooLarge, CapacityFull, OccupancyFull, OutOfMemory, BadSlots, BadRoom, BadClients, BadHandles, BadShards, BadCapacity, BadSerials, NoClient, OtherCache, HandlesOut, ClientsOut, GoneFull, TooHigh, BadGone, Untaken, Shared}

-- the numbers that the header gives
abbrev pub code_of : Refusal → ℕ
code_of NoHandle = 17
code_of NoCharge = 18
code_of TooLong = 19
code_of TooShort = 20
code_of BadPriority = 21
code_of OutOfRange = 22
code_of HandlesFull = 23
code_of Spent = 24
code_of TooLarge = 25
code_of CapacityFull = 26
code_of OccupancyFull = 27
code_of OutOfMemory = 28
code_of BadSlots = 29
code_of BadRoom = 30
code_of BadClients = 31
code_of BadHandles = 32
code_of BadShards = 33
code_of BadCapacity = 34
code_of BadSerials = 35
code_of NoClient = 36
code_of OtherCache = 37
code_of HandlesOut = 38
code_of ClientsOut = 39
code_of GoneFull = 41
code_of TooHigh = 42
code_of BadGone = 43
code_of Untaken = 44
code_of Shared = 46

-- why a cache isn't made
abbrev pub opening_of : NewError → Refusal
opening_of new.BadSlots = BadSlots
opening_of new.BadRoom = BadRoom
opening_of new.BadClients = BadClients
opening_of new.BadHandles = BadHandles
opening_of new.BadShards = BadShards
opening_of new.BadCapacity = BadCapacity
opening_of new.BadSerials = BadSerials
opening_of new.OutOfMemory = OutOfMemory

-- why a cache of objects isn't made
abbrev pub opening_objects_of : ObjectNewError → Refusal
opening_objects_of (new_objects.Bad why) = opening_of why
opening_objects_of new_objects.BadGone = BadGone

-- why a handle isn't given
abbrev pub looking_of : LookupError → Refusal
looking_of look.HandlesFull = HandlesFull
looking_of look.Spent = Spent

-- why nothing is inserted
abbrev pub inserting_of : InsertError → Refusal
inserting_of insert.HandlesFull = HandlesFull
inserting_of insert.Spent = Spent
inserting_of insert.TooLarge = TooLarge
inserting_of insert.CapacityFull = CapacityFull
inserting_of insert.OccupancyFull = OccupancyFull

-- why nothing is inserted of a value that is copied where it stands alone
abbrev pub copying_of : CopyError → Refusal
copying_of (copy.Refused why) = inserting_of why
copying_of copy.OutOfMemory = OutOfMemory

-- why no object is inserted
abbrev pub inserting_object_of : ObjectError → Refusal
inserting_object_of object.HandlesFull = HandlesFull
inserting_object_of object.Spent = Spent
inserting_object_of object.GoneFull = GoneFull
inserting_object_of object.TooHigh = TooHigh
inserting_object_of object.TooLarge = TooLarge
inserting_object_of (object.CapacityFull full) = CapacityFull
inserting_object_of (object.OccupancyFull full) = OccupancyFull

-- why the cache isn't asked to insert a value
abbrev pub unfit_of : Unfit → Refusal
unfit_of unfit.NoCharge = NoCharge
unfit_of unfit.TooLong = TooLong

-- the priority of a number, if it is that of one
abbrev pub priority_of : ℕ → Option Priority
priority_of number =
    if number == 0 then Some High
    else (if number == 1 then Some Low else (if number == 2 then Some Bottom else None))

-- the number of what came of an insertion
abbrev pub inserted_code : Inserted → ℕ
inserted_code inserted.Placed = 0
inserted_code inserted.Dropped = 1
inserted_code inserted.Standalone = 2

-- and of an insertion of an object
abbrev pub placing_code : Placing → ℕ
placing_code placing.Placed = 0
placing_code (placing.Dropped full) = 1
placing_code (placing.Standalone full) = 2
