-- How C is told what a call of a cache of objects answers: the status, and what each output is.
use Rattle.std.specs.Prelude.{ℕ, Bool, false, Option, Some, None, Result, Ok, Err}
use Rattle.hcc_rule.specs.declared.key.Key.{Key as CacheKey}
use Rattle.hcc_cache.specs.declared.errors.ObjectError.{ObjectError}
use Rattle.hcc_cache.specs.declared.errors.ObjectError.TheVariants as refusal
use Rattle.hcc_cache.specs.declared.errors.ObjectNewError.{ObjectNewError}
use Rattle.hcc_cache.specs.declared.object_inserting.Placing.{Placing}
use Rattle.hcc_cache.specs.declared.object_inserting.Placing.TheVariants.{Placed, Dropped, Standalone}
use Rattle.hcc_cache.specs.declared.objects.Object.{Object}
use Rattle.hcc_c.specs.declared.inserting.Unfit.{Unfit}
use Rattle.hcc_c.specs.declared.object_shapes.CObject.{CObject}
use Rattle.hcc_c.specs.declared.shapes.CHandle.{CHandle}
use Rattle.hcc_c.specs.declared.shapes.Key.{Key}
use Rattle.hcc_c.specs.ObjectShapes.{c_object_of}
use Rattle.hcc_c.specs.Refusals.{code_of, inserting_object_of, opening_objects_of, placing_code, unfit_of}
use Rattle.hcc_c.specs.Shapes.{words_of}

-- a configuration that is judged
abbrev pub status_of_checked : Result (Unit {0}) ObjectNewError → ℕ
status_of_checked (Ok allowed) = 0
status_of_checked (Err why) = code_of (opening_objects_of why)

-- whether an answer says that the client's list is full; a refusal before any eviction doesn't say
abbrev pub full_placed : Placing → Bool
full_placed Placed = false
full_placed (Dropped full) = full
full_placed (Standalone full) = full

abbrev pub full_refused : ObjectError → Bool → Bool
full_refused refusal.HandlesFull old = old
full_refused refusal.Spent old = old
full_refused refusal.GoneFull old = old
full_refused refusal.TooHigh old = old
full_refused refusal.TooLarge old = old
full_refused (refusal.CapacityFull full) old = full
full_refused (refusal.OccupancyFull full) old = full

-- an insertion
abbrev pub status_of_put : Result (Result Placing ObjectError) Unfit → ℕ
status_of_put (Ok (Ok what)) = 0
status_of_put (Ok (Err why)) = code_of (inserting_object_of why)
status_of_put (Err why) = code_of (unfit_of why)

abbrev pub placing_of : Result (Result Placing ObjectError) Unfit → ℕ → ℕ
placing_of (Ok (Ok what)) old = placing_code what
placing_of (Ok (Err why)) old = old
placing_of (Err why) old = old

abbrev pub full_of : Result (Result Placing ObjectError) Unfit → Bool → Bool
full_of (Ok (Ok what)) old = full_placed what
full_of (Ok (Err why)) old = full_refused why old
full_of (Err why) old = old

-- an insertion with a handle
abbrev pub status_of_pinned : Result (Result (CHandle × Placing) ObjectError) Unfit → ℕ
status_of_pinned (Ok (Ok made)) = 0
status_of_pinned (Ok (Err why)) = code_of (inserting_object_of why)
status_of_pinned (Err why) = code_of (unfit_of why)

abbrev pub placing_of_pinned : Result (Result (CHandle × Placing) ObjectError) Unfit → ℕ → ℕ
placing_of_pinned (Ok (Ok made)) old = placing_code made.1
placing_of_pinned (Ok (Err why)) old = old
placing_of_pinned (Err why) old = old

abbrev pub full_of_pinned : Result (Result (CHandle × Placing) ObjectError) Unfit → Bool → Bool
full_of_pinned (Ok (Ok made)) old = full_placed made.1
full_of_pinned (Ok (Err why)) old = full_refused why old
full_of_pinned (Err why) old = old

abbrev pub handle_of_pinned : Result (Result (CHandle × Placing) ObjectError) Unfit
    → CHandle → CHandle
handle_of_pinned (Ok (Ok made)) old = made.0
handle_of_pinned (Ok (Err why)) old = old
handle_of_pinned (Err why) old = old

-- an object that is handed back, with its key
abbrev pub status_of_gone : Option (CacheKey × Object) → ℕ
status_of_gone None = 1
status_of_gone (Some gone) = 0

abbrev pub gone_key_or : Option (CacheKey × Object) → Key → Key
gone_key_or None old = old
gone_key_or (Some gone) old = words_of gone.0

abbrev pub gone_object_or : Option (CacheKey × Object) → CObject → CObject
gone_object_or None old = old
gone_object_or (Some gone) old = c_object_of gone.1
