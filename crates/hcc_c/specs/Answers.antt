-- How C is told what a call answers: the status, and what each output is then.
use Rattle.std.specs.Prelude.{ℕ, Option, Some, None, Result, Ok, Err, Box}
use Rattle.std.specs.Global.{Global}
use Rattle.hcc_rule.specs.declared.key.Key.{Key as CacheKey}
use Rattle.hcc_table.specs.declared.optimistic.Got.{Got}
use Rattle.hcc_table.specs.declared.optimistic.Got.TheVariants.{Hit, Miss, Short}
use Rattle.hcc_cache.specs.declared.errors.CopyError.{CopyError}
use Rattle.hcc_cache.specs.declared.errors.InsertError.{InsertError}
use Rattle.hcc_cache.specs.declared.errors.LookupError.{LookupError}
use Rattle.hcc_cache.specs.declared.errors.NewError.{NewError}
use Rattle.hcc_cache.specs.declared.inserting.Inserted.{Inserted}
use Rattle.hcc_c.specs.declared.inserting.Unfit.{Unfit}
use Rattle.hcc_c.specs.declared.refusal.Refusal.{Refusal}
use Rattle.hcc_c.specs.declared.refusal.Refusal.TheVariants.{NoHandle, TooShort}
use Rattle.hcc_c.specs.declared.shapes.Entry.{Entry}
use Rattle.hcc_c.specs.declared.shapes.Key.{Key}
use Rattle.hcc_c.specs.declared.shapes.CHandle.{CHandle}
use Rattle.hcc_c.specs.Refusals.{code_of, copying_of, inserted_code, inserting_of, looking_of, opening_of, unfit_of}
use Rattle.hcc_c.specs.Shapes.{words_of}

-- a value, or none
module _ {A : Type 0} where
  abbrev pub status_of : Option A → Refusal → ℕ
  status_of None why = code_of why
  status_of (Some value) why = 0

  abbrev pub value_or : Option A → A → A
  value_or None old = old
  value_or (Some value) old = value

abbrev pub key_or : Option CacheKey → Key → Key
key_or None old = old
key_or (Some key) old = words_of key

-- a configuration that is judged
abbrev pub status_of_checked : Result (Unit {0}) NewError → ℕ
status_of_checked (Ok allowed) = 0
status_of_checked (Err why) = code_of (opening_of why)

-- what a look-up finds, and what it or a walk at a slot holds
module _ {A : Type 0} where
  abbrev pub status_of_look : Result (Option A) LookupError → ℕ
  status_of_look (Ok None) = 1
  status_of_look (Ok (Some found)) = 0
  status_of_look (Err why) = code_of (looking_of why)

  abbrev pub found_or : Result (Option A) LookupError → A → A
  found_or (Ok None) old = old
  found_or (Ok (Some found)) old = found
  found_or (Err why) old = old

-- one handle more
abbrev pub status_of_reref : Option (Result CHandle LookupError) → ℕ
status_of_reref None = code_of NoHandle
status_of_reref (Some (Ok c_handle)) = 0
status_of_reref (Some (Err why)) = code_of (looking_of why)

abbrev pub more_of : Option (Result CHandle LookupError) → CHandle → CHandle
more_of None old = old
more_of (Some (Ok c_handle)) old = c_handle
more_of (Some (Err why)) old = old

-- an insertion
abbrev pub status_of_insert : Result (Result Inserted InsertError) Unfit → ℕ
status_of_insert (Ok (Ok what)) = 0
status_of_insert (Ok (Err why)) = code_of (inserting_of why)
status_of_insert (Err why) = code_of (unfit_of why)

abbrev pub inserted_of : Result (Result Inserted InsertError) Unfit → ℕ → ℕ
inserted_of (Ok (Ok what)) old = inserted_code what
inserted_of (Ok (Err why)) old = old
inserted_of (Err why) old = old

-- an insertion with a handle
abbrev pub status_of_pinned : Result (Result (CHandle × Inserted) CopyError) Unfit → ℕ
status_of_pinned (Ok (Ok made)) = 0
status_of_pinned (Ok (Err why)) = code_of (copying_of why)
status_of_pinned (Err why) = code_of (unfit_of why)

abbrev pub inserted_of_pinned : Result (Result (CHandle × Inserted) CopyError) Unfit → ℕ → ℕ
inserted_of_pinned (Ok (Ok made)) old = inserted_code made.1
inserted_of_pinned (Ok (Err why)) old = old
inserted_of_pinned (Err why) old = old

abbrev pub handle_of_pinned : Result (Result (CHandle × Inserted) CopyError) Unfit
    → CHandle → CHandle
handle_of_pinned (Ok (Ok made)) old = made.0
handle_of_pinned (Ok (Err why)) old = old
handle_of_pinned (Err why) old = old

-- a reading
abbrev pub status_of_read : Option (Result ℕ ℕ) → ℕ
status_of_read None = code_of NoHandle
status_of_read (Some (Ok length)) = 0
status_of_read (Some (Err need)) = code_of TooShort

abbrev pub length_of : Option (Result ℕ ℕ) → ℕ → ℕ
length_of None old = old
length_of (Some (Ok length)) old = length
length_of (Some (Err need)) old = need

-- a reading by a key
abbrev pub status_of_got : Got → ℕ
status_of_got Miss = 1
status_of_got (Hit count) = 0
status_of_got (Short count) = code_of TooShort

abbrev pub length_got : Got → ℕ → ℕ
length_got Miss old = old
length_got (Hit count) old = count
length_got (Short count) old = count

-- what a call gives, or why it gives nothing
module _ {A : Type 0} where
  abbrev pub status_of_given : Result A Refusal → ℕ
  status_of_given (Ok given) = 0
  status_of_given (Err why) = code_of why

  abbrev pub given_or : Result A Refusal → A → A
  given_or (Ok given) old = given
  given_or (Err why) old = old

  -- what the place has then for which it was asked
  abbrev pub placed : Result (Box A Global) Refusal → Option A
  placed (Ok given) = Some given.value
  placed (Err why) = None

  -- the same where a number comes with it, and that number
  abbrev pub placed_beside : Result (Box A Global × ℕ) Refusal → Option A
  placed_beside (Ok made) = Some made.0.value
  placed_beside (Err why) = None

  abbrev pub beside_or : Result (Box A Global × ℕ) Refusal → ℕ → ℕ
  beside_or (Ok made) old = made.1
  beside_or (Err why) old = old

-- an entry of a closed cache
abbrev pub status_of_left : Result (Option Entry) Refusal → ℕ
status_of_left (Ok None) = 1
status_of_left (Ok (Some entry)) = 0
status_of_left (Err why) = code_of why

abbrev pub entry_or : Result (Option Entry) Refusal → Entry → Entry
entry_or (Ok None) old = old
entry_or (Ok (Some entry)) old = entry
entry_or (Err why) old = old

-- and its value
abbrev pub status_of_copied : Result Got Refusal → ℕ
status_of_copied (Ok got) = status_of_got got
status_of_copied (Err why) = code_of why

abbrev pub length_copied : Result Got Refusal → ℕ → ℕ
length_copied (Ok got) old = length_got got old
length_copied (Err why) old = old
