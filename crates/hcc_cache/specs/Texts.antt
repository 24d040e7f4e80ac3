-- The sentences of refusals.
use Rattle.std.specs.Prelude.{ℕ, List, codes}
use Rattle.hcc_cache.specs.declared.errors.NewError.{NewError}
use Rattle.hcc_cache.specs.declared.errors.LookupError.{LookupError}
use Rattle.hcc_cache.specs.declared.errors.InsertError.{InsertError}
use Rattle.hcc_cache.specs.declared.errors.CopyError.{CopyError}
use Rattle.hcc_cache.specs.declared.errors.ObjectError.{ObjectError}
use Rattle.hcc_cache.specs.declared.errors.ObjectNewError.{ObjectNewError}
use Rattle.hcc_cache.specs.declared.errors.CloseError.{CloseError}
use Rattle.hcc_cache.specs.declared.errors.ObjectCloseError.{ObjectCloseError}
use Rattle.hcc_cache.specs.declared.errors.NewError.TheVariants as news
use Rattle.hcc_cache.specs.declared.errors.LookupError.TheVariants as lookups
use Rattle.hcc_cache.specs.declared.errors.InsertError.TheVariants as inserts
use Rattle.hcc_cache.specs.declared.errors.CopyError.TheVariants as copies
use Rattle.hcc_cache.specs.declared.errors.ObjectError.TheVariants as objects
use Rattle.hcc_cache.specs.declared.errors.ObjectNewError.TheVariants as object_news
use Rattle.hcc_cache.specs.declared.errors.CloseError.TheVariants as closes
use Rattle.hcc_cache.specs.declared.errors.ObjectCloseError.TheVariants as object_closes

abbrev pub new_text : NewError → List ℕ
new_text news.BadSlots = codes "slots must be a power of two from 8 to 65,536"
new_text news.BadRoom = codes "room must be 1 to 512"
new_text news.BadClients = codes "clients must be 1 to 1,024"
new_text news.BadHandles = codes "handles must be 1 to 16,384"
new_text news.BadShards = codes "shards must be a power of two from 1 to 64"
new_text news.BadCapacity = codes "capacity must be at most 2^40"
new_text news.BadSerials = codes "serials must be 1 to 2^54"
new_text news.OutOfMemory = codes "an allocation failed"

abbrev pub object_new_text : ObjectNewError → List ℕ
object_new_text (object_news.Bad why) = new_text why
object_new_text object_news.BadGone = codes "gone must be 4 to 65,536"

abbrev pub lookup_text : LookupError → List ℕ
lookup_text lookups.HandlesFull = codes "the client holds as many handles as it may"
lookup_text lookups.Spent = codes "the client has used all its serials"

abbrev pub insert_text : InsertError → List ℕ
insert_text inserts.HandlesFull = codes "the client holds as many handles as it may"
insert_text inserts.Spent = codes "the client has used all its serials"
insert_text inserts.TooLarge = codes "the charge is above a shard's capacity"
insert_text inserts.CapacityFull = codes "evictions freed too little of the charge"
insert_text inserts.OccupancyFull = codes "evictions freed no slot"

abbrev pub copy_text : CopyError → List ℕ
copy_text (copies.Refused why) = insert_text why
copy_text copies.OutOfMemory = codes "an allocation failed"

abbrev pub object_text : ObjectError → List ℕ
object_text objects.HandlesFull = codes "the client holds as many handles as it may"
object_text objects.Spent = codes "the client has used all its serials"
object_text objects.GoneFull = codes "the client's list of what is gone is full"
object_text objects.TooHigh = codes "the object's address is 2^48 or above"
object_text objects.TooLarge = codes "the charge is above a shard's capacity"
object_text (objects.CapacityFull full) = codes "evictions freed too little of the charge"
object_text (objects.OccupancyFull full) = codes "evictions freed no slot"

abbrev pub close_text : CloseError → List ℕ
close_text (closes.Missing have want) = codes "clients of the cache are out"
close_text (closes.HandlesOut client) = codes "a client holds handles"

abbrev pub object_close_text : ObjectCloseError → List ℕ
object_close_text (object_closes.Missing have want) = codes "clients of the cache are out"
object_close_text (object_closes.HandlesOut client) = codes "a client holds handles"
object_close_text (object_closes.Untaken client) = codes "a client hasn't taken all that is gone"
