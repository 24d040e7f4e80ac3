-- What a client's look-ups and insertions in a cache of objects came to.
use Rattle.std.specs.Prelude.{Option, Some, None, Result, Ok, Err}
use Rattle.hcc_cache.specs.declared.errors.LookupError.{LookupError}
use Rattle.hcc_cache.specs.declared.errors.ObjectError.{ObjectError}
use Rattle.hcc_cache.specs.declared.object_inserting.Placing.{Placing}
use Rattle.hcc_cache.specs.declared.object_inserting.Placing.TheVariants.{Placed, Dropped, Standalone}
use Rattle.hcc_cache.specs.declared.objects.Object.{Object}
use Rattle.hcc_cache.specs.Totals.{with_count}
use Rattle.hcc_c.specs.declared.inserting.Unfit.{Unfit}
use Rattle.hcc_c.specs.declared.shapes.Counts.{Counts}
use Rattle.hcc_c.specs.declared.shapes.CHandle.{CHandle}
use Rattle.hcc_c.specs.Counts.{one_hit, one_miss, one_refused}

-- a look-up; one that is refused isn't counted
abbrev pub counted_look : Result (Option (CHandle × Object)) LookupError → Counts → Counts
counted_look (Ok None) counts = one_miss counts
counted_look (Ok (Some found)) counts = one_hit counts
counted_look (Err why) counts = counts

abbrev pub one_put : Placing → Counts → Counts
one_put Placed counts = record counts { placed = with_count counts.placed 1 }
one_put (Dropped full) counts = record counts { dropped = with_count counts.dropped 1 }
one_put (Standalone full) counts = record counts { standalone = with_count counts.standalone 1 }

-- an insertion; one that isn't fit isn't counted
abbrev pub counted_put : Result (Result Placing ObjectError) Unfit → Counts → Counts
counted_put (Ok (Ok what)) counts = one_put what counts
counted_put (Ok (Err why)) counts = one_refused counts
counted_put (Err why) counts = counts

abbrev pub counted_pinned : Result (Result (CHandle × Placing) ObjectError) Unfit → Counts → Counts
counted_pinned (Ok (Ok made)) counts = one_put made.1 counts
counted_pinned (Ok (Err why)) counts = one_refused counts
counted_pinned (Err why) counts = counts
