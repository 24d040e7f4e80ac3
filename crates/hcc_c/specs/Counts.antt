-- What a client's look-ups and insertions came to, in counts that saturate.
use Rattle.std.specs.Prelude.{Option, Some, None, Result, Ok, Err}
use Rattle.hcc_table.specs.declared.optimistic.Got.{Got}
use Rattle.hcc_table.specs.declared.optimistic.Got.TheVariants.{Hit, Miss, Short}
use Rattle.hcc_cache.specs.declared.errors.CopyError.{CopyError}
use Rattle.hcc_cache.specs.declared.errors.InsertError.{InsertError}
use Rattle.hcc_cache.specs.declared.errors.LookupError.{LookupError}
use Rattle.hcc_cache.specs.declared.inserting.Inserted.{Inserted}
use Rattle.hcc_cache.specs.declared.inserting.Inserted.TheVariants.{Placed, Dropped, Standalone}
use Rattle.hcc_cache.specs.Totals.{with_count}
use Rattle.hcc_c.specs.declared.inserting.Unfit.{Unfit}
use Rattle.hcc_c.specs.declared.shapes.Counts.{Counts}
use Rattle.hcc_c.specs.declared.shapes.CHandle.{CHandle}

abbrev pub no_counts : Counts
no_counts = record {
  hits = 0;
  misses = 0;
  placed = 0;
  dropped = 0;
  standalone = 0;
  refused = 0;
}

-- one more of each
abbrev pub one_hit : Counts → Counts
one_hit counts = record counts { hits = with_count counts.hits 1 }

abbrev pub one_miss : Counts → Counts
one_miss counts = record counts { misses = with_count counts.misses 1 }

abbrev pub one_refused : Counts → Counts
one_refused counts = record counts { refused = with_count counts.refused 1 }

abbrev pub one_inserted : Inserted → Counts → Counts
one_inserted Placed counts = record counts { placed = with_count counts.placed 1 }
one_inserted Dropped counts = record counts { dropped = with_count counts.dropped 1 }
one_inserted Standalone counts = record counts { standalone = with_count counts.standalone 1 }

-- a look-up, and a reading by a key; one that is refused isn't counted
abbrev pub counted_look : Result (Option CHandle) LookupError → Counts → Counts
counted_look (Ok None) counts = one_miss counts
counted_look (Ok (Some number)) counts = one_hit counts
counted_look (Err why) counts = counts

abbrev pub counted_get : Got → Counts → Counts
counted_get (Hit count) counts = one_hit counts
counted_get (Short count) counts = counts
counted_get Miss counts = one_miss counts

-- an insertion; one that isn't fit isn't counted
abbrev pub counted_insert : Result (Result Inserted InsertError) Unfit → Counts → Counts
counted_insert (Ok (Ok what)) counts = one_inserted what counts
counted_insert (Ok (Err why)) counts = one_refused counts
counted_insert (Err why) counts = counts

abbrev pub counted_pinned : Result (Result (CHandle × Inserted) CopyError) Unfit
    → Counts → Counts
counted_pinned (Ok (Ok made)) counts = one_inserted made.1 counts
counted_pinned (Ok (Err why)) counts = one_refused counts
counted_pinned (Err why) counts = counts
