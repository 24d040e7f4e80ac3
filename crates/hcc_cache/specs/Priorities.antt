-- The first countdown of an entry, by its priority.
use Rattle.std.specs.Prelude.{ℕ}
use Rattle.hcc_cache.specs.declared.priority.Priority.{Priority}
use Rattle.hcc_cache.specs.declared.priority.Priority.TheVariants.{High, Low, Bottom}

abbrev pub countdown_of : Priority → ℕ
countdown_of High = 3
countdown_of Low = 2
countdown_of Bottom = 1
