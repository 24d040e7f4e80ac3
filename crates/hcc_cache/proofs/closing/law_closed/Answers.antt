use Rattle.hcc_rule.specs.Callers.{world_at}
use Rattle.hcc_rule.specs.Closing.{words_of}
use Rattle.hcc_shard.specs.Callers.{view_of}
use Rattle.hcc_cache.specs.Keys.{fits_seeded, tag_at}
use Rattle.hcc_cache.proofs.Endings.OneClientClosed.{closed_alone, shown_alone}
use Rattle.hcc_cache.proofs.closing.law_closed.Goals as goal

pub returns-clause-worlds : goal.returns-clause-worlds
returns-clause-worlds g c = λ cache client closed leaves s shard seat left at sits here.
    closed_alone g.T.Tag.fits cache client s shard seat left sits (leaves s shard left at here)

pub returns-clause-shown : goal.returns-clause-shown
returns-clause-shown g c = λ cache client closed leaves s shard seat left at sits here.
    shown_alone (fits_seeded g.T.Tag.fits) (tag_at cache s) cache.geometry (words_of left.table)
    (view_of seat) (world_at shard.table seat.seat)
    (closed_alone g.T.Tag.fits cache client s shard seat left sits (leaves s shard left at here))
