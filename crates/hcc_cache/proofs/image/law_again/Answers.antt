use Rattle.hcc_cache.proofs.Images.ClosedAgain.{same_entries}
use Rattle.hcc_cache.proofs.image.law_again.Goals as goal

pub returns : goal.returns
returns g c = λ config tag cache next clients started closed last cache_is back is again ended
    worlds.
    same_entries g.T.Tag.fits config tag cache next clients started closed last cache_is back is
    again ended worlds
