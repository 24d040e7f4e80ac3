use Rattle.hcc_cache.proofs.Images.AllComesBack.{whole_taken}
use Rattle.hcc_cache.proofs.image.law_whole.Goals as goal

pub returns : goal.returns
returns g c = λ config tag cache clients closed cache_is back is.
    whole_taken g.T.Tag.fits config tag cache clients closed cache_is back is
