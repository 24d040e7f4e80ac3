use Rattle.hcc_cache.proofs.Images.ShardByShard.{visible_right}
use Rattle.hcc_cache.proofs.image.law_images.Goals as goal

pub returns : goal.returns
returns g c = λ cache clients closed is. visible_right g.T.Tag.fits cache clients closed is
