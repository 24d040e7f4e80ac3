use Rattle.hcc_cache.proofs.Clients.HeldThrough.{held_through}
use Rattle.hcc_cache.proofs.shared.law_held_through.Goals as goal

pub returns : goal.returns
returns g c = λ cache began key name old new knows k loads other m slot goes h more later parts.
    held_through g.T.Tag.fits cache began key name old new knows k loads other m slot goes h more
    later parts
