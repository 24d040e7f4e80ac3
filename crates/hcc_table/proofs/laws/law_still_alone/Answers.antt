use Rattle.hcc_table.proofs.Lasting.{alone_shows, searches_seek}
use Rattle.hcc_table.proofs.Releases.{releases_show, still_shows}
use Rattle.hcc_table.proofs.Unerased.{unerased_hidden}
use Rattle.hcc_table.proofs.laws.law_still_alone.Goals as goal

pub returns-clause-still : goal.returns-clause-still
returns-clause-still g c table old new one goes = still_shows table one old new goes

pub returns-clause-seeks : goal.returns-clause-seeks
returns-clause-seeks g c table old new one seeks = alone_shows table one seeks

pub returns-clause-searches : goal.returns-clause-searches
returns-clause-searches g c table key name marks answer before after old new one searches =
    alone_shows table one
    (searches_seek g.T.Tag.fits table key name marks answer before after old new searches)

pub returns-clause-releases : goal.returns-clause-releases
returns-clause-releases g c table slot name room used erase freed old new one releases =
    releases_show table one slot name room used erase freed old new releases

pub returns-clause-unerased : goal.returns-clause-unerased
returns-clause-unerased g c table slot name charge room used old new one releases =
    unerased_hidden table one slot name charge room used old new releases
