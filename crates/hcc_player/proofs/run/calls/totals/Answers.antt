use Rattle.std.proofs.Common.{refl}
use Rattle.hcc_cache.specs.Totals.{charge_by, entries_by}
use Rattle.hcc_player.specs.RunAnswers.{IsRight}
use Rattle.hcc_player.specs.RunCalls.{Does}
use Rattle.hcc_player.proofs.HeldCharges.{covers_entries, covers_held, covers_more, entries_more}
use Rattle.hcc_player.proofs.HeldCharges.{loads_agree, searches_agree}
use Rattle.hcc_player.proofs.RegisterLemmas.{same_filled}
use Rattle.hcc_player.proofs.run.calls.totals.Goals as goal

pub returns-clause-goes : goal.returns-clause-goes
unfolding IsRight
returns-clause-goes g c handles config s filled =
    let fits = g.T.Tag.fits in
    let cache = c.args.cache.now in
    let old = c.args.client.now in
    let mid = c.usage-usage.new.client in
    let last = c.pinned_usage-pinned.new.client in
    let used = c.usage-usage.ensures in
    let pinned = c.pinned_usage-pinned.ensures in
    let full = c.occupancy-occupancy.ensures in
    let first = same_filled fits cache config s old mid handles
    used.known used.views.self used.keeps filled in
    let second = same_filled fits cache config s mid last handles
    pinned.known pinned.views.self pinned.keeps first in
    let agree = loads_agree cache c.usage-usage.result old mid filled.known used.known used.loads
    in
    let agrees = searches_agree mid last pinned.views agree.1 in (
      s,
      (
        covers_more s (charge_by old) c.usage-usage.result used.entries
            (covers_held fits cache config s old handles filled agree.0),
        covers_more s (charge_by mid) c.pinned_usage-pinned.result pinned.entries
            (covers_held fits cache config s mid handles first agree.1),
        entries_more s (entries_by last) c.occupancy-occupancy.result full.entries
            (covers_entries fits cache config s last handles second agrees),
        refl,
      ),
      same_filled fits cache config s last c.occupancy-occupancy.new.client handles full.known
          full.reads.rests.self full.reads.keeps second,
    )

pub returns-clause-did : goal.returns-clause-did
unfolding Does
returns-clause-did g c handles = record {
  first = c.usage-usage.new.client;
  second = c.pinned_usage-pinned.new.client;
  loads = c.usage-usage.ensures.loads;
  views = c.usage-usage.ensures.views;
  charged = c.usage-usage.ensures.entries;
  searches = c.pinned_usage-pinned.ensures.views;
  stays = c.pinned_usage-pinned.ensures.stays;
  held = c.pinned_usage-pinned.ensures.entries;
  alone = c.pinned_usage-pinned.ensures.alone;
  counts = c.occupancy-occupancy.ensures.loads;
  reads = c.occupancy-occupancy.ensures.reads;
  entries = c.occupancy-occupancy.ensures.entries;
  lone = c.occupancy-occupancy.ensures.alone;
}
