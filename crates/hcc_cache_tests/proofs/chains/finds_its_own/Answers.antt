use Rattle.hcc_cache_tests.proofs.chains.finds_its_own.Goals as goal

pub returns : goal.returns
returns g c = λ placed missed.
    let began = c.in_ok-cache in
    let new = c.lookup-found.new.client in
    let knew = began.ensures.shown placed in
    let searched = rw missed at c.lookup-found.ensures.searched in
    let misses = rw missed at c.lookup-found.ensures.missed in
    let taken =
    c.law_lookups.ensures.taken began.cache began.ensures.began c.args.key began.client new
    began.ensures.first searched knew in
    record {
      lost = record {
        before = began.client;
        same = misses.works.self.0;
        knew = knew;
        taken = taken;
        gone =
            c.law_shown_since.ensures.gone began.cache began.ensures.began c.args.key began.client
            new taken.goes knew taken.since;
      };
      hidden = λ goes held.
          c.law_lookups.ensures.pinned began.cache began.ensures.began c.args.key began.client new
          began.ensures.first searched knew goes held;
    }
