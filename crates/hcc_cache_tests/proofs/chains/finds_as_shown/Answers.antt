use Rattle.hcc_cache_tests.proofs.chains.finds_as_shown.Goals as goal

pub returns : goal.returns
returns g c = λ handle is.
    let began = c.in_ok-cache in
    let searched = rw is at c.lookup-found.ensures.searched in
    record {
      before = began.client;
      did = searched;
      made =
          c.law_lookups.ensures.made began.cache c.args.key handle began.client
          c.lookup-found.new.client searched;
    }
