use Rattle.std.proofs.Common.{rules}
use Rattle.hcc_c.proofs.Backs.{all_back}
use Rattle.hcc_c.proofs.pool.Pool.open.Goals as goal

pub of-requires-clause-back : goal.of-requires-clause-back
of-requires-clause-back c =
    let opened = c.in-Ok.ensures.made in
    all_back c.in-Ok.made.0 c.in-Ok.made.1.items opened.known
    (λ k client at. (opened.dealt.each k client at).unused.held)

pub returns-in-Ok-of : goal.returns-in-Ok-of
returns-in-Ok-of c = record {
  opens = record {
    refused = search rules;
    memory = search rules;
    nothing = tt;
    opened = record {
      tag = _;
      cache = c.in-Ok.made.0;
      clients = c.in-Ok.made.1.items;
      opened = c.in-Ok.ensures.made;
      began = c.in-Ok.ensures.began;
      past = c.in-Ok.ensures.past;
      begins = c.in-Ok-of.ensures.begins;
    };
    whole = c.in-Ok-of.ensures.whole;
  };
}
