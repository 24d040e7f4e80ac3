use Rattle.std.proofs.Common.{rules, ◌∙◌, sym}
use Rattle.hcc_c.proofs.ObjectBacks.{new_back, new_count, new_sized}
use Rattle.hcc_c.proofs.object_pool.ObjectPool.open.Goals as goal

pub of-requires-clause-sized : goal.of-requires-clause-sized
of-requires-clause-sized c =
    new_sized c.args.config c.in-Ok.made.0 c.in-Ok.made.1.items c.in-Ok.ensures.made

pub of-requires-clause-back : goal.of-requires-clause-back
of-requires-clause-back c =
    new_back c.args.config c.in-Ok.made.0 c.in-Ok.made.1.items c.in-Ok.ensures.made

pub of-requires-clause-count : goal.of-requires-clause-count
of-requires-clause-count c =
    new_count c.args.config c.in-Ok.made.0 c.in-Ok.made.1.items c.in-Ok.ensures.made
    ∙ sym c.requires

pub returns-in-Ok-of : goal.returns-in-Ok-of
returns-in-Ok-of c = record {
  opens = record {
    refused = search rules;
    memory = search rules;
    nothing = tt;
    opened = record {
      cache = c.in-Ok.made.0;
      clients = c.in-Ok.made.1.items;
      opened = c.in-Ok.ensures.made;
      begins = c.in-Ok-of.ensures.begins;
    };
    whole = c.in-Ok-of.ensures.whole;
  };
}
