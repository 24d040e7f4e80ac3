use Rattle.std.proofs.Common.{map, refl, ◌∙◌}
use Rattle.std.specs.Vec.Iter.{into_iter_items}
use Rattle.hcc_player.specs.declared.blocks.worker.Worker.{Worker}
use Rattle.hcc_player.proofs.Crewing.{made_none, made_more}
use Rattle.hcc_player.proofs.Places.{count_map}
use Rattle.hcc_player.proofs.blocks.crew.crew.Goals as goal

pub loop-client-init : goal.loop-client-init
loop-client-init g c =
    let clients = c.into_iter-clients.ensures.rest in
    let sources = c.into_iter-sources.ensures.rest in
    let lists = c.into_iter-lists.ensures.rest in
    rw (clients, sources, lists)
    (made_none c.args.clients.items c.args.sources.items
    (map (λ list. list.items) c.args.lists.items) c.args.block c.in_ok-workers.workers.items
    c.in_ok-workers.ensures.items c.requires.sources
    (count_map (λ list. list.items) c.args.lists.items ∙ c.requires.lists))

pub loop-client-preserved : goal.loop-client-preserved
loop-client-preserved g c =
    let clients = c.in-Some.ensures.items in
    let sources = c.taken-source.ensures in
    let lists = c.taken-lines.ensures in
    let so_far = rw (clients, sources, lists) at c.loop-client.invariant in
    let w : Worker g.row.T.Denot g.row.S.Denot = record {
      client = c.in-Some.client;
      reader = c.new.result;
      lines = c.taken-lines.result;
      buffer = c.in_ok-buffer.field-0;
    } in
    rw (c.in_ok-push.ensures.items)
    (made_more c.args.clients.items c.args.sources.items
    (map (λ list. list.items) c.args.lists.items) c.args.block c.in-Some.client
    (into_iter_items c.next.new.self) c.taken-source.result
    (into_iter_items c.taken-source.new.left)
    c.taken-lines.result.items (map (λ list. list.items) (into_iter_items c.taken-lines.new.left))
    c.loop-client.workers.items w so_far
    (record {
      client_is = refl;
      source_is = c.new.ensures.source;
      lines_are = refl;
      block_is = c.new.ensures.block;
      counts = c.new.ensures.counts;
      buffer = c.in_ok-buffer.ensures;
    }))
