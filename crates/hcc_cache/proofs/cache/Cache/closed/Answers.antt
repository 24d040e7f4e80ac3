use Rattle.std.proofs.Common.{◌≡◌, [], ◌∷◌, ◌++◌, option_to_list, refl, ap, ◌∙◌, length, reverse, arith}
use Rattle.std.proofs.lemmas.List.{take_at}
use Rattle.hcc_cache.proofs.Endings.ClosedShards.{IsClosing, closed_all, closing_more, closing_none, has_last, names_enough, room_left, whole_all, worlds_all}
use Rattle.hcc_cache.proofs.cache.Cache.closed.Goals as goal

pub loop-shard-init : goal.loop-shard-init
loop-shard-init g c = record {
  closes = closing_none g.T.Tag.fits c.args.self c.args.clients.items c.requires _
      (ap length c.new-closed.ensures);
}

pub joined-seat-requires-clause-some : goal.joined-seat-requires-clause-some
joined-seat-requires-clause-some g c =
    let clients = c.loop-shard.invariant.closes.clients in
    let enough = c.requires.enough in
    let one = c.args.self.limits.some_client in
    omega arith

pub joined-seat-requires-clause-last : goal.joined-seat-requires-clause-last
joined-seat-requires-clause-last g c k client h =
    let ys = c.pop.new.self.items in
    let d = c.in-Some.shard in
    let whole : c.loop-shard.shards.items ≡ ys ++ d ∷ [] =
    c.pop.ensures.items ∙ ap (λ o. ys ++ option_to_list o) c.in-Some.is in
    let n_is : c.len.result ≡ length ys = c.len.ensures ∙ c.pop.new.self.ok.0 in
    let from : IsClosing g.T.Tag.fits c.args.self c.args.clients.items
    (ys ++ d ∷ []) c.loop-shard.closed.items c.loop-shard.clients.items =
    rw whole at c.loop-shard.invariant.closes in
    rw n_is (has_last g.T.Tag.fits c.args.self c.args.clients.items c.requires ys d
    c.loop-shard.closed.items c.loop-shard.clients.items from k client h)

pub close_joined-requires-clause-all : goal.close_joined-requires-clause-all
close_joined-requires-clause-all g c =
    let ys = c.pop.new.self.items in
    let d = c.in-Some.shard in
    let whole : c.loop-shard.shards.items ≡ ys ++ d ∷ [] =
    c.pop.ensures.items ∙ ap (λ o. ys ++ option_to_list o) c.in-Some.is in
    let n_is : c.len.result ≡ length ys = c.len.ensures ∙ c.pop.new.self.ok.0 in
    let from : IsClosing g.T.Tag.fits c.args.self c.args.clients.items
    (ys ++ d ∷ []) c.loop-shard.closed.items c.loop-shard.clients.items =
    rw whole at c.loop-shard.invariant.closes in
    let enough = c.requires.enough in
    let one = c.args.self.limits.some_client in
    names_enough g.T.Tag.fits c.args.self c.args.clients.items c.requires ys d
    c.loop-shard.closed.items c.loop-shard.clients.items from c.joined-seat.result
    (omega arith) (rw n_is at c.joined-seat.ensures.view)

pub push-requires : goal.push-requires
push-requires g c =
    let ys = c.pop.new.self.items in
    let d = c.in-Some.shard in
    let whole : c.loop-shard.shards.items ≡ ys ++ d ∷ [] =
    c.pop.ensures.items ∙ ap (λ o. ys ++ option_to_list o) c.in-Some.is in
    let from : IsClosing g.T.Tag.fits c.args.self c.args.clients.items
    (ys ++ d ∷ []) c.loop-shard.closed.items c.loop-shard.clients.items =
    rw whole at c.loop-shard.invariant.closes in
    let enough = c.requires.enough in
    let one = c.args.self.limits.some_client in
    let room = room_left g.T.Tag.fits c.args.self c.args.clients.items c.requires ys d
    c.loop-shard.closed.items c.loop-shard.clients.items from (omega arith) in
    omega arith

pub loop-shard-preserved : goal.loop-shard-preserved
loop-shard-preserved g c =
    let ys = c.pop.new.self.items in
    let d = c.in-Some.shard in
    let whole : c.loop-shard.shards.items ≡ ys ++ d ∷ [] =
    c.pop.ensures.items ∙ ap (λ o. ys ++ option_to_list o) c.in-Some.is in
    let n_is : c.len.result ≡ length ys = c.len.ensures ∙ c.pop.new.self.ok.0 in
    let from : IsClosing g.T.Tag.fits c.args.self c.args.clients.items
    (ys ++ d ∷ []) c.loop-shard.closed.items c.loop-shard.clients.items =
    rw whole at c.loop-shard.invariant.closes in
    let enough = c.requires.enough in
    let one = c.args.self.limits.some_client in
    record {
      closes =
          rw c.push.ensures.items
          (closing_more g.T.Tag.fits c.args.self c.args.clients.items c.requires ys d
          c.loop-shard.closed.items c.loop-shard.clients.items from c.joined-seat.result
          (omega arith) (rw n_is at c.joined-seat.ensures.view) c.joined-seat.new.clients.items
          c.close_joined.result c.joined-seat.ensures.count (rw n_is at c.joined-seat.ensures.left)
          c.close_joined.ensures.size c.close_joined.ensures.closes c.close_joined.ensures.within
          (record {
            known = rw n_is at c.joined-seat.ensures.known;
            allowed = c.close_joined.ensures.allowed;
            shows = c.close_joined.ensures.left;
          }));
    }

-- the items that are left stand turned round
pub invariant_of-result : goal.invariant_of-result
invariant_of-result g c =
    let none = c.in_default.ensures.cases in
    let enough = c.requires.enough in
    let one = c.args.self.limits.some_client in
    let length_is = c.loop-shard.shards.ok.0 in
    record {
      whole =
          whole_all g.T.Tag.fits c.args.self c.args.clients.items c.requires
          c.loop-shard.clients.items c.loop-shard.shards.items c.loop-shard.closed.items _
          c.loop-shard.invariant.closes (omega arith)
          (take_at c.reverse.new.self _ (length c.loop-shard.closed.items)
          (c.reverse.ensures.len ∙ ap length c.deref_mut.ensures.value)
          ∙ (c.reverse.ensures.after ∙ ap reverse c.deref_mut.ensures.value)) (omega arith);
    }

pub returns-clause-closes : goal.returns-clause-closes
returns-clause-closes g c =
    let none = c.in_default.ensures.cases in
    let enough = c.requires.enough in
    let one = c.args.self.limits.some_client in
    let length_is = c.loop-shard.shards.ok.0 in
    closed_all g.T.Tag.fits c.args.self c.args.clients.items c.requires c.loop-shard.clients.items
    c.loop-shard.shards.items c.loop-shard.closed.items _ c.loop-shard.invariant.closes
    (omega arith)
    (take_at c.reverse.new.self _ (length c.loop-shard.closed.items)
    (c.reverse.ensures.len ∙ ap length c.deref_mut.ensures.value)
    ∙ (c.reverse.ensures.after ∙ ap reverse c.deref_mut.ensures.value))
    _ (omega arith) refl refl

pub returns-clause-left : goal.returns-clause-left
returns-clause-left g c s shard left at h =
    let none = c.in_default.ensures.cases in
    let enough = c.requires.enough in
    let one = c.args.self.limits.some_client in
    let length_is = c.loop-shard.shards.ok.0 in
    worlds_all g.T.Tag.fits c.args.self c.args.clients.items c.requires c.loop-shard.clients.items
    c.loop-shard.shards.items c.loop-shard.closed.items _ c.loop-shard.invariant.closes
    (omega arith)
    (take_at c.reverse.new.self _ (length c.loop-shard.closed.items)
    (c.reverse.ensures.len ∙ ap length c.deref_mut.ensures.value)
    ∙ (c.reverse.ensures.after ∙ ap reverse c.deref_mut.ensures.value)) s shard left at h
