use Rattle.std.proofs.Common.{◌∙◌, ◌<◌, ◌≤◌, length, ap, arith}
use Rattle.hcc_cache.specs.declared.closed.Closed.{Closed}
use Rattle.hcc_cache.specs.Left.{slots_at}
use Rattle.hcc_cache.proofs.HandedBack.ObjectsWalked.{walk_none, walk_on, walk_some}
use Rattle.hcc_cache.proofs.objects_left.ObjectsLeft.next_of_shard.Goals as goal

pub returns-in-Some-clause-some : goal.returns-in-Some-clause-some
returns-in-Some-clause-some c =
    let self = c.loop-self.self in
    let gone = c.in-Some.gone in
    let inside : self.slot < slots_at self.closed.shards.items self.shard =
    let test = c.loop-self-test.true in let count = c.slots.ensures in omega arith in
    c.loop-self.invariant.left
    ∙ walk_some self.closed self.shard self.slot (gone.key, gone.object) inside c.in-Some.ensures

pub loop-self-preserved : goal.loop-self-preserved
loop-self-preserved c =
    let self = c.loop-self.self in
    let inside : self.slot < slots_at self.closed.shards.items self.shard =
    let test = c.loop-self-test.true in let count = c.slots.ensures in omega arith in
    record {
      closed = c.loop-self.invariant.closed;
      shard = c.loop-self.invariant.shard;
      left = c.loop-self.invariant.left
          ∙ walk_none self.closed self.shard self.slot inside c.in_default.ensures;
    }

pub returns-clause-none : goal.returns-clause-none
returns-clause-none c =
    let self = c.loop-self.self in
    let shards = ap (λ (x : Closed). length x.shards.items) c.loop-self.invariant.closed in
    let at = c.loop-self.invariant.shard in
    let within = c.requires in
    let inside : self.shard < length self.closed.shards.items = omega arith in
    let past : slots_at self.closed.shards.items self.shard ≤ self.slot =
    let test = c.loop-self-test.false in let count = c.slots.ensures in omega arith in
    c.loop-self.invariant.left ∙ walk_on self.closed self.shard self.slot inside past
