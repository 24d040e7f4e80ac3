use Rattle.std.proofs.Common.{◌≡◌, ◌∙◌, Option, None, Some, IsSome, rules, refl, sym}
use Rattle.hcc_cache.specs.Clients.{held_as, hold_of}
use Rattle.hcc_c.proofs.object_session.ObjectSession.hold.Goals as goal

-- What stands for something is there.
is_there : {A B : Type 0} (stands : Option A → Option B) → stands None ≡ None
    → (o : Option A) (b : B) → stands o ≡ Some b → IsSome o
is_there stands none None b is = let bad : None ≡ Some b = sym none ∙ is in cc
is_there stands none (Some a) b is = refl

pub returns-in_err-handle-clause-charges : goal.returns-in_err-handle-clause-charges
returns-in_err-handle-clause-charges c = record {
  between = record (c.args.self.now) { client = c.lookup.new.client };
  looks = search rules;
  words = search rules;
  charge = search rules;
  none = search rules;
  refused = search rules;
}

pub returns-in_default-clause-charges : goal.returns-in_default-clause-charges
returns-in_default-clause-charges c = record {
  between = record (c.args.self.now) { client = c.lookup.new.client; counts = c.miss.new.self };
  looks = search rules;
  words = tt;
  charge = tt;
  none = refl;
  refused = tt;
}

pub returns-clause-charges : goal.returns-clause-charges
returns-clause-charges c =
    let told = rw (c.deref.ensures, c.in-Some.is) at c.in_ok-handle.ensures.found in
    let now = c.lookup.new.client.client in
    let holds = is_there (held_as _ now.seats.items now.alone) refl (hold_of now c.in-Some.handle) _
    told.0.gains.stands in
    rw c.of.ensures (record {
      between = record (c.args.self.now) { client = c.lookup.new.client; counts = c.hit.new.self };
      looks = record {
        full = search rules;
        spent = search rules;
        refused = tt;
        found = (c.in-Some.handle, told.0, told.1, refl);
        missed = tt;
        searched = (
          Some c.in-Some.handle,
          refl,
          rw (c.deref.ensures, c.in-Some.is) at c.in_ok-handle.ensures.searched,
        );
        stays = rw c.deref.ensures at c.in_ok-handle.ensures.stays;
        counts = rw c.deref.ensures at c.in_ok-handle.ensures.counts;
        list = c.in_ok-handle.ensures.list;
        rest = search rules;
        steps = rw c.deref.ensures at c.in_ok-handle.ensures.steps;
      };
      words = refl;
      charge = record {
        none = tt;
        exact = (
          c.in-Some.handle,
          (refl, refl, holds),
          rw c.deref-2.ensures at c.charge-charge.ensures.exact,
        );
        reads = rw c.deref-2.ensures at c.charge-charge.ensures.reads;
        stays = rw c.deref-2.ensures at c.charge-charge.ensures.stays;
        list = c.charge-charge.ensures.list;
        rest = refl;
        steps = c.charge-charge.ensures.steps;
      };
      none = tt;
      refused = tt;
    })
