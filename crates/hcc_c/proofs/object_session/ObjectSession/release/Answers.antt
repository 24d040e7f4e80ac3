use Rattle.std.proofs.Common.{rules}
use Rattle.hcc_c.proofs.object_session.ObjectSession.release.Goals as goal

pub returns-clause-released : goal.returns-clause-released
returns-clause-released c =
    let told = c.release.ensures in
    record {
      none = search rules;
      released = (
        c.in_ok-handle.handle,
        c.in_ok-handle.ensures.some,
        rw c.deref.ensures at told.released,
        rw c.deref.ensures at told.list,
        rw c.deref.ensures at told.gives,
        rw c.deref.ensures at told.by,
        rw c.deref.ensures at told.standing,
      );
      stays = rw c.deref.ensures at told.stays;
      rest = search rules;
      steps = search rules;
    }
