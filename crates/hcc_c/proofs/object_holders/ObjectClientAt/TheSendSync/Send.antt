use mir.Raw.{raw}
use denote.Memory.{lone}
use denote.Builtin.{RawPtr}
use denote.Param.Send.{IsSend, owning_send, struct_send, sendable}
use denote.Struct.Struct.{exits_of}
use denote.Struct.Owning.{shape, fields, to}
use Rattle.std_alloc.proofs.SendSync.{quiet, lies}
use Rattle.std.proofs.Crossing.{frees}
use Rattle.hcc_c.proofs.object_session.ObjectSession.TheSendSync.{the_send as its-send}
use Rattle.hcc_c.specs.contracts.object_session.ObjectSession.{the_row as X}
use Rattle.hcc_c.specs.contracts.object_holders.ObjectClientAt.{the_row, the_type}

pub send : IsSend the_row
send = let O = the_type in let ps : IsSend RawPtr = search sendable in
    owning_send O (ps, tt) (λ d. (
      lies X its-send d.at d.value,
      frees.frees d.alloc (raw (lone
          X.mir)) d.at,
    ))
    (λ k. quiet (to O) (exits_of k (fields O)) ((struct_send (shape O) (ps, tt)).leaving k))
