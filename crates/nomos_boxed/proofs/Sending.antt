-- A boxed machine may go to another thread, where the machine may.
use denote.RattleType.{RattleType}
use denote.Param.Send.{IsSend}
use Rattle.nomos_boxed.proofs.boxed.Boxed.TheSendSync as boxed
use Rattle.nomos_boxed.specs.contracts.boxed.Boxed as Boxed

pub boxed_sends : (M : RattleType) → IsSend M → IsSend (Boxed.the_row M)
boxed_sends M sends = boxed.the_send M sends
