use Rattle.std.proofs.Common.{◌∙◌, ap, arith}
use Rattle.nomos_floor.proofs.TurnMoves.{looks_at}
use Rattle.nomos_floor.proofs.floor.Floor.wait_for.Goals as goal

pub load-requires : goal.load-requires
load-requires g c =
    let floor = c.args.self.now in
    let seat = c.loop.seat in
    let same = c.loop.invariant in
    let drawn = c.requires.drawn.0 in (
      same.0 ∙ c.requires.table,
      omega (arith, floor.sized.0),
      looks_at g.W.Shared.start g.W.Shared.history floor.table.shared.key.value floor.table.shared.table_id.slots
          seat.id drawn.0 seat.me floor.sized.1 (ap (λ m. m.0.stage) same.1 ∙ drawn.1),
    )
