use Rattle.std.proofs.Common.{arith}
use Rattle.nomos_floor.proofs.TurnMoves.{counts}
use Rattle.nomos_floor.proofs.floor.Floor.count_new.Goals as goal

pub fetch_add-requires : goal.fetch_add-requires
fetch_add-requires g c =
    let floor = c.args.self.now in
    let seat = c.args.seat.now in
    let turn = c.requires.turn.0 in
    let held = c.requires.turn.1 in
    let new = rw c.if-is_new.true at (c.requires.new held.0 held.1) in (
      c.requires.table,
      omega (arith, floor.sized.0),
      counts g.W.Shared.start g.W.Shared.history floor.table.shared.key.value floor.table.shared.table_id.slots seat.id
          turn.0 seat.me held.0 new.0 turn.1 held.1 new.1,
    )
