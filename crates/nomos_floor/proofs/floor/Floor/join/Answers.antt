use Rattle.std.proofs.Common.{◌≡◌, ◌∙◌, arith}
use Rattle.nomos_floor.specs.FloorSteps.{joined}
use Rattle.nomos_floor.proofs.PassMoves.{joins, learns_at}
use Rattle.nomos_floor.proofs.floor.Floor.join.Goals as goal

pub join_seat-requires : goal.join_seat-requires
join_seat-requires g c =
    let floor = c.args.self.now in
    let pass = c.requires.of_floor.0 in
    let other = c.requires.of_floor.1 in
    let seat = c.args.pass.now.seat in
    let their = c.args.other.seat in (
      pass.of_floor.table,
      other.of_floor.table,
      other.holds,
      omega (arith, floor.sized.0),
      joins g.W.Shared.start g.W.Shared.history floor.table.shared.key.value seat.id their.id seat.me.0 their.me.0
          pass.idle other.idle (pass.of_floor.number ∙ c.requires.opening),
    )

pub load-requires : goal.load-requires
load-requires g c =
    let floor = c.args.self.now in
    let seat = c.join_seat.new.seat in
    let old = c.args.pass.now.seat in
    let pass = c.requires.of_floor.0 in
    let table : seat.table_id ≡ floor.table.shared.table_id = cc (c.join_seat.ensures.0, pass.of_floor.table) in (
      table,
      omega (arith, floor.sized.0),
      learns_at g.W.Shared.start g.W.Shared.history floor.table.shared.key.value floor.table.shared.table_id.slots
          seat.id seat.me (joined old.me.0 c.args.other.seat.me.0) old.me.1 c.join_seat.ensures.2 pass.idle,
    )
