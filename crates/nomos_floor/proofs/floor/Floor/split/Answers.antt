use Rattle.std.proofs.Common.{◌∙◌, arith}
use Rattle.nomos_floor.proofs.PassMoves.{splits}
use Rattle.nomos_floor.proofs.floor.Floor.split.Goals as goal

pub split_seat-seat-requires : goal.split_seat-seat-requires
split_seat-seat-requires g c =
    let pass = c.requires.of_floor in
    let seat = c.args.pass.now.seat in (
      pass.of_floor.table,
      omega (arith, c.args.self.now.sized.0),
      splits g.W.Shared.start g.W.Shared.history c.args.self.now.table.shared.key.value seat.id seat.me.0 pass.idle
          (pass.of_floor.number ∙ c.requires.opening)
          (omega (arith, pass.of_floor.next, c.requires.room)),
    )
