use Rattle.std.proofs.Common.{◌∙◌, ap, sym, arith, ◌∷◌, Some}
use Rattle.atomic_table.specs.Table.{rest}
use Rattle.nomos_floor.proofs.TurnMoves.{draws}
use Rattle.nomos_floor.proofs.floor.Floor.take_turn.Goals as goal

pub fetch_add-ticket-requires : goal.fetch_add-ticket-requires
fetch_add-ticket-requires g c =
    let floor = c.args.self.now in
    let seat = c.args.pass.seat in (
      c.requires.of_floor.table,
      omega (arith, floor.sized.0),
      draws g.W.Shared.start g.W.Shared.history floor.table.shared.key.value floor.table.shared.table_id.slots seat.id
          seat.me c.requires.idle,
    )

pub exchange-requires : goal.exchange-requires
exchange-requires g c =
    let turn = c.wait_for.ensures.turn in
    let holds = ap (λ m. m.1) turn.2 in (
      c.wait_for.ensures.table ∙ (c.fetch_add-ticket.ensures.0 ∙ c.requires.of_floor.table),
      (Some turn.0, holds ∙ ap (λ l. (0, Some turn.0) ∷ rest l) (sym holds)),
    )
