use Rattle.std.proofs.Common.{◌∙◌, ◌++◌, ◌∷◌, [], ap, arith, sym}
use Rattle.nomos_floor.specs.FloorPass.{seen_by}
use Rattle.nomos_floor.specs.OwnEntries.{mine}
use Rattle.nomos_floor.proofs.HistoryLaws.{mine_push_own}
use Rattle.nomos_floor.proofs.TurnMoves.{serves}
use Rattle.nomos_floor.proofs.floor.Floor.give_back.Goals as goal

pub fetch_add-requires : goal.fetch_add-requires
fetch_add-requires g c =
    let floor = c.args.self.now in
    let seat = c.put_and_count-number.result.seat in
    let put = c.put_and_count-number.ensures in (
      put.of_floor.table,
      omega (arith, floor.sized.0),
      serves g.W.Shared.start g.W.Shared.history floor.table.shared.key.value floor.table.shared.table_id.slots seat.id
          put.served.0 seat.me c.args.turn.work put.served.1 put.holds (sym put.seen) c.requires.start,
    )

pub returns-clause-own : goal.returns-clause-own
returns-clause-own g c = ap (λ m. m.0.own) c.fetch_add.ensures.2 ∙ c.put_and_count-number.ensures.own

pub returns-clause-fired : goal.returns-clause-fired
returns-clause-fired g c = λ entry fired.
    let put = c.put_and_count-number.ensures in
    let number = c.args.turn.pass.number in
    let turn = c.requires.of_floor in
    ap (λ m. m.0.own) c.fetch_add.ensures.2
    ∙ (put.own
    ∙ (ap (λ n. mine n (g.W.Shared.history c.args.turn.work)) put.kept.number
    ∙ (ap (mine number) fired
    ∙ (mine_push_own number (seen_by c.args.turn.pass) entry ∙ ap (λ l. l ++ entry ∷ []) (sym turn.own)))))
