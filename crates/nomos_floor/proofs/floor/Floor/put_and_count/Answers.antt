use Rattle.std.proofs.Common.{◌∙◌, refl, sym}
use Rattle.nomos_floor.proofs.TurnMoves.{puts_work, counts_work, counts_kept}
use Rattle.nomos_floor.proofs.floor.Floor.put_and_count.Goals as goal

pub count_new-requires-clause-turn : goal.count_new-requires-clause-turn
count_new-requires-clause-turn g c =
    let turn = c.requires.of_floor in
    let seat = c.args.turn.pass.seat in
    let put = puts_work seat.me.0 seat.me.1 c.exchange.new.seat.me c.args.turn.work turn.served.0
    (c.exchange.ensures.3, turn.holds) turn.served.1 in
    ((turn.served.0, put.0), (c.args.turn.work, put.1))

pub returns : goal.returns
returns g c =
    let taken = c.args.turn in
    let old = taken.pass.seat in
    let turn = c.requires.of_floor in
    let seat = c.count_new.new.seat in
    let ready = counts_work old.me.0 old.me.1 c.exchange.new.seat.me taken.work g.W.Shared.history turn.served.0
    taken.pass.number seat.me (c.exchange.ensures.3, turn.holds) turn.served.1 turn.of_floor.number turn.own
    c.count_new.ensures.counted in
    let kept = counts_kept old.me.0 old.me.1 c.exchange.new.seat.me taken.work g.W.Shared.history seat.me
    (c.exchange.ensures.3, turn.holds) c.count_new.ensures.counted in
    record {
      of_floor = record {
        table = c.count_new.ensures.table ∙ (c.exchange.ensures.0 ∙ turn.of_floor.table);
        opened = kept.0 ∙ turn.of_floor.opened;
        number = kept.1 ∙ turn.of_floor.number;
        next = kept.2 ∙ turn.of_floor.next;
      };
      served = (turn.served.0, ready.0);
      holds = ready.1;
      seen = sym ready.2;
      own = ready.3;
      kept = record { number = refl; next = refl; out = kept.3; ended = kept.4 };
    }
