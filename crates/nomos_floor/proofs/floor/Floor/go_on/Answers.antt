use Rattle.std.proofs.Common.{◌≡◌, ◌∙◌, ◌%◌, ◌^◌, length, ap, sym, ◌∷◌, Some, None}
use Rattle.atomic_table.specs.Table.{rest}
use Rattle.nomos_floor.specs.OwnEntries.{mine}
use Rattle.nomos_floor.proofs.TurnMoves.{same_work}
use Rattle.nomos_floor.proofs.floor.Floor.go_on.Goals as goal

pub exchange-requires : goal.exchange-requires
exchange-requires g c =
    let put = c.put_and_count-pass.ensures in (
      put.of_floor.table,
      (
        Some c.args.turn.work,
        put.holds ∙ ap (λ l. (0, Some c.args.turn.work) ∷ rest l)
            (sym put.holds),
      ),
    )

pub returns-clause-of_floor : goal.returns-clause-of_floor
returns-clause-of_floor g c =
    let put = c.put_and_count-pass.ensures in
    let work = c.args.turn.work in
    let held = c.put_and_count-pass.result.seat.me.1 in
    let last = c.exchange.ensures.3 in
    let same : work ≡ c.unwrap-work.result =
    same_work held work c.unwrap-work.result c.exchange.result put.holds c.exchange.ensures.2
    c.unwrap-work.ensures in
    let seen : g.W.Shared.history work ≡ c.exchange.new.seat.me.0.seen = sym (ap (λ m. m.0.seen) last ∙ put.seen) in
    record {
      of_floor = record {
        table = c.exchange.ensures.0 ∙ put.of_floor.table;
        opened = ap (λ m. m.0.opened) last ∙ put.of_floor.opened;
        number = ap (λ m. m.0.number) last ∙ put.of_floor.number;
        next = ap (λ m. m.0.next) last ∙ put.of_floor.next;
      };
      served = (put.served.0, ap (λ m. m.0.stage) last ∙ put.served.1);
      holds = ap (λ m. m.1) last ∙ ap (λ l. (0, None) ∷ rest l) put.holds;
      entries =
          c.entries-entries.ensures
          ∙ (ap (λ w. length (g.W.Shared.history w) % 2 ^ 64) (sym same) ∙ ap (λ h. length h % 2 ^ 64) seen);
      own = ap (λ m. m.0.own) last ∙ (put.own ∙ ap (λ h. mine c.put_and_count-pass.result.number h) seen);
    }
