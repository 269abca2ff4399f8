-- Four lines are written one behind another.
use Rattle.std.proofs.Common.{◌<◌, ◌^◌, refl, arith}
use Rattle.std.proofs.lemmas.Result.{on_ok_weaker}
use Rattle.nomos_snapshot.proofs.SavingLemmas.{heads-written}
use Rattle.nomos_snapshot.proofs.saving.push_heads.Goals as goal

pub returns : goal.returns
returns c = λ lists.
    let head = rw c.in_ok-push_head.was at (c.push_head.ensures lists) in
    let unit = rw c.in_ok-push_unit.was at (c.push_unit.ensures lists) in
    let next = rw c.in_ok-push_next.was at (c.push_next.ensures lists) in
    let small : c.args.unit < 2 ^ 32 = omega arith in
    let d = c.args.contents.now in
    on_ok_weaker c.push_spent.result
    (heads-written {lists = lists} c.args.unit d.next_object d.next_name d.spent small c.requires.objects
    c.requires.names (c.if-not-is_gas.ensures.0 refl) head unit next)
    (c.push_spent.ensures lists)
