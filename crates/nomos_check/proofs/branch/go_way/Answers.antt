use Rattle.std.proofs.Common.{sym, subst}
use Rattle.nomos_check.specs.declared.standing.WayOn.{WayOn}
use Rattle.nomos_check.specs.mirror.Ways.{GoesWay}
use Rattle.nomos_check.proofs.WayLemmas.{empty-goes}
use Rattle.nomos_check.proofs.branch.go_way.Goals as goal

pub returns-in-Empty : goal.returns-in-Empty
returns-in-Empty c =
    let s = c.args.now.now in
    let lists = c.unbind.new.self in
    let next = c.in-Empty.next in
    let goes = empty-goes s c.in-Empty.w next lists c.unbind.ensures in
    subst (λ (w : WayOn). GoesWay s w (record s { lists = lists; code = next })) (sym c.in-Empty.is) goes
