use Rattle.std.proofs.Common.{Bool, subst}
use Rattle.nomos_equality.specs.mirror.Linking.{Joins}
use Rattle.nomos_equality.specs.mirror.Search.{fresh}
use Rattle.nomos_equality.proofs.difference.DifferenceSearch.meet.Goals as goal

pub returns-in_ok-push : goal.returns-in_ok-push
returns-in_ok-push c =
    fresh c.unfold-left.result c.unfold-right.result c.unfold-left.ensures.unfolds c.unfold-right.ensures.unfolds
    (subst (λ (b : Bool). Joins c.args.self.now.classes (c.unfold-left.result, c.unfold-right.result) c.join.new.self b)
    c.if-join.true c.join.ensures)
    c.in_ok-push.ensures.items
