use Rattle.std.proofs.Common.{sym, ◌∙◌}
use Rattle.nomos_equality.specs.mirror.Search.{stays}
use Rattle.nomos_equality.proofs.PathLaws.{part-below}
use Rattle.nomos_equality.proofs.SearchLemmas.{follow-goes}
use Rattle.nomos_equality.proofs.VisitLemmas.{ok-map}
use Rattle.nomos_equality.proofs.difference.DifferenceSearch.follow.Goals as goal

pub meet-requires-clause-left : goal.meet-requires-clause-left
meet-requires-clause-left c =
    part-below c.args.program.now c.args.visit.left.0 c.node.result.now c.args.hop c.in-Some-Some.left
    c.requires.formed.program c.node.ensures (sym c.part_by-left.ensures ∙ c.in-Some-Some.is-0)

pub meet-requires-clause-right : goal.meet-requires-clause-right
meet-requires-clause-right c =
    part-below c.args.program.now c.args.visit.right.0 c.node-2.result.now c.args.hop c.in-Some-Some.right
    c.requires.formed.program c.node-2.ensures (sym c.part_by-right.ensures ∙ c.in-Some-Some.is-1)

pub returns-in-Some-Some-clause-goes : goal.returns-in-Some-Some-clause-goes
returns-in-Some-Some-clause-goes c =
    ok-map c.meet.result
    (λ met.
    (follow-goes c.args.program.now c.args.self.now c.meet.new.self c.args.number c.args.visit c.args.hop
    c.node.result.now c.node-2.result.now c.in-Some-Some.left c.in-Some-Some.right c.requires.there
    (record { left_there = c.node.ensures; right_there = c.node-2.ensures })
    (sym c.part_by-left.ensures ∙ c.in-Some-Some.is-0) (sym c.part_by-right.ensures ∙ c.in-Some-Some.is-1) met).0)
    c.meet.ensures

pub returns-in-Some-Some-clause-follows : goal.returns-in-Some-Some-clause-follows
returns-in-Some-Some-clause-follows c =
    ok-map c.meet.result
    (λ met.
    (follow-goes c.args.program.now c.args.self.now c.meet.new.self c.args.number c.args.visit c.args.hop
    c.node.result.now c.node-2.result.now c.in-Some-Some.left c.in-Some-Some.right c.requires.there
    (record { left_there = c.node.ensures; right_there = c.node-2.ensures })
    (sym c.part_by-left.ensures ∙ c.in-Some-Some.is-0) (sym c.part_by-right.ensures ∙ c.in-Some-Some.is-1) met).1)
    c.meet.ensures

pub returns-in_default-clause-goes : goal.returns-in_default-clause-goes
returns-in_default-clause-goes c = stays

pub returns-in_default-2-clause-goes : goal.returns-in_default-2-clause-goes
returns-in_default-2-clause-goes c = stays
