use Rattle.std.proofs.Common.{sym, ◌∙◌}
use Rattle.nomos_equality.proofs.KnownLemmas.{spreads-nothing, meets-spread}
use Rattle.nomos_equality.proofs.PathLaws.{part-below}
use Rattle.nomos_equality.proofs.VisitLemmas.{ok-map}
use Rattle.nomos_equality.proofs.known.Known.follow.Goals as goal

pub meet-requires-clause-left : goal.meet-requires-clause-left
meet-requires-clause-left c =
    part-below c.args.program.now c.args.left.0 c.node.result.now c.args.hop c.in-Some-Some.left_part
    c.requires.formed.program c.node.ensures (sym c.part_by-left_part.ensures ∙ c.in-Some-Some.is-0)

pub meet-requires-clause-right : goal.meet-requires-clause-right
meet-requires-clause-right c =
    part-below c.args.program.now c.args.right.0 c.node-2.result.now c.args.hop c.in-Some-Some.right_part
    c.requires.formed.program c.node-2.ensures (sym c.part_by-right_part.ensures ∙ c.in-Some-Some.is-1)

pub returns-in-Some-Some-clause-spreads : goal.returns-in-Some-Some-clause-spreads
returns-in-Some-Some-clause-spreads c =
    ok-map c.meet.result
    (λ met.
    (meets-spread c.args.program.now c.args.left c.args.right c.args.self.now c.meet.new.self c.args.hop
    c.node.result.now c.node-2.result.now c.in-Some-Some.left_part c.in-Some-Some.right_part
    (record { left_there = c.node.ensures; right_there = c.node-2.ensures })
    (sym c.part_by-left_part.ensures ∙ c.in-Some-Some.is-0) (sym c.part_by-right_part.ensures ∙ c.in-Some-Some.is-1)
    met).0)
    c.meet.ensures.meets

pub returns-in-Some-Some-clause-follows : goal.returns-in-Some-Some-clause-follows
returns-in-Some-Some-clause-follows c =
    ok-map c.meet.result
    (λ met.
    (meets-spread c.args.program.now c.args.left c.args.right c.args.self.now c.meet.new.self c.args.hop
    c.node.result.now c.node-2.result.now c.in-Some-Some.left_part c.in-Some-Some.right_part
    (record { left_there = c.node.ensures; right_there = c.node-2.ensures })
    (sym c.part_by-left_part.ensures ∙ c.in-Some-Some.is-0) (sym c.part_by-right_part.ensures ∙ c.in-Some-Some.is-1)
    met).1)
    c.meet.ensures.meets

pub returns-in_default-clause-spreads : goal.returns-in_default-clause-spreads
returns-in_default-clause-spreads c = spreads-nothing c.args.program.now c.args.left c.args.right c.args.self.now

pub returns-in_default-2-clause-spreads : goal.returns-in_default-2-clause-spreads
returns-in_default-2-clause-spreads c = spreads-nothing c.args.program.now c.args.left c.args.right c.args.self.now
