use Rattle.std.proofs.Common.{refl}
use Rattle.nomos_equality.specs.mirror.Known.{compared_by}
use Rattle.nomos_equality.proofs.JoinLemmas.{joined-compared, joined-stays, joined-finds}
use Rattle.nomos_equality.proofs.known.Known.join.Goals as goal

pub returns-clause-compared : goal.returns-clause-compared
returns-clause-compared c =
    joined-compared c.args.program.now c.args.left c.args.right c.unfold-left.result c.unfold-right.result
    c.unfold-left.ensures.unfolds c.unfold-right.ensures.unfolds c.requires.shapes c.requires.free
    (compared_by c.args.self.now) (compared_by (record c.args.self.now { pairs = c.insert.new.self }))
    c.requires.compared refl refl c.in_ok-insert.field-0 c.in_ok-insert.ensures.ok

pub returns-clause-kept : goal.returns-clause-kept
returns-clause-kept c =
    joined-stays c.args.program.now c.args.left c.args.right c.unfold-left.result c.unfold-right.result
    c.unfold-left.ensures.unfolds c.unfold-right.ensures.unfolds c.requires.shapes c.requires.free
    (compared_by c.args.self.now) (compared_by (record c.args.self.now { pairs = c.insert.new.self }))
    c.requires.compared refl c.in_ok-insert.field-0 c.in_ok-insert.ensures.ok

pub returns-clause-finds : goal.returns-clause-finds
returns-clause-finds c =
    joined-finds c.args.program.now c.args.left c.args.right c.unfold-left.result c.unfold-right.result
    c.unfold-left.ensures.unfolds c.unfold-right.ensures.unfolds c.requires.shapes c.requires.free
    (compared_by c.args.self.now) (compared_by (record c.args.self.now { pairs = c.insert.new.self }))
    c.requires.compared refl
