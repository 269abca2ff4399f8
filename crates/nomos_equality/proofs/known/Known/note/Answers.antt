use Rattle.std.proofs.Common.{sym, ◌∙◌, refl}
use Rattle.nomos_equality.proofs.KnownLemmas.{note-spread, spreads-nothing}
use Rattle.nomos_equality.proofs.known.Known.note.Goals as goal

pub returns-in_ok-insert-in-Some-Some-clause-spreads : goal.returns-in_ok-insert-in-Some-Some-clause-spreads
returns-in_ok-insert-in-Some-Some-clause-spreads c =
    (note-spread c.args.program.now c.args.left c.args.right c.args.self.now
    (record c.args.self.now { amounts = c.insert.new.self }) c.node.result.now c.node-2.result.now
    c.in-Some-Some.left_paid c.in-Some-Some.right_paid c.in_ok-insert-in-Some-Some.field-0
    (record { left_there = c.node.ensures; right_there = c.node-2.ensures })
    (sym c.paid_by.ensures ∙ c.in-Some-Some.is-0) (sym c.paid_by-2.ensures ∙ c.in-Some-Some.is-1)
    c.in_ok-insert-in-Some-Some.ensures.ok refl refl).0

pub returns-in_ok-insert-in-Some-Some-clause-paid : goal.returns-in_ok-insert-in-Some-Some-clause-paid
returns-in_ok-insert-in-Some-Some-clause-paid c =
    (note-spread c.args.program.now c.args.left c.args.right c.args.self.now
    (record c.args.self.now { amounts = c.insert.new.self }) c.node.result.now c.node-2.result.now
    c.in-Some-Some.left_paid c.in-Some-Some.right_paid c.in_ok-insert-in-Some-Some.field-0
    (record { left_there = c.node.ensures; right_there = c.node-2.ensures })
    (sym c.paid_by.ensures ∙ c.in-Some-Some.is-0) (sym c.paid_by-2.ensures ∙ c.in-Some-Some.is-1)
    c.in_ok-insert-in-Some-Some.ensures.ok refl refl).1

pub returns-in_default-clause-spreads : goal.returns-in_default-clause-spreads
returns-in_default-clause-spreads c = spreads-nothing c.args.program.now c.args.left c.args.right c.args.self.now

pub returns-in_default-2-clause-spreads : goal.returns-in_default-2-clause-spreads
returns-in_default-2-clause-spreads c = spreads-nothing c.args.program.now c.args.left c.args.right c.args.self.now
