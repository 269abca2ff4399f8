use Rattle.std.proofs.Common.{◌≡◌, IfOk, sym, subst}
use Rattle.nomos_simplex.specs.PivotRun.{answer_to}
use Rattle.nomos_simplex.specs.declared.solved.Solved.TheVariants as solved
use Rattle.nomos_simplex.proofs.RunLaws.{answer-found, answer-refutes}
use Rattle.nomos_simplex.proofs.UnitLemmas.{found-unit}
use Rattle.nomos_simplex.proofs.solving.solve.Goals as goal

pub returns-clause-found : goal.returns-clause-found
returns-clause-found c = λ found e.
    let answer : solved.Found found ≡ answer_to c.args.rows.now = subst (λ r. IfOk r (λ a. a ≡ answer_to
    c.args.rows.now)) e c.run_all.ensures in
    let both = answer-found c.args.rows.now found (sym answer) in
    (both.1, both.0)

pub returns-clause-unit : goal.returns-clause-unit
returns-clause-unit c = λ found e.
    let answer : solved.Found found ≡ answer_to c.args.rows.now = subst (λ r. IfOk r (λ a. a ≡ answer_to
    c.args.rows.now)) e c.run_all.ensures in
    found-unit c.args.rows.now found (sym answer)

pub returns-clause-refuted : goal.returns-clause-refuted
returns-clause-refuted c = λ verdict e.
    let answer : solved.Refuted verdict ≡ answer_to c.args.rows.now = subst (λ r. IfOk r (λ a. a ≡ answer_to
    c.args.rows.now)) e c.run_all.ensures in
    let both = answer-refutes c.args.rows.now verdict (sym answer) in
    (both.1, both.0)
