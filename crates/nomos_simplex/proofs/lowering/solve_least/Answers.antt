use Rattle.std.proofs.Common.{IfOk, subst}
use Rattle.nomos_simplex.specs.LeastRun.{LeastRun}
use Rattle.nomos_simplex.specs.declared.solved.SolvedLeast.TheVariants as least
use Rattle.nomos_simplex.proofs.LeastRunLaws.{least-is_right}
use Rattle.nomos_simplex.proofs.UnitLemmas.{least-unit}
use Rattle.nomos_simplex.proofs.lowering.solve_least.Goals as goal

pub returns-clause-found : goal.returns-clause-found
returns-clause-found c = λ found proof e.
    least-is_right c.args.rows.now c.args.goal.now (least.Found found proof) c.requires.goal
    (subst (λ r. IfOk r (LeastRun c.args.rows.now c.args.goal.now)) e c.run_both.ensures)

pub returns-clause-unit : goal.returns-clause-unit
returns-clause-unit c = λ found proof e.
    least-unit c.args.rows.now c.args.goal.now found proof
    (subst (λ r. IfOk r (LeastRun c.args.rows.now c.args.goal.now)) e c.run_both.ensures)

pub returns-clause-refuted : goal.returns-clause-refuted
returns-clause-refuted c = λ verdict e.
    least-is_right c.args.rows.now c.args.goal.now (least.Refuted verdict) c.requires.goal
    (subst (λ r. IfOk r (LeastRun c.args.rows.now c.args.goal.now)) e c.run_both.ensures)
