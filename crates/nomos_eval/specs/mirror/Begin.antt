-- A mirror of the code: an evaluation before its first step.
use Rattle.std.specs.Prelude.{◌≡◌}
use Rattle.nomos_ir.specs.declared.ids.TermId.{TermId}
use Rattle.nomos_ir.specs.declared.lists.ProgramLists.{ProgramLists}
use Rattle.nomos_ir.specs.Evaluation.{Environment, term_evaluation}
use Rattle.nomos_eval.specs.declared.evaluator.Evaluator.{Evaluator}
use Rattle.nomos_eval.specs.mirror.Evaluator.{IsSound, left}

-- what is left leads to the evaluation of the term
pub record IsBegun (t : TermId) (env : Environment) (m : Evaluator) : Type 0 where
  pub sound : IsSound m
  pub same : (program : ProgramLists) → left program m 0 ≡ term_evaluation program env t
