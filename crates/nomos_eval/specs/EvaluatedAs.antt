-- What is answered of an evaluation.
use Rattle.std.specs.Prelude.{◌≡◌, ℕ}
use Rattle.nomos_ir.specs.Evaluation.{Evaluation, ends, faults}
use Rattle.nomos_eval.specs.declared.evaluation.Evaluated.{Evaluated}
use Rattle.nomos_eval.specs.declared.evaluation.Evaluated.TheVariants as evaluated

-- the value or the fault of the evaluation, without the number of nodes that it entered
abbrev pub EvaluatedAs : Evaluation → Evaluated → Type 0
EvaluatedAs evaluation (evaluated.Value v) = (n : ℕ) × (evaluation ≡ ends v n)
EvaluatedAs evaluation (evaluated.Fault f) = evaluation ≡ faults f
