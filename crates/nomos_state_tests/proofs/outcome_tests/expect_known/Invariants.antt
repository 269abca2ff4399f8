use Rattle.std.proofs.Common.{◌≡◌}
use Rattle.nomos_ir.specs.TermsEvaluation.{instruction_evaluation}
use Rattle.nomos_eval.specs.Outcomes.{outcome_of}
use Rattle.nomos_state_tests.proofs.outcome_tests.expect_known.Given as goal

abbrev pub invariant-loop-pid : goal.invariant-loop-pid
invariant-loop-pid g l = outcome_of l.known.outcome
    ≡ instruction_evaluation l.runner.accepted.program l.known.wanted.env l.known.wanted.code.0
