-- What an outcome says.
use Rattle.std.specs.Prelude.{Ok, Err}
use Rattle.nomos_ir.specs.TermsEvaluation.{TermsResult}
use Rattle.nomos_eval.specs.declared.wanted.Outcome.{Outcome}
use Rattle.nomos_eval.specs.declared.wanted.Outcome.TheVariants as outcome

-- the values of the terms of an instruction, or the fault of the first that has one
abbrev pub outcome_of : Outcome → TermsResult
outcome_of (outcome.Values vs) = Ok vs
outcome_of (outcome.Fault f) = Err f
