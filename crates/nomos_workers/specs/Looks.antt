-- What a look of a worker comes to, and what a worker has evaluated.
use Rattle.std.specs.Prelude.{◌≡◌}
use Rattle.nomos_ir.specs.TermsEvaluation.{instruction_evaluation}
use Rattle.nomos_eval.specs.Outcomes.{outcome_of}
use Rattle.nomos_types.specs.Acceptance.{Acceptance}
use Rattle.nomos_workers.specs.declared.trade.KnownOutcome.{KnownOutcome}
use Rattle.nomos_workers.specs.declared.trade.Turned.{Turned}
use Rattle.nomos_workers.specs.declared.trade.Turned.TheVariants as turned

-- what was evaluated is right for the program
abbrev pub IsKnown : Acceptance → KnownOutcome → Type 0
IsKnown a k = outcome_of k.outcome ≡ instruction_evaluation a.program k.wanted.env k.wanted.code.0

-- a look comes to a stop only where the worker may stop so, and asks only what it may ask
abbrev pub TurnsOut : {A S : Type 0} → (A → Type 0) → (S → Type 0) → Turned A S → Type 0
TurnsOut may_ask may_stop (turned.Goes pid) = Unit {0}
TurnsOut may_ask may_stop (turned.Ends stop) = may_stop stop
TurnsOut may_ask may_stop (turned.Wants pid asked) = may_ask asked
TurnsOut may_ask may_stop turned.Rests = Unit {0}
