-- A mirror of the code: values of terms that were found.
use Rattle.std.specs.Prelude.{◌≡◌, ℕ, List, ◌++◌, Result, Ok, Err}
use Rattle.nomos_ir.specs.Evaluation.{Evaluation, ends, faults}
use Rattle.nomos_ir.specs.Value.{Value}
use Rattle.nomos_ir.specs.ValueNode.{value_of}
use Rattle.nomos_ir.specs.declared.fault.Fault.{Fault}
use Rattle.nomos_ir.specs.declared.or_no_memory.OrNoMemory.{OrNoMemory}
use Rattle.nomos_ir.specs.declared.or_no_memory.OrNoMemory.TheVariants as stop
use Rattle.nomos_ir.specs.declared.value_node.ValueNode.{ValueNode}
use Rattle.nomos_ir.specs.TermsEvaluation.{TermsResult}

-- what was found of a term
abbrev pub IsValue : Result ValueNode (OrNoMemory Fault) → Evaluation → Type 0
IsValue (Ok node) evaluation = (n : ℕ) × (evaluation ≡ ends (value_of node) n)
IsValue (Err (stop.Answer f)) evaluation = evaluation ≡ faults f
IsValue (Err stop.NoMemory) evaluation = Unit {0}

-- what was found of terms
abbrev pub AreValues : Result (List Value) (OrNoMemory Fault) → TermsResult → Type 0
AreValues (Ok vs) evaluation = evaluation ≡ Ok vs
AreValues (Err (stop.Answer f)) evaluation = evaluation ≡ Err f
AreValues (Err stop.NoMemory) evaluation = Unit {0}

-- values that were found first, and what the terms behind them come to
abbrev pub after_first : List Value → TermsResult → TermsResult
after_first vs (Ok ws) = Ok (vs ++ ws)
after_first vs (Err f) = Err f
