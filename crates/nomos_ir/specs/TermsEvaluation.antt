-- What the terms of an instruction come to.
use Rattle.std.specs.Prelude.{ℕ, List, [], ◌∷◌, Option, Some, None, Result, Ok, Err, slice_get}
use Rattle.nomos_ir.specs.CodeParts.{code_terms}
use Rattle.nomos_ir.specs.Evaluation.{Environment, Evaluation, ends, faults, term_evaluation}
use Rattle.nomos_ir.specs.Value.{Value}
use Rattle.nomos_ir.specs.declared.code_node.CodeNode.{CodeNode}
use Rattle.nomos_ir.specs.declared.fault.Fault.{Fault}
use Rattle.nomos_ir.specs.declared.lists.ProgramLists.{ProgramLists}

-- the values of terms in order, or the fault of the first that has one
abbrev pub TermsResult : Type 0
TermsResult = Result (List Value) Fault

-- one value in front of those of the terms behind it; its fault comes before all of theirs
abbrev pub before_others : Evaluation → TermsResult → TermsResult
before_others (ends v n) (Ok vs) = Ok (v ∷ vs)
before_others (ends v n) (Err f) = Err f
before_others (faults f) others = Err f

-- what terms come to among variables
abbrev pub terms_evaluation : ProgramLists → Environment → List ℕ → TermsResult
terms_evaluation lists env [] = Ok []
terms_evaluation lists env (t ∷ ts) =
    before_others (term_evaluation lists env (record { 0 = t })) (terms_evaluation lists env ts)

-- the terms of an instruction; where there is none, there are none
abbrev pub terms_of : Option CodeNode → List ℕ
terms_of (Some n) = code_terms n
terms_of None = []

-- what the terms of the instruction with this number come to
abbrev pub instruction_evaluation : ProgramLists → Environment → ℕ → TermsResult
instruction_evaluation lists env c = terms_evaluation lists env (terms_of (slice_get lists.code c))
