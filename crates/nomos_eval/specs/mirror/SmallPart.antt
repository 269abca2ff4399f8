-- A mirror of the code: the parts of a test or of an operation that is worked out without memory.
use Rattle.std.specs.Prelude.{◌≡◌, ℤ, pos, int_lt, Bool, false, unwrap_or, Option, Some}
use Rattle.nomos_ir.specs.Bindings.{bound_to}
use Rattle.nomos_ir.specs.Evaluation.{Environment, node_evaluation, nought, same_number}
use Rattle.nomos_ir.proofs.EvaluationLaws.{evaluation_from}
use Rattle.nomos_ir.specs.declared.lists.ProgramLists.{ProgramLists}
use Rattle.nomos_ir.specs.Value.{Value, int, truth, list}
use Rattle.nomos_ir.specs.declared.term_node.TermNode.{TermNode}
use Rattle.nomos_ir.specs.declared.term_node.TermNode.TheVariants as node
use Rattle.nomos_eval.specs.declared.numbers.Yield.{Yield}
use Rattle.nomos_eval.specs.declared.small.SmallPart.{SmallPart}
use Rattle.nomos_eval.specs.declared.small.SmallPart.TheVariants as part
use Rattle.nomos_eval.specs.SmallTest.{IsSmallPart}
use Rattle.nomos_eval.specs.mirror.Operation.{given}

-- the value of a number or a variable
abbrev pub part_value : Environment → Option TermNode → Value
part_value env (Some (node.Number at k)) = int (pos k)
part_value env (Some (node.Var at v)) = unwrap_or (bound_to v.0 env) nought
part_value env _ = nought

-- a value as a part: a number, or something else
abbrev pub part_of : Value → SmallPart
part_of (int z) = part.Number z
part_of (truth b) = part.Other
part_of (list vs) = part.Other

-- whether one part is less than another, or the same number
abbrev pub less_parts : SmallPart → SmallPart → Bool
less_parts (part.Number x) (part.Number y) = int_lt x y
less_parts _ _ = false

abbrev pub equal_parts : SmallPart → SmallPart → Bool
equal_parts (part.Number x) (part.Number y) = same_number x y
equal_parts _ _ = false

-- this number, or a variable that is this number
abbrev pub IsNumber : Environment → Option TermNode → ℤ → Type 0
IsNumber env o z = IsSmallPart o × (part_value env o ≡ int z)

-- a node that is entered first comes to what is given, and two more nodes are entered for it
abbrev pub ComesTo : ProgramLists → Environment → TermNode → Yield → Type 0
ComesTo lists env n found = node_evaluation lists (evaluation_from lists) 0 env n 1 ≡ given found 3
