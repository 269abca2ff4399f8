-- A mirror of the code: what its operators stand for.
use Rattle.std.specs.Prelude.{ℕ, ℤ, ◌+ℤ◌, ◌-ℤ◌, ◌*ℤ◌, int_lt, Option, Some, None}
use Rattle.nomos_ir.specs.declared.fault.Fault.TheVariants as fault
use Rattle.nomos_ir.specs.declared.ids.TermId.{TermId}
use Rattle.nomos_ir.specs.declared.term_node.TermNode.{TermNode}
use Rattle.nomos_ir.specs.declared.term_node.TermNode.TheVariants as node
use Rattle.nomos_ir.specs.Evaluation.{Counted, ends, faults, whole, divided, rest_of_division, same_number}
use Rattle.nomos_ir.specs.Value.{int, truth}
use Rattle.nomos_eval.specs.declared.numbers.NumberOperator.{NumberOperator}
use Rattle.nomos_eval.specs.declared.numbers.NumberOperator.TheVariants as operator
use Rattle.nomos_eval.specs.declared.numbers.Yield.{Yield}
use Rattle.nomos_eval.specs.declared.numbers.Yield.TheVariants as give

-- what an operator does
abbrev pub operation : NumberOperator → ℤ → ℤ → Counted
operation operator.Add x y n = whole (x +ℤ y) n
operation operator.Sub x y n = whole (x -ℤ y) n
operation operator.Mul x y n = whole (x *ℤ y) n
operation operator.Div x y n = divided x y n
operation operator.Rem x y n = rest_of_division x y n
operation operator.Less x y n = ends (truth (int_lt x y)) n
operation operator.Equal x y n = ends (truth (same_number x y)) n

-- the node of an operator between two terms
abbrev pub operation_node : NumberOperator → ℕ → TermId → TermId → TermNode
operation_node operator.Add at a b = node.Add at a b
operation_node operator.Sub at a b = node.Sub at a b
operation_node operator.Mul at a b = node.Mul at a b
operation_node operator.Div at a b = node.Div at a b
operation_node operator.Rem at a b = node.Rem at a b
operation_node operator.Less at a b = node.Less at a b
operation_node operator.Equal at a b = node.Equal at a b

-- what it gave
abbrev pub given : Yield → Counted
given (give.Int z) n = ends (int z) n
given (give.Bool b) n = ends (truth b) n
given (give.Fault f) n = faults f

-- a number, or none where it has no 64 bits
abbrev pub checked : Option ℤ → Yield
checked (Some z) = give.Int z
checked None = give.Fault fault.Overflow
