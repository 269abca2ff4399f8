-- Small terms, computed by the definitions.
use Rattle.std.proofs.Common.{◌≡◌, ℕ, List, [], ◌∷◌, pos, negsuc, true, false, refl}
use Rattle.nomos_ir.specs.declared.fault.Fault.TheVariants as fault
use Rattle.nomos_ir.specs.declared.term_node.TermNode.{TermNode}
use Rattle.nomos_ir.specs.declared.term_node.TermNode.TheVariants as node
use Rattle.nomos_ir.specs.Evaluation.{Environment, Evaluation, ends, faults, evaluation, term_evaluation}
use Rattle.nomos_ir.specs.TermExample.{term_id, variable, sums, spins, program_of}
use Rattle.nomos_ir.specs.Value.{Value, int, truth, list, ValueList, no_values, value}

-- the evaluation of a term, whose parts are among those before it
abbrev value_at : List TermNode → ℕ → Environment → Evaluation
value_at terms t env = term_evaluation (program_of terms []) env (term_id t)

-- 0 - 7, and then 2
abbrev minus_seven : List TermNode
minus_seven =
    node.Number 0 0 ∷ node.Number 0 7 ∷ node.Sub 0 (term_id 0) (term_id 1) ∷ node.Number 0 2
    ∷ node.Div 0 (term_id 2) (term_id 3) ∷ node.Rem 0 (term_id 2) (term_id 3)
    ∷ node.Div 0 (term_id 2) (term_id 0) ∷ node.Rem 0 (term_id 2) (term_id 0)
    ∷ []

-- quotients are rounded towards zero, and what is left has the sign of the divided number
quotient : value_at minus_seven 4 [] ≡ ends (int (negsuc 2)) 5
unfolding term_evaluation evaluation
quotient = refl

remainder : value_at minus_seven 5 [] ≡ ends (int (negsuc 0)) 5
unfolding term_evaluation evaluation
remainder = refl

no_quotient : value_at minus_seven 6 [] ≡ faults fault.DivideByZero
unfolding term_evaluation evaluation
no_quotient = refl

no_remainder : value_at minus_seven 7 [] ≡ faults fault.DivideByZero
unfolding term_evaluation evaluation
no_remainder = refl

-- a number x beside the constants 0 and 1
abbrev with_constants : List TermNode
with_constants =
    node.Var 0 (variable 0) ∷ node.Number 0 0 ∷ node.Number 0 1 ∷ node.Sub 0 (term_id 1) (term_id 2)
    ∷ node.Add 0 (term_id 0) (term_id 2) ∷ node.Div 0 (term_id 0) (term_id 3) ∷ node.Rem 0 (term_id 0) (term_id 3)
    ∷ node.Sub 0 (term_id 0) (term_id 2)
    ∷ []

-- the greatest and the least number of 64 bits
abbrev greatest : Environment
greatest = (variable 0, int (pos 9223372036854775807)) ∷ []

abbrev least : Environment
least = (variable 0, int (negsuc 9223372036854775807)) ∷ []

past_the_greatest : value_at with_constants 4 greatest ≡ faults fault.Overflow
unfolding term_evaluation evaluation
past_the_greatest = refl

below_the_greatest : value_at with_constants 7 greatest ≡ ends (int (pos 9223372036854775806)) 3
unfolding term_evaluation evaluation
below_the_greatest = refl

below_the_least : value_at with_constants 7 least ≡ faults fault.Overflow
unfolding term_evaluation evaluation
below_the_least = refl

-- only the least number divided by -1 has no quotient of 64 bits
turned_least : value_at with_constants 5 least ≡ faults fault.Overflow
unfolding term_evaluation evaluation
turned_least = refl

rest_of_least : value_at with_constants 6 least ≡ ends (int (pos 0)) 5
unfolding term_evaluation evaluation
rest_of_least = refl

-- a truth value t, and parts that must not be looked at
abbrev with_truth : List TermNode
with_truth =
    node.Var 0 (variable 0) ∷ node.Number 0 0 ∷ node.Div 0 (term_id 1) (term_id 1)
    ∷ node.Less 0 (term_id 2) (term_id 1) ∷ node.And 0 (term_id 0) (term_id 3) ∷ node.Or 0 (term_id 0) (term_id 3)
    ∷ node.If 0 (term_id 0) (term_id 1) (term_id 2) ∷ node.Not 0 (term_id 0)
    ∷ []

abbrev holds : Value → Environment
holds v = (variable 0, v) ∷ []

false_and : value_at with_truth 4 (holds (truth false)) ≡ ends (truth false) 2
unfolding term_evaluation evaluation
false_and = refl

true_and : value_at with_truth 4 (holds (truth true)) ≡ faults fault.DivideByZero
unfolding term_evaluation evaluation
true_and = refl

true_or : value_at with_truth 5 (holds (truth true)) ≡ ends (truth true) 2
unfolding term_evaluation evaluation
true_or = refl

taken_part : value_at with_truth 6 (holds (truth true)) ≡ ends (int (pos 0)) 3
unfolding term_evaluation evaluation
taken_part = refl

-- another kind: `and`, `or` and `not` give 0, and `if` takes its last part
number_and : value_at with_truth 4 (holds (int (pos 1))) ≡ ends (int (pos 0)) 2
unfolding term_evaluation evaluation
number_and = refl

number_or : value_at with_truth 5 (holds (int (pos 1))) ≡ ends (int (pos 0)) 2
unfolding term_evaluation evaluation
number_or = refl

number_if : value_at with_truth 6 (holds (int (pos 1))) ≡ faults fault.DivideByZero
unfolding term_evaluation evaluation
number_if = refl

number_not : value_at with_truth 7 (holds (int (pos 1))) ≡ ends (int (pos 0)) 2
unfolding term_evaluation evaluation
number_not = refl

-- lists: 1 :: l, and match l { nil => 0 | h :: t => h }
abbrev with_list : List TermNode
with_list =
    node.Number 0 1 ∷ node.Var 0 (variable 0) ∷ node.Cons 0 (term_id 0) (term_id 1) ∷ node.Number 0 0
    ∷ node.Var 0 (variable 1) ∷ node.Match 0 (term_id 1) (term_id 3) (variable 1) (variable 2) (term_id 4)
    ∷ node.Match 0 (term_id 2) (term_id 3) (variable 1) (variable 2) (term_id 1)
    ∷ []

abbrev one_five : ValueList
one_five = value (int (pos 5)) no_values

put_one : value_at with_list 2 (holds (list one_five)) ≡ ends (list (value (int (pos 1)) one_five)) 3
unfolding term_evaluation evaluation
put_one = refl

no_list : value_at with_list 2 (holds (int (pos 3))) ≡ ends (int (pos 0)) 3
unfolding term_evaluation evaluation
no_list = refl

first_of_list : value_at with_list 5 (holds (list one_five)) ≡ ends (int (pos 5)) 3
unfolding term_evaluation evaluation
first_of_list = refl

first_of_none : value_at with_list 5 (holds (list no_values)) ≡ ends (int (pos 0)) 3
unfolding term_evaluation evaluation
first_of_none = refl

-- where there is no list, the last part is taken, and its head has no value
first_of_number : value_at with_list 5 (holds (int (pos 3))) ≡ ends (int (pos 0)) 3
unfolding term_evaluation evaluation
first_of_number = refl

-- f(5), as f(n - 1) where n is 6
fifth_sum : term_evaluation sums ((variable 0, int (pos 6)) ∷ []) (term_id 5) ≡ ends (int (pos 5)) 135
unfolding term_evaluation evaluation
fifth_sum = refl

-- spin(n) opens a thousand calls, and enters two nodes for each
spinning : term_evaluation spins ((variable 0, int (pos 6)) ∷ []) (term_id 1) ≡ faults fault.Depth
unfolding term_evaluation evaluation
spinning = refl
