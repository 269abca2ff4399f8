-- Evaluation of terms.
use Rattle.std.specs.Prelude.{◌+◌, ◌^◌, ℕ, zero, suc, ℤ, pos, negsuc, ◌+ℤ◌, ◌-ℤ◌, ◌*ℤ◌, int_div, int_lt, Bool, true, false, not as negation, ◌&&◌, nat_lt, nat_le, if◌then◌else◌, List, [], ◌∷◌, map, zip, Option, Some, None, unwrap_or, slice_get}
use Rattle.nomos_ir.specs.declared.declaration.FnDecl.{FnDecl}
use Rattle.nomos_ir.specs.declared.fault.Fault.{Fault}
use Rattle.nomos_ir.specs.declared.fault.Fault.TheVariants as fault
use Rattle.nomos_ir.specs.declared.ids.TermId.{TermId}
use Rattle.nomos_ir.specs.declared.ids.VarId.{VarId}
use Rattle.nomos_ir.specs.declared.lists.ProgramLists.{ProgramLists}
use Rattle.nomos_ir.specs.declared.term_node.TermNode.{TermNode}
use Rattle.nomos_ir.specs.declared.term_node.TermNode.TheVariants as node
use Rattle.nomos_ir.specs.Bindings.{bound_to}
use Rattle.nomos_ir.specs.Value.{Value, int, truth, list, no_values, value}
use Rattle.nomos_ir.specs.Weight.{list_weight, max_weight}

-- variables, each with its value
abbrev pub Environment : Type 0
Environment = List (VarId × Value)

-- a value with the number of nodes entered so far, or a fault
pub data Evaluation : Type 0 where
  ends : Value → ℕ → Evaluation
  faults : Fault → Evaluation

-- an evaluation from the number of nodes entered before it
abbrev pub Counted : Type 0
Counted = ℕ → Evaluation

-- how many nodes one evaluation may enter
abbrev pub max_nodes : ℕ
max_nodes = 100000

-- how many calls of functions may be open in it at once
abbrev pub max_calls : ℕ
max_calls = 1000

-- goes on with the value, unless there is a fault
abbrev pub go_on : Evaluation → (Value → Counted) → Evaluation
go_on (ends v n) next = next v n
go_on (faults f) next = faults f

-- what an operator gives where it finds another kind, and a variable that has no value
abbrev pub nought : Value
nought = int (pos 0)

-- whether a number has 64 bits with a sign
abbrev pub has_64_bits : ℤ → Bool
has_64_bits (pos n) = nat_lt n (2 ^ 63)
has_64_bits (negsuc n) = nat_lt n (2 ^ 63)

-- a number that was computed
abbrev pub whole : ℤ → Counted
whole z n = if has_64_bits z then ends (int z) n else faults fault.Overflow

-- the quotient, rounded towards zero
abbrev pub divided : ℤ → ℤ → Counted
divided x (pos zero) n = faults fault.DivideByZero
divided x (pos (suc y)) n = whole (int_div x (pos (suc y))) n
divided x (negsuc y) n = whole (int_div x (negsuc y)) n

-- what the quotient leaves
abbrev pub rest_of_division : ℤ → ℤ → Counted
rest_of_division x (pos zero) n = faults fault.DivideByZero
rest_of_division x (pos (suc y)) n = whole (x -ℤ pos (suc y) *ℤ int_div x (pos (suc y))) n
rest_of_division x (negsuc y) n = whole (x -ℤ negsuc y *ℤ int_div x (negsuc y)) n

-- whether two numbers are equal
abbrev pub same_number : ℤ → ℤ → Bool
same_number x y = negation (int_lt x y) && negation (int_lt y x)

-- an operator on two numbers
abbrev pub on_numbers : (ℤ → ℤ → Counted) → Value → Value → Counted
on_numbers operator (int x) (int y) n = operator x y n
on_numbers operator (int x) (truth c) n = ends nought n
on_numbers operator (int x) (list ys) n = ends nought n
on_numbers operator (truth b) y n = ends nought n
on_numbers operator (list xs) y n = ends nought n

-- a value before those of a list
abbrev pub put_before : Value → Value → Counted
put_before x (list ys) n =
    if nat_le (list_weight (value x ys)) max_weight then ends (list (value x ys)) n else faults fault.ListLength
put_before x (int y) n = ends nought n
put_before x (truth c) n = ends nought n

-- a truth value
abbrev pub as_truth : Value → Value
as_truth (truth b) = truth b
as_truth (int z) = nought
as_truth (list vs) = nought

-- `and`: the right part is looked at only after true
abbrev pub both : Value → Counted → Counted
both (truth true) right n = go_on (right n) (λ v m. ends (as_truth v) m)
both (truth false) right n = ends (truth false) n
both (int z) right n = ends nought n
both (list vs) right n = ends nought n

-- `or`: the right part is looked at only after false
abbrev pub either : Value → Counted → Counted
either (truth true) right n = ends (truth true) n
either (truth false) right n = go_on (right n) (λ v m. ends (as_truth v) m)
either (int z) right n = ends nought n
either (list vs) right n = ends nought n

-- `not`
abbrev pub opposite : Value → Value
opposite (truth b) = truth (negation b)
opposite (int z) = nought
opposite (list vs) = nought

-- `if`
abbrev pub chosen : Value → Counted → Counted → Counted
chosen (truth true) right wrong n = right n
chosen (truth false) right wrong n = wrong n
chosen (int z) right wrong n = wrong n
chosen (list vs) right wrong n = wrong n

-- `match`: the part for the empty list, the part where there is a head and a tail, and what is done with another kind
abbrev pub taken_apart : Value → Counted → (Value → Value → Counted) → Counted → Counted
taken_apart (list no_values) empty full other n = empty n
taken_apart (list (value v vs)) empty full other n = full v (list vs) n
taken_apart (int z) empty full other n = other n
taken_apart (truth b) empty full other n = other n

-- the variables where a list was taken apart
abbrev pub bind_parts : VarId → VarId → Value → Value → Environment → Environment
bind_parts head tail v vs env = (tail, vs) ∷ (head, v) ∷ env

-- the parameters of a function, each with its argument
abbrev pub bind_arguments : FnDecl → List Value → Environment
bind_arguments f values = zip (map (λ par. par.0) f.pars) values

-- how terms are evaluated: with how many open calls, among which variables, which term
abbrev pub Evaluator : Type 0
Evaluator = ℕ → Environment → TermId → Counted

-- terms from left to right
abbrev pub each_of : (TermId → Counted) → List TermId → (List Value → Counted) → Counted
each_of part [] next n = next [] n
each_of part (t ∷ ts) next n = go_on (part t n) (λ v. each_of part ts (λ vs. next (v ∷ vs)))

-- two terms from left to right
abbrev pub two_of : (TermId → Counted) → TermId → TermId → (Value → Value → Counted) → Counted
two_of part a b next n = go_on (part a n) (λ v m. go_on (part b m) (next v))

-- the body of a function, with its arguments
abbrev pub body_evaluation : Evaluator → ℕ → Option FnDecl → List Value → Counted
body_evaluation part calls None values n = ends nought n
body_evaluation part calls (Some f) values n =
    if nat_lt calls max_calls then part (calls + 1) (bind_arguments f values) f.body n else faults fault.Depth

-- a node that was entered
abbrev pub node_evaluation : ProgramLists → Evaluator → ℕ → Environment → TermNode → Counted
node_evaluation lists part calls env (node.Number at k) n = ends (int (pos k)) n
node_evaluation lists part calls env (node.Truth at b) n = ends (truth b) n
node_evaluation lists part calls env (node.Var at v) n = ends (unwrap_or (bound_to v.0 env) nought) n
node_evaluation lists part calls env (node.Call at f values) n =
    each_of (part calls env) values (body_evaluation part calls (slice_get lists.fns f.0)) n
node_evaluation lists part calls env (node.Nil at kind) n = ends (list no_values) n
node_evaluation lists part calls env (node.Add at a b) n =
    two_of (part calls env) a b (on_numbers (λ x y. whole (x +ℤ y))) n
node_evaluation lists part calls env (node.Sub at a b) n =
    two_of (part calls env) a b (on_numbers (λ x y. whole (x -ℤ y))) n
node_evaluation lists part calls env (node.Mul at a b) n =
    two_of (part calls env) a b (on_numbers (λ x y. whole (x *ℤ y))) n
node_evaluation lists part calls env (node.Div at a b) n = two_of (part calls env) a b (on_numbers divided) n
node_evaluation lists part calls env (node.Rem at a b) n = two_of (part calls env) a b (on_numbers rest_of_division) n
node_evaluation lists part calls env (node.Less at a b) n =
    two_of (part calls env) a b (on_numbers (λ x y. ends (truth (int_lt x y)))) n
node_evaluation lists part calls env (node.Equal at a b) n =
    two_of (part calls env) a b (on_numbers (λ x y. ends (truth (same_number x y)))) n
node_evaluation lists part calls env (node.And at a b) n =
    go_on (part calls env a n) (λ v. both v (part calls env b))
node_evaluation lists part calls env (node.Or at a b) n =
    go_on (part calls env a n) (λ v. either v (part calls env b))
node_evaluation lists part calls env (node.Cons at a b) n = two_of (part calls env) a b put_before n
node_evaluation lists part calls env (node.Not at a) n = go_on (part calls env a n) (λ v. ends (opposite v))
node_evaluation lists part calls env (node.If at test a b) n =
    go_on (part calls env test n) (λ v. chosen v (part calls env a) (part calls env b))
node_evaluation lists part calls env (node.Match at taken empty head tail full) n =
    go_on (part calls env taken n)
    (λ v. taken_apart v (part calls env empty) (λ w ws. part calls (bind_parts head tail w ws env) full)
    (part calls env full))

-- a term that was entered
abbrev pub entered : ProgramLists → Evaluator → ℕ → Environment → Option TermNode → Counted
entered lists part calls env None n = ends nought n
entered lists part calls env (Some found) n = node_evaluation lists part calls env found n

-- an entry is counted, and the last one that is allowed is followed by a fault
abbrev pub counted : Bool → Counted → Counted
counted true next n = next (n + 1)
counted false next n = faults fault.TermSteps

-- the evaluation of a term, where at most so many nodes are entered one inside another
unfoldable pub evaluation : ProgramLists → ℕ → Evaluator
evaluation lists zero calls env t n = faults fault.TermSteps
evaluation lists (suc inside) calls env t n =
    counted (nat_lt n max_nodes) (entered lists (evaluation lists inside) calls env (slice_get lists.terms t.0)) n

-- the evaluation of a term by itself: no node is entered before it, and no call is open. A node inside others is
-- entered after them, so no more nodes than may be entered are inside one another
unfoldable pub term_evaluation : ProgramLists → Environment → TermId → Evaluation
term_evaluation lists env t = evaluation lists (max_nodes + 1) 0 env t 0
