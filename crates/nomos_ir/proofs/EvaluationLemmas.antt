-- What holds of the values that an evaluation can end with, and of how many nodes it enters.
use Rattle.std.proofs.Common.{◌≡◌, ◌+◌, ◌≤◌, ℕ, zero, suc, ℤ, pos, negsuc, Bool, true, false, cond, ◌==◌, nat_lt, nat_le, List, [], ◌∷◌, map, Option, Some, None, unwrap_or, slice_get, ◌+ℤ◌, ◌-ℤ◌, ◌*ℤ◌, refl, subst, arith}
use Rattle.std.specs.Prelude.{int_div, int_lt}
use Rattle.std.specs.List.{AllByRecursion, zip}
use Rattle.nomos_ir.specs.declared.declaration.FnDecl.{FnDecl}
use Rattle.nomos_ir.specs.declared.fault.Fault.TheVariants as fault
use Rattle.nomos_ir.specs.declared.ids.TermId.{TermId}
use Rattle.nomos_ir.specs.declared.ids.VarId.{VarId}
use Rattle.nomos_ir.specs.declared.lists.ProgramLists.{ProgramLists}
use Rattle.nomos_ir.specs.declared.term_node.TermNode.{TermNode}
use Rattle.nomos_ir.specs.declared.term_node.TermNode.TheVariants as node
use Rattle.nomos_ir.specs.Bindings.{bound_to}
use Rattle.nomos_ir.specs.Evaluation.{Environment, Evaluation, ends, faults, Counted, Evaluator, max_nodes, max_calls, go_on, nought, has_64_bits, whole, same_number, divided, rest_of_division, on_numbers, put_before, as_truth, both, either, opposite, chosen, taken_apart, bind_parts, bind_arguments, each_of, two_of, body_evaluation, node_evaluation, entered, counted, evaluation}
use Rattle.nomos_ir.specs.Value.{Value, int, truth, list, ValueList, no_values, value}
use Rattle.nomos_ir.specs.Weight.{list_weight, max_weight}

-- a look-up in a list with one more pair in front
pub bound_to-cons : {X : Type 0} (P : X → Type 0) (v : ℕ) (w : VarId) (x y : X) (pairs : List (VarId × X))
    → bound_to v ((w, x) ∷ pairs) ≡ Some y → P x → (bound_to v pairs ≡ Some y → P y) → P y
bound_to-cons {X} P v w x y pairs found here there = split (w.0 == v) found
  where
    split : (b : Bool) → cond b (Some x) (bound_to v pairs) ≡ Some y → P y
    split true e = let same : x ≡ y = cc in subst P same here
    split false e = there e

module _ (Q : Value → Type 0) where
  -- the value is good, and no fewer nodes were entered than before
  abbrev pub Holds : ℕ → Evaluation → Type 0
  Holds n (ends v m) = (n ≤ m) × Q v
  Holds n (faults f) = Unit {0}

  -- the variables have good values
  abbrev pub HaveGood : Environment → Type 0
  HaveGood env = (v : ℕ) (x : Value) → bound_to v env ≡ Some x → Q x

  pub holds-lower : (n m : ℕ) (e : Evaluation) → n ≤ m → Holds m e → Holds n e
  holds-lower n m (ends v k) before holds = (omega (arith, holds.0), holds.1)
  holds-lower n m (faults f) before holds = tt

  pub holds-go_on : (n : ℕ) (e : Evaluation) (next : Value → Counted) → Holds n e
      → ((v : Value) (m : ℕ) → n ≤ m → Q v → Holds n (next v m)) → Holds n (go_on e next)
  holds-go_on n (ends v m) next holds more = more v m holds.0 holds.1
  holds-go_on n (faults f) next holds more = tt

  pub good-bound : (v : ℕ) (env : Environment) → Q nought → HaveGood env → Q (unwrap_or (bound_to v env) nought)
  good-bound v env none good = split (bound_to v env) (λ x. good v x)
    where
      split : (o : Option Value) → ((x : Value) → o ≡ Some x → Q x) → Q (unwrap_or o nought)
      split (Some x) each = each x refl
      split None each = none

  pub good-cons : (w : VarId) (x : Value) (env : Environment) → Q x → HaveGood env → HaveGood ((w, x) ∷ env)
  good-cons w x env here good = λ v y found. bound_to-cons Q v w x y env found here (good v y)

  pub good-zip : (names : List VarId) (values : List Value) → AllByRecursion Q values → HaveGood (zip names values)
  good-zip [] values good = λ v x found. absurd cc
  good-zip (w ∷ names) [] good = λ v x found. absurd cc
  good-zip (w ∷ names) (y ∷ values) good = good-cons w y (zip names values) good.0 (good-zip names values good.1)

  pub holds-each : (part : TermId → Counted) (ts : List TermId) (next : List Value → Counted) (n : ℕ)
      → ((t : TermId) (m : ℕ) → Holds m (part t m))
      → ((vs : List Value) (m : ℕ) → n ≤ m → AllByRecursion Q vs → Holds m (next vs m))
      → Holds n (each_of part ts next n)
  holds-each part [] next n each more = more [] n (omega arith) tt
  holds-each part (t ∷ ts) next n each more =
      holds-go_on n (part t n) (λ v. each_of part ts (λ vs. next (v ∷ vs))) (each t n) (λ v m after good.
      holds-lower n m _ after (holds-each part ts (λ vs. next (v ∷ vs)) m each
      (λ vs k later others. more (v ∷ vs) k (omega arith) (good, others))))

  pub holds-two : (part : TermId → Counted) (a b : TermId) (next : Value → Value → Counted) (n : ℕ)
      → ((t : TermId) (m : ℕ) → Holds m (part t m)) → ((v w : Value) (m : ℕ) → Q v → Q w → Holds m (next v w m))
      → Holds n (two_of part a b next n)
  holds-two part a b next n each more =
      holds-go_on n (part a n) (λ v m. go_on (part b m) (next v)) (each a n) (λ v m after good.
      holds-lower n m _ after (holds-go_on m (part b m) (next v) (each b m) (λ w k later good_too.
      holds-lower m k _ later (more v w k good good_too))))

  module _ (numbers : (z : ℤ) → Q (int z)) where
    pub holds-whole : (z : ℤ) (n : ℕ) → Holds n (whole z n)
    holds-whole z n = split (has_64_bits z)
      where
        split : (b : Bool) → Holds n (cond b (ends (int z) n) (faults fault.Overflow))
        split true = (omega arith, numbers z)
        split false = tt

    pub holds-divided : (x y : ℤ) (n : ℕ) → Holds n (divided x y n)
    holds-divided x (pos zero) n = tt
    holds-divided x (pos (suc y)) n = holds-whole (int_div x (pos (suc y))) n
    holds-divided x (negsuc y) n = holds-whole (int_div x (negsuc y)) n

    pub holds-rest : (x y : ℤ) (n : ℕ) → Holds n (rest_of_division x y n)
    holds-rest x (pos zero) n = tt
    holds-rest x (pos (suc y)) n = holds-whole (x -ℤ pos (suc y) *ℤ int_div x (pos (suc y))) n
    holds-rest x (negsuc y) n = holds-whole (x -ℤ negsuc y *ℤ int_div x (negsuc y)) n

    pub holds-numbers : (operator : ℤ → ℤ → Counted) → ((x y : ℤ) (n : ℕ) → Holds n (operator x y n))
        → (v w : Value) (n : ℕ) → Holds n (on_numbers operator v w n)
    holds-numbers operator each (int x) (int y) n = each x y n
    holds-numbers operator each (int x) (truth c) n = (omega arith, numbers (pos 0))
    holds-numbers operator each (int x) (list ys) n = (omega arith, numbers (pos 0))
    holds-numbers operator each (truth b) y n = (omega arith, numbers (pos 0))
    holds-numbers operator each (list xs) y n = (omega arith, numbers (pos 0))

    module _ (truths : (b : Bool) → Q (truth b)) where
      pub good-truth : (v : Value) → Q (as_truth v)
      good-truth (truth b) = truths b
      good-truth (int z) = numbers (pos 0)
      good-truth (list vs) = numbers (pos 0)

      pub holds-both : (v : Value) (right : Counted) (n : ℕ) → Holds n (right n) → Holds n (both v right n)
      holds-both (truth true) right n holds =
          holds-go_on n (right n) (λ w m. ends (as_truth w) m) holds (λ w m after good. (after, good-truth w))
      holds-both (truth false) right n holds = (omega arith, truths false)
      holds-both (int z) right n holds = (omega arith, numbers (pos 0))
      holds-both (list vs) right n holds = (omega arith, numbers (pos 0))

      pub holds-either : (v : Value) (right : Counted) (n : ℕ) → Holds n (right n) → Holds n (either v right n)
      holds-either (truth true) right n holds = (omega arith, truths true)
      holds-either (truth false) right n holds =
          holds-go_on n (right n) (λ w m. ends (as_truth w) m) holds (λ w m after good. (after, good-truth w))
      holds-either (int z) right n holds = (omega arith, numbers (pos 0))
      holds-either (list vs) right n holds = (omega arith, numbers (pos 0))

      pub good-opposite : (v : Value) → Q (opposite v)
      good-opposite (truth b) = truths _
      good-opposite (int z) = numbers (pos 0)
      good-opposite (list vs) = numbers (pos 0)

      pub holds-chosen : (v : Value) (right wrong : Counted) (n : ℕ) → Holds n (right n) → Holds n (wrong n)
          → Holds n (chosen v right wrong n)
      holds-chosen (truth true) right wrong n yes_holds no_holds = yes_holds
      holds-chosen (truth false) right wrong n yes_holds no_holds = no_holds
      holds-chosen (int z) right wrong n yes_holds no_holds = no_holds
      holds-chosen (list vs) right wrong n yes_holds no_holds = no_holds

      module _ (nothing : Q (list no_values))
          (apart : (v : Value) (vs : ValueList) → Q (list (value v vs)) → Q v × Q (list vs))
          (joined : (v : Value) (vs : ValueList) → Q v → Q (list vs)
          → nat_le (list_weight (value v vs)) max_weight ≡ true → Q (list (value v vs))) where
        pub holds-put : (v w : Value) (n : ℕ) → Q v → Q w → Holds n (put_before v w n)
        holds-put v (list vs) n good good_too =
            split (nat_le (list_weight (value v vs)) max_weight) (joined v vs good good_too)
          where
            split : (b : Bool) → (b ≡ true → Q (list (value v vs)))
                → Holds n (cond b (ends (list (value v vs)) n) (faults fault.ListLength))
            split true whole_good = (omega arith, whole_good refl)
            split false whole_good = tt
        holds-put v (int z) n good good_too = (omega arith, numbers (pos 0))
        holds-put v (truth b) n good good_too = (omega arith, numbers (pos 0))

        pub holds-taken : (v : Value) (empty : Counted) (full : Value → Value → Counted) (other : Counted) (n : ℕ) → Q v
            → Holds n (empty n) → ((x y : Value) → Q x → Q y → Holds n (full x y n)) → Holds n (other n)
            → Holds n (taken_apart v empty full other n)
        holds-taken (list no_values) empty full other n good at_empty at_full at_other = at_empty
        holds-taken (list (value v vs)) empty full other n good at_empty at_full at_other =
            let both_good = apart v vs good in at_full v (list vs) both_good.0 both_good.1
        holds-taken (int z) empty full other n good at_empty at_full at_other = at_other
        holds-taken (truth b) empty full other n good at_empty at_full at_other = at_other

        module _ (lists : ProgramLists) where
          -- the evaluations of parts have good values
          abbrev GoodParts : Evaluator → Type 0
          GoodParts part =
              (calls : ℕ) (env : Environment) (t : TermId) (n : ℕ) → HaveGood env → Holds n (part calls env t n)

          holds-body : (part : Evaluator) → GoodParts part → (calls : ℕ) (d : Option FnDecl) (vs : List Value) (n : ℕ)
              → AllByRecursion Q vs → Holds n (body_evaluation part calls d vs n)
          holds-body part each calls None vs n good = (omega arith, numbers (pos 0))
          holds-body part each calls (Some f) vs n good = split (nat_lt calls max_calls)
            where
              split : (b : Bool) → Holds n (cond b (part (calls + 1) (bind_arguments f vs) f.body n)
                  (faults fault.Depth))
              split true =
                  each (calls + 1) (bind_arguments f vs) f.body n (good-zip (map (λ par. par.0) f.pars) vs good)
              split false = tt

          holds-node : (part : Evaluator) → GoodParts part → (calls : ℕ) (env : Environment) (x : TermNode) (n : ℕ)
              → HaveGood env → Holds n (node_evaluation lists part calls env x n)
          holds-node part each calls env (node.Number at k) n good = (omega arith, numbers (pos k))
          holds-node part each calls env (node.Truth at b) n good = (omega arith, truths b)
          holds-node part each calls env (node.Var at v) n good =
              (omega arith, good-bound v.0 env (numbers (pos 0)) good)
          holds-node part each calls env (node.Call at f values) n good =
              holds-each (part calls env) values _ n (λ t m. each calls env t m good)
              (λ vs m after all. holds-body part each calls (slice_get lists.fns f.0) vs m all)
          holds-node part each calls env (node.Nil at kind) n good = (omega arith, nothing)
          holds-node part each calls env (node.Add at a b) n good =
              holds-two (part calls env) a b _ n (λ t m. each calls env t m good)
              (λ v w m _ _. holds-numbers (λ x y. whole (x +ℤ y)) (λ x y. holds-whole (x +ℤ y)) v w m)
          holds-node part each calls env (node.Sub at a b) n good =
              holds-two (part calls env) a b _ n (λ t m. each calls env t m good)
              (λ v w m _ _. holds-numbers (λ x y. whole (x -ℤ y)) (λ x y. holds-whole (x -ℤ y)) v w m)
          holds-node part each calls env (node.Mul at a b) n good =
              holds-two (part calls env) a b _ n (λ t m. each calls env t m good)
              (λ v w m _ _. holds-numbers (λ x y. whole (x *ℤ y)) (λ x y. holds-whole (x *ℤ y)) v w m)
          holds-node part each calls env (node.Div at a b) n good =
              holds-two (part calls env) a b _ n (λ t m. each calls env t m good)
              (λ v w m _ _. holds-numbers divided holds-divided v w m)
          holds-node part each calls env (node.Rem at a b) n good =
              holds-two (part calls env) a b _ n (λ t m. each calls env t m good)
              (λ v w m _ _. holds-numbers rest_of_division holds-rest v w m)
          holds-node part each calls env (node.Less at a b) n good =
              holds-two (part calls env) a b _ n (λ t m. each calls env t m good)
              (λ v w m _ _. holds-numbers (λ x y. ends (truth (int_lt x y)))
              (λ x y k. (omega arith, truths (int_lt x y))) v w m)
          holds-node part each calls env (node.Equal at a b) n good =
              holds-two (part calls env) a b _ n (λ t m. each calls env t m good)
              (λ v w m _ _. holds-numbers (λ x y. ends (truth (same_number x y)))
              (λ x y k. (omega arith, truths (same_number x y))) v w m)
          holds-node part each calls env (node.And at a b) n good =
              holds-go_on n (part calls env a n) _ (each calls env a n good)
              (λ v m after _. holds-lower n m _ after (holds-both v _ m (each calls env b m good)))
          holds-node part each calls env (node.Or at a b) n good =
              holds-go_on n (part calls env a n) _ (each calls env a n good)
              (λ v m after _. holds-lower n m _ after (holds-either v _ m (each calls env b m good)))
          holds-node part each calls env (node.Cons at a b) n good =
              holds-two (part calls env) a b put_before n (λ t m. each calls env t m good) holds-put
          holds-node part each calls env (node.Not at a) n good =
              holds-go_on n (part calls env a n) _ (each calls env a n good) (λ v m after _. (after, good-opposite v))
          holds-node part each calls env (node.If at test a b) n good =
              holds-go_on n (part calls env test n) _ (each calls env test n good)
              (λ v m after _. holds-lower n m _ after
              (holds-chosen v _ _ m (each calls env a m good) (each calls env b m good)))
          holds-node part each calls env (node.Match at taken empty head tail full) n good =
              holds-go_on n (part calls env taken n) _ (each calls env taken n good) (λ v m after good_list.
              holds-lower n m _ after (holds-taken v _ _ _ m good_list (each calls env empty m good)
              (λ x y good_x good_y. each calls (bind_parts head tail x y env) full m
              (good-cons tail y ((head, x) ∷ env) good_y (good-cons head x env good_x good)))
              (each calls env full m good)))

          holds-entered : (part : Evaluator) → GoodParts part
              → (calls : ℕ) (env : Environment) (x : Option TermNode) (n : ℕ) → HaveGood env
              → Holds n (entered lists part calls env x n)
          holds-entered part each calls env None n good = (omega arith, numbers (pos 0))
          holds-entered part each calls env (Some x) n good = holds-node part each calls env x n good

          -- every evaluation among good values ends with a good value, or with a fault
          pub holds-evaluation : (inside : ℕ) → GoodParts (evaluation lists inside)
          unfolding evaluation
          holds-evaluation zero calls env t n good = tt
          holds-evaluation (suc inside) calls env t n good =
              split (nat_lt n max_nodes) (holds-entered (evaluation lists inside) (holds-evaluation inside) calls env
              (slice_get lists.terms t.0) (n + 1) good)
            where
              split : (b : Bool) → Holds (n + 1)
                  (entered lists (evaluation lists inside) calls env (slice_get lists.terms t.0) (n + 1))
                  → Holds n (counted b (entered lists (evaluation lists inside) calls env (slice_get lists.terms t.0))
                  n)
              split true holds = holds-lower n (n + 1) _ (omega arith) holds
              split false holds = tt
