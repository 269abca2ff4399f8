-- Laws of sums over all that is bound, and of how often a number is bound.
use Rattle.std.proofs.Common.{◌≡◌, ◌≤◌, ℕ, ◌+◌, ◌==◌, Bool, true, false, cond, List, [], ◌∷◌, map, Option, Some, None, sum_by, refl, sym, ap, ◌∙◌, arith, eq-eqb}
use Rattle.std.proofs.lemmas.List.Sums.{sum_by-cons}
use Rattle.std.specs.Option.{option_to_list}
use Rattle.nomos_ir.specs.Bindings.{bound_to, bind, unbind, bindings_of, sum_bound, variables_of, IsAscending}
use Rattle.nomos_ir.specs.Order.{count_of}
use Rattle.nomos_ir.specs.declared.ids.VarId.{VarId}
use Rattle.nomos_ir.proofs.BindingLaws.{bound-after_bind, bound-in_bindings_of, bindings_of-ascending, unbind-after_bind}

-- one more number is counted
count-cons : (n k : ℕ) (numbers : List ℕ) → count_of n (k ∷ numbers) ≡ cond (k == n) 1 0 + count_of n numbers
count-cons n k numbers = sum_by-cons (λ (m : ℕ). cond (m == n) 1 0) k numbers

-- the first of numbers is counted
pub count-first : (n : ℕ) (numbers : List ℕ) → count_of n (n ∷ numbers) ≡ 1 + count_of n numbers
count-first n numbers = count-cons n n numbers ∙ ap (λ (t : Bool). cond t 1 0 + count_of n numbers) (eq-eqb n n refl)

-- nothing of a number is counted in what follows
none-behind : (n k : ℕ) (numbers : List ℕ) → count_of n (k ∷ numbers) ≡ 0 → count_of n numbers ≡ 0
none-behind n k numbers none = omega (arith, count-cons n k numbers)

-- numbers of which none stands twice: the first does not stand behind, and none stands twice behind
first-alone : (k : ℕ) (numbers : List ℕ) → ((n : ℕ) → count_of n (k ∷ numbers) ≤ 1) → count_of k numbers ≡ 0
first-alone k numbers once = omega (arith, count-first k numbers, once k)

others-once : (k : ℕ) (numbers : List ℕ) → ((n : ℕ) → count_of n (k ∷ numbers) ≤ 1) → (n : ℕ) → count_of n numbers ≤ 1
others-once k numbers once n = omega (arith, count-cons n k numbers, once n)

module _ {X : Type 0} where
  -- a variable that does not occur is bound to nothing, where the test of the first one is known
  unbound-first : (v : ℕ) (e : VarId × X) (b : List (VarId × X)) (t : Bool) → (e.0.0 == v) ≡ t
      → count_of v (variables_of (e ∷ b)) ≡ 0 → bound_to v b ≡ None → cond t (Some e.1) (bound_to v b) ≡ None
  unbound-first v e b true here none rest =
      let counted : Bool → ℕ = λ t. cond t 1 0 in
      absurd (omega (arith, count-cons v e.0.0 (variables_of b), ap counted here))
  unbound-first v e b false here none rest = rest

  -- a variable that does not occur is bound to nothing
  pub unbound-uncounted : (v : ℕ) (b : List (VarId × X)) → count_of v (variables_of b) ≡ 0 → bound_to v b ≡ None
  unbound-uncounted v [] none = refl
  unbound-uncounted v (e ∷ b) none =
      let rest = unbound-uncounted v b (none-behind v e.0.0 (variables_of b) none) in
      unbound-first v e b (e.0.0 == v) refl none rest

module _ {X : Type 0} (f : X → ℕ) where
  -- the number of what may be there; none, where nothing is
  abbrev number_of_option : Option X → ℕ
  number_of_option o = sum_by f (option_to_list o)

  number-there : (x : X) (o : Option X) → o ≡ Some x → number_of_option o ≡ f x
  number-there x o there = ap number_of_option there ∙ sum_by-cons f x [] ∙ (omega arith)

  dropped-sum : (e : VarId × X) (b after : List (VarId × X)) (o : Option X) (t : Bool)
      → sum_bound f after + number_of_option o ≡ sum_bound f b
      → sum_bound f (cond t b (e ∷ after)) + number_of_option (cond t (Some e.1) o) ≡ sum_bound f (e ∷ b)
  dropped-sum e b after o true rest = omega (arith, sum_by-cons (λ (d : VarId × X). f d.1) e b, sum_by-cons f e.1 [])
  dropped-sum e b after o false rest =
      omega (arith, rest, sum_by-cons (λ (d : VarId × X). f d.1) e b, sum_by-cons (λ (d : VarId × X). f d.1) e after)

  -- a variable is unbound: what it was bound to is in the sum no more
  pub sum-after_unbind : (v : ℕ) (b : List (VarId × X))
      → sum_bound f (unbind v b) + sum_by f (option_to_list (bound_to v b)) ≡ sum_bound f b
  sum-after_unbind v [] = refl
  sum-after_unbind v (e ∷ b) = dropped-sum e b (unbind v b) (bound_to v b) (e.0.0 == v) (sum-after_unbind v b)

  -- a variable is bound: what it was bound to before is in the sum no more
  pub sum-after_bind : (v : VarId) (x : X) (b : List (VarId × X)) → IsAscending b
      → sum_bound f (bind v x b) + sum_by f (option_to_list (bound_to v.0 b)) ≡ sum_bound f b + f x
  sum-after_bind v x b ascending =
      let bound = sum-after_unbind v.0 (bind v x b) in
      let before = sum-after_unbind v.0 b in
      let same = ap (sum_bound f) (unbind-after_bind v x b ascending) in
      let there = number-there x (bound_to v.0 (bind v x b)) (bound-after_bind v x b) in
      omega arith

  -- a variable is bound that was not
  pub sum-after_new : (v : VarId) (x : X) (b : List (VarId × X)) → IsAscending b → bound_to v.0 b ≡ None
      → sum_bound f (bind v x b) ≡ sum_bound f b + f x
  sum-after_new v x b ascending nothing =
      let bound = sum-after_bind v x b ascending in
      let none = ap number_of_option nothing in
      omega arith

  -- the map of pairs of which no variable stands twice has their sum
  pub sum-in_bindings_of : (ps : List (VarId × X)) → ((v : ℕ) → count_of v (variables_of ps) ≤ 1)
      → sum_bound f (bindings_of ps) ≡ sum_bound f ps
  sum-in_bindings_of [] once = refl
  sum-in_bindings_of (p ∷ ps) once =
      let rest = sum-in_bindings_of ps (others-once p.0.0 (variables_of ps) once) in
      let nothing = unbound-uncounted p.0.0 ps (first-alone p.0.0 (variables_of ps) once) in
      let unbound : bound_to p.0.0 (bindings_of ps) ≡ None = bound-in_bindings_of p.0.0 ps ∙ nothing in
      let bound = sum-after_new p.0 p.1 (bindings_of ps) (bindings_of-ascending ps) unbound in
      omega (arith, sum_by-cons (λ (d : VarId × X). f d.1) p ps)

  -- what the variables are bound to
  abbrev pub sum_at : List VarId → List (VarId × X) → ℕ
  sum_at vs b = sum_by (λ v. sum_by f (option_to_list (bound_to v.0 b))) vs

  -- the sum over the things alone
  pub sum-of_values : (b : List (VarId × X)) → sum_by f (map (λ e. e.1) b) ≡ sum_bound f b
  sum-of_values [] = refl
  sum-of_values (e ∷ b) =
      let rest = sum-of_values b in
      let alone = sum_by-cons f e.1 (map (λ (d : VarId × X). d.1) b) in
      let bound = sum_by-cons (λ (d : VarId × X). f d.1) e b in
      omega arith

-- how often a number is bound
abbrev pub times_bound : ℕ → List (VarId × ℕ) → ℕ
times_bound n b = count_of n (map (λ e. e.1) b)

abbrev is_one : ℕ → ℕ → ℕ
is_one n k = cond (k == n) 1 0

pub count-after_unbind : (n v : ℕ) (b : List (VarId × ℕ))
    → times_bound n (unbind v b) + count_of n (option_to_list (bound_to v b)) ≡ times_bound n b
count-after_unbind n v b =
    let after = sum-of_values (is_one n) (unbind v b) in
    let before = sum-of_values (is_one n) b in
    omega (arith, sum-after_unbind (is_one n) v b)

pub count-after_bind : (n : ℕ) (v : VarId) (k : ℕ) (b : List (VarId × ℕ)) → IsAscending b
    → times_bound n (bind v k b) + count_of n (option_to_list (bound_to v.0 b)) ≡ times_bound n b + count_of n (k ∷ [])
count-after_bind n v k b ascending =
    let after = sum-of_values (is_one n) (bind v k b) in
    let before = sum-of_values (is_one n) b in
    let one = count-cons n k [] in
    omega (arith, sum-after_bind (is_one n) v k b ascending)

pub count-in_bindings_of : (n : ℕ) (ps : List (VarId × ℕ)) → ((v : ℕ) → count_of v (variables_of ps) ≤ 1)
    → times_bound n (bindings_of ps) ≡ times_bound n ps
count-in_bindings_of n ps once =
    sum-of_values (is_one n) (bindings_of ps) ∙ sum-in_bindings_of (is_one n) ps once
    ∙ sym (sum-of_values (is_one n) ps)
