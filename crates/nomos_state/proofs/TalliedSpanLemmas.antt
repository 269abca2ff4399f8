-- The names of a process's channels, read variable by variable.
use Rattle.std.proofs.Common.{◌≡◌, ◌≢◌, ◌∙◌, ◌<◌, ◌≤◌, inl, inr, ℕ, ◌+◌, ◌-◌, ◌==◌, zero, suc, Bool, true, false, cond, List, [], ◌∷◌, ◌++◌, map, IsSome, Option, Some, None, refl, sym, ap, subst, arith, eq-eqb}
use Rattle.std.proofs.lemmas.Bool.{cases_eq}
use Rattle.std.specs.Option.{option_to_list}
use Rattle.nomos_ir.specs.Bindings.{IsAscending, bound_to, unbind}
use Rattle.nomos_ir.specs.Order.{count_of}
use Rattle.nomos_ir.specs.declared.ids.VarId.{VarId}
use Rattle.nomos_ir.proofs.BindingLaws.{bound-after_unbind, bound-after_unbind_other, unbind-ascending}
use Rattle.nomos_ir.proofs.SumLaws.{count-after_unbind, times_bound}
use Rattle.nomos_types.proofs.OccurrenceLaws.{count-append}

module _ (low : ℕ) (b : List (VarId × ℕ)) where
  -- the names of so many variables from the lowest on
  abbrev pub names_from : ℕ → List ℕ
  names_from zero = []
  names_from (suc k) = names_from k ++ option_to_list (bound_to (low + k) b)

  -- the channels that are left without those
  abbrev pub left_from : ℕ → List (VarId × ℕ)
  left_from zero = b
  left_from (suc k) = unbind (low + k) (left_from k)

  left-ascending : IsAscending b → (k : ℕ) → IsAscending (left_from k)
  left-ascending ascending zero = ascending
  left-ascending ascending (suc k) = unbind-ascending (low + k) (left_from k) (left-ascending ascending k)

  -- a variable that is not among them has its channel
  left-other : (v k : ℕ) → ((j : ℕ) → j < k → v ≢ low + j) → bound_to v (left_from k) ≡ bound_to v b
  left-other v zero other = refl
  left-other v (suc k) other =
      bound-after_unbind_other v (low + k) (left_from k) (other k (omega arith))
      ∙ left-other v k (λ j below. other j (omega arith))

  -- one that is among them has none
  left-none : IsAscending b → (j k : ℕ) → j < k → bound_to (low + j) (left_from k) ≡ None
  left-none ascending j zero below = absurd (omega arith)
  left-none ascending j (suc k) below =
      elim (cases_eq j k) [
        | inl same ↦
            subst (λ (i : ℕ). bound_to (low + i) (left_from (suc k)) ≡ None) (sym same)
            (bound-after_unbind (low + k) (left_from k) (left-ascending ascending k))
        | inr apart ↦
            bound-after_unbind_other (low + j) (low + k) (left_from k) (λ same. apart (omega arith))
            ∙ left-none ascending j k (omega arith)
      ]

  -- no channel comes
  left-unbound : IsAscending b → (v k : ℕ) → bound_to v b ≡ None → bound_to v (left_from k) ≡ None
  left-unbound ascending v zero none = none
  left-unbound ascending v (suc k) none =
      elim (cases_eq v (low + k)) [
        | inl same ↦
            subst (λ (w : ℕ). bound_to w (left_from (suc k)) ≡ None) (sym same)
            (bound-after_unbind (low + k) (left_from k) (left-ascending ascending k))
        | inr apart ↦
            bound-after_unbind_other v (low + k) (left_from k) apart ∙ left-unbound ascending v k none
      ]

  -- the names so far, and those that are left, are all
  names-left : (n k : ℕ) → count_of n (names_from k) + times_bound n (left_from k) ≡ times_bound n b
  names-left n zero = omega arith
  names-left n (suc k) =
      let before = names-left n k in
      let more = count-append n (names_from k) (option_to_list (bound_to (low + k) b)) in
      let less = count-after_unbind n (low + k) (left_from k) in
      let same = ap (λ (o : Option ℕ). count_of n (option_to_list o))
      (left-other (low + k) k (λ j below same. omega arith)) in
      omega arith

-- where no variable has a channel there is none
none-bound : (b : List (VarId × ℕ)) → ((v : ℕ) → bound_to v b ≡ None) → b ≡ []
none-bound [] none = refl
none-bound (e ∷ b) none = absurd (first (e.0.0 == e.0.0) (eq-eqb e.0.0 e.0.0 refl) (none e.0.0))
  where
    first : (t : Bool) → t ≡ true → cond t (Some e.1) (bound_to e.0.0 b) ≡ None → ⊥
    first true is none = cc
    first false is none = cc

-- where all channels stand in a span, its names are those of all channels
pub names-all : (low k n : ℕ) (b : List (VarId × ℕ)) → (0 < k → IsAscending b)
    → ((v : ℕ) → IsSome (bound_to v b) → (low ≤ v) × (v < low + k))
    → count_of n (names_from low b k) ≡ count_of n (map (λ e. e.1) b)
names-all low zero n b ascending within =
    sym (ap (times_bound n) (none-bound b (λ v. by_bound v (bound_to v b) refl)))
  where
    by_bound : (v : ℕ) (o : Option ℕ) → bound_to v b ≡ o → bound_to v b ≡ None
    by_bound v (Some name) is = let (above, below) = within v (subst IsSome (sym is) refl) in absurd (omega arith)
    by_bound v None is = is
names-all low (suc k) n b ascending within =
    let none = ap (times_bound n) (none-bound (left_from low b (suc k)) (λ v. by_bound v (bound_to v b) refl)) in
    omega (arith, names-left low b n (suc k))
  where
    by_bound : (v : ℕ) (o : Option ℕ) → bound_to v b ≡ o → bound_to v (left_from low b (suc k)) ≡ None
    by_bound v (Some name) is =
        let (above, below) = within v (subst IsSome (sym is) refl) in
        let same : low + (v - low) ≡ v = omega arith in
        subst (λ (w : ℕ). bound_to w (left_from low b (suc k)) ≡ None) same
        (left-none low b (ascending (omega arith)) (v - low) (suc k) (omega arith))
    by_bound v None is = left-unbound low b (ascending (omega arith)) v (suc k) is

-- the names of one variable more
pub names-step : (low v n : ℕ) (b : List (VarId × ℕ)) → low ≤ v
    → count_of n (names_from low b (v + 1 - low))
    ≡ count_of n (names_from low b (v - low)) + count_of n (option_to_list (bound_to v b))
names-step low v n b above =
    let next : v + 1 - low ≡ suc (v - low) = omega arith in
    let here : low + (v - low) ≡ v = omega arith in
    ap (λ (k : ℕ). count_of n (names_from low b k)) next
    ∙ count-append n (names_from low b (v - low)) (option_to_list (bound_to (low + (v - low)) b))
    ∙ ap (λ (w : ℕ). count_of n (names_from low b (v - low)) + count_of n (option_to_list (bound_to w b))) here

-- the names of so many variables more, none of which has a channel
names-more : (low k n : ℕ) (b : List (VarId × ℕ)) (d : ℕ) → ((j : ℕ) → j < d → bound_to (low + (k + j)) b ≡ None)
    → count_of n (names_from low b (k + d)) ≡ count_of n (names_from low b k)
names-more low k n b zero none =
    let same : k + 0 ≡ k = omega arith in
    ap (λ (i : ℕ). count_of n (names_from low b i)) same
names-more low k n b (suc d) none =
    let next : k + suc d ≡ suc (k + d) = omega arith in
    let gone : count_of n (option_to_list (bound_to (low + (k + d)) b)) ≡ 0 =
    ap (λ (o : Option ℕ). count_of n (option_to_list o)) (none d (omega arith)) in
    let others = names-more low k n b d (λ j below. none j (omega arith)) in
    ap (λ (i : ℕ). count_of n (names_from low b i)) next
    ∙ count-append n (names_from low b (k + d)) (option_to_list (bound_to (low + (k + d)) b))
    ∙ omega (arith, gone, others)

-- the names up to a variable, where none of those that are gone over has a channel
pub names-skip : (low v next n : ℕ) (b : List (VarId × ℕ)) → low ≤ v → v ≤ next
    → ((w : ℕ) → v ≤ w → w < next → bound_to w b ≡ None)
    → count_of n (names_from low b (next - low)) ≡ count_of n (names_from low b (v - low))
names-skip low v next n b above over none =
    let long : (v - low) + (next - v) ≡ next - low = omega arith in
    sym (ap (λ (i : ℕ). count_of n (names_from low b i)) long)
    ∙ names-more low (v - low) n b (next - v)
    (λ j below.
    let at : low + ((v - low) + j) ≡ v + j = omega arith in
    ap (λ (w : ℕ). bound_to w b) at ∙ none (v + j) (omega arith) (omega arith))
