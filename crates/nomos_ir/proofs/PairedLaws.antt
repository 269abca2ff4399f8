-- Laws of maps that are paired: they stay so when both are changed alike.
use Rattle.std.proofs.Common.{◌≡◌, inl, inr, ℕ, ◌==◌, Bool, true, false, cond, List, ◌∷◌, Option, Some, None, refl, sym, subst}
use Rattle.std.proofs.lemmas.Bool.{cases_eq}
use Rattle.nomos_ir.specs.Bindings.{bound_to, bind, unbind, bindings_of, IsAscending}
use Rattle.nomos_ir.specs.Evaluation.{Environment}
use Rattle.nomos_ir.specs.Paired.{Paired, both, neither, ArePaired, PairedInOrder, none, pair}
use Rattle.nomos_ir.specs.TermKind.{VariableKinds}
use Rattle.nomos_ir.specs.ValueKind.{ValueHasKind, HasKinds}
use Rattle.nomos_ir.specs.declared.ids.VarId.{VarId}
use Rattle.nomos_ir.proofs.BindingLaws.{bound-after_bind, bound-after_bind_other, bound-after_unbind, bound-after_unbind_other, bound-in_bindings_of}

module _ {X Y : Type 0} {R : X → Y → Type 0} where
  -- what equals two that are paired is paired
  pub paired-as : {o p : Option X} {q r : Option Y} → o ≡ p → q ≡ r → Paired R p r → Paired R o q
  paired-as {o} {p} {q} {r} left right paired =
      subst (λ (u : Option X). Paired R u q) (sym left) (subst (λ (u : Option Y). Paired R p u) (sym right) paired)

  -- beside what is there something is there, and they are related
  pub paired-right : (x : X) {o : Option X} {q : Option Y} → Paired R o q → o ≡ Some x → (y : Y) × (q ≡ Some y) × R x y
  paired-right x (both {x = z} {y = y} related) there =
      let same : z ≡ x = cc in
      (y, refl, subst (λ (u : X). R u y) same related)
  paired-right x neither there = absurd cc

  pub paired-left : (y : Y) {o : Option X} {q : Option Y} → Paired R o q → q ≡ Some y → (x : X) × (o ≡ Some x) × R x y
  paired-left y (both {x = x} {y = z} related) there =
      let same : z ≡ y = cc in
      (x, refl, subst (λ (u : Y). R x u) same related)
  paired-left y neither there = absurd cc

  pub none-left : {o : Option X} {q : Option Y} → Paired R o q → q ≡ None → o ≡ None
  none-left (both related) nothing = absurd cc
  none-left neither nothing = refl

  -- a variable is bound on both sides, to what is related
  pub paired-bind : (v : VarId) (x : X) (y : Y) (b : List (VarId × X)) (c : List (VarId × Y)) → R x y → ArePaired R b c
      → ArePaired R (bind v x b) (bind v y c)
  paired-bind v x y b c related pairs w =
      elim (cases_eq w v.0) [
        | inl same ↦
            let At : ℕ → Type 0 = λ u. Paired R (bound_to u (bind v x b)) (bound_to u (bind v y c)) in
            let here : At v.0 = paired-as (bound-after_bind v x b) (bound-after_bind v y c) (both related) in
            subst At (sym same) here
        | inr other ↦ paired-as (bound-after_bind_other w v x b other) (bound-after_bind_other w v y c other) (pairs w)
      ]

  -- a variable is unbound on both sides
  pub paired-unbind : (v : ℕ) (b : List (VarId × X)) (c : List (VarId × Y)) → IsAscending b → IsAscending c
      → ArePaired R b c → ArePaired R (unbind v b) (unbind v c)
  paired-unbind v b c b_ascends c_ascends pairs w =
      elim (cases_eq w v) [
        | inl same ↦
            let At : ℕ → Type 0 = λ u. Paired R (bound_to u (unbind v b)) (bound_to u (unbind v c)) in
            let here : At v = paired-as (bound-after_unbind v b b_ascends) (bound-after_unbind v c c_ascends) neither in
            subst At (sym same) here
        | inr other ↦ paired-as (bound-after_unbind_other w v b other) (bound-after_unbind_other w v c other) (pairs w)
      ]

  -- pairs are made maps on both sides
  pub paired-bindings_of : (ps : List (VarId × X)) (qs : List (VarId × Y)) → ArePaired R ps qs
      → ArePaired R (bindings_of ps) (bindings_of qs)
  paired-bindings_of ps qs pairs v = paired-as (bound-in_bindings_of v ps) (bound-in_bindings_of v qs) (pairs v)

  first-paired : (x : X) (y : Y) (o : Option X) (q : Option Y) (t : Bool) → R x y → Paired R o q
      → Paired R (cond t (Some x) o) (cond t (Some y) q)
  first-paired x y o q true related rest = both related
  first-paired x y o q false related rest = rest

  -- one more pair on both sides
  pub paired-cons : (v : VarId) (x : X) (y : Y) (ps : List (VarId × X)) (qs : List (VarId × Y)) → R x y
      → ArePaired R ps qs → ArePaired R ((v, x) ∷ ps) ((v, y) ∷ qs)
  paired-cons v x y ps qs related pairs w =
      first-paired x y (bound_to w ps) (bound_to w qs) (v.0 == w) related (pairs w)

  -- pairs with the same variables in the same order
  pub paired-in_order : {ps : List (VarId × X)} {qs : List (VarId × Y)} → PairedInOrder R ps qs → ArePaired R ps qs
  paired-in_order none = λ v. neither
  paired-in_order (pair {x = x} {y = y} {ps = ps} {qs = qs} v related rest) =
      paired-cons v x y ps qs related (paired-in_order rest)

module _ {X Y : Type 0} {R S : X → Y → Type 0} where
  option-weaker : {o : Option X} {q : Option Y} → ((x : X) (y : Y) → R x y → S x y) → Paired R o q → Paired S o q
  option-weaker weaker (both {x = x} {y = y} related) = both (weaker x y related)
  option-weaker weaker neither = neither

  -- maps that are paired by what is related are paired by what is related so in any case
  pub paired-weaker : (b : List (VarId × X)) (c : List (VarId × Y)) → ((x : X) (y : Y) → R x y → S x y)
      → ArePaired R b c → ArePaired S b c
  paired-weaker b c weaker pairs v = option-weaker weaker (pairs v)

-- values that are paired with their kinds have these kinds
pub paired-has_kinds : (env : Environment) (vars : VariableKinds) → ArePaired ValueHasKind env vars → HasKinds env vars
paired-has_kinds env vars pairs v k found = paired-left k (pairs v) found
