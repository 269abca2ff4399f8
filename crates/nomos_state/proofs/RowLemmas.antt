-- Where a variable is bound in a row of pairs, and rows that ascend.
use Rattle.std.proofs.Common.{◌≡◌, ◌<◌, ◌≤◌, ℕ, zero, suc, ◌+◌, Bool, true, false, cond, nat_lt, ◌==◌, IsTrue, ◌↔◌, eqb-true, eq-eqb, List, [], ◌∷◌, length, get_or, set, Option, Some, None, Less, refl, sym, ap, subst, inl, inr, ◌∙◌, arith}
use Rattle.std.proofs.lemmas.Bool.{cases_lt}
use Rattle.std.proofs.lemmas.Cmp.{ranked}
use Rattle.std.proofs.lemmas.List.{get_or-map}
use Rattle.std.proofs.lemmas.Map.Entries.{length-keys_of}
use Rattle.std.proofs.lemmas.Map.Keys.{Less-from_sorted}
use Rattle.std.proofs.lemmas.Option.{same_Some, get_or_from_slice_get, slice_get_within}
use Rattle.std.specs.List.{insert, prefix_len, remove, slice_get}
use Rattle.std.specs.List.Sorted.{IsNonDecreasingBy, IsPartitionPoint}
use Rattle.std.specs.Map.{keys_of}
use Rattle.nomos_ir.specs.Bindings.{IsAscending, bind, bindings_of, by_number}
use Rattle.nomos_ir.specs.declared.ids.VarId.{VarId}
use Rattle.nomos_ir.proofs.BindingLaws.{bind-ascending, bindings_of-ascending}
use Rattle.nomos_changes.specs.SmallChanges.{bound_if}
use Rattle.nomos_changes.proofs.PairLemmas.{below, bind-there, bind-new}
use Rattle.nomos_state.specs.Rebound.{IsBoundAt}

module _ {X : Type 0} (v : VarId) (x : X) where
  -- the pair at a place within
  there : (b : List (VarId × X)) (n : ℕ) (e : VarId × X) → n < length b → e ≡ get_or b n e → slice_get b n ≡ Some e
  there [] n e within read = absurd (omega arith)
  there (h ∷ b) zero e within read = ap Some (sym read)
  there (h ∷ b) (suc n) e within read = let l : n < length b = omega arith in there b n e l read

  -- the same in words of what is read there
  pub bind-set : (b : List (VarId × X)) (n : ℕ) (e : VarId × X) → n ≡ below v x b → slice_get b n ≡ Some e → e.0.0 ≡ v.0
      → set b n (e.0, x) ≡ bind v x b
  bind-set b n e at read same =
      let within : n < length b = slice_get_within b n e read in
      let is : get_or b n e ≡ e = get_or_from_slice_get b n e e read in
      ap (λ (m : ℕ). set b m (e.0, x)) at
      ∙ bind-there v x b e (omega (arith, at)) (sym is ∙ ap (λ (m : ℕ). get_or b m e) at) same

  pub bind-insert : (b : List (VarId × X)) (n : ℕ) → n ≡ below v x b → (IsBoundAt v b n → ⊥)
      → insert b n (v, x) ≡ bind v x b
  bind-insert b n at other =
      ap (λ (m : ℕ). insert b m (v, x)) at
      ∙ bind-new v x b
      (λ e within read same.
      let l : n < length b = omega (arith, at) in
      other (e, there b n e l (read ∙ ap (λ (m : ℕ). get_or b m e) (sym at)), same))

-- ---- what is read at a place

module _ {X : Type 0} (v : VarId) (b : List (VarId × X)) (n : ℕ) where
  -- a pair that is read is of the variable where a look at it says so
  pub bound-told : (e : VarId × X) → slice_get b n ≡ Some e → (IsTrue (e.0.0 == v.0) ↔ IsBoundAt v b n)
  bound-told e read = (
    λ same. (e, read, eqb-true e.0.0 v.0 same),
    λ bound. eq-eqb e.0.0 v.0 (ap (λ (p : VarId × X). p.0.0) (same_Some e bound.0 (sym read ∙ bound.1)) ∙ bound.2),
  )

  -- nothing is read where there is no pair
  pub unbound-told : slice_get b n ≡ None → (IsTrue false ↔ IsBoundAt v b n)
  unbound-told past = (λ no. absurd cc, λ bound. absurd cc)

-- ---- rows that ascend

module _ {X : Type 0} where
  -- the number of a pair's variable, and whether it is lower than this one
  abbrev pub number_of : VarId × X → ℕ
  number_of e = e.0.0

  abbrev pub has_lower : ℕ → VarId × X → Bool
  has_lower v e = nat_lt e.0.0 v

  -- a map ascends
  pub map-ascends : (b : List (VarId × X)) → bindings_of b ≡ b → IsAscending b
  map-ascends b same = subst IsAscending same (bindings_of-ascending b)

  -- a row with a variable that is bound, if one is, ascends if it did
  pub bound-ascends : (o : Option (VarId × X)) (b : List (VarId × X)) → IsAscending b → IsAscending (bound_if o b)
  bound-ascends None b order = order
  bound-ascends (Some e) b order = bind-ascending e.0 e.1 b order

  -- no variable is above one behind it
  pub ascending-rises : (b : List (VarId × X)) → IsAscending b → IsNonDecreasingBy (λ e. e.0.0) b
  ascending-rises b order i j d below within =
      elim (cases_lt i j) [
        | inl lower ↦
            let key : VarId × X → VarId = λ e. e.0 in
            let keys = keys_of b in
            let long : j < length keys = omega (arith, length-keys_of b) in
            let less = Less-from_sorted by_number keys i j d.0 order lower long in
            let first = get_or-map key b i d d.0 (omega arith) in
            let second = get_or-map key b j d d.0 within in
            let lt : (get_or b i d).0.0 < (get_or b j d).0.0 =
            ranked (get_or b i d).0.0 (get_or b j d).0.0 Less
            (sym less ∙ ap (λ (k : VarId). by_number k (get_or keys j d.0)) first
            ∙ ap (λ (k : VarId). by_number (get_or b i d).0 k) second) in
            omega arith
        | inr from ↦
            let same : i ≡ j = omega arith in
            let alike : (get_or b i d).0.0 ≡ (get_or b j d).0.0 = ap (λ (k : ℕ). (get_or b k d).0.0) same in
            omega arith
      ]

  -- where a test turns, so many pass at the front
  pub point-count : (p : VarId × X → Bool) (b : List (VarId × X)) (n : ℕ) → n ≤ length b
      → IsPartitionPoint (λ e. p e ≡ true) (λ e. p e ≡ false) b n → n ≡ prefix_len p b
  point-count p [] n within point = omega arith
  point-count p (e ∷ b) zero within point =
      let not : p e ≡ false = point.1 0 e (omega arith) (omega arith) in
      sym (ap (λ t. cond t (1 + prefix_len p b) 0) not)
  point-count p (e ∷ b) (suc n) within point =
      let passes : p e ≡ true = point.0 0 e (omega arith) (omega arith) in
      let rest : n ≡ prefix_len p b =
      point-count p b n (omega arith) (
        (λ k d from low. point.0 (suc k) d (omega arith) (omega arith)),
        (λ k d from below. point.1 (suc k) d (omega arith) (omega arith)),
      ) in
      let more : suc n ≡ 1 + prefix_len p b = omega arith in
      more ∙ sym (ap (λ t. cond t (1 + prefix_len p b) 0) passes)

-- ---- a pair that is replaced

pub insert-after_remove : {Y : Type 0} (ys : List Y) (n : ℕ) (y : Y) → n < length ys
    → insert (remove ys n) n y ≡ set ys n y
insert-after_remove [] n y within = absurd (omega arith)
insert-after_remove (z ∷ ys) zero y within = refl
insert-after_remove {Y = Y} (z ∷ ys) (suc n) y within = ap (λ (zs : List Y). z ∷ zs)
    (insert-after_remove ys n y (omega arith))
