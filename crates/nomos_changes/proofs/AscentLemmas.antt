-- Pairs whose variables ascend are a map as they stand.
use Rattle.std.proofs.Common.{◌≡◌, ◌<◌, ◌≤◌, ℕ, zero, suc, List, [], ◌∷◌, length, get_or, drop, Ordering, Less, refl, sym, ap, ◌∙◌, subst, arith}
use Rattle.std.specs.Cmp.{nat_cmp_is}
use Rattle.std.specs.Ordering.{match_ordering}
use Rattle.nomos_ir.specs.Bindings.{bind, bindings_of}
use Rattle.nomos_ir.specs.declared.ids.VarId.{VarId}

module _ {X : Type 0} where
  -- one pair is a map, and so is none
  pub map-alone : (ps : List (VarId × X)) (n : ℕ) → length ps ≤ suc n → bindings_of (drop n ps) ≡ drop n ps
  map-alone [] zero few = refl
  map-alone [] (suc n) few = refl
  map-alone (p ∷ []) zero few = refl
  map-alone (p ∷ q ∷ ps) zero few = absurd (omega arith)
  map-alone (p ∷ ps) (suc n) few = map-alone ps n (omega arith)

  map-before : (p q : VarId × X) (ps : List (VarId × X)) → p.0.0 < q.0.0 → bindings_of (q ∷ ps) ≡ q ∷ ps
      → bindings_of (p ∷ q ∷ ps) ≡ p ∷ q ∷ ps
  map-before p q ps lower rest =
      let less = nat_cmp_is p.0.0 q.0.0 Less lower in
      let placed : Ordering → List (VarId × X) = λ o.
      match_ordering o (p ∷ q ∷ ps) ((q.0, p.1) ∷ ps) (q ∷ bind p.0 p.1 ps) in
      ap (bind p.0 p.1) rest ∙ sym (ap placed less)

  -- a pair with a lower variable before a map
  pub map-longer : (ps : List (VarId × X)) (n : ℕ) (p q : VarId × X) → suc n < length ps → p ≡ get_or ps n p
      → q ≡ get_or ps (suc n) q → p.0.0 < q.0.0 → bindings_of (drop (suc n) ps) ≡ drop (suc n) ps
      → bindings_of (drop n ps) ≡ drop n ps
  map-longer [] n p q within first second lower rest = absurd (omega arith)
  map-longer (x ∷ []) zero p q within first second lower rest = absurd (omega arith)
  map-longer (x ∷ y ∷ ps) zero p q within first second lower rest =
      let here : x.0.0 < y.0.0 =
      omega (arith, ap (λ (e : VarId × X). e.0.0) first, ap (λ (e : VarId × X). e.0.0) second) in
      map-before x y ps here rest
  map-longer (x ∷ ps) (suc n) p q within first second lower rest =
      map-longer ps n p q (omega arith) first second lower rest

  -- the same, of places that are told otherwise
  pub map-from : (ps : List (VarId × X)) (m n : ℕ) (p q : VarId × X) → m ≡ suc n → m < length ps
      → p ≡ get_or ps n p → q ≡ get_or ps m q → p.0.0 < q.0.0 → bindings_of (drop m ps) ≡ drop m ps
      → bindings_of (drop n ps) ≡ drop n ps
  map-from ps m n p q next within first second lower rest =
      let P : ℕ → Type 0 = λ k. bindings_of (drop k ps) ≡ drop k ps in
      map-longer ps n p q (omega arith) first (second ∙ ap (λ k. get_or ps k q) next) lower (subst P next rest)
