-- Entries of a map, found by their keys.
use Rattle.std.proofs.Common.{◌≡◌, ℕ, nat_eq, Bool, true, false, cond, List, [], ◌∷◌, Contains, Option, Some, None, is_some, refl, true≢false, sym, subst, eqb-true, arith}
use Rattle.std.specs.Map.{lookup}
use Rattle.std.proofs.lemmas.List.Elements.{Contains-get_or, Contains-append_right}

-- a key that is found has an entry
pub entry-there : {V : Type 0} (es : List (ℕ × V)) (k : ℕ) → is_some (lookup (nat_eq k) es) ≡ true
    → (v : V) × Contains es (k, v)
entry-there [] k found = absurd (true≢false (sym found))
entry-there {V = V} (e ∷ es) k found = by (nat_eq k e.0) refl (entry-there es k) found
  where
    by : (b : Bool) → nat_eq k e.0 ≡ b → (is_some (lookup (nat_eq k) es) ≡ true → (v : V) × Contains es (k, v))
        → is_some (cond b (Some e.1) (lookup (nat_eq k) es)) ≡ true → (v : V) × Contains (e ∷ es) (k, v)
    by true is rest h =
        let same : k ≡ e.0 = eqb-true k e.0 is in
        (e.1, subst (λ (j : ℕ). Contains (e ∷ es) (j, e.1)) (sym same) (Contains-get_or (e ∷ es) 0 e (omega arith)))
    by false is rest h = let r = rest h in (r.0, Contains-append_right (e ∷ []) es (k, r.0) r.1)

pub none-there : {V : Type 0} (o : Option V) → is_some o ≡ false → o ≡ None
none-there None absent = refl
none-there (Some v) absent = absurd (true≢false absent)
