-- Groups of rows that are joined with the last one where they have its coefficients.
use Rattle.std.specs.Prelude.{◌≡◌, ◌<◌, ◌-◌, ◌++◌, ◌⊎◌, ℤ, List, [], ◌∷◌, map, length, slice_index_or}
use Rattle.nomos_forms.specs.declared.row_group.RowGroup.{RowGroup}

-- the coefficients of each group
abbrev pub coefs_of : List RowGroup → List (List ℤ)
coefs_of groups = map (λ group. group.coefs) groups

-- the last one is x
abbrev pub EndsIn : {X : Type 0} → List X → X → Type 0
EndsIn xs x = (0 < length xs) × (slice_index_or xs (length xs - 1) x ≡ x)

-- ys is xs with x behind it, where x is not already the last one
abbrev pub IsJoined : {X : Type 0} → List X → X → List X → Type 0
IsJoined xs x ys = ((ys ≡ xs) × EndsIn xs x) ⊎ ((ys ≡ xs ++ x ∷ []) × ¬ EndsIn xs x)
