-- Two lists side by side, of which a relation holds place by place.
use Rattle.std.proofs.Common.{◌≡◌, ℕ, ◌+◌, ◌<◌, ⊎_elim, List, [], ◌∷◌, ◌++◌, length, map, get_or, set, sym, subst, ◌∙◌, arith}
use Rattle.std.specs.List.{remove}
use Rattle.std.proofs.lemmas.Bool.{cases_lt, cases_eq}
use Rattle.std.proofs.lemmas.List.{get_or-map, get_or_append_left, get_or_push, get_or-set_same, get_or-set_other, length-map, length-append, length-set}
use Rattle.std.proofs.lemmas.List.Edits.{get_or-remove_below, get_or-remove_above, length-remove}

module _ {X Y : Type 0} (dx : X) (dy : Y) (R : X → Y → Type 0) where
  -- at each place of the second list
  abbrev pub AtPlaces : List X → List Y → Type 0
  AtPlaces xs ys = (k : ℕ) → k < length ys → R (get_or xs k dx) (get_or ys k dy)

  pub places-remove : (xs : List X) (ys : List Y) (i : ℕ) → length xs ≡ length ys → i < length ys → AtPlaces xs ys →
      AtPlaces (remove xs i) (remove ys i)
  places-remove xs ys i e h f k l = ⊎_elim
      (λ less. subst (λ x. R x (get_or (remove ys i) k dy)) (sym (get_or-remove_below xs i dx k less (omega arith)))
      (subst (R (get_or xs k dx)) (sym (get_or-remove_below ys i dy k less h))
      (f k (omega arith))))
      (λ more. subst (λ x. R x (get_or (remove ys i) k dy))
      (sym (get_or-remove_above xs i dx k more (omega arith)))
      (subst (R (get_or xs (k + 1) dx)) (sym (get_or-remove_above ys i dy k more h))
      (f (k + 1) (omega (arith, length-remove ys i h)))))
      (cases_lt k i)

  pub places_push : (xs : List X) (ys : List Y) (x : X) (y : Y) → length xs ≡ length ys → R x y → AtPlaces xs ys →
      AtPlaces (xs ++ x ∷ []) (ys ++ y ∷ [])
  places_push xs ys x y e r f k l = ⊎_elim
      (λ less. subst (λ a. R a (get_or (ys ++ y ∷ []) k dy))
      (sym (get_or_append_left xs (x ∷ []) dx k (omega arith)))
      (subst (R (get_or xs k dx)) (sym (get_or_append_left ys (y ∷ []) dy k less)) (f k less)))
      (λ more. let here : length ys ≡ k = omega (arith, length-append ys (y ∷ [])) in
      subst (λ a. R a (get_or (ys ++ y ∷ []) k dy)) (sym (get_or_push xs x dx k (e ∙ here)))
      (subst (R x) (sym (get_or_push ys y dy k here)) r))
      (cases_lt k (length ys))

  pub places-set : (xs : List X) (ys : List Y) (j : ℕ) (x : X) (y : Y) → length xs ≡ length ys → R x y →
      AtPlaces xs ys → AtPlaces (set xs j x) (set ys j y)
  places-set xs ys j x y e r f k l = ⊎_elim
      (λ same. subst (λ n. R (get_or (set xs j x) n dx) (get_or (set ys j y) n dy)) (sym same)
      (subst (λ a. R a (get_or (set ys j y) j dy))
      (sym (get_or-set_same xs j x dx (omega (arith, same, length-set ys j y))))
      (subst (R x) (sym (get_or-set_same ys j y dy (omega (arith, same, length-set ys j y)))) r)))
      (λ other. subst (λ a. R a (get_or (set ys j y) k dy)) (sym (get_or-set_other xs j k x dx other))
      (subst (R (get_or xs k dx)) (sym (get_or-set_other ys j k y dy other))
      (f k (omega (arith, length-set ys j y)))))
      (cases_eq k j)

pub places-map : {X Y Z : Type 0} (dx : X) (dy : Y) (dz : Z) (R : X → Z → Type 0) (f : Y → Z) (xs : List X)
    (ys : List Y) → AtPlaces dx dy (λ x y. R x (f y)) xs ys → AtPlaces dx dz R xs (map f ys)
places-map dx dy dz R f xs ys h k l =
    let within : k < length ys = omega (arith, length-map ys f) in
    subst (R (get_or xs k dx)) (sym (get_or-map f ys k dy dz within)) (h k within)
