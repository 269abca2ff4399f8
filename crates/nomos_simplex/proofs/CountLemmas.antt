-- What holds of each element of a list, from a list that was made of it; counts in such lists.
use Rattle.std.proofs.Common.{◌≡◌, ℕ, suc, ◌+◌, ◌-◌, ◌<◌, List, [], ◌∷◌, ◌++◌, length, map, get_or, Bool, true, false, cond, ap, sym, refl, subst, ◌∙◌, arith, All, ⊎_elim}
use Rattle.std.specs.List.{remove, sum_by, count_by}
use Rattle.std.proofs.lemmas.Bool.{cases_order}
use Rattle.std.proofs.lemmas.List.{get_or-map, get_or_append_left, get_or_push, length-map, length-append}
use Rattle.std.proofs.lemmas.List.Edits.{get_or-remove_below, get_or-remove_above, length-remove}
use Rattle.std.proofs.lemmas.List.Elements.{All-append, All-take, All-drop}
use Rattle.std.proofs.lemmas.List.Sums.{get_or-le-sum_by, sum_by-cons}

pub All-remove : {X : Type 0} (P : X → Type 0) (xs : List X) (i : ℕ) → All P xs → All P (remove xs i)
All-remove P xs i h = All-append P _ _ (All-take P i xs h) (All-drop P (suc i) xs h)

pub All-from_remove : {X : Type 0} (P : X → Type 0) (xs : List X) (i : ℕ) → i < length xs →
    ((d : X) → P (get_or xs i d)) → All P (remove xs i) → All P xs
All-from_remove P xs i h here h' k d l = ⊎_elim
    (λ e. subst (λ n. P (get_or xs n d)) (sym e) (here d))
    (λ o. ⊎_elim
    (λ less. subst P (get_or-remove_below xs i d k less h) (h' k d (omega (arith, length-remove xs i h))))
    (λ more. let place : k - 1 + 1 ≡ k = omega arith in
    subst (λ n. P (get_or xs n d))
    place (subst P (get_or-remove_above xs i d (k - 1) (omega arith) h)
    (h' (k - 1) d (omega (arith, length-remove xs i h)))))
    o)
    (cases_order k i)

pub All-from_map : {X Y : Type 0} (P : X → Type 0) (f : Y → X) (ys : List Y) → All P (map f ys) → All (λ y. P (f y)) ys
All-from_map P f ys h k d l = subst P (get_or-map f ys k d (f d) l) (h k (f d) (omega (arith, length-map ys f)))

pub All-front : {X : Type 0} (P : X → Type 0) (xs ys : List X) → All P (xs ++ ys) → All P xs
All-front P xs ys h k d l = subst P (get_or_append_left xs ys d k l) (h k d (omega (arith, length-append xs ys)))

pub All-last : {X : Type 0} (P : X → Type 0) (xs : List X) (y : X) → All P (xs ++ y ∷ []) → P y
All-last P xs y h =
    subst P (get_or_push xs y y (length xs) refl) (h (length xs) y (omega (arith, length-append xs (y ∷ []))))

pub sum_by-map : {X Y : Type 0} (f : Y → ℕ) (g : X → Y) (xs : List X) → sum_by f (map g xs) ≡ sum_by (λ x. f (g x)) xs
sum_by-map f g [] = refl
sum_by-map f g (x ∷ xs) = sum_by-cons f (g x) (map g xs) ∙ ap (λ n. f (g x) + n) (sum_by-map f g xs)
    ∙ sym (sum_by-cons (λ z. f (g z)) x xs)

one_where_true : (b : Bool) → b ≡ true → 0 < cond b 1 0
one_where_true true e = omega arith
one_where_true false e = cc

-- what is at a place is counted
pub counted : {X : Type 0} (p : X → Bool) (xs : List X) (i : ℕ) (d : X) → i < length xs → p (get_or xs i d) ≡ true →
    0 < count_by p xs
counted p xs i d h e =
    let le = get_or-le-sum_by (λ x. cond (p x) 1 0) xs i d h in
    let one = one_where_true (p (get_or xs i d)) e in
    omega arith
