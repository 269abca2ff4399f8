-- What the rows of forms and pairs say of amounts: each form is 0 or more, and each pair of amounts worth the same.
use Rattle.std.proofs.Common.{◌≡◌, ◌==◌, ◌↔◌, ℕ, zero, suc, ◌+◌, ◌-◌, ◌*◌, ◌≤◌, cond, List, [], ◌∷◌, ◌++◌, length, get_or, map, All, Contains, refl, ap, sym, subst, ◌∙◌, arith, add-one, ℤ, pos, neg_ℤ, ◌+ℤ◌, ◌*ℤ◌, ◌-ℤ◌, ◌≤ℤ◌, ⊎_elim}
use Rattle.std.specs.List.{flat_map, range_with_len}
use Rattle.std.proofs.lemmas.Bool.Decides.{eqb_tells}
use Rattle.std.proofs.lemmas.Int.{ints}
use Rattle.std.proofs.lemmas.List.Elements.{All-head, All-tail, All-cons, All-nil, All-append, All-map, All-weaker, All-contains, All-contains_itself, Contains-append_left, Contains-append_right}
use Rattle.nomos_ir.specs.declared.amount.Amount.{Amount}
use Rattle.nomos_ir.specs.declared.amount.Amount.TheVariants as amount
use Rattle.nomos_forms.specs.Bounds.{HasStarUpTo, IsPairUpTo}
use Rattle.nomos_forms.specs.Linear.{dot, form_value, worth}
use Rattle.nomos_forms.specs.Meeting.{MeetsRow, MeetsRows}
use Rattle.nomos_forms.specs.RowsOf.{form_row, share_of, units_in, difference_row, pair_rows, all_rows, AreRowsOf}
use Rattle.nomos_forms.specs.declared.form.Form.{Form}
use Rattle.nomos_forms.specs.declared.row.Row.{Row}
use Rattle.nomos_forms.proofs.CertificateLaws.{spread, spread_zero, spread_star}
use Rattle.nomos_forms.proofs.WholeLaws.{times_neg, times_sum}

-- ---- the shares of the stars
pub dot_spread : (f : ℕ → ℤ) (s n : ℕ) (xs : List ℕ) → length xs ≡ n
    → dot (map f (range_with_len s n)) xs ≡ spread f s xs
dot_spread f s zero [] h = refl
dot_spread f s zero (x ∷ xs) h = absurd (omega arith)
dot_spread f s (suc n) [] h = absurd (omega arith)
dot_spread f s (suc n) (x ∷ xs) h = ap (λ z. pos x *ℤ f s +ℤ z) (dot_spread f (s + 1) n xs (omega arith)
    ∙ ap (λ k. spread f k xs) (add-one s))

less : (a b c d e f g h : ℤ) → a ≡ b +ℤ c → c ≡ neg_ℤ d → e ≡ f -ℤ g → a +ℤ e ≡ (b +ℤ f) -ℤ (d +ℤ g)
less a b c d e f g h i j k = omega (arith, ints)

pub spread_less : (f g : ℕ → ℤ) (s : ℕ) (xs : List ℕ) → spread (λ k. f k -ℤ g k) s xs ≡ spread f s xs -ℤ spread g s xs
spread_less f g s [] = refl
spread_less f g s (x ∷ xs) = less
    (pos x *ℤ (f s -ℤ g s)) (pos x *ℤ f s) (pos x *ℤ neg_ℤ (g s)) (pos x *ℤ g s)
    (spread (λ k. f k -ℤ g k) (suc s) xs) (spread f (suc s) xs) (spread g (suc s) xs) (pos 0)
    (times_sum (pos x) (f s) (neg_ℤ (g s))) (times_neg (pos x) (g s)) (spread_less f g (suc s) xs)

-- what is a star's in an amount
abbrev pub star_worth : List ℕ → Amount → ℕ
star_worth xs (amount.Written units) = 0
star_worth xs (amount.Star star) = get_or xs (star - 1) 0

share_none : (star : ℕ) → 1 ≤ star → cond (0 == star) (pos 1) (pos 0) ≡ pos 0
share_none star h = ⊎_elim (λ e. absurd (omega (arith, e.1))) (λ e. ap (λ b. cond b (pos 1) (pos 0)) e.0) (eqb_tells 0
    star)

pub spread_share : (n : ℕ) (xs : List ℕ) (a : Amount) → HasStarUpTo n a
    → spread (share_of a) 1 xs ≡ pos (star_worth xs a)
spread_share n xs (amount.Written units) h = spread_zero (share_of (amount.Written units)) 1 xs (λ t i j. share_none t
    i)
spread_share n xs (amount.Star star) h = sym (spread_star star 1 xs h.0)

pub worth_is : (xs : List ℕ) (unit : ℕ) (a : Amount) → worth xs unit a ≡ star_worth xs a + units_in a * unit
worth_is xs unit (amount.Written units) = omega arith
worth_is xs unit (amount.Star star) = omega arith

difference_dot : (n : ℕ) (xs : List ℕ) (a b : Amount) → length xs ≡ n → HasStarUpTo n a → HasStarUpTo n b →
    dot (difference_row n a b).coefs xs ≡ pos (star_worth xs a) -ℤ pos (star_worth xs b)
difference_dot n xs a b w h i = dot_spread (λ k. share_of a k -ℤ share_of b k) 1 n xs w
    ∙ spread_less (share_of a) (share_of b) 1 xs ∙ λ p. spread_share n xs a h p -ℤ spread_share n xs b i p

pub least_times : (unit x y : ℕ) → pos unit *ℤ (pos x -ℤ pos y) ≡ pos (x * unit) -ℤ pos (y * unit)
least_times unit x y = by (pos x) (pos y) (times_sum (pos unit) (pos x) (neg_ℤ (pos y))) (times_neg (pos unit)
    (pos y)) (ap pos (omega arith)) (ap pos (omega arith))
  where
    by : (u v : ℤ) → pos unit *ℤ (u +ℤ neg_ℤ v) ≡ pos unit *ℤ u +ℤ pos unit *ℤ neg_ℤ v → pos unit *ℤ neg_ℤ v ≡ neg_ℤ
        (pos unit *ℤ v) → pos unit *ℤ u ≡ pos (x * unit) → pos unit *ℤ v ≡ pos (y * unit) → pos unit *ℤ (u -ℤ v) ≡ pos
        (x * unit) -ℤ pos (y * unit)
    by u v e f g h = e ∙ λ p. g p +ℤ (f ∙ ap neg_ℤ h) p

-- the row of a difference is met exactly where the first amount is worth at least the second
pub difference_met : (n : ℕ) (xs : List ℕ) (unit : ℕ) (a b : Amount) → length xs ≡ n → HasStarUpTo n a →
    HasStarUpTo n b → MeetsRow xs unit (difference_row n a b) ↔ (worth xs unit b ≤ worth xs unit a)
difference_met n xs unit a b w h i =
    let left = least_times unit (units_in b) (units_in a) in
    let right = difference_dot n xs a b w h i in
    let ea = worth_is xs unit a in
    let eb = worth_is xs unit b in (
      λ m. to (units_in b * unit) (units_in a * unit) (star_worth xs a) (star_worth xs b) (subst (λ z. z ≤ℤ (pos
          (star_worth xs a) -ℤ pos (star_worth xs b))) left (subst (λ z. (pos unit *ℤ (difference_row n a b).least) ≤ℤ
          z) right m)) ea eb,
      λ l. subst (λ z. (pos unit *ℤ (difference_row n a b).least) ≤ℤ z) (sym right) (subst (λ z. z ≤ℤ (pos
          (star_worth xs a) -ℤ pos (star_worth xs b))) (sym left) (back (units_in b * unit) (units_in a * unit)
          (star_worth xs a) (star_worth xs b) l ea eb)),
    )
  where
    to : (ub ua sa sb : ℕ) → (pos ub -ℤ pos ua) ≤ℤ (pos sa -ℤ pos sb) → worth xs unit a ≡ sa + ua →
        worth xs unit b ≡ sb + ub → worth xs unit b ≤ worth xs unit a
    to ub ua sa sb m e f = omega (arith, ints)

    back : (ub ua sa sb : ℕ) → worth xs unit b ≤ worth xs unit a → worth xs unit a ≡ sa + ua →
        worth xs unit b ≡ sb + ub → (pos ub -ℤ pos ua) ≤ℤ (pos sa -ℤ pos sb)
    back ub ua sa sb m e f = omega (arith, ints)

-- the row of a form is met exactly where the form is 0 or more
pub form_met : (xs : List ℕ) (unit : ℕ) (form : Form) → MeetsRow xs unit (form_row form) ↔ (pos 0 ≤ℤ form_value xs
    unit form)
form_met xs unit form =
    let e = times_neg (pos unit) form.plus in (
      λ m. to (pos unit *ℤ neg_ℤ form.plus) (pos unit *ℤ form.plus) (dot form.coefs xs) e m,
      λ m. back (pos unit *ℤ
          neg_ℤ form.plus) (pos unit *ℤ form.plus) (dot form.coefs xs) e m,
    )
  where
    to : (a b d : ℤ) → a ≡ neg_ℤ b → a ≤ℤ d → pos 0 ≤ℤ (d +ℤ b)
    to a b d e m = omega (arith, ints)

    back : (a b d : ℤ) → a ≡ neg_ℤ b → pos 0 ≤ℤ (d +ℤ b) → a ≤ℤ d
    back a b d e m = omega (arith, ints)

-- ---- all rows
all_left : (P : Row → Type 0) (xs ys : List Row) → All P (xs ++ ys) → All P xs
all_left P xs ys h = All-weaker (Contains xs) P (λ x c. All-contains P (xs ++ ys) x h (Contains-append_left xs ys x
    c)) xs (All-contains_itself xs)

all_right : (P : Row → Type 0) (xs ys : List Row) → All P (xs ++ ys) → All P ys
all_right P xs ys h = All-weaker (Contains ys) P (λ x c. All-contains P (xs ++ ys) x h (Contains-append_right xs ys x
    c)) ys (All-contains_itself ys)

abbrev IsMet : List ℕ → ℕ → Form → Type 0
IsMet xs unit form = pos 0 ≤ℤ form_value xs unit form

abbrev AreSame : List ℕ → ℕ → Amount × Amount → Type 0
AreSame xs unit pair = worth xs unit pair.0 ≡ worth xs unit pair.1

forms_to : (xs : List ℕ) (unit : ℕ) (forms : List Form) → All (MeetsRow xs unit) (map form_row forms) →
    All (IsMet xs unit) forms
forms_to xs unit [] h = All-nil (IsMet xs unit)
forms_to xs unit (f ∷ fs) h = All-cons (IsMet xs unit) f fs ((form_met xs unit f).0 (All-head (MeetsRow xs unit)
    (form_row f) (map form_row fs) h)) (forms_to xs unit fs (All-tail (MeetsRow xs unit) (form_row f) (map form_row
    fs) h))

pairs_to : (n : ℕ) (xs : List ℕ) (unit : ℕ) (pairs : List (Amount × Amount)) → length xs ≡ n →
    All (IsPairUpTo n) pairs → All (MeetsRow xs unit) (flat_map (pair_rows n) pairs) → All (AreSame xs unit) pairs
pairs_to n xs unit [] w i h = All-nil (AreSame xs unit)
pairs_to n xs unit (p ∷ ps) w i h =
    let M = MeetsRow xs unit in
    let rest = flat_map (pair_rows n) ps in
    let stars = All-head (IsPairUpTo n) p ps i in
    let first = difference_row n p.0 p.1 in
    let second = difference_row n p.1 p.0 in
    let below = (difference_met n xs unit p.0 p.1 w stars.0 stars.1).0 (All-head M first (second ∷ rest) h) in
    let above = (difference_met n xs unit p.1 p.0 w stars.1 stars.0).0 (All-head M second rest (All-tail M first
    (second ∷ rest) h)) in
    All-cons (AreSame xs unit) p ps (omega (arith, below, above)) (pairs_to n xs unit ps w (All-tail (IsPairUpTo n) p
    ps i) (All-tail M second rest (All-tail M first (second ∷ rest) h)))

pairs_back : (n : ℕ) (xs : List ℕ) (unit : ℕ) (pairs : List (Amount × Amount)) → length xs ≡ n →
    All (IsPairUpTo n) pairs → All (AreSame xs unit) pairs → All (MeetsRow xs unit) (flat_map (pair_rows n) pairs)
pairs_back n xs unit [] w i h = All-nil (MeetsRow xs unit)
pairs_back n xs unit (p ∷ ps) w i h =
    let M = MeetsRow xs unit in
    let rest = flat_map (pair_rows n) ps in
    let stars = All-head (IsPairUpTo n) p ps i in
    let first = difference_row n p.0 p.1 in
    let second = difference_row n p.1 p.0 in
    let same = All-head (AreSame xs unit) p ps h in
    All-cons M first (second ∷ rest) ((difference_met n xs unit p.0 p.1 w stars.0 stars.1).1 (omega (arith, same)))
    (All-cons M second rest ((difference_met n xs unit p.1 p.0 w stars.1 stars.0).1 (omega (arith, same)))
    (pairs_back n xs unit ps w (All-tail (IsPairUpTo n) p ps i) (All-tail (AreSame xs unit) p ps h)))

-- the rows are met exactly where each form is 0 or more, and the amounts of each pair are worth the same
pub rows_met : (n : ℕ) (forms : List Form) (pairs : List (Amount × Amount)) (rows : List Row) (xs : List ℕ)
    (unit : ℕ) → AreRowsOf n forms pairs rows → All (IsPairUpTo n) pairs → length xs ≡ n → MeetsRows xs unit rows ↔
    (All (λ form. pos 0 ≤ℤ form_value xs unit form) forms × All (λ pair. worth xs unit pair.0 ≡ worth xs unit pair.1)
    pairs)
rows_met n forms pairs rows xs unit are i w =
    let M = MeetsRow xs unit in
    let all = all_rows n forms pairs in (
      λ h.
          let every = All-weaker (Contains all) M (λ row c. All-contains M rows row h ((are.same row).1 c)) all
          (All-contains_itself all) in (
            forms_to xs unit forms (all_left M (map form_row forms) (flat_map (pair_rows n) pairs) every),
            pairs_to n xs
                unit pairs w i (all_right M (map form_row forms) (flat_map (pair_rows n) pairs) every),
          ),
      λ h.
          let every = All-append M (map form_row forms) (flat_map (pair_rows n) pairs) (All-map M form_row forms
          (All-weaker (IsMet xs unit) (λ form. M (form_row form)) (λ form m. (form_met xs unit form).1 m) forms
          h.0)) (pairs_back n xs unit pairs w i h.1) in
          All-weaker (Contains rows) M (λ row c. All-contains M all row every ((are.same row).0 c)) rows
          (All-contains_itself rows),
    )
