-- The form of an account is 0 or more exactly where the account is afforded.
use Rattle.std.proofs.Common.{◌≡◌, ◌↔◌, ◌≤◌, ◌+◌, ◌*◌, ℕ, suc, List, [], ◌∷◌, All, length, refl, sym, subst, ◌∙◌, arith, ℤ, pos, ◌+ℤ◌, ◌*ℤ◌, ◌-ℤ◌, ◌≤ℤ◌}
use Rattle.std.specs.Prelude.{sum_by}
use Rattle.std.proofs.lemmas.Int.{ints}
use Rattle.std.proofs.lemmas.List.Elements.{All-head, All-tail}
use Rattle.std.proofs.lemmas.List.Sums.{sum_by-cons}
use Rattle.nomos_ir.specs.declared.amount.Amount.{Amount}
use Rattle.nomos_ir.specs.declared.amount.Amount.TheVariants as amount
use Rattle.nomos_forms.specs.Bounds.{HasStarUpTo}
use Rattle.nomos_forms.specs.Linear.{dot, form_value, worth}
use Rattle.nomos_forms.specs.RowsOf.{share_of, units_in}
use Rattle.nomos_forms.proofs.CertificateLaws.{spread, spread_zero}
use Rattle.nomos_forms.proofs.RowLaws.{dot_spread, spread_less, star_worth, spread_share, worth_is, least_times}
use Rattle.nomos_forms.proofs.WholeLaws.{times_sum}
use Rattle.nomos_types.specs.Amount.{Annotations, dths}
use Rattle.nomos_check.specs.Account.{Account, worth_of, Affords, shares, form_of}
use Rattle.nomos_check.proofs.AmountLaws.{HasAmounts}

-- each amount has a star up to n
abbrev pub HasStarsUpTo : ℕ → Account → Type 0
HasStarsUpTo n a = HasAmounts (HasStarUpTo n) a

-- ---- shares

-- sums, in another order
sum-of_four : (a b c d e f : ℤ) → a ≡ c +ℤ e → b ≡ d +ℤ f → a +ℤ b ≡ (c +ℤ d) +ℤ (e +ℤ f)
sum-of_four a b c d e f g h = omega (arith, ints)

spread-more : (f g : ℕ → ℤ) (s : ℕ) (xs : List ℕ) → spread (λ k. f k +ℤ g k) s xs ≡ spread f s xs +ℤ spread g s xs
spread-more f g s [] = refl
spread-more f g s (x ∷ xs) = sum-of_four
    (pos x *ℤ (f s +ℤ g s)) (spread (λ k. f k +ℤ g k) (suc s) xs) (pos x *ℤ f s) (spread f (suc s) xs)
    (pos x *ℤ g s) (spread g (suc s) xs) (times_sum (pos x) (f s) (g s)) (spread-more f g (suc s) xs)

-- what is the stars' among amounts
stars-worth : List ℕ → List Amount → ℕ
stars-worth xs [] = 0
stars-worth xs (r ∷ rs) = star_worth xs r + stars-worth xs rs

-- the whole units among them
units-of : List Amount → ℕ
units-of [] = 0
units-of (r ∷ rs) = units_in r + units-of rs

-- the shares of the stars are what is theirs
shares-spread : (n : ℕ) (xs : List ℕ) (rs : List Amount) → All (HasStarUpTo n) rs
    → spread (shares rs) 1 xs ≡ pos (stars-worth xs rs)
unfolding stars-worth
shares-spread n xs [] stars = spread_zero (λ k. pos 0) 1 xs (λ t low high. refl)
shares-spread n xs (r ∷ rs) stars =
    spread-more (share_of r) (shares rs) 1 xs
    ∙ (λ p.
    spread_share n xs r (All-head (HasStarUpTo n) r rs stars) p
    +ℤ shares-spread n xs rs (All-tail (HasStarUpTo n) r rs stars) p)

-- ---- worth

-- an amount is worth the same in both ways of saying it
dths-worth : (x : Annotations) (r : Amount) → dths x r ≡ worth x.stars x.unit r
dths-worth x (amount.Written units) = refl
dths-worth x (amount.Star star) = refl

-- what amounts are worth is the stars' and that of the whole units
all-worth : (x : Annotations) (rs : List Amount) → worth_of x rs ≡ stars-worth x.stars rs + units-of rs * x.unit
unfolding stars-worth units-of
all-worth x [] = omega arith
all-worth x (r ∷ rs) =
    let first = dths-worth x r ∙ worth_is x.stars x.unit r in
    omega (arith, sum_by-cons (dths x) r rs, first, all-worth x rs)

-- the whole units, summed up
units-sum : (rs : List Amount) → sum_by units_in rs ≡ units-of rs
unfolding units-of
units-sum [] = refl
units-sum (r ∷ rs) = omega (arith, sum_by-cons units_in r rs, units-sum rs)

-- ---- forms

-- the form's value is what is gained less what is spent
pub form-worth : (x : Annotations) (n : ℕ) (a : Account) → length x.stars ≡ n → HasStarsUpTo n a
    → form_value x.stars x.unit (form_of n a) ≡ pos (worth_of x a.gained) -ℤ pos (worth_of x a.spent)
form-worth x n a width stars =
    let gained = stars-worth x.stars a.gained in
    let spent = stars-worth x.stars a.spent in
    let coefs : dot (form_of n a).coefs x.stars ≡ pos gained -ℤ pos spent =
    dot_spread (λ star. shares a.gained star -ℤ shares a.spent star) 1 n x.stars width
    ∙ spread_less (shares a.gained) (shares a.spent) 1 x.stars
    ∙ (λ p. shares-spread n x.stars a.gained stars.gained p -ℤ shares-spread n x.stars a.spent stars.spent p)
    in
    let plus : pos x.unit *ℤ (form_of n a).plus ≡ pos (units-of a.gained * x.unit) -ℤ pos (units-of a.spent * x.unit) =
    (λ p. pos x.unit *ℤ (pos (units-sum a.gained p) -ℤ pos (units-sum a.spent p)))
    ∙ least_times x.unit (units-of a.gained) (units-of a.spent)
    in
    by (dot (form_of n a).coefs x.stars) (pos x.unit *ℤ (form_of n a).plus) gained spent (units-of a.gained * x.unit)
    (units-of a.spent * x.unit) coefs plus (all-worth x a.gained) (all-worth x a.spent)
  where
    by : (c p : ℤ) (g s u v : ℕ) → c ≡ pos g -ℤ pos s → p ≡ pos u -ℤ pos v → worth_of x a.gained ≡ g + u
        → worth_of x a.spent ≡ s + v → c +ℤ p ≡ pos (worth_of x a.gained) -ℤ pos (worth_of x a.spent)
    by c p g s u v h i j k = omega (arith, ints)

-- the form is 0 or more exactly where the account is afforded
pub form-affords : (x : Annotations) (n : ℕ) (a : Account) → length x.stars ≡ n → HasStarsUpTo n a
    → (pos 0 ≤ℤ form_value x.stars x.unit (form_of n a)) ↔ Affords x a
form-affords x n a width stars =
    let is = form-worth x n a width stars in (
      λ h. to (worth_of x a.gained) (worth_of x a.spent) (subst (λ z. pos 0 ≤ℤ z) is h),
      λ h. subst (λ z. pos 0 ≤ℤ z) (sym is) (back (worth_of x a.gained) (worth_of x a.spent) h),
    )
  where
    to : (g s : ℕ) → pos 0 ≤ℤ (pos g -ℤ pos s) → s ≤ g
    to g s h = omega (arith, ints)

    back : (g s : ℕ) → s ≤ g → pos 0 ≤ℤ (pos g -ℤ pos s)
    back g s h = omega (arith, ints)
