-- A verdict that refutes rows shows that no amounts meet them.
use Rattle.std.proofs.Common.{◌≡◌, ◌==◌, ℕ, suc, ◌+◌, ◌-◌, ◌*◌, ◌<◌, ◌≤◌, cond, List, [], ◌∷◌, length, get_or, refl, ap, sym, subst, ◌∙◌, arith, ℤ, pos, ◌+ℤ◌, ◌*ℤ◌, ◌≤ℤ◌, All, ⊎_elim}
use Rattle.std.proofs.lemmas.Int.{ints}
use Rattle.std.proofs.lemmas.Bool.Decides.{eqb_tells}
use Rattle.std.proofs.lemmas.List.Elements.{All-head, All-tail, All-contains}
use Rattle.std.proofs.Math.IntN.{+ℤ_idl, *ℤ-zero}
use Rattle.std.proofs.Math.Nat.{mul-le-mul_left}
use borrow.Author.Differences.{at_most_in, le_out}
use Rattle.nomos_forms.specs.Bounds.{IsRow}
use Rattle.nomos_forms.specs.Linear.{dot}
use Rattle.nomos_forms.specs.Meeting.{MeetsRow, MeetsRows}
use Rattle.nomos_forms.specs.Refuting.{coef_in, least_in, weighted, IsOneOf, Refutes, NoneMeet}
use Rattle.nomos_forms.specs.declared.row.Row.{Row}
use Rattle.nomos_forms.specs.declared.verdict.Of.{Of}
use Rattle.nomos_forms.specs.declared.verdict.Of.TheVariants as of
use Rattle.nomos_forms.specs.declared.verdict.Weight.{Weight}
use Rattle.nomos_forms.specs.declared.verdict.Verdict.{Verdict}
use Rattle.nomos_forms.proofs.WholeLaws.{times_sum, times_swap, count_times_le}

-- what is weighted comes to this under amounts
abbrev pub value_in : List ℕ → Of → ℤ
value_in xs (of.Star own) = pos (get_or xs (own - 1) 0)
value_in xs (of.Row row) = dot row.coefs xs

-- amounts times what a function has for the stars from s on
abbrev pub spread : (ℕ → ℤ) → ℕ → List ℕ → ℤ
spread f s [] = pos 0
spread f s (x ∷ xs) = pos x *ℤ f s +ℤ spread f (suc s) xs

-- ---- sums of atoms, in another order
four : (a b c d e f g : ℤ) → a ≡ b +ℤ c → d ≡ e +ℤ f → g ≡ b +ℤ e → a +ℤ d ≡ g +ℤ (c +ℤ f)
four a b c d e f g h i j = omega (arith, ints)

low_sum : (a b c d e : ℤ) → e ≡ a +ℤ c → a ≤ℤ b → c ≤ℤ d → e ≤ℤ (b +ℤ d)
low_sum a b c d e h i j = omega (arith, ints)

-- ---- linearity
pub spread_zero : (f : ℕ → ℤ) (s : ℕ) (xs : List ℕ) → ((t : ℕ) → s ≤ t → t < s + length xs → f t ≡ pos 0) →
    spread f s xs ≡ pos 0
spread_zero f s [] h = refl
spread_zero f s (x ∷ xs) h =
    let rest = spread_zero f (suc s) xs (λ t i j. h t (omega arith) (omega arith)) in
    ap (λ z. pos x *ℤ z +ℤ spread f (suc s) xs) (h s (omega arith) (omega arith)) ∙ ap (λ z. z +ℤ spread f (suc s) xs)
    (*ℤ-zero (pos x)) ∙ +ℤ_idl (spread f (suc s) xs) ∙ rest

spread_sum : (t : ℤ) (f g : ℕ → ℤ) (s : ℕ) (xs : List ℕ) → spread (λ k. t *ℤ f k +ℤ g k) s xs ≡ t *ℤ spread f s xs +ℤ
    spread g s xs
spread_sum t f g s [] = ap (λ z. z +ℤ pos 0) (sym (*ℤ-zero t))
spread_sum t f g s (x ∷ xs) = four
    (pos x *ℤ (t *ℤ f s +ℤ g s)) (t *ℤ (pos x *ℤ f s)) (pos x *ℤ g s)
    (spread (λ k. t *ℤ f k +ℤ g k) (suc s) xs) (t *ℤ spread f (suc s) xs) (spread g (suc s) xs)
    (t *ℤ (pos x *ℤ f s +ℤ spread f (suc s) xs))
    (times_sum (pos x) (t *ℤ f s) (g s) ∙ ap (λ z. z +ℤ pos x *ℤ g s) (times_swap (pos x) t (f s)))
    (spread_sum t f g (suc s) xs)
    (times_sum t (pos x *ℤ f s) (spread f (suc s) xs))

-- ---- what is weighted is its coefficients times the amounts
pub spread_alike : (f g : ℕ → ℤ) (s : ℕ) (xs : List ℕ) → ((t : ℕ) → s ≤ t → f t ≡ g t) → spread f s xs ≡ spread g s xs
spread_alike f g s [] h = refl
spread_alike f g s (x ∷ xs) h = let rest = spread_alike f g (suc s) xs (λ t i. h t (omega arith)) in
    λ p. pos x *ℤ h s (omega arith) p +ℤ rest p

pub spread_row : (cs : List ℤ) (s : ℕ) (xs : List ℕ) → dot cs xs ≡ spread (λ t. get_or cs (t - s) (pos 0)) s xs
spread_row [] s xs = sym (spread_zero (λ t. pos 0) s xs (λ t i j. refl))
spread_row (c ∷ cs) s [] = refl
spread_row (c ∷ cs) s (x ∷ xs) =
    let first : 0 ≡ s - s = omega arith in
    let rest = spread_row cs (suc s) xs ∙ spread_alike (λ t. get_or cs (t - suc s) (pos 0)) (λ t. get_or (c ∷ cs)
    (t - s) (pos 0)) (suc s) xs (λ t i. let one : suc (t - suc s) ≡ t - s = omega arith in
    ap (λ k. get_or (c ∷ cs) k (pos 0)) one) in
    λ p. pos x *ℤ get_or (c ∷ cs) (first p) (pos 0) +ℤ rest p

unit_past : (own s : ℕ) (xs : List ℕ) → own < s → spread (λ t. cond (own == t) (pos 1) (pos 0)) s xs ≡ pos 0
unit_past own s xs h = spread_zero (λ t. cond (own == t) (pos 1) (pos 0)) s xs (λ t i j. ⊎_elim (λ e. absurd (omega
    (arith, e.1))) (λ e. ap (λ b. cond b (pos 1) (pos 0)) e.0) (eqb_tells own t))

sum_of_one : (x u r : ℤ) → u ≡ pos 1 → r ≡ pos 0 → x ≡ x *ℤ u +ℤ r
sum_of_one x u r h i = one' x ∙ (λ p. x *ℤ sym h p +ℤ sym i p)
  where
    one' : (x : ℤ) → x ≡ x *ℤ pos 1 +ℤ pos 0
    one' x = omega (arith, ints)

sum_of_none : (x u r v : ℤ) → u ≡ pos 0 → v ≡ r → v ≡ x *ℤ u +ℤ r
sum_of_none x u r v h i = i ∙ sym ((λ p. x *ℤ h p +ℤ r) ∙ ap (λ z. z +ℤ r) (*ℤ-zero x) ∙ +ℤ_idl r)

pub spread_star : (own s : ℕ) (xs : List ℕ) → s ≤ own → pos (get_or xs (own - s) 0) ≡ spread (λ t. cond (own == t)
    (pos 1) (pos 0)) s xs
spread_star own s [] h = refl
spread_star own s (x ∷ xs) h = ⊎_elim
    (λ e. let zero_place : own - s ≡ 0 = omega (arith, e.1) in
    ap (λ k. pos (get_or (x ∷ xs) k 0)) zero_place ∙ sum_of_one (pos x) (cond (own == s) (pos 1) (pos 0)) (spread
    (λ t. cond (own == t) (pos 1) (pos 0)) (suc s) xs) (ap (λ b. cond b (pos 1) (pos 0)) e.0) (unit_past own
    (suc s) xs (omega (arith, e.1))))
    (λ e. let less : s < own = omega (arith, e.1) in
    let place : own - s ≡ suc (own - suc s) = omega arith in
    ap (λ k. pos (get_or (x ∷ xs) k 0)) place ∙ sum_of_none (pos x) (cond (own == s) (pos 1) (pos 0)) (spread
    (λ t. cond (own == t) (pos 1) (pos 0)) (suc s) xs) (pos (get_or xs (own - suc s) 0)) (ap (λ b. cond b (pos 1)
    (pos 0)) e.0) (spread_star own (suc s) xs less))
    (eqb_tells own s)

value_is : (n : ℕ) (rows : List Row) (xs : List ℕ) (o : Of) → length xs ≡ n → All (IsRow n) rows → IsOneOf n rows o →
    value_in xs o ≡ spread (λ s. coef_in s o) 1 xs
value_is n rows xs (of.Star own) w h i = spread_star own 1 xs i.0
value_is n rows xs (of.Row row) w h i = spread_row row.coefs 1 xs

pub weighted_value : (n : ℕ) (rows : List Row) (xs : List ℕ) (ws : List Weight) → length xs ≡ n → All (IsRow n) rows →
    All (λ w. IsOneOf n rows w.of) ws → weighted (value_in xs) ws ≡ spread (λ s. weighted (coef_in s) ws) 1 xs
weighted_value n rows xs [] w h i = sym (spread_zero (λ s. pos 0) 1 xs (λ t j k. refl))
weighted_value n rows xs (v ∷ vs) w h i =
    let rest = weighted_value n rows xs vs w h (All-tail (λ w. IsOneOf n rows w.of) v vs i) in
    let one = value_is n rows xs v.of w h (All-head (λ w. IsOneOf n rows w.of) v vs i) in
    (λ p. pos v.times *ℤ one p +ℤ rest p) ∙ sym (spread_sum (pos v.times) (λ s. coef_in s v.of) (λ s. weighted
    (coef_in s) vs) 1 xs)

-- ---- and each is at least its least
low_of : (n : ℕ) (rows : List Row) (xs : List ℕ) (unit : ℕ) (o : Of) → MeetsRows xs unit rows → IsOneOf n rows o →
    (pos unit *ℤ least_in o) ≤ℤ value_in xs o
low_of n rows xs unit (of.Star own) h i = at_most_in (pos unit *ℤ pos 0) (pos (get_or xs (own - 1) 0)) (omega arith)
low_of n rows xs unit (of.Row row) h i = All-contains (MeetsRow xs unit) rows row h i

pub low_sum_of : (n : ℕ) (rows : List Row) (xs : List ℕ) (unit : ℕ) (ws : List Weight) → MeetsRows xs unit rows →
    All (λ w. IsOneOf n rows w.of) ws → (pos unit *ℤ weighted least_in ws) ≤ℤ weighted (value_in xs) ws
low_sum_of n rows xs unit [] h i = at_most_in (pos unit *ℤ pos 0) (pos 0) (omega arith)
low_sum_of n rows xs unit (v ∷ vs) h i =
    let rest = low_sum_of n rows xs unit vs h (All-tail (λ w. IsOneOf n rows w.of) v vs i) in
    let one = count_times_le v.times (pos unit *ℤ least_in v.of) (value_in xs v.of) (low_of n rows xs unit v.of h
    (All-head (λ w. IsOneOf n rows w.of) v vs i)) in
    low_sum (pos v.times *ℤ (pos unit *ℤ least_in v.of)) (pos v.times *ℤ value_in xs v.of) (pos unit *ℤ weighted
    least_in vs) (weighted (value_in xs) vs) (pos unit *ℤ (pos v.times *ℤ least_in v.of +ℤ weighted least_in vs))
    (times_sum (pos unit) (pos v.times *ℤ least_in v.of) (weighted least_in vs)
    ∙ ap (λ z. z +ℤ pos unit *ℤ weighted least_in vs) (times_swap (pos unit) (pos v.times) (least_in v.of)))
    one rest

-- what a verdict that refutes rows says of amounts
pub none_meet : (n : ℕ) (rows : List Row) (verdict : Verdict) → All (IsRow n) rows → Refutes n rows verdict →
    NoneMeet n rows
none_meet n rows verdict each r xs unit w p m =
    let low = low_sum_of n rows xs unit verdict.weights m r.of in
    let none = weighted_value n rows xs verdict.weights w each r.of
    ∙ spread_zero (λ s. weighted (coef_in s) verdict.weights) 1 xs (λ t i j. r.no_star t i (omega arith)) in
    let more = mul-le-mul_left unit r.over_zero in
    let low' : pos (unit * verdict.gives) ≤ℤ pos 0 = subst (λ z. (pos unit *ℤ z) ≤ℤ pos 0) r.gives (subst (λ z.
    (pos unit *ℤ weighted least_in verdict.weights) ≤ℤ z) none low) in
    omega (arith, le_out (pos (unit * verdict.gives)) (pos 0) low', more)
