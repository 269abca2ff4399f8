-- Sums of coefficients times what variables have, after a change of one column, and of lists put together.
use Rattle.std.proofs.Common.{◌≡◌, ℕ, zero, suc, ◌<◌, List, [], ◌∷◌, length, map, get_or, set, ap, sym, refl, ◌∙◌, arith, ℤ, pos, ◌+ℤ◌, ◌-ℤ◌, ◌*ℤ◌, neg_ℤ, All}
use Rattle.std.proofs.lemmas.Int.{ints}
use Rattle.std.proofs.lemmas.List.Elements.{All-head, All-tail}
use Rattle.std.proofs.Math.IntN.{*ℤ-zero, *ℤ_comm}
use Rattle.nomos_forms.proofs.WholeLaws.{times_sum, times_assoc, times_neg, neg_times, times_swap}
use Rattle.nomos_simplex.specs.Exchange.{eliminated}
use Rattle.nomos_simplex.specs.Tables.{sum_at}

-- ---- sums of atoms, in another order
swap_first : (a b s : ℤ) → (a +ℤ s) +ℤ b ≡ (b +ℤ s) +ℤ a
swap_first a b s = omega (arith, ints)

under_first : (c a b s t : ℤ) → s +ℤ b ≡ t +ℤ a → (c +ℤ s) +ℤ b ≡ (c +ℤ t) +ℤ a
under_first c a b s t h = omega (arith, ints)

both_down : (a b s t u v : ℤ) → u ≡ neg_ℤ a → v ≡ neg_ℤ s → u +ℤ v ≡ neg_ℤ (a +ℤ s)
both_down a b s t u v h i = omega (arith, ints)

two_of_two : (pa gc ps gt x t u v : ℤ) → x ≡ pa -ℤ gc → t ≡ ps -ℤ gt → u ≡ pa +ℤ ps → v ≡ gc +ℤ gt → x +ℤ t ≡ u -ℤ v
two_of_two pa gc ps gt x t u v h i j k = omega (arith, ints)

minus_as_sum : (a b : ℤ) → a -ℤ b ≡ a +ℤ neg_ℤ b
minus_as_sum a b = omega (arith, ints)

pub times_minus : (a b c : ℤ) → a *ℤ (b -ℤ c) ≡ a *ℤ b -ℤ a *ℤ c
times_minus a b c = ap (λ z. a *ℤ z) (minus_as_sum b c) ∙ times_sum a b (neg_ℤ c)
    ∙ ap (λ z. a *ℤ b +ℤ z) (times_neg a c) ∙ sym (minus_as_sum (a *ℤ b) (a *ℤ c))

pub minus_times : (a b c : ℤ) → (a -ℤ b) *ℤ c ≡ a *ℤ c -ℤ b *ℤ c
minus_times a b c = *ℤ_comm (a -ℤ b) c ∙ times_minus c a b ∙ (λ p. *ℤ_comm c a p -ℤ *ℤ_comm c b p)

-- ---- one column changed
pub sum_set : (y : ℕ → ℤ) (vs : List ℕ) (cs : List ℤ) (j v : ℕ) (c : ℤ) → j < length vs → j < length cs →
    sum_at y (set vs j v) (set cs j c) +ℤ get_or cs j (pos 0) *ℤ y (get_or vs j 0) ≡ sum_at y vs cs +ℤ c *ℤ y v
sum_set y [] cs j v c h i = absurd (omega arith)
sum_set y (w ∷ vs) [] j v c h i = absurd (omega arith)
sum_set y (w ∷ vs) (b ∷ cs) zero v c h i = swap_first (c *ℤ y v) (b *ℤ y w) (sum_at y vs cs)
sum_set y (w ∷ vs) (b ∷ cs) (suc j) v c h i =
    under_first (b *ℤ y w) (c *ℤ y v) (get_or cs j (pos 0) *ℤ y (get_or vs j 0)) (sum_at y (set vs j v) (set cs j c))
    (sum_at y vs cs) (sum_set y vs cs j v c (omega arith) (omega arith))

-- ---- lists put together
pub sum_neg : (y : ℕ → ℤ) (vs : List ℕ) (cs : List ℤ) → sum_at y vs (map neg_ℤ cs) ≡ neg_ℤ (sum_at y vs cs)
sum_neg y [] cs = refl
sum_neg y (v ∷ vs) [] = refl
sum_neg y (v ∷ vs) (c ∷ cs) =
    both_down (c *ℤ y v) (pos 0) (sum_at y vs cs) (pos 0) (neg_ℤ c *ℤ y v) (sum_at y vs (map neg_ℤ cs))
    (neg_times c (y v)) (sum_neg y vs cs)

pub sum_eliminated : (y : ℕ → ℤ) (p g : ℤ) (vs : List ℕ) (as' cs : List ℤ) → length as' ≡ length cs →
    sum_at y vs (eliminated p g as' cs) ≡ p *ℤ sum_at y vs as' -ℤ g *ℤ sum_at y vs cs
sum_eliminated y p g [] as' cs h = sym ((λ k. *ℤ-zero p k -ℤ *ℤ-zero g k))
sum_eliminated y p g (v ∷ vs) [] [] h = sym ((λ k. *ℤ-zero p k -ℤ *ℤ-zero g k))
sum_eliminated y p g (v ∷ vs) [] (c ∷ cs) h = absurd (omega arith)
sum_eliminated y p g (v ∷ vs) (a ∷ as') [] h = absurd (omega arith)
sum_eliminated y p g (v ∷ vs) (a ∷ as') (c ∷ cs) h =
    two_of_two (p *ℤ (a *ℤ y v)) (g *ℤ (c *ℤ y v)) (p *ℤ sum_at y vs as') (g *ℤ sum_at y vs cs)
    ((p *ℤ a -ℤ g *ℤ c) *ℤ y v) (sum_at y vs (eliminated p g as' cs))
    (p *ℤ (a *ℤ y v +ℤ sum_at y vs as')) (g *ℤ (c *ℤ y v +ℤ sum_at y vs cs))
    (minus_times (p *ℤ a) (g *ℤ c) (y v) ∙ (λ k. times_assoc p a (y v) k -ℤ times_assoc g c (y v) k))
    (sum_eliminated y p g vs as' cs (omega arith))
    (times_sum p (a *ℤ y v) (sum_at y vs as'))
    (times_sum g (c *ℤ y v) (sum_at y vs cs))

-- each coefficient times d
pub sum_scaled : (y : ℕ → ℤ) (d : ℤ) (f : ℤ → ℤ) (vs : List ℕ) (cs : List ℤ) → All (λ c. f c *ℤ d ≡ c) cs →
    d *ℤ sum_at y vs (map f cs) ≡ sum_at y vs cs
sum_scaled y d f [] cs h = *ℤ-zero d
sum_scaled y d f (v ∷ vs) [] h = *ℤ-zero d
sum_scaled y d f (v ∷ vs) (c ∷ cs) h =
    let one : d *ℤ (f c *ℤ y v) ≡ c *ℤ y v = sym (times_assoc d (f c) (y v))
    ∙ ap (λ z. z *ℤ y v) (*ℤ_comm d (f c) ∙ All-head (λ c. f c *ℤ d ≡ c) c cs h) in
    let rest = sum_scaled y d f vs cs (All-tail (λ c. f c *ℤ d ≡ c) c cs h) in
    times_sum d (f c *ℤ y v) (sum_at y vs (map f cs)) ∙ (λ k. one k +ℤ rest k)

-- what each variable has, times m
pub sum_times_all : (y z : ℕ → ℤ) (m : ℤ) (vs : List ℕ) (cs : List ℤ) → All (λ v. z v ≡ m *ℤ y v) vs →
    sum_at z vs cs ≡ m *ℤ sum_at y vs cs
sum_times_all y z m [] cs h = sym (*ℤ-zero m)
sum_times_all y z m (v ∷ vs) [] h = sym (*ℤ-zero m)
sum_times_all y z m (v ∷ vs) (c ∷ cs) h =
    let one : c *ℤ z v ≡ m *ℤ (c *ℤ y v) = ap (λ x. c *ℤ x) (All-head (λ v. z v ≡ m *ℤ y v) v vs h)
    ∙ times_swap c m (y v) in
    let rest = sum_times_all y z m vs cs (All-tail (λ v. z v ≡ m *ℤ y v) v vs h) in
    (λ k. one k +ℤ rest k) ∙ sym (times_sum m (c *ℤ y v) (sum_at y vs cs))

pub get_or-eliminated : (p g : ℤ) (as' cs : List ℤ) (j : ℕ) → length as' ≡ length cs → j < length cs →
    get_or (eliminated p g as' cs) j (pos 0) ≡ p *ℤ get_or as' j (pos 0) -ℤ g *ℤ get_or cs j (pos 0)
get_or-eliminated p g [] cs j h i = absurd (omega arith)
get_or-eliminated p g (a ∷ as') [] j h i = absurd (omega arith)
get_or-eliminated p g (a ∷ as') (c ∷ cs) zero h i = refl
get_or-eliminated p g (a ∷ as') (c ∷ cs) (suc j) h i = get_or-eliminated p g as' cs j (omega arith) (omega arith)
