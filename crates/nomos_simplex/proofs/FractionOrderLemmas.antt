-- Two fractions are compared by their whole parts, and then by what is left.
use Rattle.std.proofs.Common.{◌≡◌, ℕ, ◌+◌, ◌*◌, ◌/◌, ◌%◌, ◌<◌, ap, sym, ◌∙◌, arith, ⊎_elim, ◌≢◌}
use Rattle.std.specs.Prelude.{nat_lt}
use Rattle.std.proofs.lemmas.Bool.{lt-ltb, le-ltb, cases_lt}
use Rattle.std.proofs.Math.Nat.{mul-le-mul_left, mod-lt}

-- a/b has the whole part q and the rest r
crossed : (a b d q r : ℕ) → b * q + r ≡ a → a * d ≡ (b * d) * q + r * d
crossed a b d q r e = ap (λ n. n * d) (sym e) ∙ omega arith

crossed_back : (c d b q r : ℕ) → d * q + r ≡ c → c * b ≡ (b * d) * q + r * b
crossed_back c d b q r e = ap (λ n. n * b) (sym e) ∙ omega arith

rest_below : (r b d : ℕ) → r < b → 0 < d → r * d < b * d
rest_below r b d h p = let le = mul-le-mul_left d h in omega arith

rest_below_turned : (r d b : ℕ) → r < d → 0 < b → r * b < b * d
rest_below_turned r d b h p = let le = mul-le-mul_left b h in omega arith

whole_less : (m q s x y : ℕ) → q < s → x < m → m * q + x < m * s + y
whole_less m q s x y h l = let le = mul-le-mul_left m h in omega arith

module _ (a b c d : ℕ) (p : 0 < b) (o : 0 < d) where
  left_is : a * d ≡ (b * d) * (a / b) + (a % b) * d
  left_is = crossed a b d (a / b) (a % b) (omega arith)

  right_is : c * b ≡ (b * d) * (c / d) + (c % d) * b
  right_is = crossed_back c d b (c / d) (c % d) (omega arith)

  small : (a % b) * d < b * d
  small = rest_below (a % b) b d (mod-lt a p) o

  other_small : (c % d) * b < b * d
  other_small = rest_below_turned (c % d) d b (mod-lt c o) p

  pub whole_parts : a / b ≢ c / d → nat_lt (a / b) (c / d) ≡ nat_lt (a * d) (c * b)
  whole_parts n = ⊎_elim
      (λ less. lt-ltb (a / b) (c / d) less
      ∙ sym (lt-ltb (a * d) (c * b) (let whole = whole_less (b * d) (a / b) (c / d) ((a % b) * d) ((c % d) * b) less
      small in
      omega (arith, left_is, right_is))))
      (λ more. le-ltb (a / b) (c / d) more
      ∙ sym (le-ltb (a * d) (c * b) (let whole = whole_less (b * d) (c / d) (a / b) ((c % d) * b) ((a % b) * d)
      (omega arith) other_small in omega (arith, left_is, right_is))))
      (cases_lt (a / b) (c / d))

  pub rest_parts : a / b ≡ c / d → nat_lt (a % b * d) (c % d * b) ≡ nat_lt (a * d) (c * b)
  rest_parts e =
      let same : (b * d) * (a / b) ≡ (b * d) * (c / d) = ap (λ n. (b * d) * n) e in ⊎_elim
      (λ less. lt-ltb (a % b * d) (c % d * b) less
      ∙ sym (lt-ltb (a * d) (c * b) (omega (arith, left_is, right_is))))
      (λ more. le-ltb (a % b * d) (c % d * b) more
      ∙ sym (le-ltb (a * d) (c * b) (omega (arith, left_is, right_is))))
      (cases_lt (a % b * d) (c % d * b))
