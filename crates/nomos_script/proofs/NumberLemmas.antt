-- Numbers that are read digit by digit.
use Rattle.std.proofs.Common.{◌≡◌, ℕ, ◌+◌, ◌-◌, ◌*◌, ◌^◌, ◌<◌, ◌≤◌, List, [], ◌∷◌, length, take, drop, sym, arith}
use Rattle.std.specs.Prelude.{slice_index}
use Rattle.std.specs.Char.{digit_value}
use Rattle.std.specs.Str.Parse.{AllDigits, digits_value, digits_value_after}
use Rattle.std.proofs.lemmas.List.{take_rest}
use Rattle.std.proofs.lemmas.Str.{digit_value_digit}
use Rattle.std.proofs.lemmas.Str.Parse.{digit_from_value}

-- The digits that are left are digits, and lead from the number so far to the whole one.
pub record ReadDigits (digits left : List ℕ) (number : ℕ) : Type 0 where
  pub each : AllDigits 10 left
  pub whole : digits_value 10 digits ≡ digits_value_after 10 number left
  pub small : number < 2 ^ 64

-- the number gets no smaller
pub no_smaller : (n : ℕ) (digits : List ℕ) → n ≤ digits_value_after 10 n digits
no_smaller n [] = omega arith
no_smaller n (d ∷ digits) = omega (arith, no_smaller (n * 10 + digit_value d) digits)

-- the next digit
pub ReadDigits-digit : (digits left : List ℕ) (number : ℕ) → ReadDigits digits left number → 1 ≤ length left
    → (48 ≤ slice_index left 0) × (slice_index left 0 - 48 < 10)
ReadDigits-digit digits [] number h some = absurd (omega (arith, some))
ReadDigits-digit digits (d ∷ left) number h some =
    let within = digit_from_value d h.each.0 in
    (omega (arith, within), omega (arith, within))

pub ReadDigits-next : (digits left : List ℕ) (number : ℕ) → ReadDigits digits left number → 1 ≤ length left
    → number * 10 + (slice_index left 0 - 48) < 2 ^ 64
    → ReadDigits digits (take (length left - 1) (drop 1 left)) (number * 10 + (slice_index left 0 - 48))
ReadDigits-next digits [] number h some small = absurd (omega (arith, some))
ReadDigits-next digits (d ∷ left) number h some small =
    let within = digit_from_value d h.each.0 in
    let value : digit_value d ≡ d - 48 = omega (arith, digit_value_digit d within) in
    let still : number * 10 + digit_value d < 2 ^ 64 = omega (arith, value, small) in
    rw (take_rest (d ∷ left) 1, ← value) (record { each = h.each.1; whole = h.whole; small = still })

-- the whole number is no smaller than one with the next digit
pub ReadDigits-large : (digits left : List ℕ) (number : ℕ) → ReadDigits digits left number → 1 ≤ length left
    → number * 10 + (slice_index left 0 - 48) ≤ digits_value 10 digits
ReadDigits-large digits [] number h some = absurd (omega (arith, some))
ReadDigits-large digits (d ∷ left) number h some =
    let within = digit_from_value d h.each.0 in
    let value : digit_value d ≡ d - 48 = omega (arith, digit_value_digit d within) in
    let more = no_smaller (number * 10 + digit_value d) left in
    omega (arith, more, value, h.whole)

-- no digit is left
pub ReadDigits-all : (digits left : List ℕ) (number : ℕ) → ReadDigits digits left number → length left < 1
    → (digits_value 10 digits < 2 ^ 64) × (number ≡ digits_value 10 digits)
ReadDigits-all digits [] number h none = (rw h.whole h.small, sym h.whole)
ReadDigits-all digits (d ∷ left) number h none = absurd (omega (arith, none))
