-- Numbers of 128 bits that are read digit by digit.
use Rattle.std.proofs.Common.{◌≡◌, ℕ, ◌+◌, ◌-◌, ◌*◌, ◌^◌, ◌<◌, ◌≤◌, List, [], ◌∷◌, length, take, drop, Some, None, SomeIff, ap, arith}
use Rattle.std.specs.Prelude.{slice_index, decimal}
use Rattle.std.specs.Char.{digit_value}
use Rattle.std.specs.Str.Parse.{AllDigits, digits_value, digits_value_after}
use Rattle.std.proofs.lemmas.Fmt.{decimal_is_IsNumeral_wide}
use Rattle.std.proofs.lemmas.List.{take_rest}
use Rattle.std.proofs.lemmas.Str.{digit_value_digit}
use Rattle.std.proofs.lemmas.Str.Parse.{digit_from_value}
use Rattle.nomos_script.proofs.NumberLemmas.{no_smaller}

-- Where the text is digits, those that are left are digits, and lead from the count so far to the whole number.
pub record Counted (text left : List ℕ) (count : ℕ) : Type 0 where
  pub each : AllDigits 10 text → AllDigits 10 left
  pub whole : AllDigits 10 text → digits_value 10 text ≡ digits_value_after 10 count left

-- what a number writes is digits, and its value is the number
pub digits_written : (text : List ℕ) (n : ℕ) → n < 2 ^ 128 → text ≡ decimal n
    → AllDigits 10 text × (digits_value 10 text ≡ n)
digits_written text n small e =
    let told = decimal_is_IsNumeral_wide n (omega arith) in
    rw e (told.0.1, told.1)

-- one digit more
pub Counted-next : (text left : List ℕ) (count next : ℕ) → Counted text left count → 1 ≤ length left
    → (48 ≤ slice_index left 0 → slice_index left 0 ≤ 57
    → SomeIff (Some next) (count * 10 + (slice_index left 0 - 48) < 2 ^ 128) (count * 10 + (slice_index left 0 - 48)))
    → Counted text (take (length left - 1) (drop 1 left)) next
Counted-next text [] count next h some step = absurd (omega (arith, some))
Counted-next text (d ∷ left) count next h some step =
    rw (take_rest (d ∷ left) 1)
    (record {
      each = λ digits. (h.each digits).1;
      whole = λ digits.
          let within = digit_from_value d (h.each digits).0 in
          let is = step (omega (arith, within)) (omega (arith, within)) in
          let next_is : next ≡ count * 10 + digit_value d = omega (arith, digit_value_digit d within, is.1) in
          rw next_is (h.whole digits);
    })

-- a digit too many: the text writes no number of 128 bits
pub Counted-stops : (text left : List ℕ) (count : ℕ) → Counted text left count → 1 ≤ length left
    → (48 ≤ slice_index left 0 → slice_index left 0 ≤ 57
    → SomeIff {T = ℕ} None (count * 10 + (slice_index left 0 - 48) < 2 ^ 128) (count * 10 + (slice_index left 0 - 48)))
    → (n : ℕ) → n < 2 ^ 128 → text ≡ decimal n → ⊥
Counted-stops text [] count h some step n small e = absurd (omega (arith, some))
Counted-stops text (d ∷ left) count h some step n small e =
    let told = digits_written text n small e in
    let within = digit_from_value d (h.each told.0).0 in
    let value : digit_value d ≡ d - 48 = omega (arith, digit_value_digit d within) in
    let more = no_smaller (count * 10 + digit_value d) left in
    step (omega (arith, within)) (omega (arith, within)) (omega (arith, more, value, h.whole told.0, told.1))

-- no digit is left
pub Counted-all : (text left : List ℕ) (count : ℕ) → Counted text left count → length left < 1
    → (n : ℕ) → n < 2 ^ 128 → text ≡ decimal n → Some count ≡ Some n
Counted-all text [] count h none n small e =
    let told = digits_written text n small e in
    let same : count ≡ n = omega (arith, h.whole told.0, told.1) in
    ap (λ x. Some x) same
Counted-all text (d ∷ left) count h none n small e = absurd (omega (arith, none))
