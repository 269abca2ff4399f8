-- Numbers without leading zeros.
use Rattle.std.proofs.Common.{◌≡◌, ℕ, ◌<◌, ◌^◌, ◌≢◌, List, get_or, Result, Ok, Err, Some, IfSome, refl, sym, arith, inl, inr}
use Rattle.std.specs.Prelude.{decimal}
use Rattle.std.specs.Str.Parse.{AllDigits, digits_value, ParsesUnsigned}
use Rattle.std.proofs.lemmas.Bool.{cases_lt}
use Rattle.std.proofs.lemmas.Fmt.{decimal_digit, decimal_nonempty, first_decimal, decimal-digits_value, digits_decimal, parse-decimal, IsAscii-decimal}
use Rattle.std.proofs.lemmas.Str.{IsUtf8-from_ascii}
use Rattle.std.specs.Result.{result_ok}
use Rattle.std.specs.Str.{IsUtf8}
use Rattle.std.proofs.lemmas.Str.Parse.{IsNumeralModel, tells_digits, numerals_by_value, parse_plain, digit_at}
use Rattle.nomos_printing.specs.mirror.Numeral.{IsPlain}

-- digits and their value
own : IsNumeralModel (AllDigits 10) (digits_value 10)
own = numerals_by_value (AllDigits 10) tells_digits

-- what is written of a number begins like one
pub IsPlain-decimal : (n : ℕ) → n < 2 ^ 64 → IsPlain (decimal n)
IsPlain-decimal n small = elim (cases_lt 0 n) [
  | inl above ↦
      let first = first_decimal n above small in
      let some = decimal_nonempty n small in
      let within = digit_at (decimal n) 0 (digits_decimal own n small) some in
      record {
        some = some;
        low = omega (arith, first);
        high = omega (arith, within);
        zero =
            λ e. absurd (omega (arith, e, first));
      }
  | inr none ↦
      let is_zero : n ≡ 0 = omega arith in
      rw (is_zero, decimal_digit 0 (omega arith))
      (record { some = omega arith; low = omega arith; high = omega arith; zero = λ e. refl })
]

-- a text that begins like a number is what is written of the one that it is parsed as
pub parsed-found : {E : Type 0} (bs : List ℕ) (r : Result ℕ E) → IsPlain bs → ParsesUnsigned 64 10 bs r
    → IfSome (result_ok r) (λ n. bs ≡ decimal n)
parsed-found {E} bs (Err e) plain parsed = tt
parsed-found {E} bs (Ok n) plain parsed =
    let r : Result ℕ E = Ok n in
    let no_plus : get_or bs 0 0 ≢ 43 = λ e. absurd (omega (arith, e, plain.low)) in
    let told = parse_plain own 64 bs r parsed no_plus in
    let value = told.1 in
    rw value (sym (decimal-digits_value own bs told.0.0 told.0.1 plain.zero told.0.2))

-- what is written of a number is parsed as that number
pub parsed-each : {E : Type 0} (bs : List ℕ) (r : Result ℕ E) → ParsesUnsigned 64 10 bs r
    → (n : ℕ) → n < 2 ^ 64 → bs ≡ decimal n → result_ok r ≡ Some n
parsed-each bs r parsed n small e = rw (parse-decimal 64 n bs r small small e parsed) refl

-- and it is text
pub decimal-text : (bs : List ℕ) (n : ℕ) → n < 2 ^ 64 → bs ≡ decimal n → IsUtf8 bs
decimal-text bs n small e = rw e (IsUtf8-from_ascii (decimal n) (IsAscii-decimal n small))
