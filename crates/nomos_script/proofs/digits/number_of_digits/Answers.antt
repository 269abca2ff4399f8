-- Digit by digit.
use Rattle.std.proofs.Common.{refl, arith}
use Rattle.nomos_script.proofs.NumberLemmas.{ReadDigits-digit, ReadDigits-next, ReadDigits-large, ReadDigits-all}
use Rattle.nomos_script.proofs.digits.number_of_digits.Goals as goal

pub loop-left-init : goal.loop-left-init
loop-left-init c = record { each = c.requires.1; whole = refl; small = omega arith }

pub returns-in_err-checked_mul : goal.returns-in_err-checked_mul
returns-in_err-checked_mul c =
    let large = ReadDigits-large c.args.digits.now c.loop-left.left.now c.loop-left.number c.loop-left.invariant
    c.in-len1-up.len_at_least in
    rw c.from_residual.ensures (λ small. c.in_err-checked_mul.ensures (omega (arith, large, small)))

pub overflow_sub-digit : goal.overflow_sub-digit
overflow_sub-digit c =
    (ReadDigits-digit c.args.digits.now c.loop-left.left.now c.loop-left.number c.loop-left.invariant
    c.in-len1-up.len_at_least).0

pub returns-in_err-number : goal.returns-in_err-number
returns-in_err-number c =
    let large = ReadDigits-large c.args.digits.now c.loop-left.left.now c.loop-left.number c.loop-left.invariant
    c.in-len1-up.len_at_least in
    let ten = c.in_ok-checked_mul.ensures.1 in
    let more = c.from.ensures in
    rw c.from_residual-in_err-number.ensures
    (λ small. c.in_err-number.ensures (omega (arith, large, small, ten, more)))

pub loop-left-preserved : goal.loop-left-preserved
loop-left-preserved c =
    let ten = c.in_ok-checked_mul.ensures.1 in
    let more = c.from.ensures in
    let small = c.in_ok-number.ensures.0 in
    rw (c.in_ok-number.ensures.1, ten, more)
    (ReadDigits-next c.args.digits.now c.loop-left.left.now c.loop-left.number c.loop-left.invariant
    c.in-len1-up.len_at_least (omega (arith, ten, more, small)))

pub returns : goal.returns
returns c =
    ReadDigits-all c.args.digits.now c.loop-left.left.now c.loop-left.number c.loop-left.invariant
    c.in_default.len_below
