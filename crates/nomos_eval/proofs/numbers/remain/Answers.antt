-- What the quotient leaves is the remainder.
use Rattle.std.proofs.Common.{sym, ap, ◌∙◌, arith}
use Rattle.std.specs.Prelude.{FitsSigned, int_rem}
use Rattle.std.specs.Int.{w64, cast_unsigned}
use Rattle.std.specs.Int.Signed.{mag_rem}
use Rattle.std.proofs.lemmas.Int.{rem_is}
use Rattle.nomos_ir.specs.Evaluation.{ends}
use Rattle.nomos_ir.specs.Value.{int}
use Rattle.nomos_eval.proofs.NumberLemmas.{rest-is}
use Rattle.nomos_eval.proofs.numbers.remain.Goals as goal

pub returns : goal.returns
returns c =
    let fits : FitsSigned w64 (int_rem c.args.x c.args.y) =
    record { sfits = omega (arith, mag_rem c.args.x c.args.y, c.ranges.x.sfits) } in
    λ n. rest-is c.args.x c.args.y n (λ none. c.if-y-eq0.false (ap (cast_unsigned w64) none)) fits
    ∙ ap (λ z. ends (int z) n) (sym (rem_is w64 c.args.x c.args.y c.ranges.x c.ranges.y))
