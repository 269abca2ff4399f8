-- What is no number in front is none.
use Rattle.std.proofs.Common.{◌<◌, ◌^◌, arith}
use Rattle.nomos_printing.specs.mirror.Numeral.{IsPlain}
use Rattle.nomos_printing.proofs.NumberLemmas.{IsPlain-decimal}
use Rattle.nomos_printing.proofs.ReadingLaws.{ReadsAs-none}
use Rattle.nomos_printing.proofs.number.read_number.Goals as goal
use Rattle.std.proofs.lemmas.Bool.{false≢true}

pub returns-then-not-is_plain : goal.returns-then-not-is_plain
returns-then-not-is_plain c =
    ReadsAs-none c.args.text.now (λ n one e.
    let small : n < 2 ^ 64 = omega arith in
    let plain : IsPlain c.args.text.now = rw e (IsPlain-decimal n small) in
    absurd (false≢true (c.if-not-is_plain.ensures.1 plain)))
