-- What stands behind `-` is a size.
use Rattle.nomos_snapshot.proofs.ValueLemmas.{minus-none, minus-reads}
use Rattle.nomos_snapshot.proofs.value_reading.read_signed.Goals as goal

pub returns-in_err-read_number-in-Some : goal.returns-in_err-read_number-in-Some
returns-in_err-read_number-in-Some c =
    rw c.from_residual.ensures
    (minus-none c.args.text.now c.in-Some.digits.now c.in-Some.ensures c.in_err-read_number-in-Some.ensures)

pub returns-in_ok-read_number-in-Some : goal.returns-in_ok-read_number-in-Some
returns-in_ok-read_number-in-Some c =
    minus-reads c.args.text.now c.in-Some.digits.now c.in_ok-read_number-in-Some.field-0 c.negative.result
    c.in-Some.ensures c.in_ok-read_number-in-Some.ensures c.negative.ensures
