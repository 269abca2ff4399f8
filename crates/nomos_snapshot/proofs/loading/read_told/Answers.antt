-- The text is short, and so the number of its first bad line is small.
use Rattle.std.proofs.Common.{◌<◌, ◌≤◌, ◌+◌, ◌^◌, length, refl, arith}
use Rattle.nomos_snapshot.specs.Loading as loading
use Rattle.nomos_snapshot.proofs.LoadingLaws.{reads-early}
use Rattle.nomos_snapshot.proofs.loading.read_told.Goals as goal

pub returns-then-text-gt-MAX_SNAPSHOT-clause-err : goal.returns-then-text-gt-MAX_SNAPSHOT-clause-err
returns-then-text-gt-MAX_SNAPSHOT-clause-err c = λ other.
    loading.too_long (omega (arith, c.if-text-gt-MAX_SNAPSHOT.true))

pub overflow_cast-result : goal.overflow_cast-result
overflow_cast-result c =
    let reads = rw c.in-Err.is at c.in_ok-gathering.ensures.told in
    let early : c.in-Err.at ≤ 1 + length c.args.text.now = reads-early reads refl in
    let small : c.in-Err.at < 2 ^ 32 = omega (arith, early, c.if-text-gt-MAX_SNAPSHOT.false) in
    omega (arith, small)

pub returns-in-Err-clause-err : goal.returns-in-Err-clause-err
returns-in-Err-clause-err c = λ other.
    let reads = rw c.in-Err.is at c.in_ok-gathering.ensures.told in
    loading.bad_line c.in-Err.at (omega (arith, c.if-text-gt-MAX_SNAPSHOT.false)) reads
