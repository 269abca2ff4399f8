use Rattle.std.proofs.Common.{◌≡◌, Err}
use Rattle.std.proofs.lemmas.Result.{err_from_is_err_and}
use Rattle.nomos_base.specs.declared.reading.ReadError.TheVariants.{TooLong}
use Rattle.nomos_base.proofs.ToldLaws.{TakesAtMost-behind, TakesAtMost-within, TakesExactly-behind}
use Rattle.nomos_base.proofs.reading.read_all.Goals as goal

pub returns-in_err-read_piece-clause-too_long : goal.returns-in_err-read_piece-clause-too_long
returns-in_err-read_piece-clause-too_long g c =
    let passed_on = err_from_is_err_and c.from_residual.result c.from_residual.ensures.1 in
    let so_far = c.loop-bytes.invariant in
    λ too_long.
    let same : c.read_piece.result ≡ Err TooLong = cc (c.in_err-read_piece.was, passed_on.1, passed_on.2, too_long) in
    TakesExactly-behind _ _ c.loop-bytes.bytes.items _ _ _ c.loop-bytes.bytes.ok.0 so_far.within so_far.taken
    (c.read_piece.ensures.too_long same)

pub returns-in_err-read_piece-clause-front : goal.returns-in_err-read_piece-clause-front
returns-in_err-read_piece-clause-front g c =
    let so_far = c.loop-bytes.invariant in
    TakesAtMost-behind _ _ c.loop-bytes.bytes.items _ _ _ c.loop-bytes.bytes.ok.0 so_far.within so_far.taken
    c.read_piece.ensures.front

pub returns-in_err-read_piece-clause-at_most : goal.returns-in_err-read_piece-clause-at_most
returns-in_err-read_piece-clause-at_most g c =
    let passed_on = err_from_is_err_and c.from_residual.result c.from_residual.ensures.1 in
    let so_far = c.loop-bytes.invariant in
    λ other.
    let not_too_long : ¬ (c.read_piece.result ≡ Err TooLong) =
    λ too_long. other (cc (c.in_err-read_piece.was, passed_on.1, passed_on.2, too_long)) in
    TakesAtMost-within _ _ c.loop-bytes.bytes.items _ _ _ c.loop-bytes.bytes.ok.0 so_far.within so_far.taken
    (c.read_piece.ensures.at_most not_too_long)
