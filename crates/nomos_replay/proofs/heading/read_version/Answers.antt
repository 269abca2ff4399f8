use Rattle.std.proofs.lemmas.Result.{err_from_is_err_and}
use Rattle.nomos_replay.specs.Stand as stand
use Rattle.nomos_replay.proofs.FormLemmas.{head-form}
use Rattle.nomos_replay.proofs.ReadingLemmas.{carries-line, stops-no_form, stops-no_line}
use Rattle.nomos_replay.proofs.heading.read_version.Goals as goal

pub returns-in_err-line-clause-read : goal.returns-in_err-line-clause-read
returns-in_err-line-clause-read c = λ first all.
    let p = err_from_is_err_and c.from_residual.result c.from_residual.ensures.1 in
    rw (p.1, p.2) (stops-no_line c.args.accepted.now first all c.args.source.now stand.at_head tt _
    c.in_err-line.ensures.err)

pub returns-in-Some-clause-read : goal.returns-in-Some-clause-read
returns-in-Some-clause-read c = λ first all.
    let read = rw c.in-Some.ensures at c.in_ok-line.ensures.ok in
    carries-line c.args.accepted.now first all read (stand.head c.in-Some.version)

pub returns-in-None-clause-read : goal.returns-in-None-clause-read
returns-in-None-clause-read c = λ first all.
    stops-no_form c.args.accepted.now first all c.know.ensures.accepted c.in_ok-line.ensures.ok tt
    (head-form _ c.in-None.ensures)
