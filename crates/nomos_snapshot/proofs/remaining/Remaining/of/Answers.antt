-- The lists are those of the process.
use Rattle.std.proofs.Common.{sym}
use Rattle.nomos_snapshot.proofs.ProcessLaws.{left-of}
use Rattle.nomos_snapshot.proofs.RemainingLemmas.{same-left}
use Rattle.nomos_snapshot.proofs.remaining.Remaining.of.Goals as goal

pub returns-clause-left : goal.returns-clause-left
returns-clause-left c =
    same-left (sym c.as_slice.ensures) (sym c.as_slice-2.ensures) (sym c.as_slice-3.ensures)
    (left-of c.args.process.now c.requires)
