-- Ledgers that have a snapshot.
use Rattle.std.specs.Prelude.{◌≤◌, All, length}
use Rattle.nomos_legal.specs.Ledger.{IsLedger, LedgerState}
use Rattle.nomos_legal.specs.StandsFor.{StandsFor}
use Rattle.nomos_types.specs.Acceptance.{Acceptance}
use Rattle.nomos_snapshot.specs.Line.{IsLine}
use Rattle.nomos_snapshot.specs.Loading.{longest_snapshot}
use Rattle.nomos_snapshot.specs.Text.{ledger_lines, snapshot_text}

-- The ledger stands for the program, all its lines have the form, and its text is not too long.
pub record HasSnapshot (a : Acceptance) (l : LedgerState) : Type 0 where
  pub stands : StandsFor a l
  pub named : IsLedger l
  pub lines : All (IsLine a.program) (ledger_lines a.annotations.unit l)
  pub short : length (snapshot_text a l) ≤ longest_snapshot
