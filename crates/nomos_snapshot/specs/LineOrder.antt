-- Lines that stand one behind another.
use Rattle.std.specs.Prelude.{List, [], ◌∷◌}
use Rattle.nomos_legal.specs.Ledger.{LedgerState}
use Rattle.nomos_types.specs.Acceptance.{Acceptance}
use Rattle.nomos_snapshot.specs.GatheredLines.{Gathered, Goes, Stand, behind, ledger_of}
use Rattle.nomos_snapshot.specs.Line.{IsLine}
use Rattle.nomos_snapshot.specs.declared.line.SnapshotLine.{SnapshotLine}

-- The lines lead from where a text stands to a ledger.
pub data LeadTo (a : Acceptance) : Stand → List SnapshotLine → LedgerState → Type 0 where
  done : (g : Gathered) → LeadTo a (behind g) [] (ledger_of g)
  line : {stand next : Stand} {ls : List SnapshotLine} {ledger : LedgerState} → (l : SnapshotLine) → IsLine a.program l
      → Goes a stand l next → LeadTo a next ls ledger
      → LeadTo a stand (l ∷ ls) ledger
