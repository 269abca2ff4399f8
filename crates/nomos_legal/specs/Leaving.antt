-- What a batch leaves that ends, and the passage that it is.
use Rattle.nomos_types.specs.Acceptance.{Acceptance}
use Rattle.nomos_script.specs.declared.item.Batch.{Batch}
use Rattle.nomos_legal.specs.Ledger.{LedgerState}
use Rattle.nomos_legal.specs.Passage.{Passage, runs}
use Rattle.nomos_legal.specs.World.{WorldState, committed, pids_of, ledger_begun}
use Rattle.nomos_legal.specs.declared.journal.End.{End}
use Rattle.nomos_legal.specs.declared.journal.End.TheVariants as end

-- the ledger that a batch leaves with this end
abbrev pub left_by : End → WorldState → LedgerState
left_by end.Committed w = committed w
left_by _ w = w.origin

-- the passage of a batch whose world came to this with this end
abbrev pub passage_of : Acceptance → Batch → WorldState → End → Passage
passage_of a batch w e = runs batch (pids_of w.firings) e w.origin (ledger_begun a w) w.state (left_by e w)
