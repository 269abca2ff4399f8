-- Laws of batches that were run, for those who keep a journal: a batch that began may be run, and is a passage then.
use Rattle.std.proofs.Common.{◌≡◌, ◌∙◌, ℕ, ◌+◌, ◌<◌, ◌^◌, length, sym, ap, subst, arith}
use Rattle.nomos_types.specs.Acceptance.{Acceptance, IsAccepted}
use Rattle.nomos_script.specs.declared.item.Batch.{Batch}
use Rattle.nomos_legal.specs.Batch.{AllStart}
use Rattle.nomos_legal.specs.Ending.{IsAllowed}
use Rattle.nomos_legal.specs.Leaving.{passage_of}
use Rattle.nomos_legal.specs.Ledger.{LedgerState}
use Rattle.nomos_legal.specs.NextNumbers.{HasNumbered}
use Rattle.nomos_legal.specs.Passage.{IsPassage}
use Rattle.nomos_legal.specs.StandsFor.{WorldStandsFor}
use Rattle.nomos_legal.specs.World.{WorldState}
use Rattle.nomos_legal.specs.declared.journal.End.{End}
use Rattle.nomos_legal.specs.declared.journal.End.TheVariants as end
use Rattle.nomos_legal.proofs.LegalLaws.{stays-passage, undone-passage}
use Rattle.nomos_legal.proofs.NextNumberLaws.{world-numbers}
use Rattle.nomos_legal.proofs.StartLaws.{starts-length}
use Rattle.nomos_ledger.specs.Beginning.{HasBegun}
use Rattle.nomos_ledger.specs.Running.{MayRun, RunsOn}

-- A batch that began may be run, where so few numbers were given before it that its starts and the firings which it may
-- make have numbers too.
pub begun-may_run : {a : Acceptance} → IsAccepted a → {l : LedgerState} {batch : Batch} {w : WorldState}
    → HasBegun a l batch w → WorldStandsFor a w → (given limit : ℕ) → HasNumbered given l.state
    → 1 + given + length batch.starts + limit < 2 ^ 32 → MayRun a limit w
begun-may_run accepted {l} {batch} {w} begun stands given limit is few =
    let origin : HasNumbered given w.origin.state =
    subst (λ (m : LedgerState). HasNumbered given m.state) (sym begun.origin) is
    in
    let numbers = world-numbers accepted stands given origin in
    let starts = starts-length begun.starts in
    let firings : length w.firings ≡ 0 = ap length begun.firings in
    record {
      stands = stands;
      fresh = begun.firings;
      objects = omega (arith, numbers.objects, starts, firings, few);
      names = omega (arith, numbers.names, starts, firings, few);
    }

module _ {a : Acceptance} {limit : ℕ} {l : LedgerState} {batch : Batch} {before after : WorldState}
    (begun : HasBegun a l batch before) (ran : RunsOn a limit before after) where
  -- it begins with the ledger from which the batch began
  pub ran-before : after.origin ≡ l
  ran-before = ran.origin ∙ begun.origin

  -- from which its lines start
  ran-starts : AllStart a after.origin batch.starts after.starts
  ran-starts = rw (ran-before, ran.starts) begun.starts

  -- with any end that is allowed it is a passage
  pub ran-passage : (e : End) → IsAllowed a after.state (length after.firings) limit e
      → IsPassage a limit (passage_of a batch after e)
  ran-passage end.Committed allowed = stays-passage batch ran-starts ran.stands ran.within allowed
  ran-passage end.Blocked allowed = undone-passage batch ran-starts ran.stands ran.within allowed tt
  ran-passage (end.Steps n) allowed = undone-passage batch ran-starts ran.stands ran.within allowed tt
  ran-passage (end.Aborted pid f) allowed = undone-passage batch ran-starts ran.stands ran.within allowed tt
  ran-passage end.Deposited allowed = absurd allowed
  ran-passage (end.Refused line cause) allowed = absurd allowed
