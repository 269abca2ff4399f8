-- Along every legal journal of a program under `cost all` each batch pays for its firings, also one that is undone.
use Rattle.std.proofs.Common.{◌≡◌, ℕ, List, length, Some, arith}
use Rattle.std.proofs.lemmas.List.Elements.{All-nil, All-cons}
use Rattle.nomos_ir.specs.CostAll.{IsUnderCostAll}
use Rattle.nomos_types.specs.Acceptance.{Acceptance, IsAccepted}
use Rattle.nomos_machine.specs.Costs.{PaysFor}
use Rattle.nomos_machine.specs.Run.{run}
use Rattle.nomos_machine.specs.State.{State}
use Rattle.nomos_script.specs.declared.item.ScriptItem.{ScriptItem}
use Rattle.nomos_script.specs.declared.item.Start.{Start}
use Rattle.nomos_legal.specs.Batch.{AllStart, after_starts}
use Rattle.nomos_legal.specs.Ledger.{LedgerState}
use Rattle.nomos_legal.specs.Legal.{Leads, Tells, TellsFrom}
use Rattle.nomos_legal.specs.Legal as legal
use Rattle.nomos_legal.specs.Passage.{Passage, IsPassage}
use Rattle.nomos_legal.specs.Passage as passage
use Rattle.nomos_legal.specs.Right.{PassagePays, AllPay}
use Rattle.nomos_legal.specs.StandsFor.{StandsNamed}
use Rattle.nomos_legal.specs.declared.journal.Journal.{Journal}
use Rattle.nomos_legal.specs.declared.resolved.Resolved.{Resolved}
use Rattle.nomos_legal.proofs.RightLaws.{batch-started, empty-standing, passage-standing}
use Rattle.nomos_legal.proofs.WorldCostLaws.{begun-pays}

-- without firings nothing is owed
pays-none : (a : Acceptance) (s : State) → PaysFor a 0 s s
pays-none a s = omega arith

module _ {a : Acceptance} (accepted : IsAccepted a) (under : IsUnderCostAll a.program) where
  batch-pays : {l : LedgerState} {lines : List Start} {starts : List Resolved} (pids : List ℕ) {t : State}
      → StandsNamed a l → AllStart a l lines starts → run a (after_starts a l starts).state pids ≡ Some t
      → PaysFor a (length pids) l.state t
  batch-pays {l} {starts = starts} pids {t} standing begun reached =
      begun-pays under accepted l starts (batch-started accepted standing begun).settled.typed pids t reached

  passage-pays : {most : ℕ} {p : Passage} → IsPassage a most p → StandsNamed a p.before → PassagePays a p
  passage-pays (passage.deposit l line units name fits) standing = pays-none a l.state
  passage-pays (passage.no_deposit l line units name never) standing = pays-none a l.state
  passage-pays (passage.refused l batch line cause refuses) standing = pays-none a l.state
  passage-pays (passage.stays l batch starts pids last begun reaches) standing =
      batch-pays pids standing begun reaches.reached
  passage-pays (passage.undone l batch starts pids last answer begun reaches undoes) standing =
      batch-pays pids standing begun reaches.reached
  passage-pays (passage.shown l line) standing = pays-none a l.state

  leads-pay : {limit made : ℕ} {l last : LedgerState} {ps : List Passage} → Leads a limit made l ps last
      → StandsNamed a l → AllPay a ps
  leads-pay (legal.done made l) standing = All-nil (PassagePays a)
  leads-pay (legal.passes made p ps last is rest) standing =
      All-cons (PassagePays a) p ps (passage-pays is standing) (leads-pay rest (passage-standing accepted is standing))

  -- From any ledger that stands all passages of a legal journal pay for their firings.
  pub legal-pays-from : {first : LedgerState} {items : List ScriptItem} {journal : Journal} {ps : List Passage}
      {last : LedgerState} → StandsNamed a first → TellsFrom a first items journal ps last → AllPay a ps
  legal-pays-from standing tells = leads-pay tells.leads standing

  pub legal-pays : {items : List ScriptItem} {journal : Journal} {ps : List Passage} {last : LedgerState}
      → Tells a items journal ps last → AllPay a ps
  legal-pays tells = legal-pays-from (empty-standing a) tells
