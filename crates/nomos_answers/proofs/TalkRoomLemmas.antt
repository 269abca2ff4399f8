-- Behind the run of a script there are numbers left for a talk.
use Rattle.std.proofs.Common.{ℕ, ◌+◌, ◌≤◌, List, arith}
use Rattle.nomos_ir.specs.Limits.{text_limit}
use Rattle.nomos_types.specs.Acceptance.{Acceptance, IsAccepted}
use Rattle.nomos_script.specs.Size.{IsScriptSize}
use Rattle.nomos_script.specs.declared.item.ScriptItem.{ScriptItem}
use Rattle.nomos_legal.specs.Ledger.{LedgerState}
use Rattle.nomos_legal.specs.Legal.{Tells}
use Rattle.nomos_legal.specs.Passage.{Passage}
use Rattle.nomos_legal.specs.declared.journal.Journal.{Journal}
use Rattle.nomos_legal.proofs.NextNumberLaws.{given-few, last-numbers}
use Rattle.nomos_visit.specs.TalkHeld.{LeavesNumbers}
use Rattle.nomos_words.specs.Options.{usual_limit}

-- a talk of as many lines as a text may have bytes
pub talk-room : {a : Acceptance} → IsAccepted a → {items : List ScriptItem} {journal : Journal} {ps : List Passage}
    {last : LedgerState} → Tells a items journal ps last → IsScriptSize items → (lines : ℕ) → lines ≤ text_limit
    → LeavesNumbers last.state (usual_limit + 1 + lines)
talk-room accepted tells size lines few =
    let numbers = last-numbers accepted tells in
    let given = given-few accepted tells size in
    record {
      objects = omega (arith, numbers.objects, given, few);
      names = omega (arith, numbers.names, given, few);
    }
