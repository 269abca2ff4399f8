-- One call of `nomos`, as it is seen from outside.
use Rattle.std.specs.Prelude.{◌≡◌, ◌⊎◌, ℕ, List, Option, Some}
use Rattle.nomos_base.specs.Sink.{with_end}
use Rattle.nomos_answers.specs.Outside.{HasText, SourceState, SinkState}
use Rattle.nomos_legal.specs.declared.journal.Journal.{Journal}
use Rattle.nomos_script.specs.declared.item.ScriptItem.{ScriptItem}
use Rattle.nomos_types.specs.Acceptance.{Acceptance}

-- The words; what each source has left, where it tells that, and its counts of faults; what each sink had and has,
-- where it tells that, and its counts; and what the call gives.
pub record Call : Type 0 where
  pub words : List (List ℕ)
  pub contract : SourceState
  pub script : SourceState
  pub journal_in : SourceState
  pub out : SinkState
  pub journal_out : SinkState
  pub status : ℕ
  pub accepted : Option Acceptance
  pub journal : Journal
  -- what was taken of the script, where threads submit its single lines
  pub taken : Option (List ScriptItem)

-- The texts of the sources. The third is a journal, a snapshot, or what a party says in a talk.
pub record Texts : Type 0 where
  pub contract : List ℕ
  pub script : List ℕ
  pub third : List ℕ

-- they are what the sources have left, where these tell that
pub record AreTold (c : Call) (t : Texts) : Type 0 where
  pub contract : HasText c.contract.left t.contract
  pub script : HasText c.script.left t.script
  pub third : HasText c.journal_in.left t.third

-- ---- words for what is said of a call

-- the output has got exactly this
abbrev pub HasWritten : Call → List ℕ → Type 0
HasWritten c bytes = c.out.after ≡ with_end c.out.before bytes

-- the journal's sink has got exactly this
abbrev pub HasKept : Call → List ℕ → Type 0
HasKept c bytes = c.journal_out.after ≡ with_end c.journal_out.before bytes

-- this program is given
abbrev pub Gives : Call → Acceptance → Type 0
Gives c a = c.accepted ≡ Some a

-- it is that status, unless reading, writing or memory fails
abbrev pub IsOrFails : ℕ → ℕ → Type 0
IsOrFails status wanted = (status ≡ wanted) ⊎ ((status ≡ 5) ⊎ ((status ≡ 6) ⊎ (status ≡ 7)))

-- the status of a call that did all that was asked for: each entry was carried out, or one was not
abbrev pub IsDone : ℕ → Type 0
IsDone status = (status ≡ 0) ⊎ (status ≡ 3)

-- reading, writing or memory failed
abbrev pub Fails : Call → Type 0
Fails c = (c.status ≡ 5) ⊎ ((c.status ≡ 6) ⊎ (c.status ≡ 7))
