-- Why a line that is of a form that may stand there is not right.
use Rattle.std.specs.Prelude.{◌≡◌, ◌≢◌, ◌<◌, ℕ, List, length, Option, Some, None}
use Rattle.nomos_ir.specs.declared.fault.Fault.{Fault}
use Rattle.nomos_types.specs.Acceptance.{Acceptance}
use Rattle.nomos_machine.specs.State.{State}
use Rattle.nomos_machine.specs.Step.{fault, step}
use Rattle.nomos_script.specs.declared.item.ScriptItem.{ScriptItem}
use Rattle.nomos_legal.specs.Ending.{EndsAs, GoesOn, IsAllowed}
use Rattle.nomos_legal.specs.Ledger.{LedgerState}
use Rattle.nomos_legal.specs.declared.journal.End.{End}
use Rattle.nomos_legal.specs.declared.journal.End.TheVariants as end
use Rattle.nomos_journal.specs.JournalText.{firing_line}
use Rattle.nomos_journal.specs.declared.line.JournalLine.{JournalLine}
use Rattle.nomos_journal.specs.declared.line.JournalLine.TheVariants as line
use Rattle.nomos_journal.specs.declared.line.Version.{Version}
use Rattle.nomos_replay.specs.Stand.{Stand, owes, fires, SaysFiring, UnderWay}
use Rattle.nomos_replay.specs.Told.{Told, next_limit}
use Rattle.nomos_replay.specs.declared.error.ReplayError.{ReplayError}
use Rattle.nomos_replay.specs.declared.error.ReplayError.TheVariants as error

-- The end that is found of a batch after so many firings of at most so many. It is the one that the state gives; where
-- it gives none, the fault of the lowest process that has one; and none where no process has one.
pub data Finds (a : Acceptance) (s : State) (count most : ℕ) : Option End → Type 0 where
  given : (e : End) → EndsAs a s count most e → Finds a s count most (Some e)
  aborted : (pid : ℕ) → GoesOn a s count most → (f : Fault) → fault a s pid ≡ Some f
      → ((other : ℕ) → other < pid → fault a s other ≡ None)
      → Finds a s count most (Some (end.Aborted pid f))
  running : GoesOn a s count most → ((pid : ℕ) → fault a s pid ≡ None) → Finds a s count most None

-- The line of this number spoils the text, for this cause.
pub data Spoils (a : Acceptance) (at : ℕ) : Stand → JournalLine → ReplayError → Type 0 where
  -- the process has no step
  not_enabled : (v : Version) (told : Told) (run : UnderWay) (items : List ScriptItem) (l : JournalLine) (pid : ℕ)
      → SaysFiring v told run l pid → step a run.state pid ≡ None
      → Spoils a at (fires v told run items) l (error.NotEnabled at pid)
  -- it has one, which has another line
  wrong_firing : (v : Version) (told : Told) (run : UnderWay) (items : List ScriptItem) (l : JournalLine) (pid : ℕ)
      (s : State) → SaysFiring v told run l pid → step a run.state pid ≡ Some s
      → firing_line v a run.state pid ≢ Some l
      → Spoils a at (fires v told run items) l (error.WrongFiring at pid)
  -- the item has another end of its own
  not_own_end : (v : Version) (told : Told) (i : ScriptItem) (n : ℕ) (own : End) (after : LedgerState)
      (items : List ScriptItem) (kept : End) → kept ≢ own
      → Spoils a at (owes v told i n own after items) (line.End kept) (error.WrongEnd at kept (Some own))
  -- the batch does not end so
  not_allowed : (v : Version) (told : Told) (run : UnderWay) (items : List ScriptItem) (kept : End) (found : Option End)
      → ¬ IsAllowed a run.state (length run.firings) (next_limit told) kept
      → Finds a run.state (length run.firings) (next_limit told) found
      → Spoils a at (fires v told run items) (line.End kept) (error.WrongEnd at kept found)
