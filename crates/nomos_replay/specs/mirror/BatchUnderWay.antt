-- A mirror: what the code knows of a batch under way.
use Rattle.std.specs.Prelude.{◌≡◌, ◌≢◌, ◌<◌, ℕ, Bool, true, false, List, Some, None, length}
use Rattle.nomos_types.specs.Acceptance.{Acceptance}
use Rattle.nomos_machine.specs.State.{State}
use Rattle.nomos_machine.specs.Step.{step}
use Rattle.nomos_deeds.specs.Acting.{HasNumbers}
use Rattle.nomos_script.specs.declared.item.Batch.{Batch}
use Rattle.nomos_script.specs.declared.item.ScriptItem.{ScriptItem}
use Rattle.nomos_legal.specs.Ending.{IsAllowed}
use Rattle.nomos_legal.specs.Ledger.{LedgerState}
use Rattle.nomos_legal.specs.StandsFor.{WorldStandsFor}
use Rattle.nomos_legal.specs.World.{WorldState, pids_of}
use Rattle.nomos_legal.specs.declared.journal.Firing.{Firing}
use Rattle.nomos_journal.specs.JournalText.{firing_line}
use Rattle.nomos_journal.specs.declared.line.JournalLine.{JournalLine}
use Rattle.nomos_journal.specs.declared.line.Version.{Version}
use Rattle.nomos_ledger.specs.Calls.{HasFired}
use Rattle.nomos_replay.specs.Spoiled.{Finds}
use Rattle.nomos_replay.specs.Stand.{UnderWay, fires, says_fired}
use Rattle.nomos_replay.specs.Told.{Told, next_limit}
use Rattle.nomos_replay.specs.declared.ends.KeptEnd.{KeptEnd}
use Rattle.nomos_replay.specs.declared.error.ReplayError.{ReplayError}
use Rattle.nomos_replay.specs.declared.error.ReplayError.TheVariants as error
use Rattle.nomos_replay.specs.declared.journal_lines.JournalLines.{JournalLines}
use Rattle.nomos_replay.specs.mirror.JournalReading.{Carries}

-- ---- ends

-- why a kept end is not given back
abbrev pub EndStops : Acceptance → State → ℕ → ℕ → KeptEnd → ReplayError → Type 0
EndStops a s count most kept error.NoMemory = Unit {0}
EndStops a s count most kept (error.WrongEnd at e found) =
    (at ≡ kept.at) × (e ≡ kept.end) × ¬ IsAllowed a s count most kept.end × Finds a s count most found
EndStops a s count most kept _ = ⊥

-- ---- firings

-- A process may fire: the world stands for the program, and its next numbers are far from the greatest.
pub record MayFire (a : Acceptance) (w : WorldState) : Type 0 where
  pub stands : WorldStandsFor a w
  pub numbers : HasNumbers w.state

-- the firing that a text says of a process
abbrev pub firing_by : ℕ → Firing
firing_by pid = record { pass = 0; pid = pid }

-- whether a process fired, or has no step
abbrev pub FiresOrNot : Acceptance → WorldState → ℕ → Bool → WorldState → Type 0
FiresOrNot a before pid true after = HasFired a before (firing_by pid) after
FiresOrNot a before pid false after = step a before.state pid ≡ None

-- The line is that of a firing by which the first world becomes the second one.
pub record FiresBy (a : Acceptance) (v : Version) (most : ℕ) (l : JournalLine) (before after : WorldState) : Type 0
  where
    pub pid : ℕ
    pub says : says_fired v l ≡ Some pid
    pub left : length before.firings < most
    pub fired : HasFired a before (firing_by pid) after
    pub line : firing_line v a before.state pid ≡ Some l

-- The line says that this process fires, for which firings are left.
pub record Asks (v : Version) (most : ℕ) (l : JournalLine) (before : WorldState) (pid : ℕ) : Type 0 where
  pub says : says_fired v l ≡ Some pid
  pub left : length before.firings < most

-- why a line is no firing, at this line of the text
abbrev pub FireStops : Acceptance → Version → ℕ → ℕ → JournalLine → WorldState → ReplayError → Type 0
FireStops a v most at l before error.NoMemory = Unit {0}
FireStops a v most at l before (error.BadLine n) = (n ≡ at) × ((pid : ℕ) → ¬ Asks v most l before pid)
FireStops a v most at l before (error.NotEnabled n pid) =
    (n ≡ at) × Asks v most l before pid × (step a before.state pid ≡ None)
FireStops a v most at l before (error.WrongFiring n pid) =
    (n ≡ at) × Asks v most l before pid
    × ((s : State) × (step a before.state pid ≡ Some s) × (firing_line v a before.state pid ≢ Some l))
FireStops a v most at l before _ = ⊥

-- the batch of a world under way, in the words of a text
abbrev pub under_way : Batch → WorldState → UnderWay
under_way batch w = record { batch = batch; starts = w.starts; firings = pids_of w.firings; state = w.state }

-- What is answered where the second world is under way is answered where the first one is.
abbrev pub CarriesFirings : Acceptance → Version → ℕ → JournalLines → WorldState → JournalLines → WorldState → Type 0
CarriesFirings a v most source before later after =
    (first : LedgerState) (all items : List ScriptItem) (batch : Batch) (told : Told) → next_limit told ≡ most
    → Carries a first all source (fires v told (under_way batch before) items) later
    (fires v told (under_way batch after) items)
