-- The lines that are due where a ledger is not saved, or a text is not loaded.
use Rattle.std.specs.Prelude.{ℕ, List, [], ◌++◌, codes, decimal}
use Rattle.nomos_report.specs.ReportLines.{line}
use Rattle.nomos_snapshot.specs.declared.error.LoadError.{LoadError}
use Rattle.nomos_snapshot.specs.declared.error.LoadError.TheVariants as load
use Rattle.nomos_snapshot.specs.declared.error.SaveError.{SaveError}
use Rattle.nomos_snapshot.specs.declared.error.SaveError.TheVariants as save

-- the line of a snapshot that is refused
abbrev pub snapshot_refusal : List ℕ → List ℕ
snapshot_refusal cause = line (codes "snapshot refused " ++ cause)

-- why a ledger is not saved; want of memory has no line
abbrev pub unsaved_line : SaveError → List ℕ
unsaved_line (save.Numbers object name) =
    snapshot_refusal (codes "Numbers " ++ decimal object ++ codes " " ++ decimal name)
unsaved_line save.TooLong = snapshot_refusal (codes "TooLong")
unsaved_line save.NoMemory = []

-- why a text is not loaded; gas is in Dths, and want of memory has no line
abbrev pub unloaded_line : LoadError → List ℕ
unloaded_line load.TooLong = snapshot_refusal (codes "TooLong")
unloaded_line (load.BadLine k) = snapshot_refusal (codes "BadLine " ++ decimal k)
unloaded_line load.NotTyped = snapshot_refusal (codes "NotTyped")
unloaded_line (load.Gas dths) = snapshot_refusal (codes "Gas " ++ decimal dths)
unloaded_line (load.NotQuiet pid) = snapshot_refusal (codes "NotQuiet " ++ decimal pid)
unloaded_line load.NoMemory = []
