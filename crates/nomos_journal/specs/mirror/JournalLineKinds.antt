-- A mirror: the kinds of lines that the code tells apart in turn.
use Rattle.std.specs.Prelude.{◌≡◌, ◌<◌, ◌^◌, ℕ, List, [], ◌++◌, codes, decimal}
use Rattle.nomos_ir.specs.CodeForm.{form_name}
use Rattle.nomos_journal.specs.Line.{IsLine, IsGasless}
use Rattle.nomos_journal.specs.declared.line.JournalLine.{JournalLine}
use Rattle.nomos_journal.specs.declared.line.JournalLine.TheVariants as line

-- a firing of version 2 by this process
abbrev pub IsFiredBy : ℕ → JournalLine → Type 0
IsFiredBy by (line.Worked pid gas) = (pid ≡ by) × (gas < 2 ^ 64)
IsFiredBy by (line.Fired pid f) = (pid ≡ by) × IsGasless f
IsFiredBy by _ = ⊥

-- what stands behind the number of the process
abbrev pub fired_text : JournalLine → List ℕ
fired_text (line.Worked pid gas) = codes "work " ++ decimal gas
fired_text (line.Fired pid f) = form_name f
fired_text _ = []

-- a firing of either version
abbrev pub IsFiring : JournalLine → Type 0
IsFiring (line.Pid pid) = pid < 2 ^ 32
IsFiring (line.Worked pid gas) = (pid < 2 ^ 32) × (gas < 2 ^ 64)
IsFiring (line.Fired pid f) = (pid < 2 ^ 32) × IsGasless f
IsFiring _ = ⊥

-- a line other than that of an end
abbrev pub IsShortLine : JournalLine → Type 0
IsShortLine (line.End e) = ⊥
IsShortLine l = IsLine l
