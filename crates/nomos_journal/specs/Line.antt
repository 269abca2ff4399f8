-- The lines of a journal's text.
use Rattle.std.specs.Prelude.{◌<◌, ◌^◌, ◌≢◌, ℕ, List, ◌++◌, codes, decimal}
use Rattle.nomos_ir.specs.CodeForm.{form_name}
use Rattle.nomos_ir.specs.declared.code_form.CodeForm.{CodeForm}
use Rattle.nomos_ir.specs.declared.code_form.CodeForm.TheVariants as form
use Rattle.nomos_printing.specs.End.{end_text, IsEnd}
use Rattle.nomos_journal.specs.declared.line.JournalLine.{JournalLine}
use Rattle.nomos_journal.specs.declared.line.JournalLine.TheVariants as line
use Rattle.nomos_journal.specs.declared.line.Version.{Version}
use Rattle.nomos_journal.specs.declared.line.Version.TheVariants as version

-- the first line of a text
abbrev pub head_text : Version → List ℕ
head_text version.One = codes "nomos-journal 1"
head_text version.Two = codes "nomos-journal 2"

-- a line without its line feed; amounts have so many Dths to the unit
abbrev pub line_text : ℕ → JournalLine → List ℕ
line_text unit (line.Head v) = head_text v
line_text unit (line.Steps steps) = codes "steps " ++ decimal steps
line_text unit (line.Line at) = codes "line " ++ decimal at
line_text unit (line.Pid pid) = decimal pid
line_text unit (line.Worked pid gas) = decimal pid ++ codes " work " ++ decimal gas
line_text unit (line.Fired pid f) = decimal pid ++ codes " " ++ form_name f
line_text unit (line.End e) = codes "end " ++ end_text unit e

-- a form whose line has no gas
abbrev pub IsGasless : CodeForm → Type 0
IsGasless f = f ≢ form.Work

-- a line whose numbers are within their bits, and at a `work` with its gas
abbrev pub IsLine : JournalLine → Type 0
IsLine (line.Head v) = Unit {0}
IsLine (line.Steps steps) = steps < 2 ^ 32
IsLine (line.Line at) = at < 2 ^ 32
IsLine (line.Pid pid) = pid < 2 ^ 32
IsLine (line.Worked pid gas) = (pid < 2 ^ 32) × (gas < 2 ^ 64)
IsLine (line.Fired pid f) = (pid < 2 ^ 32) × IsGasless f
IsLine (line.End e) = IsEnd e
