-- The lines that are due where there is no script, and the journal without entries.
use Rattle.std.specs.Prelude.{ℕ, ◌<◌, List, [], ◌++◌, length, codes, decimal}
use Rattle.nomos_legal.specs.declared.journal.Journal.{Journal}
use Rattle.nomos_report.specs.ReportLines.{line}
use Rattle.nomos_ir.specs.Limits.{text_limit}
use Rattle.nomos_script.specs.ScriptReading.{IsSyntaxAt}
use Rattle.nomos_answers.specs.Outside.{HaveRisen, Input}

-- the journal without entries, whose batches may make so many firings
abbrev pub no_entries : ℕ → Journal
no_entries limit = record { limit = limit; entries = [] }

-- the line of a source that could not be read
abbrev pub read_fault_line : List ℕ → List ℕ
read_fault_line source = line (codes "read fault " ++ source)

-- the line of a script that is refused
abbrev pub script_refusal : List ℕ → List ℕ
script_refusal cause = line (codes "script refused " ++ cause)

-- What is due where there is no script: a status and a line.
pub data IsNoScript (script : Input) : ℕ → List ℕ → Type 0 where
  fault : HaveRisen script.counts → IsNoScript script 5 (read_fault_line (codes "script"))
  too_long : text_limit < length script.text → IsNoScript script 2 (script_refusal (codes "TooLong"))
  syntax : (k : ℕ) → IsSyntaxAt script.text k
      → IsNoScript script 2 (script_refusal (codes "Syntax " ++ decimal k))
