-- A journal's text as lines.
use Rattle.std.specs.Prelude.{◌≡◌, ◌<◌, ℕ, List, [], ◌∷◌, ◌++◌, length, Option, Some, None}
use Rattle.std.specs.List.{flat_map}
use Rattle.nomos_printing.specs.Splitting.{Lacks, ComesApart}
use Rattle.nomos_journal.specs.Line.{line_text}
use Rattle.nomos_journal.specs.declared.line.JournalLine.{JournalLine}
use Rattle.nomos_journal.specs.declared.text.TextLine.{TextLine}
use Rattle.nomos_journal.specs.declared.text.TextLine.TheVariants as text_line

-- lines, each with its line feed; amounts have so many Dths to the unit
abbrev pub lines_text : ℕ → List JournalLine → List ℕ
lines_text unit lines = flat_map (λ line. line_text unit line ++ 10 ∷ []) lines

-- The line that stands first in a text, and what is left behind it: the bytes before the first line feed, or all bytes
-- where there is none, unless there are none at all.
abbrev pub NextLine : List ℕ → Option TextLine → List ℕ → Type 0
NextLine text None left = (text ≡ []) × (left ≡ [])
NextLine text (Some (text_line.Whole bytes)) left = ComesApart 10 text bytes.now left
NextLine text (Some (text_line.Cut bytes)) left =
    (0 < length text) × Lacks 10 text × (bytes.now ≡ text) × (left ≡ [])
