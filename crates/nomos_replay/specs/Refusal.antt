-- How the refusal of a journal is written.
use Rattle.std.specs.Prelude.{ℕ, List, [], ◌∷◌, ◌++◌, Option, Some, None, codes, decimal}
use Rattle.nomos_legal.specs.declared.journal.End.{End}
use Rattle.nomos_printing.specs.End.{end_text}
use Rattle.nomos_replay.specs.declared.error.ReplayError.{ReplayError}
use Rattle.nomos_replay.specs.declared.error.ReplayError.TheVariants as error

-- the end that is found, or that none is; amounts have so many Dths to the unit
abbrev pub found_text : ℕ → Option End → List ℕ
found_text unit (Some e) = end_text unit e
found_text unit None = codes "running"

-- the cause, with its numbers
abbrev pub cause_of : ℕ → ReplayError → List ℕ
cause_of unit error.TooLong = codes "TooLong"
cause_of unit (error.BadLine at) = codes "BadLine " ++ decimal at
cause_of unit (error.NotEnabled at pid) = codes "NotEnabled " ++ decimal at ++ codes " " ++ decimal pid
cause_of unit (error.WrongFiring at pid) = codes "WrongFiring " ++ decimal at ++ codes " " ++ decimal pid
cause_of unit (error.WrongEnd at kept found) =
    codes "WrongEnd " ++ decimal at ++ codes " kept " ++ end_text unit kept ++ codes " found " ++ found_text unit found
cause_of unit error.NoMemory = []

-- The line of a refusal; where memory is wanting there is none.
abbrev pub refusal_line : ℕ → ReplayError → List ℕ
refusal_line unit error.NoMemory = []
refusal_line unit e = codes "journal refused " ++ cause_of unit e ++ 10 ∷ []
