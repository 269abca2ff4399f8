-- How ends are written, and which ends there are.
use Rattle.std.specs.Prelude.{◌<◌, ◌^◌, ℕ, List, ◌++◌, codes, decimal}
use Rattle.nomos_legal.specs.declared.journal.End.{End}
use Rattle.nomos_legal.specs.declared.journal.End.TheVariants as end
use Rattle.nomos_printing.specs.Cause.{cause_text, fault_text, IsCause}

-- how a deposit or a batch ended; amounts have so many Dths to the unit
abbrev pub end_text : ℕ → End → List ℕ
end_text unit end.Deposited = codes "deposited"
end_text unit end.Committed = codes "committed"
end_text unit end.Blocked = codes "blocked"
end_text unit (end.Aborted pid f) = codes "aborted " ++ decimal pid ++ codes " " ++ fault_text f
end_text unit (end.Steps k) = codes "steps " ++ decimal k
end_text unit (end.Refused m cause) = codes "refused at " ++ decimal m ++ codes " " ++ cause_text unit cause

-- an end whose numbers are within 32 bits
abbrev pub IsEnd : End → Type 0
IsEnd (end.Aborted pid f) = pid < 2 ^ 32
IsEnd (end.Steps k) = k < 2 ^ 32
IsEnd (end.Refused m cause) = (m < 2 ^ 32) × IsCause cause
IsEnd _ = Unit {0}

-- the line that an end names has at most so many digits
abbrev pub HasLineBelow : ℕ → End → Type 0
HasLineBelow digits (end.Refused m cause) = m < 10 ^ digits
HasLineBelow digits _ = Unit {0}
