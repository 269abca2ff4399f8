-- A mirror: ends without numbers.
use Rattle.nomos_legal.specs.declared.journal.End.{End}
use Rattle.nomos_legal.specs.declared.journal.End.TheVariants as end

abbrev pub IsPlainEnd : End → Type 0
IsPlainEnd end.Deposited = Unit {0}
IsPlainEnd end.Committed = Unit {0}
IsPlainEnd end.Blocked = Unit {0}
IsPlainEnd _ = ⊥
