-- A mirror of the code: what a worker does after a turn. No promise stands on it.
use Rattle.std.specs.Prelude.{IfSome}
use Rattle.nomos_types.specs.Acceptance.{Acceptance}
use Rattle.nomos_workers.specs.Looks.{IsKnown}
use Rattle.nomos_workers.specs.declared.work.GoesOn.{GoesOn}
use Rattle.nomos_workers.specs.declared.work.GoesOn.TheVariants as onward

-- it looks with what was evaluated rightly, or rests, or stops as it may
abbrev pub LeadsTo : {S : Type 0} → Acceptance → (S → Type 0) → GoesOn S → Type 0
LeadsTo a may_stop (onward.Seeks seeks) = IfSome seeks.known (IsKnown a)
LeadsTo a may_stop onward.Rests = Unit {0}
LeadsTo a may_stop (onward.Ends stop) = may_stop stop
