-- Crews that may run a batch, whose firings they are, and which process several workers abort it with.
use Rattle.std.specs.Prelude.{ℕ, ◌≤◌}
use Rattle.nomos_types.specs.Acceptance.{Acceptance}
use Rattle.nomos_machine.specs.State.{State}
use Rattle.nomos_legal.specs.LowestFault.{IsLowestFault}
use Rattle.nomos_legal.specs.declared.journal.End.TheVariants as end
use Rattle.nomos_legal.specs.declared.journal.Firing.{Firing}
use Rattle.nomos_workers.specs.declared.batch.BatchEnd.{BatchEnd}
use Rattle.nomos_workers.specs.declared.batch.BatchEnd.TheVariants as batch_end
use Rattle.nomos_workers.specs.declared.batch.Crew.{Crew}
use Rattle.nomos_workers.specs.declared.batch.Crew.TheVariants as crew

-- one worker, or two to sixteen
abbrev pub IsCrew : Crew → Type 0
IsCrew (crew.One policy) = Unit {0}
IsCrew (crew.Many workers) = (2 ≤ workers) × (workers ≤ 16)

-- the firing is that of one of so many workers, whose passes have the numbers from 1 on
abbrev pub IsOfWorker : ℕ → Firing → Type 0
IsOfWorker workers f = (1 ≤ f.pass) × (f.pass ≤ workers)

-- an abort is that of the lowest process that has a fault
abbrev pub AbortsAtLowest : Acceptance → State → BatchEnd → Type 0
AbortsAtLowest a s (batch_end.Done (end.Aborted pid f)) = IsLowestFault a s pid f
AbortsAtLowest a s _ = Unit {0}
