-- What is known before a firing.
use Rattle.std.specs.Prelude.{◌≡◌, ℕ}
use Rattle.nomos_types.specs.Acceptance.{Acceptance}
use Rattle.nomos_machine.specs.Optional.{◌>>=◌}
use Rattle.nomos_machine.specs.State.{State}
use Rattle.nomos_deeds.specs.Readers.{waits}
use Rattle.nomos_ready.specs.Touching.{touch_of}
use Rattle.nomos_ready.specs.declared.waking.Foreseen.{Foreseen}

-- the process that fires, the number that the next object will have, what is touched, and the shared names for which
-- the process and the other one that is touched wait
pub record IsForeseen (a : Acceptance) (s : State) (pid : ℕ) (f : Foreseen) : Type 0 where
  pub fires : f.pid ≡ pid
  pub comes : f.next ≡ s.next_object
  pub touch : f.touch ≡ touch_of a s pid
  pub own : f.waits ≡ waits a s.objects pid
  pub partner : f.partner_waits ≡ (f.touch.partner >>= waits a s.objects)
