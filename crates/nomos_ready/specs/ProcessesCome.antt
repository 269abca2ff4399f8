-- States in which processes have come since another one.
use Rattle.std.specs.Prelude.{◌≤◌, ◌⊎◌, Contains}
use Rattle.nomos_machine.specs.State.{State}
use Rattle.nomos_machine.specs.declared.object.Object.{Object}
use Rattle.nomos_machine.specs.declared.object.Object.TheVariants as object

-- a process with a new number, which offers a new name
abbrev pub IsNewIn : State → Object → Type 0
IsNewIn s (object.Process r) = (s.next_object ≤ r.pid) × (s.next_name ≤ r.offers)
IsNewIn s (object.Message m) = ⊥

-- Each object of the second state is one of the first, or a process that is new there; and all of the first are there.
pub record HasGrown (s t : State) : Type 0 where
  pub stays : (o : Object) → Contains s.objects o → Contains t.objects o
  pub each : (o : Object) → Contains t.objects o → Contains s.objects o ⊎ IsNewIn s o
  pub objects : s.next_object ≤ t.next_object
  pub names : s.next_name ≤ t.next_name
