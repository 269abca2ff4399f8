-- What the calls on ledgers and worlds answer.
use Rattle.std.specs.Prelude.{◌≡◌, [], ◌∷◌, ◌++◌, Some}
use Rattle.nomos_types.specs.Acceptance.{Acceptance}
use Rattle.nomos_machine.specs.State.{process_at}
use Rattle.nomos_machine.specs.Step.{step, fault}
use Rattle.nomos_machine.specs.declared.object.Process.{Process}
use Rattle.nomos_deeds.specs.declared.fire.Fire.{Fire}
use Rattle.nomos_deeds.specs.declared.fire.Fire.TheVariants as fire
use Rattle.nomos_legal.specs.World.{WorldState}
use Rattle.nomos_legal.specs.declared.journal.Firing.{Firing}

-- The process took its step: the firing stands at the end, with the instruction at which the process stood.
pub record HasFired (a : Acceptance) (before : WorldState) (firing : Firing) (after : WorldState) : Type 0 where
  pub process : Process
  pub there : process_at before.state firing.pid ≡ Some process
  pub steps : step a before.state firing.pid ≡ Some after.state
  pub is : after ≡ record before {
    firings = before.firings ++ firing ∷ [];
    places = before.places ++ process.code ∷ [];
    state = after.state;
  }

-- what a firing answers, and the world after it; a fault changes nothing
abbrev pub FiresIn : Acceptance → WorldState → Firing → Fire → WorldState → Type 0
FiresIn a before firing fire.Fired after = HasFired a before firing after
FiresIn a before firing (fire.Faulted f) after = (fault a before.state firing.pid ≡ Some f) × (after ≡ before)
