-- What a firing answers, and what is left then.
use Rattle.std.specs.Prelude.{◌≡◌, ◌≢◌, ◌<◌, ◌^◌, ℕ, [], Option, Some, None, slice_get}
use Rattle.nomos_ir.specs.Order.{count_of}
use Rattle.nomos_ir.specs.TermsEvaluation.{terms_of}
use Rattle.nomos_eval.specs.declared.wanted.Wanted.{Wanted}
use Rattle.nomos_types.specs.Acceptance.{Acceptance}
use Rattle.nomos_machine.specs.Sight.{HasOneOwner}
use Rattle.nomos_machine.specs.State.{State, gas_of, process_at}
use Rattle.nomos_machine.specs.Step.{step, fault}
use Rattle.nomos_machine.specs.TypedState.{IsTyped}
use Rattle.nomos_machine.specs.declared.object.Process.{Process}
use Rattle.nomos_deeds.specs.Acting.{HasNumbers}
use Rattle.nomos_deeds.specs.Readers.{IsLinearName}
use Rattle.nomos_deeds.specs.declared.fire.Fire.{Fire}
use Rattle.nomos_deeds.specs.declared.fire.Fire.TheVariants as fire

-- The process of this number fired, and the second state is the one after its step; or it has this fault, and the state
-- is as it was.
abbrev pub Fires : Acceptance → State → ℕ → Fire → State → Type 0
Fires a s pid fire.Fired t = step a s pid ≡ Some t
Fires a s pid (fire.Faulted f) t = (fault a s pid ≡ Some f) × (t ≡ s)

-- What is wanted of the process of this number: the terms of its instruction, if there are any, among its values.
abbrev pub Wants : Acceptance → State → ℕ → Option Wanted → Type 0
Wants a s pid (Some w) = (p : Process) × (process_at s pid ≡ Some p) × (w.code ≡ p.code) × (w.env ≡ p.values)
    × (terms_of (slice_get a.program.code p.code.0) ≢ [])
Wants a s pid None = (p : Process) → process_at s pid ≡ Some p → terms_of (slice_get a.program.code p.code.0) ≡ []

-- The state is typed, its gas is far from the greatest number that is kept, and so are its next numbers.
pub record MayFire (a : Acceptance) (s : State) : Type 0 where
  pub typed : IsTyped a s
  pub gas : gas_of s < 2 ^ 96
  pub numbers : HasNumbers s

-- Each name of mode R or L has one owner, unless it is the one of an outside party.
abbrev pub HaveOneOwner : Acceptance → State → Type 0
HaveOneOwner a s = (name : ℕ) → IsLinearName a.program s.types name → count_of name s.outside ≡ 0 → HasOneOwner s name
