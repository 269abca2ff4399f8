-- What a firing touches, told by the instruction at which the process stands.
use Rattle.std.specs.Prelude.{◌≡◌, ◌⊎◌, ℕ, Bool, true, false, Option, Some, None, slice_get}
use Rattle.std.specs.Option.{option_map}
use Rattle.nomos_ir.specs.Bindings.{bound_to}
use Rattle.nomos_ir.specs.declared.code_node.Chan.{Chan}
use Rattle.nomos_ir.specs.declared.code_node.CodeNode.{CodeNode}
use Rattle.nomos_ir.specs.declared.code_node.CodeNode.TheVariants as code
use Rattle.nomos_ir.specs.declared.ids.VarId.{VarId}
use Rattle.nomos_types.specs.Acceptance.{Acceptance}
use Rattle.nomos_machine.specs.Optional.{◌>>=◌}
use Rattle.nomos_machine.specs.Sight.{is_own, present_name, offering, owner}
use Rattle.nomos_machine.specs.State.{State, process_at}
use Rattle.nomos_machine.specs.declared.object.Process.{Process}
use Rattle.nomos_ready.specs.declared.touch.Incoming.{Incoming}
use Rattle.nomos_ready.specs.declared.touch.Touch.{Touch}

-- nothing else is touched
abbrev pub no_touch : Touch
no_touch = record { partner = None; heard = None }

-- a message comes this way on this name
abbrev pub heard_on : Bool → Option ℕ → Option Incoming
heard_on way name = option_map (λ n. let heard : Incoming = record { to_client = way; name = n } in heard) name

-- it says something on a channel
abbrev pub says_on : Process → Chan → Touch
says_on p c = record { partner = None; heard = heard_on (is_own c) (present_name p c) }

-- the process that offers the name of a channel goes on with it
abbrev pub meets : State → Option ℕ → Touch
meets s name = record { partner = option_map (λ q. q.pid) (name >>= offering s.objects); heard = None }

-- whoever used its name goes on under the one of a variable, on which a message to the provider is read then
abbrev pub hands_on : State → Process → VarId → Touch
hands_on s p v = record { partner = owner s p.offers; heard = heard_on false (bound_to v.0 p.channels) }

-- At a send and at `close` a message comes, at `acquire` and `release` the provider goes on too, and at `fwd` whoever
-- used the name.
abbrev pub touch_at : State → Process → CodeNode → Touch
touch_at s p (code.Label _ c l next) = says_on p c
touch_at s p (code.Send _ c y next) = says_on p c
touch_at s p (code.Put _ c e next) = says_on p c
touch_at s p (code.Pay _ c r next) = says_on p c
touch_at s p (code.Acquire _ r v next) = meets s (bound_to r.0 p.channels)
touch_at s p (code.Release _ v r next) = meets s (bound_to v.0 p.channels)
touch_at s p (code.Close _) = record { partner = None; heard = heard_on true (Some p.offers) }
touch_at s p (code.Fwd _ v) = hands_on s p v
touch_at s p _ = no_touch

abbrev pub touch_by : State → Process → Option CodeNode → Touch
touch_by s p (Some n) = touch_at s p n
touch_by s p None = no_touch

abbrev pub touch_from : Acceptance → State → Option Process → Touch
touch_from a s (Some p) = touch_by s p (slice_get a.program.code p.code.0)
touch_from a s None = no_touch

-- what the firing of the process with this number touches
abbrev pub touch_of : Acceptance → State → ℕ → Touch
touch_of a s pid = touch_from a s (process_at s pid)

-- The numbers of the objects that a firing may change: that of the process, that of an object that comes, and that of
-- the other one that it touches.
abbrev pub IsChanged : State → ℕ → Touch → ℕ → Type 0
IsChanged s pid touch n = (n ≡ pid) ⊎ ((n ≡ s.next_object) ⊎ (touch.partner ≡ Some n))

-- a message may be read this way on this name that was not there
abbrev pub IsHeard : Touch → Bool → ℕ → Type 0
IsHeard touch way name = touch.heard ≡ Some (record { to_client = way; name = name })
