-- Readiness by one look, which needs neither evaluation nor memory.
use Rattle.std.specs.Prelude.{Bool, true, false, not, Option, Some, None, slice_get}
use Rattle.std.specs.Option.{is_some}
use Rattle.nomos_ir.specs.Bindings.{bound_to}
use Rattle.nomos_ir.specs.declared.code_node.CodeNode.{CodeNode}
use Rattle.nomos_ir.specs.declared.code_node.CodeNode.TheVariants as code
use Rattle.nomos_types.specs.Acceptance.{Acceptance}
use Rattle.nomos_machine.specs.Optional.{◌>>=◌}
use Rattle.nomos_machine.specs.Sight.{is_own, present_name, message_on, offering, accept_next, detach_next}
use Rattle.nomos_machine.specs.State.{State}
use Rattle.nomos_machine.specs.declared.object.Process.{Process}

module _ (a : Acceptance) (s : State) (p : Process) where
  -- At a receive and at `wait` the message has to be there, at `acquire` and `release` the provider has to stand at
  -- `accept` and at `detach`. These two wait for others, and at all other instructions nothing is waited for.
  abbrev pub is_met_at : CodeNode → Bool
  is_met_at (code.Case _ c arms) = is_some (present_name p c >>= message_on s.objects (not (is_own c)))
  is_met_at (code.Recv _ c y next) = is_some (present_name p c >>= message_on s.objects (not (is_own c)))
  is_met_at (code.Take _ c v next) = is_some (present_name p c >>= message_on s.objects (not (is_own c)))
  is_met_at (code.Get _ c r next) = is_some (present_name p c >>= message_on s.objects (not (is_own c)))
  is_met_at (code.Wait _ v next) = is_some (bound_to v.0 p.channels >>= message_on s.objects true)
  is_met_at (code.Acquire _ r v next) = is_some (bound_to r.0 p.channels >>= λ shared.
      offering s.objects shared >>= λ other. slice_get a.program.code other.code.0 >>= accept_next)
  is_met_at (code.Release _ v r next) = is_some (bound_to v.0 p.channels >>= λ name.
      offering s.objects name >>= λ other. slice_get a.program.code other.code.0 >>= detach_next)
  is_met_at (code.Accept _ next) = false
  is_met_at (code.Detach _ next) = false
  is_met_at _ = true

  abbrev pub met_or_not : Option CodeNode → Bool
  met_or_not (Some n) = is_met_at n
  met_or_not None = false

  -- the process is ready, by one look
  abbrev pub looks_ready : Bool
  looks_ready = met_or_not (slice_get a.program.code p.code.0)
