-- What a process of a typed state does, whatever its instruction.
use Rattle.std.proofs.Common.{◌∙◌, Contains, Option, slice_get, sym, subst, ap}
use Rattle.nomos_ir.specs.CodeParts.{code_terms}
use Rattle.nomos_ir.specs.declared.code_node.CodeNode.{CodeNode}
use Rattle.nomos_ir.specs.declared.code_node.CodeNode.TheVariants as code
use Rattle.nomos_types.specs.Acceptance.{Acceptance, IsAccepted}
use Rattle.nomos_types.proofs.RowLaws.{row-at}
use Rattle.nomos_ir.specs.TermsEvaluation.{terms_evaluation}
use Rattle.nomos_machine.specs.Optional.{◌>>=◌}
use Rattle.nomos_machine.specs.Readiness.{met_or_not, looks_ready}
use Rattle.nomos_machine.specs.State.{State}
use Rattle.nomos_machine.specs.Step.{deed, deed_by}
use Rattle.nomos_machine.specs.TypedState.{IsTyped}
use Rattle.nomos_machine.specs.declared.object.Object.TheVariants as object
use Rattle.nomos_machine.specs.declared.object.Process.{Process}
use Rattle.nomos_machine.proofs.AloneDeeds.{At, GoesAt, let-goes, emit-goes, if-goes, work-goes, empty-goes, add-goes, match-goes}
use Rattle.nomos_machine.proofs.CloseLaws.{close-goes}
use Rattle.nomos_machine.proofs.ForwardLaws.{fwd-goes}
use Rattle.nomos_machine.proofs.GoesLaws.{Goes, process-typed, own-row}
use Rattle.nomos_machine.proofs.ReceiveDeeds.{case-goes, recv-goes, take-goes, get-goes, wait-goes}
use Rattle.nomos_machine.proofs.SendDeeds.{label-goes, send-goes, put-goes, pay-goes}
use Rattle.nomos_machine.proofs.SharingDeeds.{accept-goes, detach-goes, acquire-goes, release-goes}
use Rattle.nomos_machine.proofs.SpawnDeeds.{spawn-goes, call-goes}

module _ {a : Acceptance} (accepted : IsAccepted a) {s : State} (typed : IsTyped a s) {p : Process}
    (there : Contains s.objects (object.Process p)) where
  -- one line for each instruction
  goes-at : (n : CodeNode) → At accepted typed there n → GoesAt accepted typed there n
  goes-at (code.Label at c l next) stands = label-goes accepted typed there at c l next stands
  goes-at (code.Case at c arms) stands = case-goes accepted typed there at c arms stands
  goes-at (code.Send at c y next) stands = send-goes accepted typed there at c y next stands
  goes-at (code.Recv at c y next) stands = recv-goes accepted typed there at c y next stands
  goes-at (code.Put at c e next) stands = put-goes accepted typed there at c e next stands
  goes-at (code.Take at c v next) stands = take-goes accepted typed there at c v next stands
  goes-at (code.Pay at c r next) stands = pay-goes accepted typed there at c r next stands
  goes-at (code.Get at c r next) stands = get-goes accepted typed there at c r next stands
  goes-at (code.Work at r next) stands = work-goes accepted typed there at r next stands
  goes-at (code.Wait at v next) stands = wait-goes accepted typed there at v next stands
  goes-at (code.Accept at next) stands = accept-goes accepted typed there at next stands
  goes-at (code.Detach at next) stands = detach-goes accepted typed there at next stands
  goes-at (code.Acquire at r v next) stands = acquire-goes accepted typed there at r v next stands
  goes-at (code.Release at v r next) stands = release-goes accepted typed there at v r next stands
  goes-at (code.Spawn at v f args next) stands = spawn-goes accepted typed there at v f args next stands
  goes-at (code.Let at v e next) stands = let-goes accepted typed there at v e next stands
  goes-at (code.Emit at e next) stands = emit-goes accepted typed there at e next stands
  goes-at (code.If at e then_next else_next) stands = if-goes accepted typed there at e then_next else_next stands
  goes-at (code.Close at) stands = close-goes accepted typed there at stands
  goes-at (code.Fwd at v) stands = fwd-goes accepted typed there at v stands
  goes-at (code.Call at f args) stands = call-goes accepted typed there at f args stands
  goes-at (code.Empty at v r kind next) stands = empty-goes accepted typed there at v r kind next stands
  goes-at (code.Add at v e w next) stands = add-goes accepted typed there at v e w next stands
  goes-at (code.Match at w empty_next head tail full_next) stands =
      match-goes accepted typed there at w empty_next head tail full_next stands

  -- Where one look says that the process is ready it makes a change that leaves the state typed and keeps all gas, or
  -- has a fault; and otherwise it does nothing.
  pub deed-goes : Goes a s (looks_ready a s p) (deed a s p)
  deed-goes =
      let (after, row) = own-row typed there accepted in
      let (n, stands, says) = row-at row in
      let here : At accepted typed there n =
      ap (λ c. slice_get a.program.code c.0) (process-typed typed there).matches.code ∙ stands
      in
      subst (λ (o : Option CodeNode). Goes a s (met_or_not a s p o)
      (o >>= λ n. deed_by a s p n (terms_evaluation a.program p.values (code_terms n)))) (sym here) (goes-at n here)
