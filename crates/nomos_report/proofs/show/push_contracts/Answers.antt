use Rattle.std.proofs.Common.{◌∙◌, ℕ, List, ◌++◌, ap, sym, arith}
use Rattle.nomos_machine.specs.State.{State}
use Rattle.nomos_report.specs.ShownState.{named_line}
use Rattle.nomos_report.proofs.PlaceLemmas.{place-last, place-next}
use Rattle.nomos_report.proofs.show.push_contracts.Goals as goal

pub loop-place-preserved : goal.loop-place-preserved
loop-place-preserved g c =
    let l = c.args.ledger.now in
    let unit : ℕ = c.args.unit in
    let contract : List ℕ × ℕ = (c.in-Some.contract.name.now, c.in-Some.contract.shared) in
    c.in_ok-push_contract.ensures
    ∙ ap (λ (s : State). c.loop-place.text.items ++ named_line unit s.objects contract) c.state.ensures
    ∙ ap (λ (t : List ℕ). t ++ named_line unit l.state.objects contract) c.loop-place.invariant
    ∙ place-next (named_line unit l.state.objects) c.args.text.now.items l.contracts c.loop-place.place contract
    (sym c.in-Some.ensures.contract)

pub returns : goal.returns
returns g c =
    let l = c.args.ledger.now in
    c.loop-place.invariant
    ∙ place-last (named_line c.args.unit l.state.objects) c.args.text.now.items l.contracts c.loop-place.place
    (omega (arith, c.contracts-place-end.ensures, c.loop-place-test.false))
