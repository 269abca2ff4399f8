-- The talk is that of the account that has the name, from the ledger's state.
use Rattle.std.proofs.Common.{◌∙◌, sym, subst}
use Rattle.std.specs.Prelude.{IfOk}
use Rattle.nomos_machine.specs.State.{State}
use Rattle.nomos_visit.specs.mirror.Holding.{IsToldBehind}
use Rattle.nomos_visit.proofs.ToldLemmas.{account-told, nobody-told}
use Rattle.nomos_visit.proofs.held.hold_talk.Goals as goal

pub returns-in_default : goal.returns-in_default
returns-in_default g c =
    nobody-told c.args.accepted.now c.args.visit.party.proc.now c.args.visit.limit c.args.visit.lines.now
    c.args.text.items c.args.ledger c.args.visit.party.name.now (sym c.account_of.ensures ∙ c.in_default.is)
    c.refused.result c.refused.ensures

pub returns : goal.returns
returns g c =
    account-told c.args.accepted.now c.args.visit.party.proc.now c.args.visit.limit c.args.visit.lines.now
    c.args.text.items c.args.ledger c.args.visit.party.name.now (sym c.account_of.ensures ∙ c.in-Some.is)
    c.hold_with.result
    (subst (λ (s : State). IfOk c.hold_with.result (IsToldBehind c.args.accepted.now s c.args.visit.party.proc.now
    c.in-Some.account c.args.visit.limit c.args.visit.lines.now c.args.text.items)) c.into_state.ensures.state
    c.hold_with.ensures)
