use Rattle.std.proofs.Common.{◌≡◌, ◌∙◌, ap, refl, subst}
use Rattle.nomos_types.specs.Acceptance.{Acceptance}
use Rattle.nomos_script.specs.declared.item.ScriptItem.TheVariants as item
use Rattle.nomos_legal.specs.StandsFor.{Deposits}
use Rattle.nomos_walk.proofs.WalkLemmas.{deposit-passes}
use Rattle.nomos_walk.specs.WalkState.{WalkState}
use Rattle.nomos_walk.proofs.walk.Walk.deposit.Goals as goal

pub returns : goal.returns
returns g c =
    let d = c.args.deposit in
    let program : c.accepted.result.now ≡ c.args.self.now.accepted =
    c.accepted.ensures ∙ ap (λ (x : WalkState). x.accepted) c.self.view_is
    in
    let deposits : Deposits c.args.self.now.accepted c.args.ledger d.line d.name.now d.units c.in_ok-end.end
    c.deposit.new.self =
    subst
    (λ (b : Acceptance). Deposits b c.args.ledger d.line d.name.now d.units c.in_ok-end.end c.deposit.new.self) program
    c.in_ok-end.ensures.ok
    in
    let passed = c.in_ok-pass.ensures.passed in
    deposit-passes c.args.self.now c.pass.new.self c.args.ledger c.deposit.new.self d.line d.units d.name.now
    c.in_ok-end.end c.in_ok-pass.field-0 deposits passed.0 passed.1
    (c.in_ok-pass.ensures.walk (item.Deposit d.line d.name.now d.units) c.args.ledger refl)
