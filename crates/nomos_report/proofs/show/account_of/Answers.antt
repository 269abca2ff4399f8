use Rattle.std.proofs.Common.{◌∙◌, List, ℕ, ap, sym, slice_get}
use Rattle.std.specs.Option.{option_map}
use Rattle.nomos_machine.specs.State.{State}
use Rattle.nomos_report.specs.declared.show.Account.{Account}
use Rattle.nomos_report.proofs.PlaceLemmas.{zip-both, zip-first, zip-second}
use Rattle.nomos_report.proofs.show.account_of.Goals as goal

abbrev shown : Account → List ℕ × ℕ
shown a = (a.name.now, a.dths)

pub returns-in_err-name-clause-account : goal.returns-in_err-name-clause-account
returns-in_err-name-clause-account g c =
    let l = c.args.ledger.now in
    ap (option_map shown) c.from_residual.ensures
    ∙ sym (zip-first l.accounts l.state.balances c.args.n (sym c.in_err-name.ensures.account))

pub returns-in_err-dths-clause-account : goal.returns-in_err-dths-clause-account
returns-in_err-dths-clause-account g c =
    let l = c.args.ledger.now in
    let balance = c.in_err-dths.ensures ∙ ap (λ (s : State). slice_get s.balances c.args.n) c.state.ensures in
    ap (option_map shown) c.from_residual-in_err-dths.ensures
    ∙ sym (zip-second l.accounts l.state.balances c.args.n (sym balance))

pub returns-clause-account : goal.returns-clause-account
returns-clause-account g c =
    let l = c.args.ledger.now in
    let balance = c.in_ok-dths.ensures ∙ ap (λ (s : State). slice_get s.balances c.args.n) c.state.ensures in
    sym (zip-both l.accounts l.state.balances c.args.n c.in_ok-name.name.now c.in_ok-dths.dths
    (sym c.in_ok-name.ensures.account) (sym balance))
