use Rattle.std.proofs.Common.{◌∙◌, sym}
use Rattle.std.specs.String.{string_bytes}
use Rattle.nomos_legal.specs.Ledger.{account_of}
use Rattle.nomos_ledger.proofs.AccountLemmas.{found-account}
use Rattle.nomos_ledger.proofs.account_names.AccountNames.number_by.Goals as goal

pub returns-in_err-number : goal.returns-in_err-number
returns-in_err-number c =
    let place = found-account string_bytes c.args.name.now c.self.inside.names.keys in
    c.from_residual.ensures
    ∙ sym c.in_err-number.was
    ∙ c.get_index_of.ensures.index
    ∙ place
    ∙ (λ i. account_of (c.self.view_is i) c.args.name.now)

pub returns : goal.returns
returns c =
    let place = found-account string_bytes c.args.name.now c.self.inside.names.keys in
    sym c.in_ok-number.was
    ∙ c.get_index_of.ensures.index
    ∙ place
    ∙ (λ i. account_of (c.self.view_is i) c.args.name.now)
