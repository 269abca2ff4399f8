use Rattle.std.proofs.Common.{◌∙◌}
use Rattle.std.specs.String.{string_bytes}
use Rattle.nomos_legal.specs.Ledger.{shared_name}
use Rattle.nomos_ledger.proofs.ContractLemmas.{found-contract}
use Rattle.nomos_ledger.proofs.contract_names.ContractNames.shared_name.Goals as goal

pub returns : goal.returns
returns c =
    let found = found-contract string_bytes c.as_str.result.now c.self.inside.names.entries in
    c.copied.ensures
    ∙ c.get.ensures.value
    ∙ found
    ∙ (λ i. shared_name (c.self.view_is i) (c.as_str.ensures.text i))
