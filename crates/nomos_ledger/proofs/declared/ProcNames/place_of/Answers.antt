use Rattle.std.proofs.Common.{◌∙◌, List, ℕ, Bor}
use Rattle.nomos_legal.specs.Ledger.{account_of}
use Rattle.nomos_ledger.proofs.AccountLemmas.{found-account}
use Rattle.nomos_ledger.proofs.declared.ProcNames.place_of.Goals as goal

pub returns : goal.returns
returns c =
    c.get_index_of.ensures.index
    ∙ found-account (λ (n : Bor (List ℕ)). n.now) c.args.name.now c.self.inside.names.keys
    ∙ (λ i. account_of (c.self.view_is i) c.args.name.now)
