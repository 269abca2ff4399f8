use Rattle.std.proofs.Common.{◌∙◌, All, List, ℕ, subst, sym}
use Rattle.std.specs.String.{string_bytes}
use Rattle.std.proofs.lemmas.List.Elements.{All-push}
use Rattle.indexmap.proofs.CallerLemmas.{insert_entry-new}
use Rattle.nomos_legal.specs.Ledger.{shared_name}
use Rattle.nomos_script.specs.ScriptNames.{IsScriptName}
use Rattle.nomos_ledger.proofs.ContractLemmas.{found-contract, put-contract}
use Rattle.nomos_ledger.proofs.contract_names.ContractNames.add.Goals as goal

pub returns-clause-ok : goal.returns-clause-ok
returns-clause-ok c =
    let is = c.in_ok-from_str.ensures.ok ∙ c.as_str.ensures.text in
    let free = found-contract string_bytes (string_bytes c.in_ok-from_str.field-0) c.self.inside.names.entries
    ∙ (λ i. shared_name (c.self.view_is i) (is i)) ∙ c.requires in
    let put = insert_entry-new _ c.self.inside.names c.in_ok-from_str.field-0 c.args.shared free in
    put-contract string_bytes c.self.inside.names.entries c.insert.new.self.entries c.in_ok-from_str.field-0
    c.args.shared c.args.self.now c.args.name.now c.self.view_is is (c.in_ok-insert.ensures.entries ∙ put)

pub invariant_of-self-2 : goal.invariant_of-self-2
invariant_of-self-2 c =
    let names = rw c.self.view_is at c.self.invariant in
    let P : List ℕ × ℕ → Type 0 = λ n. IsScriptName n.0 in
    subst (All P) (sym (returns-clause-ok c))
    (All-push P c.args.self.now (c.args.name.now, c.args.shared) names c.as_str.ensures.name)
