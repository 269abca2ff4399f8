use Rattle.std.proofs.Common.{◌∙◌, All, List, ℕ, ap, map, subst, sym, take}
use Rattle.std.specs.String.{string_bytes}
use Rattle.std.proofs.lemmas.List.{take-map}
use Rattle.std.proofs.lemmas.List.Elements.{All-take}
use Rattle.nomos_script.specs.ScriptNames.{IsScriptName}
use Rattle.nomos_ledger.specs.mirror.ContractNames.{contract_at}
use Rattle.nomos_ledger.proofs.contract_names.ContractNames.truncate.Goals as goal

pub returns : goal.returns
returns c =
    ap (map (contract_at string_bytes)) c.truncate.ensures.entries
    ∙ sym (take-map (contract_at string_bytes) c.args.count c.self.inside.names.entries)
    ∙ ap (take c.args.count) c.self.view_is

pub invariant_of-self : goal.invariant_of-self
invariant_of-self c =
    let names = rw c.self.view_is at c.self.invariant in
    let P : List ℕ × ℕ → Type 0 = λ n. IsScriptName n.0 in
    subst (All P) (sym (returns c)) (All-take P c.args.count c.args.self.now names)
