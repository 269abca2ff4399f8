use Rattle.std.proofs.Common.{◌∙◌, ◌-◌, All, List, ℕ, ap, length, map, subst, sym, take}
use Rattle.std.specs.String.{string_bytes}
use Rattle.std.proofs.lemmas.List.{length-map, take-map}
use Rattle.std.proofs.lemmas.List.Elements.{All-take}
use Rattle.nomos_script.specs.ScriptNames.{IsScriptName}
use Rattle.nomos_ledger.proofs.account_names.AccountNames.drop_last.Goals as goal

pub returns : goal.returns
returns c =
    let keys = c.self.inside.names.keys in
    let count = c.saturating_sub.ensures
    ∙ ap (λ (n : ℕ). n - 1) (c.len.ensures.len ∙ sym (length-map keys string_bytes)) in
    ap (map string_bytes) c.truncate.ensures.keys
    ∙ sym (take-map string_bytes c.saturating_sub.result keys)
    ∙ ap (λ (n : ℕ). take n (map string_bytes keys)) count
    ∙ ap (λ (names : List (List ℕ)). take (length names - 1) names) c.self.view_is

pub invariant_of-self : goal.invariant_of-self
invariant_of-self c =
    let names = rw c.self.view_is at c.self.invariant in
    subst (All IsScriptName) (sym (returns c))
    (All-take IsScriptName (length c.args.self.now - 1) c.args.self.now names)
