use Rattle.std.proofs.Common.{◌∙◌, All, subst, sym}
use Rattle.std.specs.String.{string_bytes}
use Rattle.std.proofs.lemmas.List.Elements.{All-push}
use Rattle.nomos_script.specs.ScriptNames.{IsScriptName}
use Rattle.nomos_ledger.proofs.AccountLemmas.{put-account}
use Rattle.nomos_ledger.proofs.account_names.AccountNames.add.Goals as goal

pub returns-clause-ok : goal.returns-clause-ok
returns-clause-ok c =
    put-account string_bytes c.self.inside.names.keys c.insert.new.self.keys c.in_ok-from_str.field-0 c.args.self.now
    c.args.name.now
    c.self.view_is (c.in_ok-from_str.ensures.ok ∙ c.as_str.ensures.text) c.requires c.in_ok-insert.ensures.keys

pub invariant_of-self-2 : goal.invariant_of-self-2
invariant_of-self-2 c =
    let names = rw c.self.view_is at c.self.invariant in
    let name = c.as_str.ensures.name in
    subst (All IsScriptName) (sym (returns-clause-ok c))
    (All-push IsScriptName c.args.self.now c.args.name.now names name)
