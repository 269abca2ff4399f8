use Rattle.std.proofs.Common.{◌∙◌, ℕ, List, ap}
use Rattle.nomos_ir.specs.Bindings.{bindings_of}
use Rattle.nomos_ir.specs.Value.{Value}
use Rattle.nomos_ir.specs.declared.ids.VarId.{VarId}
use Rattle.nomos_machine.specs.declared.object.PotentialList.{PotentialList}
use Rattle.nomos_restore.proofs.NumberingLemmas.{bindings-same}
use Rattle.nomos_restore.proofs.objects.newborn_of.Goals as goal

pub returns : goal.returns
returns c =
    let p = c.args.p in
    let its_lists = c.into_vec-2.result.items in
    let channels = bindings_of c.into_vec-3.result.items in
    ap (λ (values : List (VarId × Value)). record p { values = values; lists = its_lists; channels = channels })
    c.into_vec.ensures
    ∙ ap (λ (lists : List (VarId × PotentialList)). record p { lists = lists; channels = channels })
    c.into_vec-2.ensures
    ∙ ap (λ (pairs : List (VarId × ℕ)). record p { channels = bindings_of pairs }) c.into_vec-3.ensures
    ∙ ap (λ (pairs : List (VarId × ℕ)). record p { channels = pairs }) (bindings-same p.channels c.requires.channels)
