use Rattle.std.proofs.Common.{◌∙◌, Option, ap, sym}
use Rattle.std.specs.Global.{Vec}
use Rattle.std.specs.Option.{option_map}
use Rattle.nomos_ir.specs.declared.ids.VarId.{VarId}
use Rattle.nomos_machine.specs.declared.object.PotentialList.{PotentialList}
use Rattle.nomos_changes.specs.Beginnings.{with_lists_if_any}
use Rattle.nomos_changes.specs.SmallChanges.{with_process}
use Rattle.nomos_changes.proofs.BecomesLemmas.{process-same}
use Rattle.nomos_changes.proofs.spawning.keep_lists.Goals as goal

pub returns-in_default-clause-state : goal.returns-in_default-clause-state
returns-in_default-clause-state g c p there =
    let s = g.P.Sight.state c.args.parts.now in
    sym (process-same s c.args.pid p there)
    ∙ ap (λ (o : Option (Vec (VarId × PotentialList))). with_process c.args.pid
    (with_lists_if_any (option_map (λ kept. kept.items) o) p) s) (sym c.in_default.is)
