use Rattle.std.proofs.Common.{◌∙◌, sym, ap}
use Rattle.nomos_machine.specs.declared.object.Object.TheVariants as object
use Rattle.nomos_state.specs.Objects.{process_held}
use Rattle.nomos_state.specs.Sought.{is_sought}
use Rattle.nomos_state.specs.declared.sought.Sought.{Sought}
use Rattle.nomos_state.proofs.sought.is_process_sought.Goals as goal

pub returns-in-Keeper : goal.returns-in-Keeper
returns-in-Keeper c cells values its_lists =
    c.stands_for.ensures cells c.args.number values its_lists
    ∙ sym (ap (λ (s : Sought). is_sought s
    (object.Process (process_held cells c.args.number values its_lists c.args.p.now)))
    c.in-Keeper.is)
