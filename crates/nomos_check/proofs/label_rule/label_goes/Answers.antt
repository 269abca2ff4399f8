use Rattle.std.proofs.Common.{sym}
use Rattle.nomos_types.specs.Premises.{SendsLabel}
use Rattle.nomos_check.specs.mirror.StandingData.{shape_of}
use Rattle.nomos_check.proofs.ChannelLaws.{none-found}
use Rattle.nomos_check.proofs.PremiseLemmas.{label-found}
use Rattle.nomos_check.proofs.label_rule.label_goes.Goals as goal

pub returns-in_err-branches : goal.returns-in_err-branches
returns-in_err-branches c =
    none-found (SendsLabel c.args.program.now (shape_of c.args.now.now) c.args.c c.args.label) _ c.from_residual.ensures
    (λ t says. c.in_err-branches.ensures says.branches says.channel)

pub returns : goal.returns
returns c =
    label-found c.args.program.now (shape_of c.args.now.now) c.args.c c.args.label _ _ c.in_ok-branches.ensures
    (sym (rw c.as_slice.ensures at c.goes_by.ensures))
