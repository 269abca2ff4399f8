use Rattle.nomos_plain.proofs.RedirectLemmas.{mapped-more}
use Rattle.nomos_machine.specs.Revised.{renamed}
use Rattle.nomos_plain.proofs.redirecting.rename_names.Goals as goal

pub loop-name-preserved : goal.loop-name-preserved
loop-name-preserved c =
    mapped-more (renamed c.args.old c.args.new) _ _ _ _ _ c.loop-name-test.true c.loop-name.auto.names
    c.loop-name.invariant c.renamed.ensures
