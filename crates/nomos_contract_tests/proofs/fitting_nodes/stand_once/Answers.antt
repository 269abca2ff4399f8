-- One number more.
use Rattle.std.proofs.Common.{sym, ◌∙◌, below_more}
use Rattle.nomos_contract_tests.proofs.fitting_nodes.stand_once.Goals as goal

pub loop-t-preserved : goal.loop-t-preserved
loop-t-preserved c = below_more _ _ c.loop-t.invariant (sym c.count_of.ensures ∙ c.if-count_of-ne1.false)
