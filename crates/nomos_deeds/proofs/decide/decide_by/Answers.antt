-- The deed is that of the instruction with what its terms come to.
use Rattle.std.proofs.Common.{◌∙◌, Ok, Err, sym, ap}
use Rattle.nomos_eval.specs.Outcomes.{outcome_of}
use Rattle.nomos_deeds.proofs.DecisionLemmas.{deed-by_terms}
use Rattle.nomos_deeds.proofs.decide.decide_by.Goals as goal

pub returns-in-Values : goal.returns-in-Values
returns-in-Values g c p there stands =
    c.deed_at_node-doing.ensures.decides p there stands
    ∙ sym (deed-by_terms c.args.accepted.now (g.S.Sight.state c.args.sight.now) p c.args.node.now
    (Ok c.in-Values.values) stands (sym (ap outcome_of c.in-Values.is) ∙ c.requires.outcome p there))

pub returns-in-Fault : goal.returns-in-Fault
returns-in-Fault g c p there stands =
    sym (deed-by_terms c.args.accepted.now (g.S.Sight.state c.args.sight.now) p c.args.node.now (Err c.in-Fault.fault)
    stands (sym (ap outcome_of c.in-Fault.is) ∙ c.requires.outcome p there))
