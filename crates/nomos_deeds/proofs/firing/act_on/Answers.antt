-- What is decided of the ready process can be done, and the state after it is typed, and keeps gas and balances.
use Rattle.std.proofs.Common.{◌∙◌, Some, ap}
use Rattle.nomos_deeds.proofs.FireLaws.{acted, acted-keeps}
use Rattle.nomos_deeds.proofs.firing.act_on.Goals as goal

pub perform-requires : goal.perform-requires
perform-requires g c =
    (acted c.know.ensures.accepted c.requires.may c.args.pid c.args.decision.values c.in-Acts.act
    c.args.decision.doing (c.in-Some.is ∙ ap Some c.in-Acts.is) c.requires.decides c.requires.ready).can

pub returns-in_ok-perform-in-Acts-clause-typed : goal.returns-in_ok-perform-in-Acts-clause-typed
returns-in_ok-perform-in-Acts-clause-typed g c =
    (acted-keeps c.know.ensures.accepted c.requires.may c.args.pid c.args.decision.values c.in-Acts.act
    c.args.decision.doing (c.in-Some.is ∙ ap Some c.in-Acts.is) c.requires.decides c.requires.ready
    (g.M.Sight.state c.perform.new.self) c.in_ok-perform-in-Acts.ensures.ok).typed

pub returns-in_ok-perform-in-Acts-clause-gas : goal.returns-in_ok-perform-in-Acts-clause-gas
returns-in_ok-perform-in-Acts-clause-gas g c =
    (acted-keeps c.know.ensures.accepted c.requires.may c.args.pid c.args.decision.values c.in-Acts.act
    c.args.decision.doing (c.in-Some.is ∙ ap Some c.in-Acts.is) c.requires.decides c.requires.ready
    (g.M.Sight.state c.perform.new.self) c.in_ok-perform-in-Acts.ensures.ok).gas

pub returns-in_ok-perform-in-Acts-clause-balances : goal.returns-in_ok-perform-in-Acts-clause-balances
returns-in_ok-perform-in-Acts-clause-balances g c =
    (acted-keeps c.know.ensures.accepted c.requires.may c.args.pid c.args.decision.values c.in-Acts.act
    c.args.decision.doing (c.in-Some.is ∙ ap Some c.in-Acts.is) c.requires.decides c.requires.ready
    (g.M.Sight.state c.perform.new.self) c.in_ok-perform-in-Acts.ensures.ok).balances
