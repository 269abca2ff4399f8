use Rattle.nomos_equality.proofs.EndLemmas.{gathered-finds, gathered-compared}
use Rattle.nomos_equality.proofs.known.Known.gather.Goals as goal

pub returns-in-Ok-clause-compared : goal.returns-in-Ok-clause-compared
returns-in-Ok-clause-compared c =
    gathered-compared c.args.program.now c.args.left c.args.right (record c.args.self.now { todo = c.clear.new.self })
    c.gather_all.new.self c.requires.compared c.in-Ok.ensures.gathered

pub returns-in-Ok-clause-finds : goal.returns-in-Ok-clause-finds
returns-in-Ok-clause-finds c =
    gathered-finds c.args.program.now c.args.left c.args.right (record c.args.self.now { todo = c.clear.new.self })
    c.gather_all.new.self c.requires.compared c.in-Ok.ensures.gathered

pub returns-in-Ok-clause-kept : goal.returns-in-Ok-clause-kept
returns-in-Ok-clause-kept c =
    record { types = c.in-Ok.ensures.gathered.pairs_front; amounts = c.in-Ok.ensures.gathered.amounts_front }
