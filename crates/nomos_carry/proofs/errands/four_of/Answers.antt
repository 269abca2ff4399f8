use Rattle.nomos_carry.proofs.errands.four_of.Goals as goal

pub returns-in-text : goal.returns-in-text
returns-in-text c = rw c.in-text.is c.renumber_of.ensures
