use Rattle.nomos_report.proofs.block.push_star.Goals as goal

pub amount-amount-requires : goal.amount-amount-requires
amount-amount-requires c = (c.requires.first, c.requires.within)
