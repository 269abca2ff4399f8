use Rattle.nomos_workers.proofs.shop.Shop.of.Goals as goal

pub over-requires-clause-watched : goal.over-requires-clause-watched
over-requires-clause-watched g c κs within = c.of-watched.ensures.watched (g.A.Lent.program c.args.lent)
