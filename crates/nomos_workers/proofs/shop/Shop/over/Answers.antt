use Rattle.nomos_workers.proofs.ShopLemmas.{may-shop}
use Rattle.nomos_workers.proofs.shop.Shop.over.Goals as goal

pub invariant_of-result : goal.invariant_of-result
invariant_of-result g c = record {
  shop = may-shop (g.A.Lent.program c.args.lent) c.args.limit c.args.watched.world c.requires.may;
  watched = c.requires.watched;
}
