use Rattle.std.proofs.Common.{◌≡◌, ◌∙◌, ◌<◌, ◌≤◌, length, subst, sym, arith, ⊎_elim}
use Rattle.std.proofs.lemmas.Bool.{cases_lt}
use Rattle.nomos_deeds.specs.Acting.{HasNumbers}
use Rattle.nomos_legal.specs.World.{WorldState}
use Rattle.nomos_workers.specs.Shops.{IsShop, shop_of}
use Rattle.nomos_workers.proofs.ShopLemmas.{shop-numbers}
use Rattle.nomos_workers.proofs.look.look.Goals as goal

pub fire-requires-clause-numbers : goal.fire-requires-clause-numbers
fire-requires-clause-numbers g c =
    let a = c.args.accepted.now in
    let w : WorldState = c.any_ready-ready.new.self.world in
    let same : w ≡ c.args.watched.now.world = c.any_ready-ready.ensures.world ∙ c.watch.ensures.world in
    let shop : IsShop (shop_of a w c.args.limit) =
    subst (λ (v : WorldState). IsShop (shop_of a v c.args.limit)) (sym same) c.requires.shop
    in
    let room : length w.firings < c.args.limit =
    ⊎_elim
    (λ (below : length w.firings < c.args.limit). below)
    (λ (full : c.args.limit ≤ length w.firings). absurd (c.in_default.ensures.1 (omega (arith, full, shop.within))))
    (cases_lt (length w.firings) c.args.limit)
    in
    subst (λ (v : WorldState). HasNumbers v.state) (sym c.chosen_one.ensures.world)
    (shop-numbers (shop_of a w c.args.limit) shop c.know.ensures.accepted room)
