use Rattle.std.proofs.Common.{length, subst}
use Rattle.nomos_types.specs.Acceptance.{Acceptance}
use Rattle.nomos_legal.specs.Ending.{IsAllowed}
use Rattle.nomos_workers.specs.Shops.{IsShop, shop_of}
use Rattle.nomos_workers.specs.declared.batch.BatchEnd.TheVariants as batch_end
use Rattle.nomos_workers.proofs.WorkLemmas.{run-from}
use Rattle.nomos_workers.proofs.shop.ShopTrade.step.Goals as goal

pub returns-in_err-pid-clause-free : goal.returns-in_err-pid-clause-free
returns-in_err-pid-clause-free g c = λ opened same.
    let w = c.look.new.watched.world in
    let shop : IsShop (shop_of (g.A.Lent.program c.self.inside.lent) w c.self.inside.limit) =
    subst (λ (a : Acceptance). IsShop (shop_of a w c.self.inside.limit)) c.accepted.ensures c.look.ensures.shop
    in
    run-from (shop_of (g.A.Lent.program c.self.inside.lent) w c.self.inside.limit) shop batch_end.NoMemory tt opened
    same

pub returns-in-Goes-clause-history : goal.returns-in-Goes-clause-history
returns-in-Goes-clause-history g c = rw (← c.self.view_is) c.look.ensures.history

pub returns-in-Goes-clause-free : goal.returns-in-Goes-clause-free
returns-in-Goes-clause-free g c = λ opened same.
    let w = c.look.new.watched.world in
    let shop : IsShop (shop_of (g.A.Lent.program c.self.inside.lent) w c.self.inside.limit) =
    subst (λ (a : Acceptance). IsShop (shop_of a w c.self.inside.limit)) c.accepted.ensures c.look.ensures.shop
    in
    run-from (shop_of (g.A.Lent.program c.self.inside.lent) w c.self.inside.limit) shop batch_end.NoMemory tt opened
    same

pub returns-in-Rests-clause-free : goal.returns-in-Rests-clause-free
returns-in-Rests-clause-free g c = λ opened same.
    let w = c.look.new.watched.world in
    let shop : IsShop (shop_of (g.A.Lent.program c.self.inside.lent) w c.self.inside.limit) =
    subst (λ (a : Acceptance). IsShop (shop_of a w c.self.inside.limit)) c.accepted.ensures c.look.ensures.shop
    in
    run-from (shop_of (g.A.Lent.program c.self.inside.lent) w c.self.inside.limit) shop batch_end.NoMemory tt opened
    same

pub returns-in-Ends-clause-history : goal.returns-in-Ends-clause-history
returns-in-Ends-clause-history g c = rw (← c.self.view_is) c.look.ensures.history

pub returns-in-Ends-clause-turns : goal.returns-in-Ends-clause-turns
returns-in-Ends-clause-turns g c = λ opened same.
    let v = c.look.new.watched.world in
    let limit = c.self.inside.limit in
    let shop : IsShop (shop_of (g.A.Lent.program c.self.inside.lent) v limit) =
    subst (λ (a : Acceptance). IsShop (shop_of a v limit)) c.accepted.ensures c.look.ensures.shop
    in
    let there : IsAllowed c.accepted.result.now v.state (length v.firings) limit c.in-Ends.end =
    rw c.in-Ends.is at c.in_ok-pid.ensures.turns
    in
    let allowed : IsAllowed (g.A.Lent.program c.self.inside.lent) v.state (length v.firings) limit c.in-Ends.end =
    subst (λ (a : Acceptance). IsAllowed a v.state (length v.firings) limit c.in-Ends.end) c.accepted.ensures there
    in
    run-from (shop_of (g.A.Lent.program c.self.inside.lent) v limit) shop (batch_end.Done c.in-Ends.end) allowed opened
    same

pub returns-in-Ends-clause-free : goal.returns-in-Ends-clause-free
returns-in-Ends-clause-free g c = λ opened same.
    let w = c.look.new.watched.world in
    let shop : IsShop (shop_of (g.A.Lent.program c.self.inside.lent) w c.self.inside.limit) =
    subst (λ (a : Acceptance). IsShop (shop_of a w c.self.inside.limit)) c.accepted.ensures c.look.ensures.shop
    in
    run-from (shop_of (g.A.Lent.program c.self.inside.lent) w c.self.inside.limit) shop batch_end.NoMemory tt opened
    same

pub returns-in-Wants-clause-history : goal.returns-in-Wants-clause-history
returns-in-Wants-clause-history g c = rw (← c.self.view_is) c.look.ensures.history

pub returns-in-Wants-clause-free : goal.returns-in-Wants-clause-free
returns-in-Wants-clause-free g c = λ opened same.
    let w = c.look.new.watched.world in
    let shop : IsShop (shop_of (g.A.Lent.program c.self.inside.lent) w c.self.inside.limit) =
    subst (λ (a : Acceptance). IsShop (shop_of a w c.self.inside.limit)) c.accepted.ensures c.look.ensures.shop
    in
    run-from (shop_of (g.A.Lent.program c.self.inside.lent) w c.self.inside.limit) shop batch_end.NoMemory tt opened
    same
