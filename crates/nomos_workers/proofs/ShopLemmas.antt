-- Shops: as they are opened and left, and their next numbers.
use Rattle.std.proofs.Common.{◌≡◌, ℕ, ◌<◌, ◌≤◌, length, ap, subst, arith}
use Rattle.nomos_types.specs.Acceptance.{Acceptance, IsAccepted}
use Rattle.nomos_machine.specs.State.{State}
use Rattle.nomos_deeds.specs.Acting.{HasNumbers}
use Rattle.nomos_legal.specs.StandsFor.{WorldStandsFor}
use Rattle.nomos_legal.specs.World.{WorldState, ledger_begun}
use Rattle.nomos_legal.proofs.WorldLaws.{world-rises}
use Rattle.nomos_ledger.proofs.StartLaws.{fresh-start}
use Rattle.nomos_ledger.specs.Running.{MayRun, RunsOn}
use Rattle.nomos_workers.specs.Shops.{IsShop, ShopState, opening}

-- a batch that may be run makes a shop
pub may-shop : (a : Acceptance) (limit : ℕ) (w : WorldState) → MayRun a limit w
    → IsShop (record { accepted = a; world = w; limit = limit })
may-shop a limit w may =
    let same = fresh-start a w may.stands may.fresh in
    let objects : (ledger_begun a w).state.next_object ≡ w.state.next_object = ap (λ (s : State). s.next_object) same in
    let names : (ledger_begun a w).state.next_name ≡ w.state.next_name = ap (λ (s : State). s.next_name) same in
    record {
      stands = may.stands;
      within = omega (arith, ap length may.fresh);
      objects = omega (arith, objects, may.objects);
      names = omega (arith, names, may.names);
    }

-- before the limit the next numbers are far from the greatest
pub shop-numbers : (s : ShopState) → IsShop s → IsAccepted s.accepted → length s.world.firings < s.limit
    → HasNumbers s.world.state
shop-numbers s shop accepted room =
    let rises = world-rises accepted shop.stands in
    record {
      object = omega (arith, rises.objects, shop.objects);
      name = omega (arith, rises.names, shop.names);
    }

-- what workers leave of a shop has run on from where it was opened
pub shop-runs : (before after : ShopState) → IsShop after → opening after ≡ opening before
    → RunsOn before.accepted before.limit before.world after.world
shop-runs before after shop opened =
    let accepted : after.accepted ≡ before.accepted = ap (λ (s : ShopState). s.accepted) opened in
    let limit : after.limit ≡ before.limit = ap (λ (s : ShopState). s.limit) opened in
    record {
      stands = subst (λ (a : Acceptance). WorldStandsFor a after.world) accepted shop.stands;
      origin = ap (λ (s : ShopState). s.world.origin) opened;
      starts = ap (λ (s : ShopState). s.world.starts) opened;
      within = subst (λ (n : ℕ). length after.world.firings ≤ n) limit shop.within;
    }
