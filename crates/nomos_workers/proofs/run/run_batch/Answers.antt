use Rattle.std.proofs.Common.{length}
use Rattle.nomos_machine.specs.declared.policy.Policy.TheVariants as policy
use Rattle.nomos_legal.specs.StandsFor.{WorldStandsFor}
use Rattle.nomos_legal.proofs.WorldCostLaws.{world-pays}
use Rattle.nomos_workers.proofs.OneLemmas.{ends-no_abort}
use Rattle.nomos_workers.proofs.ShopLemmas.{shop-runs}
use Rattle.nomos_workers.proofs.run.run_batch.Goals as goal

pub watch-requires-clause-watched : goal.watch-requires-clause-watched
watch-requires-clause-watched g c = c.of-watched.ensures.watched c.args.accepted.now

pub returns-in-Some-clause-ends : goal.returns-in-Some-clause-ends
returns-in-Some-clause-ends g c =
    let w = c.watch.new.self.world in
    let both =
    ends-no_abort policy.First c.args.accepted.now w.state (length w.firings) c.args.limit 0 w c.in-Some.end
    c.in-Some.ensures.end
    in
    rw (c.into_world.ensures, c.in-Some.ensures.world) both.0

pub returns-clause-runs : goal.returns-clause-runs
returns-clause-runs g c =
    let runs =
    shop-runs c.over-shop.result c.run_shop.result c.into_watched-watched.ensures.shop c.run_shop.ensures.opened
    in
    rw (c.into_world-2.ensures, c.end_of-end.ensures.world, c.into_watched-watched.ensures.world)
    (rw (c.over-shop.ensures, c.end.ensures.world, c.watch.ensures.world, c.of-watched.ensures.world) at runs)

pub returns-in-One-clause-pays : goal.returns-in-One-clause-pays
returns-in-One-clause-pays g c under =
    world-pays under c.know.ensures.accepted c.run_by.ensures.runs.runs.stands

pub returns-in-Some-clause-pays : goal.returns-in-Some-clause-pays
returns-in-Some-clause-pays g c under =
    let stands : WorldStandsFor c.args.accepted.now c.into_world.result =
    rw (c.into_world.ensures, c.end.ensures.world, c.watch.ensures.world, c.of-watched.ensures.world)
    c.requires.may.stands
    in
    world-pays under c.know.ensures.accepted stands

pub returns-clause-pays : goal.returns-clause-pays
returns-clause-pays g c under =
    world-pays under c.know.ensures.accepted (returns-clause-runs g c).stands
