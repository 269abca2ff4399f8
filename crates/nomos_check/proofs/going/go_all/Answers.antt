use Rattle.std.proofs.Common.{◌<◌, ◌∷◌, [], List, sym, subst}
use Rattle.nomos_ir.specs.Amounts.{star_count}
use Rattle.nomos_check.specs.declared.standing.Forks.{Forks}
use Rattle.nomos_check.specs.mirror.Walking.{IsWalk, WalksOn, width, work}
use Rattle.nomos_check.proofs.WalkingLemmas.{walk-beside, walks-beside, walk-on, walks-through, popped-walks}
use Rattle.nomos_check.proofs.going.go_all.Goals as goal

pub take_way-requires-clause-walk : goal.take_way-requires-clause-walk
take_way-requires-clause-walk c =
    let lists = c.args.program.now in
    let w = c.loop-forks.walk in
    let todo = c.in-Some.forks ∷ c.pop.new.self in
    let popped : IsWalk lists (star_count lists) todo w =
    subst (λ (l : List Forks). IsWalk lists (star_count lists) l w) c.in-Some.ensures c.loop-forks.invariant.walk
    in
    walk-beside lists (star_count lists) todo w c.pop.new.self popped

pub loop-forks-preserved : goal.loop-forks-preserved
loop-forks-preserved c =
    let lists = c.args.program.now in
    let n = star_count lists in
    let w = c.loop-forks.walk in
    let todo = c.in-Some.forks ∷ c.pop.new.self in
    let step = popped-walks lists n w.todo w c.in-Some.forks c.pop.new.self c.take_way.new.walk c.in-Some.ensures
    c.in_ok-take_way.ensures.walks in
    record {
      ready = c.in_ok-take_way.ensures.ready;
      kept = λ known front. c.take_way.ensures.kept known (c.loop-forks.invariant.kept known front);
      walk = walk-on lists n w.todo w c.take_way.new.walk.todo c.take_way.new.walk step c.loop-forks.invariant.walk;
      walks = walks-through lists n step c.loop-forks.invariant.walks;
    }

pub loop-forks-smaller : goal.loop-forks-smaller
loop-forks-smaller c =
    let b = width c.args.program.now in
    let new = c.take_way.new.walk.todo in
    subst (λ (l : List Forks). work b new < work b l) (sym c.in-Some.ensures) c.in_ok-take_way.ensures.light

pub returns-clause-walks : goal.returns-clause-walks
returns-clause-walks c =
    let lists = c.args.program.now in
    let n = star_count lists in
    let w = c.loop-forks.walk in
    let none : WalksOn lists n c.args.walk.now.todo c.args.walk.now [] w =
    subst (λ (l : List Forks). WalksOn lists n c.args.walk.now.todo c.args.walk.now l w) c.in_default.ensures.0
    c.loop-forks.invariant.walks
    in
    walks-through lists n (walks-beside lists n [] w c.pop.new.self) none

pub returns-in_err-take_way-clause-kept : goal.returns-in_err-take_way-clause-kept
returns-in_err-take_way-clause-kept c = λ known front.
    c.take_way.ensures.kept known (c.loop-forks.invariant.kept known front)
