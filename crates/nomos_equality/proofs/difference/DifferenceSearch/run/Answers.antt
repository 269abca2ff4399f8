use Rattle.std.proofs.Common.{true, false, arith}
use Rattle.std.proofs.lemmas.Option.{slice_get_within}
use Rattle.nomos_equality.specs.mirror.Search.{Classed}
use Rattle.nomos_equality.proofs.SearchLemmas.{goes-classed, goes-get, walk-begins, walk-goes, walk-order, visit-nodes, visit-differs, meets-front, compared-more, met-equal, step-says}
use Rattle.nomos_equality.proofs.VisitLemmas.{met-wider}
use Rattle.nomos_equality.proofs.difference.DifferenceSearch.run.Goals as goal

pub loop-next-init : goal.loop-next-init
loop-next-init c =
    record {
      inside = omega arith;
      walk =
          walk-begins c.args.program.now c.args.left c.args.right c.args.self.now c.meet.new.self c.requires.visits
          c.requires.classes
          c.in_ok-meet.ensures;
      met =
          (meets-front c.args.program.now c.args.self.now c.meet.new.self c.args.left c.args.right _
          c.in_ok-meet.ensures).1;
      compared = λ i v below found. absurd (omega (arith, below));
    }

pub step-requires-clause-nodes : goal.step-requires-clause-nodes
step-requires-clause-nodes c =
    visit-nodes c.args.program.now c.args.left c.args.right c.loop-next.self c.loop-next.next
    c.visit-visit.result c.loop-next.invariant.walk c.visit-visit.ensures

pub path_to-requires-clause-there : goal.path_to-requires-clause-there
path_to-requires-clause-there c =
    slice_get_within c.step.new.self.visits.items c.loop-next.next c.visit-visit.result
    (goes-get c.args.program.now c.loop-next.self c.step.new.self c.loop-next.next c.visit-visit.result
    c.in_ok-step.ensures.goes c.visit-visit.ensures)

pub path_to-requires-clause-order : goal.path_to-requires-clause-order
path_to-requires-clause-order c =
    walk-order c.args.program.now c.args.left c.args.right c.step.new.self
    (walk-goes c.args.program.now c.args.left c.args.right c.loop-next.self c.step.new.self
    c.loop-next.invariant.walk c.in_ok-step.ensures.goes)

pub returns-then-not-branch : goal.returns-then-not-branch
returns-then-not-branch c =
    let differ = step-says c.args.program.now c.visit-visit.result c.step.new.self c.in_ok-step.field-0 false
    c.if-not-branch.true c.in_ok-step.ensures.compared in
    visit-differs c.args.program.now c.args.left c.args.right c.step.new.self c.loop-next.next
    c.visit-visit.result c.in_ok-path_to.field-0
    (walk-goes c.args.program.now c.args.left c.args.right c.loop-next.self c.step.new.self
    c.loop-next.invariant.walk c.in_ok-step.ensures.goes)
    c.in_ok-path_to.ensures
    (goes-get c.args.program.now c.loop-next.self c.step.new.self c.loop-next.next c.visit-visit.result
    c.in_ok-step.ensures.goes c.visit-visit.ensures)
    differ

pub loop-next-preserved : goal.loop-next-preserved
loop-next-preserved c =
    let goes = c.in_ok-step.ensures.goes in
    let there = goes-get c.args.program.now c.loop-next.self c.step.new.self c.loop-next.next c.visit-visit.result
    c.in_ok-step.ensures.goes c.visit-visit.ensures in
    let inside = slice_get_within c.step.new.self.visits.items c.loop-next.next c.visit-visit.result there in
    let before = slice_get_within c.loop-next.self.visits.items c.loop-next.next c.visit-visit.result
    c.visit-visit.ensures in
    record {
      inside = omega (arith, inside);
      walk =
          walk-goes c.args.program.now c.args.left c.args.right c.loop-next.self c.step.new.self
          c.loop-next.invariant.walk goes;
      met =
          met-wider c.args.program.now (Classed c.loop-next.self) (Classed c.step.new.self) c.args.left c.args.right
          (goes-classed c.args.program.now c.loop-next.self c.step.new.self goes) c.loop-next.invariant.met;
      compared =
          compared-more c.args.program.now c.loop-next.self c.step.new.self c.loop-next.next c.visit-visit.result goes
          before c.visit-visit.ensures c.loop-next.invariant.compared
          (step-says c.args.program.now c.visit-visit.result c.step.new.self c.in_ok-step.field-0 true
          c.if-not-branch.false c.in_ok-step.ensures.compared);
    }

pub returns : goal.returns
returns c =
    met-equal c.args.program.now c.args.left c.args.right c.loop-next.self c.requires.formed c.loop-next.invariant.walk
    (λ i v found.
    let inside = slice_get_within c.loop-next.self.visits.items i v found in
    c.loop-next.invariant.compared i v (omega (arith, inside, c.loop-next-test.false, c.len.ensures)) found)
    c.args.left c.args.right c.loop-next.invariant.met
