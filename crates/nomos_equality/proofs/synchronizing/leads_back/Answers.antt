use Rattle.std.proofs.Common.{Bool, subst, sym, refl, ◌∙◌}
use Rattle.std.proofs.lemmas.Option.{slice_get_within}
use Rattle.nomos_equality.proofs.ComparedLaws.{stays-same, stays-through}
use Rattle.nomos_equality.proofs.PathLaws.{there-below}
use Rattle.nomos_equality.specs.mirror.Walk.{TellsBehind}
use Rattle.nomos_equality.proofs.WalkLemmas.{visit-node, reached-order}
use Rattle.nomos_equality.proofs.PassingLemmas.{passing-begins, passing-more, passing-ends, passing-offends}
use Rattle.nomos_equality.proofs.synchronizing.leads_back.Goals as goal

pub agrees_behind-requires-clause-at : goal.agrees_behind-requires-clause-at
agrees_behind-requires-clause-at c =
    let n = visit-node c.args.program.now c.args.start c.loop-at.walk.visits.entries c.loop-at.next c.in-Some.at
    c.in-Some.field-0-1 c.loop-at.invariant.passing.reached (sym c.visit.ensures.there ∙ c.in-Some.is) in
    there-below c.args.program.now c.in-Some.at n.0 n.1

pub path_to-requires-clause-there : goal.path_to-requires-clause-there
path_to-requires-clause-there c =
    slice_get_within c.loop-at.walk.visits.entries c.loop-at.next (c.in-Some.at, c.in-Some.field-0-1)
    (sym c.visit.ensures.there ∙ c.in-Some.is)

pub path_to-requires-clause-order : goal.path_to-requires-clause-order
path_to-requires-clause-order c =
    reached-order c.args.program.now c.args.start c.loop-at.walk.visits.entries c.loop-at.invariant.passing.reached

pub returns-then-not-branch-clause-answers : goal.returns-then-not-branch-clause-answers
returns-then-not-branch-clause-answers c =
    let differs = subst (λ (b : Bool). TellsBehind c.args.program.now (record { 0 = c.in-Some.at }) c.args.shared
    c.loop-at.equalities c.agrees_behind.new.equalities b) c.if-not-branch.true
    c.in_ok-agrees_behind.ensures.tells in
    passing-offends c.args.program.now c.args.start c.args.shared (record { 0 = c.in-Some.at })
    c.loop-at.walk.visits.entries c.loop-at.next c.in-Some.field-0-1 c.in_ok-path_to.field-0
    c.loop-at.invariant.passing.reached (sym c.visit.ensures.there ∙ c.in-Some.is) c.in_ok-path_to.ensures differs

pub step-requires-clause-in_range : goal.step-requires-clause-in_range
step-requires-clause-in_range c =
    let n = visit-node c.args.program.now c.args.start c.loop-at.walk.visits.entries c.loop-at.next c.in-Some.at
    c.in-Some.field-0-1 c.loop-at.invariant.passing.reached (sym c.visit.ensures.there ∙ c.in-Some.is) in
    there-below c.args.program.now c.in-Some.at n.0 n.1

pub loop-at-preserved : goal.loop-at-preserved
loop-at-preserved c =
    let agrees = subst (λ (b : Bool). TellsBehind c.args.program.now (record { 0 = c.in-Some.at }) c.args.shared
    c.loop-at.equalities c.agrees_behind.new.equalities b) c.if-not-branch.false
    c.in_ok-agrees_behind.ensures.tells in
    record {
      passing =
          passing-more c.args.program.now c.args.start c.args.shared (record { 0 = c.in-Some.at }) c.args.equalities.now
          c.loop-at.equalities c.agrees_behind.new.equalities c.loop-at.walk.visits.entries
          c.step.new.self.visits.entries c.loop-at.next c.in-Some.field-0-1
          c.loop-at.invariant.passing (sym c.visit.ensures.there ∙ c.in-Some.is) agrees c.in_ok-step.ensures.walks
          c.in_ok-step.ensures.follows;
      compared = c.agrees_behind.ensures.compared;
      kept =
          stays-through c.args.equalities.now c.loop-at.equalities c.agrees_behind.new.equalities
          c.loop-at.invariant.kept c.agrees_behind.ensures.kept;
    }

pub loop-at-init : goal.loop-at-init
loop-at-init c =
    record {
      passing =
          passing-begins c.args.program.now c.args.start c.args.shared c.args.equalities.now
          c.args.walk.now.visits.entries c.meet.new.self.visits.entries c.requires.unused c.in_ok-meet.ensures;
      compared = c.requires.compared;
      kept = stays-same c.args.equalities.now c.args.equalities.now refl;
    }

pub returns-clause-answers : goal.returns-clause-answers
returns-clause-answers c =
    passing-ends c.args.program.now c.args.start c.args.shared c.args.equalities.now c.loop-at.equalities
    c.loop-at.walk.visits.entries c.loop-at.next c.requires.walkable.program c.loop-at.invariant.passing
    (sym c.visit.ensures.there ∙ c.in_default.is)

pub returns-in_err-meet-clause-kept : goal.returns-in_err-meet-clause-kept
returns-in_err-meet-clause-kept c = stays-same c.args.equalities.now c.args.equalities.now refl

pub returns-in_err-agrees_behind-clause-kept : goal.returns-in_err-agrees_behind-clause-kept
returns-in_err-agrees_behind-clause-kept c =
    stays-through c.args.equalities.now c.loop-at.equalities c.agrees_behind.new.equalities c.loop-at.invariant.kept
    c.agrees_behind.ensures.kept

pub returns-in_err-path_to-clause-kept : goal.returns-in_err-path_to-clause-kept
returns-in_err-path_to-clause-kept c =
    stays-through c.args.equalities.now c.loop-at.equalities c.agrees_behind.new.equalities c.loop-at.invariant.kept
    c.agrees_behind.ensures.kept

pub returns-then-not-branch-clause-kept : goal.returns-then-not-branch-clause-kept
returns-then-not-branch-clause-kept c =
    stays-through c.args.equalities.now c.loop-at.equalities c.agrees_behind.new.equalities c.loop-at.invariant.kept
    c.agrees_behind.ensures.kept

pub returns-in_err-step-clause-kept : goal.returns-in_err-step-clause-kept
returns-in_err-step-clause-kept c =
    stays-through c.args.equalities.now c.loop-at.equalities c.agrees_behind.new.equalities c.loop-at.invariant.kept
    c.agrees_behind.ensures.kept
