use Rattle.std.proofs.Common.{[], subst, sym, arith}
use Rattle.std.proofs.lemmas.List.{get_or_default, take_all}
use Rattle.std.proofs.Common.{List}
use Rattle.nomos_ir.specs.declared.code_node.Arm.{Arm}
use Rattle.nomos_check.specs.declared.standing.WayOn.{WayOn}
use Rattle.nomos_check.specs.mirror.Cases.{AreWays, none}
use Rattle.nomos_check.proofs.CaseSteps.{ways-step}
use Rattle.nomos_check.proofs.cases.ways_of.Goals as goal

pub loop-a-init : goal.loop-a-init
loop-a-init c =
    subst (λ (ws : List WayOn). AreWays c.args.c c.args.branches.now [] ws) (sym c.new-ways.ensures.items) none

pub loop-a-preserved : goal.loop-a-preserved
loop-a-preserved c =
    ways-step c.args.c c.args.branches.now c.args.arms.now c.loop-a.ways.items c.push.new.self.items c.loop-a.a-index _
    c.in-Some.goes c.loop-a-test.true c.loop-a.invariant (sym c.in-Some.ensures) c.in_ok-push.ensures.items

pub returns-in-None : goal.returns-in-None
returns-in-None c = (
  _,
  (c.loop-a.a-index, c.loop-a-test.true, get_or_default c.args.arms.now c.loop-a.a-index _ _ c.loop-a-test.true),
  sym c.in-None.ensures,
)

pub returns : goal.returns
returns c =
    let arms = c.args.arms.now in
    let all = take_all c.loop-a.a-index arms (omega arith) in
    subst (λ (xs : List Arm). AreWays c.args.c c.args.branches.now xs c.loop-a.ways.items) all c.loop-a.invariant
