use Rattle.std.proofs.Common.{List, Global, MatchOption, Option, Vec, refl, sym, subst}
use Rattle.nomos_ir.specs.declared.type_node.Branch.{Branch}
use Rattle.nomos_ir.specs.declared.type_node.TypeNode.TheVariants as node
use Rattle.nomos_types.specs.Premises.{HasType, by_side}
use Rattle.nomos_check.specs.declared.standing.WayOn.{WayOn}
use Rattle.nomos_check.specs.mirror.Cases.{AreWays, HasOddArm}
use Rattle.nomos_check.specs.mirror.StandingData.{shape_of}
use Rattle.nomos_check.proofs.CaseSteps.{arm-stuck, branch-stuck, case-leads}
use Rattle.nomos_check.proofs.LeadLemmas.{not-true}
use Rattle.nomos_check.proofs.StepRows.{case-stuck}
use Rattle.nomos_check.proofs.cases.at_case.Goals as goal

pub returns-in-None : goal.returns-in-None
returns-in-None c = case-stuck c.requires.stands.1 (λ after says. c.in-None.ensures says.branches says.channel)

pub returns-then-not-branch : goal.returns-then-not-branch
returns-then-not-branch c =
    let lists = c.args.program.now in
    let s = c.args.now.now in
    let bs = c.as_slice-branches.result.now in
    let IsChoice : List Branch → Type 0 =
    λ cs. HasType lists (shape_of s) c.args.c (by_side c.args.c (node.With cs) (node.Plus cs))
    in
    let typed = subst IsChoice (sym c.as_slice-branches.ensures) c.in-Some.ensures in
    branch-stuck lists s c.requires.stands.0 c.args.c c.args.arms.now c.requires.stands.1 bs typed
    (λ all. not-true c.if-not-branch.true (c.in_ok-all_have_arms.ensures.1 all))

pub returns-in-Some-2 : goal.returns-in-Some-2
returns-in-Some-2 c =
    let lists = c.args.program.now in
    let s = c.args.now.now in
    let bs = c.as_slice-branches.result.now in
    let IsChoice : List Branch → Type 0 =
    λ cs. HasType lists (shape_of s) c.args.c (by_side c.args.c (node.With cs) (node.Plus cs))
    in
    let typed = subst IsChoice (sym c.as_slice-branches.ensures) c.in-Some.ensures in
    let covered = c.in_ok-all_have_arms.ensures.0 c.if-not-branch.false in
    let Found : Option (Vec WayOn Global) → Type 0 =
    λ o. MatchOption o (HasOddArm bs c.args.arms.now) (λ ways. AreWays c.args.c bs c.args.arms.now ways.items)
    in
    let ways = subst Found c.in-Some-2.is c.in_ok-ways.ensures in (
      case-leads lists s c.requires.stands.0 c.args.c c.args.arms.now c.requires.stands.1 bs typed
          c.in-Some-2.ways.items covered ways,
      refl,
    )

pub returns-in-None-2 : goal.returns-in-None-2
returns-in-None-2 c =
    let lists = c.args.program.now in
    let s = c.args.now.now in
    let bs = c.as_slice-branches.result.now in
    let IsChoice : List Branch → Type 0 =
    λ cs. HasType lists (shape_of s) c.args.c (by_side c.args.c (node.With cs) (node.Plus cs))
    in
    let typed = subst IsChoice (sym c.as_slice-branches.ensures) c.in-Some.ensures in
    let Found : Option (Vec WayOn Global) → Type 0 =
    λ o. MatchOption o (HasOddArm bs c.args.arms.now) (λ ways. AreWays c.args.c bs c.args.arms.now ways.items)
    in
    let odd = subst Found c.in-None-2.is c.in_ok-ways.ensures in
    arm-stuck lists s c.requires.stands.0 c.args.c c.args.arms.now c.requires.stands.1 bs typed odd
