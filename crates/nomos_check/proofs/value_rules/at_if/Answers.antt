use Rattle.std.proofs.Common.{[], ◌∷◌, refl, arith}
use Rattle.nomos_ir.specs.declared.code_node.CodeNode.TheVariants as code
use Rattle.nomos_types.specs.TypingRule as row
use Rattle.nomos_check.specs.declared.standing.WayOn.TheVariants as way
use Rattle.nomos_check.specs.mirror.StandingData.{shape_of}
use Rattle.nomos_check.proofs.FoundLemmas.{code-in_range}
use Rattle.nomos_check.proofs.LeadLemmas.{both-ways, leads-along, not-true}
use Rattle.nomos_check.proofs.StepRows.{choose-stuck}
use Rattle.nomos_check.proofs.value_rules.at_if.Goals as goal

pub is_of_kind-requires : goal.is_of_kind-requires
is_of_kind-requires c =
    let it = c.args.choosing in
    let node = code.If c.requires.stands.0 it.test it.then_next it.else_next in
    (code-in_range c.args.program.now (shape_of c.args.now.now) node c.know.ensures.program
    c.requires.stands.1).terms 0 0 (omega arith)

pub returns-then-not-branch : goal.returns-then-not-branch
returns-then-not-branch c =
    choose-stuck c.requires.stands.1 (λ has. not-true c.if-not-branch.true (c.in_ok-is_of_kind.ensures.1 has))

pub returns : goal.returns
returns c =
    let it = c.args.choosing in
    let s = c.args.now.now in
    let node = code.If c.requires.stands.0 it.test it.then_next it.else_next in
    let first = way.Truth it.then_next in
    let second = way.Truth it.else_next in (
      leads-along s node _ (first ∷ second ∷ []) c.in_ok-ways.ensures.items c.requires.stands.1
          (row.choose c.requires.stands.1 (c.in_ok-is_of_kind.ensures.0 c.if-not-branch.false)) (λ a has. refl)
          (both-ways s first second tt tt),
      refl,
    )
