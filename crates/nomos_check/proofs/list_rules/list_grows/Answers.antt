use Rattle.std.proofs.Common.{sym, subst, arith}
use Rattle.nomos_ir.specs.TermKind.{HasKind}
use Rattle.nomos_types.specs.Judgement.{ListType}
use Rattle.nomos_check.specs.mirror.StandingData.{shape_of}
use Rattle.nomos_check.proofs.ListSteps.{list-unbound, list-bound, list-is}
use Rattle.nomos_check.proofs.LeadLemmas.{not-true}
use Rattle.nomos_check.proofs.list_rules.list_grows.Goals as goal

pub returns-in-None : goal.returns-in-None
returns-in-None c = λ list says. list-unbound c.args.now.now c.args.adding.list list (sym c.in-None.ensures) says.there

pub returns-then-branch : goal.returns-then-branch
returns-then-branch c = (
  record {
    there = list-bound c.args.now.now c.args.adding.list c.in-Some.carried (sym c.in-Some.ensures);
    element = c.in_ok-is_of_kind.ensures.0 c.if-branch.true;
    enough = omega arith;
    free = c.is_free.ensures.0 c.if-not-is_free.false;
  },
  sym c.in-Some.ensures,
)

pub returns-else-branch : goal.returns-else-branch
returns-else-branch c =
    λ list says.
    let same = list-is c.args.now.now c.args.adding.list c.in-Some.carried list (sym c.in-Some.ensures) says.there in
    not-true c.if-branch.false (c.in_ok-is_of_kind.ensures.1
    (subst (λ (l : ListType). HasKind c.args.program.now (shape_of c.args.now.now).kinds c.args.adding.element l.kind)
    (sym same) says.element))
