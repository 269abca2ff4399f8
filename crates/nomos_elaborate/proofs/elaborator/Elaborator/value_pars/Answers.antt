use Rattle.std.proofs.Common.{refl, sym, ap, ◌∙◌, subst, arith}
use Rattle.std.proofs.lemmas.Result.{err_from_is_err_and}
use Rattle.nomos_elaborate.specs.mirror.Checked.{found}
use Rattle.nomos_elaborate.specs.mirror.FileCheck.{check_value_par}
use Rattle.nomos_elaborate.specs.mirror.Each.{each}
use Rattle.nomos_elaborate.proofs.Loops.{items-left, each-more, each-stops, each-all}
use Rattle.nomos_elaborate.specs.mirror.Entries.{most_of}
use Rattle.nomos_surface.specs.TreeBounds.{KeepsValuePar}
use Rattle.nomos_surface.specs.Counts.{in_each, in_value_par}
use Rattle.nomos_surface.specs.Grammatical.{Each}
use Rattle.nomos_elaborate.proofs.elaborator.Elaborator.value_pars.Goals as goal

pub loop-par-init : goal.loop-par-init
unfolding each
loop-par-init c = record {
  gave = ap (λ items. found (c.args.self.now, items)) (sym c.new-kinds.ensures.items);
  keeps = c.requires.keeps;
  room = omega arith;
}

pub returns-in_err-kind-clause-gives : goal.returns-in_err-kind-clause-gives
returns-in_err-kind-clause-gives c =
    let p = err_from_is_err_and c.from_residual.result c.from_residual.ensures.1 in
    rw (p.1, p.2) (each-stops check_value_par c.args.self.now c.args.pars.now c.loop-par.par-index c.loop-par.self
    c.loop-par.kinds.items c.par-item.result c.loop-par-test.true c.par-item.is c.loop-par.invariant.gave
    c.in_err-kind.field-0.0 _ refl c.in_err-kind.ensures.gives)

pub loop-par-preserved : goal.loop-par-preserved
loop-par-preserved c =
    let left = items-left c.args.pars.now c.loop-par.par-index c.par-item.result c.loop-par-test.true c.par-item.is in
    let rest = ap (λ xs. most_of (in_each in_value_par xs)) left in
    record {
      gave =
          each-more check_value_par c.args.self.now c.args.pars.now c.loop-par.par-index c.loop-par.self
          c.loop-par.kinds.items c.par-item.result c.loop-par-test.true c.par-item.is c.loop-par.invariant.gave
          c.value_par.new.self c.in_ok-kind.kind c.in_ok-kind.ensures.gives
          ∙ ap (λ items. found (c.value_par.new.self, items)) (sym c.in_ok-push.ensures.items);
      keeps = (subst (λ xs. Each KeepsValuePar xs) left c.loop-par.invariant.keeps).1;
      room = omega (arith, c.in_ok-kind.ensures.grows);
    }

pub returns-clause-gives : goal.returns-clause-gives
returns-clause-gives c =
    each-all check_value_par c.args.self.now c.args.pars.now c.loop-par.par-index _ c.loop-par-test.false
    c.loop-par.invariant.gave

pub value_par-requires : goal.value_par-requires
value_par-requires c =
    let left = items-left c.args.pars.now c.loop-par.par-index c.par-item.result c.loop-par-test.true c.par-item.is in
    let rest = ap (λ xs. most_of (in_each in_value_par xs)) left in
    record { keeps = (subst (λ xs. Each KeepsValuePar xs) left c.loop-par.invariant.keeps).0; room = omega arith }
