use Rattle.std.proofs.Common.{refl, sym, ap, ◌∙◌, subst, arith}
use Rattle.std.proofs.lemmas.Result.{err_from_is_err_and}
use Rattle.nomos_elaborate.specs.mirror.Checked.{found}
use Rattle.nomos_elaborate.specs.mirror.FileCheck.{check_process_par}
use Rattle.nomos_elaborate.specs.mirror.Each.{each}
use Rattle.nomos_elaborate.proofs.Loops.{items-left, each-more, each-stops, each-all}
use Rattle.nomos_elaborate.specs.mirror.Entries.{most_of}
use Rattle.nomos_surface.specs.TreeBounds.{KeepsPar}
use Rattle.nomos_surface.specs.Counts.{in_each, in_par}
use Rattle.nomos_surface.specs.Grammatical.{Each}
use Rattle.nomos_elaborate.proofs.elaborator.Elaborator.process_pars.Goals as goal

pub loop-par-init : goal.loop-par-init
unfolding each
loop-par-init c = record {
  gave = ap (λ items. found (c.args.self.now, items)) (sym c.new-values.ensures.items);
  keeps = c.requires.keeps;
  room = omega arith;
}

pub returns-in_err-value-clause-gives : goal.returns-in_err-value-clause-gives
returns-in_err-value-clause-gives c =
    let p = err_from_is_err_and c.from_residual.result c.from_residual.ensures.1 in
    rw (p.1, p.2) (each-stops check_process_par c.args.self.now c.args.pars.now c.loop-par.par-index c.loop-par.self
    c.loop-par.values.items c.par-item.result c.loop-par-test.true c.par-item.is c.loop-par.invariant.gave
    c.in_err-value.field-0.0 _ refl c.in_err-value.ensures.gives)

pub loop-par-preserved : goal.loop-par-preserved
loop-par-preserved c =
    let left = items-left c.args.pars.now c.loop-par.par-index c.par-item.result c.loop-par-test.true c.par-item.is in
    let rest = ap (λ xs. most_of (in_each in_par xs)) left in
    record {
      gave =
          each-more check_process_par c.args.self.now c.args.pars.now c.loop-par.par-index c.loop-par.self
          c.loop-par.values.items c.par-item.result c.loop-par-test.true c.par-item.is c.loop-par.invariant.gave
          c.process_par.new.self c.in_ok-value.value c.in_ok-value.ensures.gives
          ∙ ap (λ items. found (c.process_par.new.self, items)) (sym c.in_ok-push.ensures.items);
      keeps = (subst (λ xs. Each KeepsPar xs) left c.loop-par.invariant.keeps).1;
      room = omega (arith, c.in_ok-value.ensures.grows);
    }

pub returns-clause-gives : goal.returns-clause-gives
returns-clause-gives c =
    each-all check_process_par c.args.self.now c.args.pars.now c.loop-par.par-index _ c.loop-par-test.false
    c.loop-par.invariant.gave

pub process_par-requires : goal.process_par-requires
process_par-requires c =
    let left = items-left c.args.pars.now c.loop-par.par-index c.par-item.result c.loop-par-test.true c.par-item.is in
    let rest = ap (λ xs. most_of (in_each in_par xs)) left in
    record { keeps = (subst (λ xs. Each KeepsPar xs) left c.loop-par.invariant.keeps).0; room = omega arith }
