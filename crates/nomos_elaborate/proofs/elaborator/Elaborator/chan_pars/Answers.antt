use Rattle.std.proofs.Common.{map, sym, ap, ◌∙◌, subst, arith}
use Rattle.std.proofs.lemmas.Result.{err_from_is_err_and}
use Rattle.nomos_elaborate.specs.mirror.Checked.{found}
use Rattle.nomos_elaborate.specs.mirror.FileCheck.{check_chan_par}
use Rattle.nomos_elaborate.specs.mirror.Each.{each}
use Rattle.nomos_surface.specs.FileView.{chan_par_tree}
use Rattle.nomos_elaborate.proofs.Loops.{items-left, each-more, each-stops, each-all, each-map}
use Rattle.nomos_elaborate.specs.mirror.Entries.{most_of}
use Rattle.nomos_surface.specs.TreeBounds.{KeepsChanPar}
use Rattle.nomos_surface.specs.Counts.{in_chan_par, in_each}
use Rattle.nomos_surface.specs.Grammatical.{Each}
use Rattle.nomos_elaborate.proofs.elaborator.Elaborator.chan_pars.Goals as goal

pub loop-par-init : goal.loop-par-init
unfolding each
loop-par-init c = record {
  gave = ap (λ items. found (c.args.self.now, items)) (sym c.new-channels.ensures.items);
  keeps = c.requires.keeps;
  room = omega arith;
}

pub returns-in_err-channel-clause-gives : goal.returns-in_err-channel-clause-gives
returns-in_err-channel-clause-gives c =
    let p = err_from_is_err_and c.from_residual.result c.from_residual.ensures.1 in
    rw (p.1, p.2) (each-stops (λ w p. check_chan_par w (chan_par_tree p)) c.args.self.now c.args.pars.now
    c.loop-par.par-index c.loop-par.self c.loop-par.channels.items c.par-item.result c.loop-par-test.true
    c.par-item.is c.loop-par.invariant.gave c.in_err-channel.field-0.0 _
    (each-map check_chan_par chan_par_tree c.args.self.now c.args.pars.now) c.in_err-channel.ensures.gives)

pub loop-par-preserved : goal.loop-par-preserved
loop-par-preserved c =
    let left = items-left c.args.pars.now c.loop-par.par-index c.par-item.result c.loop-par-test.true c.par-item.is in
    let rest = ap (λ xs. most_of (in_each in_chan_par (map chan_par_tree xs))) left in
    record {
      gave =
          each-more (λ w p. check_chan_par w (chan_par_tree p)) c.args.self.now c.args.pars.now c.loop-par.par-index
          c.loop-par.self c.loop-par.channels.items c.par-item.result c.loop-par-test.true c.par-item.is
          c.loop-par.invariant.gave c.chan_par.new.self c.in_ok-channel.channel c.in_ok-channel.ensures.gives
          ∙ ap (λ items. found (c.chan_par.new.self, items)) (sym c.in_ok-push.ensures.items);
      keeps = (subst (λ xs. Each KeepsChanPar (map chan_par_tree xs)) left c.loop-par.invariant.keeps).1;
      room = omega (arith, c.in_ok-channel.ensures.grows);
    }

pub returns-clause-gives : goal.returns-clause-gives
returns-clause-gives c =
    each-map check_chan_par chan_par_tree c.args.self.now c.args.pars.now
    ∙ each-all (λ w p. check_chan_par w (chan_par_tree p)) c.args.self.now c.args.pars.now c.loop-par.par-index _
    c.loop-par-test.false c.loop-par.invariant.gave

pub chan_par-requires : goal.chan_par-requires
chan_par-requires c =
    let left = items-left c.args.pars.now c.loop-par.par-index c.par-item.result c.loop-par-test.true c.par-item.is in
    let rest = ap (λ xs. most_of (in_each in_chan_par (map chan_par_tree xs))) left in
    record {
      keeps = (subst (λ xs. Each KeepsChanPar (map chan_par_tree xs)) left c.loop-par.invariant.keeps).0;
      room = omega arith;
    }
