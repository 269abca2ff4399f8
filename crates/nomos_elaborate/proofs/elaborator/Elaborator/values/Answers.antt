use Rattle.std.proofs.Common.{map, sym, ap, ◌∙◌, subst, arith}
use Rattle.std.proofs.lemmas.Result.{err_from_is_err_and}
use Rattle.nomos_elaborate.specs.mirror.Checked.{found}
use Rattle.nomos_elaborate.specs.mirror.CodeCheck.{check_argument}
use Rattle.nomos_elaborate.specs.mirror.Each.{each}
use Rattle.nomos_surface.specs.TermView.{term_tree}
use Rattle.nomos_elaborate.proofs.Loops.{items-left, each-more, each-stops, each-all, each-map}
use Rattle.nomos_elaborate.specs.mirror.Entries.{most_of}
use Rattle.nomos_surface.specs.TreeBounds.{KeepsTerm}
use Rattle.nomos_surface.specs.Counts.{in_each, in_term}
use Rattle.nomos_surface.specs.Grammatical.{Each}
use Rattle.nomos_elaborate.proofs.elaborator.Elaborator.values.Goals as goal

pub loop-term-init : goal.loop-term-init
unfolding each
loop-term-init c = record {
  gave = ap (λ items. found (c.args.self.now, items)) (sym c.new-values.ensures.items);
  keeps = c.requires.keeps;
  room = omega arith;
}

pub returns-in_err-value-clause-gives : goal.returns-in_err-value-clause-gives
returns-in_err-value-clause-gives c =
    let p = err_from_is_err_and c.from_residual.result c.from_residual.ensures.1 in
    rw (p.1, p.2) (each-stops (λ w x. check_argument w (term_tree x)) c.args.self.now c.args.terms.now
    c.loop-term.term-index c.loop-term.self c.loop-term.values.items c.term-item.result c.loop-term-test.true
    c.term-item.is c.loop-term.invariant.gave c.in_err-value.field-0.0 _
    (each-map check_argument term_tree c.args.self.now c.args.terms.now) c.in_err-value.ensures.gives)

pub loop-term-preserved : goal.loop-term-preserved
loop-term-preserved c =
    let left = items-left c.args.terms.now c.loop-term.term-index c.term-item.result c.loop-term-test.true
    c.term-item.is in
    let rest = ap (λ xs. most_of (in_each in_term (map term_tree xs))) left in
    record {
      gave =
          each-more (λ w x. check_argument w (term_tree x)) c.args.self.now c.args.terms.now c.loop-term.term-index
          c.loop-term.self c.loop-term.values.items c.term-item.result c.loop-term-test.true c.term-item.is
          c.loop-term.invariant.gave c.argument.new.self c.in_ok-value.value c.in_ok-value.ensures.gives
          ∙ ap (λ items. found (c.argument.new.self, items)) (sym c.in_ok-push.ensures.items);
      keeps = (subst (λ xs. Each KeepsTerm (map term_tree xs)) left c.loop-term.invariant.keeps).1;
      room = omega (arith, c.in_ok-value.ensures.grows);
    }

pub returns-clause-gives : goal.returns-clause-gives
returns-clause-gives c =
    each-map check_argument term_tree c.args.self.now c.args.terms.now
    ∙ each-all (λ w x. check_argument w (term_tree x)) c.args.self.now c.args.terms.now c.loop-term.term-index _
    c.loop-term-test.false c.loop-term.invariant.gave

pub argument-requires : goal.argument-requires
argument-requires c =
    let left = items-left c.args.terms.now c.loop-term.term-index c.term-item.result c.loop-term-test.true
    c.term-item.is in
    let rest = ap (λ xs. most_of (in_each in_term (map term_tree xs))) left in
    record {
      keeps = (subst (λ xs. Each KeepsTerm (map term_tree xs)) left c.loop-term.invariant.keeps).0;
      room = omega arith;
    }
