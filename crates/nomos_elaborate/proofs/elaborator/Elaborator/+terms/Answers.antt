use Rattle.std.proofs.Common.{map, sym, ap, ◌∙◌, subst, arith, rules}
use Rattle.std.proofs.lemmas.Result.{err_from_is_err_and}
use Rattle.nomos_elaborate.specs.mirror.Checked.{found}
use Rattle.nomos_elaborate.specs.mirror.Each.{each}
use Rattle.nomos_elaborate.specs.mirror.TermCheck.{check_term}
use Rattle.nomos_surface.specs.TermView.{term_tree, term_trees}
use Rattle.nomos_elaborate.proofs.Loops.{items-left, each-more, each-stops, each-all}
use Rattle.nomos_elaborate.proofs.TermLoops.{terms_are_each}
use Rattle.nomos_elaborate.specs.mirror.Entries.{most_of}
use Rattle.nomos_surface.specs.TreeBounds.{KeepsTerms}
use Rattle.nomos_surface.specs.Counts.{in_terms}
use Rattle.nomos_surface.specs.declared.terms.SurfaceTerm.{the_lemmas}
use Rattle.nomos_elaborate.proofs.elaborator.Elaborator.+terms.Goals as goal

pub terms-loop-term-init : goal.terms-loop-term-init
unfolding each
terms-loop-term-init t c = record {
  gave = ap (λ ids. found (c.args.self.now, ids)) (sym c.new-ids.ensures.items);
  keeps = c.requires.keeps;
  room = omega arith;
}

pub terms-returns-in_err-id-clause-gives : goal.terms-returns-in_err-id-clause-gives
terms-returns-in_err-id-clause-gives t c =
    let p = err_from_is_err_and c.from_residual.result c.from_residual.ensures.1 in
    rw (p.1, p.2) (each-stops (λ w x. check_term w (term_tree x)) c.args.self.now c.args.terms.now
    c.loop-term.term-index c.loop-term.self c.loop-term.ids.items c.term-item.result c.loop-term-test.true
    c.term-item.is c.loop-term.invariant.gave c.in_err-id.field-0.0 _
    (terms_are_each term_tree c.args.self.now c.args.terms.now) c.in_err-id.ensures.gives)

pub terms-loop-term-preserved : goal.terms-loop-term-preserved
unfolding in_terms
terms-loop-term-preserved t c =
    let left = items-left c.args.terms.now c.loop-term.term-index c.term-item.result c.loop-term-test.true
    c.term-item.is in
    let rest = ap (λ xs. most_of (in_terms (term_trees (map term_tree xs)))) left in
    record {
      gave =
          each-more (λ w x. check_term w (term_tree x)) c.args.self.now c.args.terms.now c.loop-term.term-index
          c.loop-term.self c.loop-term.ids.items c.term-item.result c.loop-term-test.true c.term-item.is
          c.loop-term.invariant.gave c.term.new.self c.in_ok-id.id c.in_ok-id.ensures.gives
          ∙ ap (λ ids. found (c.term.new.self, ids)) (sym c.in_ok-push.ensures.items);
      keeps = (subst (λ xs. KeepsTerms (term_trees (map term_tree xs))) left c.loop-term.invariant.keeps).1;
      room = omega (arith, c.in_ok-id.ensures.grows);
    }

pub terms-returns-clause-gives : goal.terms-returns-clause-gives
terms-returns-clause-gives t c =
    terms_are_each term_tree c.args.self.now c.args.terms.now
    ∙ each-all (λ w x. check_term w (term_tree x)) c.args.self.now c.args.terms.now c.loop-term.term-index _
    c.loop-term-test.false c.loop-term.invariant.gave

pub terms-term-requires : goal.terms-term-requires
unfolding in_terms
terms-term-requires t c =
    let left = items-left c.args.terms.now c.loop-term.term-index c.term-item.result c.loop-term-test.true
    c.term-item.is in
    let rest = ap (λ xs. most_of (in_terms (term_trees (map term_tree xs)))) left in (
      search (rules, the_lemmas),
      (
        (subst (λ xs. KeepsTerms (term_trees (map term_tree xs))) left
            c.loop-term.invariant.keeps).0,
        omega arith,
      ),
    )
