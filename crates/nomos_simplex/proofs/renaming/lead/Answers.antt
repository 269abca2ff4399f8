use Rattle.std.proofs.Common.{◌≡◌, ◌+◌, ◌-◌, ◌/◌, sym, subst, ◌∙◌, arith, true, ◌⊎◌}
use Rattle.std.specs.Int.{w128}
use Rattle.std.proofs.lemmas.Int.{to_z-of_z}
use Rattle.nomos_simplex.specs.LowestVariable.{is_below}
use Rattle.nomos_simplex.specs.mirror.Classes.{named}
use Rattle.nomos_simplex.proofs.BelowLemmas.{not_below_before}
use Rattle.nomos_simplex.proofs.renaming.lead.Goals as goal

-- the middle variable is not below its bound, and so none before it is
pub loop-first-preserved : goal.loop-first-preserved
loop-first-preserved c =
    let so_far = c.loop-first.invariant in
    let rows = c.args.rows.now in
    let middle = c.loop-first.first + (c.loop-first.last - c.loop-first.first) / 2 in
    record {
      from = omega (arith, so_far.from);
      ordered = omega (arith, c.loop-first-test.true);
      to = so_far.to;
      before = λ nonbasic e v low less.
          not_below_before rows nonbasic c.args.class c.args.line.now v middle c.requires.class c.requires.positive low
          (omega (arith, less)) (omega (arith, so_far.to, c.loop-first-test.true))
          (sym (c.is_below.ensures nonbasic e) ∙ c.if-is_below.false);
      or_last = so_far.or_last;
    }

pub returns-clause-lead : goal.returns-clause-lead
returns-clause-lead c = λ nonbasic e.
    let so_far = c.loop-first.invariant in
    let over = to_z-of_z w128 c.args.over c.ranges.over ∙ e in
    let same : c.loop-first.last ≡ c.loop-first.first = omega (arith, so_far.ordered, c.loop-first-test.false) in
    record {
      before = so_far.before nonbasic over;
      or_last = subst (λ n. (is_below c.args.rows.now nonbasic (named n c.args.line.now) ≡ true) ⊎ (n ≡
          c.args.class.last)) same (so_far.or_last nonbasic over);
    }
