use Rattle.std.proofs.Common.{◌+◌, ◌==◌, [], ◌∷◌, ◌++◌, All, sym, subst, ◌∙◌, arith}
use Rattle.std.specs.Prelude.{find}
use Rattle.std.proofs.lemmas.List.Elements.{All-push}
use Rattle.std.proofs.lemmas.List.FromFn.{map-range_with_len_more}
use Rattle.nomos_simplex.specs.Exits.{fraction_of, fraction_in, IsFraction}
use Rattle.nomos_simplex.specs.declared.table.TableLine.{TableLine}
use Rattle.nomos_simplex.proofs.fractions.fractions.Goals as goal

-- one star more
pub loop-before-preserved : goal.loop-before-preserved
loop-before-preserved c =
    let rows = c.args.rows.now in
    let before = c.loop-before.before in
    let next = c.fraction in
    let bounds = c.deref.ensures.value ∙ c.in_ok-bounds.ensures.value in
    let value = next.ensures.value rows c.as_slice.result.now bounds
    ∙ (λ p. fraction_in rows (c.as_slice.ensures p) (find (λ (line : TableLine). line.basic
    == (c.from-star.ensures p + 1)) (c.as_slice-in-loop-before.ensures p))) in
    record {
      value = c.in_ok-push.ensures.items ∙ (λ p. c.loop-before.invariant.value p ++ value p ∷ [])
          ∙ sym (map-range_with_len_more (fraction_of rows c.args.table.now) 1 before (before + 1) (omega arith));
      size = subst (All IsFraction) (sym c.in_ok-push.ensures.items) (All-push IsFraction c.loop-before.list.items
          next.result c.loop-before.invariant.size next.ensures.size);
    }
