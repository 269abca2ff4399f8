use Rattle.std.proofs.Common.{sym, ◌∙◌, arith, ◌<ℤ◌}
use Rattle.std.specs.Cmp.Lexicographic.{pointwise_decides}
use Rattle.std.proofs.lemmas.Bool.Decides.{Decides-int_eq}
use Rattle.std.proofs.lemmas.Int.{ints}
use Rattle.nomos_simplex.proofs.classes.is_alike.Goals as goal

pub returns-then-bound : goal.returns-then-bound
returns-then-bound c =
    let same = pointwise_decides Decides-int_eq c.coefs_of.result.now c.coefs_of-then-bound.result.now in (
      (λ t. record {
        row = c.requires.row;
        coefs = sym c.coefs_of.ensures ∙ same.0 (sym c.eq.ensures ∙ t) ∙ c.coefs_of-then-bound.ensures;
        more = omega (arith, ints, c.bound.ensures.value, c.bound-2.ensures.value, c.if-bound.true);
      }),
      (λ h. c.eq.ensures ∙ same.1 (c.coefs_of.ensures ∙ h.coefs ∙ sym c.coefs_of-then-bound.ensures)),
    )
