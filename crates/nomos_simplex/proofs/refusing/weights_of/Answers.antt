use Rattle.std.proofs.Common.{◌+◌, ◌-◌, pos, get_or, length, int_lt, unsigned_abs, ap, sym, ◌∙◌, arith}
use Rattle.nomos_simplex.specs.Exits.{with_weight}
use Rattle.nomos_simplex.proofs.NumberLemmas.{number_back}
use Rattle.nomos_simplex.proofs.WeightLemmas.{weights_lower, weights_same}
use Rattle.nomos_simplex.proofs.refusing.weights_of.Goals as goal
use Rattle.nomos_simplex.proofs.refusing.weights_of.Goals.{then-coefs-column-lt0+in_ok-add_weight, else-coefs-column-lt0}

-- one column more, from the last on
pub loop-done-preserved : goal.loop-done-preserved
loop-done-preserved c =
    let n = length c.args.coefs.now in
    let column = n - 1 - c.loop-done.done in
    let vs = c.args.nonbasic.now in
    let cs = c.args.coefs.now in
    let coef = get_or cs column (pos 0) in
    let low = c.loop-done-test.true in
    let back = number_back coef (c.requires.coefs column (pos 0) (omega arith)) in
    let width = c.requires.width in
    let done = c.loop-done.done in
    let inv = c.loop-done.invariant in
    elim c.if-coefs-column-lt0.branch [
      | then-coefs-column-lt0+in_ok-add_weight w ↦
          ap (λ v. v.items) w.weights-is ∙ w.in_ok-add_weight.ensures ∙ (λ p. with_weight (
            get_or vs column 0,
            (w.times_of.ensures ∙ ap unsigned_abs back) p,
          ) c.loop-done.weights.items)
          ∙ weights_lower vs cs column (n - (done + 1)) (n - done) c.loop-done.weights.items (omega arith)
          (omega arith) (omega arith) (omega arith) inv (ap (λ z. int_lt z (pos 0)) (sym back)
          ∙ w.if-coefs-column-lt0.true)
      | else-coefs-column-lt0 w ↦
          ap (λ v. v.items) w.weights-is
          ∙ weights_same vs cs column (n - (done + 1)) (n - done) c.loop-done.weights.items (omega arith)
          (omega arith) (omega arith) (omega arith) inv (ap (λ z. int_lt z (pos 0)) (sym back)
          ∙ w.if-coefs-column-lt0.false)
    ]
