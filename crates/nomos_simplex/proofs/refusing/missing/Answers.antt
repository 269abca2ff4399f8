use Rattle.std.proofs.Common.{◌≡◌, ℤ, ◌-ℤ◌, ◌*ℤ◌, unsigned_abs, arith, ap, ◌∙◌}
use Rattle.std.proofs.lemmas.Int.{ints}
use Rattle.nomos_forms.proofs.ProductLemmas.{wide_back}
use Rattle.nomos_simplex.specs.Tables.{bound_of, sum_at}
use Rattle.nomos_simplex.proofs.LineLemmas.{over_by_bounds}
use Rattle.nomos_simplex.proofs.refusing.missing.Goals as goal

pub returns : goal.returns
returns c =
    let rows = c.args.rows.now in
    let nonbasic = c.args.nonbasic.now in
    let line = c.args.line.now in
    let bounds = c.deref.ensures.value ∙ c.in_ok-bounds.ensures.value in
    let over = wide_back c.over_of.result (omega (arith, c.over_of.ensures.size)) ∙ c.over_of.ensures.value
    ∙ over_by_bounds rows nonbasic c.deref.result.now line bounds in
    c.unsigned_abs.ensures.value ∙ ap unsigned_abs over
    ∙ other_way (sum_at (bound_of rows) nonbasic line.coefs) (line.times *ℤ bound_of rows line.basic)
  where
    other_way : (a b : ℤ) → unsigned_abs (a -ℤ b) ≡ unsigned_abs (b -ℤ a)
    other_way a b = omega (arith, ints)
