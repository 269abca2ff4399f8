use Rattle.std.proofs.Common.{rules, ◌≡◌, ◌*ℤ◌, ◌-ℤ◌, pos, length, get_or, FitsSigned, to_z, of_z, ap, sym, subst, ◌∙◌, arith}
use Rattle.std.specs.Int.{w128}
use Rattle.std.specs.Prelude.{IfSome}
use Rattle.std.proofs.lemmas.Int.{to_z-of_z}
use Rattle.std.proofs.lemmas.List.{length-set}
use Rattle.nomos_forms.proofs.ProductLemmas.{wide_back}
use Rattle.nomos_simplex.specs.Exchange.{coef_at, put_into}
use Rattle.nomos_simplex.specs.Sizes.{IsNumber}
use Rattle.nomos_simplex.specs.mirror.Keeping.{over_of, before}
use Rattle.nomos_simplex.proofs.KeepingLemmas.{put_over}
use Rattle.nomos_simplex.proofs.NumberLemmas.{number_back}
use Rattle.nomos_simplex.proofs.exchanging.put_of.Goals as goal

pub returns : goal.returns
returns c = λ rows shows is.
    let entry = c.args.entry.now in
    let line = c.args.line.now in
    let left = entry.left in
    let j = entry.column in
    let vs = before entry in
    let width = c.requires.line.width in
    let low = c.requires.entry.column in
    let z = c.in_ok-left.left in
    let small : IsNumber z = subst (λ o. IfSome o IsNumber) c.in_ok-left.was c.requires.entry.over in
    let own : z ≡ over_of rows vs left = subst (λ o. IfSome o (λ over. over ≡ over_of rows vs left)) c.in_ok-left.was
    shows.over in
    let p = ap (λ xs. to_z w128 (of_z w128 (get_or xs j (pos 0)))) c.as_slice.ensures
    ∙ number_back (coef_at j left) (c.requires.entry.left.coefs j (pos 0) low) in
    let g = ap (λ xs. to_z w128 (of_z w128 (get_or xs j (pos 0)))) c.as_slice-2.ensures
    ∙ number_back (coef_at j line) (c.requires.line.coefs j (pos 0) (omega (arith, width, low))) in
    let times = wide_back c.product.result (omega (arith, c.product.ensures.size)) ∙ c.product.ensures.value
    ∙ (λ q. p q *ℤ number_back line.times c.requires.line.times q) in
    let fits : FitsSigned w128 c.cross.result = search rules in
    let other = number_back z small ∙ own in
    let over = to_z-of_z w128 c.args.over c.ranges.over ∙ is in
    let value = to_z-of_z w128 c.cross.result fits ∙ c.cross.ensures ∙ (λ q. p q *ℤ over q -ℤ g q *ℤ other q) in
    let count : length vs ≡ length left.coefs = length-set entry.nonbasic.items j entry.entering
    ∙ c.requires.entry.width in
    record {
      times = times;
      over = value ∙ sym (put_over rows vs j left line (omega (arith, count, low)) low width)
          ∙ ap (λ ws. over_of rows ws (put_into j left line)) (sym shows.after);
    }
