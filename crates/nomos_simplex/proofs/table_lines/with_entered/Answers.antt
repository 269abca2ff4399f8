use Rattle.std.proofs.Common.{◌≡◌, ◌<◌, ◌++◌, pos, ◌*ℤ◌, length, take, drop, get_or, set, All, to_z, of_z, ap, sym, subst, ◌∙◌, arith}
use Rattle.std.specs.Int.{w128}
use Rattle.std.proofs.lemmas.List.{get_or_default}
use Rattle.std.proofs.lemmas.List.Elements.{All-set}
use Rattle.std.proofs.Math.Seq.{take-append_seam}
use Rattle.nomos_forms.proofs.ProductLemmas.{wide_back}
use Rattle.nomos_simplex.specs.Exchange.{coef_at, eliminated}
use Rattle.nomos_simplex.specs.Sizes.{IsNumber}
use Rattle.nomos_simplex.proofs.LineLemmas.{length-eliminated}
use Rattle.nomos_simplex.proofs.NumberLemmas.{number_back}
use Rattle.nomos_simplex.proofs.table_lines.with_entered.Goals as goal

pub returns-clause-made : goal.returns-clause-made
returns-clause-made c =
    let j = c.args.column in
    let left = c.args.left.now in
    let line = c.args.line in
    let e = c.index-g.result.now in
    let within : j < length line.coefs = omega (arith, c.requires.line.width, c.requires.column) in
    let by_is = c.as_slice-by.ensures in
    let p = ap (λ xs. to_z w128 (of_z w128 (get_or xs j (pos 0)))) by_is
    ∙ number_back (coef_at j left) (c.requires.left.coefs j (pos 0) c.requires.column) in
    let at = c.index-g.ensures ∙ ap (λ xs. get_or xs j e) c.into_vec-coefs.ensures
    ∙ get_or_default line.coefs j e (pos 0) within in
    let g : to_z w128 (of_z w128 e) ≡ coef_at j line = (λ q. to_z w128 (of_z w128 (at q)))
    ∙ number_back (coef_at j line) (c.requires.line.coefs j (pos 0) within) in
    let first = wide_back c.product-entering.result (omega (arith, c.product-entering.ensures.size))
    ∙ c.product-entering.ensures.value ∙ (λ q. g q *ℤ number_back left.times c.requires.left.times q) in
    let times = wide_back c.product-times.result (omega (arith, c.product-times.ensures.size))
    ∙ c.product-times.ensures.value ∙ (λ q. p q *ℤ number_back line.times c.requires.line.times q) in
    let old : c.deref_mut.result.now ≡ line.coefs = c.deref_mut.ensures.value ∙ c.into_vec-coefs.ensures in
    let all = eliminated (coef_at j left) (coef_at j line) line.coefs left.coefs in
    let made : c.eliminate-all.new.of ≡ all = c.eliminate-all.ensures.value
    ∙ (λ q. eliminated (p q) (g q) (old q) (by_is q)) in
    let count = sym c.deref_mut.ensures.len ∙ ap length old
    ∙ sym (length-eliminated (coef_at j left) (coef_at j line) line.coefs left.coefs c.requires.line.width)
    ∙ ap length (sym made) in
    let rest = drop (length c.eliminate-all.new.of) c.into_vec-coefs.result.items in
    let written = ap (λ n. take n (c.eliminate-all.new.of ++ rest)) count ∙ take-append_seam c.eliminate-all.new.of rest
    ∙ made in
    let coefs = c.of_vec.ensures ∙ (λ q. set (written q) j (first q)) in
    λ q. record { times = times q; basic = line.basic; coefs = coefs q }

pub returns-clause-small : goal.returns-clause-small
returns-clause-small c = λ t.
    let outer = c.still_small-small.ensures.0 t in
    let inner = c.still_small.ensures.0 outer.0 in
    let j = c.args.column in
    let e = to_z w128 (of_z w128 c.product-entering.result) in
    let made = c.eliminate-all.new.of in
    let rest = drop (length made) c.into_vec-coefs.result.items in
    let count = sym c.deref_mut.ensures.len ∙ sym c.eliminate-all.auto.of in
    let written = ap (λ n. take n (made ++ rest)) count ∙ take-append_seam made rest in
    let coefs = All-set IsNumber made j e inner.1 (c.eliminate-all.ensures.small inner.0) in
    record {
      times = outer.1;
      coefs = subst (All IsNumber) (sym (c.of_vec.ensures ∙ ap (λ xs. set xs j e) written)) coefs;
    }
