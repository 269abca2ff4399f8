use Rattle.std.proofs.Common.{rules, ◌≡◌, pos, ◌++◌, ◌<◌, ◌*ℤ◌, ◌-ℤ◌, take, drop, length, get_or, set, All, FitsSigned, to_z, of_z, ap, sym, subst, ◌∙◌, arith}
use Rattle.std.specs.Int.{w128}
use Rattle.std.proofs.lemmas.Int.{to_z-of_z}
use Rattle.std.proofs.lemmas.List.Elements.{All-set}
use Rattle.nomos_simplex.specs.Exchange.{eliminated}
use Rattle.nomos_simplex.specs.Sizes.{IsNumber}
use Rattle.nomos_simplex.proofs.LineLemmas.{made_at, made_more, made_all}
use Rattle.nomos_simplex.proofs.NumberLemmas.{number_back}
use Rattle.nomos_simplex.proofs.table_lines.eliminate.Goals as goal

-- one column more
pub loop-i-preserved : goal.loop-i-preserved
loop-i-preserved c =
    let i = c.loop-i.i in
    let of = c.args.of.now in
    let by = c.args.by.now in
    let p = to_z w128 (of_z w128 c.args.p) in
    let g = to_z w128 (of_z w128 c.args.g) in
    let in_of : i < length of = c.loop-i-test.true in
    let width = c.requires.width in
    let at : get_or c.loop-i.of i (pos 0) ≡ get_or of i (pos 0) =
    ap (λ xs. get_or xs i (pos 0)) c.loop-i.invariant.value ∙ made_at p g of by i (pos 0) in_of width in
    let back_of : to_z w128 (of_z w128 (get_or c.loop-i.of i (pos 0))) ≡ get_or of i (pos 0) =
    (λ q. to_z w128 (of_z w128 (at q))) ∙ number_back (get_or of i (pos 0)) (c.requires.of i (pos 0) in_of) in
    let back_by = number_back (get_or by i (pos 0)) (c.requires.by i (pos 0) (omega (arith, width))) in
    let fits : FitsSigned w128 c.cross-number.result = search rules in
    let x = to_z w128 (of_z w128 c.cross-number.result) in
    let value = to_z-of_z w128 c.cross-number.result fits ∙ c.cross-number.ensures
    ∙ (λ q. p *ℤ back_of q -ℤ g *ℤ back_by q) in
    record {
      value = (λ q. set (c.loop-i.invariant.value q) i (value q)) ∙ made_more p g of by i in_of width;
      small = λ t. let both = c.still_small-small.ensures.0 t in
          All-set IsNumber c.loop-i.of i x both.1 (c.loop-i.invariant.small both.0);
    }

pub returns-clause-value : goal.returns-clause-value
returns-clause-value c =
    let p = number_back c.args.p c.requires.p in
    let g = number_back c.args.g c.requires.g in
    let of = c.args.of.now in
    let by = c.args.by.now in
    let i = c.loop-i.i in
    c.loop-i.invariant.value ∙ (λ q. eliminated (p q) (g q) (take i of) (take i by) ++ drop i of)
    ∙ made_all c.args.p c.args.g of by i c.loop-i-test.false c.requires.width
