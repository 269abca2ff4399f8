use Rattle.std.proofs.Common.{rules, ◌≡◌, pos, ◌+◌, ◌<◌, ◌≤◌, ◌*ℤ◌, ◌-ℤ◌, length, get_or, set, All, FitsSigned, to_z, of_z, refl, ap, sym, subst, ◌∙◌, arith}
use Rattle.std.specs.Int.{w128}
use Rattle.std.proofs.lemmas.Int.{to_z-of_z}
use Rattle.std.proofs.lemmas.List.Elements.{All-set}
use Rattle.nomos_simplex.specs.Sizes.{IsNumber}
use Rattle.nomos_simplex.proofs.LineLemmas.{made_at, made_more, made_skipped}
use Rattle.nomos_simplex.proofs.NumberLemmas.{number_back}
use Rattle.nomos_simplex.proofs.table_lines.subtract.Goals as goal

pub loop-i-init : goal.loop-i-init
loop-i-init c =
    let g = to_z w128 (of_z w128 c.args.g) in
    let of = c.args.of.now in
    let by = c.args.by.now in
    let next = c.args.next.now in
    let width = c.requires.width in
    let within : get_or next 0 0 ≤ length of = omega (arith, width, c.requires.next.within 0 (omega arith)) in
    record {
      value = made_skipped (pos 1) g of by 0 (get_or next 0 0) (omega arith) within width refl
          (λ j from below. c.requires.next.zeros 0 j (omega arith) from below);
      within = within;
      small = λ t. c.requires.of;
    }

pub cross-number-requires-clause-a : goal.cross-number-requires-clause-a
cross-number-requires-clause-a c =
    let i = c.loop-i.i in
    let of = c.args.of.now in
    let by = c.args.by.now in
    let g = to_z w128 (of_z w128 c.args.g) in
    let in_of : i < length of = omega arith in
    let at : get_or c.loop-i.of i (pos 0) ≡ get_or of i (pos 0) =
    ap (λ xs. get_or xs i (pos 0)) c.loop-i.invariant.value ∙ made_at (pos 1) g of by i (pos 0) in_of
    c.requires.width in
    let back : to_z w128 (of_z w128 (get_or c.loop-i.of i (pos 0))) ≡ get_or of i (pos 0) =
    (λ q. to_z w128 (of_z w128 (at q))) ∙ number_back (get_or of i (pos 0)) (c.requires.of i (pos 0) in_of) in
    subst IsNumber (sym back) (c.requires.of i (pos 0) in_of)

-- one column more, and those behind it in which nothing changes
pub loop-i-preserved : goal.loop-i-preserved
loop-i-preserved c =
    let i = c.loop-i.i in
    let of = c.args.of.now in
    let by = c.args.by.now in
    let g = to_z w128 (of_z w128 c.args.g) in
    let next = c.args.next.now in
    let width = c.requires.width in
    let in_of : i < length of = omega arith in
    let inside : i + 1 ≤ length by = omega (arith, in_of, width) in
    let n = get_or next (i + 1) 0 in
    let at : get_or c.loop-i.of i (pos 0) ≡ get_or of i (pos 0) =
    ap (λ xs. get_or xs i (pos 0)) c.loop-i.invariant.value ∙ made_at (pos 1) g of by i (pos 0) in_of width in
    let back_of : to_z w128 (of_z w128 (get_or c.loop-i.of i (pos 0))) ≡ get_or of i (pos 0) =
    (λ q. to_z w128 (of_z w128 (at q))) ∙ number_back (get_or of i (pos 0)) (c.requires.of i (pos 0) in_of) in
    let back_by = number_back (get_or by i (pos 0)) (c.requires.by i (pos 0) (omega (arith, width, in_of))) in
    let fits : FitsSigned w128 c.cross-number.result = search rules in
    let x = to_z w128 (of_z w128 c.cross-number.result) in
    let value = to_z-of_z w128 c.cross-number.result fits ∙ c.cross-number.ensures
    ∙ (λ q. pos 1 *ℤ back_of q -ℤ g *ℤ back_by q) in
    let within : n ≤ length of = omega (arith, width, c.requires.next.within (i + 1) inside) in
    record {
      value = (λ q. set (c.loop-i.invariant.value q) i (value q)) ∙ made_more (pos 1) g of by i in_of width
          ∙ made_skipped (pos 1) g of by (i + 1) n (c.requires.next.ahead (i + 1) inside) within width refl
          (λ j from below. c.requires.next.zeros (i + 1) j inside from below);
      within = within;
      small = λ t. let both = c.still_small-small.ensures.0 t in
          All-set IsNumber c.loop-i.of i x both.1 (c.loop-i.invariant.small both.0);
    }
