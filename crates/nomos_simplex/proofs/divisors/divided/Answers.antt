use Rattle.std.proofs.Common.{rules, ◌≡◌, ◌++◌, take, drop, length, map, ap, sym, FitsSigned, to_z, of_z, int_div, ◌∙◌}
use Rattle.std.specs.Int.{w128}
use Rattle.std.proofs.lemmas.Int.{to_z-of_z}
use Rattle.std.proofs.lemmas.List.{length-map}
use Rattle.std.proofs.Math.Seq.{take-append_seam}
use Rattle.nomos_simplex.proofs.divisors.divided.Goals as goal

pub returns : goal.returns
returns c =
    let line = c.args.line in
    let fits_q : FitsSigned w128 c.quotient.result = search rules in
    let fits_t : FitsSigned w128 line.times = search rules in
    let by = to_z-of_z w128 c.args.by c.ranges.by in
    let times : to_z w128 (of_z w128 c.quotient.result) ≡ int_div line.times c.args.by =
    to_z-of_z w128 c.quotient.result fits_q ∙ c.quotient.ensures
    ∙ (λ p. int_div (to_z-of_z w128 line.times fits_t p) (by p)) in
    let old : c.deref_mut.result.now ≡ line.coefs = c.deref_mut.ensures.value ∙ c.into_vec-coefs.ensures in
    let numbers : c.divide_all.new.numbers ≡ map (λ z. int_div z c.args.by) line.coefs =
    c.divide_all.ensures ∙ (λ p. map (λ z. int_div z (by p)) (old p)) in
    let count = sym c.deref_mut.ensures.len ∙ ap length old ∙ sym (length-map line.coefs (λ z. int_div z c.args.by))
    ∙ ap length (sym numbers) in
    let rest = drop (length c.divide_all.new.numbers) c.into_vec-coefs.result.items in
    let coefs : c.of_vec.result ≡ map (λ z. int_div z c.args.by) line.coefs =
    c.of_vec.ensures ∙ ap (λ n. take n (c.divide_all.new.numbers ++ rest)) count
    ∙ take-append_seam c.divide_all.new.numbers rest ∙ numbers in
    λ p. record { times = times p; basic = line.basic; coefs = coefs p }
