use Rattle.std.proofs.Common.{◌≡◌, ◌∙◌, ℕ, ◌+◌, ◌-◌, ◌<◌, List, ◌++◌, length, take, ap, append_assoc, arith, sym}
use Rattle.std.specs.Prelude.{slice_index}
use Rattle.nomos_ir.specs.Amounts.{star_count}
use Rattle.nomos_report.proofs.StarLemmas.{lines-next}
use Rattle.nomos_report.specs.Block.{star_line, star_lines}
use Rattle.nomos_report.proofs.block.push_stars.Goals as goal

pub loop-star-preserved : goal.loop-star-preserved
loop-star-preserved c =
    let x = c.args.accepted.now.annotations in
    let done = c.loop-star.star in
    let same : star_count c.program.result.now ≡ star_count c.args.accepted.now.program =
    ap star_count c.program.ensures.program in
    let inside : done < length x.stars =
    omega (arith, same, c.program.ensures.accepted.each_star, c.stars-star-end.ensures, c.loop-star-test.true) in
    let place : done + 1 - 1 ≡ done = omega arith in
    let one : List ℕ = star_line x.unit (done + 1) (slice_index x.stars done) in
    let told : c.push_star.new.text.items ≡ c.loop-star.text.items ++ one = rw place at c.in_ok-push_star.ensures in
    let so_far : List ℕ = star_lines x.unit 1 (take done x.stars) in
    told
    ∙ ap (λ (t : List ℕ). t ++ one) c.loop-star.invariant
    ∙ append_assoc c.args.text.now.items so_far one
    ∙ ap (λ (t : List ℕ). c.args.text.now.items ++ t) (sym (lines-next x.unit x.stars done inside))
